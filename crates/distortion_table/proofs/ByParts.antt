-- A turn by its parts, whatever its cells hold: what is left to be done when its border units are comes to the plan's turn. Assumes
-- nothing.
use mathlib.Core.Path.{◌≡◌, refl, sym, ap, ◌∙◌, subst}
use Rattle.std.specs.declared.result.Result.TheVariants.{Ok, Err}
use mathlib.Core.Bool.{Bool, true, false, cond}
use mathlib.Core.List.{List}
use Prim.Native.Nat.{ℕ, ◌+◌, ◌-◌, ◌*◌, ◌≤◌, min}
use native.Mathlib.Nat.{min-le_right}
use native.Mathlib.Omega.{arith}
use borrow.Author.Tests.{ltb-true, ltb-false}
use lib.Dec.{ltb}
use lib.ListN.{length}
use Rattle.lens.specs.Judgement.{decided}
use Rattle.lens.specs.Refusal.{number}
use Rattle.lens.specs.Judgement.{Judgement}
use Rattle.region.proofs.Size.{bounded}
use Rattle.border.specs.Border.{samples, all_units}
use Rattle.turns.specs.Turns.{Said, finished, refused, running, Turn, turn, met}
use Rattle.plans.specs.Loops.{Lent, reached, after_run}
use Rattle.plans.specs.Plan.{Plan, State, with_done, swept, next}
use Rattle.plans.specs.declared.Progress.{Progress}
use Rattle.plans.proofs.Phases.{never_finished, border_refused, border_on, border_within, border_spent, at_border_spent, filled_most, cells_end}
use Rattle.table_plans.specs.Tables.{Kind}
use Rattle.sweep.specs.Sweep.{run}
use Rattle.sweep.proofs.Runs.{run_is}
use Rattle.job.specs.Job.{sweep_for, admitted}
use Rattle.job.specs.declared.Job.{Job}
use Rattle.distortion_table.specs.Answer.{Answer, plan_of, state_of, answer, turn_of}
use Rattle.distortion_table.specs.Parts.{ToDo, over, cells, after_border, by_border, to_do, InPlace}
use Rattle.distortion_table.proofs.Taking.{Taking, taking}

module _ {X : Type 0} (kind : Kind X) (job : Job) (table : List X) (allowance : ℕ) where
  abbrev p : Plan X
  p = plan_of kind job

  abbrev here : State X
  here = state_of job table

  abbrev ends_as : Progress → List X → Said → Answer X
  ends_as at after said = answer job record { state = record { at = at; cells = after }; said = said }

  abbrev whole : Answer X
  whole = turn_of kind job table allowance

  -- cells are left: they are in their places, no more are filled than there are, and the turn ends behind them
  pub record Ahead (at : Progress) (all first count : ℕ) : Type 0 where
    pub in_place : InPlace job.width first count (length table)
    pub within :
        (done : ℕ) (said : Said) (after : List X) → Lent (p.cell at.region) job.width first count table done said after → at.done + done ≤ all
    pub ends :
        (done : ℕ) (said : Said) (after : List X) → Lent (p.cell at.region) job.width first count table done said after
        → ends_as (with_done at (at.done + done)) after (after_run said (reached (at.done + done) all)) ≡ whole

  abbrev Comes : ToDo → Type 0
  Comes (over said at) = ends_as at table said ≡ whole
  Comes (cells at all first count) = Ahead at all first count

  by_judging : (j : Judgement) → admitted job (length table) ≡ j → answer job (decided j (λ r. record { state = here; said = refused (number r) }) (turn (next p) allowance here)) ≡ whole
  by_judging j e = sym (ap (λ (j : Judgement). answer job (decided j (λ r. record { state = here; said = refused (number r) }) (turn (next p) allowance here))) e)

  -- the record is admitted: by what the sweep of the border met
  module _ (taken : admitted job (length table) ≡ Ok tt) where
    k : Taking job (length table)
    k = taking job (length table) taken

    abbrev border : ℕ
    border = samples job.width job.height

    abbrev count : ℕ
    count = min allowance (border - job.at.done)

    abbrev t : Turn Progress
    t = run job.camera job.width job.height job.strict allowance job.at

    abbrev there : State X
    there = record { at = t.state; cells = table }

    swept_so : t ≡ met (turn (swept (sweep_for job)) count job.at)
    swept_so = run_is job.camera job.width job.height job.strict allowance job.at k.taken_size k.few k.few_unsettled

    module _ (on : t.said ≡ running) where
      left_is : turn (next p) allowance here ≡ turn (next p) (allowance - count) there
      left_is = border_on p job.at table allowance count refl t.state t.said swept_so on

      at_cells : border ≤ t.state.done → Ahead t.state (all_units job.width job.height) (t.state.done - border) (min (allowance - count) (all_units job.width job.height - t.state.done))
      at_cells h = record { in_place = in_place; within = λ done said after l. omega (arith, h, most, filled_most p t.state table (allowance - count) first cells_due starts counted fits k.long done said after l, m); ends = λ done said after l. ap (answer job) (cells_end p t.state table (allowance - count) first cells_due starts counted fits k.long done said after l ∙ sym left_is) ∙ by_judging (Ok tt) taken }
        where
          first : ℕ
          first = t.state.done - border

          cells_due : ℕ
          cells_due = min (allowance - count) (all_units job.width job.height - t.state.done)

          most : t.state.done ≤ all_units job.width job.height
          most = border_within p job.at table allowance count refl t.state t.said swept_so k.not_past on

          m : cells_due ≤ all_units job.width job.height - t.state.done
          m = min-le_right (allowance - count) (all_units job.width job.height - t.state.done)

          starts : t.state.done ≡ border + first
          starts = omega (arith, h)

          fits : first ≤ job.width * job.height
          fits = omega (arith, h, most)

          counted : cells_due ≡ min (allowance - count) (job.width * job.height - first)
          counted = let e : all_units job.width job.height - t.state.done ≡ job.width * job.height - first = omega (arith, h, most) in ap (min (allowance - count)) e

          in_place : InPlace job.width first cells_due (length table)
          in_place = (omega (arith, k.size.wide), omega (arith, h, most, m, bounded job.width job.height k.size), omega (arith, h, most, m, k.long))

      by_place : (b : Bool) → ltb t.state.done border ≡ b
          → Comes (cond b (over running t.state) (cells t.state (all_units job.width job.height) (t.state.done - border) (min (allowance - count) (all_units job.width job.height - t.state.done))))
      by_place true e =
          let h = ltb-true t.state.done border e in
          ap (answer job)
          (sym (left_is ∙ ap (λ (n : ℕ). turn (next p) n there) (border_spent p job.at table allowance count refl t.state t.said swept_so on h) ∙ at_border_spent p there h))
          ∙ by_judging (Ok tt) taken
      by_place false e = at_cells (ltb-false t.state.done border e)

    by_said : (said : Said) → t.said ≡ said → Comes (after_border job.width job.height (allowance - count) said t.state)
    by_said (refused n) e = ap (answer job) (sym (border_refused p job.at table allowance count refl t.state t.said swept_so n e)) ∙ by_judging (Ok tt) taken
    by_said running e = by_place e (ltb t.state.done border) refl
    by_said finished e =
        absurd (never_finished (turn (swept (sweep_for job)) count job.at).said (sym (ap (λ (x : Turn Progress). x.said) swept_so) ∙ e))

  comes : Comes (to_do job (length table) allowance)
  comes = go (admitted job (length table)) refl
    where
      go : (j : Judgement) → admitted job (length table) ≡ j
          → Comes (decided j (λ r. over (refused (number r)) job.at) (by_border job allowance))
      go (Err r) e = by_judging (Err r) e
      go (Ok _) e = by_said e _ refl

  -- of what is said to be left
  pub came : {d : ToDo} → to_do job (length table) allowance ≡ d → Comes d
  came e = subst Comes e comes
