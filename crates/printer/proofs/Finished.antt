-- The table that a text comes to: what a listing may tell, of no more cells than the most, and short enough to be
-- printed; or a number of two digits at most. Assumes nothing.
use mathlib.Core.Path.{◌≡◌, refl, sym, ap, ◌∙◌, subst}
use mathlib.Core.Bool.{Bool, true, false, cond}
use mathlib.Core.List.{List, ◌++◌}
use Prim.Native.Nat.{ℕ, ◌*◌, ◌≤◌}
use native.Mathlib.Omega.{arith}
use borrow.Author.Tests.{le-ltb}
use lib.Ieee.{Float, binary32, of_bits}
use lib.ListN.{length, take, drop, length-replicate}
use lib.Seq.{length-take-le, take_at}
use Rattle.std.proofs.Common.{Result, Ok, Err}
use Rattle.lens.specs.declared.Refusal.{Refusal}
use Rattle.lens.specs.Refusal.{number}
use Rattle.lens.specs.declared.Refusal.TheVariants.{WrongSize}
use Rattle.region.specs.Fits.{FourFit}
use Rattle.camera.specs.declared.Camera.{Camera}
use Rattle.camera_file.specs.Asked.{parsed}
use Rattle.engine.specs.Engine.{short_for}
use Rattle.engine.proofs.Laws.{points_fit}
use Rattle.listing.specs.Read.{Listed, listed, listed_text, fair}
use Rattle.listing.proofs.Fair.{AllFit, listed_fair}
use Rattle.turns.specs.Turns.{Said, finished, refused, running, Turn}
use Rattle.plans.specs.Plan.{State}
use Rattle.plans.specs.Plan as plan
use Rattle.plans.proofs.Fits.{start_numbers_fit, turn_numbers_fit}
use Rattle.job.specs.Job.{fresh_job, fresh}
use Rattle.job.specs.declared.Job.{Job}
use Rattle.distortion_table.specs.Answer.{Answer, answer, whole_table, enough}
use Rattle.printer.specs.Made.{most_cells, outcome_of, unbuilt, build_whole, build_sized, started, build_asked, build_parsed, build}
use Rattle.printer.specs.Made.{Made, table, no_table, held, made_in, blank_room, made}
use Rattle.printer.specs.Printed.{made_text, printed, most_printed}
use Rattle.printer.proofs.Back.{blank_fit, turn_cells_fit}
use Rattle.printer.proofs.Ended.{the_plan, size, last, built_is, at_end, built_long}
use Rattle.printer.proofs.Fits.{Short, refusal_short, listed_short}
use Rattle.printer.proofs.Numbers.{Told, table_told}
use Rattle.printer.proofs.Ways.{each_way}

-- ---- a build's answer, with its cells

abbrev listed_answer : Answer Float → Listed
listed_answer a = listed a.job.width a.job.height a.job.at.updates a.job.at.region a.cells

abbrev pub answered : Said → Answer Float → Made
answered (refused n) a = no_table n
answered finished a = table (listed_answer a)
answered running a = table (listed_answer a)

-- is what stands in the room, at its start
first_numbers :
    (a : Answer Float) (rest : List Float) →
    length a.cells ≡ 2 * (a.job.width * a.job.height) →
    held (outcome_of finished a.job) (a.cells ++ rest) ≡ table (listed_answer a)
first_numbers a rest h =
    ap (λ (cells : List Float). table (listed a.job.width a.job.height a.job.at.updates a.job.at.region cells))
    (take_at a.cells rest (2 * (a.job.width * a.job.height)) h)

in_front :
    (said : Said) (a : Answer Float) (rest : List Float) →
    length a.cells ≡ 2 * (a.job.width * a.job.height) →
    held (outcome_of said a.job) (a.cells ++ rest) ≡ answered said a
in_front (refused n) a rest h = refl
in_front finished a rest h = first_numbers a rest h
in_front running a rest h = first_numbers a rest h

-- ---- what holds of all that is made

pub record GoodTable (l : Listed) : Type 0 where
  pub fairly : fair l ≡ true
  pub few : l.header.width * l.header.height ≤ most_cells
  pub short : Short (listed_text l)

abbrev pub Good : Made → Type 0
Good (table l) = GoodTable l
Good (no_table n) = n ≤ 19

-- ---- a table that is begun

module _ (camera : Camera) (width height : ℕ) (job : Job) (begin : fresh camera width height false ≡ Ok job)
    (cells-few : width * height ≤ most_cells) where
  abbrev start : List Float
  start = take (2 * (width * height)) blank_room

  abbrev pub built : Answer Float
  built = whole_table camera width height start

  pub start_long : length start ≡ 2 * (width * height)
  start_long =
      length-take-le (2 * (width * height)) blank_room (omega (arith, length-replicate (2 * most_cells) (of_bits binary32 0)))

  abbrev end : Turn (State Float)
  end = last camera width height job begin start start_long

  by_turn : built ≡ answer (fresh_job camera width height false) end
  by_turn = built_is camera width height job begin start start_long

  cells_fit : AllFit end.state.cells
  cells_fit = turn_cells_fit camera width height enough (plan.fresh start) (blank_fit (2 * (width * height)) (2 * most_cells) 0)

  region_fits : FourFit end.state.at.region
  region_fits = (turn_numbers_fit (the_plan camera width height job begin) (points_fit camera (short_for camera)) enough (plan.fresh start) (start_numbers_fit (plan.fresh start) refl refl)).region

  good_last : GoodTable (listed_answer (answer (fresh_job camera width height false) end))
  good_last =
      let at = end.state.at in
      let cells = end.state.cells in
      let told = at_end camera width height job begin start start_long in
      let sides = size camera width height job begin in
      record {
        fairly =
            listed_fair width height at.updates at.region cells sides (omega (arith, told.1))
            region_fits.0 region_fits.1 region_fits.2 region_fits.3 told.0 cells_fit;
        few = cells-few;
        short = listed_short width height at.updates at.region cells sides told.1 (omega (arith, told.0));
      }

  good_table : GoodTable (listed_answer built)
  good_table = subst (λ (a : Answer Float). GoodTable (listed_answer a)) (sym by_turn) good_last

  good_answer : (said : Said) → Told said → Good (answered said built)
  good_answer finished k = good_table
  good_answer running k = good_table
  good_answer (refused n) k = k

  told : Told built.said
  told = subst (λ (a : Answer Float). Told a.said) (sym by_turn) (table_told camera width height enough (plan.fresh start))

  pub whole_made : made_in (build_whole blank_room camera width height) ≡ answered built.said built
  whole_made =
      in_front built.said built (drop (2 * (width * height)) blank_room)
      (built_long camera width height job begin start start_long)

  good_whole : Good (made_in (build_whole blank_room camera width height))
  good_whole = subst Good (sym whole_made) (good_answer built.said told)

  -- what a text comes to that asks for it
  pub asked_made : (input : List ℕ) → parsed input ≡ Ok record { camera = camera; width = width; height = height } → made input ≡ answered built.said built
  unfolding made build build_asked build_sized
  asked_made input asks =
      ap (λ (p : _). made_in (build_parsed blank_room p)) asks
      ∙ ap (λ (b : Result Job Refusal). made_in (started blank_room b (build_sized blank_room camera width height))) begin
      ∙ ap
      (λ (b : Bool). made_in (cond b (unbuilt blank_room (number WrongSize)) (build_whole blank_room camera width height)))
      (le-ltb most_cells (width * height) cells-few)
      ∙ whole_made

-- ---- whatever the input

pub made_good : (input : List ℕ) → Good (made input)
unfolding made
made_good = each_way (λ b. Good (made_in b)) blank_room (λ n h. h) good_whole

short_text : (m : Made) → Good m → Short (made_text m)
short_text (table l) g = g.short
short_text (no_table n) g = refusal_short n g

pub printed_short : (input : List ℕ) → length (printed input) ≤ most_printed
unfolding printed
printed_short input = short_text (made input) (made_good input)
