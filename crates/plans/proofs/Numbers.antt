-- Which numbers a turn is refused with: those that its samples, its increments and its cells are refused with. Assumes nothing.
use mathlib.Core.Path.{◌≡◌, refl, sym, subst}
use Rattle.std.specs.declared.result.Result.TheVariants.{Ok, Err}
use mathlib.Core.Bool.{Bool, true, false, cond, not, ◌&&◌}
use mathlib.Core.List.{List}
use Prim.Native.Nat.{ℕ}
use native.Mathlib.Omega.{arith}
use lib.Dec.{ltb}
use Rattle.lens.specs.Judgement.{decided}
use Rattle.lens.specs.Refusal.{number}
use Rattle.lens.specs.Judgement.{Judgement}
use Rattle.lens.specs.declared.Pixel.{Pixel}
use Rattle.lens.specs.declared.Refusal.{Refusal}
use Rattle.lens.specs.Undistorted.{Undistorted}
use Rattle.region.specs.Region.{increments, wrong}
use Rattle.region.specs.declared.Increments.{Increments}
use Rattle.region.specs.declared.Region.{Region}
use Rattle.turns.specs.Turns.{Next, over, refuses, does, Said, finished, refused, running, ended, turn, units}
use Rattle.turns.proofs.Laws as any
use Rattle.border.specs.Edges.{doubled}
use Rattle.plans.specs.Plan.{Content, numbers, none, Plan, State, sampled, with_region, all_units, cells_done, found, too_strict, closed, after_sample, swept, table_alone, put_in, cell_in, cell_unit, next}
use Rattle.plans.specs.declared.Progress.{Progress}

-- it holds of the number that is said, if one is
abbrev pub Told : (ℕ → Type 0) → Said → Type 0
Told P finished = Unit {0}
Told P (refused n) = P n
Told P running = Unit {0}

-- what holds of each number that a unit can be refused with
pub record Refusing {X : Type 0} (p : Plan X) (P : ℕ → Type 0) : Type 0 where
  pub samples : (pixel : Pixel) (r : Refusal) → p.sweep.sample pixel ≡ Err r → P (number r)
  pub strictly : p.sweep.strict ≡ true → P 18
  pub increments : (by : Increments) (r : Refusal) → wrong by ≡ Err r → P (number r)
  pub cells : (region : Region) (u v n : ℕ) → p.cell region u v ≡ none n → P n

module _ {X : Type 0} (p : Plan X) (P : ℕ → Type 0) (so : Refusing p P) where
  abbrev Known : {S : Type 0} → Next S → Type 0
  Known over = Unit {0}
  Known (refuses n) = P n
  Known (does t) = Unit {0}

  judged_known : {S : Type 0} (j : Judgement) (t : S) → ((r : Refusal) → j ≡ Err r → P (number r)) → Known (decided j (λ r. refuses (number r)) (does t))
  judged_known (Ok _) t h = tt
  judged_known (Err r) t h = h r refl

  strict_so : (b c : Bool) → p.sweep.strict ≡ b → (b && c) ≡ true → P 18
  strict_so true c e h = so.strictly e
  strict_so false c e h = let z : ◌≡◌ {A = ℕ} 0 1 = cc in absurd (omega arith)

  sample_known : (at : Progress) (pixel : Pixel) (u : Undistorted) → p.sweep.sample pixel ≡ u → Known (after_sample p.sweep at u)
  sample_known at pixel (Err r) e = so.samples pixel r e
  sample_known at pixel (Ok settled) e = go (too_strict p.sweep settled) refl (ltb (sampled at settled).done p.sweep.samples)
    where
      last : Progress
      last = sampled at settled

      go : (x : Bool) → too_strict p.sweep settled ≡ x → (b : Bool) → Known (cond x (refuses 18) (cond b (does last) (closed p.sweep.width p.sweep.height last)))
      go true f b = strict_so p.sweep.strict (not settled.flag) refl f
      go false f true = tt
      go false f false =
          let by = increments (doubled last.edges) p.sweep.width p.sweep.height in
          judged_known (wrong by) (with_region last (doubled last.edges)) (so.increments by)

  table_alone_known : (l : List X) (n : Next Progress) → Known n → Known (table_alone l n)
  table_alone_known l over k = tt
  table_alone_known l (refuses r) k = k
  table_alone_known l (does at) k = tt

  put_known : (region : Region) (u v : ℕ) (x : Content X) → p.cell region u v ≡ x → (c : ℕ) (s : State X) → Known (put_in x c s)
  put_known region u v (none n) e c s = so.cells region u v n e
  put_known region u v (numbers a b) e c s = tt

  next_known : (s : State X) → Known (next p s)
  unfolding next swept
  next_known s = go (ltb s.at.done p.sweep.samples) (ltb s.at.done (all_units p.sweep))
    where
      go : (b d : Bool) → Known (cond b (table_alone s.cells (after_sample p.sweep s.at (found p.sweep s.at.done))) (cond d (cell_unit p s) over))
      go true d = table_alone_known s.cells (after_sample p.sweep s.at (found p.sweep s.at.done)) (sample_known s.at (p.sweep.pixel_at s.at.done) (found p.sweep s.at.done) refl)
      go false true = put_known s.at.region _ _ (cell_in p s.at.region (cells_done p.sweep s)) refl (cells_done p.sweep s) s
      go false false = tt

  ended_known : (n : Next (State X)) (b : Bool) → Known n → Told P (ended n b)
  ended_known over b k = tt
  ended_known (does t) b k = tt
  ended_known (refuses n) true k = k
  ended_known (refuses n) false k = tt

  -- It holds of the number that a turn is refused with.
  pub turn_says : (a : ℕ) (s : State X) → Told P (turn (next p) a s).said
  turn_says a s =
      let end = (turn (next p) a s).state in
      subst (Told P) (sym (any.says (next p) a s)) (ended_known (next p end) (ltb (units (next p) a s) a) (next_known end))
