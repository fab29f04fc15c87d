-- `job::possible` meets its contract. Assumes nothing.
use mathlib.Core.Path.{◌≡◌, refl, sym, ap, ◌∙◌}
use mathlib.Core.Bool.{Bool, ◌&&◌, ◌||◌}
use Prim.Native.Nat.{ℕ, ◌*◌, min}
use native.Mathlib.Nat.{min-le_right}
use native.Mathlib.Omega.{arith}
use borrow.Author.Tests.{le-leb, lt-leb}
use lib.Dec.{leb, ltb, eqb}
use Rattle.lens.specs.Finite.{all_finite}
use Rattle.lens.specs.Judgement.{verdict}
use Rattle.region.specs.Region.{four, increments, wrong}
use Rattle.region.proofs.Size.{bounded}
use Rattle.camera.specs.Camera.{limit}
use Rattle.camera.specs.declared.Camera.{Camera}
use Rattle.camera.proofs.Laws.{limit_most}
use Rattle.border.specs.Border.{samples, all_units}
use Rattle.plans.specs.Calls.{tallied, possible}
use Rattle.plans.specs.declared.Progress.{Progress}
use Rattle.table_plans.specs.Tables.{sweep_of}
use Rattle.job.proofs.possible.Goals as goal

-- by what the five tests say
judged_so :
    (camera : Camera) (width height : ℕ) (strict : Bool) (at : Progress) {a b c d t : Bool}
    → leb at.done (all_units width height) ≡ a → leb at.updates (limit camera * min at.done (samples width height)) ≡ b → all_finite (four at.edges) ≡ c
    → (ltb at.done (samples width height) || eqb (verdict (wrong (increments at.region width height))) 0) ≡ d
    → tallied strict (min at.done (samples width height)) at.unsettled at.first ≡ t
    → (a && (b && (c && (d && t)))) ≡ possible (sweep_of camera width height strict) at
unfolding possible
judged_so camera width height strict at e f g h i = rw (e, f, g, h, i) refl

-- what is worked out with the samples as they are called is worked out with their number
seen_so : (seen done all : ℕ) (width height : ℕ) → seen ≡ min done all → all ≡ samples width height → seen ≡ min done (samples width height)
seen_so seen done all width height e f = e ∙ ap (min done) f

few_so : {b : Bool} (n l seen : ℕ) (camera : Camera) (m : ℕ) → b ≡ leb n (l * seen) → l ≡ limit camera → seen ≡ m → leb n (limit camera * m) ≡ b
few_so n l seen camera m e f g = sym (rw (← f, ← g) e)

fine_so :
    {b : Bool} (at : Progress) (width height all : ℕ) → b ≡ (ltb at.done all || eqb (verdict (wrong (increments at.region width height))) 0)
    → all ≡ samples width height → (ltb at.done (samples width height) || eqb (verdict (wrong (increments at.region width height))) 0) ≡ b
fine_so at width height all e f = sym (rw (← f) e)

pub overflow_mul-width : goal.overflow_mul-width
overflow_mul-width c = omega (arith, bounded _ _ c.requires)

pub overflow_add-all : goal.overflow_add-all
overflow_add-all c = omega (arith, c.samples-all.ensures, bounded _ _ c.requires)

pub returns-then-all-width : goal.returns-then-all-width
returns-then-all-width c =
    let a = c.args in
    judged_so a.camera a.width a.height a.strict a.at (lt-leb a.at.done (all_units a.width a.height) (omega (arith, c.samples-all.ensures, c.if-all-width.true))) refl refl refl refl

pub few-requires : goal.few-requires
few-requires c =
    let a = c.args in
    let p = c.requires in
    let m = min-le_right a.at.done c.samples-all.result in
    (omega (arith, c.limit.ensures, limit_most a.camera), omega (arith, c.min-samples.ensures, m, c.samples-all.ensures, p.not_wider, p.not_higher))

pub returns-then-not-few : goal.returns-then-not-few
returns-then-not-few c =
    let a = c.args in
    let n = c.samples-all.ensures in
    let e = le-leb a.at.done (all_units a.width a.height) (omega (arith, n, c.if-all-width.false)) in
    let seen = seen_so _ a.at.done _ a.width a.height c.min-samples.ensures n in
    let f = few_so _ _ _ a.camera _ c.few.ensures c.limit.ensures seen ∙ c.if-not-few.true in
    judged_so a.camera a.width a.height a.strict a.at e f refl refl refl

pub returns-then-not-finite_region : goal.returns-then-not-finite_region
returns-then-not-finite_region c =
    let a = c.args in
    let n = c.samples-all.ensures in
    let e = le-leb a.at.done (all_units a.width a.height) (omega (arith, n, c.if-all-width.false)) in
    let seen = seen_so _ a.at.done _ a.width a.height c.min-samples.ensures n in
    let f = few_so _ _ _ a.camera _ c.few.ensures c.limit.ensures seen ∙ c.if-not-few.false in
    judged_so a.camera a.width a.height a.strict a.at e f (sym c.finite_region.ensures ∙ c.if-not-finite_region.true) refl refl

pub returns-then-not-fine : goal.returns-then-not-fine
returns-then-not-fine c =
    let a = c.args in
    let n = c.samples-all.ensures in
    let e = le-leb a.at.done (all_units a.width a.height) (omega (arith, n, c.if-all-width.false)) in
    let seen = seen_so _ a.at.done _ a.width a.height c.min-samples.ensures n in
    let f = few_so _ _ _ a.camera _ c.few.ensures c.limit.ensures seen ∙ c.if-not-few.false in
    let g = sym c.finite_region.ensures ∙ c.if-not-finite_region.false in
    judged_so a.camera a.width a.height a.strict a.at e f g (fine_so a.at a.width a.height _ c.fine.ensures n ∙ c.if-not-fine.true) refl

pub returns : goal.returns
returns c =
    let a = c.args in
    let n = c.samples-all.ensures in
    let e = le-leb a.at.done (all_units a.width a.height) (omega (arith, n, c.if-all-width.false)) in
    let seen = seen_so _ a.at.done _ a.width a.height c.min-samples.ensures n in
    let f = few_so _ _ _ a.camera _ c.few.ensures c.limit.ensures seen ∙ c.if-not-few.false in
    let g = sym c.finite_region.ensures ∙ c.if-not-finite_region.false in
    let h = fine_so a.at a.width a.height _ c.fine.ensures n ∙ c.if-not-fine.false in
    judged_so a.camera a.width a.height a.strict a.at e f g h (sym (rw (← seen) c.tallied.ensures))
