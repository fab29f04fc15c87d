-- Neither kind of cell holds a pixel that isn't finite, so that what holds one needs no test of it (`holds`); and an f32 less itself says whether it is finite. Assumes nothing.
use mathlib.Core.Path.{◌≡◌, refl, sym, ap, ◌∙◌}
use Rattle.std.specs.declared.result.Result.TheVariants.{Ok, Err}
use Rattle.std.specs.declared.option.Option.{Option}
use Rattle.std.specs.declared.option.Option.TheVariants.{Some, None}
use mathlib.Core.Bool.{Bool, true, false, not, cond, ◌&&◌, false≢true}
use Prim.Native.Nat.{ℕ, ◌-◌, ◌*◌, ◌<◌}
use native.Mathlib.Nat.{mul-pos, sub_self, le_refl}
use borrow.Author.Tests.{le-ltb}
use lib.IntN.{ℤ, pos}
use lib.Ieee.{Float, nan, inf, fin, binary32, up, down, sum, add, sub, neg, eq, of_bits}
use lib.Ieee.Fits.{down_pos}
use lib.Ieee.Scale.{finite}
use Rattle.exact.specs.F64.{mark}
use Rattle.exact.proofs.Zeros.{zero_rounds}
use Rattle.narrow.specs.Narrow.{narrowed}
use Rattle.thirty_seconds.specs.Multiple.{nearest_multiple}
use Rattle.lens.specs.Distorted.{finite_pixel}
use Rattle.lens.specs.declared.Pixel.{Pixel}
use Rattle.lens.specs.declared.Refusal.TheVariants.{AnswerNotFinite}
use Rattle.plans.specs.Plan.{Content}
use Rattle.cell.specs.Cell.{of_pixel}

-- ---- a pixel by what is made of it

module _ {X : Type 0} (kind : Pixel → Content X) (pixel : Pixel) where
  abbrev judged_by : Bool → Content X
  judged_by f = of_pixel kind (cond f (Ok pixel) (Err AnswerNotFinite))

  pub holds : {content : Content X} → content ≡ kind pixel → finite pixel.0 ≡ true → finite pixel.1 ≡ true → content ≡ of_pixel kind (finite_pixel pixel)
  holds e f g =
      let t : true ≡ (finite pixel.0 && finite pixel.1) = rw (f, g) refl in
      e ∙ ap judged_by t

pub of_narrowed : (x : Float) → finite (narrowed x) ≡ true → finite x ≡ true
unfolding narrowed
of_narrowed nan h = h
of_narrowed (inf s) h = h
of_narrowed (fin s m e) h = refl

abbrev is_held : Option ℤ → Bool
is_held (Some n) = true
is_held None = false

held_so : (x : Float) → is_held (nearest_multiple x) ≡ true → finite x ≡ true
unfolding nearest_multiple
held_so nan h = h
held_so (inf s) h = h
held_so (fin s m e) h = refl

pub of_held : (x : Float) {m : Option ℤ} → m ≡ nearest_multiple x → is_held m ≡ true → finite x ≡ true
of_held x e h = held_so x (ap is_held (sym e) ∙ h)

pub and_left : (a b : Bool) → true ≡ (a && b) → a ≡ true
and_left true b h = refl
and_left false b h = absurd (false≢true (sym h))

pub and_right : (a b : Bool) → true ≡ (a && b) → b ≡ true
and_right true b h = sym h
and_right false b h = absurd (false≢true (sym h))

-- ---- an f32 less itself, and two such added

self_sum : (s : Bool) (a c : ℕ) → 0 < c → sum binary32 s a (not s) a c ≡ fin false 0 (pos 0)
unfolding sum
self_sum false a c C = rw (le-ltb a a (le_refl a)) (zero_rounds binary32 false (a - a) c (sub_self a) C)
self_sum true a c C = rw (le-ltb a a (le_refl a)) (zero_rounds binary32 false (a - a) c (sub_self a) C)

self_marks : (x : Float) → sub binary32 x x ≡ mark (finite x)
unfolding mark sub neg add of_bits
self_marks nan = refl
self_marks (inf true) = refl
self_marks (inf false) = refl
self_marks (fin s m e) = self_sum s (m * up e * down e) (down e * down e) (mul-pos (down_pos e) (down_pos e))

marks_equal : (a b : Bool) → let d = add binary32 (mark a) (mark b) in eq d d ≡ (a && b)
unfolding mark add eq of_bits
marks_equal true true = refl
marks_equal true false = refl
marks_equal false b = refl

pub both_marked : (a b : Float) → let d = add binary32 (sub binary32 a a) (sub binary32 b b) in eq d d ≡ (finite a && finite b)
both_marked a b = rw (self_marks a, self_marks b) (marks_equal (finite a) (finite b))
