-- Which numbers are finite when others are. Assumes nothing.
use Rattle.lens.specs.Judgement.{accepted}
use mathlib.Core.Path.{◌≡◌, refl}
use Rattle.std.specs.declared.result.Result.TheVariants.{Err}
use mathlib.Core.Bool.{Bool, true, false, cond, ◌&&◌, ◌||◌, false≢true}
use Prim.Native.Nat.{ℕ, ◌-◌}
use native.Mathlib.Omega.{arith}
use lib.Dec.{eqb}
use lib.Ieee.{Float, nan, inf, fin, lt, neg, add, sub, div}
use lib.Ieee.Scale.{finite}
use Rattle.exact.specs.F64.{◌⊖◌, ◌⊘◌}
use Rattle.lens.specs.Finite.{all_finite}
use Rattle.lens.specs.declared.Point.{Point}
use Rattle.lens.specs.declared.Refusal.TheVariants.{IncrementNotPositive, AnswerNotFinite}
use Rattle.region.specs.Region.{four, increments, flat, wrong}
use Rattle.region.specs.Size.{float}
use Rattle.region.specs.declared.Increments.{Increments}
use Rattle.region.specs.declared.Region.{Region}
use Rattle.border.specs.Edges.{widened, edges_after}

-- ---- of a difference and a quotient

pub minuend : (x y : Float) → finite (x ⊖ y) ≡ true → finite x ≡ true
unfolding sub add neg
minuend nan y h = h
minuend (inf s) nan h = absurd (false≢true h)
minuend (inf true) (inf true) h = absurd (false≢true h)
minuend (inf true) (inf false) h = absurd (false≢true h)
minuend (inf false) (inf true) h = absurd (false≢true h)
minuend (inf false) (inf false) h = absurd (false≢true h)
minuend (inf s) (fin t n d) h = absurd (false≢true h)
minuend (fin s m e) y h = refl

pub subtrahend : (x y : Float) → finite (x ⊖ y) ≡ true → finite y ≡ true
unfolding sub add neg
subtrahend nan y h = absurd (false≢true h)
subtrahend (inf s) nan h = absurd (false≢true h)
subtrahend (inf true) (inf true) h = absurd (false≢true h)
subtrahend (inf true) (inf false) h = absurd (false≢true h)
subtrahend (inf false) (inf true) h = absurd (false≢true h)
subtrahend (inf false) (inf false) h = absurd (false≢true h)
subtrahend (inf s) (fin t n d) h = absurd (false≢true h)
subtrahend (fin s m e) nan h = absurd (false≢true h)
subtrahend (fin s m e) (inf t) h = absurd (false≢true h)
subtrahend (fin s m e) (fin t n d) h = refl

pub dividend : (x y : Float) → finite (x ⊘ y) ≡ true → finite x ≡ true
unfolding div
dividend nan y h = h
dividend (inf s) nan h = absurd (false≢true h)
dividend (inf s) (inf t) h = absurd (false≢true h)
dividend (inf s) (fin t n d) h = absurd (false≢true h)
dividend (fin s m e) y h = refl

-- ---- of both of two, and of four

pub both : (a b : Bool) → (a && b) ≡ true → (a ≡ true) × (b ≡ true)
both true true e = (refl, refl)
both true false e = absurd (false≢true e)
both false b e = absurd (false≢true e)

pub record Four (r : Region) : Type 0 where
  pub left : finite r.left ≡ true
  pub top : finite r.top ≡ true
  pub right : finite r.right ≡ true
  pub bottom : finite r.bottom ≡ true

pub all_four : (r : Region) → Four r → all_finite (four r) ≡ true
unfolding all_finite
all_four r f = rw (f.left, f.top, f.right, f.bottom) refl

pub of_four : (r : Region) → all_finite (four r) ≡ true → Four r
unfolding all_finite
of_four r h =
    let a = both (finite r.left) _ h in
    let b = both (finite r.top) _ a.1 in
    let c = both (finite r.right) _ b.1 in
    record { left = a.0; top = b.0; right = c.0; bottom = (both (finite r.bottom) true c.1).0 }

-- ---- of the edges after a point that is finite

either : (b : Bool) (x y : Float) → finite x ≡ true → finite y ≡ true → finite (cond b x y) ≡ true
either true x y p q = p
either false x y p q = q

widened_finite : (edges : Region) (point : Point) → Four edges → finite point.0 ≡ true → finite point.1 ≡ true → Four (widened edges point)
unfolding widened
widened_finite edges point f p q = record {
  left = either (lt point.0 edges.left) point.0 edges.left p f.left;
  top = either (lt point.1 edges.top) point.1 edges.top q f.top;
  right = either (lt edges.right point.0) point.0 edges.right p f.right;
  bottom = either (lt edges.bottom point.1) point.1 edges.bottom q f.bottom;
}

pub after_finite : (done : ℕ) (edges : Region) (point : Point) → Four edges → finite point.0 ≡ true → finite point.1 ≡ true → Four (edges_after done edges point)
unfolding edges_after
after_finite done edges point f p q = go (eqb done 0)
  where
    go : (b : Bool) → Four (cond b record { left = point.0; top = point.1; right = point.0; bottom = point.1 } (widened edges point))
    go true = record { left = p; top = q; right = p; bottom = q }
    go false = widened_finite edges point f p q

-- ---- of a region, where its increments are

pub region_finite : (region : Region) (width height : ℕ) → finite (increments region width height).0 ≡ true → finite (increments region width height).1 ≡ true → Four region
unfolding increments
region_finite region width height p q =
    let x = dividend (region.right ⊖ region.left) (float (width - 1)) p in
    let y = dividend (region.bottom ⊖ region.top) (float (height - 1)) q in
    record {
      left = subtrahend region.right region.left x;
      top = subtrahend region.bottom region.top y;
      right = minuend region.right region.left x;
      bottom = minuend region.bottom region.top y;
    }

passed : (f p q : Bool) → cond f (Err IncrementNotPositive) (cond (p && q) accepted (Err AnswerNotFinite)) ≡ accepted → (p ≡ true) × (q ≡ true)
passed true p q h = let z : ◌≡◌ {A = ℕ} 0 1 = cc in absurd (omega arith)
passed false true true h = (refl, refl)
passed false true false h = let z : ◌≡◌ {A = ℕ} 0 1 = cc in absurd (omega arith)
passed false false q h = let z : ◌≡◌ {A = ℕ} 0 1 = cc in absurd (omega arith)

pub taken_finite : (by : Increments) → wrong by ≡ accepted → (finite by.0 ≡ true) × (finite by.1 ≡ true)
unfolding wrong
taken_finite by h = passed (flat by.0 || flat by.1) (finite by.0) (finite by.1) h
