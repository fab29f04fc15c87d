-- A point inside the edges: it stays inside as they widen, and widens them no more. Assumes nothing.
use mathlib.Core.Path.{◌≡◌, refl, sym, ◌∙◌, subst}
use mathlib.Core.Bool.{Bool, true, false, cond}
use Prim.Native.Nat.{ℕ, ◌<◌}
use native.Mathlib.Omega.{arith}
use borrow.Author.Tests.{ne_eqb}
use denote.Floats.{passes}
use lib.Dec.{eqb}
use lib.Ieee.{Float, lt}
use lib.Ieee.Bits.{is_true}
use lib.Ieee.Scale.{finite}
use Rattle.exact.specs.Fraction.{exactly}
use Rattle.exact.proofs.Fractions.{lt-≺, ≼_refl, ≺→≼, ≼-≺-trans, ≺-not-≼, exactly_proper}
use Rattle.lens.specs.declared.Point.{Point}
use Rattle.region.specs.declared.Region.{Region}
use Rattle.border.specs.Edges.{lowered, raised, widened, edges_after}
use Rattle.border.proofs.Finite.{Four}

-- ---- less than, of numbers that are finite

not_self : (x : Float) → finite x ≡ true → lt x x ≡ false
not_self x h = go (lt x x) refl
  where
    go : (b : Bool) → lt x x ≡ b → b ≡ false
    go true e = absurd (≺-not-≼ ((lt-≺ x x (passes (finite x) h) (passes (finite x) h)).0 (passes (lt x x) e)) (≼_refl (exactly x)))
    go false e = refl

onward : (x y z : Float) → finite x ≡ true → finite y ≡ true → finite z ≡ true → lt x y ≡ true → lt y z ≡ true → lt x z ≡ true
onward x y z a b c e f =
    let X = passes (finite x) a in
    let Y = passes (finite y) b in
    let Z = passes (finite z) c in
    is_true (lt x z) ((lt-≺ x z X Z).1 (≼-≺-trans (exactly_proper x) (≺→≼ ((lt-≺ x y X Y).0 (passes (lt x y) e))) ((lt-≺ y z Y Z).0 (passes (lt y z) f))))

-- an edge moved to x is no more beyond x, nor one moved to y that was not
module _ (x y edge : Float) (a : finite x ≡ true) (b : finite y ≡ true) (c : finite edge ≡ true) where
  low_self : lt x (lowered edge x) ≡ false
  low_self = go (lt x edge) refl
    where
      go : (t : Bool) → lt x edge ≡ t → lt x (cond t x edge) ≡ false
      go true e = not_self x a
      go false e = e

  high_self : lt (raised edge x) x ≡ false
  high_self = go (lt edge x) refl
    where
      go : (t : Bool) → lt edge x ≡ t → lt (cond t x edge) x ≡ false
      go true e = not_self x a
      go false e = e

  low_still : lt x edge ≡ false → lt x (lowered edge y) ≡ false
  low_still h = go (lt y edge) refl (lt x y) refl
    where
      go : (t : Bool) → lt y edge ≡ t → (u : Bool) → lt x y ≡ u → lt x (cond t y edge) ≡ false
      go true e true f = f ∙ sym (onward x y edge a b c f e) ∙ h
      go true e false f = f
      go false e u f = h

  high_still : lt edge x ≡ false → lt (raised edge y) x ≡ false
  high_still h = go (lt edge y) refl (lt y x) refl
    where
      go : (t : Bool) → lt edge y ≡ t → (u : Bool) → lt y x ≡ u → lt (cond t y edge) x ≡ false
      go true e true f = f ∙ sym (onward edge y x c b a e f) ∙ h
      go true e false f = f
      go false e u f = h

-- ---- points

pub record Inside (e : Region) (a : Point) : Type 0 where
  pub left : lt a.0 e.left ≡ false
  pub top : lt a.1 e.top ≡ false
  pub right : lt e.right a.0 ≡ false
  pub bottom : lt e.bottom a.1 ≡ false

abbrev pub FinitePoint : Point → Type 0
FinitePoint a = (finite a.0 ≡ true) × (finite a.1 ≡ true)

pub inside_same : (e : Region) (a : Point) → Inside e a → widened e a ≡ e
unfolding widened
inside_same e a h = rw (h.left, h.top, h.right, h.bottom) refl

module _ (done : ℕ) (e : Region) (four : Four e) where
  pub after_inside : (a : Point) → FinitePoint a → Inside (edges_after done e a) a
  unfolding edges_after widened
  after_inside a f = go (eqb done 0)
    where
      go : (t : Bool) → Inside (cond t record { left = a.0; top = a.1; right = a.0; bottom = a.1 } (widened e a)) a
      go true = record { left = not_self a.0 f.0; top = not_self a.1 f.1; right = not_self a.0 f.0; bottom = not_self a.1 f.1 }
      go false = record {
        left = low_self a.0 a.0 e.left f.0 f.0 four.left;
        top = low_self a.1 a.1 e.top f.1 f.1 four.top;
        right = high_self a.0 a.0 e.right f.0 f.0 four.right;
        bottom = high_self a.1 a.1 e.bottom f.1 f.1 four.bottom;
      }

  pub after_some : (a : Point) → 0 < done → edges_after done e a ≡ widened e a
  unfolding edges_after
  after_some a h = rw (ne_eqb done 0 (λ z. omega (arith, z, h))) refl

  pub still_inside : (a b : Point) → FinitePoint a → FinitePoint b → 0 < done → Inside e a → Inside (edges_after done e b) a
  unfolding widened
  still_inside a b f g h i =
      subst (λ (r : Region). Inside r a) (sym (after_some b h))
      record {
        left = low_still a.0 b.0 e.left f.0 g.0 four.left i.left;
        top = low_still a.1 b.1 e.top f.1 g.1 four.top i.top;
        right = high_still a.0 b.0 e.right f.0 g.0 four.right i.right;
        bottom = high_still a.1 b.1 e.bottom f.1 g.1 four.bottom i.bottom;
      }
