-- How near an answer keeps to the four cells that it is made of, over fractions of whole numbers: nothing in here is
-- rounded. Definitions only.
use Rattle.std.specs.Prelude.{◌≡◌, ℕ, ◌^◌, Bool, true, cond, T, List, [], ◌∷◌, nat_le, Float}
use Rattle.std.specs.Float.Ieee.Scale.{finite}
use Rattle.exact.specs.Alike.{◌≐◌, AllAlike}
use Rattle.exact.specs.Fraction.{Fraction, cross, ◌≼◌, over, whole, opposite, ◌⊞◌, ◌⊟◌, ◌⊠◌, exactly}
use Rattle.lens.specs.Finite.{all_finite}
use Rattle.lens.specs.declared.Point.{Point}
use Rattle.region.specs.declared.Region.{Region}
use Rattle.lookup.specs.Lookup.{index_across, index_down, whole_part}
use Rattle.lookup.specs.Owed.{around}

-- ---- the four cells

-- their numbers k, 0 or 1: at the whole parts of the two indices, to the right, below, and below to the right
abbrev pub used : List Float → Region → ℕ → ℕ → Point → ℕ → List Float
used table region width height point k =
    let u = whole_part (index_across region width height point) in
    let v = whole_part (index_down region width height point) in
    around table width height u v k

-- ---- of two numbers

-- whether a ≼ b
abbrev pub at_most : Fraction → Fraction → Bool
at_most a b = nat_le (cross a b) (cross b a)

unfoldable pub lesser : Fraction → Fraction → Fraction
lesser a b = cond (at_most a b) a b

unfoldable pub greater : Fraction → Fraction → Fraction
greater a b = cond (at_most a b) b a

-- without its sign
abbrev pub size : Fraction → Fraction
size a = greater a (opposite a)

-- ---- of some cells; of none the least and the greatest are never asked for

unfoldable pub least : List Float → Fraction
least [] = whole 0
least (c ∷ []) = exactly c
least (c ∷ d ∷ rest) = lesser (exactly c) (least (d ∷ rest))

unfoldable pub greatest : List Float → Fraction
greatest [] = whole 0
greatest (c ∷ []) = exactly c
greatest (c ∷ d ∷ rest) = greater (exactly c) (greatest (d ∷ rest))

-- the largest magnitude
unfoldable pub largest : List Float → Fraction
largest [] = whole 0
largest (c ∷ rest) = greater (size (exactly c)) (largest rest)

-- the cells and x are numbers, and x lies from the least of the cells to the greatest
pub record Enclosed (cells : List Float) (x : Float) : Type 0 where
  pub cells_finite : all_finite cells ≡ true
  pub answer_finite : T (finite x)
  pub not_below : least cells ≼ exactly x
  pub not_above : exactly x ≼ greatest cells

-- the same with room on either side: 2^-48 times the largest magnitude among them
abbrev pub room : List Float → Fraction
room cells = largest cells ⊠ over 1 (2 ^ 48)

pub record EnclosedWithRoom (cells : List Float) (x : Float) : Type 0 where
  pub cells_finite : all_finite cells ≡ true
  pub answer_finite : T (finite x)
  pub not_below : least cells ⊟ room cells ≼ exactly x
  pub not_above : exactly x ≼ greatest cells ⊞ room cells

-- ---- of four equal cells

-- where all four are c, so is x, the sign of a zero aside
abbrev pub Level : List Float → Float → Type 0
Level cells x = (c : Float) → AllAlike cells (c ∷ c ∷ c ∷ c ∷ []) → x ≐ c
