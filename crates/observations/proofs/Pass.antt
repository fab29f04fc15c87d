-- A list with g applied to its first i elements, `upto g i xs`: it is as long as xs (`length_upto`), one turn more (`upto_next`), and all
-- of them, which is `map g xs` (`upto_all`). It says nothing of cameras or records. Assumes nothing.
use mathlib.Core.Path.{◌≡◌, refl, ap}
use Prim.Native.Nat.{ℕ, zero, suc, ◌<◌}
use native.Mathlib.Nat.{not-suc-le-zero, le_of_suc-le-suc}
use mathlib.Core.List.{List, [], ◌∷◌, map}
use lib.ListN.{length, get_or, set}

module _ {X : Type 0} (g : X → X) where
  abbrev pub upto : ℕ → List X → List X
  upto zero xs = xs
  upto (suc i) [] = []
  upto (suc i) (x ∷ xs) = g x ∷ upto i xs

  pub length_upto : (i : ℕ) (xs : List X) → length (upto i xs) ≡ length xs
  length_upto zero xs = refl
  length_upto (suc i) [] = refl
  length_upto (suc i) (x ∷ xs) = ap suc (length_upto i xs)

  pub upto_next : (i : ℕ) (xs : List X) (d : X) → i < length xs → set (upto i xs) i (g (get_or (upto i xs) i d)) ≡ upto (suc i) xs
  upto_next i [] d small = absurd (not-suc-le-zero small)
  upto_next zero (x ∷ xs) d small = refl
  upto_next (suc i) (x ∷ xs) d small = ap (λ (ys : List X). g x ∷ ys) (upto_next i xs d (le_of_suc-le-suc small))

  pub upto_all : (xs : List X) → upto (length xs) xs ≡ map g xs
  upto_all [] = refl
  upto_all (x ∷ xs) = ap (λ (ys : List X). g x ∷ ys) (upto_all xs)
