-- A text cut at the first byte of a kind. Assumes nothing.
use mathlib.Core.Path.{◌≡◌, sym, ap, ◌∙◌}
use mathlib.Core.List.{List, []}
use Prim.Native.Nat.{ℕ, suc, ◌+◌, ◌-◌, ◌≤◌}
use native.Mathlib.Numerals.{add-one}
use native.Mathlib.Omega.{arith}
use lib.ListN.{length, take, drop, drop_of_length-le, length-drop}
use lib.Seq.{take_all}
use Rattle.decimal.specs.Text.{place, before, past}

module _ (b : ℕ) (l : List ℕ) (i : ℕ) (e : i ≡ place b l) where
  pub first_is : take i l ≡ before b l
  unfolding before
  first_is = ap (λ (k : ℕ). take k l) e

  pub rest_is : take (length l - (i + 1)) (drop (i + 1) l) ≡ past b l
  unfolding past
  rest_is =
      take_all (length l - (i + 1)) (drop (i + 1) l) (omega (arith, length-drop (i + 1) l))
      ∙ ap (λ (k : ℕ). drop k l) (add-one i ∙ ap suc e)

  module _ (h : length l ≤ i) where
    pub no_first : l ≡ before b l
    unfolding before
    no_first = sym (take_all (place b l) l (omega arith))

    pub no_rest : [] ≡ past b l
    unfolding past
    no_rest = sym (drop_of_length-le l {i = suc (place b l)} (omega arith))
