-- What stands at each place of two rows and of a Jacobian's list, and how the loop of `two_rows` fills that list. Assumes nothing.
use mathlib.Core.Path.{◌≡◌, refl, sym, ap, ◌∙◌}
use mathlib.Core.List.{List, [], ◌∷◌, ◌++◌}
use Prim.Native.Nat.{ℕ, zero, suc, ◌≤◌, ◌<◌}
use native.Mathlib.Nat.{le_of_lt, le_of_suc-le-suc, not-suc-le-zero}
use native.Mathlib.Omega.{arith}
use lib.Ieee.{Float}
use lib.ListN.{length, get_or, take, set, replicate, length-append, length-take, length-replicate, get_or-replicate}
use lib.Seq.{take_all, take-suc, take-suc-set, get_or-take}
use Rattle.lens.specs.Constants.{zeros}
use Rattle.lens.specs.Jacobian.{entries, padded}

module _ {A : Type 0} where
  -- within a list the default is not asked for
  pub any_default : (l : List A) (i : ℕ) (d e : A) → i < length l → get_or l i d ≡ get_or l i e
  any_default [] i d e h = absurd (not-suc-le-zero h)
  any_default (x ∷ l) zero d e h = refl
  any_default (x ∷ l) (suc i) d e h = any_default l i d e (le_of_suc-le-suc h)

  -- behind a list, copies of z are what the default z gives
  behind : (l : List A) (n i : ℕ) (z d : A) → i < n → get_or (l ++ replicate n z) i d ≡ get_or l i z
  behind [] n i z d h = get_or-replicate n i z d h
  behind (x ∷ l) n zero z d h = refl
  behind (x ∷ l) n (suc i) z d h = behind l n i z d (le_of_lt h)

-- ---- a Jacobian's list

pub padded_length : (row : List Float) → length (padded row) ≡ entries
padded_length row = simp (length-take, length-append, length-replicate) (omega arith)

pub padded_at : (row : List Float) (i : ℕ) (d : Float) → i < entries → get_or (padded row) i d ≡ get_or row i zeros
padded_at row i d h = get_or-take entries (row ++ replicate entries zeros) i d h ∙ behind row entries i zeros d h

-- ---- the loop: one more store, and the end

module _ (es row : List Float) (i : ℕ) where
  pub one_more :
      (v : Float) → length es ≡ entries → i < entries → v ≡ get_or row i zeros → take i es ≡ take i (padded row) → take (suc i) (set es i v) ≡ take (suc i) (padded row)
  one_more v len h at done =
      take-suc-set es i v (omega arith)
      ∙ ap (λ (l : List Float). l ++ (v ∷ [])) done
      ∙ ap (λ (x : Float). take i (padded row) ++ (x ∷ [])) (at ∙ sym (padded_at row i zeros h))
      ∙ sym (take-suc (padded row) i zeros (omega (arith, padded_length row)))

  pub filled : length es ≡ entries → entries ≤ i → take i es ≡ take i (padded row) → es ≡ padded row
  filled len h done = sym (take_all i es (omega arith)) ∙ done ∙ take_all i (padded row) (omega (arith, padded_length row))
