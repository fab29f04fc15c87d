-- A field of a line, as the code finds it. Assumes nothing.
use mathlib.Core.Path.{◌≡◌, refl, sym, ap, ◌∙◌}
use mathlib.Core.Bool.{Bool, true, false, cond}
use mathlib.Core.List.{List, [], ◌∷◌}
use Prim.Native.Nat.{ℕ, ◌+◌, ◌*◌, ◌-◌, ◌/◌, ◌≤◌, ◌<◌}
use native.Mathlib.Omega.{arith}
use lib.Dec.{eqb}
use lib.ListN.{length, get_or, take, drop, length-drop, drop_of_length-le}
use lib.Seq.{take_all}
use Rattle.std.proofs.Common.{Option, None}
use Rattle.hexadecimal.specs.Hex.{spelled, ends, field}

-- ---- what follows the digits, by how much there is

pub ends_none : (rest : List ℕ) → length rest < 1 → false ≡ ends rest
unfolding ends
ends_none [] h = refl
ends_none (b ∷ rest) h = absurd (omega arith)

pub ends_last : (rest : List ℕ) → 1 ≤ length rest → length rest < 2 → eqb (get_or rest 0 0) 10 ≡ ends rest
unfolding ends
ends_last [] h l = absurd (omega arith)
ends_last (b ∷ []) h l = refl
ends_last (b ∷ c ∷ rest) h l = absurd (omega arith)

pub ends_more : (rest : List ℕ) → 2 ≤ length rest → eqb (get_or rest 0 0) 9 ≡ ends rest
unfolding ends
ends_more [] h = absurd (omega arith)
ends_more (b ∷ []) h = absurd (omega arith)
ends_more (b ∷ c ∷ rest) h = refl

-- ---- a field

module _ (line : List ℕ) (k : ℕ) where
  so : Bool → Option ℕ
  so t = cond t (spelled (take 16 (drop (k * 17) line))) None

  -- what follows, as the code takes it, with its length
  rest_is : take (length line - (k * 17 + 16)) (drop (k * 17 + 16) line) ≡ drop (k * 17 + 16) line
  rest_is = take_all (length line - (k * 17 + 16)) (drop (k * 17 + 16) line) (omega (arith, length-drop (k * 17 + 16) line))

  module _ (r : Bool) (e : r ≡ ends (take (length line - (k * 17 + 16)) (drop (k * 17 + 16) line))) where
    judged : r ≡ ends (drop (k * 17 + 16) line)
    judged = e ∙ ap ends rest_is

    pub field_there : r ≡ true → spelled (take (k * 17 + 16 - k * 17) (drop (k * 17) line)) ≡ field line k
    unfolding field so
    field_there t =
        let m : k * 17 + 16 - k * 17 ≡ 16 = omega arith in
        ap (λ (n : ℕ). spelled (take n (drop (k * 17) line))) m ∙ ap so (sym t ∙ judged)

    pub field_open : r ≡ false → None ≡ field line k
    unfolding field so
    field_open t = ap so (sym t ∙ judged)

  -- past the line's end nothing follows
  pub field_past : length line / 17 ≤ k → None ≡ field line k
  unfolding field ends so
  field_past h =
      let l : length line ≤ k * 17 + 16 = omega arith in
      ap so (sym (ap ends (drop_of_length-le line l)))
