-- One field after the other into its place. Assumes nothing.
use mathlib.Core.Path.{◌≡◌, refl, ap, ◌∙◌}
use mathlib.Core.Bool.{Bool, true, false, ◌&&◌}
use mathlib.Core.List.{List, ◌++◌, append-nil}
use Rattle.std.proofs.Math.Bool.{and_assoc}
use Prim.Native.Nat.{ℕ, zero, suc, ◌+◌, ◌-◌, ◌≤◌, ◌<◌}
use native.Mathlib.Nat.{sub-zero}
use native.Mathlib.Omega.{arith}
use lib.ListN.{length, set, length-set, drop_of_length-le}
use lib.Seq.{sets, sets-eq}
use Rattle.std.proofs.Common.{Option, is_some, unwrap_or}
use Rattle.hexadecimal.specs.Hex.{field, fields, every_field}

length_fields : (line : List ℕ) (k n : ℕ) → length (fields line k n) ≡ n
unfolding fields
length_fields line k zero = refl
length_fields line k (suc n) = ap suc (length_fields line (suc k) n)

-- where they fill the places, nothing of those is left
overall : (numbers new : List ℕ) → length new ≡ length numbers → sets numbers 0 new ≡ new
overall numbers new e =
    let past : length numbers ≤ 0 + length new = omega arith in
    sets-eq new numbers 0 (omega arith)
    ∙ ap (λ (rest : List ℕ). new ++ rest) (drop_of_length-le numbers past)
    ∙ append-nil new

-- i fields are read, and with those that are left they are all
pub record Filled (line numbers₀ numbers : List ℕ) (all : Bool) (i : ℕ) : Type 0 where
  pub within : i ≤ length numbers₀
  pub long : length numbers ≡ length numbers₀
  pub left : sets numbers i (fields line i (length numbers₀ - i)) ≡ fields line 0 (length numbers₀)
  pub judged : (all && every_field line i (length numbers₀ - i)) ≡ every_field line 0 (length numbers₀)

pub none_filled : (line numbers : List ℕ) → Filled line numbers numbers true 0
none_filled line numbers =
    let n : ℕ = length numbers in
    record {
      within = omega arith;
      long = refl;
      left = ap (λ (k : ℕ). sets numbers 0 (fields line 0 k)) (sub-zero n) ∙ overall numbers (fields line 0 n) (length_fields line 0 n);
      judged = ap (every_field line 0) (sub-zero n);
    }

pub one_filled :
    (line numbers₀ numbers : List ℕ) (all : Bool) (i : ℕ) (read : Option ℕ) (n : ℕ) (t : Bool) →
    Filled line numbers₀ numbers all i →
    i < length numbers₀ →
    read ≡ field line i →
    n ≡ unwrap_or read 0 →
    t ≡ is_some read →
    Filled line numbers₀ (set numbers i n) (all && t) (i + 1)
unfolding fields every_field
one_filled line numbers₀ numbers all i read n t p h e f g =
    let next : i + 1 ≡ suc i = omega arith in
    let one : suc (length numbers₀ - (i + 1)) ≡ length numbers₀ - i = omega arith in
    let m : ℕ = length numbers₀ - (i + 1) in
    let put : n ≡ unwrap_or (field line i) 0 = f ∙ ap (λ (o : Option ℕ). unwrap_or o 0) e in
    record {
      within = omega arith;
      long = length-set numbers i n ∙ p.long;
      left =
          ap (λ (k : ℕ). sets (set numbers i n) k (fields line k m)) next
          ∙ ap (λ (w : ℕ). sets (set numbers i w) (suc i) (fields line (suc i) m)) put
          ∙ ap (λ (k : ℕ). sets numbers i (fields line i k)) one
          ∙ p.left;
      judged =
          ap (λ (k : ℕ). (all && t) && every_field line k m) next
          ∙ ap (λ (b : Bool). (all && b) && every_field line (suc i) m) (g ∙ ap (λ (o : Option ℕ). is_some o) e)
          ∙ and_assoc all (is_some (field line i)) (every_field line (suc i) m)
          ∙ ap (λ (k : ℕ). all && every_field line i k) one
          ∙ p.judged;
    }

same : (all : Bool) → all ≡ (all && true)
same true = refl
same false = refl

module _ (line numbers₀ numbers : List ℕ) (all : Bool) (i : ℕ) (p : Filled line numbers₀ numbers all i) (h : length numbers₀ ≤ i) where
  none : 0 ≡ length numbers₀ - i
  none = omega arith

  pub all_filled : numbers ≡ fields line 0 (length numbers₀)
  unfolding fields
  all_filled = ap (λ (k : ℕ). sets numbers i (fields line i k)) none ∙ p.left

  pub all_judged : all ≡ every_field line 0 (length numbers₀)
  unfolding every_field
  all_judged = same all ∙ ap (λ (k : ℕ). all && every_field line i k) none ∙ p.judged
