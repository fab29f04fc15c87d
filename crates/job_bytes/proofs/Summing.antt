-- The sum of words: as the code adds it up, and of which bytes it is. Assumes nothing.
use Rattle.std.proofs.Common.{◌≡◌, ℕ, zero, suc, ◌+◌, ◌*◌, ◌%◌, ◌^◌, ◌<◌, ◌≤◌, List, ◌++◌, length, take, drop, sym, refl, ap, ◌∙◌, ap₂, add-one, arith, length-drop}
use native.Mathlib.Nat.{mod-add-mod}
use lib.Seq.{take-append-le, drop-append-le}
use Rattle.little_endian.specs.Bytes.{value, word}
use Rattle.job_bytes.specs.Places.{summed}
use Rattle.job_bytes.specs.Check.{check_start, sum_of_words, check_of}

-- ---- word by word

-- i words are added to the start, and what is over 2^64 is lost
pub record Summed (bs : List ℕ) (sum i : ℕ) : Type 0 where
  pub within : i ≤ summed
  pub so_far : sum ≡ (check_start + sum_of_words i bs) % 2 ^ 64

pub no_word : (bs : List ℕ) → Summed bs check_start 0
unfolding sum_of_words
no_word bs = record { within = omega arith; so_far = refl }

pub next_word :
    (bs : List ℕ) (sum i w after : ℕ) →
    Summed bs sum i →
    i < summed →
    w ≡ word bs (8 * i) →
    after ≡ (sum + w) % 2 ^ 64 →
    Summed bs after (i + 1)
unfolding sum_of_words
next_word bs sum i w after s h e f = record {
  within = omega arith;
  so_far =
      f
      ∙ ap₂ (λ (m n : ℕ). (m + n) % 2 ^ 64) s.so_far e
      ∙ mod-add-mod (check_start + sum_of_words i bs) (2 ^ 64) (word bs (8 * i))
      ∙ ap (λ (n : ℕ). n % 2 ^ 64) (omega arith)
      ∙ ap (λ (n : ℕ). (check_start + sum_of_words n bs) % 2 ^ 64) (sym (add-one i));
}

pub every_word : (bs : List ℕ) (sum i : ℕ) → Summed bs sum i → summed ≤ i → sum ≡ check_of bs
unfolding check_of
every_word bs sum i s h =
    let all : i ≡ summed = omega arith in
    s.so_far ∙ ap (λ (n : ℕ). (check_start + sum_of_words n bs) % 2 ^ 64) all

-- ---- of which bytes it is

-- words that are the same one by one have one sum
pub same_sum : (n : ℕ) (a b : List ℕ) → ((k : ℕ) → k < n → word a (8 * k) ≡ word b (8 * k)) → sum_of_words n a ≡ sum_of_words n b
unfolding sum_of_words
same_sum zero a b same = refl
same_sum (suc n) a b same = ap₂ (λ (m w : ℕ). m + w) (same_sum n a b (λ k h. same k (omega arith))) (same n (omega arith))

word_before : (a l : List ℕ) (at : ℕ) → at + 8 ≤ length a → word (a ++ l) at ≡ word a at
word_before a l at h =
    ap (λ (m : List ℕ). value (take 8 m)) (drop-append-le at a l (omega arith))
    ∙ ap value (take-append-le 8 (drop at a) l (omega (arith, length-drop at a)))

-- what stands behind the words does not count
pub check_behind : (a l : List ℕ) → length a ≡ 8 * summed → check_of (a ++ l) ≡ check_of a
unfolding check_of
check_behind a l e =
    ap (λ (n : ℕ). (check_start + n) % 2 ^ 64) (same_sum summed (a ++ l) a (λ k h. word_before a l (8 * k) (omega arith)))

-- it goes into eight bytes
pub check_less : (bs : List ℕ) → check_of bs < 2 ^ 64
unfolding check_of
check_less bs = omega arith
