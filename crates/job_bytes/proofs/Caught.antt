-- Which damage the check word shows. Assumes nothing.
use Rattle.std.proofs.Common.{◌≡◌, ℕ, zero, suc, ◌+◌, ◌*◌, ◌/◌, ◌%◌, ◌^◌, ◌<◌, ◌≤◌, Bool, true, false, eqb, leb, List, [], ◌∷◌, ◌++◌, length, get_or, take, drop, sym, refl, ap, ◌∙◌, append-nil, pow-suc, arith, length-drop, length-take-le, get_or-drop, get_or-take, ext_get_or, drop_at, eq-eqb, eqb-true}
use borrow.Author.Tests.{eqb-false}
use lib.Ieee.{Float, binary64, to_bits}
use lib.ListN.{get_or-eq_default}
use Rattle.region.specs.Region.{four}
use Rattle.job.specs.declared.Job.{Job}
use Rattle.little_endian.specs.Bytes.{value, bytes, word, floats}
use Rattle.little_endian.proofs.Laws.{bytes_value}
use Rattle.camera.specs.Numbers.{model_number, padded}
use Rattle.job_bytes.specs.Places.{summed, check_place}
use Rattle.job_bytes.specs.Bytes.{mark, camera_part, size_part, boxes, tallies, body, record_bytes}
use Rattle.job_bytes.specs.Check.{check_start, sum_of_words, check_of, intact, whole, RecordBytes, WordApart, ByteApart}
use Rattle.job_bytes.proofs.Summing.{same_sum, check_behind, check_less}
use Rattle.job_bytes.proofs.Placing.{last_part, long_body, length_record}
use Rattle.job_bytes.proofs.Back.{word_first, mark_back}

-- ---- a word and its eight bytes

value_less : (l : List ℕ) → ((i : ℕ) → get_or l i 0 < 256) → value l < 256 ^ length l
unfolding value
value_less [] h = omega arith
value_less (b ∷ l) h =
    let p : 256 ^ suc (length l) ≡ 256 ^ length l * 256 = pow-suc 256 (length l) in
    let low : b < 256 = h 0 in
    let rest : value l < 256 ^ length l = value_less l (λ i. h (suc i)) in
    omega arith

module _ (bs : List ℕ) (r : RecordBytes bs) (k : ℕ) (h : k ≤ summed) where
  abbrev eight : List ℕ
  eight = take 8 (drop (8 * k) bs)

  long_eight : length eight ≡ 8
  long_eight = length-take-le 8 (drop (8 * k) bs) (omega (arith, length-drop (8 * k) bs))

  eight_at : (i : ℕ) → i < 8 → get_or eight i 0 ≡ get_or bs (8 * k + i) 0
  eight_at i l = get_or-take 8 (drop (8 * k) bs) i 0 l ∙ get_or-drop (8 * k) bs i 0

  each_eight : (i : ℕ) → get_or eight i 0 < 256
  each_eight i = by_place (eqb (i / 8) 0) refl
    where
      by_place : (b : Bool) → eqb (i / 8) 0 ≡ b → get_or eight i 0 < 256
      by_place true e =
          let z : i / 8 ≡ 0 = eqb-true (i / 8) 0 e in
          omega (arith, eight_at i (omega arith), r.each (8 * k + i))
      by_place false e =
          let n : i / 8 ≡ 0 → ⊥ = eqb-false (i / 8) 0 e in
          let past : 8 ≤ i = omega arith in
          omega (arith, get_or-eq_default eight 0 {n = i} (omega (arith, long_eight)))

  word_less : word bs (8 * k) < 2 ^ 64
  word_less = omega (arith, value_less eight each_eight, ap (λ (n : ℕ). 256 ^ n) long_eight)

  eight_bytes : bytes 8 (word bs (8 * k)) ≡ eight
  eight_bytes = ap (λ (n : ℕ). bytes n (value eight)) (sym long_eight) ∙ bytes_value eight each_eight

-- ---- two records of bytes that differ in one word at most

module _ (a b : List ℕ) (ra : RecordBytes a) (rb : RecordBytes b) (k : ℕ) (same : (i : ℕ) → (i / 8 ≡ k → ⊥) → get_or a i 0 ≡ get_or b i 0) where
  other_words : (j : ℕ) → j ≤ summed → (j ≡ k → ⊥) → word a (8 * j) ≡ word b (8 * j)
  other_words j h n =
      ap value
      (ext_get_or 0 (eight a ra j h) (eight b rb j h) (long_eight a ra j h ∙ sym (long_eight b rb j h)) (λ i l.
      let l₈ : i < 8 = omega (arith, l, long_eight a ra j h) in
      eight_at a ra j h i l₈ ∙ same (8 * j + i) (λ p. n (omega arith)) ∙ sym (eight_at b rb j h i l₈)))

  -- so the sums differ by what the word differs
  abbrev Apart : ℕ → Type 0
  Apart n = sum_of_words n a + word b (8 * k) ≡ sum_of_words n b + word a (8 * k)

  sums : (n : ℕ) → n ≤ summed → k < n → Apart n
  unfolding sum_of_words
  sums zero most h = absurd (omega arith)
  sums (suc n) most h = by_last (eqb n k) refl (sums n (omega arith))
    where
      by_last : (t : Bool) → eqb n k ≡ t → (k < n → Apart n) → Apart (suc n)
      by_last true e before =
          let z : n ≡ k = eqb-true n k e in
          let first : sum_of_words n a ≡ sum_of_words n b = same_sum n a b (λ j l. other_words j (omega arith) (λ p. omega arith)) in
          let at_a : word a (8 * n) ≡ word a (8 * k) = ap (λ (j : ℕ). word a (8 * j)) z in
          let at_b : word b (8 * n) ≡ word b (8 * k) = ap (λ (j : ℕ). word b (8 * j)) z in
          omega arith
      by_last false e before =
          let z : n ≡ k → ⊥ = eqb-false n k e in
          let first : Apart n = before (omega arith) in
          let last : word a (8 * n) ≡ word b (8 * n) = other_words n (omega arith) z in
          omega arith

  -- where both check words are right, that word is the same too
  one_word : k ≤ summed → word a check_place ≡ check_of a → word b check_place ≡ check_of b → word a (8 * k) ≡ word b (8 * k)
  unfolding check_of
  one_word h ia ib = by_place (eqb k summed) refl
    where
      by_place : (t : Bool) → eqb k summed ≡ t → word a (8 * k) ≡ word b (8 * k)
      by_place true e =
          let z : k ≡ summed = eqb-true k summed e in
          let at_a : word a (8 * k) ≡ word a check_place = ap (λ (j : ℕ). word a (8 * j)) z in
          let at_b : word b (8 * k) ≡ word b check_place = ap (λ (j : ℕ). word b (8 * j)) z in
          let all : sum_of_words summed a ≡ sum_of_words summed b = same_sum summed a b (λ j l. other_words j (omega arith) (λ p. omega arith)) in
          at_a ∙ ia ∙ ap (λ (n : ℕ). (check_start + n) % 2 ^ 64) all ∙ sym (at_b ∙ ib)
      by_place false e =
          let z : k ≡ summed → ⊥ = eqb-false k summed e in
          let all : sum_of_words summed a + word b (8 * k) ≡ sum_of_words summed b + word a (8 * k) = sums summed (omega arith) (omega arith) in
          let last : word a check_place ≡ word b check_place = other_words summed (omega arith) (λ p. z (sym p)) in
          let less_a : word a (8 * k) < 2 ^ 64 = word_less a ra k h in
          let less_b : word b (8 * k) < 2 ^ 64 = word_less b rb k h in
          omega arith

  -- and then all bytes are
  pub both_intact : intact a ≡ true → intact b ≡ true → a ≡ b
  both_intact ia ib = ext_get_or 0 a b (ra.long ∙ sym rb.long) each
    where
      each : (i : ℕ) → i < length a → get_or a i 0 ≡ get_or b i 0
      each i l = by_word (eqb (i / 8) k) refl
        where
          by_word : (t : Bool) → eqb (i / 8) k ≡ t → get_or a i 0 ≡ get_or b i 0
          by_word true e =
              let z : i / 8 ≡ k = eqb-true (i / 8) k e in
              let h : k ≤ summed = omega (arith, ra.long) in
              let l₈ : i % 8 < 8 = omega arith in
              let at : 8 * k + i % 8 ≡ i = omega arith in
              let w : word a (8 * k) ≡ word b (8 * k) = one_word h (eqb-true (word a check_place) (check_of a) ia) (eqb-true (word b check_place) (check_of b) ib) in
              let own : eight a ra k h ≡ eight b rb k h = sym (eight_bytes a ra k h) ∙ ap (bytes 8) w ∙ eight_bytes b rb k h in
              ap (λ (j : ℕ). get_or a j 0) (sym at)
              ∙ sym (eight_at a ra k h (i % 8) l₈)
              ∙ ap (λ (l : List ℕ). get_or l (i % 8) 0) own
              ∙ eight_at b rb k h (i % 8) l₈
              ∙ ap (λ (j : ℕ). get_or b j 0) at
          by_word false e = same i (eqb-false (i / 8) k e)

-- a byte is in one word
pub in_a_word : (place : ℕ) (a b : List ℕ) → ByteApart place a b → WordApart (place / 8) a b
in_a_word place a b apart = record {
  same = λ i n. apart.same i (λ e. n (ap (λ (j : ℕ). j / 8) e));
  other = λ e. apart.other (ap (λ (l : List ℕ). get_or l place 0) e);
}

-- ---- what is written

each_bytes : (n w i : ℕ) → get_or (bytes n w) i 0 < 256
unfolding bytes
each_bytes zero w i = omega arith
each_bytes (suc n) w zero = omega arith
each_bytes (suc n) w (suc i) = each_bytes n (w / 256) i

each_append : (a b : List ℕ) → ((i : ℕ) → get_or a i 0 < 256) → ((i : ℕ) → get_or b i 0 < 256) → (i : ℕ) → get_or (a ++ b) i 0 < 256
each_append [] b ha hb i = hb i
each_append (x ∷ a) b ha hb zero = ha 0
each_append (x ∷ a) b ha hb (suc i) = each_append a b (λ j. ha (suc j)) hb i

each_floats : (xs : List Float) (i : ℕ) → get_or (floats xs) i 0 < 256
unfolding floats
each_floats [] i = omega arith
each_floats (x ∷ xs) i = each_append (bytes 8 (to_bits binary64 x)) (floats xs) (each_bytes 8 (to_bits binary64 x)) (each_floats xs) i

-- three parts, the first two of four bytes
each_three : (u v : ℕ) (c : List ℕ) → ((i : ℕ) → get_or c i 0 < 256) → (i : ℕ) → get_or (bytes 4 u ++ bytes 4 v ++ c) i 0 < 256
each_three u v c = each_append (bytes 4 u ++ bytes 4 v) c (each_append (bytes 4 u) (bytes 4 v) (each_bytes 4 u) (each_bytes 4 v))

module _ (job : Job) where
  each_body : (i : ℕ) → get_or (body job) i 0 < 256
  unfolding camera_part size_part boxes tallies
  each_body =
      each_append (camera_part job ++ size_part job ++ boxes job) (tallies job)
      (each_append (camera_part job ++ size_part job) (boxes job)
      (each_append (camera_part job) (size_part job)
      (each_three (model_number job.camera) job.at.updates (floats (padded job.camera)) (each_floats (padded job.camera)))
      (each_three job.width job.height (bytes 8 job.at.done) (each_bytes 8 job.at.done)))
      (each_append (floats (four job.at.edges)) (floats (four job.at.region)) (each_floats (four job.at.edges)) (each_floats (four job.at.region))))
      (each_three job.at.unsettled job.at.first (bytes 8 (mark job.strict)) (each_bytes 8 (mark job.strict)))

  pub record_of_bytes : RecordBytes (record_bytes job)
  unfolding record_bytes
  record_of_bytes = record {
    long = length_record job;
    each = each_append (body job) (last_part job) each_body (each_bytes 8 (check_of (body job)));
  }

  -- the check word is read back, and is the one of the whole
  pub its_check : intact (record_bytes job) ≡ true
  unfolding record_bytes
  its_check =
      eq-eqb _ _
      (word_first {at = check_place} {bs = body job ++ last_part job}
      record { rest = []; is = drop_at (body job) (last_part job) check_place (long_body job) ∙ sym (append-nil (last_part job)) }
      (check_less (body job))
      ∙ sym (check_behind (body job) (last_part job) (long_body job)))

  one_of_two : (strict : Bool) → leb (mark strict) 1 ≡ true
  one_of_two true = refl
  one_of_two false = refl

  -- so it is whole
  pub its_whole : whole (record_bytes job) ≡ true
  its_whole = rw (mark_back job, one_of_two job.strict) its_check
