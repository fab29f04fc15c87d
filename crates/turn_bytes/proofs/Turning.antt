-- From the parts of a call to what it hands back. Assumes nothing.
use mathlib.Core.Path.{◌≡◌, refl, sym, ap, ap₂, ◌∙◌, subst}
use Rattle.std.specs.declared.result.Result.{Result}
use Rattle.std.specs.declared.result.Result.TheVariants.{Ok, Err}
use Rattle.lens.specs.declared.Refusal.{Refusal}
use mathlib.Core.Bool.{Bool, true, false, cond}
use mathlib.Core.List.{List, [], ◌∷◌, ◌++◌, append_assoc, append-nil}
use Prim.Native.Nat.{ℕ, ◌+◌, ◌*◌, ◌≤◌}
use native.Mathlib.Omega.{arith}
use borrow.Author.Tests.{eq-eqb, ne_eqb, eqb-true, eqb-false}
use lib.Dec.{eqb, leb}
use lib.ListN.{length, length-append}
use Rattle.lens.specs.Judgement.{verdict}
use Rattle.lens.specs.declared.Refusal.TheVariants.{UnknownModel, WrongLength}
use Rattle.lens.proofs.Laws.{verdict_one_to_one}
use Rattle.region.specs.Size.{Sized}
use Rattle.plans.specs.Calls.{said_number}
use Rattle.table_plans.specs.Tables.{Kind}
use Rattle.job.specs.Job.{admitted}
use Rattle.job.specs.declared.Job.{Job}
use Rattle.distortion_table.specs.Answer.{Answer, turn_of, told_status, told_turned}
use Rattle.distortion_table.specs.declared.Turned.{Turned}
use Rattle.distortion_table.proofs.Taking.{taking}
use Rattle.little_endian.specs.Bytes.{bytes, half, put}
use Rattle.little_endian.proofs.Laws.{length_bytes, put_whole, put_put}
use Rattle.given.specs.Given.{answered}
use Rattle.given.proofs.Laws.{told_zero}
use Rattle.camera.specs.Numbers.{last}
use Rattle.job_bytes.specs.Places.{record_length}
use Rattle.job_bytes.specs.Bytes.{record_bytes, record_read, job_at}
use Rattle.job_bytes.specs.Check.{whole}
use Rattle.turn_bytes.specs.Turn.{handed, checked, own, answer_length, before_units, words, answer_bytes, written, taken_or_not, Starts, turn_bytes}

-- ---- numbers, as they are put one behind the other

pub length_words : (ws : List ℕ) → length (words ws) ≡ 8 * length ws
unfolding words
length_words [] = refl
length_words (w ∷ ws) = omega (arith, length-append (bytes 8 w) (words ws), length_bytes 8 w, length_words ws)

one_behind : (ws : List ℕ) (w : ℕ) → words ws ++ bytes 8 w ≡ words (ws ++ (w ∷ []))
unfolding words
one_behind [] w = sym (append-nil (bytes 8 w))
one_behind (x ∷ ws) w = append_assoc (bytes 8 x) (words ws) (bytes 8 w) ∙ ap (λ (l : List ℕ). bytes 8 x ++ l) (one_behind ws w)

-- one more behind those that were put
pub one_more :
    (ws : List ℕ) (w place : ℕ) (lent x y : List ℕ) →
    place ≡ 8 * length ws →
    place + 8 ≤ length lent →
    x ≡ put 0 (words ws) lent →
    y ≡ put place (bytes 8 w) x →
    y ≡ put 0 (words (ws ++ (w ∷ []))) lent
one_more ws w place lent x y p h e f =
    let n = length_words ws in
    f ∙ ap (put place (bytes 8 w)) e
    ∙ put_put 0 (words ws) (bytes 8 w) lent place (omega (arith, n, p)) (omega (arith, n, p, h, length_bytes 8 w))
    ∙ ap (λ (l : List ℕ). put 0 l lent) (one_behind ws w)

pub first_put : (w : ℕ) (lent x : List ℕ) → x ≡ put 0 (bytes 8 w) lent → x ≡ put 0 (words (w ∷ [])) lent
unfolding words
first_put w lent x e = e ∙ ap (λ (l : List ℕ). put 0 l lent) (sym (append-nil (bytes 8 w)))

-- over a whole answer
pub all_words : (ws lent x : List ℕ) → length lent ≡ 8 * length ws → x ≡ put 0 (words ws) lent → x ≡ words ws
all_words ws lent x h e = e ∙ put_whole (words ws) lent (length_words ws ∙ sym h)

-- ---- what is read out of bytes

by_tests : (bs : List ℕ) (job : Job) (long known : Bool) → eqb (length bs) record_length ≡ long → cond long (cond known (Ok (job_at bs)) (Err UnknownModel)) (Err WrongLength) ≡ Ok job → (job ≡ job_at bs) × (length bs ≡ record_length)
by_tests bs job true true e h = let q : job_at bs ≡ job = cc in (sym q, eqb-true (length bs) record_length e)
by_tests bs job true false e h = let z : ◌≡◌ {A = ℕ} 0 1 = cc in absurd (omega arith)
by_tests bs job false known e h = let z : ◌≡◌ {A = ℕ} 0 1 = cc in absurd (omega arith)

-- a record that is read is the one at the bytes' places, and these are as many as a record has
pub read_of : (bs : List ℕ) (job : Job) → record_read bs ≡ Ok job → (job ≡ job_at bs) × (length bs ≡ record_length)
unfolding record_read
read_of bs job h = by_tests bs job (eqb (length bs) record_length) (leb (half bs 0) last) refl h

-- ---- before any unit

-- a call is taken only before an answer of the right length, with a record that has no refusal of its own
pub none_before :
    {X : Type 0} (found : Result Job Refusal) (whole : Bool) (cells : List X) (lent : List ℕ) →
    before_units found whole cells lent ≡ 0 →
    (own found whole (length cells) ≡ 0) × (length lent ≡ answer_length)
unfolding answered
none_before found whole cells lent e = told_zero answer_length (own found whole (length cells)) [] lent e

-- then the record is admitted, and its bytes are whole
both_right : (whole : Bool) (refusal : ℕ) → checked whole refusal ≡ 0 → (refusal ≡ 0) × (whole ≡ true)
both_right whole refusal e = by_tests (eqb refusal 0) whole refl e
  where
    by_tests : (z w : Bool) → eqb refusal 0 ≡ z → cond z (cond w 0 13) refusal ≡ 0 → (refusal ≡ 0) × (w ≡ true)
    by_tests true true f h = (eqb-true refusal 0 f, refl)
    by_tests true false f h = absurd (omega (arith, h))
    by_tests false w f h = absurd (eqb-false refusal 0 f h)

pub is_right :
    (job : Job) (whole : Bool) (places : ℕ) →
    own (Ok job) whole places ≡ 0 →
    (admitted job places ≡ Ok tt) × (whole ≡ true)
is_right job whole places e =
    let b = both_right whole (verdict (admitted job places)) e in
    (verdict_one_to_one (admitted job places) (Ok tt) b.0, b.1)

-- one that is not taken writes nothing, and one that is taken writes all that its turn answers
module _ {X : Type 0} (bs : List ℕ) (cells : List X) (lent : List ℕ) (a : Answer X) (n : ℕ) where
  pub not_taken : (n ≡ 0 → ⊥) → taken_or_not n bs cells lent a ≡ handed n bs cells lent
  not_taken h = ap (λ (b : Bool). cond b (written a) (handed n bs cells lent)) (ne_eqb n 0 h)

  pub taken : n ≡ 0 → taken_or_not n bs cells lent a ≡ written a
  taken h = ap (λ (b : Bool). cond b (written a) (handed n bs cells lent)) (eq-eqb n 0 h)

-- ---- a call by how it starts, whatever its table holds

module _ {X : Type 0} (kind : Kind X) (bs : List ℕ) (cells : List X) (allowance : ℕ) (lent : List ℕ) where
  pub not_begun : (n : ℕ) → Starts bs (length cells) (length lent) (Err n) → handed n bs cells lent ≡ turn_bytes kind bs cells allowance lent
  unfolding turn_bytes
  not_begun n (e, h) =
      ap (λ (k : ℕ). handed k bs cells lent) e
      ∙ sym (not_taken bs cells lent (turn_of kind (job_at bs) cells allowance) (before_units (record_read bs) (whole bs) cells lent) (λ z. h (e ∙ z)))

  module _ (job : Job) (s : Starts bs (length cells) (length lent) (Ok job)) where
    record_is : job ≡ job_at bs
    record_is = (read_of bs job s.1).0

    nothing_wrong : (own (Ok job) (whole bs) (length cells) ≡ 0) × (length lent ≡ answer_length)
    nothing_wrong = let n = none_before (record_read bs) (whole bs) cells lent s.0 in (sym (ap (λ (f : Result Job Refusal). own f (whole bs) (length cells)) s.1) ∙ n.0, n.1)

    -- what is written into has the right length, and the table the record's size
    pub lengths : Sized job.width job.height × (length bs ≡ record_length) × (length lent ≡ answer_length)
    lengths = ((taking job (length cells) (is_right job (whole bs) (length cells) nothing_wrong.0).0).size, (read_of bs job s.1).1, nothing_wrong.1)

    module _ (t : Turned) (after : List X) (e : told_turned t after ≡ turn_of kind job cells allowance) where
      pub size_kept : Sized t.job.width t.job.height
      size_kept = subst (λ (a : Answer X). Sized a.job.width a.job.height) (sym e) lengths.0

      pub begun :
          (r : ℕ) (record-after answer-after : List ℕ) →
          (r ≡ said_number (told_status t.status))
          × (record-after ≡ record_bytes t.job)
          × (answer-after ≡ answer_bytes (told_status t.status) t.job) →
          handed r record-after after answer-after ≡ turn_bytes kind bs cells allowance lent
      unfolding turn_bytes
      begun r record-after answer-after g =
          ap (λ (n : ℕ). handed n record-after after answer-after) g.0
          ∙ ap₂ (λ (b c : List ℕ). handed (said_number (told_status t.status)) b after c) g.1 g.2
          ∙ ap written (e ∙ ap (λ (j : Job). turn_of kind j cells allowance) record_is)
          ∙ sym (taken bs cells lent (turn_of kind (job_at bs) cells allowance) (before_units (record_read bs) (whole bs) cells lent) s.0)
