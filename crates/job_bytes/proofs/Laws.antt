-- What a caller may rely on, of the definitions of specs/ and of the contracts of src/. Assumes nothing.
use Rattle.lens.specs.Judgement.{accepted}
use Rattle.std.proofs.Common.{◌≡◌, ℕ, ◌/◌, ◌^◌, ◌<◌, Bool, true, false, eqb, List, length, sym, refl, ap, ◌∙◌, arith}
use Rattle.std.specs.declared.result.Result.TheVariants.{Ok, Err}
use lib.Ieee.{binary64}
use lib.Ieee.Bits.{of_bits-fits}
use Rattle.exact.specs.Determined.{Determined, DeterminedWith}
use Rattle.lens.specs.Fits.{AllFit}
use Rattle.lens.specs.declared.Refusal.TheVariants.{WrongLength}
use Rattle.region.specs.Fits.{FourFit}
use Rattle.region.specs.Size.{Sized}
use Rattle.camera.specs.Camera.{parameters}
use Rattle.camera.specs.declared.Camera.{Camera}
use Rattle.camera.proofs.Laws.{camera_known}
use Rattle.camera_bytes.specs.Reading.{camera_of}
use Rattle.given.specs.Given.{Given}
use Rattle.given.proofs.Laws.{both}
use Rattle.plans.specs.Plan.{nowhere}
use Rattle.table_plans.specs.Tables.{opens_for}
use Rattle.table_plans.proofs.Sound.{opened}
use Rattle.job.specs.Job.{fresh_job}
use Rattle.job.specs.declared.Job.{Job}
use Rattle.job_bytes.specs.Places.{updates_place, params_place, width_place, height_place, done_place, edges_place, region_place, unsettled_place, first_place, mark_place, check_place, record_length, length_before}
use Rattle.job_bytes.specs.Bytes.{record_bytes, record_read, fresh_bytes}
use Rattle.job_bytes.specs.Check.{intact, whole, RecordBytes, WordApart, ByteApart}
use Rattle.job_bytes.proofs.Reading.{read_misfit, read_job}
use Rattle.job_bytes.proofs.Placing as placing
use Rattle.job_bytes.proofs.Back.{camera_fits, model_back, job_back}
use Rattle.job_bytes.proofs.Beginning.{fresh_zero}
use Rattle.job_bytes.proofs.Caught.{both_intact, record_of_bytes, its_whole, in_a_word}
use Rattle.job_bytes.proofs.read.Reads as read-contract
use Rattle.job_bytes.proofs.whole.Reads as whole-contract
use Rattle.job_bytes.proofs.write.Reads as write-contract
use Rattle.job_bytes.proofs.fresh.Reads as fresh-contract

-- ---- each contract permits one answer, and one buffer

-- Any two answers to one call that the contract of `read` or of `whole` permits are equal.
pub determined : Determined read-contract.Post × Determined whole-contract.Post
determined = (λ κ a s s' r r' p q. p ∙ sym q, λ κ a s s' r r' p q. p ∙ sym q)

-- Any two buffers that the contract of `write` permits after one call are equal, and any two numbers and buffers for `fresh`.
pub determined_buffers : DeterminedWith write-contract.Post (λ κ s. s.1.0.now) × DeterminedWith fresh-contract.Post (λ κ s. s.1.1.1.1.1.0.now)
determined_buffers = (λ κ a s s' r r' p q. (refl, p ∙ sym q), λ κ a s s' r r' p q. both (p ∙ sym q))

-- ---- there and back

-- A record has so many bytes, whatever it holds.
pub length_record : (job : Job) → length (record_bytes job) ≡ record_length
length_record = placing.length_record

-- The places and the length that include/lens.h tells.
pub places :
    (updates_place ≡ 4)
    × (params_place ≡ 8)
    × (width_place ≡ 136)
    × (height_place ≡ 140)
    × (done_place ≡ 144)
    × (edges_place ≡ 152)
    × (region_place ≡ 184)
    × (unsettled_place ≡ 216)
    × (first_place ≡ 220)
    × (mark_place ≡ 224)
    × (check_place ≡ 232)
    × (record_length ≡ 240)
places = (refl, refl, refl, refl, refl, refl, refl, refl, refl, refl, refl, refl)

-- A record of a release of before, which had fewer places for parameters, is refused by its length, with 7.
pub of_before_refused : (bs : List ℕ) → length bs ≡ length_before → record_read bs ≡ Err WrongLength
of_before_refused bs e = sym (read_misfit bs (λ f. omega (arith, e, f)))

-- What a record's bytes can hold: its numbers are f64s, its size, its updates and its tallies have 32 bits at most, its units 64.
pub record Writable (job : Job) : Type 0 where
  pub params : AllFit (parameters job.camera)
  pub edges : FourFit job.at.edges
  pub region : FourFit job.at.region
  pub width : job.width < 2 ^ 32
  pub height : job.height < 2 ^ 32
  pub updates : job.at.updates < 2 ^ 32
  pub unsettled : job.at.unsettled < 2 ^ 32
  pub first : job.at.first < 2 ^ 32
  pub done : job.at.done < 2 ^ 64

-- A record written and read back is the same record.
pub written_read : (job : Job) → Writable job → record_read (record_bytes job) ≡ Ok job
written_read job w =
    sym (read_job (record_bytes job) (length_record job) (omega (arith, model_back job, (camera_known job.camera).0)))
    ∙ ap Ok (job_back job w.params w.edges w.region w.width w.height w.updates w.unsettled w.first w.done)

-- ---- the check word

-- What is written is whole, its mark and its check word right, whatever the record holds.
pub written_whole : (job : Job) → whole (record_bytes job) ≡ true
written_whole = its_whole

-- And it is so many numbers below 256.
pub written_bytes : (job : Job) → RecordBytes (record_bytes job)
written_bytes = record_of_bytes

-- Damage within one word of eight bytes shows: of two records' bytes that are the same outside one of their words, and not the
-- same, at most one is intact. The check word is one of these words.
pub one_word_caught :
    (a b : List ℕ) → RecordBytes a → RecordBytes b → (k : ℕ) → WordApart k a b → intact a ≡ true → intact b ≡ false
one_word_caught a b ra rb k apart ia = by_test (intact b) refl
  where
    by_test : (t : Bool) → intact b ≡ t → t ≡ false
    by_test true e = absurd (apart.other (both_intact a b ra rb k apart.same ia e))
    by_test false e = refl

-- A byte is in one word: what is said of a damaged word holds of a damaged byte.
pub byte_in_word : (place : ℕ) (a b : List ℕ) → ByteApart place a b → WordApart (place / 8) a b
byte_in_word = in_a_word

-- So damage of one byte shows, whichever bits of it: of two records' bytes that differ at one place only, at most one is intact.
pub one_byte_caught :
    (a b : List ℕ) → RecordBytes a → RecordBytes b → (place : ℕ) → ByteApart place a b → intact a ≡ true → intact b ≡ false
one_byte_caught a b ra rb place apart = one_word_caught a b ra rb (place / 8) (byte_in_word place a b apart)

-- ---- a fresh record

fresh_writable : (model : ℕ) (params : List ℕ) (width height m : ℕ) → Sized width height → Writable (fresh_job (camera_of model params) width height (eqb m 1))
fresh_writable model params width height m s = record {
  params = camera_fits model params;
  edges = (of_bits-fits binary64 0, of_bits-fits binary64 0, of_bits-fits binary64 0, of_bits-fits binary64 0);
  region = (of_bits-fits binary64 0, of_bits-fits binary64 0, of_bits-fits binary64 0, of_bits-fits binary64 0);
  width = omega (arith, s.not_wider);
  height = omega (arith, s.not_higher);
  updates = omega arith;
  unsettled = omega arith;
  first = omega arith;
  done = omega arith;
}

-- Where `fresh` returns 0, the buffer holds the record of the camera, size and mark that were handed in with no unit done, one
-- that bytes can hold, and that record is read back out of it.
pub fresh_read :
    (model : ℕ) (params : List ℕ) (width height m : ℕ) (lent : List ℕ) →
    (fresh_bytes model params width height m lent).code ≡ 0 →
    ((fresh_bytes model params width height m lent).answer ≡ record_bytes (fresh_job (camera_of model params) width height (eqb m 1)))
    × Writable (fresh_job (camera_of model params) width height (eqb m 1))
    × (record_read (fresh_bytes model params width height m lent).answer ≡ Ok (fresh_job (camera_of model params) width height (eqb m 1)))
fresh_read model params width height m lent z =
    let says = fresh_zero model params width height m lent z in
    let s = (opened (camera_of model params) width height nowhere says.1).size in
    let w : Writable (fresh_job (camera_of model params) width height (eqb m 1)) = fresh_writable model params width height m s in
    (says.0, w, ap record_read says.0 ∙ written_read (fresh_job (camera_of model params) width height (eqb m 1)) w)

-- There camera and size are taken.
pub fresh_opens_zero :
    (model : ℕ) (params : List ℕ) (width height m : ℕ) (lent : List ℕ) →
    (fresh_bytes model params width height m lent).code ≡ 0 →
    opens_for (camera_of model params) width height nowhere ≡ accepted
fresh_opens_zero model params width height m lent z = (fresh_zero model params width height m lent z).1
