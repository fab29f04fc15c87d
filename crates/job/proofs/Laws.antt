-- What a caller may rely on, of the definitions of specs/ and of the contracts of src/. Assumes nothing.
use mathlib.Core.Path.{◌≡◌, sym, ap, ◌∙◌}
use Rattle.std.specs.declared.result.Result.{Result}
use Rattle.std.specs.declared.result.Result.TheVariants.{Ok, Err}
use Rattle.lens.specs.declared.Refusal.{Refusal}
use mathlib.Core.Bool.{Bool}
use Prim.Native.Nat.{ℕ}
use native.Mathlib.Omega.{arith}
use Rattle.exact.specs.Determined.{Determined}
use Rattle.lens.specs.Judgement.{verdict}
use Rattle.lens.specs.Rows.{first}
use Rattle.lens.proofs.Laws.{number_one_to_one, verdict_one_to_one}
use Rattle.camera.specs.declared.Camera.{Camera}
use Rattle.job.specs.Job.{fresh, told_started, begun_number, admitted}
use Rattle.job.specs.Rows.{fresh_rows, turn_rows}
use Rattle.job.specs.declared.Job.{Job}
use Rattle.job.proofs.Numbers as rows
use Rattle.job.proofs.admitted.Reads as admitted-contract
use Rattle.job.proofs.begun.Reads as begun-contract
use Rattle.job.proofs.fresh.Reads as fresh-contract

-- ---- each contract permits one answer

-- What `fresh` tells determines its answer.
pub started_one_to_one : (a b : Result Job Refusal) → told_started a ≡ told_started b → a ≡ b
started_one_to_one (Ok j) (Ok k) e = ap Ok (cc)
started_one_to_one (Ok j) (Err r) e = let z : ◌≡◌ {A = ℕ} 0 1 = cc in absurd (omega arith)
started_one_to_one (Err q) (Ok k) e = let z : ◌≡◌ {A = ℕ} 0 1 = cc in absurd (omega arith)
started_one_to_one (Err q) (Err r) e = ap Err (number_one_to_one q r (cc))

-- Any two answers to one call that the contract of `fresh` permits are equal; and so for `begun`
pub fresh_determined : Determined fresh-contract.Post
fresh_determined κ a s s' r r' p q = p ∙ sym q

pub begun_determined : Determined begun-contract.Post
begun_determined κ a s s' r r' p q = p ∙ sym q

-- and `admitted`.
pub admitted_determined : Determined admitted-contract.Post
admitted_determined κ a s s' r r' p q = p ∙ sym q

-- ---- which records are taken

-- A record is refused before any unit with 4, 5, 6, 7 or 13 exactly when the table of refusals says so, the first row
-- that holds; 13 is given for the records that no build can have, and no others.
pub admitted_number : (job : Job) (places : ℕ) → verdict (admitted job places) ≡ first (turn_rows job places)
admitted_number = rows.admitted_number

-- `fresh` refuses with 4, 5 or 6 exactly when the table says so, the first row that holds; 0 stands for a record.
pub fresh_number :
    (camera : Camera) (width height : ℕ) (strict : Bool)
    → begun_number (told_started (fresh camera width height strict)) ≡ first (fresh_rows camera width height)
fresh_number = rows.fresh_number
