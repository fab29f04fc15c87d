-- What a caller may rely on, of the definitions of specs/ and of the contracts of src/. Assumes nothing.
use mathlib.Core.Path.{◌≡◌, refl, sym, ap, ap₂, ◌∙◌}
use Rattle.std.specs.declared.result.Result.TheVariants.{Ok, Err}
use Prim.Native.Nat.{ℕ}
use native.Mathlib.Omega.{arith}
use Rattle.exact.specs.Determined.{Determined}
use Rattle.lens.specs.Judgement.{Judgement}
use Rattle.lens.proofs.Laws.{number_one_to_one}
use Rattle.turns.specs.Turns.{Turn}
use Rattle.plans.specs.declared.Progress.{Progress}
use Rattle.sweep.specs.Sweep.{told_refusal, told_stop}
use Rattle.sweep.specs.declared.Stop.{Stop}
use Rattle.sweep.proofs.due.Reads as due-contract
use Rattle.sweep.proofs.sweep.Reads as sweep-contract

-- ---- each contract permits one answer

refusal_one_to_one : (a b : Judgement) → told_refusal a ≡ told_refusal b → a ≡ b
refusal_one_to_one (Ok _) (Ok _) e = refl
refusal_one_to_one (Ok _) (Err r) e = let z : ◌≡◌ {A = ℕ} 0 1 = cc in absurd (omega arith)
refusal_one_to_one (Err q) (Ok _) e = let z : ◌≡◌ {A = ℕ} 0 1 = cc in absurd (omega arith)
refusal_one_to_one (Err q) (Err r) e = ap Err (number_one_to_one q r (cc))

-- What a run tells determines its answer.
pub stop_one_to_one : (a b : Stop) → told_stop a ≡ told_stop b → a ≡ b
stop_one_to_one a b e =
    ap₂ (λ (at : Progress) (j : Judgement). record { at = at; refusal = j }) (ap (λ (t : Turn Progress). t.state) e)
    (refusal_one_to_one a.refusal b.refusal (ap (λ (t : Turn Progress). t.said) e))

-- Any two answers to one call that the contract of `sweep` permits are equal, and so for `due`.
pub determined : Determined sweep-contract.Post × Determined due-contract.Post
determined = (λ κ a s s' r r' p q. stop_one_to_one r r' (p ∙ sym q), λ κ a s s' r r' p q. p ∙ sym q)
