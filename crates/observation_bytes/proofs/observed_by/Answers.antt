-- `observation_bytes::observed_by` meets its contract. Assumes nothing.
use mathlib.Core.Path.{ap, subst, sym, ◌∙◌}
use Prim.Native.Nat.{ℕ, ◌*◌, ◌%◌, ◌≤◌}
use lib.Dec.{eqb}
use lib.ListN.{length}
use Rattle.given.specs.Given.{code}
use Rattle.observation_bytes.specs.Bytes.{each}
use Rattle.observation_bytes.specs.Parts.{seen_bytes}
use Rattle.observation_bytes.proofs.Called.{rounds_most}
use Rattle.observation_bytes.proofs.observed_by.Goals as goal

pub see_each-requires : goal.see_each-requires
see_each-requires c = subst (λ (k : ℕ). 40 * k ≤ length c.args.list.now) (sym c.rounds-count.ensures) (rounds_most c.code-code.result (length c.args.list.now))

pub returns : goal.returns
returns c = let a = c.args in (c.code-code.ensures ∙ ap (λ (n : ℕ). code n (eqb (length a.list.now % 40) 0)) c.refusal_of.ensures, c.see_each.ensures ∙ ap (λ (k : ℕ). each (seen_bytes a.camera) k a.list.now) c.rounds-count.ensures)
