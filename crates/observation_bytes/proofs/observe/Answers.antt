-- `observation_bytes::observe` meets its contract. Assumes nothing.
use mathlib.Core.Path.{ap, sym, ◌∙◌}
use Prim.Native.Nat.{ℕ, ◌%◌}
use lib.Dec.{eqb}
use lib.ListN.{length}
use Rattle.given.specs.Given.{code}
use Rattle.observation_bytes.specs.Bytes.{observe_bytes}
use Rattle.observation_bytes.proofs.Called.{by_camera, by_none}
use Rattle.observation_bytes.proofs.observe.Goals as goal

pub returns-in-Ok : goal.returns-in-Ok
unfolding observe_bytes
returns-in-Ok c = by_camera _ c.args.list.now _ _ _ (sym c.read.ensures ∙ c.in-Ok.is) c.observed_by.ensures.0 c.observed_by.ensures.1

pub returns-in-Err : goal.returns-in-Err
unfolding observe_bytes
returns-in-Err c = by_none _ c.args.list.now _ _ (sym c.read.ensures ∙ c.in-Err.is) (c.code.ensures ∙ ap (λ (n : ℕ). code n (eqb (length c.args.list.now % 40) 0)) c.number.ensures)
