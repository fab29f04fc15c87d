-- `observation_bytes::put_found` meets its contract. Assumes nothing.
use mathlib.Core.Path.{ap, ap₂, ◌∙◌}
use mathlib.Core.List.{List}
use Prim.Native.Nat.{ℕ, ◌+◌}
use Rattle.little_endian.specs.Bytes.{bytes, put}
use Rattle.observation_bytes.proofs.Pass.{found_put}
use Rattle.observation_bytes.proofs.put_found.Goals as goal

pub returns : goal.returns
returns c = let a = c.args in c.put-2.ensures ∙ ap (put (a.at + 17) (bytes 1 a.found.number)) (c.put.ensures ∙ ap₂ (λ (w : ℕ) (l : List ℕ). put (a.at + 16) (bytes 1 w) l) c.flag_number.ensures c.put_floats.ensures) ∙ found_put a.found a.list.now a.at c.requires
