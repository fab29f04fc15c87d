-- `observation_bytes::see` meets its contract. Assumes nothing.
use mathlib.Core.Path.{ap, ap₂, ◌∙◌}
use lib.Ieee.{Float, of_bits}
use Prim.Native.Nat.{◌+◌}
use Rattle.little_endian.specs.Bytes.{put}
use Rattle.observations.specs.Observations.{seen}
use Rattle.observations.specs.declared.Observation.{Observation}
use Rattle.observation_bytes.specs.Bytes.{found_bytes}
use Rattle.observation_bytes.specs.Parts.{blank}
use Rattle.observation_bytes.proofs.see.Goals as goal

pub returns : goal.returns
unfolding of_bits
returns c = let a = c.args in c.put_found.ensures ∙ ap (λ (o : Observation). put (a.at + 16) (found_bytes o) a.list.now) (c.seen-found.ensures ∙ ap₂ (λ (u v : Float). seen a.camera (blank record { 0 = u; 1 = v })) c.float.ensures c.float-2.ensures)
