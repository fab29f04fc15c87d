-- `region_bytes::box_at` meets its contract. Each edge at its place. Assumes nothing.
use mathlib.Core.Path.{refl}
use Rattle.region_bytes.proofs.box_at.Goals as goal

pub returns : goal.returns
returns c = rw (c.float.ensures, c.float-2.ensures, c.float-3.ensures, c.float-4.ensures) refl
