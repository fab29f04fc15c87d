-- `camera_bytes::raw` meets its contract. Assumes nothing.
use native.Mathlib.Omega.{arith}
use Rattle.exact.proofs.Tests.{number_pattern}
use Rattle.camera_bytes.proofs.raw.Goals as goal

pub float_from_bits-result : goal.float_from_bits-result
float_from_bits-result c = number_pattern c.args.bits (omega (arith, c.requires))
