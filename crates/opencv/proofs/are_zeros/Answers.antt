-- `opencv::are_zeros` meets its contract. Assumes nothing.
use mathlib.Core.Bool.{not}
use mathlib.Core.Path.{ap, ◌∙◌}
use native.Mathlib.Omega.{arith}
use Rattle.decimal.proofs.Bytes.{ends, goes_on, at_end}
use Rattle.params_line.specs.Params.{params_of}
use Rattle.params_line.proofs.Params.{params_length}
use Rattle.opencv.specs.Moved.{zero_bits}
use Rattle.opencv.proofs.are_zeros.Goals as goal

pub returns-then-not-is_zero : goal.returns-then-not-is_zero
returns-then-not-is_zero c = ends zero_bits (params_of c.args.coeffs.now) c.loop-k.k (omega (arith, c.loop-k-test.true, c.many-n.ensures, params_length c.args.coeffs.now)) _ (c.is_zero.ensures ∙ ap zero_bits c.bits_at.ensures) (ap not c.if-not-is_zero.true) c.loop-k.invariant

pub loop-k-preserved : goal.loop-k-preserved
loop-k-preserved c = goes_on zero_bits (params_of c.args.coeffs.now) c.loop-k.k (omega (arith, c.loop-k-test.true, c.many-n.ensures, params_length c.args.coeffs.now)) _ (c.is_zero.ensures ∙ ap zero_bits c.bits_at.ensures) (ap not c.if-not-is_zero.false) c.loop-k.invariant

pub returns : goal.returns
returns c = at_end zero_bits (params_of c.args.coeffs.now) c.loop-k.k (omega (arith, c.loop-k-test.false, c.many-n.ensures, params_length c.args.coeffs.now)) ∙ c.loop-k.invariant
