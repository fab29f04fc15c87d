-- `opencv::are_zeros` meets its contract. The loop's invariant: the numbers from k on decide. Assumes nothing.
use mathlib.Core.Path.{◌≡◌}
use lib.ListN.{drop}
use Rattle.decimal.specs.Text.{all}
use Rattle.params_line.specs.Params.{params_of}
use Rattle.opencv.specs.Moved.{zero_bits}
use Rattle.opencv.proofs.are_zeros.Given as goal

abbrev pub invariant-loop-k : goal.invariant-loop-k
invariant-loop-k l = all zero_bits (drop l.k (params_of l.coeffs)) ≡ all zero_bits (drop 8 (params_of l.coeffs))
