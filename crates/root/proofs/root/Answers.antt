-- `root::root` meets its contract: one lemma of proofs/Signs.antt for each way through its tests. Assumes nothing.
use mathlib.Core.Path.{sym, ap, ◌∙◌, subst}
use lib.Dec.{T}
use lib.Ieee.{binary64, of_bits, div}
use lib.Ieee.Bits.{of_bits-to_bits}
use Rattle.root.specs.Root.{root}
use Rattle.root.proofs.Signs.{above_no_nan, above_bits, above_all, below, neither}
use Rattle.root.proofs.root.Goals as goal

pub float_to_bits-bits : goal.float_to_bits-bits
float_to_bits-bits c = above_no_nan c.args.x c.if-x.true

pub above_zero-requires : goal.above_zero-requires
above_zero-requires c = (above_bits c.args.x (subst T (sym c.well_formed.0.1) tt) c.if-x.true, c.if-bits-lt-INFINITY.true)

pub returns-then-bits-lt-INFINITY : goal.returns-then-bits-lt-INFINITY
returns-then-bits-lt-INFINITY c = c.above_zero.ensures ∙ ap root (of_bits-to_bits binary64 c.args.x (subst T (sym c.well_formed.0.1) tt))

pub returns-then-x : goal.returns-then-x
returns-then-x c = above_all c.args.x (subst T (sym c.well_formed.0.1) tt) c.if-x.true c.if-bits-lt-INFINITY.false

pub returns-then-x-2 : goal.returns-then-x-2
unfolding of_bits div
returns-then-x-2 c = below c.args.x c.if-x-2.true

pub returns : goal.returns
returns c = neither c.args.x c.if-x.false c.if-x-2.false
