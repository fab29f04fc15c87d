-- `narrow::narrow` meets its contract: each of its ways gives the nearest f32, by the tests that lead there. Assumes nothing.
use mathlib.Core.Path.{sym, ap, subst}
use lib.Dec.{T}
use lib.Ieee.{div, of_bits}
use Rattle.exact.proofs.Tests.{no_nan, is_nan_lem}
use Rattle.narrow.specs.Narrow.{narrowed}
use Rattle.narrow.proofs.Ways.{as_usual, as_past, as_small}
use Rattle.narrow.proofs.narrow.Goals as goal

pub float_to_float-result : goal.float_to_float-result
float_to_float-result c =
    let s = c in
    (as_past s.args.x (subst T (sym s.well_formed.0.1) tt) c.if-square.true c.if-square-2.true).holds

pub returns-then-square-2 : goal.returns-then-square-2
returns-then-square-2 c =
    let s = c in
    (as_past s.args.x (subst T (sym s.well_formed.0.1) tt) c.if-square.true c.if-square-2.true).is

pub float_to_bits-power : goal.float_to_bits-power
float_to_bits-power c = (as_usual c.args.x (subst T (sym c.well_formed.0.1) tt) c.if-square.true c.if-square-2.false).product

pub float_from_bits-power : goal.float_from_bits-power
float_from_bits-power c = (as_usual c.args.x (subst T (sym c.well_formed.0.1) tt) c.if-square.true c.if-square-2.false).pattern

pub float_to_float-result-then-square : goal.float_to_float-result-then-square
float_to_float-result-then-square c =
    let s = c in
    (as_usual s.args.x (subst T (sym s.well_formed.0.1) tt) c.if-square.true c.if-square-2.false).nearest_is.holds

pub returns-then-square : goal.returns-then-square
returns-then-square c =
    let s = c in
    (as_usual s.args.x (subst T (sym s.well_formed.0.1) tt) c.if-square.true c.if-square-2.false).nearest_is.is

pub returns-then-x : goal.returns-then-x
unfolding of_bits div narrowed
returns-then-x c = ap narrowed (is_nan_lem c.args.x c.if-x.true)

pub float_to_float-result-2 : goal.float_to_float-result-2
float_to_float-result-2 c =
    let s = c in
    (as_small s.args.x (subst T (sym s.well_formed.0.1) tt) (no_nan s.args.x c.if-x.false) c.if-square.false).holds

pub returns : goal.returns
returns c =
    let s = c in
    (as_small s.args.x (subst T (sym s.well_formed.0.1) tt) (no_nan s.args.x c.if-x.false) c.if-square.false).is
