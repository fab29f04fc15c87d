-- `root::pair` meets its contract: one law for each of its two digits (proofs/Step.antt). Assumes nothing.
use native.Mathlib.Omega.{arith}
use Rattle.root.specs.Digits.{number}
use Rattle.root.proofs.Step.{first, second}
use Rattle.root.proofs.pair.Goals as goal

pub overflow_add-cost : goal.overflow_add-cost
overflow_add-cost c = let h = first c.args.to c.args.from c.args.p c.digit-half.result c.requires.0 c.requires.1 c.digit-half.ensures in omega (arith, h.room)

pub overflow_add-cost-2 : goal.overflow_add-cost-2
overflow_add-cost-2 c = let h = first c.args.to c.args.from c.args.p c.digit-half.result c.requires.0 c.requires.1 c.digit-half.ensures in omega (arith, h.room)

pub returns : goal.returns
returns c = let s = c in second s.args.to (number s.args.from s.args.p) c.digit-half.result c.digit.result (first c.args.to c.args.from c.args.p c.digit-half.result c.requires.0 c.requires.1 c.digit-half.ensures) c.digit.ensures
