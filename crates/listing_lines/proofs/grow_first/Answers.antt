-- `listing_lines::grow_first` meets its contract. Assumes nothing.
use mathlib.Core.Path.{◌∙◌}
use native.Mathlib.Omega.{arith}
use lib.ListN.{length-take}
use Rattle.decimal.proofs.Digits.{decimal_is, fewest_short}
use Rattle.listing_lines.proofs.Lines.{grown_as}
use Rattle.listing_lines.proofs.grow_first.Goals as goal

pub grow-requires : goal.grow-requires
grow-requires c =
    let k = fewest_short _ _ 20 (omega arith) (omega arith) c.decimal-k.ensures.len in
    (simp length-take (omega arith), simp length-take (omega arith))

pub returns : goal.returns
returns c =
    let d = c.decimal-k.ensures in
    grown_as (d.digits ∙ decimal_is _ _ d.len) c.grow.ensures
