-- `listing_lines::read_cell` meets its contract. Assumes nothing.
use mathlib.Core.Path.{◌∙◌}
use Rattle.listing_lines.proofs.Guess.{cell_guessed}
use Rattle.listing_lines.proofs.read_cell.Goals as goal

pub returns : goal.returns
returns c =
    c.then_some.ensures
    ∙ cell_guessed _ _ _ _ _ c.single.ensures c.single-2.ensures c.single-3.ensures c.single-4.ensures _ c.is_cell.ensures
