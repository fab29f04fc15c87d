-- `listing_lines::read_table` meets its contract. Assumes nothing.
use mathlib.Core.Path.{◌∙◌}
use Rattle.listing_lines.proofs.Guess.{table_guessed}
use Rattle.listing_lines.proofs.read_table.Goals as goal

pub returns : goal.returns
returns c =
    c.then_some.ensures ∙ table_guessed _ _ _ _ c.single.ensures c.single-2.ensures c.single-3.ensures _ c.is_table.ensures
