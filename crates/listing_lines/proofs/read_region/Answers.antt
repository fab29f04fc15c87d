-- `listing_lines::read_region` meets its contract. Assumes nothing.
use mathlib.Core.Path.{◌∙◌}
use borrow.Author.Rules.{rules}
use Rattle.listing_lines.proofs.Guess.{region_guessed}
use Rattle.listing_lines.proofs.read_region.Goals as goal

pub returns : goal.returns
returns c =
    c.then_some.ensures
    ∙ region_guessed _ _ _ _ _ (search rules) (search rules) (search rules) (search rules) c.numeral.ensures c.numeral-2.ensures c.numeral-3.ensures c.numeral-4.ensures _ c.is_region.ensures
