-- What the printer writes for an input (docs/RULES.md, 16): the bytes of all of it. Definitions only.
use Rattle.std.specs.Prelude.{cond, List, ℕ, ltb, length}
use Rattle.put_text.specs.Placed.{Written, written, with_text}
use Rattle.listing_lines.specs.Line.{refused_line}
use Rattle.listing.specs.Read.{listed_text}
use Rattle.printer.specs.Made.{Made, table, no_table, made}

-- a table is listed; a refusal is one line
abbrev pub made_text : Made → List ℕ
made_text (table l) = listed_text l
made_text (no_table n) = refused_line n

unfoldable pub printed : List ℕ → List ℕ
printed input = made_text (made input)

-- room for all of it, whatever the input: 34 bytes a cell
abbrev pub most_printed : ℕ
most_printed = 139264

-- what `print` makes of a buffer, and how many bytes it writes: all at its start, or none where there is no room for
-- the most
abbrev pub print : List ℕ → List ℕ → Written
print input out = cond (ltb (length out) most_printed) (written out 0) (with_text (written out 0) (printed input))
