-- What is printed of a camera file's text and of the text of a listing that may be damaged (docs/RULES.md, 16).
-- Definitions only.
use Rattle.std.specs.Prelude.{cond, List, ℕ, leb, length}
use Rattle.put_text.specs.Placed.{Written, written, with_text, joined}
use Rattle.listing_lines.specs.Line.{refused_line}
use Rattle.listing.specs.Read.{lines}
use Rattle.printer.specs.Made.{Made, table, no_table, made}
use Rattle.mending.specs.Mended.{mended_listing, mended_lines}
use Rattle.mending.specs.Written.{most_mended}

-- the mended listing of the table that the camera file asks for, and the report; or the printer's refusal alone
abbrev pub mended_text : Made → List (List ℕ) → List ℕ
mended_text (table fresh) texts = joined (mended_lines fresh texts)
mended_text (no_table n) texts = refused_line n

unfoldable pub mended : List ℕ → List ℕ → List ℕ
mended input text = mended_text (made input) (lines text)

-- the first part of it, without the report
abbrev pub listing_part : Made → List (List ℕ) → List ℕ
listing_part (table fresh) texts = joined (mended_listing fresh texts)
listing_part (no_table n) texts = refused_line n

-- what `mend` makes of a buffer, and how many bytes it writes: all at its start, or none where there is no room for
-- the most
abbrev pub mend : List ℕ → List ℕ → List ℕ → Written
mend input text out =
    cond (leb most_mended (length out)) (with_text (written out 0) (mended input text)) (written out 0)
