-- What is printed of what a camera file comes to: its table is one that a listing may tell of. Assumes nothing.
use mathlib.Core.Path.{◌≡◌, refl, ap}
use mathlib.Core.Bool.{true}
use mathlib.Core.List.{List}
use Prim.Native.Nat.{ℕ}
use Rattle.put_text.specs.Placed.{joined}
use Rattle.listing.specs.Read.{lines, Listed, listed_text, fair}
use Rattle.listing.proofs.Fair.{is_fair}
use Rattle.printer.specs.Made.{Made, table, no_table, made}
use Rattle.printer.specs.Printed.{made_text}
use Rattle.printer.proofs.Laws.{made_fair}
use Rattle.mending.specs.Mended.{mended_lines}
use Rattle.mending.specs.Texts.{mended_text, mended, listing_part}
use Rattle.mending.proofs.Again.{listing_twice, lines_thrice, lines_fresh}

abbrev pub Good : Made → Type 0
Good (table fresh) = fair fresh ≡ true
Good (no_table n) = Unit {0}

pub good : (input : List ℕ) → Good (made input)
good input = by_made (made input) refl
  where
    by_made : (m : Made) → made input ≡ m → Good m
    by_made (table fresh) e = made_fair input fresh e
    by_made (no_table n) e = tt

pub comes_back : (m : Made) → Good m → mended_text m (lines (made_text m)) ≡ made_text m
unfolding listed_text
comes_back (table fresh) f = ap joined (lines_fresh fresh (is_fair fresh f))
comes_back (no_table n) f = refl

pub same_part : (m : Made) → Good m → (texts : List (List ℕ)) → listing_part m (lines (mended_text m texts)) ≡ listing_part m texts
same_part (table fresh) f texts = ap joined (listing_twice fresh (is_fair fresh f) texts)
same_part (no_table n) f texts = refl

pub settles :
    (m : Made) →
    Good m →
    (texts : List (List ℕ)) →
    (let once = lines (mended_text m texts) in mended_text m (lines (mended_text m once)) ≡ mended_text m once)
settles (table fresh) f texts = ap joined (lines_thrice fresh (is_fair fresh f) texts)
settles (no_table n) f texts = refl

pub of_table :
    (input text : List ℕ) (fresh : Listed) →
    made input ≡ table fresh →
    mended input text ≡ joined (mended_lines fresh (lines text))
unfolding mended
of_table input text fresh e = ap (λ (m : Made). mended_text m (lines text)) e
