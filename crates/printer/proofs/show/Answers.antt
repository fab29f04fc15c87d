-- `printer::show` meets its contract. Assumes nothing.
use mathlib.Core.Path.{◌≡◌, sym, ap, ◌∙◌, subst}
use mathlib.Core.List.{List}
use Prim.Native.Nat.{ℕ, ◌*◌, ◌≤◌}
use native.Mathlib.Omega.{arith}
use lib.Ieee.{Float}
use lib.ListN.{length, take}
use lib.Seq.{length-take-le}
use Rattle.lens.specs.Refusal.{number}
use Rattle.lens.specs.declared.Refusal.{Refusal}
use Rattle.std.proofs.Common.{Result, Ok, Err}
use Rattle.region.specs.declared.Region.{Region}
use Rattle.put_text.specs.Placed.{Written, written, with_text, placed, placed_all}
use Rattle.put_text.proofs.Putting.{is_placed}
use Rattle.listing_lines.specs.Line.{refused_line}
use Rattle.listing.specs.Listing.{listing_lines, listing}
use Rattle.listing.specs.Read.{listed, listed_text}
use Rattle.listing.proofs.Laws.{listing_is, listing_in_place}
use Rattle.printer.specs.Made.{most_cells, told_built, HasRoom, held}
use Rattle.printer.specs.Printed.{made_text}
use Rattle.printer.specs.declared.Built.{Built}
use Rattle.printer.proofs.show.Goals as goal

-- the bytes of what was built, and a buffer with them at its start
abbrev text_of : Result Built Refusal → List Float → List ℕ
text_of built room = made_text (held (told_built built) room)

one_put : (out text : List ℕ) → length text ≤ length out → placed (written out 0) text ≡ with_text (written out 0) text
one_put out text h = is_placed out 0 text (omega arith)

listing_put :
    (out : List ℕ) (width height updates : ℕ) (region : Region) (table : List Float) →
    length (listed_text (listed width height updates region table)) ≤ length out →
    placed_all (written out 0) (listing_lines width height updates region table)
    ≡ with_text (written out 0) (listed_text (listed width height updates region table))
listing_put out width height updates region table h =
    let text = listing width height updates region table in
    let same = listing_is width height updates region table in
    let fits : length text ≤ length out = subst (λ (t : List ℕ). length t ≤ length out) (sym same) h in
    listing_in_place out 0 width height updates region table (omega arith)
    ∙ one_put out text fits
    ∙ ap (with_text (written out 0)) same

-- so with what the calls leave
refusal_shown :
    (out : List ℕ) (room : List Float) (built : Result Built Refusal) (r : Refusal) (w : Written) →
    built ≡ Err r →
    length (text_of built room) ≤ length out →
    w ≡ placed (written out 0) (refused_line (number r)) →
    w ≡ with_text (written out 0) (text_of built room)
refusal_shown out room built r w same fits e =
    let short = subst (λ (b : Result Built Refusal). length (text_of b room) ≤ length out) same fits in
    e
    ∙ one_put out (refused_line (number r)) short
    ∙ ap (λ (b : Result Built Refusal). with_text (written out 0) (text_of b room)) (sym same)

table_shown :
    (out : List ℕ) (room : List Float) (built : Result Built Refusal) (width height updates : ℕ) (region : Region) (w : Written) →
    built ≡ Ok record { width = width; height = height; updates = updates; region = region } →
    length (text_of built room) ≤ length out →
    w ≡ placed_all (written out 0) (listing_lines width height updates region (take (2 * (width * height)) room)) →
    w ≡ with_text (written out 0) (text_of built room)
table_shown out room built width height updates region w same fits e =
    let short = subst (λ (b : Result Built Refusal). length (text_of b room) ≤ length out) same fits in
    e
    ∙ listing_put out width height updates region (take (2 * (width * height)) room) short
    ∙ ap (λ (b : Result Built Refusal). with_text (written out 0) (text_of b room)) (sym same)

-- a table that is shown has cells for which there is room
few : (built : Result Built Refusal) (width height updates : ℕ) (region : Region) → built ≡ Ok record { width = width; height = height; updates = updates; region = region } → HasRoom (told_built built) → width * height ≤ most_cells
few built width height updates region same h = let room = subst (λ (b : Result Built Refusal). HasRoom (told_built b)) same h in room.1

pub overflow_mul-n : goal.overflow_mul-n
overflow_mul-n c = omega (arith, few _ _ _ _ _ c.in-Ok.is c.requires.has_room.0)

pub overflow_mul-n-in-Ok : goal.overflow_mul-n-in-Ok
overflow_mul-n-in-Ok c = omega (arith, few _ _ _ _ _ c.in-Ok.is c.requires.has_room.0)

pub slice_bounds-write_listing-end : goal.slice_bounds-write_listing-end
slice_bounds-write_listing-end c = sym (length-take-le _ _ (omega (arith, few _ _ _ _ _ c.in-Ok.is c.requires.has_room.0, c.requires.has_room.1)))

pub returns-in-Err : goal.returns-in-Err
returns-in-Err c =
    let a = c.args in
    refusal_shown a.out.now a.room.now a.built _ _ c.in-Err.is c.requires.room_in_bounds c.refused_line.ensures

pub returns-in-Ok : goal.returns-in-Ok
returns-in-Ok c =
    let a = c.args in
    table_shown a.out.now a.room.now a.built _ _ _ _ _ c.in-Ok.is c.requires.room_in_bounds c.write_listing.ensures
