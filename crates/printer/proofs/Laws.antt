-- What a caller may rely on, of the definitions of specs/ and of the contracts of src/. Assumes nothing.
use mathlib.Core.Path.{◌≡◌, sym, ap, ◌∙◌, subst}
use mathlib.Core.Bool.{true, false}
use mathlib.Core.List.{List}
use Rattle.std.proofs.Common.{Result, Ok, Err, Option, Some, None}
use Rattle.lens.specs.declared.Refusal.{Refusal}
use Prim.Native.Nat.{ℕ, ◌*◌, ◌≤◌}
use native.Mathlib.Omega.{arith}
use lib.Ieee.{Float}
use lib.ListN.{length, take}
use Rattle.exact.specs.Determined.{DeterminedWith}
use Rattle.lens.specs.Rows.{first}
use Rattle.lens.proofs.Laws.{number_one_to_one}
use Rattle.camera.specs.declared.Camera.{Camera}
use Rattle.camera_file.specs.Asked.{parsed}
use Rattle.put_text.proofs.Laws.{both}
use Rattle.listing_lines.specs.Line.{refused_line}
use Rattle.listing.specs.Listing.{listing}
use Rattle.listing.specs.Read.{Listed, listed, listed_text, fair, read_listing}
use Rattle.listing.proofs.Laws.{listing_is, listing_read}
use Rattle.turns.specs.Turns.{Said, finished, refused, running}
use Rattle.job.specs.Job.{fresh}
use Rattle.job.specs.declared.Job.{Job}
use Rattle.distortion_table.specs.Answer.{Answer, whole_table}
use Rattle.distortion_table.proofs.Laws.{at_once_ends}
use Rattle.printer.specs.Made.{most_cells, Outcome, a_table, a_refusal, told_built, InRoom, build}
use Rattle.printer.specs.Made.{table, no_table, held, made_in, blank_room, made}
use Rattle.printer.specs.Printed.{made_text, printed, most_printed}
use Rattle.printer.specs.Rows.{printer_rows, built_text, by_rows}
use Rattle.printer.specs.declared.Built.{Built}
use Rattle.printer.proofs.Finished.{answered, Good, start_long, asked_made, made_good, printed_short}
use Rattle.printer.proofs.Order.{Asks, order, none_holds}
use Rattle.printer.proofs.build.Reads as build-contract
use Rattle.printer.proofs.print.Reads as print-contract

-- ---- each contract permits one answer

-- Any two answers to one call that the contract of `print` permits are equal, and so are any two buffers at the return.
pub print_determined : DeterminedWith print-contract.Post (λ κ s. s.1.0.now)
print_determined κ a s s' r r' p q = both (p.0 ∙ sym q.0)

-- the table that is told of
built_of : Built → Outcome → Built
built_of none (a_table width height updates region) = record { width = width; height = height; updates = updates; region = region }
built_of none (a_refusal n) = none

-- What is told of a build's answer determines it.
pub built_one_to_one : (a b : Result Built Refusal) → told_built a ≡ told_built b → a ≡ b
unfolding built_of
built_one_to_one (Ok a) (Ok b) e = ap (λ (o : Outcome). Ok (built_of a o)) e
built_one_to_one (Ok a) (Err q) e = cc
built_one_to_one (Err q) (Ok b) e = cc
built_one_to_one (Err q) (Err r) e = ap Err (number_one_to_one q r cc)

-- Any two answers to one call that the contract of `build` permits are equal, and so are any two rooms at the return.
pub build_determined : DeterminedWith build-contract.Post (λ κ s. s.1.0.now)
build_determined κ a s s' r r' p q =
    let e = p.0 ∙ sym q.0 in
    (built_one_to_one r r' (ap (λ (b : InRoom). b.outcome) e), ap (λ (b : InRoom). b.room) e)

-- ---- what a text comes to

-- With what `build` answers, the room that was zeros holds what the text comes to: the table's numbers are its first.
pub build_made :
    (κ : _) (a : _) (r : Result Built Refusal) (s : _) →
    build-contract.Post κ a r s →
    a.1.0.now ≡ blank_room →
    held (told_built r) s.1.0.now ≡ made a.0.now
unfolding made
build_made κ a r s p e = ap made_in p.0 ∙ ap (λ (room : List Float). made_in (build a.0.now room)) e

-- What is printed is its listing where it is a table,
pub made_listed : (input : List ℕ) (l : Listed) → made input ≡ table l → printed input ≡ listed_text l
unfolding printed
made_listed input l e = ap made_text e

-- and the refusal's line where it is none.
pub made_refused : (input : List ℕ) (n : ℕ) → made input ≡ no_table n → printed input ≡ refused_line n
unfolding printed
made_refused input n e = ap made_text e

-- A table that a text comes to is one that a listing may tell,
pub made_fair : (input : List ℕ) (l : Listed) → made input ≡ table l → fair l ≡ true
made_fair input l e = let g = subst Good e (made_good input) in g.fairly

-- of at most 4,096 cells;
pub made_few : (input : List ℕ) (l : Listed) → made input ≡ table l → l.header.width * l.header.height ≤ most_cells
made_few input l e = let g = subst Good e (made_good input) in g.few

-- and from what is printed of it, it is read back.
pub made_read : (input : List ℕ) (l : Listed) → made input ≡ table l → read_listing (printed input) ≡ Some l
made_read input l e = ap read_listing (made_listed input l e) ∙ listing_read l (made_fair input l e)

-- The number of a refusal is at most 19.
pub made_number : (input : List ℕ) (n : ℕ) → made input ≡ no_table n → n ≤ 19
made_number input n e = subst Good e (made_good input)

-- ---- all that is printed

-- All that is printed has room in a buffer of OUTPUT bytes, whatever the input: 34 bytes for each of 4,096 cells.
pub fits : (input : List ℕ) → length (printed input) ≤ most_printed
fits = printed_short

-- What is printed for any input: the line with the number of the first row that holds, of 14, 1, 3, 4, 5, 6 for a side,
-- 6 for more than 4,096 cells; and where none holds, what the build says.
pub printed_order : (input : List ℕ) → printed input ≡ by_rows (first (printer_rows input)) (built_text (parsed input))
printed_order = order

-- Where none holds, the input is a camera file that asks for a table of at most 4,096 cells, and a build of it begins:
-- what follows holds of it.
pub printed_asks : (input : List ℕ) → first (printer_rows input) ≡ 0 → Asks input
printed_asks = none_holds

-- ---- an input that asks for a table

module _ (input : List ℕ) (camera : Camera) (width height : ℕ) (asks : parsed input ≡ Ok record { camera = camera; width = width; height = height })
    (job : Job) (begin : fresh camera width height false ≡ Ok job)
    (cells-few : width * height ≤ most_cells) where
  -- the table that it asks for, built at once
  abbrev pub built : Answer Float
  built = whole_table camera width height (take (2 * (width * height)) blank_room)

  -- and what a listing tells of it
  abbrev pub built_listed : Listed
  built_listed = listed width height built.job.at.updates built.job.at.region built.cells

  comes_to : (said : Said) → built.said ≡ said → made input ≡ answered said built
  comes_to said e =
      asked_made camera width height job begin cells-few input asks ∙ ap (λ (s : Said). answered s built) e

  -- A table that is finished is what the text comes to.
  pub made_finished : built.said ≡ finished → made input ≡ table built_listed
  made_finished = comes_to finished

  -- A table that is finished is printed as its listing.
  pub printed_listing :
      built.said ≡ finished →
      printed input ≡ listing width height built.job.at.updates built.job.at.region built.cells
  printed_listing e =
      made_listed input built_listed (made_finished e)
      ∙ sym (listing_is width height built.job.at.updates built.job.at.region built.cells)

  -- One that a unit refuses is printed as that refusal's line, and nothing of the table is.
  pub printed_refused : (n : ℕ) → built.said ≡ refused n → printed input ≡ refused_line n
  printed_refused n e = made_refused input n (comes_to (refused n) e)

  -- It is the one or the other: the build ends.
  pub printed_ends : built.said ≡ running → ⊥
  printed_ends =
      at_once_ends camera width height job begin (take (2 * (width * height)) blank_room)
      (start_long camera width height job begin cells-few)

  -- From what is printed of a finished table its size and updates are read back, and every bit of its region and cells.
  pub printed_read :
      built.said ≡ finished →
      read_listing (printed input)
      ≡ Some (listed width height built.job.at.updates built.job.at.region built.cells)
  printed_read e = made_read input built_listed (made_finished e)
