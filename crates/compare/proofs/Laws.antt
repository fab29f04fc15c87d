-- What a caller may rely on, of the definitions of specs/ and of the contracts of src/. Assumes nothing.
use mathlib.Core.Path.{◌≡◌, refl, sym, ap, ap₂, ◌∙◌}
use mathlib.Core.Bool.{true, false, cond}
use mathlib.Core.List.{List, [], ◌∷◌, ◌++◌, append-nil}
use Rattle.std.proofs.Common.{Option, Some, None, is_some}
use Prim.Native.Nat.{ℕ, ◌+◌, ◌*◌, ◌-◌}
use native.Mathlib.Omega.{arith}
use borrow.Author.Tests.{eq-eqb, eqb-true}
use lib.Dec.{eqb}
use lib.ListN.{length, take, drop}
use Rattle.exact.specs.Determined.{Determined, DeterminedWith}
use Rattle.decimal.specs.Decimal.{places, decimal}
use Rattle.decimal.proofs.Bytes.{same_self}
use Rattle.put_text.specs.Placed.{joined}
use Rattle.put_text.proofs.Laws.{both}
use Rattle.listing_lines.specs.Line.{line, count_line, refused_line}
use Rattle.listing_lines.specs.Read.{header_text, edges_text}
use Rattle.listing_lines.proofs.Reading.{both_true}
use Rattle.listing.specs.Listing.{each}
use Rattle.listing.specs.Read.{Listed, listed_text, fair, read_listing}
use Rattle.listing.proofs.Fair.{is_fair}
use Rattle.listing.proofs.Laws.{listing_read, only_listing}
use Rattle.compare.specs.Report.{both_lines, differing, told_at, one_size, report, report_or_refusal, compared}
use Rattle.compare.specs.Judged.{longest, line_end, complete, cut, judged, whole}
use Rattle.compare.specs.Told.{by_lines}
use Rattle.compare.specs.declared.Judging.TheVariants.{Start}
use Rattle.compare.proofs.Ahead as ahead
use Rattle.compare.proofs.Exactly.{each_differing, none_differing}
use Rattle.compare.proofs.Equal.{equal_texts, refused_unread}
use Rattle.compare.proofs.Texts.{whole_exactly, lines_compared}
use Rattle.compare.proofs.line_end.Reads as line-end-contract
use Rattle.compare.proofs.start.Reads as start-contract
use Rattle.compare.proofs.step.Reads as step-contract
use Rattle.compare.proofs.whole.Reads as whole-contract
use Rattle.compare.proofs.verdict.Reads as verdict-contract
use Rattle.compare.proofs.compare.Reads as compare-contract
use Rattle.compare.proofs.counted.Reads as counted-contract
use Rattle.compare.proofs.tell.Reads as tell-contract

-- ---- what is printed is a function of the two texts

-- Judging both texts line by line, and comparing them line by line where both are taken, prints what the definition
-- says of the two texts, whatever bytes they are.
pub prints : (old new : List ℕ) → by_lines old new ≡ compared old new
prints = lines_compared

-- A text is taken by the judge exactly if it is a whole listing: if it is read.
pub judge_exactly : (text : List ℕ) → whole (judged Start (cut longest text)) ≡ is_some (read_listing text)
judge_exactly = whole_exactly

-- So the judge takes what is written of anything that a listing may tell: with `printed_read`, all that the printer
-- prints of a finished table.
pub printed_taken : (l : Listed) → fair l ≡ true → whole (judged Start (cut longest (listed_text l))) ≡ true
printed_taken l f = whole_exactly (listed_text l) ∙ ap (λ (o : Option Listed). is_some o) (listing_read l f)

-- ---- the report

module _ (old new : List ℕ) (l m : Listed) (e : read_listing old ≡ Some l) (f : read_listing new ≡ Some m) where
  -- Of two listings of other sizes there is only the line that says 15.
  pub sizes_differ : one_size l.header m.header ≡ false → compared old new ≡ refused_line 15
  unfolding compared joined
  sizes_differ s = simp (e, f, s) (append-nil (refused_line 15))

  -- Of two of one size, what is printed is: the table's lines and the region's where they differ, the old one first;
  -- the line of each of the w·h cells whose bits differ, cell k standing in column k mod w and row k div w, in the
  -- order of k, each once; and the number of those cells.
  pub exactly_the_differing :
      one_size l.header m.header ≡ true →
      (let cells = each (told_at l.header.width l.cells m.cells) 0 (l.header.width * l.header.height) in
      compared old new
      ≡ joined
      (both_lines (header_text l.header) (header_text m.header)
      ++ (both_lines (edges_text l.edges) (edges_text m.edges) ++ (cells ++ (count_line (length cells) ∷ [])))))
  unfolding compared report
  exactly_the_differing s =
      let w = l.header.width in
      let h = l.header.height in
      let fl = is_fair l (only_listing old l e).1 in
      let fm = is_fair m (only_listing new m f).1 in
      let x = both_true (eqb w m.header.width) _ s in
      let n : length m.cells ≡ 2 * (w * h) =
      fm.count ∙ ap₂ (λ (p q : ℕ). 2 * (p * q)) (sym (eqb-true w m.header.width x.0))
      (sym (eqb-true h m.header.height x.1)) in
      let d : differing w 0 0 l.cells m.cells ≡ each (told_at w l.cells m.cells) 0 (w * h) =
      each_differing w (w * h) l.cells m.cells fl.count n (omega (arith, fl.size.wide)) in
      simp (e, f, s)
      (ap (λ (cells : List (List ℕ)). joined
      (both_lines (header_text l.header) (header_text m.header)
      ++
      (both_lines (edges_text l.edges) (edges_text m.edges) ++ (cells ++ (count_line (length cells) ∷ []))))) d)

-- A listing compared with itself: `count`, tab, 0, and nothing else.
pub equal_listings : (text : List ℕ) (l : Listed) → read_listing text ≡ Some l → compared text text ≡ count_line 0
unfolding compared report joined
equal_listings text l e =
    simp (
      e,
      eq-eqb l.header.width l.header.width refl,
      eq-eqb l.header.height l.header.height refl,
      same_self (header_text l.header),
      same_self (edges_text l.edges),
      none_differing l.header.width 0 0 l.cells,
    )
    (append-nil (count_line 0))

-- And only of two equal texts is that all that is printed.
pub equal_only : (old new : List ℕ) → compared old new ≡ count_line 0 → old ≡ new
equal_only = equal_texts

-- Where the old text is no listing, there is only the line that says 14,
pub refusal_alone : (old new : List ℕ) → read_listing old ≡ None → compared old new ≡ refused_line 14
unfolding compared joined
refusal_alone old new e = simp e (append-nil (refused_line 14))

-- whatever the new one is; and so where the new one is none, though the sizes should differ.
pub refusal_alone_new : (old new : List ℕ) → read_listing new ≡ None → compared old new ≡ refused_line 14
unfolding compared joined
refusal_alone_new old new e = by_old (read_listing old)
  where
    by_old : (o : Option Listed) → joined (report_or_refusal o (read_listing new)) ≡ refused_line 14
    by_old None = append-nil (refused_line 14)
    by_old (Some l) = simp e (append-nil (refused_line 14))

-- The line of a refusal, which the printer prints where there is no table, is no listing.
pub refused_no_listing : (n : ℕ) → read_listing (refused_line n) ≡ None
refused_no_listing = refused_unread

-- `count`, tab, `0`, line end
pub count_0 : count_line 0 ≡ 99 ∷ 111 ∷ 117 ∷ 110 ∷ 116 ∷ 9 ∷ 48 ∷ 10 ∷ []
unfolding count_line line decimal places
count_0 = refl

-- ---- lines off a text

-- The first line of a text is as many bytes as `line_end` answers, and the others are those of the bytes behind it.
pub first_line :
    (b : ℕ) (text : List ℕ) →
    cut longest (b ∷ text)
    ≡ take (line_end longest (b ∷ text)) (b ∷ text) ∷ cut longest (drop (line_end longest (b ∷ text)) (b ∷ text))
first_line b text = ahead.first_cut 95 b text

-- It doesn't matter in which pieces a text is read: where a piece has no whole line, the line goes on in the next
-- piece, with the room that is left.
pub pieces :
    (room : ℕ) (s t : List ℕ) →
    line_end room (s ++ t) ≡ cond (complete room s) (line_end room s) (length s + line_end (room - length s) t)
pieces = ahead.more_ahead

-- ---- each contract permits one answer

-- Any two answers to one call that the contract of `line_end` permits are equal; and so for `start`, `step`, `whole`,
-- `verdict`, `compare` and `counted`.
pub line_end_determined : Determined line-end-contract.Post
line_end_determined κ a s s' r r' p q = p ∙ sym q

pub start_determined : Determined start-contract.Post
start_determined κ a s s' r r' p q = p ∙ sym q

pub step_determined : Determined step-contract.Post
step_determined κ a s s' r r' p q = p ∙ sym q

pub whole_determined : Determined whole-contract.Post
whole_determined κ a s s' r r' p q = p ∙ sym q

pub verdict_determined : Determined verdict-contract.Post
verdict_determined κ a s s' r r' p q = p ∙ sym q

pub compare_determined : Determined compare-contract.Post
compare_determined κ a s s' r r' p q = p ∙ sym q

pub counted_determined : Determined counted-contract.Post
counted_determined κ a s s' r r' p q = p ∙ sym q

-- And so for `tell`, with what the buffer then holds.
pub tell_determined : DeterminedWith tell-contract.Post (λ κ s. s.0.now)
tell_determined κ a s s' r r' p q = both (p ∙ sym q)
