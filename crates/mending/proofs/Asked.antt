-- A listing's text mended by a camera file's. Assumes nothing.
use mathlib.Core.Path.{◌≡◌, refl, sym, ap, subst, ◌∙◌}
use mathlib.Core.Bool.{Bool, true, cond}
use mathlib.Core.List.{List, map}
use Prim.Native.Nat.{ℕ, ◌*◌, ◌≤◌, ◌<◌}
use native.Mathlib.Omega.{arith}
use borrow.Author.Tests.{le-leb, lt-leb, leb-true}
use lib.Dec.{leb}
use lib.Ieee.{Float, binary32, to_bits}
use lib.ListN.{length, take, replicate, length-map, length-take, length-replicate}
use lib.Seq.{length-take-le}
use Rattle.io.specs.Counts.{IsPrefixLen}
use Rattle.lens.specs.Refusal.{number}
use Rattle.lens.specs.declared.Refusal.{Refusal}
use Rattle.lens.proofs.Laws.{number_within}
use Rattle.region.specs.Size.{Sized}
use Rattle.region.specs.declared.Region.{Region}
use Rattle.decimal.proofs.Bytes.{both}
use Rattle.decimal.proofs.Digits.{decimal_short}
use Rattle.put_text.specs.Placed.{Written, written, with_text, placed, joined}
use Rattle.put_text.proofs.Putting.{is_placed}
use Rattle.listing_lines.specs.Line.{refused_line}
use Rattle.listing_lines.proofs.Length.{refused_length}
use Rattle.listing.specs.Read.{lines, Listed, listed}
use Rattle.listing.proofs.Fair.{of_size, is_fair}
use Rattle.printer.specs.Made.{most_cells, Outcome, a_table, InRoom, in_room, build, Made, table, no_table, held, made_in, blank_room, made}
use Rattle.printer.proofs.Laws.{made_fair, made_few, made_number}
use Rattle.mending.specs.Mended.{given, mended_lines}
use Rattle.mending.specs.Kept.{kept, keep_all}
use Rattle.mending.specs.Fed.{Fed, fed, feed, feed_pieces, most_kept, most_held, nothing_fed}
use Rattle.mending.specs.Written.{lines_told, ready, most_mended, written_mended}
use Rattle.mending.specs.Texts.{mended_text, mended, mend}
use Rattle.mending.proofs.Map.{keep_all_long}
use Rattle.mending.proofs.Feeding.{fed_each, fed_whole}
use Rattle.mending.proofs.Fits.{lines_short}
use Rattle.mending.proofs.Same.{told_mended, map_mended}
use Rattle.mending.proofs.Whole as whole

-- ---- a table and a text

module _ (width height updates : ℕ) (region : Region) (numbers : List Float) (text out : List ℕ) (s : Sized width height) (few : width * height ≤ most_cells) where
  abbrev fresh : Listed
  fresh = listed width height updates region (take (2 * (width * height)) numbers)

  pub table_mended :
      (n room : ℕ) (m line : List ℕ) (r : ℕ) →
      fed m line r ≡ feed width height (fed (replicate n 0) (replicate room 0) 0) text →
      45 ≤ room →
      3 * most_cells ≤ n →
      length m ≡ n →
      2 * (width * height) ≤ length numbers →
      most_mended ≤ length out →
      written_mended width height updates region numbers m out ≡ with_text (written out 0) (joined (mended_lines fresh (lines text)))
  table_mended n room m line r e held enough long many space =
      let kept_so : m ≡ keep_all width height (replicate n 0) (lines text) =
      ap (λ (x : Fed). x.map) e ∙ fed_whole width height (replicate n 0) (replicate room 0) text (omega (arith, length-replicate {A = ℕ} room 0)) in
      let is : ready width height (length numbers) (length m) ≡ true =
      both (of_size width height s)
      (both (le-leb (width * height) 4096 few)
      (both (le-leb (2 * (width * height)) (length numbers) (omega arith)) (le-leb (3 * (width * height)) (length m) (omega arith)))) in
      let count : length fresh.cells ≡ 2 * (width * height) =
      length-map (take (2 * (width * height)) numbers) (to_bits binary32) ∙ length-take-le (2 * (width * height)) numbers (omega arith) in
      whole.in_room width height updates region numbers m out is space
      ∙ ap (λ (x : List ℕ). with_text (written out 0) (joined (lines_told (kept x width) fresh))) kept_so
      ∙ ap (λ (l : List (List ℕ)). with_text (written out 0) (joined l)) (map_mended fresh (lines text) n s count (omega arith))

-- ---- a refusal

refused_short : (n : ℕ) → n ≤ 19 → length (refused_line n) ≤ 11
refused_short n h = omega (arith, refused_length n, decimal_short n 1 (omega arith))

pub refusal_put : (refusal : Refusal) (out : List ℕ) → most_mended ≤ length out → placed (written out 0) (refused_line (number refusal)) ≡ with_text (written out 0) (refused_line (number refusal))
refusal_put refusal out h = is_placed out 0 (refused_line (number refusal)) (omega (arith, refused_short (number refusal) (number_within refusal).1))

-- ---- two texts

pub built_mended :
    (input text : List ℕ) (outcome : Outcome) (room : List Float) →
    in_room outcome room ≡ build input blank_room →
    mended_text (held outcome room) (lines text) ≡ mended input text
unfolding mended made
built_mended input text outcome room e = ap (λ (b : InRoom). mended_text (made_in b) (lines text)) e

pub mended_short : (input text : List ℕ) → length (mended input text) ≤ most_mended
unfolding mended
mended_short input text = go (made input) refl
  where
    go : (m : Made) → made input ≡ m → length (mended_text m (lines text)) ≤ most_mended
    go (table fresh) e =
        let f = is_fair fresh (made_fair input fresh e) in
        subst (λ (l : List (List ℕ)). length (joined l) ≤ most_mended) (told_mended fresh (lines text))
        (lines_short (given (lines text)) fresh f.size (made_few input fresh e) (omega (arith, f.updates)) f.count)
    go (no_table n) e = omega (arith, refused_short n (made_number input n e))

module _ (input text out : List ℕ) where
  abbrev by : Bool → Written
  by t = cond t (with_text (written out 0) (mended input text)) (written out 0)

  pub no_room : length out < most_mended → written out 0 ≡ mend input text out
  no_room h = sym (ap by (lt-leb most_mended (length out) h))

  pub all_put : most_mended ≤ length out → with_text (written out 0) (mended input text) ≡ mend input text out
  all_put h = sym (ap by (le-leb most_mended (length out) h))

  pub counts : (out' : List ℕ) (r : ℕ) → written out' r ≡ mend input text out → IsPrefixLen r out'
  counts =
      whole.counted out (mended input text) (leb most_mended (length out))
      (λ t. omega (arith, mended_short input text, leb-true most_mended (length out) t))

-- ---- fed piece by piece

made_table :
    (input : List ℕ) (width height updates : ℕ) (region : Region) (room : List Float) →
    in_room (a_table width height updates region) room ≡ build input blank_room →
    made input ≡ table (listed width height updates region (take (2 * (width * height)) room))
unfolding made
made_table input width height updates region room e = sym (ap made_in e)

pub mended_by_pieces :
    (input : List ℕ) (pieces : List (List ℕ)) (out : List ℕ) (width height updates : ℕ) (region : Region) (room : List Float) →
    in_room (a_table width height updates region) room ≡ build input blank_room →
    most_mended ≤ length out →
    (let fed = feed_pieces width height nothing_fed pieces in
    written_mended width height updates region room fed.map out ≡ with_text (written out 0) (mended input (joined pieces)))
mended_by_pieces input pieces out width height updates region room e space =
    let cells = take (2 * (width * height)) room in
    let t = made_table input width height updates region room e in
    let f = is_fair (listed width height updates region cells) (made_fair input (listed width height updates region cells) t) in
    let few : width * height ≤ most_cells = made_few input (listed width height updates region cells) t in
    let many : 2 * (width * height) ≤ length room =
    omega (arith, f.count, length-map cells (to_bits binary32), length-take (2 * (width * height)) room) in
    let s = feed_pieces width height nothing_fed pieces in
    let g = fed_each width height nothing_fed pieces in
    let m : length s.map ≡ most_kept =
    ap (λ (x : Fed). length x.map) g
    ∙ ap length (fed_whole width height (replicate most_kept 0) (replicate most_held 0) (joined pieces) (omega (arith, length-replicate {A = ℕ} most_held 0)))
    ∙ keep_all_long width height (replicate most_kept 0) (lines (joined pieces))
    ∙ length-replicate {A = ℕ} most_kept 0 in
    table_mended width height updates region room (joined pieces) out f.size few most_kept most_held s.map s.line s.held g
    (omega arith) (omega arith) m many space
    ∙ ap (with_text (written out 0)) (built_mended input (joined pieces) (a_table width height updates region) room e)
