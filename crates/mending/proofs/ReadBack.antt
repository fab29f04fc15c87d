-- What is printed before the report is a whole listing. Assumes nothing.
use mathlib.Core.Path.{◌≡◌, refl, sym, ap, ap₂, ◌∙◌}
use mathlib.Core.Bool.{true}
use mathlib.Core.List.{List, [], ◌∷◌}
use Rattle.std.proofs.Common.{Option, Some, None}
use Prim.Native.Nat.{ℕ, zero, suc, ◌+◌, ◌*◌, ◌/◌, ◌%◌, ◌≤◌, ◌<◌}
use native.Mathlib.Omega.{arith}
use lib.ListN.{length, get_or}
use Rattle.decimal.proofs.Bytes.{both}
use Rattle.put_text.specs.Placed.{joined}
use Rattle.listing_lines.specs.Line.{cell_text}
use Rattle.listing_lines.specs.Read.{single, header_text, edges_text}
use Rattle.listing.specs.Read.{Listed, listed_lines, listed_text, all_single, listed_of, read_listing}
use Rattle.listing.proofs.Cut.{listed_cut}
use Rattle.listing.proofs.Each.{cells_by_number, each_same}
use Rattle.listing.proofs.Fair.{Fair, fair_is}
use Rattle.listing.proofs.Laws.{listed_back, listing_read}
use Rattle.mending.specs.Mended.{mended_listing}
use Rattle.mending.proofs.Numbered.{line_of_number}
use Rattle.mending.proofs.Again.{kept_a, kept_b, kept_single, mended_numbered}

-- ---- the patterns of n cells, from cell k on

module _ (a b : ℕ → ℕ) where
  unfoldable pub pairs : ℕ → ℕ → List ℕ
  pairs k zero = []
  pairs k (suc n) = a k ∷ b k ∷ pairs (suc k) n

  pairs_long : (k n : ℕ) → length (pairs k n) ≡ 2 * n
  unfolding pairs
  pairs_long k zero = refl
  pairs_long k (suc n) = let e = pairs_long (suc k) n in omega arith

  pairs_single : (k n : ℕ) → ((j : ℕ) → k ≤ j → j < k + n → (single (a j) ≡ true) × (single (b j) ≡ true)) → all_single (pairs k n) ≡ true
  unfolding pairs
  pairs_single k zero f = refl
  pairs_single k (suc n) f =
      let g = f k (omega arith) (omega arith) in
      both g.0 (both g.1 (pairs_single (suc k) n (λ j l m. f j (omega arith) (omega arith))))

  pairs_at : (i k n : ℕ) → i < n → (get_or (pairs k n) (2 * i) 0 ≡ a (k + i)) × (get_or (pairs k n) (2 * i + 1) 0 ≡ b (k + i))
  unfolding pairs
  pairs_at i k zero l = absurd (omega arith)
  pairs_at zero k (suc n) l = let e : k ≡ k + 0 = omega arith in (ap a e, ap b e)
  pairs_at (suc i) k (suc n) l =
      let e : suc k + i ≡ k + suc i = omega arith in
      let p : 2 * suc i ≡ suc (suc (2 * i)) = omega arith in
      let q : 2 * suc i + 1 ≡ suc (suc (2 * i + 1)) = omega arith in
      let more = pairs_at i (suc k) n (omega arith) in (
        ap (λ (j : ℕ). get_or (a k ∷ b k ∷ pairs (suc k) n) j 0) p ∙ more.0 ∙ ap a e,
        ap (λ (j : ℕ). get_or (a k ∷ b k ∷ pairs (suc k) n) j 0) q ∙ more.1 ∙ ap b e,
      )

-- ---- the table that is printed

module _ (l : Listed) (f : Fair l) (texts : List (List ℕ)) where
  abbrev printed : Listed
  printed = record {
    header = l.header;
    edges = l.edges;
    cells = pairs (kept_a l f texts) (kept_b l f texts) 0 (l.header.width * l.header.height);
  }

  printed_fair : Fair printed
  printed_fair =
      let n = l.header.width * l.header.height in
      record {
        size = f.size;
        updates = f.updates;
        edges = f.edges;
        count = pairs_long (kept_a l f texts) (kept_b l f texts) 0 n;
        singles = pairs_single (kept_a l f texts) (kept_b l f texts) 0 n (λ j p q. kept_single l f texts j (omega arith));
      }

  printed_lines : mended_listing l texts ≡ listed_lines printed
  unfolding listed_lines
  printed_lines =
      let w = l.header.width in
      let h = l.header.height in
      let a = kept_a l f texts in
      let b = kept_b l f texts in
      let cells = pairs a b 0 (w * h) in
      mended_numbered l f texts
      ∙ ap (λ (t : List (List ℕ)). header_text l.header ∷ edges_text l.edges ∷ t)
      (each_same (line_of_number w a b) (λ k. cell_text (k % w) (k / w) (get_or cells (2 * k) 0) (get_or cells (2 * k + 1) 0) ∷ []) 0 (w * h)
      (λ k p q.
      let z : 0 + k ≡ k = omega arith in
      let g = pairs_at a b k 0 (w * h) (omega arith) in
      ap₂ (λ (x y : ℕ). cell_text (k % w) (k / w) x y ∷ []) (sym (g.0 ∙ ap a z)) (sym (g.1 ∙ ap b z)))
      ∙ sym (cells_by_number w h cells printed_fair.count (omega (arith, f.size.wide))))

  pub printed_whole : read_listing (joined (mended_listing l texts)) ≡ Some (listed_of (mended_listing l texts))
  unfolding listed_text
  printed_whole =
      let g = fair_is printed printed_fair in
      ap (λ (t : List (List ℕ)). read_listing (joined t)) printed_lines
      ∙ listing_read printed g
      ∙ ap Some (sym (listed_back printed g) ∙ ap listed_of (listed_cut printed ∙ sym printed_lines))
