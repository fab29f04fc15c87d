-- A text taken byte by byte keeps what its lines give. Assumes nothing.
use mathlib.Core.Path.{◌≡◌, refl, sym, ap, ap₂, subst, ◌∙◌}
use mathlib.Core.Bool.{Bool, true, false, cond, not, ◌&&◌}
use mathlib.Core.List.{List, [], ◌∷◌, ◌++◌, append_assoc, append-nil}
use Rattle.std.proofs.Common.{Option, Some, None}
use Prim.Native.Nat.{ℕ, ◌+◌, ◌^◌, ◌≤◌, ◌<◌}
use native.Mathlib.Numerals.{add-one}
use native.Mathlib.Omega.{arith}
use borrow.Author.Tests.{lt-ltb, ltb-true, ltb-false, le-ltb, eqb-true, eqb-false, ne_eqb}
use lib.Dec.{eqb, ltb}
use lib.ListN.{length, take, set, length-append, length-set}
use lib.Seq.{take-suc-set}
use Rattle.decimal.specs.Text.{all}
use Rattle.decimal.proofs.Bytes.{both}
use Rattle.decimal.proofs.Digits.{decimal_short}
use Rattle.put_text.specs.Placed.{joined}
use Rattle.listing_lines.specs.declared.CellLine.{CellLine}
use Rattle.listing_lines.specs.Read.{onto, single, read_cell}
use Rattle.listing_lines.proofs.Length.{cell_length}
use Rattle.listing_lines.proofs.Laws.{only_cell}
use Rattle.listing_lines.proofs.Others.{goes_on, endless_no_cell}
use Rattle.listing_lines.proofs.Reading.{both_true}
use Rattle.listing.specs.Read.{lines}
use Rattle.mending.specs.Kept.{keep_read, keep, keep_all}
use Rattle.mending.specs.Fed.{Fed, fed, feed_byte, feed, feed_pieces}

-- ---- in pieces

pub fed_on : (width height : ℕ) (s : Fed) (t r : List ℕ) → feed width height s (t ++ r) ≡ feed width height (feed width height s t) r
unfolding feed
fed_on width height s [] r = refl
fed_on width height s (b ∷ t) r = fed_on width height (feed_byte width height s b) t r

pub fed_each : (width height : ℕ) (s : Fed) (pieces : List (List ℕ)) → feed_pieces width height s pieces ≡ feed width height s (joined pieces)
unfolding feed_pieces joined feed
fed_each width height s [] = refl
fed_each width height s (piece ∷ pieces) =
    fed_each width height (feed width height s piece) pieces ∙ sym (fed_on width height s piece (joined pieces))

-- ---- texts that are no cell's line

-- no cell's line has more than 45 bytes
long_none : (text : List ℕ) → 45 < length text → read_cell text ≡ None
long_none text h = go (read_cell text) refl
  where
    go : (o : Option CellLine) → read_cell text ≡ o → o ≡ None
    go None e = refl
    go (Some c) e =
        let w = only_cell text c e in
        let x = both_true (single c.u) _ (both_true (single c.u && single c.v) _ w.1).0 in
        let u : c.u < 2 ^ 32 = ltb-true c.u (2 ^ 32) x.0 in
        let v : c.v < 2 ^ 32 = ltb-true c.v (2 ^ 32) x.1 in
        absurd
        (omega (
          arith,
          ap length w.0,
          cell_length c.u c.v c.a c.b,
          decimal_short c.u 9 (omega arith),
          decimal_short c.v 9 (omega arith),
        ))

-- a text with no line end in it
abbrev Open : List ℕ → Type 0
Open [] = Unit {0}
Open (b ∷ text) = (b ≡ 10 → ⊥) × Open text

open_more : (s : List ℕ) (b : ℕ) → Open s → (b ≡ 10 → ⊥) → Open (s ++ (b ∷ []))
open_more [] b o ne = (ne, tt)
open_more (x ∷ s) b o ne = (o.0, open_more s b o.1 ne)

open_none : (text : List ℕ) → Open text → read_cell text ≡ None
open_none text o = endless_no_cell text (endless text o)
  where
    endless : (s : List ℕ) → Open s → all goes_on s ≡ true
    endless [] p = refl
    endless (b ∷ s) p = both (ap not (ne_eqb b 10 p.0)) (endless s p.1)

module _ (width height : ℕ) where
  keep_none : (map text : List ℕ) → read_cell text ≡ None → keep width height map text ≡ map
  unfolding keep
  keep_none map text e = ap (keep_read width height map) e

  -- ---- the lines of a text

  open_line : (p rest : List ℕ) → Open p → lines (p ++ (10 ∷ rest)) ≡ (p ++ (10 ∷ [])) ∷ lines rest
  unfolding lines
  open_line [] rest o = refl
  open_line (b ∷ p) rest o = simp (ne_eqb b 10 o.0) (ap (onto b) (open_line p rest o.1))

  open_lines : (b : ℕ) (p : List ℕ) → Open (b ∷ p) → lines (b ∷ p) ≡ (b ∷ p) ∷ []
  unfolding lines
  open_lines b [] o = simp (ne_eqb b 10 o.0)
  open_lines b (x ∷ p) o = simp (ne_eqb b 10 o.0) (ap (onto b) (open_lines x p o.1))

  -- what has no end is kept nowhere
  open_kept : (map p : List ℕ) → Open p → keep_all width height map (lines p) ≡ map
  unfolding keep_all lines
  open_kept map [] o = refl
  open_kept map (b ∷ p) o = ap (keep_all width height map) (open_lines b p o) ∙ keep_none map (b ∷ p) (open_none (b ∷ p) o)

  -- ---- what is held of a line

  -- p is what came since the last line's end: it is held, or there is no room for more
  record Holds (s : Fed) (p : List ℕ) : Type 0 where
    pub long : 45 ≤ length s.line
    pub many : length p < length s.line → s.held ≡ length p
    pub is : length p < length s.line → take s.held s.line ≡ p
    pub full : length s.line ≤ length p → length s.line ≤ s.held

  room : (s : Fed) (b : ℕ) → s.held < length s.line → (b ≡ 10 → ⊥) → feed_byte width height s b ≡ fed s.map (set s.line s.held b) (s.held + 1)
  unfolding feed_byte
  room s b h ne = simp (lt-ltb s.held (length s.line) h, ne_eqb b 10 ne)

  no_room : (s : Fed) (b : ℕ) → length s.line ≤ s.held → (b ≡ 10 → ⊥) → feed_byte width height s b ≡ s
  unfolding feed_byte
  no_room s b h ne = simp (le-ltb s.held (length s.line) h, ne_eqb b 10 ne)

  line_ends : (s : Fed) → s.held < length s.line → feed_byte width height s 10 ≡ fed (keep width height s.map (take (s.held + 1) (set s.line s.held 10))) (set s.line s.held 10) 0
  unfolding feed_byte
  line_ends s h = simp (lt-ltb s.held (length s.line) h)

  long_ends : (s : Fed) → length s.line ≤ s.held → feed_byte width height s 10 ≡ fed s.map s.line 0
  unfolding feed_byte
  long_ends s h = simp (le-ltb s.held (length s.line) h)

  -- the byte behind what is held
  behind : (s : Fed) (p : List ℕ) (b : ℕ) → Holds s p → length p < length s.line → take (s.held + 1) (set s.line s.held b) ≡ p ++ (b ∷ [])
  behind s p b h short =
      ap (λ (n : ℕ). take n (set s.line s.held b)) (add-one s.held)
      ∙ take-suc-set s.line s.held b (omega (arith, h.long, h.many short))
      ∙ ap (λ (t : List ℕ). t ++ (b ∷ [])) (h.is short)

  holds_more : (s : Fed) (p : List ℕ) (b : ℕ) → Holds s p → (b ≡ 10 → ⊥) → Holds (feed_byte width height s b) (p ++ (b ∷ []))
  holds_more s p b h ne = go (ltb (length p) (length s.line)) refl
    where
      n : length (p ++ (b ∷ [])) ≡ length p + 1
      n = length-append p (b ∷ [])

      go : (t : Bool) → ltb (length p) (length s.line) ≡ t → Holds (feed_byte width height s b) (p ++ (b ∷ []))
      go true e =
          let short : length p < length s.line = ltb-true (length p) (length s.line) e in
          subst (λ (x : Fed). Holds x (p ++ (b ∷ []))) (sym (room s b (omega (arith, h.many short)) ne))
          (record {
            long = omega (arith, length-set s.line s.held b, h.long);
            many = λ k. omega (arith, n, h.many short);
            is = λ k. behind s p b h short;
            full = λ k. omega (arith, n, h.many short, length-set s.line s.held b);
          })
      go false e =
          let l : length s.line ≤ length p = ltb-false (length p) (length s.line) e in
          subst (λ (x : Fed). Holds x (p ++ (b ∷ []))) (sym (no_room s b (h.full l) ne))
          (record {
            long = h.long;
            many = λ k. absurd (omega (arith, n));
            is = λ k. absurd (omega (arith, n));
            full = λ k. h.full l;
          })

  -- at the line's end it is kept, and nothing is held
  ends : (s : Fed) (p : List ℕ) → Holds s p → ((feed_byte width height s 10).map ≡ keep width height s.map (p ++ (10 ∷ []))) × Holds (feed_byte width height s 10) []
  ends s p h = go (ltb (length p) (length s.line)) refl
    where
      go : (t : Bool) → ltb (length p) (length s.line) ≡ t → ((feed_byte width height s 10).map ≡ keep width height s.map (p ++ (10 ∷ []))) × Holds (feed_byte width height s 10) []
      go true e =
          let short : length p < length s.line = ltb-true (length p) (length s.line) e in
          let f = line_ends s (omega (arith, h.many short)) in (
            ap (λ (x : Fed). x.map) f ∙ ap (keep width height s.map) (behind s p 10 h short),
            subst (λ (x : Fed). Holds x []) (sym f)
                (record {
                  long = omega (arith, length-set s.line s.held 10, h.long);
                  many = λ k. refl;
                  is = λ k. refl;
                  full = λ k. omega (arith, length-set s.line s.held 10, h.long);
                }),
          )
      go false e =
          let l : length s.line ≤ length p = ltb-false (length p) (length s.line) e in
          let f = long_ends s (h.full l) in (
            ap (λ (x : Fed). x.map) f
                ∙ sym (keep_none s.map (p ++ (10 ∷ [])) (long_none (p ++ (10 ∷ [])) (omega (arith, length-append p (10 ∷ []))))),
            subst (λ (x : Fed). Holds x []) (sym f)
                (record { long = h.long; many = λ k. refl; is = λ k. refl; full = λ k. omega (arith, h.long) }),
          )

  same_map : (s : Fed) (b : ℕ) → (b ≡ 10 → ⊥) → (feed_byte width height s b).map ≡ s.map
  unfolding feed_byte
  same_map s b ne = simp (ne_eqb b 10 ne) (either (ltb s.held (length s.line)))
    where
      either : (t : Bool) → (cond t (fed s.map (set s.line s.held b) (s.held + 1)) s).map ≡ s.map
      either true = refl
      either false = refl

  -- ---- a whole text

  fed_from : (text : List ℕ) (s : Fed) (p : List ℕ) → Open p → Holds s p → (feed width height s text).map ≡ keep_all width height s.map (lines (p ++ text))
  unfolding feed keep_all
  fed_from [] s p o h = sym (ap (λ (t : List ℕ). keep_all width height s.map (lines t)) (append-nil p) ∙ open_kept s.map p o)
  fed_from (b ∷ text) s p o h =
      go (eqb b 10) refl
      (λ e. fed_from text (feed_byte width height s 10) [] tt e)
      (λ o' h'. fed_from text (feed_byte width height s b) (p ++ (b ∷ [])) o' h')
    where
      go :
          (t : Bool) →
          eqb b 10 ≡ t →
          (Holds (feed_byte width height s 10) [] → (feed width height (feed_byte width height s 10) text).map ≡ keep_all width height (feed_byte width height s 10).map (lines text)) →
          (Open (p ++ (b ∷ [])) →
          Holds (feed_byte width height s b) (p ++ (b ∷ [])) →
          (feed width height (feed_byte width height s b) text).map ≡ keep_all width height (feed_byte width height s b).map (lines ((p ++ (b ∷ [])) ++ text))) →
          (feed width height (feed_byte width height s b) text).map ≡ keep_all width height s.map (lines (p ++ (b ∷ text)))
      go true e ended more =
          let f : b ≡ 10 = eqb-true b 10 e in
          let g = ends s p h in
          ap (λ (x : ℕ). (feed width height (feed_byte width height s x) text).map) f
          ∙ ended g.1
          ∙ ap (λ (m : List ℕ). keep_all width height m (lines text)) g.0
          ∙ sym (ap (λ (x : ℕ). keep_all width height s.map (lines (p ++ (x ∷ text)))) f ∙ ap (keep_all width height s.map) (open_line p text o))
      go false e ended more =
          let ne = eqb-false b 10 e in
          more (open_more p b o ne) (holds_more s p b h ne)
          ∙ ap₂ (λ (m t : List ℕ). keep_all width height m (lines t)) (same_map s b ne) (append_assoc p (b ∷ []) text)

  pub fed_whole : (map line text : List ℕ) → 45 ≤ length line → (feed width height (fed map line 0) text).map ≡ keep_all width height map (lines text)
  fed_whole map line text long =
      fed_from text (fed map line 0) [] tt
      (record { long = long; many = λ k. refl; is = λ k. refl; full = λ k. omega arith })
