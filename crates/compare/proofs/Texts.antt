-- Two texts, by their lines: each is judged as it is read, and what is printed of them is what the definition says.
-- Assumes nothing.
use mathlib.Core.Path.{◌≡◌, refl, sym, ap, ◌∙◌}
use mathlib.Core.Bool.{Bool, true, false, cond, ◌&&◌, true≢false}
use mathlib.Core.List.{List, [], ◌∷◌, ◌++◌, append-nil}
use Rattle.std.proofs.Common.{Option, Some, None, Ok, Err, is_some}
use Prim.Native.Nat.{ℕ}
use borrow.Author.Tests.{eq-eqb}
use Rattle.lens.specs.Judgement.{decided}
use Rattle.lens.specs.Refusal.{number}
use Rattle.lens.specs.declared.Refusal.{Refusal}
use Rattle.lens.specs.declared.Refusal.TheVariants.{SizesDiffer}
use Rattle.put_text.specs.Placed.{joined}
use Rattle.listing_lines.specs.Line.{count_line, refused_line}
use Rattle.listing.specs.Read.{Listed, listed_lines, listed_text, read_listing}
use Rattle.listing.proofs.Fair.{is_fair, fair_is}
use Rattle.listing.proofs.Laws.{listing_read, only_listing}
use Rattle.compare.specs.Report.{one_size, report, report_or_refusal, compared}
use Rattle.compare.specs.Judged.{longest, cut, judged, whole, verdict}
use Rattle.compare.specs.Told.{all_told, all_counted, by_lines}
use Rattle.compare.specs.declared.Judging.TheVariants as at
use Rattle.compare.proofs.Cutting.{joined_cut, cut_joined}
use Rattle.compare.proofs.Held.{lines_held}
use Rattle.compare.proofs.Judge.{whole_only, whole_back}
use Rattle.compare.proofs.Comparing.{reported}

-- ---- one text

text_is : (l : Listed) → listed_text l ≡ joined (listed_lines l)
unfolding listed_text
text_is l = refl

module _ (text : List ℕ) where
  -- a listing's lines are those that it is cut into
  pub cut_listed : (l : Listed) → read_listing text ≡ Some l → cut longest text ≡ listed_lines l
  cut_listed l e =
      let o = only_listing text l e in
      ap (cut longest) (o.0 ∙ text_is l) ∙ cut_joined (listed_lines l) (lines_held l (is_fair l o.1))

  pub judged_listed : (l : Listed) → read_listing text ≡ Some l → judged at.Start (cut longest text) ≡ at.Cells l.header.width l.header.height 0 l.header.height
  judged_listed l e = ap (judged at.Start) (cut_listed l e) ∙ whole_back l (is_fair l (only_listing text l e).1)

  -- and a text that is judged whole is read
  read_whole : whole (judged at.Start (cut longest text)) ≡ true → is_some (read_listing text) ≡ true
  read_whole e =
      let w = whole_only (cut longest text) e in
      let t : text ≡ listed_text w.told = sym (joined_cut longest text) ∙ ap joined w.is ∙ sym (text_is w.told) in
      ap (λ (o : Option Listed). is_some o) (ap read_listing t ∙ listing_read w.told (fair_is w.told w.fair))

  pub whole_exactly : whole (judged at.Start (cut longest text)) ≡ is_some (read_listing text)
  whole_exactly = by_read (read_listing text) refl (whole (judged at.Start (cut longest text))) refl
    where
      by_read :
          (o : Option Listed) → read_listing text ≡ o →
          (b : Bool) → whole (judged at.Start (cut longest text)) ≡ b → b ≡ is_some o
      by_read (Some l) e b f = sym f ∙ ap whole (judged_listed l e) ∙ eq-eqb l.header.height l.header.height refl
      by_read None e true f = absurd (true≢false (sym (read_whole f) ∙ ap (λ (o : Option Listed). is_some o) e))
      by_read None e false f = refl

-- ---- two

module _ (old new : List ℕ) where
  -- one of them is no listing
  refused : (whole (judged at.Start (cut longest old)) && whole (judged at.Start (cut longest new))) ≡ false → by_lines old new ≡ refused_line 14
  unfolding by_lines verdict
  refused e = simp e

  either : (a b : Bool) → a ≡ false → (a && b) ≡ false
  either true b e = absurd (true≢false e)
  either false b e = refl

  other : (a b : Bool) → b ≡ false → (a && b) ≡ false
  other true b e = e
  other false b e = refl

  taken : (l m : Listed) → read_listing old ≡ Some l → read_listing new ≡ Some m → (t : Bool) → one_size l.header m.header ≡ t → by_lines old new ≡ joined (cond t (report l m) (refused_line 15 ∷ []))
  unfolding by_lines verdict joined
  taken l m e f t s =
      simp (
        cut_listed old l e,
        cut_listed new m f,
        whole_back l (is_fair l (only_listing old l e).1),
        whole_back m (is_fair m (only_listing new m f).1),
        eq-eqb l.header.height l.header.height refl,
        eq-eqb m.header.height m.header.height refl,
        s,
      )
      (by_size t s)
    where
      by_size :
          (t : Bool) → one_size l.header m.header ≡ t →
          decided (cond t (Ok tt) (Err SizesDiffer)) (λ (r : Refusal). refused_line (number r))
          (joined (all_told (listed_lines l) (listed_lines m)) ++ count_line (all_counted 0 (listed_lines l) (listed_lines m)))
          ≡ joined (cond t (report l m) (refused_line 15 ∷ []))
      by_size true g = reported l m (is_fair l (only_listing old l e).1) (is_fair m (only_listing new m f).1) g
      by_size false g = sym (append-nil (refused_line 15))

  one : (n : ℕ) → refused_line n ≡ joined (refused_line n ∷ [])
  unfolding joined
  one n = sym (append-nil (refused_line n))

  pub lines_compared : by_lines old new ≡ compared old new
  unfolding compared
  lines_compared = by_read (read_listing old) (read_listing new) refl refl
    where
      by_read : (o p : Option Listed) → read_listing old ≡ o → read_listing new ≡ p → by_lines old new ≡ joined (report_or_refusal o p)
      by_read None p e f = refused (either (whole (judged at.Start (cut longest old))) (whole (judged at.Start (cut longest new))) (whole_exactly old ∙ ap (λ (o : Option Listed). is_some o) e)) ∙ one 14
      by_read (Some l) None e f = refused (other (whole (judged at.Start (cut longest old))) (whole (judged at.Start (cut longest new))) (whole_exactly new ∙ ap (λ (o : Option Listed). is_some o) f)) ∙ one 14
      by_read (Some l) (Some m) e f = taken l m e f (one_size l.header m.header) refl
