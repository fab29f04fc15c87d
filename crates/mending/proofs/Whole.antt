-- What is written of a table and a map: all of it where there is room, else nothing. Assumes nothing.
use mathlib.Core.Path.{◌≡◌, refl, sym, ap, subst, ◌∙◌}
use mathlib.Core.Bool.{Bool, true, false, cond, ◌&&◌}
use mathlib.Core.List.{List}
use Prim.Native.Nat.{ℕ, ◌+◌, ◌*◌, ◌^◌, ◌≤◌, ◌<◌}
use native.Mathlib.Omega.{arith}
use borrow.Author.Tests.{le-leb, lt-leb, leb-true}
use lib.Dec.{leb}
use lib.Ieee.{Float, binary32, to_bits}
use lib.ListN.{length, take, length-map}
use lib.Seq.{length-take-le}
use Rattle.io.specs.Counts.{IsPrefixLen}
use Rattle.region.specs.Size.{sized, Sized}
use Rattle.region.specs.declared.Region.{Region}
use Rattle.region.proofs.Size.{is_sized}
use Rattle.put_text.specs.Placed.{Written, written, with_text, each_placed, joined}
use Rattle.put_text.proofs.Whole.{as_long, each_put}
use Rattle.listing_lines.proofs.Reading.{both_true}
use Rattle.listing.specs.Read.{Listed, listed}
use Rattle.mending.specs.Kept.{kept}
use Rattle.mending.specs.Parts.{Matched}
use Rattle.mending.specs.Written.{lines_told, ready, most_mended, written_mended}
use Rattle.mending.proofs.Fits.{lines_short}

-- a text that is put whole or not at all: where it is put, there is room
pub counted :
    (out text : List ℕ) (t : Bool) →
    (t ≡ true → length text ≤ length out) →
    (out' : List ℕ) (n : ℕ) →
    written out' n ≡ cond t (with_text (written out 0) text) (written out 0) →
    IsPrefixLen n out'
counted out text t room out' n e =
    let h : n ≤ length out' = subst (λ (w : Written). w.at ≤ length w.out) (sym e) (go t refl) in
    (h, sym (length-take-le n out' h))
  where
    go : (b : Bool) → t ≡ b → (cond b (with_text (written out 0) text) (written out 0)).at ≤ length (cond b (with_text (written out 0) text) (written out 0)).out
    go true f = let i : 0 + length text ≤ length out = omega (arith, room f) in omega (arith, as_long out 0 text i, i)
    go false f = omega arith

-- what the test of the numbers says
pub record Ready (width height numbers places : ℕ) : Type 0 where
  pub size : Sized width height
  pub few : width * height ≤ 4096
  pub numbers_enough : 2 * (width * height) ≤ numbers
  pub places_enough : 3 * (width * height) ≤ places

pub is_ready : (width height numbers places : ℕ) → ready width height numbers places ≡ true → Ready width height numbers places
is_ready width height numbers places e =
    let a = both_true (sized width height) _ e in
    let b = both_true (leb (width * height) 4096) _ a.1 in
    let c = both_true (leb (2 * (width * height)) numbers) _ b.1 in
    record {
      size = is_sized width height a.0;
      few = leb-true (width * height) 4096 b.0;
      numbers_enough = leb-true (2 * (width * height)) numbers c.0;
      places_enough = leb-true (3 * (width * height)) places c.1;
    }

module _ (width height updates : ℕ) (region : Region) (table : List Float) (m out : List ℕ) where
  abbrev cells : List Float
  cells = take (2 * (width * height)) table

  abbrev fresh : Listed
  fresh = listed width height updates region cells

  abbrev all : List (List ℕ)
  all = lines_told (kept m width) fresh

  abbrev by : Bool → Written
  by t = cond t (with_text (written out 0) (joined all)) (written out 0)

  module _ (r : ready width height (length table) (length m) ≡ true) where
    long : length cells ≡ 2 * (width * height)
    long = length-take-le (2 * (width * height)) table (is_ready width height (length table) (length m) r).numbers_enough

    pub parts_matched : Matched width (length cells) (length m)
    parts_matched =
        let i = is_ready width height (length table) (length m) r in
        record { some = omega (arith, i.size.wide); few = omega (arith, long, i.few); enough = omega (arith, long, i.places_enough) }

    fits : updates < 2 ^ 32 → length (joined all) ≤ most_mended
    fits u =
        let i = is_ready width height (length table) (length m) r in
        lines_short (kept m width) fresh i.size i.few (omega arith) (length-map cells (to_bits binary32) ∙ long)

    pub in_room : most_mended ≤ length out → written_mended width height updates region table m out ≡ with_text (written out 0) (joined all)
    in_room h = ap by (ap (λ (t : Bool). t && ready width height (length table) (length m)) (le-leb most_mended (length out) h) ∙ r)

    pub all_written : most_mended ≤ length out → updates < 2 ^ 32 → each_placed (written out 0) all ≡ written_mended width height updates region table m out
    all_written h u = each_put out 0 all (omega (arith, fits u)) ∙ sym (in_room h)

  pub no_room : length out < most_mended → written out 0 ≡ written_mended width height updates region table m out
  no_room h = sym (ap (λ (t : Bool). by (t && ready width height (length table) (length m))) (lt-leb most_mended (length out) h))

  pub not_ready : ready width height (length table) (length m) ≡ false → written out 0 ≡ written_mended width height updates region table m out
  not_ready e = sym (ap (λ (t : Bool). by (leb most_mended (length out) && t)) e ∙ either (leb most_mended (length out)))
    where
      either : (t : Bool) → by (t && false) ≡ written out 0
      either true = refl
      either false = refl

  -- so many bytes were written
  pub counts : updates < 2 ^ 32 → (out' : List ℕ) (n : ℕ) → written out' n ≡ written_mended width height updates region table m out → IsPrefixLen n out'
  counts u out' n e =
      counted out (joined all) (leb most_mended (length out) && ready width height (length table) (length m))
      (λ t. let x = both_true (leb most_mended (length out)) _ t in omega (arith, fits x.1 u, leb-true most_mended (length out) x.0)) out' n e
