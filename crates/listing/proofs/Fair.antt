-- What a listing may tell, part by part; and that the listing of a table of f32 tells such. Assumes nothing.
use mathlib.Core.Path.{◌≡◌, refl, ◌∙◌}
use mathlib.Core.Bool.{true, ◌&&◌}
use mathlib.Core.List.{List, [], ◌∷◌, map}
use Prim.Native.Nat.{ℕ, ◌*◌, ◌^◌, ◌<◌}
use native.Mathlib.Omega.{arith}
use borrow.Author.Tests.{ltb-true, eqb-true, le-leb, lt-ltb, eq-eqb}
use lib.Dec.{T, eqb}
use lib.Ieee.{Float, binary32, binary64, fits, to_bits}
use lib.Ieee.Bits.{to_bits-lt}
use lib.ListN.{length, length-map}
use Rattle.decimal.proofs.Bytes.{both}
use Rattle.region.specs.Size.{sized, Sized}
use Rattle.region.specs.declared.Region.{Region}
use Rattle.region.proofs.Size.{is_sized}
use Rattle.listing_lines.specs.Read.{single, double, fair_edges, fair_cell}
use Rattle.listing_lines.proofs.Reading.{both_true}
use Rattle.listing.specs.Read.{Listed, listed, fair_header, all_single, fair}

-- ---- part by part

pub of_size : (w h : ℕ) → Sized w h → sized w h ≡ true
of_size w h s = both (both (le-leb 2 w s.wide) (le-leb w 4096 s.not_wider)) (both (le-leb 2 h s.high) (le-leb h 4096 s.not_higher))

pub record Fair (l : Listed) : Type 0 where
  pub size : Sized l.header.width l.header.height
  pub updates : l.header.updates < 2 ^ 32
  pub edges : fair_edges l.edges ≡ true
  pub count : length l.cells ≡ 2 * (l.header.width * l.header.height)
  pub singles : all_single l.cells ≡ true

pub is_fair : (l : Listed) → fair l ≡ true → Fair l
is_fair l f =
    let h = l.header in
    let x = both_true (fair_header h && fair_edges l.edges) _ f in
    let y = both_true (fair_header h) _ x.0 in
    let z = both_true (eqb (length l.cells) (2 * (h.width * h.height))) _ x.1 in
    let s = both_true (sized h.width h.height) _ y.0 in
    record {
      size = is_sized h.width h.height s.0;
      updates = ltb-true h.updates (2 ^ 32) s.1;
      edges = y.1;
      count = eqb-true (length l.cells) (2 * (h.width * h.height)) z.0;
      singles = z.1;
    }

pub fair_is : (l : Listed) → Fair l → fair l ≡ true
fair_is l f =
    let h = l.header in
    both
    (both (both (of_size h.width h.height f.size) (lt-ltb h.updates (2 ^ 32) f.updates)) f.edges)
    (both (eq-eqb (length l.cells) (2 * (h.width * h.height)) f.count) f.singles)

-- a cell of such a table
pub cell_fair :
    (u v a b : ℕ) →
    u < 4096 →
    v < 4096 →
    single a ≡ true →
    single b ≡ true →
    fair_cell (record { u = u; v = v; a = a; b = b }) ≡ true
cell_fair u v a b i j p q = both (both (lt-ltb u (2 ^ 32) (omega arith)) (lt-ltb v (2 ^ 32) (omega arith))) (both p q)

-- ---- a table of f32

-- every number is an f32
abbrev pub AllFit : List Float → Type 0
AllFit [] = Unit {0}
AllFit (x ∷ rest) = T (fits binary32 x) × AllFit rest

all_fit : (table : List Float) → AllFit table → all_single (map (to_bits binary32) table) ≡ true
all_fit [] f = refl
all_fit (x ∷ rest) f = both (lt-ltb (to_bits binary32 x) (2 ^ 32) (to_bits-lt binary32 x f.0)) (all_fit rest f.1)

edge : (x : Float) → T (fits binary64 x) → double (to_bits binary64 x) ≡ true
edge x f = lt-ltb (to_bits binary64 x) (2 ^ 64) (to_bits-lt binary64 x f)

pub listed_fair :
    (width height updates : ℕ) (region : Region) (table : List Float) →
    Sized width height →
    updates < 2 ^ 32 →
    T (fits binary64 region.left) →
    T (fits binary64 region.top) →
    T (fits binary64 region.right) →
    T (fits binary64 region.bottom) →
    length table ≡ 2 * (width * height) →
    AllFit table →
    fair (listed width height updates region table) ≡ true
listed_fair width height updates region table s u h i j k long f =
    fair_is (listed width height updates region table)
    (record {
      size = s;
      updates = u;
      edges = both (both (edge region.left h) (edge region.top i)) (both (edge region.right j) (edge region.bottom k));
      count = length-map table (to_bits binary32) ∙ long;
      singles = all_fit table f;
    })
