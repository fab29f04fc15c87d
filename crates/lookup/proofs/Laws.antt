-- What a caller may rely on, of the definitions of specs/ and of the contract of src/. Assumes nothing.
use Rattle.std.proofs.Common.{◌≡◌, ℕ, ◌+◌, ◌-◌, ◌*◌, ◌<◌, Bool, true, false, cond, not, ◌&&◌, ◌||◌, T, eqb, ◌↔◌, List, [], ◌∷◌, length, sym, refl, ap, ◌∙◌, subst, true≢false, arith}
use Rattle.std.specs.declared.result.Result.TheVariants.{Ok, Err}
use mathlib.Core.Bool.{false≢true}
use native.Mathlib.Nat.{min-le_right}
use lib.Ieee.{Float, binary64, of_bits, of_int, round, add, sub, mul, div, neg, lt, eq, le, to_unsigned, fits}
use lib.Ieee.Fits.{div-fits, fits_widens}
use lib.Ieee.Scale.{finite}
use Rattle.exact.specs.Determined.{Determined}
use Rattle.exact.specs.F64.{◌⊖◌, f64}
use Rattle.exact.specs.Fraction.{◌≈◌, over, opposite, exactly}
use Rattle.exact.proofs.Alike.{≐-sym, ≐-trans}
use Rattle.lens.specs.ByHand.{xy, uv}
use Rattle.lens.specs.Distorted.{told_pixel}
use Rattle.lens.specs.Finite.{all_finite}
use Rattle.lens.specs.Judgement.{decided, accepted}
use Rattle.lens.specs.Rows.{first}
use Rattle.lens.specs.Distorted.{Distorted}
use Rattle.lens.specs.declared.Pixel.{Pixel}
use Rattle.lens.specs.declared.Point.{Point}
use Rattle.lens.specs.declared.Refusal.TheVariants.{NotFinite, WrongSize, WrongLength, IncrementNotPositive}
use Rattle.lens.specs.declared.Refusal.TheVariants.{OutsideTable, AnswerNotFinite}
use Rattle.region.specs.Region.{four, increments, flat, wrong}
use Rattle.region.specs.Size.{float, sized}
use Rattle.region.specs.declared.Region.{Region}
use Rattle.lookup.specs.Asked.{Inside, Whole}
use Rattle.lookup.specs.Enclosed.{used, lesser, greater, least, greatest, Enclosed, EnclosedWithRoom, Level}
use Rattle.lookup.specs.Lookup.{index, index_across, index_down, outside, whole_part, fraction, neighbour, spot}
use Rattle.lookup.specs.Lookup.{between, blended, cell, number_at, pixel_at, looked_up, spread, admitted}
use Rattle.lookup.specs.Lookup.{lookup}
use Rattle.lookup.specs.Owed.{Apart, Singles, around, Answered}
use Rattle.lookup.specs.Rows.{ahead, lookup_rows}
use Rattle.lookup.proofs.Among.{cut}
use Rattle.lookup.proofs.Steps.{taken, both, indices, inside_wide, inside_high}
use Rattle.lookup.proofs.OnCell.{on, cell_fits, kept, same_finite, sure, first_of, both_finite}
use Rattle.lookup.proofs.Rest.{rest_part}
use Rattle.lookup.proofs.Extremes.{Every, with_room}
use Rattle.lookup.proofs.Four.{blended_inside, blended_level}
use Rattle.lookup.proofs.lookup.Reads as lookup-contract

-- ---- the contract permits one answer

-- Any two answers to one call that the contract of `lookup` permits are equal.
pub lookup_determined : Determined lookup-contract.Post
lookup_determined κ a s s' r r' p q = p ∙ sym q

-- ---- the refusals

-- by what each row says; what stands behind a row isn't asked where it holds
in_order :
    (f s m g d o a : Bool) (pixel : Pixel)
    → (told_pixel
    (decided (cond f (Err NotFinite) (cond (not s) (Err WrongSize) (cond m accepted (Err WrongLength)))) Err
    (decided (cond g (Err IncrementNotPositive) (cond d accepted (Err AnswerNotFinite))) Err
    (cond o (Err OutsideTable) (cond a (Ok pixel) (Err AnswerNotFinite)))))
    ).number
    ≡ cond f 4 (cond (not s) 6 (cond (not m) 7 (cond g 8 (cond (not d) 11 (cond o 9 (cond (not a) 11 0))))))
in_order true s m g d o a pixel = refl
in_order false false m g d o a pixel = refl
in_order false true false g d o a pixel = refl
in_order false true true true d o a pixel = refl
in_order false true true false false o a pixel = refl
in_order false true true false true true a pixel = refl
in_order false true true false true false false pixel = refl
in_order false true true false true false true pixel = refl

nine :
    (f s m g d o a : Bool)
    → ◌≡◌ {A = ℕ} (cond f 4 (cond (not s) 6 (cond (not m) 7 (cond g 8 (cond (not d) 11 (cond o 9 (cond (not a) 11 0))))))) 9
    ↔ (◌≡◌ {A = ℕ} (cond f 4 (cond (not s) 6 (cond (not m) 7 (cond g 8 (cond (not d) 11 0))))) 0 × (o ≡ true))
nine true s m g d o a = (λ h. absurd (omega arith), λ h. absurd (omega arith))
nine false false m g d o a = (λ h. absurd (omega arith), λ h. absurd (omega arith))
nine false true false g d o a = (λ h. absurd (omega arith), λ h. absurd (omega arith))
nine false true true true d o a = (λ h. absurd (omega arith), λ h. absurd (omega arith))
nine false true true false false o a = (λ h. absurd (omega arith), λ h. absurd (omega arith))
nine false true true false true true a = (λ h. (refl, refl), λ h. refl)
nine false true true false true false false = (λ h. absurd (omega arith), λ h. absurd (false≢true h.1))
nine false true true false true false true = (λ h. absurd (omega arith), λ h. absurd (false≢true h.1))

-- a call that no row ahead refuses is taken, and so are its increments
passed :
    (f s m g d : Bool)
    → ◌≡◌ {A = ℕ} (cond f 4 (cond (not s) 6 (cond (not m) 7 (cond g 8 (cond (not d) 11 0))))) 0
    → (cond f (Err NotFinite) (cond (not s) (Err WrongSize) (cond m accepted (Err WrongLength))) ≡ accepted)
    × (cond g (Err IncrementNotPositive) (cond d accepted (Err AnswerNotFinite)) ≡ accepted)
passed true s m g d h = absurd (omega arith)
passed false false m g d h = absurd (omega arith)
passed false true false g d h = absurd (omega arith)
passed false true true true d h = absurd (omega arith)
passed false true true false false h = absurd (omega arith)
passed false true true false true h = (refl, refl)

-- an answer passes them all
none :
    (f s m g d o a : Bool)
    → ◌≡◌ {A = ℕ} (cond f 4 (cond (not s) 6 (cond (not m) 7 (cond g 8 (cond (not d) 11 (cond o 9 (cond (not a) 11 0))))))) 0
    → ◌≡◌ {A = ℕ} (cond f 4 (cond (not s) 6 (cond (not m) 7 (cond g 8 (cond (not d) 11 0))))) 0 × (o ≡ false)
    × (a ≡ true)
none true s m g d o a h = absurd (omega arith)
none false false m g d o a h = absurd (omega arith)
none false true false g d o a h = absurd (omega arith)
none false true true true d o a h = absurd (omega arith)
none false true true false false o a h = absurd (omega arith)
none false true true false true true a h = absurd (omega arith)
none false true true false true false false h = absurd (omega arith)
none false true true false true false true h = (refl, refl, refl)

neither : (o p : Bool) → (o || p) ≡ false → (o ≡ false) × (p ≡ false)
neither true p h = absurd (true≢false h)
neither false p h = (refl, h)

apart : {i : Float} {cells : ℕ} → Inside i cells → Apart i cells
apart {i} {cells} h =
    let c = cut i cells h in
    record {
      first = c.among;
      second = omega (arith, min-le_right (whole_part i + 1) (cells - 1));
      not_above = c.not_above;
      not_below = c.not_below;
    }

module _ (table : List Float) (region : Region) (width height : ℕ) (point : Point) where
  abbrev before : ℕ
  before = first (ahead (length table) region width height point)

  abbrev i : Float
  i = index_across region width height point

  abbrev j : Float
  j = index_down region width height point

  abbrev there : Pixel
  there = pixel_at table width (spot i width) (spot j height)

  -- what the rows ask of the numbers handed in, of the increments and of the answer
  abbrev not_given : Bool
  not_given = not (all_finite (four region)) || not (finite point.0 && finite point.1)

  abbrev measures : Bool
  measures = eqb (length table) (2 * (width * height))

  abbrev no_step : Bool
  no_step = flat (increments region width height).0 || flat (increments region width height).1

  abbrev steps_finite : Bool
  steps_finite = finite (increments region width height).0 && finite (increments region width height).1

  abbrev out : Bool
  out = outside i width || outside j height

  abbrev there_finite : Bool
  there_finite = finite there.0 && finite there.1

  -- A lookup gives 4, 6, 7, 8, 11, 9 or 11 exactly when the table of refusals says so, in this order, the increments
  -- before the indices.
  pub lookup_number :
      (told_pixel (lookup table region width height point)).number ≡ first (lookup_rows table region width height point)
  unfolding admitted spread wrong looked_up
  lookup_number = in_order not_given (sized width height) measures no_step steps_finite out there_finite there

  -- The number told is 9 exactly if neither 4, 6 and 7 nor the increments' 8 and 11 refuse the call, and the index
  -- across or the one down is below 0 or above the last.
  pub outside_exactly :
      ((told_pixel (lookup table region width height point)).number ≡ 9)
      ↔ ((before ≡ 0) × ((outside i width || outside j height) ≡ true))
  outside_exactly =
      rw lookup_number (nine not_given (sized width height) measures no_step steps_finite out there_finite)

  -- its parts, for a call that isn't refused ahead of the indices
  judged :
      before ≡ 0 → (admitted (length table) region width height point ≡ accepted)
      × (wrong (increments region width height) ≡ accepted)
  unfolding admitted wrong
  judged h = passed not_given (sized width height) measures no_step steps_finite h

  whole_table : before ≡ 0 → Whole (length table) width height
  whole_table h = (taken (length table) region width height point (judged h).0).whole

  inside_both : before ≡ 0 → out ≡ false → Inside i width × Inside j height
  inside_both h o =
      let w = whole_table h in
      let n = indices (increments region width height) (taken (length table) region width height point (judged h).0) (judged h).1 in
      let p = neither (outside i width) (outside j height) o in
      (inside_wide w i n.0 p.0, inside_high w j n.1 p.1)

  -- Where neither the rows ahead nor 9 refuse, the whole part of each index is a cell of the table, and so is the
  -- neighbour; the index is the whole part and less than 1 more.
  pub within_the_table : before ≡ 0 → (outside i width || outside j height) ≡ false → Apart i width × Apart j height
  within_the_table h o = let n = inside_both h o in (apart n.0, apart n.1)

  across_fits : T (fits binary64 i)
  unfolding index
  across_fits = div-fits binary64 (point.0 ⊖ region.left) (increments region width height).0

  down_fits : T (fits binary64 j)
  unfolding index
  down_fits = div-fits binary64 (point.1 ⊖ region.top) (increments region width height).1

  -- a call that nothing refuses
  answers :
      before ≡ 0 → outside i width ≡ false → outside j height ≡ false → there_finite ≡ true
      → lookup table region width height point ≡ Ok there
  unfolding spread looked_up
  answers h o p a = rw ((judged h).0, (judged h).1, o, p, a) refl

  -- At a cell's own point the cell's pixel comes back, wherever both indices work out to its whole numbers: a table of
  -- f32s, whose four cells that are used hold finite numbers, answers with the cell's two numbers as they are, but for
  -- -0, which may come back as +0. An index of -0 counts as 0.
  pub at_a_cell :
      Singles table
      → before ≡ 0
      → (u v : ℕ) → u < width → v < height → T (eq i (float u)) → T (eq j (float v))
      → all_finite (around table width height u v 0) ≡ true → all_finite (around table width height u v 1) ≡ true
      → Answered (cell table width 0 u v) (cell table width 1 u v) (lookup table region width height point)
  at_a_cell held h u v hu hv ei ej p q =
      let w = whole_table h in
      let across = on i u width across_fits hu w.size.not_wider ei in
      let down = on j v height down_fits hv w.size.not_higher ej in
      let x = kept table held width height u v across down 0 p in
      let y = kept table held width height u v across down 1 q in
      let both = both_finite there.0 there.1 (same_finite (first_of _ _ p) x) (same_finite (first_of _ _ q) y) in
      record {
        pixel = there;
        is = answers h across.among down.among both;
        first = x;
        second = y;
      }

  -- ---- what an answer keeps to

  record Answer (pixel : Pixel) : Type 0 where
    is : there ≡ pixel
    across : Inside i width
    down : Inside j height
    first : T (finite there.0)
    second : T (finite there.1)

  answer : {pixel : Pixel} → lookup table region width height point ≡ Ok pixel → Answer pixel
  answer e =
      let told = sym lookup_number ∙ ap (λ (d : Distorted). (told_pixel d).number) e in
      let n = none not_given (sized width height) measures no_step steps_finite out there_finite told in
      let o = neither (outside i width) (outside j height) n.1 in
      let c = inside_both n.0 n.1 in
      let t = both (finite there.0) (finite there.1) n.2 in
      record {
        is = ap (λ (d : Distorted). (told_pixel d).pixel) (sym (answers n.0 o.0 o.1 n.2) ∙ e);
        across = c.0;
        down = c.1;
        first = sure (finite there.0) t.0;
        second = sure (finite there.1) t.1;
      }

  -- the numbers k, 0 or 1, of the four cells, and what is made of them
  abbrev cells : ℕ → List Float
  cells k = used table region width height point k

  abbrev made : ℕ → Float
  made k = number_at table width k (spot i width) (spot j height)

  module _ (held : Singles table) where
    cells_fit : (k : ℕ) → Every (λ x. T (fits binary64 x)) (cells k)
    cells_fit k =
        let u = whole_part i in
        let v = whole_part j in
        let at : (p q : ℕ) → T (fits binary64 (cell table width k p q)) = λ p q. fits_widens _ (cell_fits table held width k p q) in
        (at u v, (at (neighbour u width) v, (at u (neighbour v height), (at (neighbour u width) (neighbour v height), tt))))

    made_inside : (k : ℕ) → Inside i width → Inside j height → T (finite (made k)) → Enclosed (cells k) (made k)
    unfolding number_at spot
    made_inside k across down =
        blended_inside _ _ _ _ (fraction i) (fraction j) (cells_fit k) (rest_part i width across_fits across)
        (rest_part j height down_fits down)

    made_level : (k : ℕ) → T (finite (made k)) → Level (cells k) (made k)
    unfolding number_at spot
    made_level k t c h =
        let f = cells_fit k in
        let back = ≐-sym h.0 in
        ≐-trans
        (blended_level _ _ _ _ (fraction i) (fraction j) f.0 f.1.1.0 t
        (≐-trans h.1.0 back) (≐-trans h.1.1.0 back) (≐-trans h.1.1.1.0 back))
        h.0

    -- Of a table of f32s, at any point that is answered: the four cells that are used are finite, and each coordinate
    -- of the answer lies between the least and the greatest of them, or is one of these two.
    pub inside_exactly :
        {pixel : Pixel} → lookup table region width height point ≡ Ok pixel → Enclosed (cells 0) pixel.0
        × Enclosed (cells 1) pixel.1
    inside_exactly e =
        let a = answer e in
        subst (λ (p : Pixel). Enclosed (cells 0) p.0 × Enclosed (cells 1) p.1) a.is
        (made_inside 0 a.across a.down a.first, made_inside 1 a.across a.down a.second)

    -- And so within 2^-48 times the largest magnitude among the four of that, which is what request P13 asks.
    pub inside :
        {pixel : Pixel} → lookup table region width height point ≡ Ok pixel → EnclosedWithRoom (cells 0) pixel.0
        × EnclosedWithRoom (cells 1) pixel.1
    inside e = let both = inside_exactly e in (with_room both.0, with_room both.1)

    -- Four equal coordinates give exactly that number, the sign of a zero aside.
    pub level :
        {pixel : Pixel} → lookup table region width height point ≡ Ok pixel → Level (cells 0) pixel.0
        × Level (cells 1) pixel.1
    level e =
        let a = answer e in
        subst (λ (p : Pixel). Level (cells 0) p.0 × Level (cells 1) p.1) a.is
        (made_level 0 a.first, made_level 1 a.second)

-- ---- by hand

-- the table of docs/RULES.md, 17, and its region: -2, 1 and 4 across, -1.5 and 2.5 down
unfoldable pub listed : List Float
listed =
    let left = f64 0xc000_0000_0000_0000 in
    let middle = f64 0x3ff0_0000_0000_0000 in
    let right = f64 0x4010_0000_0000_0000 in
    let top = f64 0xbff8_0000_0000_0000 in
    let bottom = f64 0x4004_0000_0000_0000 in
    left ∷ top ∷ middle ∷ top ∷ right ∷ top ∷ left ∷ bottom ∷ middle ∷ bottom ∷ right ∷ bottom ∷ []

abbrev pub box : Region
box =
    record { left = f64 0xc000_0000_0000_0000; top = f64 0xbff8_0000_0000_0000; right = f64 0x4010_0000_0000_0000; bottom = f64 0x4004_0000_0000_0000 }

-- 1 and 0.5
abbrev pub one_half : Point
one_half = xy (f64 0x3ff0_0000_0000_0000) (f64 0x3fe0_0000_0000_0000)

-- At (1, 0.5) it gives (1, 0.5); the second numbers of the four cells reach from -1.5 to 2.5.
pub by_hand :
    (lookup listed box 3 2 one_half ≡ Ok (uv one_half.0 one_half.1))
    × (least (used listed box 3 2 one_half 1) ≈ opposite (over 3 2))
    × (greatest (used listed box 3 2 one_half 1) ≈ over 5 2)
unfolding
    listed admitted wrong spread looked_up index spot between blended cell number_at increments float of_int of_bits round
    add sub mul div neg lt eq le to_unsigned all_finite least greatest lesser greater opposite over exactly
by_hand = (refl, record { holds = refl }, record { holds = refl })
