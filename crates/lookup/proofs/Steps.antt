-- What the refusals before the answer leave, and that the four cells around two spots are in the table. Assumes nothing.
use Rattle.std.proofs.Common.{◌≡◌, ℕ, ◌+◌, ◌-◌, ◌*◌, Bool, true, false, cond, not, ◌&&◌, ◌||◌, eqb, List, [], ◌∷◌, refl, arith, eqb-true}
use Rattle.std.specs.declared.result.Result.TheVariants.{Err}
use mathlib.Core.Bool.{false≢true}
use native.Mathlib.Nat.{min-le_right}
use lib.Ieee.{Float}
use lib.Ieee.Scale.{finite}
use Rattle.lens.specs.Distorted.{finite_pixel}
use Rattle.lens.specs.Finite.{all_finite}
use Rattle.lens.specs.Judgement.{decided, accepted}
use Rattle.lens.specs.Distorted.{Distorted}
use Rattle.lens.specs.Judgement.{Judgement}
use Rattle.lens.specs.declared.Point.{Point}
use Rattle.lens.specs.declared.Refusal.TheVariants.{NotFinite, WrongSize, WrongLength, OutsideTable}
use Rattle.region.specs.Region.{four, increments, wrong}
use Rattle.region.specs.Size.{sized}
use Rattle.region.specs.declared.Increments.{Increments}
use Rattle.region.specs.declared.Region.{Region}
use Rattle.region.proofs.Size.{is_sized}
use Rattle.lookup.specs.Asked.{Number, Inside, Whole, Reaches, Taken}
use Rattle.lookup.specs.Lookup.{index, outside, spot, whole_part, pixel_at, looked_up, spread, admitted}
use Rattle.lookup.proofs.Among.{cut, steps, index_number}

-- ---- 4, 6 and 7, by what the tests say

pub admitted_so : (places : ℕ) (region : Region) (width height : ℕ) (point : Point) {f g s m : Bool}
    → f ≡ not (all_finite (four region)) → g ≡ not (finite point.0 && finite point.1) → s ≡ not (sized width height) → m ≡ eqb places (2 * (width * height))
    → cond (f || g) (Err NotFinite) (cond s (Err WrongSize) (cond m accepted (Err WrongLength))) ≡ admitted places region width height point
unfolding admitted
admitted_so places region width height point f g s m = rw (f, g, s, m) refl

-- ---- a call that they leave

pub taken : (places : ℕ) (region : Region) (width height : ℕ) (point : Point) → admitted places region width height point ≡ accepted → Taken places region width height point
unfolding admitted
taken places region width height point =
    go (all_finite (four region)) refl (finite point.0 && finite point.1) refl (sized width height) refl (eqb places (2 * (width * height))) refl
  where
    go : (f : Bool) → all_finite (four region) ≡ f → (g : Bool) → (finite point.0 && finite point.1) ≡ g → (s : Bool) → sized width height ≡ s → (m : Bool) → eqb places (2 * (width * height)) ≡ m
        → cond (not f || not g) (Err NotFinite) (cond (not s) (Err WrongSize) (cond m accepted (Err WrongLength))) ≡ accepted
        → Taken places region width height point
    go true ef true eg true es true em h = record { edges = ef; place = eg; whole = record { size = is_sized width height es; all = eqb-true places (2 * (width * height)) em } }
    go true ef true eg true es false em h = let z : ◌≡◌ {A = ℕ} 0 1 = cc in absurd (omega arith)
    go true ef true eg false es m em h = let z : ◌≡◌ {A = ℕ} 0 1 = cc in absurd (omega arith)
    go true ef false eg s es m em h = let z : ◌≡◌ {A = ℕ} 0 1 = cc in absurd (omega arith)
    go false ef g eg s es m em h = let z : ◌≡◌ {A = ℕ} 0 1 = cc in absurd (omega arith)

-- ---- of finite numbers each is finite

pub both : (a b : Bool) → (a && b) ≡ true → (a ≡ true) × (b ≡ true)
both true true h = (refl, refl)
both true false h = absurd (false≢true h)
both false b h = absurd (false≢true h)

module _ (x : Float) (rest : List Float) (h : all_finite (x ∷ rest) ≡ true) where
  pub first_finite : finite x ≡ true
  unfolding all_finite
  first_finite = (both (finite x) (all_finite rest) h).0

  pub rest_finite : all_finite rest ≡ true
  unfolding all_finite
  rest_finite = (both (finite x) (all_finite rest) h).1

-- ---- the cells

module _ {places width height : ℕ} (w : Whole places width height) where
  pub inside_wide : (i : Float) → Number i → outside i width ≡ false → Inside i width
  inside_wide i n o = record { number = n; among = o; some = omega arith; few = w.size.not_wider }

  pub inside_high : (j : Float) → Number j → outside j height ≡ false → Inside j height
  inside_high j n o = record { number = n; among = o; some = omega arith; few = w.size.not_higher }

  pub reaches : {i j : Float} → Inside i width → Inside j height → Reaches places width (spot i width) (spot j height)
  unfolding spot
  reaches {i} {j} h k = record {
    rows = height;
    all = w.all;
    left = (cut i width h).among;
    right = omega (arith, min-le_right (whole_part i + 1) (width - 1));
    top = (cut j height k).among;
    bottom = omega (arith, min-le_right (whole_part j + 1) (height - 1));
  }

-- ---- 9, by what the tests say, and the answer behind it

pub looked_up_so : (table : List Float) (width height : ℕ) (i j : Float) {o p : Bool} {answer : Distorted}
    → o ≡ outside i width → p ≡ outside j height → answer ≡ finite_pixel (pixel_at table width (spot i width) (spot j height))
    → cond (o || p) (Err OutsideTable) answer ≡ looked_up table width height i j
unfolding looked_up
looked_up_so table width height i j e f a = rw (e, f, a) refl

-- ---- 8 and 11, by what is wrong with the increments

pub spread_so : (table : List Float) (region : Region) (width height : ℕ) (point : Point) {by : Increments} {j : Judgement} {answer : Distorted}
    → by ≡ increments region width height → j ≡ wrong by → answer ≡ looked_up table width height (index point.0 region.left by.0) (index point.1 region.top by.1)
    → decided j Err answer ≡ spread table region width height point
unfolding spread
spread_so table region width height point e f a = rw (a, f, e) refl

-- what they leave makes indices that are numbers
pub indices : {places : ℕ} {region : Region} {width height : ℕ} {point : Point} (by : Increments) → Taken places region width height point → wrong by ≡ accepted
    → Number (index point.0 region.left by.0) × Number (index point.1 region.top by.1)
indices {region = region} {point = point} by t w =
    let s = steps by w in
    let p = both (finite point.0) (finite point.1) t.place in
    let x = point.0 in
    let y = point.1 in
    let edges = rest_finite region.left (region.top ∷ region.right ∷ region.bottom ∷ []) t.edges in (
      index_number x region.left by.0 p.0 (first_finite region.left (region.top ∷ region.right ∷ region.bottom ∷ []) t.edges) s.across s.across_some,
      index_number y region.top by.1 p.1 (first_finite region.top (region.right ∷ region.bottom ∷ []) edges) s.down s.down_some,
    )
