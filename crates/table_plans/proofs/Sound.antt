-- The plans of our tables are sound: each engine's answers are finite and within its limit, and each refusal of a cell has a number. Assumes nothing.
use mathlib.Core.Path.{◌≡◌, refl, sym, ap, ◌∙◌, subst}
use Rattle.std.specs.declared.result.Result.TheVariants.{Ok, Err}
use Rattle.std.specs.declared.option.Option.{Option}
use Rattle.std.specs.declared.option.Option.TheVariants.{Some, None}
use mathlib.Core.Bool.{Bool, true, false, cond, ◌&&◌}
use Prim.Native.Nat.{ℕ, ◌≤◌, ◌<◌}
use native.Mathlib.Omega.{arith}
use lib.IntN.{ℤ}
use lib.Ieee.{Float}
use lib.Ieee.Scale.{finite}
use Rattle.narrow.specs.Narrow.{narrowed}
use Rattle.thirty_seconds.specs.Multiple.{nearest_multiple}
use Rattle.exact.proofs.Alike.{≐-finite}
use Rattle.lens.specs.Finite.{all_finite}
use Rattle.lens.specs.Refusal.{number}
use Rattle.lens.specs.Undistorted.{told}
use Rattle.lens.specs.Distorted.{Distorted}
use Rattle.lens.specs.Judgement.{Judgement, accepted}
use Rattle.lens.specs.declared.Pixel.{Pixel}
use Rattle.lens.specs.declared.Point.{Point}
use Rattle.lens.specs.declared.Refusal.TheVariants.{NotFinite, ZeroFocalLength, WrongSize, AnswerNotFinite}
use Rattle.lens.specs.declared.Settled.{Settled}
use Rattle.lens.specs.Undistorted.{Undistorted}
use Rattle.lens.proofs.Laws.{number_within}
use Rattle.region.specs.Region.{four, increments}
use Rattle.region.specs.Size.{sized, Sized}
use Rattle.region.specs.declared.Increments.{Increments}
use Rattle.region.specs.declared.Region.{Region}
use Rattle.region.proofs.Size.{is_sized}
use Rattle.camera.specs.Camera.{parameters, zero_focal, point_of, finite_point, limit}
use Rattle.camera.specs.declared.Camera.{Camera}
use Rattle.camera.proofs.Laws.{updates_limit_judged}
use Rattle.plans.specs.Plan.{Content, numbers, none}
use Rattle.alike_plans.specs.AlikePlans.{AlikeFound}
use Rattle.plans.specs.Calls.{Sound}
use Rattle.cell.specs.Cell.{cell_point, both_held, of_pixel, cell_by}
use Rattle.table_plans.specs.Tables.{Engine, full, picked, Border, corners_once, corners_twice, opens_for, sweep_by, table_by, Kind, f32s, i16s, table_of, table_before, f32_table, i16_table}
use Rattle.table_plans.proofs.Picked.{points_alike}

-- an engine whose answers are finite and within its limit
pub record Sure (engine : Engine) : Type 0 where
  pub limited : (pixel : Pixel) (settled : Settled) → engine.undistort pixel ≡ Ok settled → settled.updates ≤ engine.limit
  pub points : (pixel : Pixel) (settled : Settled) → engine.undistort pixel ≡ Ok settled → (finite settled.point.0 ≡ true) × (finite settled.point.1 ≡ true)

-- a kind of cell with one refusal, its own, which has a number
pub record Fit {X : Type 0} (kind : Kind X) : Type 0 where
  pub only : (pixel : Pixel) (n : ℕ) → kind.holds pixel ≡ none n → n ≡ kind.refusal
  pub numbered : 0 < kind.refusal

-- ---- engines and kinds

found_finite : (u : Undistorted) (s : Settled) → finite_point u ≡ Ok s → (finite s.point.0 ≡ true) × (finite s.point.1 ≡ true)
found_finite (Err r) s h = let z : ◌≡◌ {A = ℕ} 0 1 = cc in absurd (omega arith)
found_finite (Ok w) s h = go (finite w.point.0) refl (finite w.point.1) refl h
  where
    go : (p : Bool) → finite w.point.0 ≡ p → (q : Bool) → finite w.point.1 ≡ q → cond (p && q) (Ok w) (Err AnswerNotFinite) ≡ Ok s → (finite s.point.0 ≡ true) × (finite s.point.1 ≡ true)
    go true e true f k = let i : w ≡ s = cc in (sym (ap (λ (x : Settled). finite x.point.0) i) ∙ e, sym (ap (λ (x : Settled). finite x.point.1) i) ∙ f)
    go true e false f k = let z : ◌≡◌ {A = ℕ} 0 1 = cc in absurd (omega arith)
    go false e q f k = let z : ◌≡◌ {A = ℕ} 0 1 = cc in absurd (omega arith)

pub full_sure : (camera : Camera) → Sure (full camera)
full_sure camera = record {
  limited = λ pixel settled e. subst (λ (u : Undistorted). (told u).settled.updates ≤ limit camera) e (updates_limit_judged camera pixel);
  points = λ pixel settled e. found_finite (point_of camera pixel) settled e;
}

-- an engine whose answers are alike those of a sure one is sure
module _ (e f : Engine) (same-limit : e.limit ≡ f.limit) (alike : (pixel : Pixel) → AlikeFound (e.undistort pixel) (f.undistort pixel)) (s : Sure f) where
  at_most_lem : (a : Settled) (v : Undistorted) (pixel : Pixel) → f.undistort pixel ≡ v → AlikeFound (Ok a) v → a.updates ≤ e.limit
  at_most_lem a (Ok b) pixel i k = subst (λ (n : ℕ). n ≤ e.limit) (sym k.updates) (subst (λ (n : ℕ). b.updates ≤ n) (sym same-limit) (s.limited pixel b i))
  at_most_lem a (Err r) pixel i k = absurd k

  both_finite : (a : Settled) (v : Undistorted) (pixel : Pixel) → f.undistort pixel ≡ v → AlikeFound (Ok a) v → (finite a.point.0 ≡ true) × (finite a.point.1 ≡ true)
  both_finite a (Ok b) pixel i k = let t = s.points pixel b i in (≐-finite k.point.x ∙ t.0, ≐-finite k.point.y ∙ t.1)
  both_finite a (Err r) pixel i k = absurd k

  found_so : (pixel : Pixel) (a : Settled) → e.undistort pixel ≡ Ok a → AlikeFound (Ok a) (f.undistort pixel)
  found_so pixel a k = subst (λ (u : Undistorted). AlikeFound u (f.undistort pixel)) k (alike pixel)

  sure_alike : Sure e
  sure_alike = record {
    limited = λ pixel a k. at_most_lem a (f.undistort pixel) pixel refl (found_so pixel a k);
    points = λ pixel a k. both_finite a (f.undistort pixel) pixel refl (found_so pixel a k);
  }

pub picked_sure : (camera : Camera) → Sure (picked camera)
picked_sure camera = sure_alike (picked camera) (full camera) refl (points_alike camera) (full_sure camera)

numbered : {X : Type 0} (r : ℕ) → 0 < r → ◌≡◌ {A = Content X} (none r) (none 0) → ⊥
numbered r h e = let z : r ≡ 0 = cc in omega (arith, h, z)

not_numbers : {X : Type 0} (a b : X) (n m : ℕ) → numbers a b ≡ none n → n ≡ m
not_numbers a b n m e = let z : ◌≡◌ {A = ℕ} 0 1 = cc in absurd (omega arith)

told_by : {X : Type 0} (m n : ℕ) → ◌≡◌ {A = Content X} (none m) (none n) → n ≡ m
told_by m n e = let z : m ≡ n = cc in sym z

pub f32_fit : Fit f32s
f32_fit = record { only = λ pixel n. go (narrowed pixel.0) (narrowed pixel.1) n (finite (narrowed pixel.0) && finite (narrowed pixel.1)); numbered = omega arith }
  where
    go : (a b : Float) (n : ℕ) (h : Bool) → cond h (numbers a b) (none 12) ≡ none n → n ≡ 12
    go a b n true e = not_numbers a b n 12 e
    go a b n false e = told_by {X = Float} 12 n e

pub i16_fit : Fit i16s
i16_fit = record { only = λ pixel n. go n (nearest_multiple pixel.0) (nearest_multiple pixel.1); numbered = omega arith }
  where
    go : (n : ℕ) (a b : Option ℤ) → both_held a b ≡ none n → n ≡ 19
    go n (Some a) (Some b) e = not_numbers a b n 19 e
    go n (Some a) None e = told_by {X = ℤ} 19 n e
    go n None b e = told_by {X = ℤ} 19 n e

module _ {X : Type 0} (engine : Engine) (kind : Kind X) (t : Fit kind) where
  telling_pixel : (d : Distorted) → of_pixel kind.holds d ≡ none 0 → ⊥
  telling_pixel (Ok pixel) e = omega (arith, t.only pixel 0 e, t.numbered)
  telling_pixel (Err r) e = numbered (number r) (number_within r).0 e

  telling_cell : (region : Region) (by : Increments) (u v : ℕ) → cell_by engine.distort kind.holds region by u v ≡ none 0 → ⊥
  unfolding cell_by
  telling_cell region by u v = go (finite point.0 && finite point.1)
    where
      point : Point
      point = cell_point region by u v

      go : (b : Bool) → cond b (of_pixel kind.holds (engine.distort point)) (none 11) ≡ none 0 → ⊥
      go true e = telling_pixel (engine.distort point) e
      go false e = numbered 11 (omega arith) e

-- ---- the plan

module _ (camera : Camera) (width height : ℕ) where
  abbrev by_tests : Bool → Bool → Bool → Judgement
  by_tests g z s = cond g (cond z (Err ZeroFocalLength) (cond s accepted (Err WrongSize))) (Err NotFinite)

  opens_alike : (q r : Region) → all_finite (four q) ≡ true → all_finite (four r) ≡ true → opens_for camera width height q ≡ opens_for camera width height r
  unfolding opens_for
  opens_alike q r e f = ap (λ (b : Bool). by_tests (all_finite (parameters camera) && b) (zero_focal camera) (sized width height)) (e ∙ sym f)

  -- the tests that a record has passed which is opened for
  pub record Opened (region : Region) : Type 0 where
    pub numbers : (all_finite (parameters camera) && all_finite (four region)) ≡ true
    pub focal : zero_focal camera ≡ false
    pub taken_size : sized width height ≡ true
    pub size : Sized width height

  passed : (g z s : Bool) → by_tests g z s ≡ accepted → (g ≡ true) × (z ≡ false) × (s ≡ true)
  passed true false true h = (refl, refl, refl)
  passed true false false h = let z : ◌≡◌ {A = ℕ} 0 1 = cc in absurd (omega arith)
  passed true true s h = let z : ◌≡◌ {A = ℕ} 0 1 = cc in absurd (omega arith)
  passed false z s h = let z : ◌≡◌ {A = ℕ} 0 1 = cc in absurd (omega arith)

  pub opened : (region : Region) → opens_for camera width height region ≡ accepted → Opened region
  unfolding opens_for
  opened region h =
      let p = passed (all_finite (parameters camera) && all_finite (four region)) (zero_focal camera) (sized width height) h in
      record { numbers = p.0; focal = p.1; taken_size = p.2; size = is_sized width height p.2 }

  module _ {X : Type 0} (engine : Engine) (border : Border) (strict : Bool) (kind : Kind X) where
    pub table_sound :
        Sure engine → Fit kind → (Sized width height → 0 < border.samples)
        → Sound (table_by (sweep_by camera engine border strict width height) engine kind.holds)
    table_sound s t h = record {
      steady = record { bordered = λ region o. h (opened region o).size; limited = s.limited; points = s.points; alike = opens_alike };
      refusals = λ region u v. telling_cell engine kind t region (increments region width height) u v;
    }

  pub kind_sound : {X : Type 0} (kind : Kind X) → Fit kind → (strict : Bool) → Sound (table_of kind camera width height strict)
  kind_sound kind fit strict = table_sound (picked camera) (corners_once width height) strict kind (picked_sure camera) fit (λ size. omega (arith, size.wide))

  pub before_sound : {X : Type 0} (kind : Kind X) → Fit kind → (strict : Bool) → Sound (table_before kind camera width height strict)
  before_sound kind fit strict = table_sound (full camera) (corners_twice width height) strict kind (full_sure camera) fit (λ size. omega arith)

  pub f32_sound : (strict : Bool) → Sound (f32_table camera width height strict)
  f32_sound = kind_sound f32s f32_fit

  pub i16_sound : (strict : Bool) → Sound (i16_table camera width height strict)
  i16_sound = kind_sound i16s i16_fit
