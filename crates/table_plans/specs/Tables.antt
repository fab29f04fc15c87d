-- The plans of a camera's tables: an engine, a border, a strict mark and a kind of cell make one. Definitions only.
use Rattle.std.specs.Prelude.{Bool, false, cond, ◌&&◌, ◌||◌, List, [], ◌∷◌, ℕ, eqb, ℤ, Float, get_or, Err}
use Rattle.lens.specs.Finite.{all_finite}
use Rattle.lens.specs.Distorted.{Distorted}
use Rattle.lens.specs.Judgement.{Judgement, accepted}
use Rattle.lens.specs.declared.Pixel.{Pixel}
use Rattle.lens.specs.declared.Point.{Point}
use Rattle.lens.specs.declared.Refusal.TheVariants.{NotFinite, ZeroFocalLength, WrongSize}
use Rattle.lens.specs.Undistorted.{Undistorted}
use Rattle.region.specs.Region.{four, increments}
use Rattle.region.specs.Size.{sized}
use Rattle.region.specs.declared.Region.{Region}
use Rattle.camera.specs.Camera.{parameters, zero_focal, distort_judged, undistort_judged, limit}
use Rattle.camera.specs.declared.Camera.{Camera}
use Rattle.engine.specs.Engine.{short_for, distort, undistort}
use Rattle.border.specs.Border.{outside, pixel, samples, border_at, border_twice, samples_twice}
use Rattle.plans.specs.Plan.{Content, Sweep, Plan}
use Rattle.cell.specs.Cell.{cell_by}
pub use Rattle.cell.specs.Kind.{Kind, f32s, i16s}

-- ---- engines: what finds the point of a pixel and the pixel of a point, and the most updates that it makes

pub record Engine : Type 0 where
  pub undistort : Pixel → Undistorted
  pub distort : Point → Distorted
  pub limit : ℕ

-- the camera's own: what a table is said to hold
abbrev pub full : Camera → Engine
full camera = record {
  undistort = undistort_judged camera;
  distort = distort_judged camera;
  limit = limit camera;
}

-- and by the mark that a turn asks for once: the short one for a bc camera whose k4, k5 and k6 are zeros
abbrev pub engine_by : Bool → Camera → Engine
engine_by mark camera = record {
  undistort = undistort camera mark;
  distort = distort camera mark;
  limit = limit camera;
}

-- which is the one that builds it
abbrev pub picked : Camera → Engine
picked camera = engine_by (short_for camera) camera

-- ---- borders: how many samples, and the pixel of each

pub record Border : Type 0 where
  pub samples : ℕ
  pub pixel_at : ℕ → Pixel

-- top and bottom from corner to corner, then left and right between the corners
abbrev pub corners_once : ℕ → ℕ → Border
corners_once width height = record { samples = samples width height; pixel_at = border_at width height }

-- as it was before: left and right from corner to corner as well
abbrev pub corners_twice : ℕ → ℕ → Border
corners_twice width height = record {
  samples = samples_twice width height;
  pixel_at = λ n. get_or (border_twice width height) n (pixel outside outside);
}

-- ---- what refuses a record before its table is looked at: 4, 5, 6

unfoldable pub opens_for : Camera → ℕ → ℕ → Region → Judgement
opens_for camera width height region =
    cond (all_finite (parameters camera) && all_finite (four region))
    (cond (zero_focal camera) (Err ZeroFocalLength)
    (cond (sized width height) accepted (Err WrongSize)))
    (Err NotFinite)

-- ---- plans

abbrev pub sweep_by : Camera → Engine → Border → Bool → ℕ → ℕ → Sweep
sweep_by camera engine border strict width height = record {
  width = width;
  height = height;
  samples = border.samples;
  pixel_at = border.pixel_at;
  sample = engine.undistort;
  limit = engine.limit;
  strict = strict;
  opens = opens_for camera width height;
}

abbrev pub table_by : {X : Type 0} → Sweep → Engine → (Pixel → Content X) → Plan X
table_by sweep engine kind = record {
  sweep = sweep;
  cell = λ region. cell_by engine.distort kind region (increments region sweep.width sweep.height);
}

-- the sweep of every table, whatever its cells hold; a strict one is refused at a sample that didn't settle
abbrev pub sweep_with : Engine → Camera → ℕ → ℕ → Bool → Sweep
sweep_with engine camera width height strict =
    sweep_by camera engine (corners_once width height) strict width height

-- as it is said, and as it is built
abbrev pub full_sweep : Camera → ℕ → ℕ → Bool → Sweep
full_sweep camera = sweep_with (full camera) camera

abbrev pub sweep_of : Camera → ℕ → ℕ → Bool → Sweep
sweep_of camera = sweep_with (picked camera) camera

-- ---- the table of a kind: as it is said, by the full engine, and as it is built. The law `built_full` has the two alike: a
-- zero's sign may differ in an edge that a record keeps, and nowhere else
abbrev pub full_table : {X : Type 0} → Kind X → Camera → ℕ → ℕ → Bool → Plan X
full_table kind camera width height strict =
    table_by (full_sweep camera width height strict) (full camera) kind.holds

abbrev pub table_of : {X : Type 0} → Kind X → Camera → ℕ → ℕ → Bool → Plan X
table_of kind camera width height strict =
    table_by (sweep_of camera width height strict) (picked camera) kind.holds

abbrev pub f32_table : Camera → ℕ → ℕ → Bool → Plan Float
f32_table = table_of f32s

abbrev pub i16_table : Camera → ℕ → ℕ → Bool → Plan ℤ
i16_table = table_of i16s

-- and the one that was built before P11, with its corners twice
abbrev pub table_before : {X : Type 0} → Kind X → Camera → ℕ → ℕ → Bool → Plan X
table_before kind camera width height strict =
    table_by (sweep_by camera (full camera) (corners_twice width height) strict width height) (full camera)
    kind.holds

-- ---- what refuses a unit of it: 8, 10, 11, 16, 18 in a strict one, and what its kind refuses with

abbrev pub one_of : ℕ → List ℕ → Bool
one_of n [] = false
one_of n (x ∷ xs) = eqb n x || one_of n xs

abbrev pub unit_numbers : ℕ → Bool → List ℕ
unit_numbers refusal strict = 8 ∷ 10 ∷ 11 ∷ 16 ∷ cond strict (18 ∷ refusal ∷ []) (refusal ∷ [])
