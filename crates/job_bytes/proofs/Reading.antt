-- What is read, each at its place, and why nothing is. Assumes nothing.
use Rattle.std.proofs.Common.{◌≡◌, ℕ, ◌+◌, ◌-◌, ◌<◌, ◌≤◌, eqb, List, length, take, drop, refl, ◌∙◌, ap₂, arith, length-drop, take_all, eq-eqb, ne_eqb, le-leb}
use Rattle.std.specs.declared.result.Result.TheVariants.{Ok, Err}
use borrow.Author.Tests.{lt-leb}
use lib.Ieee.{Float}
use Rattle.lens.specs.declared.Refusal.TheVariants.{UnknownModel, WrongLength}
use Rattle.region.specs.declared.Region.{Region}
use Rattle.camera.specs.Numbers.{last}
use Rattle.camera.specs.declared.Camera.{Camera}
use Rattle.little_endian.specs.Bytes.{half, word, float}
use Rattle.region_bytes.specs.Box.{box_at}
use Rattle.camera_bytes.specs.Reading.{camera_of}
use Rattle.job.specs.declared.Job.{Job}
use Rattle.job_bytes.specs.Places.{updates_place, params_place, width_place, height_place, done_place, edges_place, region_place, unsettled_place, first_place, mark_place, record_length}
use Rattle.job_bytes.specs.Bytes.{job_at, record_read}

module _ (bs : List ℕ) where
  -- the bytes from the parameters on, as the code takes them
  rest : take (length bs - params_place) (drop params_place bs) ≡ drop params_place bs
  rest = take_all (length bs - params_place) (drop params_place bs) (omega (arith, length-drop params_place bs))

  -- a box, of its four numbers
  pub boxed :
      (at : ℕ) (left top right bottom : Float) → left ≡ float bs at → top ≡ float bs (at + 8) → right ≡ float bs (at + 16) → bottom ≡ float bs (at + 24)
      → ◌≡◌ {A = Region} record { left = left; top = top; right = right; bottom = bottom } (box_at bs at)
  boxed at left top right bottom l t r b = rw (l, t, r, b) refl

  pub placed :
      (model : ℕ) (camera : Camera) (width height marked done updates unsettled first : ℕ) (edges region : Region) →
      model ≡ half bs 0 →
      camera ≡ camera_of model (take (length bs - params_place) (drop params_place bs)) →
      width ≡ half bs width_place →
      height ≡ half bs height_place →
      marked ≡ word bs mark_place →
      done ≡ word bs done_place →
      edges ≡ box_at bs edges_place →
      region ≡ box_at bs region_place →
      updates ≡ half bs updates_place →
      unsettled ≡ half bs unsettled_place →
      first ≡ half bs first_place →
      ◌≡◌ {A = Job} record {
        camera = camera;
        width = width;
        height = height;
        strict = eqb marked 1;
        at = record { done = done; edges = edges; region = region; updates = updates; unsettled = unsettled; first = first };
      } (job_at bs)
  unfolding job_at
  placed model camera width height marked done updates unsettled first edges region m c w h s d e r u n f =
      let k : camera ≡ camera_of (half bs 0) (drop params_place bs) = c ∙ ap₂ camera_of m rest in
      rw (k, w, h, s, d, e, r, u, n, f) refl

  pub read_misfit : (length bs ≡ record_length → ⊥) → Err WrongLength ≡ record_read bs
  unfolding record_read
  read_misfit n = simp (ne_eqb (length bs) record_length n)

  pub read_unknown : length bs ≡ record_length → last < half bs 0 → Err UnknownModel ≡ record_read bs
  unfolding record_read
  read_unknown e h = simp (eq-eqb (length bs) record_length e, lt-leb (half bs 0) last h)

  pub read_job : length bs ≡ record_length → half bs 0 ≤ last → Ok (job_at bs) ≡ record_read bs
  unfolding record_read
  read_job e h = simp (eq-eqb (length bs) record_length e, le-leb (half bs 0) last h)
