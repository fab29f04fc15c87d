-- What an operation gives of what is read, where 4 is tried before it. Assumes nothing.
use mathlib.Core.Path.{◌≡◌, refl, sym, ap, ◌∙◌}
use Rattle.std.specs.declared.result.Result.{Result}
use Rattle.std.specs.declared.result.Result.TheVariants.{Ok, Err}
use Rattle.lens.specs.declared.Refusal.{Refusal}
use mathlib.Core.Bool.{Bool, true, false, cond}
use mathlib.Core.List.{List}
use Prim.Native.Nat.{ℕ}
use native.Mathlib.Omega.{arith}
use Rattle.lens.specs.Finite.{all_finite}
use Rattle.lens.specs.declared.Refusal.TheVariants.{NotFinite}
use lib.Ieee.{Float}
use Rattle.lens.specs.Judgement.{Judgement, decided}
use Rattle.camera.proofs.Known.{judged_finite, judged_not}
use Rattle.camera.specs.Camera.{parameters, placed, judged}
use Rattle.camera.specs.declared.Camera.{Camera}
use Rattle.camera_bytes.specs.Reading.{read, finite_only, read_finite}

-- a camera that passed is finite
pub passed : {camera : Camera} (a : Result Camera Refusal) → finite_only a ≡ Ok camera → all_finite (parameters camera) ≡ true
passed (Err r) e = let z : ◌≡◌ {A = ℕ} 0 1 = cc in absurd (omega arith)
passed {camera} (Ok c) e = by_finite (all_finite (parameters c)) refl e
  where
    by_finite : (b : Bool) → all_finite (parameters c) ≡ b → cond b (Ok c) (Err NotFinite) ≡ Ok camera → all_finite (parameters camera) ≡ true
    by_finite true f g = let same : c ≡ camera = cc in sym (ap (λ (k : Camera). all_finite (parameters k)) same) ∙ f
    by_finite false f g = let z : ◌≡◌ {A = ℕ} 0 1 = cc in absurd (omega arith)

-- an operation of a camera that is read, and judged with (x, y): where 4 of the camera is tried before, it gives the same
module _
    {D : Type 0} (operation : Result Camera Refusal → Result D Refusal) (after : Camera → Result D Refusal) (x y : Float)
    (ok : (camera : Camera) → operation (Ok camera) ≡ decided (judged camera x y) Err (after camera))
    (err : (r : Refusal) → operation (Err r) ≡ Err r)
  where
    tried_before : (a : Result Camera Refusal) → operation (finite_only a) ≡ operation a
    tried_before (Err r) = refl
    tried_before (Ok c) = by_finite (all_finite (parameters c)) refl
      where
        by_finite : (b : Bool) → all_finite (parameters c) ≡ b → operation (cond b (Ok c) (Err NotFinite)) ≡ operation (Ok c)
        by_finite true f = refl
        by_finite false f = err NotFinite ∙ sym (ok c ∙ ap (λ (j : Judgement). decided j Err (after c)) (judged_not c x y f))

    module _ (model : ℕ) (p : List ℕ) {q : Result Camera Refusal} (is : q ≡ read_finite model p) where
      from : {case : Result Camera Refusal} → q ≡ case → operation case ≡ operation (read model p)
      from e = sym (ap operation e) ∙ ap operation is ∙ tried_before (read model p)

      -- there is no camera, or it isn't finite
      pub unread : (r : Refusal) → q ≡ Err r → Err r ≡ operation (read model p)
      unread r e = sym (err r) ∙ from e

      module _ {camera : Camera} (e : q ≡ Ok camera) {j : Judgement} (f : j ≡ placed camera x y) where
        as_placed : operation (Ok camera) ≡ decided j Err (after camera)
        as_placed =
            ok camera
            ∙ ap (λ (v : Judgement). decided v Err (after camera)) (judged_finite camera x y (passed (read model p) (sym is ∙ e)) ∙ sym f)

        -- (x, y) isn't finite, or a focal length is zero
        pub unplaced : (r : Refusal) → j ≡ Err r → Err r ≡ operation (read model p)
        unplaced r g = sym (as_placed ∙ ap (λ (v : Judgement). decided v Err (after camera)) g) ∙ from e

        pub answered : {u : Unit {0}} {d : Result D Refusal} → j ≡ Ok u → d ≡ after camera → d ≡ operation (read model p)
        answered g h = h ∙ sym (as_placed ∙ ap (λ (v : Judgement). decided v Err (after camera)) g) ∙ from e
