-- `answer_bytes::undistorted` meets its contract. Assumes nothing.
use mathlib.Core.Path.{refl}
use Rattle.std.proofs.Common.{rules}
use Rattle.std.specs.declared.result.Result.{Result}
use Rattle.lens.specs.declared.Refusal.{Refusal}
use Rattle.camera.specs.Camera.{undistort_judged}
use Rattle.camera.specs.declared.Camera.{Camera}
use Rattle.answer_bytes.specs.Answer.{undistorted}
use Rattle.answer_bytes.proofs.Counted.{unread, unplaced, answered}
use Rattle.answer_bytes.proofs.undistorted.Goals as goal

pub returns-in_err-camera : goal.returns-in_err-camera
returns-in_err-camera c =
    let a = c.args in
    let e = unread (λ (q : Result Camera Refusal). undistorted q a.pixel) (λ (camera : Camera). undistort_judged camera a.pixel) a.pixel.0 a.pixel.1 (λ camera. refl) (λ r. refl) a.model a.params.now c.read_finite.ensures _ c.in_err-camera.was in
    search rules

pub returns-in_err-placed : goal.returns-in_err-placed
returns-in_err-placed c =
    let a = c.args in
    let e = unplaced (λ (q : Result Camera Refusal). undistorted q a.pixel) (λ (camera : Camera). undistort_judged camera a.pixel) a.pixel.0 a.pixel.1 (λ camera. refl) (λ r. refl) a.model a.params.now c.read_finite.ensures c.in_ok-camera.was c.placed.ensures _ c.in_err-placed.was in
    search rules

pub returns : goal.returns
returns c =
    let a = c.args in
    answered (λ (q : Result Camera Refusal). undistorted q a.pixel) (λ (camera : Camera). undistort_judged camera a.pixel) a.pixel.0 a.pixel.1 (λ camera. refl) (λ r. refl) a.model a.params.now c.read_finite.ensures c.in_ok-camera.was c.placed.ensures c.in_ok-placed.was c.undistort_judged.ensures
