-- `answer_bytes::distorted` meets its contract. Assumes nothing.
use mathlib.Core.Path.{refl}
use Rattle.std.proofs.Common.{rules}
use Rattle.std.specs.declared.result.Result.{Result}
use Rattle.lens.specs.declared.Refusal.{Refusal}
use Rattle.camera.specs.Camera.{distort_judged}
use Rattle.camera.specs.declared.Camera.{Camera}
use Rattle.answer_bytes.specs.Answer.{distorted}
use Rattle.answer_bytes.proofs.Counted.{unread, unplaced, answered}
use Rattle.answer_bytes.proofs.distorted.Goals as goal

pub returns-in_err-camera : goal.returns-in_err-camera
returns-in_err-camera c =
    let a = c.args in
    let e = unread (λ (q : Result Camera Refusal). distorted q a.point) (λ (camera : Camera). distort_judged camera a.point) a.point.0 a.point.1 (λ camera. refl) (λ r. refl) a.model a.params.now c.read_finite.ensures _ c.in_err-camera.was in
    search rules

pub returns-in_err-placed : goal.returns-in_err-placed
returns-in_err-placed c =
    let a = c.args in
    let e = unplaced (λ (q : Result Camera Refusal). distorted q a.point) (λ (camera : Camera). distort_judged camera a.point) a.point.0 a.point.1 (λ camera. refl) (λ r. refl) a.model a.params.now c.read_finite.ensures c.in_ok-camera.was c.placed.ensures _ c.in_err-placed.was in
    search rules

pub returns : goal.returns
returns c =
    let a = c.args in
    answered (λ (q : Result Camera Refusal). distorted q a.point) (λ (camera : Camera). distort_judged camera a.point) a.point.0 a.point.1 (λ camera. refl) (λ r. refl) a.model a.params.now c.read_finite.ensures c.in_ok-camera.was c.placed.ensures c.in_ok-placed.was c.distort_judged.ensures
