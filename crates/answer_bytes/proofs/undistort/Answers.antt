-- `answer_bytes::undistort` meets its contract. Assumes nothing.
use mathlib.Core.Path.{refl, ap}
use Rattle.std.specs.declared.result.Result.{Result}
use Rattle.camera.specs.declared.Camera.{Camera}
use Rattle.lens.specs.declared.Refusal.{Refusal}
use Prim.Native.Nat.{ℕ}
use Rattle.lens.specs.Undistorted.{Told, told}
use Rattle.lens.specs.declared.Settled.{Settled}
use Rattle.answer_bytes.specs.Answer.{give_point, undistorted, undistort_bytes}
use Rattle.camera_bytes.specs.Reading.{read}
use Rattle.answer_bytes.proofs.Giving.{call}
use Rattle.answer_bytes.proofs.undistort.Goals as goal

pub returns : goal.returns
unfolding undistort_bytes
returns c = call told (λ (t : Told). t.number) (λ (t : Told). t.settled) (λ (n : ℕ) (s : Settled). give_point n s c.args.answer.now) (λ (a : Result Camera Refusal). undistorted a record { 0 = c.args.u; 1 = c.args.v }) (read c.args.model c.args.params.now) _ _ c.undistorted.result _ _ c.give_point.ensures c.told_point-told.ensures.0 c.told_point-told.ensures.1 (ap told c.undistorted.ensures) refl
