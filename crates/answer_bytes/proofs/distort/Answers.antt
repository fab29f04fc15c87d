-- `answer_bytes::distort` meets its contract. Assumes nothing.
use mathlib.Core.Path.{refl, ap}
use Rattle.std.specs.declared.result.Result.{Result}
use Rattle.camera.specs.declared.Camera.{Camera}
use Rattle.lens.specs.declared.Refusal.{Refusal}
use Prim.Native.Nat.{ℕ}
use Rattle.lens.specs.Distorted.{ToldPixel, told_pixel}
use Rattle.lens.specs.declared.Pixel.{Pixel}
use Rattle.answer_bytes.specs.Answer.{give_pixel, distorted, distort_bytes}
use Rattle.camera_bytes.specs.Reading.{read}
use Rattle.answer_bytes.proofs.Giving.{call}
use Rattle.answer_bytes.proofs.distort.Goals as goal

pub returns : goal.returns
unfolding distort_bytes
returns c = call told_pixel (λ (t : ToldPixel). t.number) (λ (t : ToldPixel). t.pixel) (λ (n : ℕ) (p : Pixel). give_pixel n p c.args.answer.now) (λ (a : Result Camera Refusal). distorted a record { 0 = c.args.x; 1 = c.args.y }) (read c.args.model c.args.params.now) _ _ c.distorted.result _ _ c.give_pixel.ensures c.told_pixel-told.ensures.0 c.told_pixel-told.ensures.1 (ap told_pixel c.distorted.ensures) refl
