-- `answer_bytes::dx_distort_x` meets its contract. Assumes nothing.
use mathlib.Core.Path.{refl}
use Rattle.std.specs.declared.result.Result.{Result}
use Rattle.camera.specs.declared.Camera.{Camera}
use Rattle.lens.specs.declared.Refusal.{Refusal}
use Rattle.answer_bytes.specs.Answer.{slopes, dx_distort_x_bytes}
use Rattle.camera_bytes.specs.Reading.{read}
use Rattle.answer_bytes.proofs.Entries.{slopes_finite}
use Rattle.answer_bytes.proofs.Giving.{jacobian_call}
use Rattle.answer_bytes.proofs.dx_distort_x.Goals as goal

pub give_jacobian-requires : goal.give_jacobian-requires
give_jacobian-requires c =
    slopes_finite (read c.args.model c.args.params.now) record { 0 = c.args.x; 1 = c.args.y } c.slopes-told.ensures

pub returns : goal.returns
unfolding dx_distort_x_bytes
returns c = jacobian_call (λ (a : Result Camera Refusal). slopes a record { 0 = c.args.x; 1 = c.args.y }) (read c.args.model c.args.params.now) _ _ _ _ c.give_jacobian.ensures c.slopes-told.ensures refl
