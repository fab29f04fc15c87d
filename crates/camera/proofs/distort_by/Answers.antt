-- `camera::distort_by` meets its contract. Assumes nothing.
use Rattle.camera.proofs.Given.{told_by_tests}
use Rattle.camera.proofs.distort_by.Goals as goal

pub returns : goal.returns
returns g c = told_by_tests (g.L.Lens.camera c.args.p) c.args.point c.mark.ensures c.zero_focal.ensures c.distort.ensures c.judged_pixel.ensures
