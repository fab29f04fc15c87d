-- `lens_c::lens_job_new` meets its contract. Assumes nothing.
use Rattle.lens_c.proofs.lens_job_new.Goals as goal

pub returns : goal.returns
returns c = c.fresh.ensures
