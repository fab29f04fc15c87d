-- A region whose edges are f64s. Definitions only.
use Rattle.lens.specs.Fits.{Fit}
use Rattle.region.specs.declared.Region.{Region}

-- left, top, right, bottom
abbrev pub FourFit : Region → Type 0
FourFit r = Fit r.left × Fit r.top × Fit r.right × Fit r.bottom
