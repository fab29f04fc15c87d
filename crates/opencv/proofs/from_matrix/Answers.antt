-- `opencv::from_matrix` meets its contract: each number by its name. Assumes nothing.
use mathlib.Core.Path.{refl}
use Rattle.opencv.specs.Moved.{of_theirs}
use Rattle.opencv.proofs.from_matrix.Goals as goal

pub returns : goal.returns
unfolding of_theirs
returns c = rw (c.bits_at-12.ensures, c.bits_at-11.ensures, c.bits_at-10.ensures, c.bits_at-9.ensures, c.bits_at-8.ensures, c.bits_at-7.ensures, c.bits_at-6.ensures, c.bits_at-5.ensures, c.bits_at-4.ensures, c.bits_at-3.ensures, c.bits_at-2.ensures, c.bits_at.ensures) refl
