-- What a part of `distort` promises. Definitions only.
use Rattle.std.specs.Prelude.{Bool, cond, Err}
use Rattle.lens.specs.Distorted.{finite_pixel}
use Rattle.lens.specs.Distorted.{Distorted}
use Rattle.lens.specs.declared.Pixel.{Pixel}
use Rattle.lens.specs.declared.Refusal.TheVariants.{NotFinite, ZeroFocalLength}

-- of a pixel that is worked out: 4 if not all that was given is finite, 5, 11, or the pixel
abbrev pub judged_pixel : Bool → Bool → Pixel → Distorted
judged_pixel given zero pixel =
    cond given (cond zero (Err ZeroFocalLength) (finite_pixel pixel)) (Err NotFinite)
