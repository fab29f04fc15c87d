-- What distort and lookup answer, as a number with a pixel. Definitions only.
use Rattle.std.specs.Prelude.{cond, ◌&&◌, ℕ, Result, Ok, Err}
use Rattle.std.specs.Float.Ieee.Scale.{finite}
use Rattle.lens.specs.Constants.{zeros}
use Rattle.lens.specs.Refusal.{number}
use Rattle.lens.specs.declared.Pixel.{Pixel}
use Rattle.lens.specs.declared.Refusal.{Refusal}
use Rattle.lens.specs.declared.Refusal.TheVariants.{AnswerNotFinite}

-- a pixel, or why there is none
abbrev pub Distorted : Type 0
Distorted = Result Pixel Refusal

-- a number, and the pixel that stands beside it
pub record ToldPixel : Type 0 where
  pub number : ℕ
  pub pixel : Pixel

-- an answer has the number 0, a refusal its own, and zeros
abbrev pub told_pixel : Distorted → ToldPixel
told_pixel (Ok pixel) = record { number = 0; pixel = pixel }
told_pixel (Err refusal) = record { number = number refusal; pixel = record { 0 = zeros; 1 = zeros } }

-- 11 for a pixel that isn't finite
abbrev pub finite_pixel : Pixel → Distorted
finite_pixel pixel = cond (finite pixel.0 && finite pixel.1) (Ok pixel) (Err AnswerNotFinite)
