-- Kinds of cell: what a cell holds of its pixel, and the number of the refusal where it can't. Definitions only.
use Rattle.std.specs.Prelude.{ℕ, ℤ, Float}
use Rattle.lens.specs.declared.Pixel.{Pixel}
use Rattle.plans.specs.Plan.{Content}
use Rattle.cell.specs.Cell.{f32, i16}

pub record Kind (X : Type 0) : Type 0 where
  pub holds : Pixel → Content X
  pub refusal : ℕ

abbrev pub f32s : Kind Float
f32s = record { holds = f32; refusal = 12 }

abbrev pub i16s : Kind ℤ
i16s = record { holds = i16; refusal = 19 }
