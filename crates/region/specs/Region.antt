-- The region of a table, and its increments. Definitions only.
use Rattle.std.specs.Prelude.{ℕ, ◌-◌, Bool, cond, ◌&&◌, ◌||◌, List, [], ◌∷◌, Float, Err}
use Rattle.std.specs.Float.Ieee.{le}
use Rattle.std.specs.Float.Ieee.Scale.{finite}
use Rattle.exact.specs.F64.{◌⊖◌, ◌⊘◌}
use Rattle.lens.specs.Constants.{zeros}
use Rattle.lens.specs.Judgement.{Judgement, accepted}
use Rattle.lens.specs.declared.Refusal.TheVariants.{IncrementNotPositive, AnswerNotFinite}
use Rattle.region.specs.Size.{float}
use Rattle.region.specs.declared.Increments.{Increments}
use Rattle.region.specs.declared.Region.{Region}

-- its edges: lower x and y, upper x and y
abbrev pub four : Region → List Float
four r = r.left ∷ r.top ∷ r.right ∷ r.bottom ∷ []

abbrev pub range : Float → Float → Float
range lo hi = hi ⊖ lo

unfoldable pub increments : Region → ℕ → ℕ → Increments
increments region width height = record {
  0 = range region.left region.right ⊘ float (width - 1);
  1 = range region.top region.bottom ⊘ float (height - 1);
}

-- finite and not above 0
abbrev pub flat : Float → Bool
flat x = finite x && le x zeros

-- 8, then 11
unfoldable pub wrong : Increments → Judgement
wrong by =
    cond (flat by.0 || flat by.1) (Err IncrementNotPositive)
    (cond (finite by.0 && finite by.1) accepted (Err AnswerNotFinite))
