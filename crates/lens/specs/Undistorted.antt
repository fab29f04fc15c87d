-- What undistort answers, and what that tells a caller: a number with a point, updates and a flag. Definitions only.
use Rattle.std.specs.Prelude.{true, false, ℕ, Result, Ok, Err}
use Rattle.lens.specs.Constants.{zeros}
use Rattle.lens.specs.Refusal.{number}
use Rattle.lens.specs.declared.Point.{Point}
use Rattle.lens.specs.declared.Refusal.{Refusal}
use Rattle.lens.specs.declared.Settled.{Settled}

-- where an undistort ended, or why it gives nothing
abbrev pub Undistorted : Type 0
Undistorted = Result Settled Refusal

-- a point that took no update to find: 0 and yes
abbrev pub direct : Point → Settled
direct point = record { point = point; updates = 0; flag = true }

-- what stands in a refused answer's place: zeros and no
abbrev pub blank : Settled
blank = record { point = record { 0 = zeros; 1 = zeros }; updates = 0; flag = false }

-- a number, and the answer that stands beside it
pub record Told : Type 0 where
  pub number : ℕ
  pub settled : Settled

-- an answer has the number 0, a refusal its own
abbrev pub told : Undistorted → Told
told (Ok settled) = record { number = 0; settled = settled }
told (Err refusal) = record { number = number refusal; settled = blank }
