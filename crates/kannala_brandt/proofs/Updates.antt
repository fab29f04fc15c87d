-- A pass of kb's Newton makes one update. Assumes nothing.
use mathlib.Core.Path.{◌≡◌}
use Prim.Native.Nat.{ℕ, suc}
use native.Mathlib.Numerals.{add-one}
use lib.Ieee.{Float}
use Rattle.kannala_brandt.specs.KannalaBrandt.{pass}
use Rattle.kannala_brandt.specs.declared.KannalaBrandtParams.{KannalaBrandtParams}
use Rattle.kannala_brandt.specs.declared.Reached.{Reached}

abbrev pub updates : Reached → ℕ
updates at = at.updates

pub one_update : (params : KannalaBrandtParams) (rth : Float) (at : Reached) → updates (pass params rth at) ≡ suc (updates at)
unfolding pass
one_update params rth at = add-one at.updates
