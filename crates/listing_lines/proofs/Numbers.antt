-- The hexadecimal digits that io writes are the definitions' digits. Assumes nothing.
use mathlib.Core.Path.{◌≡◌, ap}
use Prim.Native.Nat.{ℕ, ◌^◌, ◌≤◌, ◌<◌}
use native.Mathlib.Omega.{arith}
use lib.ListN.{length}
use Rattle.io.specs.Digits.{last_digits, IsDigitCount}
use Rattle.decimal.proofs.Digits.{length_digits}
use Rattle.hexadecimal.proofs.Written.{hex_places}
use Rattle.listing_lines.specs.Line.{hex}

pub hex_is : (w n k : ℕ) → n < 16 ^ w → IsDigitCount 16 w n k → last_digits 16 k n ≡ hex w n
unfolding hex
hex_is w n k h f = ap (λ (j : ℕ). last_digits 16 j n) (hex_places w n k h f)

pub hex_short : (w n k : ℕ) → w ≤ 20 → n < 16 ^ w → IsDigitCount 16 w n k → k ≤ 20
hex_short w n k l h f = omega (arith, hex_places w n k h f)

pub hex_length : (w n : ℕ) → length (hex w n) ≡ w
unfolding hex
hex_length w n = length_digits 16 w n
