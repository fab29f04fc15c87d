-- `hexadecimal::digit` meets its contract: the code's four tests are the definition's. Assumes nothing.
use borrow.Author.Tests.{lt-ltb, le-ltb}
use mathlib.Core.Path.{◌≡◌, ap}
use Prim.Native.Nat.{◌+◌, ◌-◌}
use native.Mathlib.Omega.{arith}
use Rattle.std.proofs.Common.{Some}
use Rattle.hexadecimal.specs.Hex.{digit}
use Rattle.hexadecimal.proofs.digit.Goals as goal

pub returns-in-48-to-57 : goal.returns-in-48-to-57
unfolding digit
returns-in-48-to-57 c = simp (le-ltb c.args.b 48 (omega arith), lt-ltb c.args.b 58 (omega arith))

pub returns-in-97-to-102 : goal.returns-in-97-to-102
unfolding digit
returns-in-97-to-102 c =
    simp (
      le-ltb c.args.b 48 (omega arith),
      le-ltb c.args.b 58 (omega arith),
      le-ltb c.args.b 97 (omega arith),
      lt-ltb c.args.b 103 (omega arith),
    )
    (ap Some (let e : c.args.b - 97 + 10 ≡ c.args.b - 87 = omega arith in e))

pub returns-in_default : goal.returns-in_default
unfolding digit
returns-in_default c = simp (lt-ltb c.args.b 48 (omega arith))

pub returns-in_default-2 : goal.returns-in_default-2
unfolding digit
returns-in_default-2 c = simp (le-ltb c.args.b 48 (omega arith), le-ltb c.args.b 58 (omega arith), lt-ltb c.args.b 97 (omega arith))

pub returns-in_default-3 : goal.returns-in_default-3
unfolding digit
returns-in_default-3 c =
    simp (
      le-ltb c.args.b 48 (omega arith),
      le-ltb c.args.b 58 (omega arith),
      le-ltb c.args.b 97 (omega arith),
      le-ltb c.args.b 103 (omega arith),
    )
