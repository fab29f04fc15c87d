-- `thirty_seconds::thirty_seconds` meets its contract: one lemma of `Answers` for each of its three answers. Assumes nothing.
use mathlib.Core.Path.{◌≡◌, sym, ap, ◌∙◌, subst}
use lib.IntN.{ℤ, pos, ◌-ℤ◌}
use native.Mathlib.Nat.{lt_of_lt_of_le}
use lib.Dec.{lit≤}
use lib.Ieee.{Float, binary64, to_bits}
use mir.Syntax.{w16, w64}
use mir.Val.{SFits, to_z, of_z}
use mir.ValLaws.{to_z_pos, to_z-of_z}
use Rattle.exact.specs.F64.{◌⊕◌}
use Rattle.std.specs.Prelude.{Some}
use Rattle.thirty_seconds.proofs.Shifted.{shift}
use Rattle.thirty_seconds.proofs.Answers.{Found, found, too_low, too_high}
use Rattle.thirty_seconds.proofs.thirty_seconds.Goals as goal

-- the pattern read as signed, less the shift's, is the number; and 64 bits hold it, and 16
module _ {x : Float} (f : Found x) where
  read : to_z w64 (to_bits binary64 (x ⊕ shift)) -ℤ pos 0x42e8_0000_0000_0000 ≡ f.n
  read = ap (λ (z : ℤ). z -ℤ pos 0x42e8_0000_0000_0000) (to_z_pos w64 (to_bits binary64 (x ⊕ shift)) f.bits) ∙ f.rest

  wide : SFits w64 f.n
  wide = record { sfits = lt_of_lt_of_le f.small (lit≤ tt) }

  narrow : SFits w16 f.n
  narrow = record { sfits = f.small }

-- where both tests passed the number is found
pub float_to_bits-pattern : goal.float_to_bits-pattern
float_to_bits-pattern c = (found c.args.x c.if-x.true c.if-x-2.true).number

pub overflow_cast-pattern : goal.overflow_cast-pattern
overflow_cast-pattern c = record { sfits = (found c.args.x c.if-x.true c.if-x-2.true).bits }

pub overflow_sub-number : goal.overflow_sub-number
overflow_sub-number c =
    let f = found c.args.x c.if-x.true c.if-x-2.true in
    subst (SFits w64) (sym (read f)) (wide f)

pub overflow_cast-number : goal.overflow_cast-number
overflow_cast-number c =
    let f = found c.args.x c.if-x.true c.if-x-2.true in
    subst (SFits w16) (sym (ap (λ (z : ℤ). to_z w64 (of_z w64 z)) (read f) ∙ to_z-of_z w64 f.n (wide f))) (narrow f)

pub returns-then-x-2 : goal.returns-then-x-2
returns-then-x-2 c =
    let f = found c.args.x c.if-x.true c.if-x-2.true in
    ap (λ (z : ℤ). Some (to_z w16 (of_z w16 (to_z w64 (of_z w64 z))))) (read f)
    ∙ ap (λ (z : ℤ). Some (to_z w16 (of_z w16 z))) (to_z-of_z w64 f.n (wide f))
    ∙ ap Some (to_z-of_z w16 f.n (narrow f))
    ∙ sym f.is

pub returns-else-x-2 : goal.returns-else-x-2
returns-else-x-2 c = too_high c.args.x c.if-x-2.false

pub returns-else-x : goal.returns-else-x
returns-else-x c = too_low c.args.x c.if-x.false
