-- `root::digits` meets its contract. The loop's invariant: all digits are found down to the weight of the turn that comes. Assumes nothing.
use Prim.Native.Nat.{ℕ, ◌+◌, ◌-◌, ◌*◌, ◌^◌}
use Rattle.root.specs.Digits.{Finer}
use Rattle.root.proofs.digits.Given as goal

abbrev pub weight : ℕ → ℕ
weight turn = 16 * 256 ^ (6 - turn)

abbrev pub invariant-loop-turn : goal.invariant-loop-turn
invariant-loop-turn l = Finer (weight l.turn) (l.rest * 2 ^ 52 + 2 ^ 52 * 2 ^ 52) l.p
