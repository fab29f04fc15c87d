-- `arctan::levels` meets its contract. The loop's invariant: h is the nested sum over the coefficients that it went over and those behind them.
-- h is at most 2 ^ 60, and y of it at most the coefficient before it (proofs/Bounds.antt). Assumes nothing.
use Rattle.std.proofs.Common.{◌≡◌, ◌-◌, length, drop}
use Rattle.arctan.specs.Whole.{nested, reciprocals}
use Rattle.arctan.proofs.levels.Given as goal

abbrev pub invariant-loop-c : goal.invariant-loop-c
invariant-loop-c l =
    (l.h ≡ nested l.y (drop (l.from - length l.yielded) reciprocals)) × (goal.iterator-loop-c).can_next l.c-iterator × (goal.iterator-loop-c).is_finite l.c-iterator
