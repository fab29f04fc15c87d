-- `observations::observe_all` meets its contract. The loop's invariant: the first i records are seen, the others as they
-- were. Assumes nothing.
use Rattle.std.proofs.Common.{◌≡◌, ◌≤◌}
use Rattle.observations.specs.Observations.{seen}
use Rattle.observations.proofs.Pass.{upto}
use Rattle.observations.proofs.observe_all.Given as goal

abbrev pub invariant-loop-i : goal.invariant-loop-i
invariant-loop-i l = record { within : l.i ≤ l.n; so_far : l.list ≡ upto (seen l.camera) l.i l.initial.list }
