-- `lookup::lookup` meets its contract. Assumes nothing.
use Rattle.std.proofs.Common.{sym, ◌∙◌}
use Rattle.lookup.proofs.Steps.{taken}
use Rattle.lookup.proofs.lookup.Goals as goal

pub spread-requires : goal.spread-requires
spread-requires c = taken _ _ _ _ _ (sym c.admitted.ensures ∙ c.in_ok-admitted.was)
