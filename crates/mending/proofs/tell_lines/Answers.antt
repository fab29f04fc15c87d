-- `mending::tell_lines` meets its contract. Assumes nothing.
use Rattle.mending.specs.Written.{lines_told}
use Rattle.mending.proofs.Telling.{all_put}
use Rattle.mending.proofs.tell_lines.Goals as goal

pub returns : goal.returns
unfolding lines_told
returns c =
    all_put _ _ _ _ _ _ _ _ _ _ _
    c.table_line-first.ensures
    c.region_line-second.ensures
    c.tell_all-third.ensures
    c.tell_all-fourth.ensures
    c.tell_all.ensures
