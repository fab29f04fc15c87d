-- `hexadecimal::ends` meets its contract, by how much is left. Assumes nothing.
use Rattle.hexadecimal.proofs.OneField.{ends_none, ends_last, ends_more}
use Rattle.hexadecimal.proofs.ends.Goals as goal

pub returns-in-empty : goal.returns-in-empty
returns-in-empty c = ends_none _ c.in-empty.len_below

pub returns-in-len1 : goal.returns-in-len1
returns-in-len1 c = ends_last _ c.in-len1.len_at_least c.in-len1.len_below

pub returns-in-len1-up : goal.returns-in-len1-up
returns-in-len1-up c = ends_more _ c.in-len1-up.len_at_least
