-- `arctan::counted` meets its contract: what is counted is from 0 to 2 ^ 59, as the truncation asks. Assumes nothing.
use Rattle.std.proofs.Common.{T, sym, subst}
use Rattle.arctan.specs.Arctangent.{counted}
use Rattle.arctan.proofs.Counts.{counted_near}
use Rattle.arctan.proofs.counted.Goals as goal

pub truncating_f64_to_u64-requires : goal.truncating_f64_to_u64-requires
truncating_f64_to_u64-requires c = let r = counted_near c.args.z (subst T (sym c.well_formed.0.1) tt) c.requires.number c.requires.low c.requires.high in record { lower_bound = r.above; upper_bound = r.under }

pub returns : goal.returns
unfolding counted
returns c = c.truncating_f64_to_u64.ensures
