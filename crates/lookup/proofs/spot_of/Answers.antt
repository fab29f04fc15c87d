-- `lookup::spot_of` meets its contract. The truncation is of an index that it takes. Assumes nothing.
use Rattle.std.proofs.Common.{ℕ, ◌<◌, sym, refl, subst}
use Rattle.lookup.specs.Lookup.{spot}
use Rattle.lookup.proofs.Among.{cut}
use Rattle.lookup.proofs.spot_of.Goals as goal

pub truncating_f64_to_u64-first-requires : goal.truncating_f64_to_u64-first-requires
truncating_f64_to_u64-first-requires c = let r = cut c.args.i c.args.cells c.requires in record { lower_bound = r.above; upper_bound = r.under }

pub neighbour-requires : goal.neighbour-requires
neighbour-requires c =
    let a = c.args in
    subst (λ (n : ℕ). n < a.cells) (sym c.truncating_f64_to_u64-first.ensures) (cut a.i a.cells c.requires).among

pub returns : goal.returns
unfolding spot
returns c = rw (c.float.ensures, c.neighbour.ensures, c.truncating_f64_to_u64-first.ensures) refl
