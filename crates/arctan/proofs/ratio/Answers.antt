-- `arctan::ratio` meets its contract. Assumes nothing.
use Rattle.std.proofs.Common.{pos, ap, ◌∙◌}
use lib.Ieee.{Float, binary64, of_int}
use Rattle.exact.specs.F64.{◌⊘◌}
use Rattle.arctan.specs.Tangent.{ratio}
use Rattle.arctan.proofs.ratio.Goals as goal

pub returns : goal.returns
unfolding ratio
returns c =
    let d = c in
    ap (λ (y : Float). d.nearest_u64_to_f64.result ⊘ y) c.nearest_u64_to_f64-2.ensures ∙ ap (λ (x : Float). x ⊘ of_int binary64 (pos d.args.q)) d.nearest_u64_to_f64.ensures
