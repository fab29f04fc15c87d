-- `arctan::steep` meets its contract. Assumes nothing.
use Rattle.std.proofs.Common.{◌≡◌, sym, ap, ◌∙◌}
use lib.Ieee.{Float}
use Rattle.exact.specs.F64.{◌⊘◌}
use Rattle.arctan.specs.Tangent.{sine, cosine, close}
use Rattle.arctan.proofs.Choice.{steep_guess, steep_solved}
use Rattle.arctan.proofs.steep.Goals as goal

-- the guess, over the definitions
same : (theta s k : Float) → s ≡ sine theta → k ≡ cosine theta → s ⊘ k ≡ sine theta ⊘ cosine theta
same theta s k e f = ap (λ (x : Float). x ⊘ k) e ∙ ap (λ (x : Float). sine theta ⊘ x) f

pub returns-then-close : goal.returns-then-close
returns-then-close c =
    let d = c in
    same c.args.theta c.sine.result c.cosine.result c.sine.ensures c.cosine.ensures ∙ steep_guess d.args.theta (sym (c.close.ensures ∙ ap (λ (x : Float). close x c.args.theta) (same c.args.theta c.sine.result c.cosine.result c.sine.ensures c.cosine.ensures)) ∙ c.if-close.true)

pub solved-requires : goal.solved-requires
solved-requires c = c.requires

pub returns : goal.returns
returns c =
    let d = c in
    c.solved.ensures ∙ steep_solved d.args.theta (sym (c.close.ensures ∙ ap (λ (x : Float). close x c.args.theta) (same c.args.theta c.sine.result c.cosine.result c.sine.ensures c.cosine.ensures)) ∙ c.if-close.false)
