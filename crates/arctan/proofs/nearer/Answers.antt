-- `arctan::nearer` meets its contract: where the series is not below n, nothing is stretched to nothing (proofs/Newton.antt). Assumes nothing.
use Rattle.std.proofs.Common.{◌≡◌, ℕ, ◌+◌, ◌-◌, ◌^◌, ◌≤◌, ap, ◌∙◌, arith}
use Rattle.arctan.specs.Whole.{series}
use Rattle.arctan.specs.Tangent.{stretched, nearer}
use Rattle.arctan.proofs.Newton.{stretched_most}
use Rattle.arctan.proofs.nearer.Goals as goal

-- from a w whose series is not below n
stays : (n w : ℕ) → w ≤ 2 ^ 59 → n ≤ series w → w ≡ nearer n w
unfolding nearer
stays n w h k = omega (arith, stretched_most w (n - series w) h)

pub returns-then-s-n : goal.returns-then-s-n
unfolding nearer
returns-then-s-n c =
    let d = c in
    let w = d.args.w in
    ap (λ (y : ℕ). w + y) (c.stretched.ensures.0 ∙ ap (λ (y : ℕ). stretched w (d.args.n - y)) d.series-s.ensures)

pub returns : goal.returns
returns c =
    let s = c in
    stays s.args.n s.args.w s.requires.1 (omega (arith, c.series-s.ensures))
