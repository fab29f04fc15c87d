-- `turn_bytes::put_report` meets its contract. Assumes nothing.
use mathlib.Core.Path.{refl}
use mathlib.Core.List.{[], ◌∷◌}
use native.Mathlib.Omega.{arith}
use Rattle.turn_bytes.proofs.Turning.{first_put, one_more, all_words}
use Rattle.turn_bytes.proofs.put_report.Goals as goal

pub returns : goal.returns
returns c =
    let a = c.args in
    let at = a.at in
    let lent = a.out.now in
    let h = c.requires in
    let e₁ = first_put a.status lent _ c.put.ensures in
    let e₂ = one_more (a.status ∷ []) at.done 8 lent _ _ refl (omega (arith, h)) e₁ c.put-2.ensures in
    let e₃ = one_more (a.status ∷ at.done ∷ []) a.all 16 lent _ _ refl (omega (arith, h)) e₂ c.put-3.ensures in
    let e₄ = one_more (a.status ∷ at.done ∷ a.all ∷ []) at.updates 24 lent _ _ refl (omega (arith, h)) e₃ c.put-4.ensures in
    let e₅ = one_more (a.status ∷ at.done ∷ a.all ∷ at.updates ∷ []) at.unsettled 32 lent _ _ refl (omega (arith, h)) e₄ c.put-5.ensures in
    let e₆ = one_more (a.status ∷ at.done ∷ a.all ∷ at.updates ∷ at.unsettled ∷ []) at.first 40 lent _ _ refl (omega (arith, h)) e₅ c.put-6.ensures in
    all_words (a.status ∷ at.done ∷ a.all ∷ at.updates ∷ at.unsettled ∷ at.first ∷ []) lent _ h e₆
