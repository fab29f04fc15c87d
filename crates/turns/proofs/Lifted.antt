-- Two ways to do units, of two kinds of state: where each unit of the one comes to the same as that of the other, so do their runs. Assumes nothing.
use mathlib.Core.Path.{◌≡◌, refl, sym, ap, ◌∙◌}
use Prim.Native.Nat.{ℕ, zero, suc, ◌+◌, ◌≤◌, ◌<◌}
use native.Mathlib.Omega.{arith}
use Rattle.turns.specs.Turns.{Next, over, refuses, does, Turn, spent, turn, met}
use Rattle.turns.proofs.Laws.{met_none}

module _ {S U : Type 0} (up : S → U) where
  abbrev pub lifted : Turn S → Turn U
  lifted t = record { state = up t.state; said = t.said }

  abbrev pub lift_next : Next S → Next U
  lift_next over = over
  lift_next (refuses r) = refuses r
  lift_next (does t) = does (up t)

  lift_at :
      (low : S → Next S) (high : U → Next U) (n : ℕ) (s : S) (x : Next S) → high (up s) ≡ lift_next x → ((t : S) → x ≡ does t → met (turn high n (up t)) ≡ lifted (met (turn low n t)))
      → met (spent (high (up s)) (up s) (λ u. turn high n u)) ≡ lifted (met (spent x s (λ t. turn low n t)))
  lift_at low high n s over e h = ap (λ (y : Next U). met (spent y (up s) (λ u. turn high n u))) e
  lift_at low high n s (refuses r) e h = ap (λ (y : Next U). met (spent y (up s) (λ u. turn high n u))) e
  lift_at low high n s (does t) e h = ap (λ (y : Next U). met (spent y (up s) (λ u. turn high n u))) e ∙ h t refl

  -- while `room` units are left
  pub lift_run :
      (low : S → Next S) (high : U → Next U) (room : S → ℕ) → ((s : S) → 0 < room s → high (up s) ≡ lift_next (low s)) → ((s t : S) → low s ≡ does t → room s ≤ room t + 1)
      → (n : ℕ) (s : S) → n ≤ room s → met (turn high n (up s)) ≡ lifted (met (turn low n s))
  unfolding turn
  lift_run low high room same less zero s h = met_none high (up s) ∙ sym (ap lifted (met_none low s))
  lift_run low high room same less (suc n) s h = lift_at low high n s (low s) (same s (omega arith)) (λ t e. lift_run low high room same less n t (omega (arith, less s t e)))
