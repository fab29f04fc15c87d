-- Two lines put one after the other. Assumes nothing.
use mathlib.Core.Path.{◌≡◌, ap, ◌∙◌}
use mathlib.Core.List.{List, [], ◌∷◌}
use Prim.Native.Nat.{ℕ}
use Rattle.put_text.specs.Placed.{Written, placed, each_placed}

pub two_placed : (w w' w'' : Written) (s t : List ℕ) → w' ≡ placed w s → w'' ≡ placed w' t → w'' ≡ each_placed w (s ∷ t ∷ [])
unfolding each_placed
two_placed w w' w'' s t e f = f ∙ ap (λ (x : Written). placed x t) e
