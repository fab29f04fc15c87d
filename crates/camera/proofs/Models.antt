-- The models by number. Assumes nothing.
use mathlib.Core.List.{List, [], ◌∷◌}
use Prim.Native.Nat.{ℕ, zero, suc}
use lib.ListN.{get_or}
use Rattle.camera.specs.Numbers.{Model, models, thin_prism, model_of}

module _ (P : Model → Type 0) where
  abbrev Each : List Model → Type 0
  Each [] = Unit {0}
  Each (m ∷ rest) = P m × Each rest

  in_table : (table : List Model) {past : Model} → Each table → P past → (number : ℕ) → P (get_or table number past)
  in_table [] each p number = p
  in_table (m ∷ rest) each p zero = each.0
  in_table (m ∷ rest) each p (suc number) = in_table rest each.1 p number

  -- what each model of the table has, the last said once more for the numbers past it, every number's has
  pub each_model : Each models → P thin_prism → (number : ℕ) → P (model_of number)
  each_model = in_table models
