-- What a caller may rely on, of the definitions of specs/ and of the contracts of src/. Assumes nothing.
use mathlib.Core.Path.{◌≡◌, sym, ap, ap₂, ◌∙◌}
use Rattle.std.specs.declared.result.Result.{Result}
use Rattle.std.specs.declared.result.Result.TheVariants.{Ok, Err}
use mathlib.Core.Logic.{◌⊎◌, inl, inr, ◌↔◌}
use Prim.Native.Nat.{ℕ}
use native.Mathlib.Omega.{arith}
use denote.Param.Laws.{Laws, IsCopy}
use denote.RattleType.{RattleType}
use lib.IntN.{ℤ}
use mir.Syntax.{Dict}
use Rattle.std.specs.declared.clone.Clone as clone
use lib.Ieee.{Float}
use Rattle.exact.specs.Determined.{Determined}
use Rattle.thirty_seconds.specs.Multiple.{nearest_multiple}
use Rattle.thirty_seconds.specs.Nearest.{Nearest, Outside}
use Rattle.thirty_seconds.proofs.Laws.{held_exactly, too_far_exactly}
use Rattle.lens.specs.Distorted.{Distorted}
use Rattle.lens.specs.declared.Pixel.{Pixel}
use Rattle.lens.specs.declared.Point.{Point}
use Rattle.lens.specs.declared.Refusal.{Refusal}
use Rattle.lens.proofs.Laws.{number_one_to_one}
use Rattle.region.specs.declared.Increments.{Increments}
use Rattle.region.specs.declared.Region.{Region}
use Rattle.plans.specs.Plan.{Content, numbers, none}
use Rattle.cell.specs.Cell.{unrounded, f32, both_held, i16, cell_by, of_cell, Together, told}
use Rattle.cell.specs.declared.CellNumber as cell-number
use Rattle.cell.proofs.Made.{made}
use Rattle.cell.proofs.Together.{i16_holds, i16_refused, cells_together}
use Rattle.cell.proofs.cell_at.Reads as cell-at-contract

-- What is told of a cell determines it.
pub told_one_to_one : {X : Type 0} (a b : Result (X × X) Refusal) → told a ≡ told b → a ≡ b
told_one_to_one {X} (Ok (a, b)) (Ok (c, d)) e = ap₂ (λ (x y : X). Ok (x, y)) (cc) (cc)
told_one_to_one (Ok (a, b)) (Err r) e = let z : ◌≡◌ {A = ℕ} 0 1 = cc in absurd (omega arith)
told_one_to_one (Err q) (Ok (c, d)) e = let z : ◌≡◌ {A = ℕ} 0 1 = cc in absurd (omega arith)
told_one_to_one (Err q) (Err r) e = ap Err (number_one_to_one q r (cc))

-- Any two answers to one call that the contract of `cell_at` permits are equal, at every type of number.
pub cell_at_determined :
    (g : RattleType) (l : Laws g) (c : IsCopy g) (number : cell-number.Ghosts g.Denot) (d : Dict)
    (copied : clone.Ghosts g.Denot) (e : Dict) → Determined (cell-at-contract.Post g l c number d copied e)
cell_at_determined g l c number d copied e κ a s s' r r' p q = told_one_to_one r r' (p ∙ sym q)

-- A cell of any kind is made from one that holds the pixel as it is, and is refused with the same number where that one is.
pub one_pixel :
    {X : Type 0} (kind : Pixel → Content X) (distort : Point → Distorted) (region : Region) (by : Increments) (u v : ℕ)
    → cell_by distort kind region by u v ≡ of_cell kind (cell_by distort unrounded region by u v)
one_pixel = made

-- So where a cell of f32s and one of sixteen bits both hold numbers, these are at most 1/64 and 2 ^ -14 apart: the multiple of 1/32 is at most 1/64 from the
-- pixel, and the f32, which is of 1024.015625 at most, half of its last place.
pub same_pixel :
    (distort : Point → Distorted) (region : Region) (by : Increments) (u v : ℕ) (a b : Float) (i j : ℤ)
    → cell_by distort f32 region by u v ≡ numbers a b → cell_by distort i16 region by u v ≡ numbers i j
    → Together i a × Together j b
same_pixel distort region by u v a b i j e h =
    cells_together (cell_by distort unrounded region by u v) a b i j
    (sym (made f32 distort region by u v) ∙ e) (sym (made i16 distort region by u v) ∙ h)

-- A pixel's cell of sixteen bits holds i and j exactly if these are the numbers of the multiples of 1/32 nearest to it, and inside the sixteen bits.
pub pixel_nearest_32nd :
    (pixel : Pixel) (i j : ℤ)
    → (i16 pixel ≡ numbers i j) ↔ ((Nearest pixel.0 i × (Outside i → ⊥)) × (Nearest pixel.1 j × (Outside j → ⊥)))
pixel_nearest_32nd pixel i j = (
  λ (e : i16 pixel ≡ numbers i j).
      let h = i16_holds (nearest_multiple pixel.0) (nearest_multiple pixel.1) i j e in
      ((held_exactly pixel.0 i).0 h.0, (held_exactly pixel.1 j).0 h.1),
  λ h. ap₂ both_held ((held_exactly pixel.0 i).1 h.0) ((held_exactly pixel.1 j).1 h.1),
)

-- It is refused, with 19, exactly if one of its two nearest multiples is outside.
pub pixel_too_far_exactly :
    (pixel : Pixel)
    → (i16 pixel ≡ none 19)
    ↔ (((n : ℤ) → Nearest pixel.0 n → Outside n) ⊎ ((n : ℤ) → Nearest pixel.1 n → Outside n))
pixel_too_far_exactly pixel = (
  λ (e : i16 pixel ≡ none 19). elim ((i16_refused (nearest_multiple pixel.0) (nearest_multiple pixel.1)).0 e) [
    | inl h ↦ inl ((too_far_exactly pixel.0).0 h)
    | inr h ↦ inr ((too_far_exactly pixel.1).0 h)
  ],
  λ h. (i16_refused (nearest_multiple pixel.0) (nearest_multiple pixel.1)).1 (elim h [
    | inl f ↦ inl ((too_far_exactly pixel.0).1 f)
    | inr f ↦ inr ((too_far_exactly pixel.1).1 f)
  ]),
)
