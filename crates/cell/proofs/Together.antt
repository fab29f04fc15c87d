-- A float's nearest f32 and its nearest multiple of 1/32 are at most 1/64 and 2^-14 apart (`together`), and so are the numbers of a cell of each kind (`cells_together`). Assumes nothing.
use mathlib.Core.Path.{◌≡◌, refl, subst}
use Rattle.std.specs.declared.option.Option.{Option}
use Rattle.std.specs.declared.option.Option.TheVariants.{Some, None}
use mathlib.Core.Logic.{◌⊎◌, inl, inr, ◌↔◌}
use mathlib.Core.Bool.{Bool, true, false, cond, ◌&&◌}
use Prim.Native.Nat.{ℕ, ◌+◌, ◌*◌, ◌^◌, ◌≤◌, ◌<◌}
use native.Mathlib.Nat.{mul-le-mul_right, mul-lt-mul_of_pos_right}
use native.Mathlib.Decide.{dec_lt}
use native.Mathlib.Omega.{arith}
use lib.IntN.{ℤ}
use lib.Dec.{T}
use lib.Pow.{pow_pos, pow_mono}
use lib.Ieee.{Float, nan, inf, fin, binary32}
use lib.Ieee.Fits.{down_pos}
use lib.Ieee.Scale.{finite}
use Rattle.exact.specs.Fraction.{◌≼◌, over, exactly, half_units}
use Rattle.exact.proofs.Fractions.{half_units_proper, over-≼, within_sym, within_wider, within_trans, near_finite}
use Rattle.exact.proofs.Pattern.{exponent_lt}
use Rattle.narrow.specs.Narrow.{narrowed}
use Rattle.narrow.proofs.Laws.{narrow_near}
use Rattle.thirty_seconds.specs.Multiple.{nearest_multiple}
use Rattle.thirty_seconds.proofs.Laws.{nearest_32nd, held_size}
use Rattle.plans.specs.Plan.{Content, numbers, none}
use Rattle.cell.specs.Cell.{f32, i16, both_held, of_cell, Together}

-- ---- the last place of the f32 is worth 2^-13 at most

smaller : (p l a c : ℕ) → 0 < l → a < 2048 * c → p * c ≤ a * l → p < 2048 * l
smaller p l a c L h k = elim (dec_lt p (2048 * l)) [
  | yes g ↦ g
  | no g ↦ let m : 2048 * l * c ≤ p * c = mul-le-mul_right c (omega arith) in absurd (omega (arith, mul-lt-mul_of_pos_right h L))
]

last_place : (a c last : ℕ) → 0 < c → 64 * a ≤ 65537 * c → (last ≡ 0) ⊎ (2 ^ (23 + last) * c ≤ a * 2 ^ 149) → last ≤ 136
last_place a c last C h (inl e) = omega arith
last_place a c last C h (inr k) = let g : 23 + last < 160 = exponent_lt (23 + last) 160 (smaller (2 ^ (23 + last)) (2 ^ 149) a c (pow_pos 149) (omega arith) k) in omega arith

half_place : (last : ℕ) → last ≤ 136 → half_units binary32 last ≼ over 1 16384
unfolding half_units
half_place last h = (over-≼ (2 ^ last) (2 * 2 ^ 149) 1 16384).1 (mul-le-mul_right 16384 (pow_mono {j = 136} h))

-- ---- the two numbers made of a float

pub together : (x : Float) (n : ℤ) → nearest_multiple x ≡ Some n → T (finite (narrowed x)) → Together n (narrowed x)
unfolding narrowed exactly
together nan n e t = absurd t
together (inf s) n e t = absurd t
together (fin s m e) n i t =
    let r = (narrow_near s m e).1 in
    within_trans (nearest_32nd (fin s m e) n i).near
    (within_sym
    (within_wider (half_units_proper binary32 r.last) (half_place r.last (last_place _ _ r.last (down_pos e) (held_size s m e n i) r.place))
    (near_finite (down_pos e) r t)))

-- ---- the numbers of a cell of each kind

-- both f32s are numbers, and both multiples are held
f32_holds : (p q a b : Float) → of_cell f32 (numbers p q) ≡ numbers a b → T (finite (narrowed p)) × T (finite (narrowed q)) × (narrowed p ≡ a) × (narrowed q ≡ b)
f32_holds p q a b = go (finite (narrowed p)) (finite (narrowed q))
  where
    go : (f g : Bool) → cond (f && g) (numbers (narrowed p) (narrowed q)) (none 12) ≡ numbers a b → T f × T g × (narrowed p ≡ a) × (narrowed q ≡ b)
    go true true e = (tt, tt, cc, cc)
    go true false e = let z : ◌≡◌ {A = ℕ} 0 1 = cc in absurd (omega arith)
    go false g e = let z : ◌≡◌ {A = ℕ} 0 1 = cc in absurd (omega arith)

pub i16_holds : (m n : Option ℤ) (i j : ℤ) → both_held m n ≡ numbers i j → (m ≡ Some i) × (n ≡ Some j)
i16_holds (Some k) (Some l) i j e = (cc, cc)
i16_holds (Some k) None i j e = let z : ◌≡◌ {A = ℕ} 0 1 = cc in absurd (omega arith)
i16_holds None n i j e = let z : ◌≡◌ {A = ℕ} 0 1 = cc in absurd (omega arith)

pub i16_refused : (m n : Option ℤ) → (both_held m n ≡ none 19) ↔ ((m ≡ None) ⊎ (n ≡ None))
i16_refused (Some k) (Some l) = (λ e. let z : ◌≡◌ {A = ℕ} 0 1 = cc in absurd (omega arith), λ h. elim h [ inl e ↦ absurd (held_or_not e) | inr e ↦ absurd (held_or_not e) ])
  where
    held_or_not : {i : ℤ} → Some i ≡ None → ⊥
    held_or_not e = let z : ◌≡◌ {A = ℕ} 0 1 = cc in omega arith
i16_refused (Some k) None = (λ e. inr refl, λ h. refl)
i16_refused None n = (λ e. inl refl, λ h. refl)

pub cells_together : (content : Content Float) (a b : Float) (i j : ℤ) → of_cell f32 content ≡ numbers a b → of_cell i16 content ≡ numbers i j
    → Together i a × Together j b
cells_together (none k) a b i j e h = let z : ◌≡◌ {A = ℕ} 0 1 = cc in absurd (omega arith)
cells_together (numbers p q) a b i j e h =
    let f = f32_holds p q a b e in
    let g = i16_holds (nearest_multiple p) (nearest_multiple q) i j h in
    (subst (Together i) f.2 (together p i g.0 f.0), subst (Together j) f.3 (together q j g.1 f.1))
