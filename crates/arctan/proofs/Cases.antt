-- A(x) by its cases (`A_up` and `A_past` around 1; `A_low`, `A_mid`, `A_high`, `A_far`), and that what the series runs over lies between 0 and 1/2. Assumes nothing.
use Rattle.std.proofs.Common.{◌≡◌, Bool, true, false, cond, ap, ◌∙◌, inl, inr, arith, lit≤, le→leb}
use lib.Arith.{lt→nleb}
use lib.Ieee.Bits.{is_true, is_false}
use Rattle.exact.specs.Fraction.{Fraction, Proper, cross, over, whole, opposite, ◌≼◌, ◌≺◌, ◌≈◌, ◌⊞◌, ◌⊟◌, ◌⊠◌, ◌⧄◌}
use Rattle.exact.proofs.Fractions.{over_proper, whole_proper, ⊞-proper, ⊟-proper, ⊠-proper, ⧄-proper, ≼_trans, ⧄-≼, ≼-⧄, over-≼, ≼-or-≺, ≼_refl, ⊟-mono, ⊞-mono, ⊠-mono, ⊠-comm}
use Rattle.arctan.proofs.Horner.{rest_low}
use Rattle.arctan.proofs.Rise.{G_proper}
use Rattle.arctan.specs.Series.{G, P, A, up_to_one, at_most}

pub at_most_lem : {a b : Fraction} → a ≼ b → at_most a b ≡ true
at_most_lem {a} {b} h = is_true (at_most a b) (le→leb (cross a b) (cross b a) h.holds)

pub not_at_most : {a b : Fraction} → b ≺ a → at_most a b ≡ false
not_at_most {a} {b} h = is_false (at_most a b) (lt→nleb (cross a b) (cross b a) h.holds)

pub up_low : {x : Fraction} → x ≼ over 2 5 → up_to_one x ≡ G x
unfolding up_to_one
up_low {x} h = ap (λ (t : Bool). cond t (G x) (P ⊟ G ((whole 1 ⊟ x) ⧄ (whole 1 ⊞ x)))) (at_most_lem h)

pub up_mid : {x : Fraction} → over 2 5 ≺ x → up_to_one x ≡ P ⊟ G ((whole 1 ⊟ x) ⧄ (whole 1 ⊞ x))
unfolding up_to_one
up_mid {x} h = ap (λ (t : Bool). cond t (G x) (P ⊟ G ((whole 1 ⊟ x) ⧄ (whole 1 ⊞ x)))) (not_at_most h)

pub A_up : {x : Fraction} → x ≼ whole 1 → A x ≡ up_to_one x
unfolding A
A_up {x} h = ap (λ (t : Bool). cond t (up_to_one x) (P ⊞ P ⊟ up_to_one (whole 1 ⧄ x))) (at_most_lem h)

pub A_past : {x : Fraction} → whole 1 ≺ x → A x ≡ P ⊞ P ⊟ up_to_one (whole 1 ⧄ x)
unfolding A
A_past {x} h = ap (λ (t : Bool). cond t (up_to_one x) (P ⊞ P ⊟ up_to_one (whole 1 ⧄ x))) (not_at_most h)

pub A_low : {x : Fraction} → x ≼ over 2 5 → A x ≡ G x
A_low h = A_up (≼_trans (over_proper 2 5 (omega arith)) h ((over-≼ 2 5 1 1).1 (omega arith))) ∙ up_low h

pub A_mid : {x : Fraction} → over 2 5 ≺ x → x ≼ whole 1 → A x ≡ P ⊟ G ((whole 1 ⊟ x) ⧄ (whole 1 ⊞ x))
A_mid h k = A_up k ∙ up_mid h

pub A_high : {x : Fraction} → whole 1 ≺ x → over 2 5 ≺ whole 1 ⧄ x → A x ≡ P ⊞ P ⊟ (P ⊟ G ((whole 1 ⊟ whole 1 ⧄ x) ⧄ (whole 1 ⊞ whole 1 ⧄ x)))
A_high h k = A_past h ∙ ap (λ (a : Fraction). P ⊞ P ⊟ a) (up_mid k)

pub A_far : {x : Fraction} → whole 1 ≺ x → whole 1 ⧄ x ≼ over 2 5 → A x ≡ P ⊞ P ⊟ G (whole 1 ⧄ x)
A_far h k = A_past h ∙ ap (λ (a : Fraction). P ⊞ P ⊟ a) (up_low k)

pub P_proper : Proper P
unfolding P
P_proper = ⊟-proper (⊠-proper (whole_proper 4) (G_proper (over_proper 1 5 (lit≤ tt)))) (G_proper (over_proper 1 239 (lit≤ tt)))

-- ---- 2P - (P - g) is P + g
pub two_less_one : (p g : Fraction) → p ⊞ p ⊟ (p ⊟ g) ≈ p ⊞ g
unfolding ◌⊞◌ opposite
two_less_one p g = omega arith

-- ---- (1 - x) / (1 + x), for x from 1/3 to 1
one_more : {x : Fraction} → Proper x → whole 0 ≼ x → whole 0 ≺ whole 1 ⊞ x
unfolding over ◌⊞◌
one_more p l = omega (arith, p.above)

nothing : (x : Fraction) → whole 0 ⊠ x ≼ whole 0
unfolding over ◌⊠◌
nothing x = omega arith

part_low : {x : Fraction} → x ≼ whole 1 → whole 0 ⊠ (whole 1 ⊞ x) ≼ whole 1 ⊟ x
part_low {x} h = ≼_trans (whole_proper 0) (nothing (whole 1 ⊞ x)) (rest_low h)

-- at 1/3 both sides are 2/3
two_thirds : whole 1 ⊟ over 1 3 ≼ (whole 1 ⊞ over 1 3) ⊠ over 1 2
unfolding over ◌⊞◌ ◌⊠◌ opposite
two_thirds = record { holds = lit≤ tt }

part_high : {x : Fraction} → over 1 3 ≼ x → whole 1 ⊟ x ≼ over 1 2 ⊠ (whole 1 ⊞ x)
part_high {x} h =
    let third : Proper (over 1 3) = over_proper 1 3 (omega arith) in
    let O = whole_proper 1 in
    ≼_trans (⊟-proper O third) (⊟-mono (≼_refl (whole 1)) h)
    (≼_trans (⊠-proper (⊞-proper O third) (over_proper 1 2 (omega arith))) two_thirds
    (rw (⊠-comm (over 1 2) (whole 1 ⊞ x)) (⊠-mono ((over-≼ 0 1 1 2).1 (omega arith)) (⊞-mono (≼_refl (whole 1)) h))))

third_low : {x : Fraction} → over 1 3 ≼ x → whole 0 ≼ x
third_low h = ≼_trans (over_proper 1 3 (omega arith)) ((over-≼ 0 1 1 3).1 (omega arith)) h

pub quotient_low : {x : Fraction} → Proper x → over 1 3 ≼ x → x ≼ whole 1 → whole 0 ≼ (whole 1 ⊟ x) ⧄ (whole 1 ⊞ x)
quotient_low p l h = (≼-⧄ (one_more p (third_low l))).1 (part_low h)

pub quotient_high : {x : Fraction} → Proper x → over 1 3 ≼ x → (whole 1 ⊟ x) ⧄ (whole 1 ⊞ x) ≼ over 1 2
quotient_high p l = (⧄-≼ (one_more p (third_low l))).1 (part_high l)

pub quotient_proper : {x : Fraction} → Proper x → over 1 3 ≼ x → Proper ((whole 1 ⊟ x) ⧄ (whole 1 ⊞ x))
quotient_proper p l = ⧄-proper (⊟-proper (whole_proper 1) p) (one_more p (third_low l))

-- ---- 1 / x, for x from 1 on
pub above_one : {x : Fraction} → Proper x → whole 1 ≼ x → whole 0 ≺ x
unfolding over
above_one p l = omega (arith, p.above)

inverse_part : {x : Fraction} → whole 1 ≼ x → whole 1 ≼ whole 1 ⊠ x
unfolding over ◌⊠◌
inverse_part h = omega arith

pub inverse_low : {x : Fraction} → Proper x → whole 1 ≼ x → whole 0 ≼ whole 1 ⧄ x
inverse_low {x} p l = (≼-⧄ (above_one p l)).1 (≼_trans (whole_proper 0) (nothing x) ((over-≼ 0 1 1 1).1 (omega arith)))

pub inverse_one : {x : Fraction} → Proper x → whole 1 ≼ x → whole 1 ⧄ x ≼ whole 1
inverse_one p l = (⧄-≼ (above_one p l)).1 (inverse_part l)

pub inverse_proper : {x : Fraction} → Proper x → whole 1 ≼ x → Proper (whole 1 ⧄ x)
inverse_proper p l = ⧄-proper (whole_proper 1) (above_one p l)

-- up to 5/2 it is above 2/5, and from there on it is not
five_halves : {x : Fraction} → over 5 2 ≼ x → whole 1 ≼ over 2 5 ⊠ x
unfolding over ◌⊠◌
five_halves h = omega arith

pub inverse_far : {x : Fraction} → Proper x → over 5 2 ≼ x → whole 1 ⧄ x ≼ over 2 5
inverse_far p l = (⧄-≼ (above_one p (≼_trans (over_proper 5 2 (omega arith)) ((over-≼ 1 1 5 2).1 (omega arith)) l))).1 (five_halves l)

-- the same, strictly
below_five_halves : {x : Fraction} → x ≺ over 5 2 → whole 1 ≼ over 2 5 ⊠ x → ⊥
unfolding over ◌⊠◌
below_five_halves h k = omega arith

pub inverse_near : {x : Fraction} → Proper x → whole 1 ≼ x → x ≺ over 5 2 → over 2 5 ≺ whole 1 ⧄ x
inverse_near {x} p l h = elim (≼-or-≺ (whole 1 ⧄ x) (over 2 5)) [ inl k ↦ absurd (below_five_halves h ((⧄-≼ (above_one p l)).0 k)) | inr k ↦ k ]
