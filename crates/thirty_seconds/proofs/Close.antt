-- The whole number nearest to a fraction a / c is known by four facts (`close`), which only one number meets (`close_unique`). So a whole number added to the fraction,
-- or the fraction taken from one, goes through: it has to be even, for the ties (`closest_plus`, `closest_minus`). Assumes nothing.
use mathlib.Core.Path.{◌≡◌, refl, sym, ap, ◌∙◌, subst}
use Prim.Native.Nat.{ℕ, zero, suc, ◌+◌, ◌-◌, ◌*◌, ◌/◌, ◌%◌, ◌≤◌, ◌<◌, compare, Ordering}
use native.Mathlib.Nat.{div-add-mod', mod-lt, add-mul, suc-mul, mul-le-mul_right}
use native.Mathlib.Decide.{dec_lt}
use native.Mathlib.Omega.{arith}
use mathlib.Core.Bool.{not}
use lib.Dec.{T, is_le, compare_is_eq, eqb, leb→le, nleb→lt, eqb→eq, eqb_refl}
use lib.Ieee.{nearest}
use lib.Ieee.Nearest.{closest}

-- q is at most a half from a / c, and where it is a half away it is even
pub record Close (a c q : ℕ) : Type 0 where
  pub not_above : 2 * (q * c) ≤ 2 * a + c
  pub not_below : 2 * a ≤ 2 * (q * c) + c
  pub tie_below : 2 * (q * c) ≡ 2 * a + c → q % 2 ≡ 0
  pub tie_above : 2 * a ≡ 2 * (q * c) + c → q % 2 ≡ 0

-- ---- the nearest number is close, by how twice the remainder r compares with c
by_remainder : (w r c a : ℕ) (o : Ordering) → (T (is_le o) → r * 2 ≤ c) → (T (not (is_le o)) → c < r * 2) → (T (compare_is_eq o) → r * 2 ≡ c) → (r * 2 ≡ c → T (compare_is_eq o)) → r < c → w * c + r ≡ a → Close a c (nearest w o)
by_remainder w r c a Ordering.lt le gt eq ne l e =
    let h = le tt in
    record { not_above = omega arith; not_below = omega arith; tie_below = λ (t : 2 * (w * c) ≡ 2 * a + c). omega arith; tie_above = λ (t : 2 * a ≡ 2 * (w * c) + c). absurd (ne (omega arith)) }
by_remainder w r c a Ordering.eq le gt eq ne l e =
    let h = eq tt in
    let m : (w + w % 2) * c ≡ w * c + w % 2 * c = add-mul w (w % 2) c in
    let k : w % 2 * c ≤ 1 * c = mul-le-mul_right c (omega arith) in
    record { not_above = omega arith; not_below = omega arith; tie_below = λ (t : 2 * ((w + w % 2) * c) ≡ 2 * a + c). omega arith; tie_above = λ (t : 2 * a ≡ 2 * ((w + w % 2) * c) + c). omega arith }
by_remainder w r c a Ordering.gt le gt eq ne l e =
    let h = gt tt in
    let m : suc w * c ≡ w * c + c = suc-mul w c in
    record { not_above = omega arith; not_below = omega arith; tie_below = λ (t : 2 * (suc w * c) ≡ 2 * a + c). omega arith; tie_above = λ (t : 2 * a ≡ 2 * (suc w * c) + c). omega arith }

pub close : (a c : ℕ) → 0 < c → Close a c (closest a c)
close a c C =
    let r = a % c in
    by_remainder (a / c) r c a (compare (r * 2) c) (leb→le (r * 2) c) (nleb→lt (r * 2) c) (eqb→eq (r * 2) c) (λ (e : r * 2 ≡ c). subst (λ (z : ℕ). T (eqb (r * 2) z)) e (eqb_refl (r * 2))) (mod-lt a C) (div-add-mod' a c)

-- ---- and it alone: two numbers that are close are a half away each, or one
not_less : (a c p q : ℕ) → 0 < c → Close a c p → Close a c q → p < q → ⊥
not_less a c p q C P Q l =
    let d = q - suc p in
    let e : q ≡ suc p + d = omega arith in
    let m : q * c ≡ p * c + c + d * c = ap (λ (z : ℕ). z * c) e ∙ add-mul (suc p) d c ∙ ap (λ (z : ℕ). z + d * c) (suc-mul p c) in
    let z : d * c ≡ 0 = omega (arith, P.not_below, Q.not_above) in
    let even : p % 2 ≡ 0 = P.tie_above (omega (arith, P.not_below, Q.not_above)) in
    let even' : q % 2 ≡ 0 = Q.tie_below (omega (arith, P.not_below, Q.not_above)) in
    let one : d ≡ 0 = none d c C z in
    omega arith
  where
    none : (d c : ℕ) → 0 < c → d * c ≡ 0 → d ≡ 0
    none zero c C h = refl
    none (suc d) c C h = absurd (some d c C (sym (suc-mul d c) ∙ h))
      where
        some : (d c : ℕ) → 0 < c → d * c + c ≡ 0 → ⊥
        some d c C h = omega arith

pub close_unique : (a c p q : ℕ) → 0 < c → Close a c p → Close a c q → p ≡ q
close_unique a c p q C P Q = elim (dec_lt p q) [
  | yes l ↦ absurd (not_less a c p q C P Q l)
  | no h ↦ elim (dec_lt q p) [ yes l ↦ absurd (not_less a c q p C Q P l) | no k ↦ omega arith ]
]

-- ---- a whole number, 2 * n, before it
pub closest_plus : (n a c : ℕ) → 0 < c → closest (2 * n * c + a) c ≡ 2 * n + closest a c
closest_plus n a c C =
    let q = closest a c in
    let Q = close a c C in
    let m : (2 * n + q) * c ≡ 2 * n * c + q * c = add-mul (2 * n) q c in
    close_unique (2 * n * c + a) c (closest (2 * n * c + a) c) (2 * n + q) C (close (2 * n * c + a) c C)
    (record {
      not_above = omega (arith, Q.not_above);
      not_below = omega (arith, Q.not_below);
      tie_below = λ (t : 2 * ((2 * n + q) * c) ≡ 2 * (2 * n * c + a) + c). let e : q % 2 ≡ 0 = Q.tie_below (omega arith) in omega arith;
      tie_above = λ (t : 2 * (2 * n * c + a) ≡ 2 * ((2 * n + q) * c) + c). let e : q % 2 ≡ 0 = Q.tie_above (omega arith) in omega arith;
    })

pub closest_minus : (n a c : ℕ) → 0 < c → a ≤ 2 * n * c → closest a c ≤ 2 * n → closest (2 * n * c - a) c ≡ 2 * n - closest a c
closest_minus n a c C h l =
    let q = closest a c in
    let Q = close a c C in
    let r = 2 * n - q in
    let e : 2 * n ≡ r + q = omega arith in
    let m : 2 * n * c ≡ r * c + q * c = ap (λ (z : ℕ). z * c) e ∙ add-mul r q c in
    close_unique (2 * n * c - a) c (closest (2 * n * c - a) c) r C (close (2 * n * c - a) c C)
    (record {
      not_above = omega (arith, Q.not_below);
      not_below = omega (arith, Q.not_above);
      tie_below = λ (t : 2 * (r * c) ≡ 2 * (2 * n * c - a) + c). let e : q % 2 ≡ 0 = Q.tie_above (omega arith) in omega arith;
      tie_above = λ (t : 2 * (2 * n * c - a) ≡ 2 * (r * c) + c). let e : q % 2 ≡ 0 = Q.tie_below (omega arith) in omega arith;
    })
