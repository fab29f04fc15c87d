-- The definition, by the code's two tests (`too_low`, `too_high`), and where both pass, by the pattern of the shifted number (`found`). Assumes nothing.
use mathlib.Core.Path.{◌≡◌, refl, sym, ap, ◌∙◌, subst}
use mathlib.Core.Bool.{Bool, true, false, not, cond, false≢true}
use Prim.Native.Nat.{ℕ, zero, suc, ◌+◌, ◌-◌, ◌*◌, ◌^◌, ◌≤◌, ◌<◌}
use native.Mathlib.Omega.{arith}
use native.Mathlib.Decide.{dec_le}
use borrow.Author.Tests.{le-leb, lt-leb, lt-ltb, le-ltb}
use lib.IntN.{ℤ, pos, negsuc, neg_ℤ, sub_ℕ, ◌-ℤ◌}
use lib.Signed.{mag}
use lib.Dec.{T}
use lib.Ieee.{Float, nan, inf, fin, binary64, up, down, le, lt, eq, neg, is_nan, of_bits, to_bits}
use lib.Ieee.Nearest.{closest}
use Rattle.exact.specs.F64.{◌⊕◌}
use Rattle.thirty_seconds.specs.Multiple.{held, nearest_multiple}
use Rattle.std.specs.Prelude.{Some, None}
use Rattle.thirty_seconds.proofs.Shifted.{shift, shifted_up, shifted_down}
use Rattle.thirty_seconds.proofs.Ranges.{lower, upper, up_to, down_to, below_upper, negative_below, above_lower, positive_above}

-- ---- ±n, by its range
pub held_up : (n : ℕ) → n ≤ 32767 → held false n ≡ Some (pos n)
unfolding held
held_up n h = ap (λ (b : Bool). cond b (Some (pos n)) None) (le-leb n 32767 h)

pub held_down : (n : ℕ) → n ≤ 32768 → held true n ≡ Some (neg_ℤ (pos n))
unfolding held
held_down n h = ap (λ (b : Bool). cond b (Some (neg_ℤ (pos n))) None) (le-leb n 32768 h)

pub far_up : (n : ℕ) → 32767 < n → held false n ≡ None
unfolding held
far_up n h = ap (λ (b : Bool). cond b (Some (pos n)) None) (lt-leb n 32767 h)

pub far_down : (n : ℕ) → 32768 < n → held true n ≡ None
unfolding held
far_down n h = ap (λ (b : Bool). cond b (Some (neg_ℤ (pos n))) None) (lt-leb n 32768 h)

-- ---- a test that fails
refused : (b : Bool) → b ≡ false → T b → ⊥
refused b e t = subst T e t

passed : (b : Bool) → b ≡ true → T b
passed b e = subst T (sym e) tt

pub beyond : (q n : ℕ) → (q ≤ n → ⊥) → n < q
beyond q n f = elim (dec_le q n) [ yes h ↦ absurd (f h) | no h ↦ omega arith ]

pub too_low : (x : Float) → le lower x ≡ false → None ≡ nearest_multiple x
unfolding nearest_multiple
too_low nan h = refl
too_low (inf s) h = refl
too_low (fin false m e) h = absurd (refused (le lower (fin false m e)) h (positive_above m e))
too_low (fin true m e) h =
    let q = closest (32 * (m * up e)) (down e) in
    sym (far_down q (beyond q 32768 (λ (l : q ≤ 32768). refused (le lower (fin true m e)) h ((above_lower m e).1 ((down_to m e).0 l)))))

pub too_high : (x : Float) → lt x upper ≡ false → None ≡ nearest_multiple x
unfolding nearest_multiple
too_high nan h = refl
too_high (inf s) h = refl
too_high (fin true m e) h = absurd (refused (lt (fin true m e) upper) h (negative_below m e))
too_high (fin false m e) h =
    let q = closest (32 * (m * up e)) (down e) in
    sym (far_up q (beyond q 32767 (λ (l : q ≤ 32767). refused (lt (fin false m e) upper) h ((below_upper m e).1 ((up_to m e).0 l)))))

-- ---- both pass: a number of 16 bits, and the pattern less the shift's is it
pub record Found (x : Float) : Type 0 where
  pub n : ℤ
  pub is : nearest_multiple x ≡ Some n
  pub small : mag n < 2 ^ 15
  pub number : T (not (is_nan (x ⊕ shift)))
  pub bits : to_bits binary64 (x ⊕ shift) < 2 ^ 63
  pub rest : pos (to_bits binary64 (x ⊕ shift)) -ℤ pos 0x42e8_0000_0000_0000 ≡ n

more : (b q : ℕ) → sub_ℕ (b + q) b ≡ pos q
more b q = ap (λ (t : Bool). cond t (negsuc (b - suc (b + q))) (pos (b + q - b))) (le-ltb (b + q) b (omega arith)) ∙ ap pos (back b q)
  where
    back : (b q : ℕ) → b + q - b ≡ q
    back b q = omega arith

less : (b q : ℕ) → q ≤ b → sub_ℕ (b - q) b ≡ neg_ℤ (pos q)
less b zero h = ap (λ (t : Bool). cond t (negsuc (b - suc (b - zero))) (pos (b - zero - b))) (le-ltb (b - zero) b (omega arith)) ∙ ap pos (none b)
  where
    none : (b : ℕ) → b - zero - b ≡ 0
    none b = omega arith
less b (suc q) h = ap (λ (t : Bool). cond t (negsuc (b - suc (b - suc q))) (pos (b - suc q - b))) (lt-ltb (b - suc q) b (omega arith)) ∙ ap negsuc (back b q h)
  where
    back : (b q : ℕ) → suc q ≤ b → b - suc (b - suc q) ≡ q
    back b q h = omega arith

mag_small : (q : ℕ) → q ≤ 32768 → mag (neg_ℤ (pos q)) < 32768
mag_small zero h = omega arith
mag_small (suc q) h = omega arith

pub found : (x : Float) → le lower x ≡ true → lt x upper ≡ true → Found x
unfolding nearest_multiple le lt eq of_bits neg
found nan h k = absurd (false≢true k)
found (inf false) h k = absurd (false≢true k)
found (inf true) h k = absurd (false≢true h)
found (fin false m e) h k =
    let q = closest (32 * (m * up e)) (down e) in
    let r = (below_upper m e).0 (passed (lt (fin false m e) upper) k) in
    let l : q ≤ 32767 = (up_to m e).1 r in
    let p = shifted_up m e r l in
    record {
      n = pos q;
      is = held_up q l;
      small = omega arith;
      number = p.number;
      bits = rw p.bits (omega arith);
      rest = rw p.bits (more 0x42e8_0000_0000_0000 q);
    }
found (fin true m e) h k =
    let q = closest (32 * (m * up e)) (down e) in
    let r = (above_lower m e).0 (passed (le lower (fin true m e)) h) in
    let l : q ≤ 32768 = (down_to m e).1 r in
    let p = shifted_down m e r l in
    record {
      n = neg_ℤ (pos q);
      is = held_down q l;
      small = mag_small q l;
      number = p.number;
      bits = rw p.bits (omega arith);
      rest = rw p.bits (less 0x42e8_0000_0000_0000 q (omega arith));
    }
