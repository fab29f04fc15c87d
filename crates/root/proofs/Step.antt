-- Two digits of a root. Each costs what (q + e) * (q + e) has over q * q, so what is left and the square together stay the number (`pay`).
-- After the first digit of the two the rest is below two steps of it (`Half`), and after the second below one (`Found`). Assumes nothing.
use mathlib.Core.Path.{◌≡◌, sym, ap, ◌∙◌}
use mathlib.Core.Logic.{inl, inr}
use Prim.Native.Nat.{ℕ, ◌+◌, ◌-◌, ◌*◌, ◌/◌, ◌%◌, ◌^◌, ◌≤◌, ◌<◌}
use native.Mathlib.Nat.{add-mul, mul-add, mul_comm, mul_assoc, mul_left_comm}
use native.Mathlib.Omega.{arith}
use Rattle.root.specs.declared.Partial.{Partial}
use Rattle.root.specs.Digits.{Digit, number, Found, Finer}

pub binomial : (q e : ℕ) → (q + e) * (q + e) ≡ q * q + 2 * (q * e) + e * e
binomial q e =
    let a : (q + e) * (q + e) ≡ q * (q + e) + e * (q + e) = add-mul q e (q + e) in
    let b : q * (q + e) ≡ q * q + q * e = mul-add q q e in
    let c : e * (q + e) ≡ e * q + e * e = mul-add e q e in
    let d : e * q ≡ q * e = mul_comm e q in
    omega arith

-- the digit e costs t, in steps of c
pay : (d t R c q e : ℕ) → d + t ≡ R → t * c ≡ 2 * (q * e) + e * e → d * c + (q + e) * (q + e) ≡ R * c + q * q
pay d t R c q e h k =
    let a : (d + t) * c ≡ d * c + t * c = add-mul d t c in
    let b : (d + t) * c ≡ R * c = ap (λ (z : ℕ). z * c) h in
    let s = binomial q e in
    omega arith

-- the costs of a digit of weight 2 * c, and of one of weight c
first_cost : (q c t : ℕ) → t ≡ 4 * q + 4 * c → t * c ≡ 2 * (q * (2 * c)) + 2 * c * (2 * c)
first_cost q c t h =
    let a : t * c ≡ (4 * q + 4 * c) * c = ap (λ (z : ℕ). z * c) h in
    let b : (4 * q + 4 * c) * c ≡ 4 * q * c + 4 * c * c = add-mul (4 * q) (4 * c) c in
    let d : 4 * q * c ≡ 4 * (q * c) = mul_assoc 4 q c in
    let e : 4 * c * c ≡ 4 * (c * c) = mul_assoc 4 c c in
    let f : q * (2 * c) ≡ 2 * (q * c) = mul_left_comm q 2 c in
    let g : 2 * c * (2 * c) ≡ 2 * (c * (2 * c)) = mul_assoc 2 c (2 * c) in
    let i : c * (2 * c) ≡ 2 * (c * c) = mul_left_comm c 2 c in
    omega arith

second_cost : (q c t : ℕ) → t ≡ 2 * q + c → t * c ≡ 2 * (q * c) + c * c
second_cost q c t h =
    let a : t * c ≡ (2 * q + c) * c = ap (λ (z : ℕ). z * c) h in
    let b : (2 * q + c) * c ≡ 2 * q * c + c * c = add-mul (2 * q) c c in
    let d : 2 * q * c ≡ 2 * (q * c) = mul_assoc 2 q c in
    omega arith

-- ---- between the two digits
pub record Half (c n : ℕ) (p : Partial) : Type 0 where
  pub even : p.twice % 2 ≡ 0
  pub most : p.rest < 2 * p.twice + 4 * c
  pub room : p.twice + 4 * c ≤ 2 ^ 54
  pub lead : 2 ^ 53 ≤ p.twice
  pub same : number c p ≡ n

half_of : (t q e u : ℕ) → t ≡ 2 * q → u ≡ t + 2 * e → u / 2 ≡ q + e
half_of t q e u h k = omega arith

-- the number by its rest and the half of twice the root
as_number : (c : ℕ) (p : Partial) (d q : ℕ) → p.rest ≡ d → p.twice / 2 ≡ q → number c p ≡ d * c + q * q
as_number c p d q h k = ap (λ (z : ℕ). z * c + p.twice / 2 * (p.twice / 2)) h ∙ ap (λ (z : ℕ). d * c + z * z) k

abbrev pub widened : Partial → Partial
widened p = record { rest = p.rest * 2 ^ 2 % 2 ^ 64; twice = p.twice }

four_times : (r c w x : ℕ) → w ≡ 4 * c → r * 4 * c + x ≡ r * w + x
four_times r c w x e = ap (λ (z : ℕ). z + x) (mul_assoc r 4 c ∙ ap (λ (z : ℕ). r * z) (sym e))

pub first : (c w : ℕ) (p h : Partial) → w ≡ 4 * c → Found w p → Digit (widened p) (p.twice + w + p.twice) (p.twice + w) h → Half c (number w p) h
first c w p h E F (inl (g, e, k)) =
    let q = p.twice / 2 in
    let t = p.twice + w + p.twice in
    let T : p.twice ≡ 2 * q = omega (arith, F.even) in
    let W : p.rest * 2 ^ 2 % 2 ^ 64 ≡ p.rest * 4 = omega (arith, F.most, F.room) in
    record {
      even = omega (arith, F.even);
      most = omega (arith, F.most);
      room = omega (arith, F.room);
      lead = omega (arith, F.lead);
      same =
          as_number c h (p.rest * 2 ^ 2 % 2 ^ 64 - t) (q + 2 * c) e (half_of p.twice q (2 * c) h.twice T (omega arith))
          ∙ pay (p.rest * 2 ^ 2 % 2 ^ 64 - t) t (p.rest * 4) c q (2 * c) (omega arith) (first_cost q c t (omega arith))
          ∙ four_times p.rest c w (q * q) E;
    }
first c w p h E F (inr (g, e, k)) =
    let W : p.rest * 2 ^ 2 % 2 ^ 64 ≡ p.rest * 4 = omega (arith, F.most, F.room) in
    record {
      even = omega (arith, F.even);
      most = omega arith;
      room = omega (arith, F.room);
      lead = omega (arith, F.lead);
      same = as_number c h (p.rest * 4) (p.twice / 2) (e ∙ W) (ap (λ (z : ℕ). z / 2) k) ∙ four_times p.rest c w (p.twice / 2 * (p.twice / 2)) E;
    }

pub second : (c n : ℕ) (h r : Partial) → Half c n h → Digit h (h.twice + c) (h.twice + c + c) r → Finer c n r
second c n h r H (inl (g, e, k)) =
    let q = h.twice / 2 in
    let t = h.twice + c in
    let T : h.twice ≡ 2 * q = omega (arith, H.even) in
    record {
      found = record { even = omega (arith, H.even); most = omega (arith, H.most); room = omega (arith, H.room); lead = omega (arith, H.lead) };
      same =
          as_number c r (h.rest - t) (q + c) e (half_of h.twice q c r.twice T (omega arith))
          ∙ pay (h.rest - t) t h.rest c q c (omega arith) (second_cost q c t (omega arith))
          ∙ H.same;
    }
second c n h r H (inr (g, e, k)) =
    record {
      found = record { even = omega (arith, H.even); most = omega arith; room = omega (arith, H.room); lead = omega (arith, H.lead) };
      same = as_number c r h.rest (h.twice / 2) e (ap (λ (z : ℕ). z / 2) k) ∙ H.same;
    }
