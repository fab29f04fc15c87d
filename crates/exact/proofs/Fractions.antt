-- The laws of fractions (specs/Fraction.antt): the order, sums, products and quotients, and nearness with its triangle law (`within_trans`).
-- A float's number: the floats' comparisons are the fractions' (`lt-≺`, `eq-≈`, `le-≼`), and a rounding goes at most half a unit in the last place (`near`).
-- What holds of the records themselves is stated by `≡`, so that `rw` and `simp` use it; what holds of the numbers, by `≈`. Assumes nothing.
use mathlib.Core.Path.{◌≡◌, refl, sym, ap, ◌∙◌, subst}
use mathlib.Core.Logic.{◌⊎◌, inl, inr, ◌↔◌}
use mathlib.Core.Bool.{Bool, true, false, ◌&&◌, ◌||◌, and-true}
use Prim.Native.Nat.{ℕ, zero, suc, ◌+◌, ◌-◌, ◌*◌, ◌^◌, ◌≤◌, ◌<◌}
use native.Mathlib.Nat.{add-le-add, add-sub_of_le, mul_comm, mul-pos, mul-le-mul_left, mul-le-mul_right, mul-lt-mul_of_pos_right, le_of_mul-le-mul_right, lt_of_mul-lt-mul_right, sub-pos_iff_lt, zero-lt-suc, pow-zero, pow-suc}
use native.Mathlib.Decide.{dec_le, dec_lt}
use native.Mathlib.Omega.{arith}
use lib.Dec.{T, eqb, ltb→lt, lt→ltb, eqb→eq, eqb_refl}
use lib.Pow.{pow_pos}
use lib.Ieee.{Float, nan, inf, fin, Format, low, up, down, below, level, lt, eq, le, neg, round}
use lib.Ieee.Fits.{down_pos, and_i, and_l, and_r}
use lib.Ieee.Exact.{HasValue}
use lib.Ieee.Scale.{overflow, finite}
use Rattle.exact.specs.Rounding.{Rounded}
use Rattle.exact.specs.Fraction.{Fraction, Proper, cross, ◌≼◌, ◌≺◌, ◌≈◌, over, whole, ◌⊞◌, opposite, ◌⊟◌, ◌⊠◌, ◌⧄◌, power, signed, Within, exactly, half_units}

-- ---- every operation gives a number: `search proper` finds it

pub over_proper : (a b : ℕ) → 0 < b → Proper (over a b)
unfolding over
over_proper a b h = record { above = h }

pub whole_proper : (n : ℕ) → Proper (whole n)
whole_proper n = over_proper n 1 (zero-lt-suc 0)

pub ⊞-proper : {a b : Fraction} → Proper a → Proper b → Proper (a ⊞ b)
unfolding ◌⊞◌
⊞-proper p q = record { above = mul-pos p.above q.above }

pub opposite_proper : {a : Fraction} → Proper a → Proper (opposite a)
unfolding opposite
opposite_proper p = record { above = p.above }

pub ⊟-proper : {a b : Fraction} → Proper a → Proper b → Proper (a ⊟ b)
⊟-proper p q = ⊞-proper p (opposite_proper q)

pub ⊠-proper : {a b : Fraction} → Proper a → Proper b → Proper (a ⊠ b)
unfolding ◌⊠◌
⊠-proper p q = record { above = mul-pos p.above q.above }

pub ⧄-proper : {a b : Fraction} → Proper a → whole 0 ≺ b → Proper (a ⧄ b)
unfolding ◌⧄◌ over
⧄-proper p h = record { above = mul-pos p.above (sub-pos_iff_lt.1 (omega arith)) }

pub power_proper : {a : Fraction} (n : ℕ) → Proper a → Proper (power a n)
unfolding power
power_proper zero p = whole_proper 1
power_proper (suc n) p = ⊠-proper (power_proper n p) p

pub signed_proper : {a : Fraction} (s : Bool) → Proper a → Proper (signed s a)
signed_proper false p = p
signed_proper true p = opposite_proper p

pub exactly_proper : (x : Float) → Proper (exactly x)
unfolding exactly
exactly_proper nan = whole_proper 0
exactly_proper (inf s) = whole_proper 0
exactly_proper (fin s m e) = signed_proper s (over_proper (m * up e) (down e) (down_pos e))

pub half_units_proper : (f : Format) (k : ℕ) → Proper (half_units f k)
unfolding half_units
half_units_proper f k = over_proper (2 ^ k) (2 * 2 ^ low f) (mul-pos (zero-lt-suc 1) (pow_pos (low f)))

pub ruleset proper = (over_proper, whole_proper, ⊞-proper, opposite_proper, ⊠-proper, ⧄-proper, power_proper, signed_proper, exactly_proper, half_units_proper)

-- ---- order and sameness. For transitivity the middle one has to be a number; where one step is strict, the far end of the other step

pub ≼_refl : (a : Fraction) → a ≼ a
≼_refl a = omega arith

pub ≼_trans : {a b c : Fraction} → Proper b → a ≼ b → b ≼ c → a ≼ c
≼_trans {a} {b} {c} B h k = record { holds = le_of_mul-le-mul_right (omega (arith, mul-le-mul_right c.under h.holds, mul-le-mul_right a.under k.holds)) B.above }

pub ≼-≺-trans : {a b c : Fraction} → Proper a → a ≼ b → b ≺ c → a ≺ c
≼-≺-trans {a} {b} {c} A h k = record { holds = lt_of_mul-lt-mul_right b.under (omega (arith, mul-le-mul_right c.under h.holds, mul-lt-mul_of_pos_right k.holds A.above)) }

pub ≺-≼-trans : {a b c : Fraction} → Proper c → a ≺ b → b ≼ c → a ≺ c
≺-≼-trans {a} {b} {c} C h k = record { holds = lt_of_mul-lt-mul_right b.under (omega (arith, mul-lt-mul_of_pos_right h.holds C.above, mul-le-mul_right a.under k.holds)) }

pub ≺→≼ : {a b : Fraction} → a ≺ b → a ≼ b
≺→≼ h = omega arith

pub ≺-not-≼ : {a b : Fraction} → a ≺ b → b ≼ a → ⊥
≺-not-≼ h k = omega arith

pub ≼-or-≺ : (a b : Fraction) → (a ≼ b) ⊎ (b ≺ a)
≼-or-≺ a b = elim (dec_le (cross a b) (cross b a)) [ yes h ↦ inl (omega arith) | no h ↦ inr (omega arith) ]

pub ≼-total : (a b : Fraction) → (a ≼ b) ⊎ (b ≼ a)
≼-total a b = elim (≼-or-≺ a b) [ inl h ↦ inl h | inr h ↦ inr (≺→≼ h) ]

pub ≼-antisym : {a b : Fraction} → a ≼ b → b ≼ a → a ≈ b
≼-antisym h k = omega arith

pub ≈→≼ : {a b : Fraction} → a ≈ b → a ≼ b
≈→≼ h = omega arith

pub ≈-sym : {a b : Fraction} → a ≈ b → b ≈ a
≈-sym h = omega arith

pub ≈-refl : (a : Fraction) → a ≈ a
≈-refl a = ≼-antisym (≼_refl a) (≼_refl a)

pub ≡→≈ : {a b : Fraction} → a ≡ b → a ≈ b
≡→≈ {a} e = rw (← e) (≈-refl a)

pub ≈-≼ : {a b c : Fraction} → Proper b → a ≈ b → b ≼ c → a ≼ c
≈-≼ B h k = ≼_trans B (≈→≼ h) k

pub ≼-≈ : {a b c : Fraction} → Proper b → a ≼ b → b ≈ c → a ≼ c
≼-≈ B h k = ≼_trans B h (≈→≼ k)

pub ≈-trans : {a b c : Fraction} → Proper b → a ≈ b → b ≈ c → a ≈ c
≈-trans B h k = ≼-antisym (≈-≼ B h (≈→≼ k)) (≈-≼ B (≈-sym k) (≈→≼ (≈-sym h)))

-- ---- the sum

fraction_path : {a b : Fraction} → a.plus ≡ b.plus → a.minus ≡ b.minus → a.under ≡ b.under → a ≡ b
fraction_path p m u i = record { plus = p i; minus = m i; under = u i }

pub ⊞-comm : (a b : Fraction) → a ⊞ b ≡ b ⊞ a
unfolding ◌⊞◌
⊞-comm a b = fraction_path (omega arith) (omega arith) (omega arith)

pub ⊞-assoc : (a b c : Fraction) → a ⊞ b ⊞ c ≡ a ⊞ (b ⊞ c)
unfolding ◌⊞◌
⊞-assoc a b c = fraction_path (omega arith) (omega arith) (omega arith)

pub ⊞-left-comm : (a b c : Fraction) → a ⊞ (b ⊞ c) ≡ b ⊞ (a ⊞ c)
⊞-left-comm a b c = sym (⊞-assoc a b c) ∙ ap (λ (x : Fraction). x ⊞ c) (⊞-comm a b) ∙ ⊞-assoc b a c

pub ⊞-zero : (a : Fraction) → a ⊞ whole 0 ≡ a
unfolding ◌⊞◌ over
⊞-zero a = fraction_path (omega arith) (omega arith) (omega arith)

pub ⊟-self : (a : Fraction) → a ⊟ a ≈ whole 0
unfolding ◌⊞◌ opposite over
⊟-self a = omega arith

pub opposite_opposite : (a : Fraction) → opposite (opposite a) ≡ a
unfolding opposite
opposite_opposite a = refl

pub opposite-⊞ : (a b : Fraction) → opposite (a ⊞ b) ≡ opposite a ⊞ opposite b
unfolding ◌⊞◌ opposite
opposite-⊞ a b = refl

pub opposite-≼ : {a b : Fraction} → a ≼ b → opposite b ≼ opposite a
unfolding opposite
opposite-≼ h = omega arith

pub opposite_cong : {a b : Fraction} → a ≈ b → opposite a ≈ opposite b
opposite_cong h = ≼-antisym (opposite-≼ (≈→≼ (≈-sym h))) (opposite-≼ (≈→≼ h))

-- two sums compare as their parts do, brought to one denominator
regroup : (a b c d : Fraction) → cross (a ⊞ c) (b ⊞ d) ≡ cross a b * (c.under * d.under) + cross c d * (a.under * b.under)
unfolding ◌⊞◌
regroup a b c d = omega arith

linked : {x y l r : ℕ} → x ≡ l → y ≡ r → l ≤ r → x ≤ y
linked p q h = omega arith

pub ⊞-mono : {a b c d : Fraction} → a ≼ b → c ≼ d → a ⊞ c ≼ b ⊞ d
⊞-mono {a} {b} {c} {d} h k =
    let back = rw (mul_comm d.under c.under, mul_comm b.under a.under) at (regroup b a d c) in
    record { holds = linked (regroup a b c d) back (add-le-add (mul-le-mul_right (c.under * d.under) h.holds) (mul-le-mul_right (a.under * b.under) k.holds)) }

pub ⊟-mono : {a b c d : Fraction} → a ≼ b → d ≼ c → a ⊟ c ≼ b ⊟ d
⊟-mono h k = ⊞-mono h (opposite-≼ k)

pub ⊞-cong : {a b c d : Fraction} → a ≈ b → c ≈ d → a ⊞ c ≈ b ⊞ d
⊞-cong h k = ≼-antisym (⊞-mono (≈→≼ h) (≈→≼ k)) (⊞-mono (≈→≼ (≈-sym h)) (≈→≼ (≈-sym k)))

-- what is taken off on one side is added on the other
pub move : (a b c : Fraction) → (a ⊟ b ≼ c) ↔ (a ≼ b ⊞ c)
unfolding ◌⊞◌ opposite
move a b c = (λ h. record { holds = omega (arith, h.holds) }, λ h. record { holds = omega (arith, h.holds) })

swap : (a b c : Fraction) → a ⊟ b ≼ c → a ⊟ c ≼ b
swap a b c h = (move a c b).1 (rw ⊞-comm at ((move a b c).0 h))

-- ---- the product

pub ⊠-comm : (a b : Fraction) → a ⊠ b ≡ b ⊠ a
unfolding ◌⊠◌
⊠-comm a b = fraction_path (omega arith) (omega arith) (omega arith)

pub ⊠-assoc : (a b c : Fraction) → a ⊠ b ⊠ c ≡ a ⊠ (b ⊠ c)
unfolding ◌⊠◌
⊠-assoc a b c = fraction_path (omega arith) (omega arith) (omega arith)

pub ⊠-one : (a : Fraction) → a ⊠ whole 1 ≡ a
unfolding ◌⊠◌ over
⊠-one a = fraction_path (omega arith) (omega arith) (omega arith)

pub opposite-⊠ : (a b : Fraction) → opposite (a ⊠ b) ≡ opposite a ⊠ b
unfolding ◌⊠◌ opposite
opposite-⊠ a b = fraction_path (omega arith) (omega arith) refl

scaled : (k : ℕ) {a b : Fraction} → b.plus ≡ k * a.plus → b.minus ≡ k * a.minus → b.under ≡ k * a.under → a ≈ b
scaled k p m u = record { holds = rw (p, m, u) (omega arith) }

pub ⊠-⊞ : (a b c : Fraction) → a ⊠ (b ⊞ c) ≈ a ⊠ b ⊞ a ⊠ c
unfolding ◌⊠◌ ◌⊞◌
⊠-⊞ a b c = scaled a.under (omega arith) (omega arith) (omega arith)

pub ⊞-⊠ : (a b c : Fraction) → (a ⊞ b) ⊠ c ≈ a ⊠ c ⊞ b ⊠ c
⊞-⊠ a b c = rw (⊠-comm (a ⊞ b) c, ⊠-comm a c, ⊠-comm b c) (⊠-⊞ c a b)

pub ⊟-⊠ : (a b c : Fraction) → (a ⊟ b) ⊠ c ≈ a ⊠ c ⊟ b ⊠ c
⊟-⊠ a b c = rw (opposite-⊠ b c) (⊞-⊠ a (opposite b) c)

-- two products by one factor compare as the others do, crosswise
twist : (a b c : Fraction) → cross (a ⊠ c) (b ⊠ c) ≡ (c.plus * cross a b + c.minus * cross b a) * c.under
unfolding ◌⊠◌
twist a b c = omega arith

crossed : {s r l m : ℕ} → s ≤ r → l ≤ m → r * l + s * m ≤ r * m + s * l
crossed {s} {r} {l} {m} h k = rw (← add-sub_of_le h) (omega (arith, mul-le-mul_left (r - s) k))

sign : {a : Fraction} → whole 0 ≼ a → a.minus ≤ a.plus
unfolding over
sign h = omega arith

pub ⊠-not-negative : {a b : Fraction} → whole 0 ≼ a → whole 0 ≼ b → whole 0 ≼ a ⊠ b
unfolding ◌⊠◌ over
⊠-not-negative h k = omega (arith, crossed (sign h) (sign k))

pub ⊠-mono : {a b c : Fraction} → whole 0 ≼ c → a ≼ b → a ⊠ c ≼ b ⊠ c
⊠-mono {a} {b} {c} C h = record { holds = linked (twist a b c) (twist b a c) (mul-le-mul_right c.under (crossed (sign C) h.holds)) }

pub ⊠-cong : {a b : Fraction} (c : Fraction) → a ≈ b → a ⊠ c ≈ b ⊠ c
⊠-cong {a} {b} c h = record { holds = twist a b c ∙ rw h.holds refl ∙ sym (twist b a c) }

-- ---- the quotient by b above zero: a / b compares with c as a compares with c * b

carried : {b : Fraction} (a c : Fraction) → whole 0 ≺ b → cross (a ⧄ b) c + cross (c ⊠ b) a ≡ cross c (a ⧄ b) + cross a (c ⊠ b)
unfolding ◌⧄◌ ◌⊠◌ over
carried {b} a c h =
    let e : b.plus ≡ b.minus + (b.plus - b.minus) = omega arith in
    omega (arith, ap (λ (z : ℕ). c.plus * a.under * z) e, ap (λ (z : ℕ). c.minus * a.under * z) e)

pub ⧄-≼ : {a b c : Fraction} → whole 0 ≺ b → (a ⧄ b ≼ c) ↔ (a ≼ c ⊠ b)
⧄-≼ {a} {b} {c} h = let e = carried a c h in (λ g. record { holds = omega arith }, λ g. record { holds = omega arith })

pub ≼-⧄ : {a b c : Fraction} → whole 0 ≺ b → (c ≼ a ⧄ b) ↔ (c ⊠ b ≼ a)
≼-⧄ {a} {b} {c} h = let e = carried a c h in (λ g. record { holds = omega arith }, λ g. record { holds = omega arith })

pub ⧄-⊠ : {a b : Fraction} → whole 0 ≺ b → (a ⧄ b) ⊠ b ≈ a
⧄-⊠ {a} {b} h = ≼-antisym ((≼-⧄ h).0 (≼_refl (a ⧄ b))) ((⧄-≼ h).0 (≼_refl (a ⧄ b)))

-- ---- fractions of two whole numbers

pub over-≼ : (a c b d : ℕ) → (over a c ≼ over b d) ↔ (a * d ≤ b * c)
unfolding over
over-≼ a c b d = (λ h. omega arith, λ h. omega arith)

pub over-≈ : (a c b d : ℕ) → (over a c ≈ over b d) ↔ (a * d ≡ b * c)
unfolding over
over-≈ a c b d = (λ h. omega arith, λ h. omega arith)

pub over-⊞ : (a b c : ℕ) → over a c ⊞ over b c ≈ over (a + b) c
unfolding over ◌⊞◌
over-⊞ a b c = omega arith

pub over-⊠ : (a c b d : ℕ) → over a c ⊠ over b d ≡ over (a * b) (c * d)
unfolding over ◌⊠◌
over-⊠ a c b d = fraction_path (omega arith) (omega arith) refl

pub power_over : (a c n : ℕ) → power (over a c) n ≡ over (a ^ n) (c ^ n)
unfolding power
power_over a c zero = rw (pow-zero a, pow-zero c)
power_over a c (suc n) = rw (power_over a c n, over-⊠, pow-suc a n, pow-suc c n)

-- ---- nearness

pub within_sym : {ε a b : Fraction} → Within ε a b → Within ε b a
within_sym h = record { left = h.right; right = h.left; not_above = h.not_below; not_below = h.not_above }

pub within_refl : {ε a : Fraction} → Proper a → whole 0 ≼ ε → Within ε a a
within_refl {ε} {a} A h = let r = (move a a ε).1 (rw ⊞-zero at (⊞-mono (≼_refl a) h)) in record { left = A; right = A; not_above = r; not_below = r }

pub within_wider : {ε δ a b : Fraction} → Proper ε → ε ≼ δ → Within ε a b → Within δ a b
within_wider E h k = record { left = k.left; right = k.right; not_above = ≼_trans E k.not_above h; not_below = ≼_trans E k.not_below h }

-- the triangle law, on one side and on both
step : (a c : Fraction) {ε δ b : Fraction} → Proper b → a ⊟ b ≼ ε → b ⊟ c ≼ δ → a ⊟ c ≼ ε ⊞ δ
step a c {ε} {δ} {b} B h k = (move a c (ε ⊞ δ)).1 (rw (⊞-left-comm c ε δ) ((move a ε (c ⊞ δ)).0 (≼_trans B (swap a b ε h) ((move b c δ).0 k))))

pub within_trans : {ε δ a b c : Fraction} → Within ε a b → Within δ b c → Within (ε ⊞ δ) a c
within_trans {ε} {δ} {a} {c = c} h k = record {
  left = h.left;
  right = k.right;
  not_above = step a c h.right h.not_above k.not_above;
  not_below = rw (⊞-comm ε δ) (step c a h.right k.not_below h.not_below);
}

-- of another name for the first of the two, and for the second
pub within_same : {ε a b c : Fraction} → Proper a → a ≈ b → Within ε b c → Within ε a c
within_same {ε} {a} {b} {c} A h k = record {
  left = A;
  right = k.right;
  not_above = (move a c ε).1 (≼_trans k.left (≈→≼ h) ((move b c ε).0 k.not_above));
  not_below = swap c ε a (≼_trans k.left (swap c b ε k.not_below) (≈→≼ (≈-sym h)));
}

pub within_to : {ε a b c : Fraction} → Proper c → b ≈ c → Within ε a b → Within ε a c
within_to C e h = within_sym (within_same C (≈-sym e) (within_sym h))

pub within_opposite : {ε a b : Fraction} → Within ε a b → Within ε (opposite a) (opposite b)
within_opposite {a = a} {b} h = record {
  left = opposite_proper h.left;
  right = opposite_proper h.right;
  not_above = rw (opposite_opposite b, ⊞-comm (opposite a) b) h.not_below;
  not_below = rw (opposite_opposite a, ⊞-comm (opposite b) a) h.not_above;
}

pub within_signed : {ε a b : Fraction} (s : Bool) → Within ε a b → Within ε (signed s a) (signed s b)
within_signed false h = h
within_signed true h = within_opposite h

interchange : (a b c d : Fraction) → a ⊞ c ⊟ (b ⊞ d) ≡ (a ⊟ b) ⊞ (c ⊟ d)
interchange a b c d = simp (opposite-⊞, ⊞-assoc, ⊞-left-comm)

pub within-⊞ : {ε δ a b c d : Fraction} → Within ε a b → Within δ c d → Within (ε ⊞ δ) (a ⊞ c) (b ⊞ d)
within-⊞ {a = a} {b} {c} {d} h k = record {
  left = ⊞-proper h.left k.left;
  right = ⊞-proper h.right k.right;
  not_above = rw (interchange a b c d) (⊞-mono h.not_above k.not_above);
  not_below = rw (interchange b a d c) (⊞-mono h.not_below k.not_below);
}

pub within-⊠ : {ε a b c : Fraction} → Proper c → whole 0 ≼ c → Within ε a b → Within (ε ⊠ c) (a ⊠ c) (b ⊠ c)
within-⊠ {a = a} {b} {c} C N h = record {
  left = ⊠-proper h.left C;
  right = ⊠-proper h.right C;
  not_above = ≈-≼ (⊠-proper (⊟-proper h.left h.right) C) (≈-sym (⊟-⊠ a b c)) (⊠-mono N h.not_above);
  not_below = ≈-≼ (⊠-proper (⊟-proper h.right h.left) C) (≈-sym (⊟-⊠ b a c)) (⊠-mono N h.not_below);
}

-- ---- a float's number

pub value : (x : Float) (s : Bool) (a c : ℕ) → HasValue x s a c → exactly x ≈ signed s (over a c)
unfolding exactly
value nan s a c h = absurd h
value (inf t) s a c h = absurd h
value (fin t m e) s a c h = subst (λ (b : Bool). signed t (over (m * up e) (down e)) ≈ signed b (over a c)) h.0 (of t)
  where
    of : (t : Bool) → signed t (over (m * up e) (down e)) ≈ signed t (over a c)
    of false = (over-≈ (m * up e) (down e) a c).1 h.1
    of true = opposite_cong ((over-≈ (m * up e) (down e) a c).1 h.1)

pub exactly_neg : (x : Float) → exactly (neg x) ≡ opposite (exactly x)
unfolding exactly neg opposite over
exactly_neg nan = refl
exactly_neg (inf s) = refl
exactly_neg (fin false m e) = refl
exactly_neg (fin true m e) = refl

-- ---- of finite floats, each comparison is that of the numbers

less : (s t : Bool) (a u b v : ℕ) → T (below s (a * v) t (b * u)) ↔ (signed s (over a u) ≺ signed t (over b v))
unfolding over opposite
less false false a u b v = (λ h. omega (arith, ltb→lt (a * v) (b * u) h), λ h. lt→ltb (a * v) (b * u) (omega arith))
less false true a u b v = (λ h. absurd h, λ h. omega arith)
less true false a u b v = (λ h. omega (arith, ltb→lt 0 (a * v + b * u) h), λ h. lt→ltb 0 (a * v + b * u) (omega arith))
less true true a u b v = (λ h. omega (arith, ltb→lt (b * u) (a * v) h), λ h. lt→ltb (b * u) (a * v) (omega arith))

pub lt-≺ : (x y : Float) → T (finite x) → T (finite y) → T (lt x y) ↔ (exactly x ≺ exactly y)
unfolding lt exactly
lt-≺ (fin s m e) (fin t n d) p q = less s t (m * up e) (down e) (n * up d) (down d)
lt-≺ nan y p q = elim p [ ]
lt-≺ (inf _) y p q = elim p [ ]
lt-≺ (fin s m e) nan p q = elim q [ ]
lt-≺ (fin s m e) (inf _) p q = elim q [ ]

equal : (x y : ℕ) → x ≡ y → T (eqb x y)
equal x y e = rw (← e) (eqb_refl x)

one_sign : (x y : ℕ) → T (eqb x y && true) ↔ (x ≡ y)
one_sign x y = rw (and-true (eqb x y)) (eqb→eq x y, equal x y)

two_signs : (x y : ℕ) → T (eqb x y && eqb x 0) ↔ (x + y ≡ 0)
two_signs x y =
    (λ h. omega (arith, eqb→eq x y (and_l (eqb x y) (eqb x 0) h), eqb→eq x 0 (and_r (eqb x y) (eqb x 0) h)), λ e. and_i (eqb x y) (eqb x 0) (equal x y (omega arith)) (equal x 0 (omega arith)))

alike : (s t : Bool) (a u b v : ℕ) → T (level s (a * v) t (b * u)) ↔ (signed s (over a u) ≈ signed t (over b v))
unfolding over opposite
alike false false a u b v = (λ h. omega (arith, (one_sign (a * v) (b * u)).0 h), λ h. (one_sign (a * v) (b * u)).1 (omega arith))
alike false true a u b v = (λ h. omega (arith, (two_signs (a * v) (b * u)).0 h), λ h. (two_signs (a * v) (b * u)).1 (omega arith))
alike true false a u b v = (λ h. omega (arith, (two_signs (a * v) (b * u)).0 h), λ h. (two_signs (a * v) (b * u)).1 (omega arith))
alike true true a u b v = (λ h. omega (arith, (one_sign (a * v) (b * u)).0 h), λ h. (one_sign (a * v) (b * u)).1 (omega arith))

pub eq-≈ : (x y : Float) → T (finite x) → T (finite y) → T (eq x y) ↔ (exactly x ≈ exactly y)
unfolding eq exactly
eq-≈ (fin s m e) (fin t n d) p q = alike s t (m * up e) (down e) (n * up d) (down d)
eq-≈ nan y p q = elim p [ ]
eq-≈ (inf _) y p q = elim p [ ]
eq-≈ (fin s m e) nan p q = elim q [ ]
eq-≈ (fin s m e) (inf _) p q = elim q [ ]

either : (p q : Bool) → T (p || q) ↔ (T p ⊎ T q)
either true q = (λ h. inl tt, λ h. tt)
either false q = (λ h. inr h, λ h. elim h [ inl k ↦ absurd k | inr k ↦ k ])

pub le-≼ : (x y : Float) → T (finite x) → T (finite y) → T (le x y) ↔ (exactly x ≼ exactly y)
unfolding le
le-≼ x y p q = (
  λ h. elim ((either (lt x y) (eq x y)).0 h) [ inl k ↦ ≺→≼ ((lt-≺ x y p q).0 k) | inr k ↦ ≈→≼ ((eq-≈ x y p q).0 k) ],
  λ h. (either (lt x y) (eq x y)).1 (elim (≼-or-≺ (exactly y) (exactly x)) [ inl k ↦ inr ((eq-≈ x y p q).1 (≼-antisym h k)) | inr k ↦ inl ((lt-≺ x y p q).1 k) ]),
)

-- ---- how far a rounding goes

halves : (q l a c w : ℕ) → 0 < l → 0 < c → 2 * (q * c) ≤ 2 * (a * l) + c * w → 2 * (a * l) ≤ 2 * (q * c) + c * w → Within (over w (2 * l)) (over q l) (over a c)
unfolding over ◌⊞◌ opposite
halves q l a c w L C h k = record {
  left = record { above = L };
  right = record { above = C };
  not_above = record { holds = omega (arith, mul-le-mul_right l h) };
  not_below = record { holds = omega (arith, mul-le-mul_right l k) };
}

-- a / c, rounded with its sign and not to an infinity, is at most half a unit in the last place off: `near C (rounded f s a c C)`
pub near : {f : Format} {s : Bool} {a c : ℕ} → 0 < c → (r : Rounded f s a c) → r.steps < overflow f → Within (half_units f r.last) (exactly (round f s a c)) (signed s (over a c))
unfolding half_units
near {f} {s} {a} {c} C r h =
    within_same (exactly_proper (round f s a c)) (value (round f s a c) s r.steps (2 ^ low f) (r.under h))
    (within_signed s (halves r.steps (2 ^ low f) a c (2 ^ r.last) (pow_pos (low f)) C r.not_above r.not_below))

pub near_finite : {f : Format} {s : Bool} {a c : ℕ} → 0 < c → (r : Rounded f s a c) → T (finite (round f s a c)) → Within (half_units f r.last) (exactly (round f s a c)) (signed s (over a c))
near_finite {f} {s} {a} {c} C r t = elim (dec_lt r.steps (overflow f)) [ yes h ↦ near C r h | no h ↦ absurd (subst (λ (x : Float). T (finite x)) (r.over (omega arith)) t) ]
