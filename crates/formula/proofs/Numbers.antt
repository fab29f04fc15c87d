-- The laws of `≅`, the sameness of numbers, and of the inverse (specs/Term.antt). Assumes nothing.
use mathlib.Core.Path.{◌≡◌, sym, ap, ◌∙◌}
use Prim.Native.Nat.{ℕ, ◌+◌, ◌-◌, ◌*◌, ◌<◌}
use native.Mathlib.Nat.{add-sub_of_le, le_of_lt, sub-pos_iff_lt}
use native.Mathlib.Omega.{arith}
use native.Mathlib.Decide.{dec_lt}
use Rattle.exact.specs.Fraction.{Fraction, Proper, ◌≈◌, over, whole, ◌⊞◌, opposite, ◌⊠◌}
use Rattle.exact.proofs.Fractions.{whole_proper, ⊞-proper, opposite_proper, ⊠-proper, ≈-sym, ≈-refl, ≈-trans, ⊞-cong, opposite_cong, ⊠-cong, ⊠-comm, ⊠-assoc, ⊠-one, ⊠-⊞}
use Rattle.formula.specs.Term.{◌≅◌, inverse}

-- ---- an equivalence among numbers, which the operations keep

pub same : {a : Fraction} → Proper a → a ≅ a
same {a} p = record { left = p; right = p; same = ≈-refl a }

pub back : {a b : Fraction} → a ≅ b → b ≅ a
back h = record { left = h.right; right = h.left; same = ≈-sym h.same }

infixr 40 ◌then◌
pub ◌then◌ : {a b c : Fraction} → a ≅ b → b ≅ c → a ≅ c
h then k = record { left = h.left; right = k.right; same = ≈-trans h.right h.same k.same }

pub from : {a b : Fraction} → a ≡ b → Proper a → a ≅ b
from {a} e p = rw (← e) (same p)

pub sums : {a b c d : Fraction} → a ≅ b → c ≅ d → a ⊞ c ≅ b ⊞ d
sums h k = record { left = ⊞-proper h.left k.left; right = ⊞-proper h.right k.right; same = ⊞-cong h.same k.same }

pub opposites : {a b : Fraction} → a ≅ b → opposite a ≅ opposite b
opposites h = record { left = opposite_proper h.left; right = opposite_proper h.right; same = opposite_cong h.same }

factor : {a b : Fraction} (c : Fraction) → Proper c → a ≅ b → a ⊠ c ≅ b ⊠ c
factor c p h = record { left = ⊠-proper h.left p; right = ⊠-proper h.right p; same = ⊠-cong c h.same }

pub products : {a b c d : Fraction} → a ≅ b → c ≅ d → a ⊠ c ≅ b ⊠ d
products {a} {b} {c} {d} h k = factor c k.left h then rw (⊠-comm b c, ⊠-comm b d) (factor b h.right k)

-- ---- the product of sums

pub split : {a b c : Fraction} → Proper a → Proper b → Proper c → a ⊠ (b ⊞ c) ≅ a ⊠ b ⊞ a ⊠ c
split {a} {b} {c} p q r = record { left = ⊠-proper p (⊞-proper q r); right = ⊞-proper (⊠-proper p q) (⊠-proper p r); same = ⊠-⊞ a b c }

pub by_zero : {a : Fraction} → Proper a → whole 0 ⊠ a ≅ whole 0
unfolding ◌⊠◌ over
by_zero {a} p = record { left = ⊠-proper (whole_proper 0) p; right = whole_proper 0; same = omega arith }

-- ---- the inverse

-- (p - m)² in natural numbers
apart : {p m : ℕ} → p < m → 2 * (p * m) < p * p + m * m
apart h = rw (← add-sub_of_le h) (omega arith)

not_zero : {b : Fraction} → ¬ (b ≈ whole 0) → 2 * (b.plus * b.minus) < b.plus * b.plus + b.minus * b.minus
unfolding over
not_zero {b} n = elim (dec_lt b.plus b.minus) [ yes h ↦ apart h | no h ↦ elim (dec_lt b.minus b.plus) [ yes k ↦ omega (arith, apart k) | no k ↦ absurd (n (omega arith)) ] ]

pub inverse_proper : {b : Fraction} → ¬ (b ≈ whole 0) → Proper (inverse b)
unfolding inverse
inverse_proper n = record { above = sub-pos_iff_lt.1 (not_zero n) }

cancels : (p m u s : ℕ) → 2 * (p * m) + s ≡ p * p + m * m → p * (p * u) + m * (m * u) ≡ u * s + (p * (m * u) + m * (p * u))
cancels p m u s e = omega (arith, ap (λ (z : ℕ). u * z) e)

held : {b : Fraction} → ¬ (b ≈ whole 0) → b ⊠ inverse b ≈ whole 1
unfolding inverse ◌⊠◌ over
held {b} n = record { holds = omega (arith, cancels b.plus b.minus b.under (b.plus * b.plus + b.minus * b.minus - 2 * (b.plus * b.minus)) (add-sub_of_le (le_of_lt (not_zero n)))) }

pub inverted : {b : Fraction} → Proper b → ¬ (b ≈ whole 0) → b ⊠ inverse b ≅ whole 1
inverted p n = record { left = ⊠-proper p (inverse_proper n); right = whole_proper 1; same = held n }

-- two inverses of one number are the same
pub unique : {a b i j : Fraction} → a ≅ b → Proper i → a ⊠ i ≅ whole 1 → b ⊠ j ≅ whole 1 → Proper j → i ≅ j
unique {a} {b} {i} {j} h p k l q =
    from (sym (⊠-one i)) p then products (same p) (back l) then from (sym (⊠-assoc i b j)) (⊠-proper p l.left)
    then products (rw (⊠-comm i b) (products (back h) (same p) then k)) (same q) then from (⊠-comm (whole 1) j ∙ ⊠-one j) (⊠-proper (whole_proper 1) q)
