-- How fast A grows from 0 on: at most four times as fast as x, and 2 * 2 ^ -60 more (`growth`). Its pieces meet at 2/5, 1 and 5/2.
-- At 2/5 they are at most 2 ^ -60 apart, so up to 1 it is that much more (`up_growth`); at 5/2 the same again; at 1 they are the same number. Assumes nothing.
use Rattle.std.proofs.Common.{◌≡◌, ℕ, ◌+◌, ◌*◌, ◌^◌, ◌≤◌, ◌⊎◌, inl, inr, add-zero, mul-le-mul_right, one-mul, mul-zero, zero-add, zero-mul, arith, lit≤, pow_pos}
use Rattle.exact.specs.Fraction.{Fraction, Proper, Within, over, whole, opposite, power, ◌≼◌, ◌≺◌, ◌≈◌, ◌⊞◌, ◌⊟◌, ◌⊠◌, ◌⧄◌}
use Rattle.exact.proofs.Fractions.{over_proper, whole_proper, ⊞-proper, ⊟-proper, ⊠-proper, ≼_refl, ≼_trans, ≺→≼, ≺-≼-trans, ≺-not-≼, ≼-or-≺, ≈→≼, ≈-sym, ≈-≼, ≼-≈, ≈-trans, ⊞-assoc, ⊞-left-comm, ⊞-mono, ⊞-cong, opposite_cong, ⊟-⊠, ⊠-mono, ⊠-comm, ⊠-assoc, ⊠-one, ⧄-⊠, ⊠-not-negative, over-≼, over-⊞, within_sym, within_wider, within_trans}
use Rattle.arctan.specs.Series.{G, P, A, up_to_one, sum, term}
use Rattle.arctan.proofs.Horner.{rest_low, part, one-⊠}
use Rattle.arctan.proofs.Rise.{slope, ⊠-cong-right, G_proper, within_rest}
use Rattle.arctan.proofs.Cases.{up_low, up_mid, A_up, A_past, P_proper, quotient_low, quotient_high, quotient_proper, above_one, inverse_low, inverse_one, inverse_proper}

-- ---- two that are in order

-- they are as far apart as their difference says
apart : {a b : Fraction} → Proper a → Proper b → a ≼ b → Within (b ⊟ a) a b
unfolding ◌⊞◌ opposite
apart {a} {b} pa pb h = record { left = pa; right = pb; not_above = record { holds = omega (arith, mul-le-mul_right (a.under * b.under) h.holds) }; not_below = ≼_refl (b ⊟ a) }

-- rest-low, the other way round
in_order : {a b : Fraction} → whole 0 ≼ b ⊟ a → a ≼ b
unfolding over ◌⊞◌ opposite
in_order h = omega arith

-- ---- x / a - y / b is (x b - y a) / (a b): for a and b from 1 on, no more than x b - y a

-- to divide is to multiply by the inverse
by_inverse : (x a : Fraction) → x ⧄ a ≡ x ⊠ (whole 1 ⧄ a)
unfolding over ◌⊠◌ ◌⧄◌
by_inverse x a = simp (one-mul, zero-mul, mul-zero, add-zero, zero-add)

pairs : (x b i j : Fraction) → x ⊠ b ⊠ (i ⊠ j) ≡ x ⊠ i ⊠ (j ⊠ b)
pairs x b i j = rw (⊠-assoc x b, ← ⊠-assoc b i j, ⊠-comm (b ⊠ i) j, ← ⊠-assoc j b i, ⊠-comm (j ⊠ b) i, ← ⊠-assoc x i (j ⊠ b))

-- x / a is x b / (a b)
brought : (x a : Fraction) {b : Fraction} → whole 0 ≺ b → x ⧄ a ≈ x ⊠ b ⊠ (whole 1 ⧄ a ⊠ (whole 1 ⧄ b))
brought x a {b} h =
    let i = whole 1 ⧄ a in
    rw (by_inverse x a, pairs x b i (whole 1 ⧄ b)) (≈-sym (rw ⊠-one at (⊠-cong-right {b = whole 1} (x ⊠ i) (⧄-⊠ h))))

module _ {x y a b : Fraction} (px : Proper x) (py : Proper y) (pa : Proper a) (pb : Proper b) (ha : whole 1 ≼ a) (hb : whole 1 ≼ b) (h : y ⊠ a ≼ x ⊠ b) where
  inverses_proper : Proper (whole 1 ⧄ a ⊠ (whole 1 ⧄ b))
  inverses_proper = ⊠-proper (inverse_proper pa ha) (inverse_proper pb hb)

  difference : x ⧄ a ⊟ y ⧄ b ≈ (x ⊠ b ⊟ y ⊠ a) ⊠ (whole 1 ⧄ a ⊠ (whole 1 ⧄ b))
  difference =
      let k = above_one pa ha in
      let l = above_one pb hb in
      ≈-trans (⊟-proper (⊠-proper (⊠-proper px pb) inverses_proper) (⊠-proper (⊠-proper py pa) inverses_proper))
      (⊞-cong (brought x a l) (opposite_cong (rw (⊠-comm (whole 1 ⧄ a) (whole 1 ⧄ b)) (brought y b k)))) (≈-sym (⊟-⊠ (x ⊠ b) (y ⊠ a) (whole 1 ⧄ a ⊠ (whole 1 ⧄ b))))

  difference_proper : Proper ((x ⊠ b ⊟ y ⊠ a) ⊠ (whole 1 ⧄ a ⊠ (whole 1 ⧄ b)))
  difference_proper = ⊠-proper (⊟-proper (⊠-proper px pb) (⊠-proper py pa)) inverses_proper

  quotients_fall : y ⧄ b ≼ x ⧄ a
  quotients_fall = in_order (≼-≈ difference_proper (⊠-not-negative (rest_low h) (⊠-not-negative (inverse_low pa ha) (inverse_low pb hb))) (≈-sym difference))

  quotients_near : x ⧄ a ⊟ y ⧄ b ≼ x ⊠ b ⊟ y ⊠ a
  quotients_near =
      let one = ≼_trans (inverse_proper pb hb) (part (inverse_low pb hb) (inverse_one pa ha)) (inverse_one pb hb) in
      ≈-≼ difference_proper difference (rw (⊠-comm (x ⊠ b ⊟ y ⊠ a) (whole 1 ⧄ a ⊠ (whole 1 ⧄ b))) (part (rest_low h) one))

-- ---- 1 / x, for x from 1 on

module _ {a b : Fraction} (pa : Proper a) (pb : Proper b) (l : whole 1 ≼ a) (h : a ≼ b) where
  inverse_falls : whole 1 ⧄ b ≼ whole 1 ⧄ a
  inverse_falls = quotients_fall (whole_proper 1) (whole_proper 1) pa pb l (≼_trans pa l h) (rw (one-⊠ a, one-⊠ b) h)

  inverse_near : whole 1 ⧄ a ⊟ whole 1 ⧄ b ≼ b ⊟ a
  inverse_near = rw (one-⊠ a, one-⊠ b) at (quotients_near (whole_proper 1) (whole_proper 1) pa pb l (≼_trans pa l h) (rw (one-⊠ a, one-⊠ b) h))

-- ---- q(x) = (1 - x) / (1 + x), for x from 0 on

abbrev pub q : Fraction → Fraction
q x = (whole 1 ⊟ x) ⧄ (whole 1 ⊞ x)

one_on : {x : Fraction} → whole 0 ≼ x → whole 1 ≼ whole 1 ⊞ x
unfolding over ◌⊞◌
one_on h = omega arith

crosswise : {a b : Fraction} → a ≼ b → (whole 1 ⊟ b) ⊠ (whole 1 ⊞ a) ≼ (whole 1 ⊟ a) ⊠ (whole 1 ⊞ b)
unfolding over ◌⊞◌ opposite ◌⊠◌
crosswise {a} {b} h = record { holds = omega (arith, mul-le-mul_right (a.under * b.under) h.holds) }

crosswise_gap : (a b : Fraction) → (whole 1 ⊟ a) ⊠ (whole 1 ⊞ b) ⊟ (whole 1 ⊟ b) ⊠ (whole 1 ⊞ a) ≈ whole 2 ⊠ (b ⊟ a)
unfolding over ◌⊞◌ opposite ◌⊠◌
crosswise_gap a b = omega arith

module _ {a b : Fraction} (pa : Proper a) (pb : Proper b) (l : whole 0 ≼ a) (h : a ≼ b) where
  q_falls : q b ≼ q a
  q_falls =
      let o = whole_proper 1 in
      quotients_fall (⊟-proper o pa) (⊟-proper o pb) (⊞-proper o pa) (⊞-proper o pb) (one_on l) (one_on (≼_trans pa l h)) (crosswise h)

  q_near : q a ⊟ q b ≼ whole 2 ⊠ (b ⊟ a)
  q_near =
      let o = whole_proper 1 in
      ≼-≈ (⊟-proper (⊠-proper (⊟-proper o pa) (⊞-proper o pb)) (⊠-proper (⊟-proper o pb) (⊞-proper o pa)))
      (quotients_near (⊟-proper o pa) (⊟-proper o pb) (⊞-proper o pa) (⊞-proper o pb) (one_on l) (one_on (≼_trans pa l h)) (crosswise h)) (crosswise_gap a b)

-- ---- how far apart what A gives at a and at b may be: 4 (b - a), and n units of 2 ^ -60

abbrev pub reach : ℕ → Fraction → Fraction → Fraction
reach n a b = whole 4 ⊠ (b ⊟ a) ⊞ over n (2 ^ 60)

pub reach_proper : (n : ℕ) {a b : Fraction} → Proper a → Proper b → Proper (reach n a b)
reach_proper n pa pb = ⊞-proper (⊠-proper (whole_proper 4) (⊟-proper pb pa)) (over_proper n (2 ^ 60) (pow_pos 60))

-- through a point between, the gaps add up and so do the units (`joined`)
add_up : (a b c : Fraction) → whole 4 ⊠ (b ⊟ a) ⊞ whole 4 ⊠ (c ⊟ b) ≈ whole 4 ⊠ (c ⊟ a)
unfolding over ◌⊞◌ opposite ◌⊠◌
add_up a b c = omega arith

regroup : (a b c d : Fraction) → a ⊞ b ⊞ (c ⊞ d) ≡ a ⊞ c ⊞ (b ⊞ d)
regroup a b c d = simp (⊞-assoc, ⊞-left-comm)

joined : (m n : ℕ) {a b c x y z : Fraction} → Proper a → Proper b → Proper c → Within (reach m a b) x y → Within (reach n b c) y z → Within (reach (m + n) a c) x z
joined m n {a} {b} {c} pa pb pc v w =
    within_wider (⊞-proper (reach_proper m pa pb) (reach_proper n pb pc))
    (rw regroup (≈→≼ (⊞-cong (add_up a b c) (over-⊞ m n (2 ^ 60))))) (within_trans v w)

-- a wider gap, and more units
wider : {m n : ℕ} {a b x y : Fraction} (c d : Fraction) → Proper a → Proper b → b ⊟ a ≼ d ⊟ c → m ≤ n → Within (reach m a b) x y → Within (reach n c d) x y
wider {m} {n} {a} {b} c d pa pb h k w =
    within_wider (reach_proper m pa pb)
    (⊞-mono (rw (⊠-comm (whole 4) (b ⊟ a), ⊠-comm (whole 4) (d ⊟ c)) (⊠-mono ((over-≼ 0 1 4 1).1 (omega arith)) h)) ((over-≼ m (2 ^ 60) n (2 ^ 60)).1 (mul-le-mul_right (2 ^ 60) k))) w

more : {m n : ℕ} {a b x y : Fraction} → Proper a → Proper b → m ≤ n → Within (reach m a b) x y → Within (reach n a b) x y
more {a = a} {b} pa pb k w = wider a b pa pb (≼_refl (b ⊟ a)) k w

-- at one point there are the units alone
still : (a : Fraction) (n d : ℕ) → over n d ≼ whole 4 ⊠ (a ⊟ a) ⊞ over n d
unfolding over ◌⊞◌ opposite ◌⊠◌
still a n d = omega arith

seam : (n : ℕ) (a : Fraction) {x y : Fraction} → Within (over n (2 ^ 60)) x y → Within (reach n a a) x y
seam n a w = within_wider (over_proper n (2 ^ 60) (pow_pos 60)) (still a n (2 ^ 60)) w

-- ---- G, for a and b in 0..1/2 that are at most twice as far apart as c and d

twice : (z : Fraction) (d : ℕ) → whole 2 ⊠ z ⊞ whole 2 ⊠ z ≼ whole 4 ⊠ z ⊞ over 0 d
unfolding over ◌⊞◌ ◌⊠◌
twice z d = omega arith

G_growth : {a b c d : Fraction} → Proper a → Proper b → Proper c → Proper d → whole 0 ≼ a → a ≼ b → b ≼ over 1 2 → b ⊟ a ≼ whole 2 ⊠ (d ⊟ c) → Within (reach 0 c d) (G a) (G b)
G_growth {a} {b} {c} {d} pa pb pc pd l h k g =
    let z = ⊠-proper (whole_proper 2) (⊟-proper pd pc) in
    within_wider (⊞-proper z z) (twice (d ⊟ c) (2 ^ 60))
    (slope pa l (≼_trans pb h k) pb (≼_trans pa l h) k z (within_wider (⊟-proper pb pa) g (apart pa pb h)))

-- up to 2/5 A is G itself, and c and d are a and b
once : {z : Fraction} → whole 0 ≼ z → z ≼ whole 2 ⊠ z
unfolding over ◌⊠◌
once {z} h = record { holds = omega (arith, mul-le-mul_right z.under h.holds) }

low_growth : {a b : Fraction} → Proper a → Proper b → whole 0 ≼ a → a ≼ b → b ≼ over 2 5 → Within (reach 0 a b) (G a) (G b)
low_growth pa pb l h k = G_growth pa pb pa pb l h (≼_trans (over_proper 2 5 (lit≤ tt)) k ((over-≼ 2 5 1 2).1 (lit≤ tt))) (once (rest_low h))

-- ---- P - G(q(x)), from 2/5 to 1: q is at most twice as far apart, and lies in 0..1/2

abbrev pub middle : Fraction → Fraction
middle x = P ⊟ G (q x)

thirds : {x : Fraction} → over 2 5 ≼ x → over 1 3 ≼ x
thirds h = ≼_trans (over_proper 2 5 (lit≤ tt)) ((over-≼ 1 3 2 5).1 (lit≤ tt)) h

fifths_low : {x : Fraction} → over 2 5 ≼ x → whole 0 ≼ x
fifths_low h = ≼_trans (over_proper 2 5 (lit≤ tt)) ((over-≼ 0 1 2 5).1 (lit≤ tt)) h

pub middle_proper : {x : Fraction} → Proper x → over 2 5 ≼ x → Proper (middle x)
middle_proper px l = ⊟-proper P_proper (G_proper (quotient_proper px (thirds l)))

middle_growth : {a b : Fraction} → Proper a → Proper b → over 2 5 ≼ a → a ≼ b → b ≼ whole 1 → Within (reach 0 a b) (middle a) (middle b)
middle_growth {a} {b} pa pb l h k =
    let m = ≼_trans pa l h in
    within_sym (within_rest P_proper (G_growth (quotient_proper pb (thirds m)) (quotient_proper pa (thirds l)) pa pb
    (quotient_low pb (thirds m) k) (q_falls pa pb (fifths_low l) h) (quotient_high pa (thirds l)) (q_near pa pb (fifths_low l) h)))

-- ---- A up to 1, with the seam at 2/5

two_fifths : Within (over 1 (2 ^ 60)) (G (over 2 5)) (middle (over 2 5))
unfolding P G sum term power over ◌⊞◌ ◌⊠◌ ◌⧄◌ opposite
two_fifths = record { left = G_proper (over_proper 2 5 (lit≤ tt)); right = middle_proper (over_proper 2 5 (lit≤ tt)) (≼_refl (over 2 5)); not_above = record { holds = lit≤ tt }; not_below = record { holds = lit≤ tt } }

pub past_fifths : {a b : Fraction} → Proper a → Proper b → whole 0 ≼ a → a ≼ over 2 5 → over 2 5 ≼ b → b ≼ whole 1 → Within (reach 1 a b) (G a) (middle b)
past_fifths pa pb l h k m =
    let c = over_proper 2 5 (lit≤ tt) in
    joined 0 1 pa c pb (low_growth pa c l h (≼_refl (over 2 5)))
    (joined 1 0 c c pb (seam 1 (over 2 5) two_fifths) (middle_growth c pb (≼_refl (over 2 5)) k m))

pub up_growth : {a b : Fraction} → Proper a → Proper b → whole 0 ≼ a → a ≼ b → b ≼ whole 1 → Within (whole 4 ⊠ (b ⊟ a) ⊞ over 1 (2 ^ 60)) (up_to_one a) (up_to_one b)
up_growth {a} {b} pa pb l h k = of (≼-or-≺ a (over 2 5)) (≼-or-≺ b (over 2 5))
  where
    of : (a ≼ over 2 5) ⊎ (over 2 5 ≺ a) → (b ≼ over 2 5) ⊎ (over 2 5 ≺ b) → Within (reach 1 a b) (up_to_one a) (up_to_one b)
    of (inl m) (inl n) = rw (up_low m, up_low n) (more pa pb (lit≤ tt) (low_growth pa pb l h n))
    of (inl m) (inr n) = rw (up_low m, up_mid n) (past_fifths pa pb l m (≺→≼ n) k)
    of (inr m) (inl n) = absurd (≺-not-≼ (≺-≼-trans pb m h) n)
    of (inr m) (inr n) = rw (up_mid m, up_mid n) (more pa pb (lit≤ tt) (middle_growth pa pb (≺→≼ m) h k))

-- ---- A from 1 on: 2P - A(1/x)

abbrev pub mirror : Fraction → Fraction
mirror x = P ⊞ P ⊟ up_to_one (whole 1 ⧄ x)

high_growth : {a b : Fraction} → Proper a → Proper b → whole 1 ≼ a → a ≼ b → Within (reach 1 a b) (mirror a) (mirror b)
high_growth {a} {b} pa pb l h =
    let m = ≼_trans pa l h in
    let ia = inverse_proper pa l in
    let ib = inverse_proper pb m in
    within_sym (within_rest (⊞-proper P_proper P_proper) (wider a b ib ia (inverse_near pa pb l h) (lit≤ tt) (up_growth ib ia (inverse_low pb m) (inverse_falls pa pb l h) (inverse_one pa l))))

-- A is proper: its denominator is above 0
pub up_proper : {x : Fraction} → Proper x → x ≼ whole 1 → Proper (up_to_one x)
up_proper {x} px h = elim (≼-or-≺ x (over 2 5)) [ inl k ↦ rw (up_low k) (G_proper px) | inr k ↦ rw (up_mid k) (middle_proper px (≺→≼ k)) ]

pub A_proper : {x : Fraction} → Proper x → Proper (A x)
A_proper {x} px = elim (≼-or-≺ x (whole 1)) [
  | inl h ↦ rw (A_up h) (up_proper px h)
  | inr h ↦ rw (A_past h) (⊟-proper (⊞-proper P_proper P_proper) (up_proper (inverse_proper px (≺→≼ h)) (inverse_one px (≺→≼ h))))
]

-- ---- the seam at 1: G(q(1)) is 0, so both sides are P

at_one : Within (over 0 (2 ^ 60)) (up_to_one (whole 1)) (mirror (whole 1))
unfolding up_to_one P G sum term power over ◌⊞◌ ◌⊠◌ ◌⧄◌ opposite
at_one = record { left = record { above = lit≤ tt }; right = record { above = lit≤ tt }; not_above = record { holds = lit≤ tt }; not_below = record { holds = lit≤ tt } }

pub past_one : {a b : Fraction} → Proper a → Proper b → whole 0 ≼ a → a ≼ whole 1 → whole 1 ≼ b → Within (reach 2 a b) (up_to_one a) (mirror b)
past_one pa pb l h k =
    let o = whole_proper 1 in
    let e = ≼_refl (whole 1) in
    joined 1 1 pa o pb (up_growth pa o l h e)
    (joined 0 1 o o pb (seam 0 (whole 1) at_one) (high_growth o pb e k))

pub growth : {a b : Fraction} → Proper a → Proper b → whole 0 ≼ a → a ≼ b → Within (whole 4 ⊠ (b ⊟ a) ⊞ over 2 (2 ^ 60)) (A a) (A b)
growth {a} {b} pa pb l h = of (≼-or-≺ a (whole 1)) (≼-or-≺ b (whole 1))
  where
    of : (a ≼ whole 1) ⊎ (whole 1 ≺ a) → (b ≼ whole 1) ⊎ (whole 1 ≺ b) → Within (reach 2 a b) (A a) (A b)
    of (inl m) (inl n) = rw (A_up m, A_up n) (more pa pb (lit≤ tt) (up_growth pa pb l h n))
    of (inl m) (inr n) = rw (A_up m, A_past n) (past_one pa pb l m (≺→≼ n))
    of (inr m) (inl n) = absurd (≺-not-≼ (≺-≼-trans pb m h) n)
    of (inr m) (inr n) = rw (A_past m, A_past n) (more pa pb (lit≤ tt) (high_growth pa pb (≺→≼ m) h))
