-- How G bends: for w and w + d in 0..1/2 it rises by d / (1 + w^2), at most 45/32 d^2 and 2 ^ -48 d off (`rise`). So it never falls (`monotone`).
-- Level by level (`levels`): H at w + d is H at w less d times its slope `bend`, at most 5/4 d^2 off; and G's slope times 1 + w^2 is 1 but for w^48 (`slope_one`). Assumes nothing.
use Rattle.std.proofs.Common.{◌≡◌, ℕ, zero, suc, ◌+◌, ◌-◌, ◌*◌, ◌^◌, ◌<◌, ◌≤◌, refl, mul-le-mul_right, mul_assoc, mul-pos, pow-suc, le_of_mul-le-mul_right, arith, lit≤, pow_pos}
use native.Mathlib.Nat.{one-le-pow}
use Rattle.exact.specs.Fraction.{Fraction, Proper, Within, over, whole, opposite, power, ◌≼◌, ◌≺◌, ◌≈◌, ◌⊞◌, ◌⊟◌, ◌⊠◌}
use Rattle.exact.proofs.Fractions.{over_proper, whole_proper, ⊞-proper, opposite_proper, ⊟-proper, ⊠-proper, power_proper, ≼_refl, ≼_trans, ≺-≼-trans, ≈-≼, ≼-≈, ≈→≼, ≈-sym, ≈-refl, ≈-trans, ≡→≈, ⊞-comm, ⊞-assoc, ⊞-left-comm, ⊞-zero, ⊞-mono, ⊞-cong, opposite_opposite, opposite-⊞, opposite_cong, move, ⊠-comm, ⊠-assoc, ⊠-one, ⊠-⊞, ⊞-⊠, ⊟-⊠, ⊠-mono, ⊠-cong, ⊠-not-negative, over-≼, over-⊠, within_sym, within_refl, within_wider, within_trans, within_same, within_to, within_opposite, within-⊞, within-⊠}
use Rattle.arctan.specs.Series.{terms, G}
use Rattle.arctan.proofs.Horner.{odd, H, odd_proper, H_proper, zero-⊞, one-⊠, rest_low, rest_high, part}
use Rattle.arctan.proofs.Rise.{In, 1/2, wider, within_scale, two_halves as halves-whole, take_nothing, level, square, ⊠-cong-right, ⊠-zero, G_proper, nested, within_rest}

abbrev 1/4 : Fraction
1/4 = over 1 4

abbrev 1/3 : Fraction
1/3 = over 1 3

-- ---- laws of fractions

quarters : 1/2 ⊠ 1/2 ≼ 1/4
unfolding over ◌⊠◌
quarters = record { holds = lit≤ tt }

square_quarter : {x : Fraction} → In 1/2 x → In 1/4 (x ⊠ x)
square_quarter {x} X = record {
  proper = ⊠-proper X.proper X.proper;
  low = ⊠-not-negative X.low X.low;
  high = ≼_trans (⊠-proper (over_proper 1 2 (lit≤ tt)) X.proper) (⊠-mono X.low X.high)
      (rw (⊠-comm 1/2 x) (≼_trans (⊠-proper (over_proper 1 2 (lit≤ tt)) (over_proper 1 2 (lit≤ tt))) (⊠-mono ((over-≼ 0 1 1 2).1 (lit≤ tt)) X.high) quarters));
}

-- what lies in 0..m is at most m off 0
small : {m x : Fraction} → In m x → Within m x (whole 0)
unfolding over ◌⊞◌ opposite
small {m} {x} X = record {
  left = X.proper;
  right = whole_proper 0;
  not_above = ≼_trans X.proper (record { holds = omega arith }) X.high;
  not_below = ≼_trans (whole_proper 0) (record { holds = omega (arith, X.low.holds) }) (≼_trans X.proper X.low X.high);
}

-- a and d more
pub no_less : (a : Fraction) {d : Fraction} → whole 0 ≼ d → a ≼ a ⊞ d
no_less a h = rw ⊞-zero at (⊞-mono (≼_refl a) h)

more : {a d : Fraction} → Proper a → Proper d → whole 0 ≼ d → Within d (a ⊞ d) a
more {a} {d} A D h = record {
  left = ⊞-proper A D;
  right = A;
  not_above = (move (a ⊞ d) a d).1 (≼_refl (a ⊞ d));
  not_below = (move a (a ⊞ d) d).1 (≼_trans (⊞-proper A D) (no_less a h) (no_less (a ⊞ d) h));
}

-- (w + d)^2
square_of : {w d : Fraction} → Proper w → Proper d → (w ⊞ d) ⊠ (w ⊞ d) ≈ w ⊠ w ⊞ (w ⊞ (w ⊞ d)) ⊠ d
square_of {w} {d} W D =
    let x = w ⊞ d in
    let X = ⊞-proper W D in
    let parts = ≈-trans (⊞-proper (⊠-proper W X) (⊠-proper D X)) (⊞-⊠ w d x) (⊞-cong (⊠-⊞ w w d) (≈-refl (d ⊠ x))) in
    ≈-trans (⊞-proper (⊞-proper (⊠-proper W W) (⊠-proper W D)) (⊠-proper D X)) parts
    (rw (⊞-assoc, ⊠-comm d x) (⊞-cong (≈-refl (w ⊠ w)) (≈-sym (⊞-⊠ w x d))))

-- (A - B) + C is A + (C - B)
swapped : (a b c : Fraction) → a ⊟ b ⊞ c ≡ a ⊞ (c ⊟ b)
swapped a b c = rw (⊞-assoc, ⊞-comm (opposite b) c)

less_both : (c a b : Fraction) → c ⊟ (a ⊞ b) ≡ c ⊟ a ⊟ b
less_both c a b = rw (opposite-⊞, ← ⊞-assoc)

-- y (h - t) is y h - y t
⊠-⊟ : (y h t : Fraction) → y ⊠ (h ⊟ t) ≈ y ⊠ h ⊟ y ⊠ t
⊠-⊟ y h t = rw (⊠-comm y (h ⊟ t), ⊠-comm y h, ⊠-comm y t) (⊟-⊠ h t y)

-- a factor above 0 leaves the sign
pub cancel : {b v : Fraction} → whole 0 ≺ v → whole 0 ≼ b ⊠ v → whole 0 ≼ b
unfolding over ◌⊠◌
cancel {b} {v} h k = record { holds = omega (arith, go b.plus b.minus v.plus v.minus (omega (arith, h.holds)) (omega (arith, k.holds))) }
  where
    go : (p m q n : ℕ) → n < q → p * n + m * q ≤ p * q + m * n → m ≤ p
    go p m q n h k =
        let e : n + (q - n) ≡ q = omega arith in
        let f : p * n + m * (n + (q - n)) ≤ p * (n + (q - n)) + m * n = rw e k in
        le_of_mul-le-mul_right {k = q - n} (omega (arith, f)) (omega arith)

-- what a is more than b, if no more than a, leaves b not negative
left_over : {a b : Fraction} → Proper a → a ⊟ b ≼ a → whole 0 ≼ b
unfolding over ◌⊞◌ opposite
left_over {a} {b} A h =
    let l : b.minus ≤ b.plus = le_of_mul-le-mul_right {k = a.under * a.under} (omega (arith, h.holds)) (mul-pos A.above A.above) in
    record { holds = omega arith }

in_d : {d : Fraction} → whole 0 ≼ d → over 45 32 ⊠ (1/2 ⊠ d) ⊞ over 1 (2 ^ 48) ⊠ d ≼ d
unfolding over ◌⊞◌ ◌⊠◌
in_d {d} h = record { holds = omega (arith, mul-le-mul_right (d.under * d.under) h.holds) }

-- rest-low, the other way round
pub in_order : {a b : Fraction} → whole 0 ≼ b ⊟ a → a ≼ b
unfolding over ◌⊞◌ opposite
in_order h = omega arith

-- ---- the slope of a level, turned round

unfoldable bend : ℕ → ℕ → Fraction → Fraction
bend zero k w = whole 0
bend (suc n) k w = (w ⊞ w) ⊠ H n (suc k) (w ⊠ w) ⊟ w ⊠ w ⊠ bend n (suc k) w

bend_proper : (n k : ℕ) {w : Fraction} → Proper w → Proper (bend n k w)
unfolding bend
bend_proper zero k W = whole_proper 0
bend_proper (suc n) k W = ⊟-proper (⊠-proper (⊞-proper W W) (H_proper n (suc k) (⊠-proper W W))) (⊠-proper (⊠-proper W W) (bend_proper n (suc k) W))

-- 1/3 and a quarter of 1/2
third_and_eighth : 1/3 ⊞ 1/2 ⊠ 1/4 ≼ 1/2
unfolding over ◌⊞◌ ◌⊠◌
third_and_eighth = record { holds = lit≤ tt }

nothing_left : whole 0 ⊟ whole 0 ≈ whole 0
unfolding over ◌⊞◌ opposite
nothing_left = record { holds = refl }

two_halves : {w : Fraction} → In 1/2 w → In (whole 1) (w ⊞ w)
two_halves W = record {
  proper = ⊞-proper W.proper W.proper;
  low = ≼_trans W.proper W.low (no_less _ W.low);
  high = ≼_trans (⊞-proper (over_proper 1 2 (lit≤ tt)) (over_proper 1 2 (lit≤ tt))) (⊞-mono W.high W.high) (unfold over ◌⊞◌ in record { holds = lit≤ tt });
}

-- a level below, as `level` but 1/3 for all
third : (n k : ℕ) {w : Fraction} → In 1/2 w → In 1/3 (H n (suc k) (w ⊠ w))
third n k W = wider (odd_proper (suc k)) ((over-≼ 1 (2 * suc k + 1) 1 3).1 (omega arith)) (level n (suc k) (square W))

a_part : {m a b : Fraction} → In (whole 1) a → In m b → In m (a ⊠ b)
a_part A B = record {
  proper = ⊠-proper A.proper B.proper;
  low = ⊠-not-negative A.low B.low;
  high = ≼_trans B.proper (part B.low A.high) B.high;
}

bend_half : (n k : ℕ) {w : Fraction} → In 1/2 w → Within 1/2 (bend n k w) (whole 0)
unfolding bend
bend_half zero k W = within_refl (whole_proper 0) ((over-≼ 0 1 1 2).1 (lit≤ tt))
bend_half (suc n) k {w} W =
    let y = w ⊠ w in
    let t = bend n (suc k) w in
    let half = over_proper 1 2 (lit≤ tt) in
    let a = small (a_part (two_halves W) (third n k W)) in
    let b = within_scale half (square_quarter W) (bend_half n (suc k) W) in
    let b' = within_to (whole_proper 0) (rw (⊠-comm (whole 0) y) (⊠-zero y)) b in
    within_wider (⊞-proper (over_proper 1 3 (lit≤ tt)) (⊠-proper half (over_proper 1 4 (lit≤ tt)))) third_and_eighth
    (rw (⊠-comm t y) at (within_to (whole_proper 0) nothing_left (within-⊞ a (within_opposite b'))))

-- ---- from w to w + d

off_half : {t d : Fraction} (h : Fraction) → Proper h → Proper d → whole 0 ≼ d → Within 1/2 t (whole 0) → Within (1/2 ⊠ d) (h ⊟ t ⊠ d) h
off_half {t} {d} h P D l b = within_to P (rw (⊠-comm (whole 0) d) (take_nothing h d)) (within_rest P (within-⊠ D l b))

-- a half and a third of d
five_sixths : (d : Fraction) → 1/2 ⊠ d ⊞ d ⊠ 1/3 ≼ over 5 6 ⊠ d
unfolding over ◌⊞◌ ◌⊠◌
five_sixths d = omega arith

level_error : {q : Fraction} → whole 0 ≼ q → over 5 4 ⊠ q ⊠ 1/4 ⊞ over 5 6 ⊠ q ≼ over 5 4 ⊠ q
unfolding over ◌⊞◌ ◌⊠◌
level_error {q} h = record { holds = omega (arith, mul-le-mul_right (q.under * q.under) h.holds) }

error_half : (q : Fraction) → over 5 4 ⊠ q ⊠ 1/2 ⊞ 1/2 ⊠ q ≼ over 9 8 ⊠ q
unfolding over ◌⊞◌ ◌⊠◌
error_half q = omega arith

module _ {w d : Fraction} (W : In 1/2 w) (D : In 1/2 d) (X : In 1/2 (w ⊞ d)) where
  abbrev x : Fraction
  x = w ⊞ d

  abbrev y : Fraction
  y = w ⊠ w

  abbrev z : Fraction
  z = x ⊠ x

  abbrev q : Fraction
  q = d ⊠ d

  pd : Proper d
  pd = D.proper

  pw : Proper w
  pw = W.proper

  py : Proper y
  py = ⊠-proper pw pw

  pz : Proper z
  pz = ⊠-proper X.proper X.proper

  q_proper : Proper q
  q_proper = ⊠-proper pd pd

  q_low : whole 0 ≼ q
  q_low = ⊠-not-negative D.low D.low

  -- w and w + d together
  both : In (whole 1) (w ⊞ x)
  both = record {
    proper = ⊞-proper pw X.proper;
    low = ≼_trans pw W.low (no_less w X.low);
    high = ≼_trans (⊞-proper (over_proper 1 2 (lit≤ tt)) (over_proper 1 2 (lit≤ tt))) (⊞-mono W.high X.high) (unfold over ◌⊞◌ in record { holds = lit≤ tt });
  }

  -- z (h - t d) is y (h - t d) and (w + x) (h - t d) d more
  multiplied : {g : Fraction} → Proper g → z ⊠ g ≈ y ⊠ g ⊞ (w ⊞ x) ⊠ g ⊠ d
  multiplied {g} P =
      let s = w ⊞ x in
      let e = ≈-trans (⊠-proper (⊞-proper py (⊠-proper both.proper pd)) P) (⊠-cong g (square_of pw pd)) (⊞-⊠ y (s ⊠ d) g) in
      rw (⊠-assoc s g d, ⊠-comm g d, ← ⊠-assoc s d g) e

  -- of which all but y h and the slope's part is at most 5/6 d^2
  gathered : {h t : Fraction} → In 1/3 h → Proper t → Within 1/2 t (whole 0)
      → Within (over 5 6 ⊠ q) (z ⊠ (h ⊟ t ⊠ d)) (y ⊠ h ⊞ ((w ⊞ w) ⊠ h ⊟ y ⊠ t) ⊠ d)
  gathered {h} {t} K T b =
      let s = w ⊞ x in
      let g = h ⊟ t ⊠ d in
      let ph = K.proper in
      let pg = ⊟-proper ph (⊠-proper T pd) in
      let ww = ⊞-proper pw pw in
      let first : Within (1/2 ⊠ d) (s ⊠ g) (s ⊠ h) =
      rw (⊠-comm g s, ⊠-comm h s, ⊠-one) at (within_scale (⊠-proper (over_proper 1 2 (lit≤ tt)) pd) both (off_half h ph pd D.low b)) in
      let second : Within (d ⊠ 1/3) (s ⊠ h) ((w ⊞ w) ⊠ h) = within_scale pd K (rw (⊞-assoc w w d) at (more ww pd D.low)) in
      let parts = within_wider (⊞-proper (⊠-proper (over_proper 1 2 (lit≤ tt)) pd) (⊠-proper pd (over_proper 1 3 (lit≤ tt)))) (five_sixths d) (within_trans first second) in
      let scaled = rw (⊠-assoc (over 5 6) d d) at (within-⊠ pd D.low parts) in
      let added = rw zero-⊞ at (within-⊞ (within_refl (⊠-proper py pg) (≼_refl (whole 0))) scaled) in
      let A = ⊠-proper py ph in
      let B = ⊠-proper (⊠-proper py T) pd in
      let C = ⊠-proper (⊠-proper ww ph) pd in
      let slope = ⊠-proper (⊟-proper (⊠-proper ww ph) (⊠-proper py T)) pd in
      let left : y ⊠ g ≈ y ⊠ h ⊟ y ⊠ t ⊠ d = rw (⊠-assoc y t d) (⊠-⊟ y h (t ⊠ d)) in
      let right : y ⊠ g ⊞ (w ⊞ w) ⊠ h ⊠ d ≈ y ⊠ h ⊞ ((w ⊞ w) ⊠ h ⊟ y ⊠ t) ⊠ d =
      ≈-trans (⊞-proper (⊟-proper A B) C) (⊞-cong left (≈-refl ((w ⊞ w) ⊠ h ⊠ d)))
      (rw (swapped (y ⊠ h) (y ⊠ t ⊠ d) ((w ⊞ w) ⊠ h ⊠ d)) (⊞-cong (≈-refl (y ⊠ h)) (≈-sym (⊟-⊠ ((w ⊞ w) ⊠ h) (y ⊠ t) d)))) in
      within_to (⊞-proper A slope) right (within_same (⊠-proper pz pg) (multiplied pg) added)

  levels : (n k : ℕ) → Within (over 5 4 ⊠ q) (H n k z) (H n k y ⊟ bend n k w ⊠ d)
  unfolding H bend
  levels zero k =
      let none : whole 0 ≈ whole 0 ⊟ whole 0 ⊠ d = rw (⊠-comm (whole 0) d) (≈-sym (take_nothing (whole 0) d)) in
      within_to (⊟-proper (whole_proper 0) (⊠-proper (whole_proper 0) pd)) none (within_refl (whole_proper 0) (⊠-not-negative ((over-≼ 0 1 5 4).1 (lit≤ tt)) q_low))
  levels (suc n) k =
      let h = H n (suc k) y in
      let t = bend n (suc k) w in
      let g = h ⊟ t ⊠ d in
      let hx = H n (suc k) z in
      let T = bend_proper n (suc k) pw in
      let error = ⊠-proper (over_proper 5 4 (lit≤ tt)) q_proper in
      let here = rw (⊠-comm hx z, ⊠-comm g z) at (within_scale error (square_quarter X) (levels n (suc k))) in
      let all = within_wider (⊞-proper (⊠-proper error (over_proper 1 4 (lit≤ tt))) (⊠-proper (over_proper 5 6 (lit≤ tt)) q_proper)) (level_error q_low)
      (within_trans here (gathered (third n k W) T (bend_half n (suc k) W))) in
      rw less_both at (within_rest (odd_proper k) all)

  -- G's slope
  abbrev slope : Fraction
  slope = H terms 0 y ⊟ w ⊠ bend terms 0 w

  slope_proper : Proper slope
  slope_proper = ⊟-proper (H_proper terms 0 py) (⊠-proper pw (bend_proper terms 0 pw))

  bent : Within (over 9 8 ⊠ q) (G x) (G w ⊞ slope ⊠ d)
  bent =
      let h = H terms 0 y in
      let t = bend terms 0 w in
      let g = h ⊟ t ⊠ d in
      let hx = H terms 0 z in
      let ph = H_proper terms 0 py in
      let T = bend_proper terms 0 pw in
      let pg = ⊟-proper ph (⊠-proper T pd) in
      let error = ⊠-proper (over_proper 5 4 (lit≤ tt)) q_proper in
      let half = over_proper 1 2 (lit≤ tt) in
      let here = rw (⊠-comm hx x, ⊠-comm g x) at (within_scale error X (levels terms 0)) in
      let rest = rw (⊠-assoc 1/2 d d, ⊠-comm g d, ⊠-comm h d) at (within-⊠ pd D.low (off_half h ph pd D.low (bend_half terms 0 W))) in
      let added = rw zero-⊞ at (within-⊞ (within_refl (⊠-proper pw pg) (≼_refl (whole 0))) rest) in
      let middle = within_same (⊠-proper X.proper pg) (⊞-⊠ w d g) added in
      let all = within_wider (⊞-proper (⊠-proper error half) (⊠-proper half q_proper)) (error_half q) (within_trans here middle) in
      let A = ⊠-proper pw ph in
      let B = ⊠-proper (⊠-proper pw T) pd in
      let C = ⊠-proper pd ph in
      let left : w ⊠ g ≈ w ⊠ h ⊟ w ⊠ t ⊠ d = rw (⊠-assoc w t d) (⊠-⊟ w h (t ⊠ d)) in
      let right : w ⊠ g ⊞ d ⊠ h ≈ w ⊠ h ⊞ slope ⊠ d =
      ≈-trans (⊞-proper (⊟-proper A B) C) (⊞-cong left (≈-refl (d ⊠ h)))
      (rw (swapped (w ⊠ h) (w ⊠ t ⊠ d) (d ⊠ h), ⊠-comm d h) (⊞-cong (≈-refl (w ⊠ h)) (≈-sym (⊟-⊠ h (w ⊠ t) d)))) in
      let end = ⊞-proper (G_proper pw) (⊠-proper slope_proper pd) in
      within_same (G_proper X.proper) (nested x X.proper)
      (within_to end (≈-trans (⊞-proper A (⊠-proper slope_proper pd)) right (⊞-cong (≈-sym (nested w pw)) (≈-refl (slope ⊠ d)))) all)

-- ---- G's slope times 1 + y

-- over the k-th level, times 2k + 1
abbrev slopes : ℕ → ℕ → Fraction → Fraction
slopes n k w = whole (2 * k + 1) ⊠ H n k (w ⊠ w) ⊟ w ⊠ bend n k w

slopes_proper : (n k : ℕ) {w : Fraction} → Proper w → Proper (slopes n k w)
slopes_proper n k W = ⊟-proper (⊠-proper (whole_proper (2 * k + 1)) (H_proper n k (⊠-proper W W))) (⊠-proper W (bend_proper n k W))

odd_whole : (k : ℕ) → whole (2 * k + 1) ⊠ odd k ≈ whole 1
unfolding over ◌⊠◌
odd_whole k = omega arith

two_more : (k : ℕ) (a : Fraction) → whole (2 * k + 1) ⊠ a ⊞ (a ⊞ a) ≈ whole (2 * suc k + 1) ⊠ a
unfolding over ◌⊞◌ ◌⊠◌
two_more k a = omega arith

-- w (w + w) h is y h twice
doubled : {w h : Fraction} → Proper w → Proper h → w ⊠ ((w ⊞ w) ⊠ h) ≈ w ⊠ w ⊠ h ⊞ w ⊠ w ⊠ h
doubled {w} {h} W K =
    let e = ≈-trans (⊠-proper (⊞-proper (⊠-proper W W) (⊠-proper W W)) K) (⊠-cong h (⊠-⊞ w w w)) (⊞-⊠ (w ⊠ w) (w ⊠ w) h) in
    rw (⊠-assoc w (w ⊞ w) h) at e

slopes_next : (n k : ℕ) {w : Fraction} → Proper w → slopes (suc n) k w ≈ whole 1 ⊟ w ⊠ w ⊠ slopes n (suc k) w
unfolding H bend
slopes_next n k {w} W =
    let y = w ⊠ w in
    let Y = ⊠-proper W W in
    let m = whole (2 * k + 1) in
    let M = whole_proper (2 * k + 1) in
    let h = H n (suc k) y in
    let t = bend n (suc k) w in
    let K = H_proper n (suc k) Y in
    let T = bend_proper n (suc k) W in
    let a = y ⊠ h in
    let PA = ⊠-proper Y K in
    let b = y ⊠ (w ⊠ t) in
    let PB = ⊠-proper Y (⊠-proper W T) in
    let o = whole_proper 1 in
    let MA = ⊠-proper M PA in
    let first : m ⊠ (odd k ⊟ a) ≈ whole 1 ⊟ m ⊠ a = ≈-trans (⊟-proper (⊠-proper M (odd_proper k)) MA) (⊠-⊟ m (odd k) a) (⊞-cong (odd_whole k) (≈-refl (opposite (m ⊠ a)))) in
    let same : w ⊠ (y ⊠ t) ≡ b = rw (← ⊠-assoc w y t, ⊠-comm w y, ⊠-assoc y w t) in
    let second : w ⊠ ((w ⊞ w) ⊠ h ⊟ y ⊠ t) ≈ a ⊞ a ⊟ b =
    rw same at (≈-trans (⊟-proper (⊠-proper W (⊠-proper (⊞-proper W W) K)) (⊠-proper W (⊠-proper Y T))) (⊠-⊟ w ((w ⊞ w) ⊠ h) (y ⊠ t)) (⊞-cong (doubled W K) (≈-refl (opposite (w ⊠ (y ⊠ t)))))) in
    let third : y ⊠ (whole (2 * suc k + 1) ⊠ h ⊟ w ⊠ t) ≈ whole (2 * suc k + 1) ⊠ a ⊟ b =
    rw (← ⊠-assoc y (whole (2 * suc k + 1)) h, ⊠-comm y (whole (2 * suc k + 1)), ⊠-assoc (whole (2 * suc k + 1)) y h) at (⊠-⊟ y (whole (2 * suc k + 1) ⊠ h) (w ⊠ t)) in
    let left = ≈-trans (⊟-proper (⊟-proper o MA) (⊟-proper (⊞-proper PA PA) PB)) (⊞-cong first (opposite_cong second)) (≡→≈ (grouped (m ⊠ a) (a ⊞ a) b)) in
    let right = opposite_cong (≈-trans (⊟-proper (⊠-proper (whole_proper (2 * suc k + 1)) PA) PB) third (⊞-cong (≈-sym (two_more k a)) (≈-refl (opposite b)))) in
    ≈-trans (⊟-proper o (⊟-proper (⊞-proper MA (⊞-proper PA PA)) PB)) left (⊞-cong (≈-refl (whole 1)) (≈-sym right))
  where
    -- 1 - m - (d - b) is 1 - (m + d - b)
    grouped : (m d b : Fraction) → whole 1 ⊟ m ⊟ (d ⊟ b) ≡ whole 1 ⊟ (m ⊞ d ⊟ b)
    grouped m d b = simp (opposite-⊞, opposite_opposite, ⊞-assoc)

no_more : (y : Fraction) → whole 1 ⊞ y ⊟ y ≈ whole 1
unfolding over ◌⊞◌ opposite
no_more y = omega arith

slope_one : (n k : ℕ) {w : Fraction} → In 1/2 w → Within (power (w ⊠ w) n) (slopes n k w ⊠ (whole 1 ⊞ w ⊠ w)) (whole 1)
unfolding power
slope_one zero k {w} W =
    let v = whole 1 ⊞ w ⊠ w in
    let o = whole_proper 1 in
    let pw = W.proper in
    let pv = ⊞-proper o (⊠-proper pw pw) in
    let m = whole (2 * k + 1) in
    let none : slopes 0 k w ≈ whole 0 = unfold H bend in ≈-trans (⊠-proper (whole_proper (2 * k + 1)) (whole_proper 0)) (take_nothing (m ⊠ whole 0) w) (⊠-zero m) in
    let zero : whole 0 ⊠ v ≈ whole 0 = rw (⊠-comm (whole 0) v) (⊠-zero v) in
    let all = ≈-trans (⊠-proper (whole_proper 0) pv) (⊠-cong v none) zero in
    within_same (⊠-proper (slopes_proper 0 k pw) pv) all (within_sym (small (record { proper = o; low = (over-≼ 0 1 1 1).1 (lit≤ tt); high = ≼_refl (whole 1) })))
slope_one (suc n) k {w} W =
    let y = w ⊠ w in
    let Y = square W in
    let v = whole 1 ⊞ y in
    let o = whole_proper 1 in
    let pv = ⊞-proper o Y.proper in
    let s = slopes n (suc k) w in
    let ps = slopes_proper n (suc k) W.proper in
    let e = ≈-trans (⊠-proper (⊟-proper o (⊠-proper Y.proper ps)) pv) (⊠-cong v (slopes_next n k W.proper)) (⊟-⊠ (whole 1) (y ⊠ s) v) in
    let same : y ⊠ s ⊠ v ≡ s ⊠ v ⊠ y = rw (⊠-assoc y s v, ⊠-comm y (s ⊠ v)) in
    let e' : slopes (suc n) k w ⊠ v ≈ v ⊟ s ⊠ v ⊠ y = rw (one-⊠ v, same) at e in
    let below = rw (one-⊠ y) at (within-⊠ Y.proper Y.low (slope_one n (suc k) W)) in
    within_same (⊠-proper (slopes_proper (suc n) k W.proper) pv) e' (within_to o (no_more y) (within_rest pv below))

-- ---- together

power_high : (n : ℕ) {y : Fraction} → In 1/4 y → (whole 0 ≼ power y n) × (power y n ≼ over 1 (4 ^ n))
unfolding power
power_high zero Y = ((over-≼ 0 1 1 1).1 (lit≤ tt), ≼_refl (whole 1))
power_high (suc n) {y} Y =
    let h = power_high n Y in
    let q = over_proper 1 (4 ^ n) (one-le-pow n 4 (lit≤ tt)) in (
      ⊠-not-negative h.0 Y.low,
      ≼_trans (⊠-proper q Y.proper) (⊠-mono Y.low h.1)
          (rw (⊠-comm (over 1 (4 ^ n)) y) (≼_trans (⊠-proper (over_proper 1 4 (lit≤ tt)) q) (⊠-mono ((over-≼ 0 1 1 (4 ^ n)).1 (omega arith)) Y.high) (rw (over-⊠, pow-suc 4 n) ((over-≼ (1 * 1) (4 * 4 ^ n) 1 (4 ^ n * 4)).1 (omega arith))))),
    )

pub gained : (a b : Fraction) → a ⊞ b ⊟ a ≈ b
unfolding ◌⊞◌ opposite
gained a b = omega arith

rise_error : (q : Fraction) → over 9 8 ⊠ q ⊠ over 5 4 ≼ over 45 32 ⊠ q
unfolding over ◌⊠◌
rise_error q = omega arith

module _ {w d : Fraction} (W : In 1/2 w) (D : In 1/2 d) (X : In 1/2 (w ⊞ d)) where
  abbrev v : Fraction
  v = whole 1 ⊞ w ⊠ w

  abbrev pub off : Fraction
  off = over 45 32 ⊠ (d ⊠ d) ⊞ over 1 (2 ^ 48) ⊠ d

  pub off_proper : Proper off
  off_proper = ⊞-proper (⊠-proper (over_proper 45 32 (lit≤ tt)) (⊠-proper D.proper D.proper)) (⊠-proper (over_proper 1 (2 ^ 48) (lit≤ tt)) D.proper)

  v_in : In (over 5 4) v
  v_in = let Y = square_quarter W in record {
    proper = ⊞-proper (whole_proper 1) Y.proper;
    low = ≼_trans (whole_proper 1) ((over-≼ 0 1 1 1).1 (lit≤ tt)) (no_less (whole 1) Y.low);
    high = ≼_trans (⊞-proper (whole_proper 1) (over_proper 1 4 (lit≤ tt))) (⊞-mono (≼_refl (whole 1)) Y.high) (unfold over ◌⊞◌ in record { holds = lit≤ tt });
  }

  pub rise : Within off ((G (w ⊞ d) ⊟ G w) ⊠ v) d
  rise =
      let x = w ⊞ d in
      let q = d ⊠ d in
      let pd = D.proper in
      let pw = W.proper in
      let gw = G_proper pw in
      let s = slope W D X in
      let ps = slope_proper W D X in
      let error = ⊠-proper (over_proper 9 8 (lit≤ tt)) (⊠-proper pd pd) in
      let up = within_to (⊠-proper ps pd) (gained (G w) (s ⊠ d)) (rw ⊞-zero at (within-⊞ (bent W D X) (within_refl (opposite_proper gw) (≼_refl (whole 0))))) in
      let times = within_wider (⊠-proper error (over_proper 5 4 (lit≤ tt))) (rise_error q) (within_scale error v_in up) in
      let p = power (w ⊠ w) terms in
      let pp = power_proper terms (⊠-proper pw pw) in
      let one : Within p (s ⊠ v) (whole 1) = rw (one-⊠ (H terms 0 (w ⊠ w))) at (slope_one terms 0 W) in
      let last = within_wider (⊠-proper pp pd) (⊠-mono D.low (power_high terms (square_quarter W)).1) (rw one-⊠ at (within-⊠ pd D.low one)) in
      let same : s ⊠ d ⊠ v ≡ s ⊠ v ⊠ d = rw (⊠-assoc s d v, ⊠-comm d v, ← ⊠-assoc s v d) in
      within_trans (rw same at times) last

  -- for a d of at most 1/2 that is less than d itself
  off_small : off ≼ d
  off_small =
      let half = over_proper 1 2 (lit≤ tt) in
      let squared : d ⊠ d ≼ 1/2 ⊠ d = ⊠-mono D.low D.high in
      let times : over 45 32 ⊠ (d ⊠ d) ≼ over 45 32 ⊠ (1/2 ⊠ d) = rw (⊠-comm (over 45 32) (d ⊠ d), ⊠-comm (over 45 32) (1/2 ⊠ d)) (⊠-mono ((over-≼ 0 1 45 32).1 (lit≤ tt)) squared) in
      ≼_trans (⊞-proper (⊠-proper (over_proper 45 32 (lit≤ tt)) (⊠-proper half D.proper)) (⊠-proper (over_proper 1 (2 ^ 48) (lit≤ tt)) D.proper))
      (⊞-mono times (≼_refl (over 1 (2 ^ 48) ⊠ d))) (in_d D.low)

  v_above : whole 0 ≺ v
  v_above = ≺-≼-trans {b = whole 1} v_in.proper (unfold over in record { holds = lit≤ tt }) (no_less (whole 1) (square W).low)

  risen : whole 0 ≼ G (w ⊞ d) ⊟ G w
  risen = cancel v_above (left_over D.proper (≼_trans off_proper rise.not_below off_small))

-- ---- it never falls

same_levels : (n k : ℕ) {y z : Fraction} → Proper y → Proper z → y ≈ z → H n k y ≈ H n k z
unfolding H
same_levels zero k Y Z e = ≈-refl (whole 0)
same_levels (suc n) k {y} {z} Y Z e =
    ⊞-cong (≈-refl (odd k)) (opposite_cong (≈-trans (⊠-proper Z (H_proper n (suc k) Y)) (⊠-cong (H n (suc k) y) e) (⊠-cong-right z (same_levels n (suc k) Y Z e))))

pub G_same : {a b : Fraction} → Proper a → Proper b → a ≈ b → G a ≈ G b
G_same {a} {b} A B e =
    let squares = ≈-trans (⊠-proper B A) (⊠-cong a e) (⊠-cong-right b e) in
    let h = H terms 0 (a ⊠ a) in
    let k = H terms 0 (b ⊠ b) in
    let ph = H_proper terms 0 (⊠-proper A A) in
    let pk = H_proper terms 0 (⊠-proper B B) in
    let inner = ≈-trans (⊠-proper B ph) (⊠-cong h e) (⊠-cong-right b (same_levels terms 0 (⊠-proper A A) (⊠-proper B B) squares)) in
    ≈-trans (⊠-proper A ph) (nested a A) (≈-trans (⊠-proper B pk) inner (≈-sym (nested b B)))

-- b is a and what b is more
filled : (a b : Fraction) → a ⊞ (b ⊟ a) ≈ b
filled a b = rw (⊞-comm a (b ⊟ a), ⊞-assoc b (opposite a) a, ⊞-comm (opposite a) a, ← ⊞-assoc b a (opposite a), ⊞-comm b a) (gained a b)

pub monotone : {a b : Fraction} → In 1/2 a → In 1/2 b → a ≼ b → G a ≼ G b
monotone {a} {b} A B h =
    let d = b ⊟ a in
    let pd = ⊟-proper B.proper A.proper in
    let e = filled a b in
    let D : In 1/2 d = record { proper = pd; low = rest_low h; high = ≼_trans B.proper (rest_high A.low) B.high } in
    let px = ⊞-proper A.proper pd in
    let X : In 1/2 (a ⊞ d) = record { proper = px; low = ≼-≈ B.proper B.low (≈-sym e); high = ≈-≼ B.proper e B.high } in
    ≼-≈ (G_proper px) (in_order (risen A D X)) (G_same px B.proper e)

-- ---- it rises by no more than its slope at w says: halving d halves what is quadratic in it

regroup : (a b c : Fraction) → a ⊞ b ⊞ c ⊞ (a ⊞ b ⊞ c) ≡ a ⊞ a ⊞ (b ⊞ b) ⊞ (c ⊞ c)
regroup a b c = simp (⊞-assoc, ⊞-left-comm)

quarter_twice : (K : ℕ) (q : Fraction) → over 45 K ⊠ (q ⊠ over (1 * 1) (2 * 2)) ⊞ over 45 K ⊠ (q ⊠ over (1 * 1) (2 * 2)) ≼ over 45 (K * 2) ⊠ q
unfolding over ◌⊞◌ ◌⊠◌
quarter_twice K q = omega arith

halves_square : (d : Fraction) → d ⊠ 1/2 ⊠ (d ⊠ 1/2) ≡ d ⊠ d ⊠ over (1 * 1) (2 * 2)
halves_square d = rw (⊠-assoc d 1/2 (d ⊠ 1/2), ← ⊠-assoc 1/2 d 1/2, ⊠-comm 1/2 d, ⊠-assoc d 1/2 1/2, ← ⊠-assoc d d (1/2 ⊠ 1/2), over-⊠ 1 2 1 2)

abbrev part_of : ℕ → Fraction → Fraction
part_of K d = d ⊞ over 45 K ⊠ (d ⊠ d) ⊞ over 1 (2 ^ 48) ⊠ d

part_proper : (K : ℕ) {d : Fraction} → 0 < K → Proper d → Proper (part_of K d)
part_proper K P D = ⊞-proper (⊞-proper D (⊠-proper (over_proper 45 K P) (⊠-proper D D))) (⊠-proper (over_proper 1 (2 ^ 48) (lit≤ tt)) D)

halved : (K : ℕ) (d : Fraction) → part_of K (d ⊠ 1/2) ⊞ part_of K (d ⊠ 1/2) ≼ part_of (K * 2) d
halved K d =
    let h = d ⊠ 1/2 in
    let p = over 1 (2 ^ 48) in
    rw (regroup h (over 45 K ⊠ (h ⊠ h)) (p ⊠ h), halves_square d, ← ⊠-assoc p d 1/2)
    (⊞-mono (⊞-mono (≈→≼ (halves-whole d)) (quarter_twice K (d ⊠ d))) (≈→≼ (halves-whole (p ⊠ d))))

-- (b - a) + (c - b) is c - a
telescoped : (a b c : Fraction) → b ⊟ a ⊞ (c ⊟ b) ≈ c ⊟ a
unfolding ◌⊞◌ opposite
telescoped a b c = omega arith

pub under_slope : (k : ℕ) {w d : Fraction} → In 1/2 w → In 1/2 d → In 1/2 (w ⊞ d) → (G (w ⊞ d) ⊟ G w) ⊠ (whole 1 ⊞ w ⊠ w) ≼ part_of (32 * 2 ^ k) d
under_slope zero {w} {d} W D X =
    rw (⊞-assoc d (over 45 32 ⊠ (d ⊠ d)) (over 1 (2 ^ 48) ⊠ d)) ((move ((G (w ⊞ d) ⊟ G w) ⊠ (whole 1 ⊞ w ⊠ w)) d (off W D X)).0 (rise W D X).not_above)
under_slope (suc k) {w} {d} W D X =
    let h = d ⊠ 1/2 in
    let m = w ⊞ h in
    let v = whole 1 ⊞ w ⊠ w in
    let K = 32 * 2 ^ k in
    let ParamKind = mul-pos (lit≤ tt) (pow_pos k) in
    let pw = W.proper in
    let pd = D.proper in
    let ph = ⊠-proper pd (over_proper 1 2 (lit≤ tt)) in
    let less : h ≼ d = rw (⊠-comm d 1/2) (part D.low ((over-≼ 1 2 1 1).1 (lit≤ tt))) in
    let E : In 1/2 h = record { proper = ph; low = ⊠-not-negative D.low ((over-≼ 0 1 1 2).1 (lit≤ tt)); high = ≼_trans pd less D.high } in
    let pm = ⊞-proper pw ph in
    let up = no_less w E.low in
    let M : In 1/2 m = record { proper = pm; low = ≼_trans pw W.low up; high = ≼_trans X.proper (⊞-mono (≼_refl w) less) X.high } in
    let x = m ⊞ h in
    let px = ⊞-proper pm ph in
    let same : x ≈ w ⊞ d = rw (⊞-assoc w h h) (⊞-cong (≈-refl w) (halves-whole d)) in
    let X' : In 1/2 x = record { proper = px; low = ≼-≈ X.proper X.low (≈-sym same); high = ≈-≼ X.proper same X.high } in
    let squares : w ⊠ w ≼ m ⊠ m = ≼_trans (⊠-proper pm pw) (⊠-mono W.low up) (rw (⊠-comm m w) (⊠-mono M.low up)) in
    let u = whole 1 ⊞ m ⊠ m in
    let b = G x ⊟ G m in
    let a = G m ⊟ G w in
    let pv = ⊞-proper (whole_proper 1) (⊠-proper pw pw) in
    let pu = ⊞-proper (whole_proper 1) (⊠-proper pm pm) in
    let pa = ⊟-proper (G_proper pm) (G_proper pw) in
    let pb = ⊟-proper (G_proper px) (G_proper pm) in
    let second : b ⊠ v ≼ part_of K h = ≼_trans (⊠-proper pb pu) (rw (⊠-comm b v, ⊠-comm b u) (⊠-mono (risen M E X') (⊞-mono (≼_refl (whole 1)) squares))) (under_slope k M E X') in
    let parts : a ⊠ v ⊞ b ⊠ v ≼ part_of (K * 2) d = ≼_trans (⊞-proper (part_proper K ParamKind ph) (part_proper K ParamKind ph)) (⊞-mono (under_slope k W E M) second) (halved K d) in
    let whole-rise = ≈-trans (⊟-proper (G_proper px) (G_proper pw)) (⊞-cong (G_same X.proper px (≈-sym same)) (≈-refl (opposite (G w)))) (≈-sym (telescoped (G w) (G m) (G x))) in
    let all = ≈-trans (⊠-proper (⊞-proper pa pb) pv) (⊠-cong v whole-rise) (⊞-⊠ a b v) in
    rw (pow-suc 2 k, ← mul_assoc 32 (2 ^ k) 2) (≈-≼ (⊞-proper (⊠-proper pa pv) (⊠-proper pb pv)) all parts)
