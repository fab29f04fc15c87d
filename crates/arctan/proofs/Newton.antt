-- The rounds of the tangent's whole-number solution: each leaves the series at most 1300 units of 2 ^ -60 past n, and what is missing shrinks to about its square (`round`).
-- From n itself, which is at most 13/32, four of them leave at most 1300 units missing (`refined_near`). Assumes nothing.
use Rattle.std.proofs.Common.{◌≡◌, ℕ, zero, suc, ◌+◌, ◌-◌, ◌*◌, ◌^◌, ◌<◌, ◌≤◌, ◌⊎◌, refl, subst, inl, inr, le_trans, mul-le-mul_right, mul-le-mul, mul-le-mul_left, le_of_mul-le-mul_right, arith, lit≤, pow_pos}
use Rattle.exact.specs.Fraction.{Fraction, Proper, Within, over, whole, ◌≼◌, ◌≺◌, ◌≈◌, ◌⊞◌, ◌⊟◌, ◌⊠◌}
use Rattle.exact.proofs.Fractions.{over_proper, whole_proper, ⊞-proper, ⊟-proper, ⊠-proper, ≼_refl, ≼_trans, ≼-total, ≺-≼-trans, ≈-≼, ≼-≈, ≈→≼, ≈-sym, ≈-refl, ≈-trans, ⊞-comm, ⊞-assoc, ⊞-left-comm, ⊞-mono, ⊞-cong, move, ⊠-comm, ⊠-one, ⊠-⊞, ⊞-⊠, ⊟-⊠, ⊠-mono, ⊠-not-negative, over-≼, over-⊞, over-⊠, within_refl, within_wider, within_same, within_to, within-⊞}
use Rattle.arctan.specs.Series.{G}
use Rattle.arctan.specs.Whole.{product, series}
use Rattle.arctan.specs.Tangent.{stretched, nearer, rounds, refined}
use Rattle.arctan.proofs.Horner.{rest_low, part}
use Rattle.arctan.proofs.Rise.{In, 1/2, nested, G_proper, G_high, third, within_rest}
use Rattle.arctan.proofs.Bounds.{product_not_above}
use Rattle.arctan.proofs.Whole.{Counts, product_near, series_near}
use Rattle.arctan.proofs.Pieces.{u, unit_proper, difference}
use Rattle.arctan.proofs.Bent.{cancel, in_order, gained, no_less, off, off_proper, rise, under_slope, G_same}

-- ---- counts up to 1/2

pub unit_in : (w : ℕ) → w ≤ 2 ^ 59 → In 1/2 (u w)
unit_in w h = record { proper = unit_proper w; low = (over-≼ 0 1 w (2 ^ 60)).1 (omega arith); high = (over-≼ w (2 ^ 60) 1 2).1 (omega arith) }

pub unit_low : (w : ℕ) → whole 0 ≼ u w
unit_low w = (over-≼ 0 1 w (2 ^ 60)).1 (omega arith)

pub unit-≼ : {a b : ℕ} → a ≤ b → u a ≼ u b
unit-≼ {a} {b} h = (over-≼ a (2 ^ 60) b (2 ^ 60)).1 (mul-le-mul_right (2 ^ 60) h)

pub ≼-unit : {a b : ℕ} → u a ≼ u b → a ≤ b
≼-unit {a} {b} h = le_of_mul-le-mul_right ((over-≼ a (2 ^ 60) b (2 ^ 60)).0 h) (pow_pos 60)

pub unit_sum : (a b : ℕ) → u a ⊞ u b ≈ u (a + b)
unit_sum a b = over-⊞ a b (2 ^ 60)

-- ---- the series and the step, against the exact ones

series_off : (w : ℕ) → w ≤ 2 ^ 59 → Within (u 1000) (u (series w)) (G (u w))
series_off w h =
    let W = unit_in w h in
    within_to (G_proper W.proper) (≈-sym (nested (u w) W.proper)) (series_near w h W.low W.high (within_refl W.proper (unit_low 400)))

-- 1 + w^2
abbrev v : ℕ → Fraction
v w = whole 1 ⊞ u w ⊠ u w

v_proper : (w : ℕ) → Proper (v w)
v_proper w = ⊞-proper (whole_proper 1) (⊠-proper (unit_proper w) (unit_proper w))

from_one : (w : ℕ) → whole 1 ≼ v w
from_one w = no_less (whole 1) (⊠-not-negative (unit_low w) (unit_low w))

v_above : (w : ℕ) → whole 0 ≺ v w
v_above w = ≺-≼-trans {b = whole 1} (v_proper w) (unfold over in record { holds = lit≤ tt }) (from_one w)

square_half : (w : ℕ) → w ≤ 2 ^ 59 → u w ⊠ u w ≼ over 1 2
square_half w h = let W = unit_in w h in ≼_trans W.proper (part W.low (≼_trans (over_proper 1 2 (lit≤ tt)) W.high ((over-≼ 1 2 1 1).1 (lit≤ tt)))) W.high

stretched_near : (w e : ℕ) → w ≤ 2 ^ 59 → e ≤ 2 ^ 60 → Within (u 4) (u (stretched w e)) (u e ⊠ v w)
unfolding stretched
stretched_near w e h k =
    let W = unit_in w h in
    let p = product w w in
    let none = within_refl (unit_proper w) (unit_low 0) in
    let square : Counts 2 p (u w ⊠ u w) = product_near W.low W.high w w 0 0 0 0 (omega arith) (lit≤ tt) none none in
    let times : Counts 4 (product p e) (u w ⊠ u w ⊠ u e) =
    product_near (⊠-not-negative W.low W.low) (square_half w h) p e 2 0 2 0 (mul-le-mul_left 2 k) (lit≤ tt) square (within_refl (unit_proper e) (unit_low 0)) in
    let PE = unit_proper e in
    let sum = within_same (unit_proper (e + product p e)) (≈-sym (unit_sum e (product p e))) (within-⊞ (within_refl PE (unit_low 0)) times) in
    let out : u e ⊞ u w ⊠ u w ⊠ u e ≈ u e ⊠ v w = rw (⊠-comm (u w ⊠ u w) (u e)) (≈-sym (rw (⊠-one (u e)) at (⊠-⊞ (u e) (whole 1) (u w ⊠ u w)))) in
    within_to (⊠-proper PE (v_proper w)) out (within_wider (⊞-proper (unit_proper 0) (unit_proper 4)) (≈→≼ (unit_sum 0 4)) sum)

-- it is at most 5/4 of e
pub stretched_most : (w e : ℕ) → w ≤ 2 ^ 59 → 4 * stretched w e ≤ 5 * e
unfolding stretched
stretched_most w e h =
    let p = product w w in
    let few : p ≤ 2 ^ 58 = le_of_mul-le-mul_right {k = 2 ^ 60} (le_trans (product_not_above w w) (mul-le-mul h h)) (pow_pos 60) in
    let part : product p e * 4 ≤ e = le_of_mul-le-mul_right {k = 2 ^ 58} (omega (arith, product_not_above p e, mul-le-mul_right e few)) (pow_pos 58) in
    omega arith

-- ---- laws of fractions

-- a factor above 0 taken off both sides
lowered : {a b w : Fraction} → Proper a → Proper b → Proper w → whole 0 ≺ w → a ⊠ w ≼ b ⊠ w → a ≼ b
lowered {a} {b} {w} A B W h k = in_order (cancel h (≼-≈ (⊟-proper (⊠-proper B W) (⊠-proper A W)) (rest_low k) (≈-sym (⊟-⊠ b a w))))

-- a factor from 1 on makes no less
sum_low : (a b : ℕ) → whole 0 ≼ u a ⊞ u b
sum_low a b = ≼_trans (unit_proper a) (unit_low a) (no_less (u a) (unit_low b))

grown : {c w : Fraction} → whole 0 ≼ c → whole 1 ≼ w → c ≼ c ⊠ w
grown {c} {w} h k = rw (⊠-comm c w) (rw (⊠-comm (whole 1) c, ⊠-one c) at (⊠-mono h k))

-- g and what is missing up to g', and c
onward : (g g' k : Fraction) → g ⊞ (g' ⊟ g ⊞ k) ≈ g' ⊞ k
onward g g' k = rw (sorted g g' k) (gained g (g' ⊞ k))
  where
    sorted : (g g' k : Fraction) → g ⊞ (g' ⊟ g ⊞ k) ≡ g ⊞ (g' ⊞ k) ⊟ g
    sorted g g' k = simp (⊞-assoc, ⊞-comm)

-- what a step of δ counts is off by: to second order (`off`), and past the series' slope (`under_slope`)
squared : (K δ b c : ℕ) → δ ≤ b → 45 * (b * b) ≤ c * (K * 2 ^ 60) → over 45 K ⊠ (u δ ⊠ u δ) ≼ u c
squared K δ b c h k =
    rw (over-⊠ δ (2 ^ 60) δ (2 ^ 60), over-⊠ 45 K (δ * δ) (2 ^ 60 * 2 ^ 60))
    ((over-≼ (45 * (δ * δ)) (K * (2 ^ 60 * 2 ^ 60)) c (2 ^ 60)).1 (again (2 ^ 60) (le_trans (mul-le-mul_left 45 (mul-le-mul h h)) k)))
  where
    again : (N : ℕ) → 45 * (δ * δ) ≤ c * (K * N) → 45 * (δ * δ) * N ≤ c * (K * (N * N))
    again N h = omega (arith, mul-le-mul_right N h)

scaled : (δ b c : ℕ) → δ ≤ b → b ≤ c * 2 ^ 48 → over 1 (2 ^ 48) ⊠ u δ ≼ u c
scaled δ b c h k = rw (over-⊠ 1 (2 ^ 48) δ (2 ^ 60)) ((over-≼ (1 * δ) (2 ^ 48 * 2 ^ 60) c (2 ^ 60)).1 (again (2 ^ 60) (2 ^ 48) (le_trans h k)))
  where
    again : (N M : ℕ) → δ ≤ c * M → 1 * δ * N ≤ c * (M * N)
    again N M h = omega (arith, mul-le-mul_right N h)

off_count : (K δ b c d : ℕ) → δ ≤ b → 45 * (b * b) ≤ c * (K * 2 ^ 60) → b ≤ d * 2 ^ 48 → over 45 K ⊠ (u δ ⊠ u δ) ⊞ over 1 (2 ^ 48) ⊠ u δ ≼ u (c + d)
off_count K δ b c d h k l = ≼_trans (⊞-proper (unit_proper c) (unit_proper d)) (⊞-mono (squared K δ b c h k) (scaled δ b d h l)) (≈→≼ (unit_sum c d))

-- ---- one round

-- w is at most m, its series at most 1300 units past n, and at most r short of it
pub record Stage (m r n w : ℕ) : Type 0 where
  pub most : w ≤ m
  pub not_past : G (u w) ≼ u n ⊞ u 1300
  pub short : u n ≼ G (u w) ⊞ u r

module _ {m r n w : ℕ} (M : m ≤ 2 ^ 59) (s : Stage m r n w) where
  abbrev e : ℕ
  e = n - series w

  abbrev δ : ℕ
  δ = stretched w e

  abbrev g : Fraction
  g = G (u w)

  few : w ≤ 2 ^ 59
  few = le_trans s.most M

  pg : Proper g
  pg = G_proper (unit_proper w)

  around : Within (u 1000) (u (series w)) g
  around = series_off w few

  -- the series' own error, both ways
  series_under : u (series w) ≼ g ⊞ u 1000
  series_under = (move (u (series w)) g (u 1000)).0 around.not_above

  series_over : g ≼ u (series w) ⊞ u 1000
  series_over = (move g (u (series w)) (u 1000)).0 around.not_below

  -- what is missing is counted at most 1000 too high
  e_most : e ≤ r + 1000
  e_most =
      let ps = unit_proper (series w) in
      let l : u n ≼ u (series w + 1000 + r) =
      ≼_trans (⊞-proper pg (unit_proper r)) s.short
      (≼_trans (⊞-proper (⊞-proper ps (unit_proper 1000)) (unit_proper r)) (⊞-mono series_over (≼_refl (u r)))
      (≼_trans (⊞-proper (unit_proper (series w + 1000)) (unit_proper r)) (⊞-mono (≈→≼ (unit_sum (series w) 1000)) (≼_refl (u r))) (≈→≼ (unit_sum (series w + 1000) r)))) in
      let k = ≼-unit l in
      omega arith

  δ_most : 4 * δ ≤ 5 * (r + 1000)
  δ_most = le_trans (stretched_most w e few) (mul-le-mul_left 5 e_most)

  -- how the step ends: at most b, which counts at most c and d off
  module _ (b c d : ℕ) (B : 5 * (r + 1000) ≤ 4 * b) (room : m + b ≤ 2 ^ 59) (C : 45 * (b * b) ≤ c * (32 * 2 ^ 60)) (C' : b ≤ d * 2 ^ 48) where
    δ_b : δ ≤ b
    δ_b = omega (arith, δ_most)

    W : In 1/2 (u w)
    W = unit_in w few

    D : In 1/2 (u δ)
    D = unit_in δ (omega (arith, δ_b, room))

    sum : u w ⊞ u δ ≈ u (w + δ)
    sum = unit_sum w δ

    X : In 1/2 (u w ⊞ u δ)
    X =
        let I = unit_in (w + δ) (omega (arith, δ_b, room, s.most)) in
        record { proper = ⊞-proper W.proper D.proper; low = ≼-≈ I.proper I.low (≈-sym sum); high = ≈-≼ I.proper sum I.high }

    abbrev g' : Fraction
    g' = G (u w ⊞ u δ)

    pg' : Proper g'
    pg' = G_proper X.proper

    pv : Proper (v w)
    pv = v_proper w

    v_low : whole 0 ≼ v w
    v_low = ≼_trans (whole_proper 1) ((over-≼ 0 1 1 1).1 (lit≤ tt)) (from_one w)

    step : Within (u 4) (u δ) (u e ⊠ v w)
    step = stretched_near w e few (omega (arith, e_most, B, room))

    gap : Proper (g' ⊟ g)
    gap = ⊟-proper pg' pg

    -- what is missing before the step
    missing : u n ⊟ g ≼ u e ⊞ u 1000
    missing =
        let all : n ≤ e + series w = omega arith in
        let pe = unit_proper e in
        let l = ≼_trans (unit_proper (e + series w)) (unit-≼ all) (≼_trans (⊞-proper pe (unit_proper (series w))) (≈→≼ (≈-sym (unit_sum e (series w)))) (⊞-mono (≼_refl (u e)) series_under)) in
        (move (u n) g (u e ⊞ u 1000)).1 (rw (⊞-left-comm (u e) g (u 1000)) at l)

    -- and after it
    still_missing : u n ≼ g' ⊞ u (c + d + 4 + 1000)
    still_missing =
        let q = u (c + d) ⊞ u 4 in
        let pq = ⊞-proper (unit_proper (c + d)) (unit_proper 4) in
        let k = q ⊞ u 1000 in
        let pk = ⊞-proper pq (unit_proper 1000) in
        let pe = unit_proper e in
        let h = g' ⊟ g in
        let moved : u δ ≼ h ⊠ v w ⊞ u (c + d) = ≼_trans (⊞-proper (⊠-proper gap pv) (off_proper W D X)) ((move (u δ) (h ⊠ v w) (off W D X)).0 (rise W D X).not_below) (⊞-mono (≼_refl (h ⊠ v w)) (off_count 32 δ b c d δ_b C C')) in
        let first : u e ⊠ v w ≼ h ⊠ v w ⊞ q =
        rw (⊞-assoc (h ⊠ v w) (u (c + d)) (u 4)) at (≼_trans (⊞-proper (unit_proper δ) (unit_proper 4)) ((move (u e ⊠ v w) (u δ) (u 4)).0 step.not_below) (⊞-mono moved (≼_refl (u 4)))) in
        let second : u e ⊠ v w ⊞ u 1000 ⊠ v w ≼ h ⊠ v w ⊞ (q ⊠ v w ⊞ u 1000 ⊠ v w) =
        rw (⊞-assoc (h ⊠ v w) (q ⊠ v w) (u 1000 ⊠ v w)) at (⊞-mono (≼_trans (⊞-proper (⊠-proper gap pv) pq) first (⊞-mono (≼_refl (h ⊠ v w)) (grown (sum_low (c + d) 4) (from_one w)))) (≼_refl (u 1000 ⊠ v w))) in
        let third : h ⊠ v w ⊞ (q ⊠ v w ⊞ u 1000 ⊠ v w) ≈ (h ⊞ k) ⊠ v w =
        ≈-trans (⊞-proper (⊠-proper gap pv) (⊠-proper pk pv)) (⊞-cong (≈-refl (h ⊠ v w)) (≈-sym (⊞-⊠ q (u 1000) (v w)))) (≈-sym (⊞-⊠ h k (v w))) in
        let parts = ⊞-proper (⊠-proper pe pv) (⊠-proper (unit_proper 1000) pv) in
        let all : (u n ⊟ g) ⊠ v w ≼ (h ⊞ k) ⊠ v w =
        ≼_trans (⊠-proper (⊞-proper pe (unit_proper 1000)) pv) (⊠-mono v_low missing)
        (≈-≼ parts (⊞-⊠ (u e) (u 1000) (v w)) (≼-≈ (⊞-proper (⊠-proper gap pv) (⊞-proper (⊠-proper pq pv) (⊠-proper (unit_proper 1000) pv))) second third)) in
        let end = lowered (⊟-proper (unit_proper n) pg) (⊞-proper gap pk) pv (v_above w) all in
        ≼_trans (⊞-proper pg' pk) (≼-≈ (⊞-proper pg (⊞-proper gap pk)) ((move (u n) g (h ⊞ k)).0 end) (onward g g' k))
        (⊞-mono (≼_refl g') (≼_trans (⊞-proper (unit_proper (c + d + 4)) (unit_proper 1000)) (⊞-mono (≈→≼ (unit_sum (c + d) 4)) (≼_refl (u 1000))) (≈→≼ (unit_sum (c + d + 4) 1000))))

    module _ (up : series w ≤ n) (small : δ ≤ 2 ^ 56) where
      not_over : g' ≼ u n ⊞ u 1300
      not_over =
          let q = u 4 ⊞ u 257 in
          let pq = ⊞-proper (unit_proper 4) (unit_proper 257) in
          let a = u n ⊟ g in
          let pa = ⊟-proper (unit_proper n) pg in
          let b = g' ⊟ g in
          let o = u 1000 in
          let po = unit_proper 1000 in
          let pe = unit_proper e in
          let counted : u e ≼ a ⊞ o = (move (u e) a o).0 (within_same pe (difference (series w) n (2 ^ 60) up) (within_rest (unit_proper n) around)).not_above in
          let tail = over 45 (32 * 2 ^ 60) ⊠ (u δ ⊠ u δ) ⊞ over 1 (2 ^ 48) ⊠ u δ in
          let under : b ⊠ v w ≼ u δ ⊞ tail = rw (⊞-assoc (u δ) (over 45 (32 * 2 ^ 60) ⊠ (u δ ⊠ u δ)) (over 1 (2 ^ 48) ⊠ u δ)) at (under_slope 60 W D X) in
          let pt = ⊞-proper (⊠-proper (over_proper 45 (32 * 2 ^ 60) (lit≤ tt)) (⊠-proper (unit_proper δ) (unit_proper δ))) (⊠-proper (over_proper 1 (2 ^ 48) (lit≤ tt)) (unit_proper δ)) in
          let first : b ⊠ v w ≼ u e ⊠ v w ⊞ q =
          rw (⊞-assoc (u e ⊠ v w) (u 4) (u 257)) at (≼_trans (⊞-proper (unit_proper δ) pt) under (⊞-mono ((move (u δ) (u e ⊠ v w) (u 4)).0 step.not_above) (off_count (32 * 2 ^ 60) δ (2 ^ 56) 1 256 small (lit≤ tt) (lit≤ tt)))) in
          let second : u e ⊠ v w ⊞ q ≼ (a ⊞ o) ⊠ v w ⊞ q ⊠ v w = ⊞-mono (⊠-mono v_low counted) (grown (sum_low 4 257) (from_one w)) in
          let pao = ⊞-proper pa po in
          let all : b ⊠ v w ≼ (a ⊞ o ⊞ q) ⊠ v w =
          ≼_trans (⊞-proper (⊠-proper pe pv) pq) first (≼-≈ (⊞-proper (⊠-proper pao pv) (⊠-proper pq pv)) second (≈-sym (⊞-⊠ (a ⊞ o) q (v w)))) in
          let end : b ≼ a ⊞ (o ⊞ q) = rw (⊞-assoc a o q) at (lowered gap (⊞-proper pao pq) pv (v_above w) all) in
          let poq = ⊞-proper po pq in
          ≼_trans (⊞-proper (unit_proper n) poq) (≼-≈ (⊞-proper pg (⊞-proper pa poq)) ((move g' g (a ⊞ (o ⊞ q))).0 end) (onward g (u n) (o ⊞ q)))
          (⊞-mono (≼_refl (u n)) (≼_trans (⊞-proper po (unit_proper 261)) (⊞-mono (≼_refl o) (≈→≼ (unit_sum 4 257))) (≼_trans (unit_proper 1261) (≈→≼ (unit_sum 1000 261)) (unit-≼ (lit≤ tt)))))

    kept : δ ≤ 2 ^ 56 → (u (series w) ≼ u n) ⊎ (u n ≼ u (series w)) → G (u (w + δ)) ≼ u n ⊞ u 1300
    kept small (inl up) = ≈-≼ pg' (G_same (unit_proper (w + δ)) X.proper (≈-sym sum)) (not_over (≼-unit up) small)
    kept small (inr down) =
        let none : w + δ ≡ w = omega (arith, stretched_most w e few, ≼-unit down) in
        rw none s.not_past

    pub round : b ≤ 2 ^ 56 → Stage (m + b) (c + d + 1004) n (nearer n w)
    unfolding nearer
    round h = record {
      most = omega (arith, δ_b, s.most);
      not_past = kept (le_trans δ_b h) (≼-total (u (series w)) (u n));
      short = ≼_trans (⊞-proper pg' (unit_proper (c + d + 4 + 1000))) still_missing (⊞-mono (≈→≼ (G_same X.proper (unit_proper (w + δ)) sum)) (unit-≼ (omega arith)));
    }

-- ---- the first, from n itself, and four of them

cubed : (n : ℕ) → n ≤ 13 * 2 ^ 55 → u n ⊠ u n ⊠ over 1 3 ⊠ u n ≼ u 25766688493054636
cubed n h =
    rw (over-⊠ n (2 ^ 60) n (2 ^ 60), over-⊠ (n * n) (2 ^ 60 * 2 ^ 60) 1 3, over-⊠ (n * n * 1) (2 ^ 60 * 2 ^ 60 * 3) n (2 ^ 60))
    ((over-≼ (n * n * 1 * n) (2 ^ 60 * 2 ^ 60 * 3 * 2 ^ 60) 25766688493054636 (2 ^ 60)).1 (mul-le-mul_right (2 ^ 60) most))
  where
    most : n * n * 1 * n ≤ 25766688493054636 * (2 ^ 60 * 2 ^ 60 * 3)
    most = le_trans (mul-le-mul (mul-le-mul_right 1 (mul-le-mul h h)) h) (lit≤ tt)

pub start : (n : ℕ) → n ≤ 13 * 2 ^ 55 → Stage (13 * 2 ^ 55) 25766688493054636 n n
start n h =
    let N = unit_in n (le_trans h (lit≤ tt)) in
    let p = unit_proper n in
    record {
      most = h;
      not_past = ≼_trans p (G_high p N.low N.high) (no_less (u n) (unit_low 1300));
      short = ≼_trans (⊞-proper (G_proper p) (⊠-proper (⊠-proper (⊠-proper p p) (over_proper 1 3 (lit≤ tt))) p)) ((move (u n) (G (u n)) (u n ⊠ u n ⊠ over 1 3 ⊠ u n)).0 (third p N.low N.high).not_below) (⊞-mono (≼_refl (G (u n))) (cubed n h));
    }

-- how large w may be after so many rounds, and how short of n
abbrev pub highs : ℕ → ℕ
highs zero = 13 * 2 ^ 55
highs (suc zero) = 500582721862851129
highs (suc (suc zero)) = 502164370635973902
highs (suc (suc (suc zero))) = 502168184743272892
highs (suc (suc (suc (suc k)))) = 502168184765455250

abbrev pub shorts : ℕ → ℕ
shorts zero = 25766688493054636
shorts (suc zero) = 1265319018497218
shorts (suc (suc zero)) = 3051285838192
shorts (suc (suc (suc zero))) = 17744886
shorts (suc (suc (suc (suc k)))) = 1006

pub highs_few : (k : ℕ) → highs k ≤ 2 ^ 59
highs_few zero = lit≤ tt
highs_few (suc zero) = lit≤ tt
highs_few (suc (suc zero)) = lit≤ tt
highs_few (suc (suc (suc zero))) = lit≤ tt
highs_few (suc (suc (suc (suc k)))) = lit≤ tt

pub next : {n w : ℕ} (i : ℕ) → i < rounds → Stage (highs i) (shorts i) n w → Stage (highs (suc i)) (shorts (suc i)) n (nearer n w)
next zero h s = round (lit≤ tt) s 32208360616319545 1265319018496099 115 (lit≤ tt) (lit≤ tt) (lit≤ tt) (lit≤ tt) (lit≤ tt)
next (suc zero) h s = round (lit≤ tt) s 1581648773122773 3051285837182 6 (lit≤ tt) (lit≤ tt) (lit≤ tt) (lit≤ tt) (lit≤ tt)
next (suc (suc zero)) h s = round (lit≤ tt) s 3814107298990 17743881 1 (lit≤ tt) (lit≤ tt) (lit≤ tt) (lit≤ tt) (lit≤ tt)
next (suc (suc (suc zero))) h s = round (lit≤ tt) s 22182358 1 1 (lit≤ tt) (lit≤ tt) (lit≤ tt) (lit≤ tt) (lit≤ tt)
next (suc (suc (suc (suc k)))) h s = absurd (omega arith)

refined_stage : {n w : ℕ} (k i : ℕ) → k + i ≡ rounds → Stage (highs i) (shorts i) n w → Stage (highs rounds) (shorts rounds) n (refined k n w)
unfolding refined
refined_stage {n} {w} zero i k s = let all : i ≡ rounds = omega arith in subst (λ (j : ℕ). Stage (highs j) (shorts j) n w) all s
refined_stage {n = n} {w = w} (suc k) i l s = refined_stage {w = nearer n w} k (suc i) (omega arith) (next i (omega arith) s)

pub refined_near : (n : ℕ) → n ≤ 13 * 2 ^ 55 → (refined rounds n n ≤ 2 ^ 59) × Within (u 1300) (G (u (refined rounds n n))) (u n)
refined_near n h =
    let s = refined_stage rounds 0 refl (start n h) in
    let w = refined rounds n n in
    let g = G_proper (unit_proper w) in (
      le_trans s.most (lit≤ tt),
      record {
        left = g;
        right = unit_proper n;
        not_above = (move (G (u w)) (u n) (u 1300)).1 s.not_past;
        not_below = (move (u n) (G (u w)) (u 1300)).1 (≼_trans (⊞-proper g (unit_proper (shorts rounds))) s.short (⊞-mono (≼_refl (G (u w))) (unit-≼ (lit≤ tt))));
      },
    )
