-- The arguments of arctangent's pieces: the quotient that a piece counts lies near the exact one, between 0 and 1/2 (`Piece`), and so does its count (`piece_counted`). Assumes nothing.
use Rattle.std.proofs.Common.{◌≡◌, ℕ, ◌+◌, ◌-◌, ◌*◌, ◌^◌, ◌<◌, ◌≤◌, false, T, pos, refl, ap, lt_of_lt_of_le, mul-le-mul_right, zero-lt-suc, add-sub_of_le, lt_of_mul-lt-mul_right, mul-pos, le_of_mul-le-mul_right, arith, lit<, lit≤, pow_pos}
use lib.Ieee.{Float, inf, fin, binary64, div, of_bits, fits}
use lib.Ieee.Scale.{finite}
use lib.Ieee.Positive.{num, den, den_pos}
use Rattle.exact.specs.F64.{◌⊕◌, ◌⊖◌, ◌⊘◌}
use Rattle.exact.specs.Fraction.{Fraction, Proper, ◌≼◌, ◌≺◌, ◌≈◌, over, whole, ◌⊞◌, ◌⊟◌, opposite, ◌⊠◌, ◌⧄◌, Within, exactly}
use Rattle.exact.proofs.Fractions.{over_proper, whole_proper, exactly_proper, ⊞-proper, ⊟-proper, ⧄-proper, ≼_refl, ≈-refl, ≡→≈, ⊠-one, within_refl, over-≼, over-⊠, over-⊞, ≼_trans, ≼-≺-trans, ≺-≼-trans, ≺→≼, ≈→≼, ≈-sym, ≈-trans, within_to, within_trans, within_wider}
use Rattle.arctan.specs.Arctangent.{one, counted}
use Rattle.arctan.proofs.Rounds.{plain, plain_finite, plain_exactly, plain_low, above_plain, apart, together, over-≺, over_sum, over_difference, over_quotient, num_above, sum_near, difference_near, quotient_near}
use Rattle.arctan.proofs.Counts.{counted_near}
use Rattle.arctan.proofs.Compared.{one_plain, one_is}

-- ---- a quotient of perturbed numbers: u / a is within 4 / 2 ^ 55 of k / c, and w / b within 8 / 2 ^ 55 of s / c.
-- With w / b at least 1 and k / s at most 1/2, their quotient is within 8 / 2 ^ 55 of k / s.

moved_up : (u a w b k s c : ℕ) → b ≤ w → 2 * k ≤ s → u * c * 2 ^ 55 ≤ k * a * 2 ^ 55 + 4 * (a * c) → s * b * 2 ^ 55 ≤ w * c * 2 ^ 55 + 8 * (b * c)
    → u * b * s * 2 ^ 55 * c ≤ (k * (w * a) * 2 ^ 55 + 8 * (w * a * s)) * c
moved_up u a w b k s c h m p q = omega (arith, mul-le-mul_right (b * s) p, mul-le-mul_right (k * a) q, mul-le-mul_right (b * c * a) m, mul-le-mul_right (a * s * c) h)

moved_down : (u a w b k s c : ℕ) → b ≤ w → 2 * k ≤ s → k * a * 2 ^ 55 ≤ u * c * 2 ^ 55 + 4 * (a * c) → w * c * 2 ^ 55 ≤ s * b * 2 ^ 55 + 8 * (b * c)
    → k * (w * a) * 2 ^ 55 * c ≤ (u * b * s * 2 ^ 55 + 8 * (w * a * s)) * c
moved_down u a w b k s c h m p q = omega (arith, mul-le-mul_right (b * s) p, mul-le-mul_right (k * a) q, mul-le-mul_right (b * c * a) m, mul-le-mul_right (a * s * c) h)

perturbed : (u a w b k s c : ℕ) → 0 < c → 0 < w * a → 0 < s → b ≤ w → 2 * k ≤ s → Within (over 4 (2 ^ 55)) (over u a) (over k c) → Within (over 8 (2 ^ 55)) (over w b) (over s c)
    → Within (over 8 (2 ^ 55)) (over (u * b) (w * a)) (over k s)
perturbed u a w b k s c C W S h m x y =
    let x' = apart 4 (2 ^ 55) u a k c x in
    let y' = apart 8 (2 ^ 55) w b s c y in
    together 8 (2 ^ 55) (u * b) (w * a) k s W S (le_of_mul-le-mul_right (moved_up u a w b k s c h m x'.0 y'.1) C) (le_of_mul-le-mul_right (moved_down u a w b k s c h m x'.1 y'.0) C)

-- ---- what a piece's argument z is to the exact one, v

pub record Piece (z : Float) (v : Fraction) : Type 0 where
  pub number : T (finite z)
  pub low : whole 0 ≼ exactly z
  pub high : exactly z ≼ over 1 2
  pub near : Within (over 399 (2 ^ 60)) (exactly z) v
  pub from : whole 0 ≼ v
  pub to : v ≼ over 3 7

half_high : (n d k s : ℕ) → 0 < s → 7 * k ≤ 3 * s → n * s * 2 ^ 55 ≤ k * d * 2 ^ 55 + 10 * (d * s) → n * 2 ≤ 1 * d
half_high n d k s S h l = le_of_mul-le-mul_right (omega (arith, mul-le-mul_right d h)) S

-- near a v of at most 3/7
finish : (z : Float) (v : Fraction) (k s : ℕ) → T (plain z) → Proper v → v ≈ over k s → 0 < s → 7 * k ≤ 3 * s → Within (over 10 (2 ^ 55)) (exactly z) (over k s) → Piece z v
finish z v k s p N e S h w =
    let P = over_proper k s S in
    record {
      number = plain_finite z p;
      low = plain_low z p;
      high = rw (plain_exactly z p) ((over-≼ (num z) (den z) 1 2).1 (half_high (num z) (den z) k s S h (apart 10 (2 ^ 55) (num z) (den z) k s (rw (plain_exactly z p) at w)).0));
      near = within_to N (≈-sym e) (within_wider (over_proper 10 (2 ^ 55) (pow_pos 55)) ((over-≼ 10 (2 ^ 55) 399 (2 ^ 60)).1 (lit≤ tt)) w);
      from = ≼_trans P ((over-≼ 0 1 k s).1 (omega arith)) (≈→≼ (≈-sym e));
      to = ≼_trans P (≈→≼ e) ((over-≼ k s 3 7).1 (omega arith));
    }

-- ---- x near k / c and y near s / c, divided

at_one : (w b s c : ℕ) → 0 < c → 7 * c ≤ 5 * s → s * b * 2 ^ 55 ≤ w * c * 2 ^ 55 + 8 * (b * c) → b ≤ w
at_one w b s c C h l = le_of_mul-le-mul_right (omega (arith, mul-le-mul_right b h)) C

under_one : (u w k s : ℕ) → 0 < w → 0 < s → 7 * k ≤ 3 * s → u * s * 2 ^ 55 ≤ k * w * 2 ^ 55 + 8 * (w * s) → u * 2 < 2 * w
under_one u w k s W S h l = let m : u < w = lt_of_mul-lt-mul_right s (omega (arith, mul-le-mul_right w h, mul-pos W S)) in omega arith

divided : (x y : Float) (v : Fraction) (k s c : ℕ) → T (plain x) → T (plain y) → Proper v → v ≈ over k s → 0 < c → 7 * c ≤ 5 * s → 7 * k ≤ 3 * s
    → Within (over 4 (2 ^ 55)) (exactly x) (over k c) → Within (over 8 (2 ^ 55)) (exactly y) (over s c) → Piece (x ⊘ y) v
divided x y v k s c p q N e C h m nx ny =
    let u = num x in
    let a = den x in
    let w = num y in
    let b = den y in
    let nx' : Within (over 4 (2 ^ 55)) (over u a) (over k c) = rw (plain_exactly x p) at nx in
    let ny' : Within (over 8 (2 ^ 55)) (over w b) (over s c) = rw (plain_exactly y q) at ny in
    let l = at_one w b s c C h (apart 8 (2 ^ 55) w b s c ny').1 in
    let W = lt_of_lt_of_le (den_pos y) l in
    let WA = mul-pos W (den_pos x) in
    let S = positive c s C h in
    let n = perturbed u a w b k s c C WA S l (half k s m) nx' ny' in
    let o : whole 0 ≺ exactly y = rw (plain_exactly y q) ((over-≺ 0 1 w b).1 (above w b W)) in
    let D = ⧄-proper (exactly_proper x) o in
    let is : exactly x ⧄ exactly y ≈ over (u * b) (w * a) = rw (plain_exactly x p, plain_exactly y q) (over_quotient u a w b) in
    let l' = under_one (u * b) (w * a) k s WA S m (apart 8 (2 ^ 55) (u * b) (w * a) k s n).0 in
    let r = quotient_near x y 1 p q (lit≤ tt) o (≼-≺-trans D (≈→≼ is) ((over-≺ (u * b) (w * a) 2 2).1 l')) in
    finish (x ⊘ y) v k s r.plain N e S m
    (within_wider (⊞-proper (over_proper 2 (2 ^ 55) (pow_pos 55)) (over_proper 8 (2 ^ 55) (pow_pos 55))) (≈→≼ (over-⊞ 2 8 (2 ^ 55)))
    (within_trans (within_to (over_proper (u * b) (w * a) WA) is r.near) n))
  where
    positive : (c s : ℕ) → 0 < c → 7 * c ≤ 5 * s → 0 < s
    positive c s h k = omega arith

    half : (k s : ℕ) → 7 * k ≤ 3 * s → 2 * k ≤ s
    half k s h = omega arith

    above : (w b : ℕ) → 0 < w → 0 * b < w * 1
    above w b h = omega arith

-- ---- (p - q) / (p + q) for 1 ≤ p ≤ 5/2, q ≤ 1 and p ≤ 5/2 q, rounded thrice

ratio_crossed : (a b c s t o z k : ℕ) → o ≡ 0 → z ≡ 0 → t ≡ s → b + k ≡ a → (a + o) * c * s + 0 * (c * t) ≡ k * (c * t) + (z + b) * c * s
ratio_crossed a b c s t o z k o0 z0 e h = rw (o0, z0, e) (omega (arith, ap (λ (x : ℕ). x * (c * s)) h))

pub ratio : (a c b d k : ℕ) → b * c + k ≡ a * d → (over a c ⊟ over b d) ⧄ (over a c ⊞ over b d) ≈ over k (a * d + b * c)
unfolding over ◌⊞◌ opposite ◌⧄◌
ratio a c b d k e =
    record { holds = ratio_crossed (a * d) (b * c) (c * d) (a * d + b * c) (a * d + b * c - (0 * d + 0 * c)) (0 * c) (0 * d) k (omega arith) (omega arith) (omega arith) e }

-- what the bounds say of p = a / c and q = b / d, over one denominator
record Sides (a c b d : ℕ) : Type 0 where
  order : b * c ≤ a * d
  wide : 7 * (c * d) ≤ 5 * (a * d + b * c)
  narrow : 7 * (a * d - b * c) ≤ 3 * (a * d + b * c)
  less : (a * d - b * c) * 2 < 2 ^ 2 * (c * d)
  more : (a * d + b * c) * 2 < 2 ^ 3 * (c * d)

sided : (x y z : ℕ) → 0 < z → z ≤ x → x * 2 ≤ 5 * z → y ≤ z → x * 2 ≤ 5 * y
    → (y ≤ x) × (7 * z ≤ 5 * (x + y)) × (7 * (x - y) ≤ 3 * (x + y)) × ((x - y) * 2 < 2 ^ 2 * z) × ((x + y) * 2 < 2 ^ 3 * z)
sided x y z p h k l m = omega arith

sides : (a c b d : ℕ) → 0 < c → 0 < d → 1 * c ≤ a * 1 → a * 2 ≤ 5 * c → b * 1 ≤ 1 * d → a * (2 * d) ≤ 5 * b * c → Sides a c b d
sides a c b d C D h k l m =
    let r = sided (a * d) (b * c) (c * d) (mul-pos C D) (omega (arith, mul-le-mul_right d h)) (omega (arith, mul-le-mul_right d k)) (omega (arith, mul-le-mul_right c l)) (omega arith) in
    record { order = r.0; wide = r.1; narrow = r.2; less = r.3; more = r.4 }

thrice : (p q : Float) → T (plain p) → T (plain q) → whole 1 ≼ exactly p → exactly p ≼ over 5 2 → exactly q ≼ whole 1 → exactly p ≼ over 5 2 ⊠ exactly q
    → Piece ((p ⊖ q) ⊘ (p ⊕ q)) ((exactly p ⊟ exactly q) ⧄ (exactly p ⊞ exactly q))
thrice p q P Q h k l m =
    let a = num p in
    let c = den p in
    let b = num q in
    let d = den q in
    let eP = plain_exactly p P in
    let eQ = plain_exactly q Q in
    let g = sides a c b d (den_pos p) (den_pos q) ((over-≼ 1 1 a c).0 (rw eP at h)) ((over-≼ a c 5 2).0 (rw eP at k)) ((over-≼ b d 1 1).0 (rw eQ at l))
    ((over-≼ a c (5 * b) (2 * d)).0 (rw (eP, eQ, over-⊠ 5 2 b d) at m)) in
    let C = mul-pos (den_pos p) (den_pos q) in
    let gap = add-sub_of_le g.order in
    let minus_is : exactly p ⊟ exactly q ≈ over (a * d - b * c) (c * d) = rw (eP, eQ) (over_difference a c b d (a * d - b * c) gap) in
    let plus_is : exactly p ⊞ exactly q ≈ over (a * d + b * c) (c * d) = rw (eP, eQ) (over_sum a c b d) in
    let M = ⊟-proper (exactly_proper p) (exactly_proper q) in
    let S = ⊞-proper (exactly_proper p) (exactly_proper q) in
    let x = difference_near p q 2 P Q (lit≤ tt) (rw (eP, eQ) ((over-≼ b d a c).1 g.order)) (≼-≺-trans M (≈→≼ minus_is) ((over-≺ (a * d - b * c) (c * d) (2 ^ 2) 2).1 g.less)) in
    let y = sum_near p q 3 P Q (lit≤ tt) (≼-≺-trans S (≈→≼ plus_is) ((over-≺ (a * d + b * c) (c * d) (2 ^ 3) 2).1 g.more)) in
    let above : whole 0 ≺ exactly p ⊞ exactly q = ≺-≼-trans S ((over-≺ 0 1 (a * d + b * c) (c * d)).1 (some (c * d) (a * d + b * c) C g.wide)) (≈→≼ (≈-sym plus_is)) in
    divided (p ⊖ q) (p ⊕ q) ((exactly p ⊟ exactly q) ⧄ (exactly p ⊞ exactly q)) (a * d - b * c) (a * d + b * c) (c * d) x.plain y.plain (⧄-proper M above)
    (rw (eP, eQ) (ratio a c b d (a * d - b * c) gap)) C g.wide g.narrow (within_to (over_proper (a * d - b * c) (c * d) C) minus_is x.near) (within_to (over_proper (a * d + b * c) (c * d) C) plus_is y.near)
  where
    some : (z s : ℕ) → 0 < z → 7 * z ≤ 5 * s → 0 * z < s * 1
    some z s h k = omega arith

-- ---- the pieces

-- (1 - x) / (1 + x) between 2/5 and 1
pub up_to_one_near : (x : Float) → T (finite x) → over 2 5 ≺ exactly x → exactly x ≼ whole 1 → Piece ((one ⊖ x) ⊘ (one ⊕ x)) ((whole 1 ⊟ exactly x) ⧄ (whole 1 ⊞ exactly x))
up_to_one_near x f lo hi =
    let p = above_plain x f (≼-≺-trans (whole_proper 0) ((over-≼ 0 1 2 5).1 (lit≤ tt)) lo) in
    let wide : whole 1 ≼ over 5 2 ⊠ exactly x = rw (plain_exactly x p, over-⊠ 5 2 (num x) (den x)) ((over-≼ 1 1 (5 * num x) (2 * den x)).1 (at (num x) (den x) ((over-≺ 2 5 (num x) (den x)).0 (rw (plain_exactly x p) at lo)))) in
    rw one_is at (thrice one x one_plain p (rw one_is (≼_refl (whole 1))) (rw one_is ((over-≼ 1 1 5 2).1 (lit≤ tt))) hi (rw one_is wide))
  where
    at : (n d : ℕ) → 2 * d < n * 5 → 1 * (2 * d) ≤ 5 * n * 1
    at n d h = omega arith

-- (x - 1) / (x + 1) between 1 and 5/2
pub past_one_near : (x : Float) → T (finite x) → whole 1 ≺ exactly x → exactly x ≺ over 5 2 → Piece ((x ⊖ one) ⊘ (x ⊕ one)) ((exactly x ⊟ whole 1) ⧄ (exactly x ⊞ whole 1))
past_one_near x f lo hi =
    let p = above_plain x f (≼-≺-trans (whole_proper 0) ((over-≼ 0 1 1 1).1 (lit≤ tt)) lo) in
    rw one_is at (thrice x one p one_plain (≺→≼ lo) (≺→≼ hi) (rw one_is (≼_refl (whole 1))) (rw (one_is, ⊠-one (over 5 2)) (≺→≼ hi)))

-- ---- 1 / x

pub over_inverse : (n d : ℕ) → whole 1 ⧄ over n d ≡ over d n
unfolding over ◌⧄◌
over_inverse n d = path (omega arith) (omega arith) (omega arith)
  where
    path : {a b c a' b' c' : ℕ} → a ≡ a' → b ≡ b' → c ≡ c' → ◌≡◌ {A = Fraction} (record { plus = a; minus = b; under = c }) (record { plus = a'; minus = b'; under = c' })
    path p m u i = record { plus = p i; minus = m i; under = u i }

-- from 5/2 on
pub from_halves_near : (x : Float) → T (finite x) → over 5 2 ≼ exactly x → Piece (one ⊘ x) (whole 1 ⧄ exactly x) × (whole 1 ⧄ exactly x ≼ over 2 5)
from_halves_near x f h =
    let o : whole 0 ≺ exactly x = ≺-≼-trans (exactly_proper x) ((over-≺ 0 1 5 2).1 (lit< tt)) h in
    let p = above_plain x f o in
    let n = num x in
    let d = den x in
    let n0 = num_above x p o in
    let is : whole 1 ⧄ exactly x ≡ over d n = rw (plain_exactly x p) (over_inverse n d) in
    let l : 5 * d ≤ n * 2 = (over-≼ 5 2 n d).0 (rw (plain_exactly x p) at h) in
    let r = quotient_near one x 0 one_plain p (lit≤ tt) o (rw (one_is, is) ((over-≺ d n 1 2).1 (half n d n0 l))) in (
      finish (one ⊘ x) (whole 1 ⧄ exactly x) d n r.plain (⧄-proper (whole_proper 1) o) (≡→≈ is) n0 (small n d l)
          (within_wider (over_proper 1 (2 ^ 55) (pow_pos 55)) ((over-≼ 1 (2 ^ 55) 10 (2 ^ 55)).1 (lit≤ tt)) (rw (one_is, is) at r.near)),
      rw is ((over-≼ d n 2 5).1 (fifth n d l)),
    )
  where
    half : (n d : ℕ) → 0 < n → 5 * d ≤ n * 2 → d * 2 < 1 * n
    half n d h k = omega arith

    small : (n d : ℕ) → 5 * d ≤ n * 2 → 7 * d ≤ 3 * n
    small n d h = omega arith

    fifth : (n d : ℕ) → 5 * d ≤ n * 2 → d * 5 ≤ 2 * n
    fifth n d h = omega arith

-- of the infinity: +0
pub infinite_is : one ⊘ inf false ≡ fin false 0 (pos 0)
unfolding of_bits div
infinite_is = refl

zero_is : exactly (fin false 0 (pos 0)) ≡ whole 0
unfolding exactly
zero_is = refl

pub infinite_near : Piece (one ⊘ inf false) (whole 0)
infinite_near =
    rw infinite_is
    (finish (fin false 0 (pos 0)) (whole 0) 0 1 tt (whole_proper 0) (≈-refl (whole 0)) (zero-lt-suc 0) (lit≤ tt)
    (rw zero_is (within_refl (whole_proper 0) ((over-≼ 0 1 10 (2 ^ 55)).1 (lit≤ tt)))))

-- ---- between 1 and 5/2 the argument is that of 1 / x, which lies between 2/5 and 1

pub inverse_same : (x : Float) → T (finite x) → whole 1 ≺ exactly x
    → (exactly x ⊟ whole 1) ⧄ (exactly x ⊞ whole 1) ≈ (whole 1 ⊟ whole 1 ⧄ exactly x) ⧄ (whole 1 ⊞ whole 1 ⧄ exactly x)
inverse_same x f h =
    let p = above_plain x f (≼-≺-trans (whole_proper 0) ((over-≼ 0 1 1 1).1 (lit≤ tt)) h) in
    let n = num x in
    let d = den x in
    let e = plain_exactly x p in
    let l : 1 * d < n * 1 = (over-≺ 1 1 n d).0 (rw e at h) in
    let left = ratio n d 1 1 (n - d) (one_side n d l) in
    let right = ratio 1 1 d n (n - d) (other_side n d l) in
    rw (e, over_inverse n d)
    (≈-trans (over_proper (n - d) (n * 1 + 1 * d) (some n d l)) left
    (≈-trans (over_proper (n - d) (1 * n + d * 1) (some' n d l)) (rw (alike n d) (≈-refl (over (n - d) (1 * n + d * 1)))) (≈-sym right)))
  where
    one_side : (n d : ℕ) → 1 * d < n * 1 → 1 * d + (n - d) ≡ n * 1
    one_side n d h = omega arith

    other_side : (n d : ℕ) → 1 * d < n * 1 → d * 1 + (n - d) ≡ 1 * n
    other_side n d h = omega arith

    some : (n d : ℕ) → 1 * d < n * 1 → 0 < n * 1 + 1 * d
    some n d h = omega arith

    some' : (n d : ℕ) → 1 * d < n * 1 → 0 < 1 * n + d * 1
    some' n d h = omega arith

    alike : (n d : ℕ) → n * 1 + 1 * d ≡ 1 * n + d * 1
    alike n d = omega arith

pub inverse_between : (x : Float) → T (finite x) → whole 1 ≺ exactly x → exactly x ≺ over 5 2 → (over 2 5 ≺ whole 1 ⧄ exactly x) × (whole 1 ⧄ exactly x ≼ whole 1)
inverse_between x f lo hi =
    let p = above_plain x f (≼-≺-trans (whole_proper 0) ((over-≼ 0 1 1 1).1 (lit≤ tt)) lo) in
    let n = num x in
    let d = den x in
    let e = plain_exactly x p in
    let l : 1 * d < n * 1 = (over-≺ 1 1 n d).0 (rw e at lo) in
    let m : n * 2 < 5 * d = (over-≺ n d 5 2).0 (rw e at hi) in
    rw (e, over_inverse n d) ((over-≺ 2 5 d n).1 (omega arith), (over-≼ d n 1 1).1 (omega arith))

-- ---- a piece's argument, counted
pub piece_counted : (z : Float) {v : Fraction} → T (fits binary64 z) → Piece z v → Within (over 400 (2 ^ 60)) (over (counted z) (2 ^ 60)) v
piece_counted z f g =
    within_wider (⊞-proper (over_proper 1 (2 ^ 60) (pow_pos 60)) (over_proper 399 (2 ^ 60) (pow_pos 60))) (≈→≼ (over-⊞ 1 399 (2 ^ 60)))
    (within_trans (counted_near z f g.number g.low g.high).near g.near)
