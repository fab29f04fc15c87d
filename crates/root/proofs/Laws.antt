-- What a customer may hold of `root`, stated over its definition. A unit is the smallest f64, 2 ^ -1074. Assumes nothing.
use mathlib.Core.Path.{◌≡◌, refl, sym, ap, ◌∙◌, subst}
use mathlib.Core.Logic.{◌⊎◌, inl, inr}
use mathlib.Core.Bool.{Bool, true, false, ◌&&◌, true≢false}
use Prim.Native.Nat.{ℕ, zero, suc, ◌+◌, ◌-◌, ◌*◌, ◌/◌, ◌^◌, ◌≤◌, ◌<◌, zero-le}
use native.Mathlib.Nat.{le_trans, le_of_eq, lt_of_lt_of_le, lt_irrefl, not-le_of_lt, lt_of_not-le, eq-or-lt_of_le, mul-le-mul_right, mul-lt-mul_of_pos_right, mul_assoc, mul_right_comm, mul-pos, one-mul, eq-zero-or-pos, zero-mul, lt_of_mul-lt-mul_right, le_antisymm, le_of_suc-le-suc, lt_of_le_of_lt, le_refl, le_of_lt, mul-le-mul, zero-lt-suc}
use native.Mathlib.Omega.{arith}
use lib.Dec.{T, lt→ltb, lit≤}
use lib.IntN.{ℤ}
use lib.Pow.{pow-add, pow_pos, pow_mono, pow-lt, shl_lt}
use lib.Ieee.{Float, nan, inf, fin, binary64, down, size, round, le, of_bits, fits}
use lib.Ieee.Digits.{size-le}
use lib.Ieee.Fits.{round-fits}
use lib.Ieee.Exact.{HasValue, round_exact}
use lib.Ieee.Positive.{value_pos}
use Rattle.exact.specs.F64.{f64}
use Rattle.exact.proofs.Pattern.{in_units, in_range, same_units, rescaled, unique}
use Rattle.root.specs.Limit.{Normal, units}
use Rattle.root.specs.Root.{largest, reaches, last, nearest_root, root}
use lib.Ieee.Bits.{of_bits-fits}
use Rattle.root.proofs.AtMost.{normal_value, units_pos, nan_first, inf_first, zero_first, from_zero, from_below, from_above, decided}
use Rattle.root.proofs.Step.{binomial}
use Rattle.root.proofs.Whole.{root_of}
use Rattle.root.proofs.Middle.{nearest, no_nearer, largest_up_to}
use Rattle.exact.specs.Determined.{Determined}
use Rattle.root.proofs.root.Reads as root-contract

-- ---- from units to 2 ^ -2148
finer : (x : Float) (u : ℕ) → HasValue x false u (2 ^ 1074) → HasValue x false (u * 2 ^ 1074) (2 ^ 2148)
finer x u v =
    rescaled x false u (2 ^ 1074) (u * 2 ^ 1074) (2 ^ 2148) (pow_pos 1074)
    (ap (λ (z : ℕ). u * z) (pow-add 2 1074 1074) ∙ sym (mul_assoc u (2 ^ 1074) (2 ^ 1074))) v

-- ---- a finite f64 above zero, counted in 2 ^ -2148: at least 2 ^ 1074, and below 2 ^ 3172
at_least : (x : Float) (n : ℕ) → T (fits binary64 x) → 0 < n → HasValue x false n (2 ^ 2148) → 2 ^ 105 ≤ n
at_least nan n f p h = absurd h
at_least (inf t) n f p h = absurd h
at_least (fin t m e) n f p h =
    let I = in_units binary64 t m e f in
    let d = I.digits * 2 ^ I.zeros in
    let w = subst (λ (s : Bool). HasValue (fin t m e) s d (2 ^ 1074)) h.0 I.value in
    let v : HasValue (fin t m e) false (d * 2 ^ 1074) (2 ^ 2148) = finer (fin t m e) d w in
    let same : n ≡ d * 2 ^ 1074 = same_units (fin t m e) false n (d * 2 ^ 1074) (2 ^ 2148) (pow_pos 2148) h v in
    let some = mul-le-mul_right (2 ^ 1074) (positive d (subst (λ (z : ℕ). 0 < z) same p)) in
    le_trans (le_trans (pow_mono {i = 105} {j = 1074} (lit≤ tt)) (le_trans (le_of_eq (sym (one-mul (2 ^ 1074)))) some)) (le_of_eq (sym same))
  where
    positive : (d : ℕ) → 0 < d * 2 ^ 1074 → 1 ≤ d
    positive d h = elim (eq-zero-or-pos d) [
      | inl z ↦ absurd (lt_irrefl 0 (subst (λ (y : ℕ). 0 < y) (ap (λ (y : ℕ). y * 2 ^ 1074) z ∙ zero-mul (2 ^ 1074)) h))
      | inr q ↦ q
    ]

at_most_lem : (x : Float) (n : ℕ) → T (fits binary64 x) → HasValue x false n (2 ^ 2148) → n < 2 ^ 3172
at_most_lem nan n f h = absurd h
at_most_lem (inf t) n f h = absurd h
at_most_lem (fin true m e) n f h = absurd (true≢false h.0)
at_most_lem (fin false m e) n f h =
    lt_of_mul-lt-mul_right (down e)
    (lt_of_le_of_lt (le_of_eq (sym h.1))
    (lt_of_lt_of_le (mul-lt-mul_of_pos_right (in_range binary64 m e f) (pow_pos 2148))
    (le_of_eq (mul_right_comm (2 ^ 1024) (down e) (2 ^ 2148) ∙ ap (λ (z : ℕ). z * down e) (sym (pow-add 2 1024 2148))))))

last_small : (n : ℕ) → n < 2 ^ 3172 → last n < 1600
last_small n h = small (size n) (size-le n 3172 h)
  where
    small : (z : ℕ) → z ≤ 3172 → (z + 1) / 2 - 53 < 1600
    small z l = omega arith

-- ---- the root is so many steps of its last place, exactly
steps_value : (r k : ℕ) → r ≤ 2 ^ 53 → k < 1600 → HasValue (round binary64 false (r * 2 ^ k) (2 ^ 1074)) false (r * 2 ^ k) (2 ^ 1074)
steps_value r k h l = go (eq-or-lt_of_le h)
  where
    go : (r ≡ 2 ^ 53) ⊎ (r < 2 ^ 53) → HasValue (round binary64 false (r * 2 ^ k) (2 ^ 1074)) false (r * 2 ^ k) (2 ^ 1074)
    go (inl e) =
        round_exact binary64 false (r * 2 ^ k) (2 ^ 1074) 1 (53 + k) (pow_pos 1074) (lit≤ tt)
        (subst (λ (z : ℕ). z < 2 ^ 2098) (sym (one-mul (2 ^ (53 + k)))) (pow-lt {i = 53 + k} {j = 2098} (omega arith)))
        (ap (λ (z : ℕ). z * 2 ^ 1074) (ap (λ (z : ℕ). z * 2 ^ k) e ∙ sym (pow-add 2 53 k) ∙ sym (one-mul (2 ^ (53 + k)))))
    go (inr g) =
        round_exact binary64 false (r * 2 ^ k) (2 ^ 1074) r k (pow_pos 1074) g
        (lt_of_lt_of_le (shl_lt 53 k g) (pow_mono {i = 53 + k} {j = 2098} (omega arith))) refl

abbrev steps : ℕ → ℕ
steps n = largest (reaches n (last n)) (2 ^ 53)

nearest_root_is : (n : ℕ) → nearest_root n ≡ round binary64 false (steps n * 2 ^ last n) (2 ^ 1074)
unfolding nearest_root
nearest_root_is n = refl

rooted : (x : Float) (n : ℕ) → T (fits binary64 x) → 0 < n → HasValue x false n (2 ^ 2148) → HasValue (root x) false (steps n * 2 ^ last n) (2 ^ 1074)
rooted x n f p h =
    subst (λ (z : Float). HasValue z false (steps n * 2 ^ last n) (2 ^ 1074)) (sym (root_of x n p h ∙ nearest_root_is n))
    (steps_value (steps n) (last n) (largest_up_to (reaches n (last n)) (2 ^ 53)) (last_small n (at_most_lem x n f h)))

root_held : (x : Float) (n : ℕ) → 0 < n → HasValue x false n (2 ^ 2148) → T (fits binary64 (root x))
root_held x n p h =
    subst (λ (z : Float). T (fits binary64 z)) (sym (root_of x n p h ∙ nearest_root_is n)) (round-fits binary64 false (steps n * 2 ^ last n) (2 ^ 1074))

-- ---- a number that is the nearest to a whole root is that root
square_lt : (a b : ℕ) → a < b → a * a < b * b
square_lt a b h = lt_of_le_of_lt (mul-le-mul (le_refl a) (le_of_lt h)) (mul-lt-mul_of_pos_right h (lt_of_le_of_lt zero-le h))

meet : (r u : ℕ) → (u < r → (u + r) * (u + r) ≤ 4 * (u * u)) → (r < u → 4 * (u * u) ≤ (u + r) * (u + r)) → r ≡ u
meet r u a b =
    let d : (u + u) * (u + u) ≡ 4 * (u * u) = binomial u u ∙ four (u * u) in
    le_antisymm
    (le_of_suc-le-suc (lt_of_not-le (λ (l : u < r). not-le_of_lt (square_lt (u + u) (u + r) (omega arith)) (le_trans (a l) (le_of_eq (sym d))))))
    (le_of_suc-le-suc (lt_of_not-le (λ (l : r < u). not-le_of_lt (square_lt (u + r) (u + u) (omega arith)) (le_trans (le_of_eq d) (b l)))))
  where
    four : (x : ℕ) → x + 2 * x + x ≡ 4 * x
    four x = omega arith

-- ==== The laws

-- The root of a finite f64 above zero is finite and not negative: a whole number of units.
pub root_units : (x : Float) (n : ℕ) → T (fits binary64 x) → 0 < n → HasValue x false n (2 ^ 2148) → (r : ℕ) × HasValue (root x) false r (2 ^ 1074)
root_units x n f p h = (steps n * 2 ^ last n, rooted x n f p h)

-- No f64 is nearer to the exact root. Say that x is n of 2 ^ -2148, its root r units, and y, any finite f64 that is not
-- negative, u units. If y is below the root, then so much so that the middle of the two, (u + r) / 2, isn't past the
-- exact root: its square is at most n. If y is above, the middle isn't below the exact root.
pub root_nearest : (x y : Float) (n r u : ℕ) → T (fits binary64 x) → T (fits binary64 y) → 0 < n
    → HasValue x false n (2 ^ 2148) → HasValue (root x) false r (2 ^ 1074) → HasValue y false u (2 ^ 1074)
    → (u < r → (u + r) * (u + r) ≤ 4 * n) × (r < u → 4 * n ≤ (u + r) * (u + r))
root_nearest x nan n r u f g p h v w = absurd w
root_nearest x (inf t) n r u f g p h v w = absurd w
root_nearest x (fin t m e) n r u f g p h v w =
    let I = in_units binary64 t m e g in
    let d = I.digits * 2 ^ I.zeros in
    let d-units = subst (λ (s : Bool). HasValue (fin t m e) s d (2 ^ 1074)) w.0 I.value in
    let U : d ≡ u = same_units (fin t m e) false d u (2 ^ 1074) (pow_pos 1074) d-units w in
    let R : steps n * 2 ^ last n ≡ r = same_units (root x) false (steps n * 2 ^ last n) r (2 ^ 1074) (pow_pos 1074) (rooted x n f p h) v in
    subst (λ (a : ℕ). (a < r → (a + r) * (a + r) ≤ 4 * n) × (r < a → 4 * n ≤ (a + r) * (a + r))) U
    (subst (λ (b : ℕ). (d < b → (d + b) * (d + b) ≤ 4 * n) × (b < d → 4 * n ≤ (d + b) * (d + b))) R
    (no_nearer n (last n) (steps n) I.digits I.zeros (nearest n (at_least x n f p h)) I.few))

-- The root of a square is exact: if y squared is x, with y above zero, then the root of x is y.
pub root_exact :
    (x y : Float) (u : ℕ) → T (fits binary64 x) → T (fits binary64 y) → 0 < u
    → HasValue x false (u * u) (2 ^ 2148) → HasValue y false u (2 ^ 1074) → root x ≡ y
root_exact x y u f g p h w =
    let n = u * u in
    let P : 0 < n = mul-pos p p in
    let r = steps n * 2 ^ last n in
    let v = rooted x n f P h in
    let N = root_nearest x y n r u f g P h v w in
    let same : r ≡ u = meet r u N.0 N.1 in
    unique binary64 (root x) y false u (2 ^ 1074) (pow_pos 1074) (root_held x n P h) g (subst (λ (z : ℕ). HasValue (root x) false z (2 ^ 1074)) same v) w

-- NaN, infinity, the zeros with their signs, and what is below zero.
pub root_special :
    (root nan ≡ nan) × (root (inf false) ≡ inf false) × (root (inf true) ≡ nan)
    × ((s : Bool) (e : ℤ) → root (fin s 0 e) ≡ fin s 0 e) × ((m : ℕ) (e : ℤ) → root (fin true (suc m) e) ≡ nan)
unfolding root
root_special = (refl, refl, refl, λ s e. refl, λ m e. refl)

-- To compare a root with a limit is to compare x itself with one f64. Let e be the limit's pattern and b that f64's. A
-- root rounds past the limit where it is past the middle between the limit and the next f64, which is half the sum of
-- their units. If the square of the middle lies between b and the next f64, then for every x, NaN, infinities, zeros
-- and negatives included: the root of x is at most the limit exactly if x is at least zero and at most b.
pub root_at_most : (e b : ℕ) → Normal e → Normal b
    → 4 * (units b * 2 ^ 1074) < (units e + units (suc e)) * (units e + units (suc e))
    → (units e + units (suc e)) * (units e + units (suc e)) < 4 * (units (suc b) * 2 ^ 1074)
    → (x : Float) → T (fits binary64 x) → le (root x) (f64 e) ≡ (le (f64 0) x && le x (f64 b))
root_at_most e b E B lo hi x f = go x f (normal_value e E) (normal_value b B)
  where
    -- no root: x is not at least zero
    neither : (x : Float) → root x ≡ nan → le (f64 0) x ≡ false → le (root x) (f64 e) ≡ (le (f64 0) x && le x (f64 b))
    neither x n h = ap (λ (y : Float). le y (f64 e)) n ∙ nan_first (f64 e) ∙ sym (ap (λ (t : Bool). t && le x (f64 b)) h)

    from : (x : Float) → le (f64 0) x ≡ true → le (root x) (f64 e) ≡ le x (f64 b) → le (root x) (f64 e) ≡ (le (f64 0) x && le x (f64 b))
    from x h p = p ∙ sym (ap (λ (t : Bool). t && le x (f64 b)) h)

    go : (x : Float) → T (fits binary64 x) → HasValue (f64 e) false (units e) (2 ^ 1074) → HasValue (f64 b) false (units b) (2 ^ 1074)
        → le (root x) (f64 e) ≡ (le (f64 0) x && le x (f64 b))
    go nan f v w = neither nan root_special.0 (unfold le of_bits in refl)
    go (inf true) f v w = neither (inf true) root_special.2 (unfold le of_bits in refl)
    go (inf false) f v w =
        from (inf false) (unfold le of_bits in refl)
        (ap (λ (y : Float). le y (f64 e)) root_special.1 ∙ inf_first (f64 e) (units e) (2 ^ 1074) v ∙ sym (inf_first (f64 b) (units b) (2 ^ 1074) w))
    go (fin s zero d) f v w =
        from (fin s zero d) (from_zero s d)
        (ap (λ (y : Float). le y (f64 e)) (root_special.3 s d)
        ∙ zero_first s d (f64 e) (units e) (2 ^ 1074) (units_pos e) v
        ∙ sym (zero_first s d (f64 b) (units b) (2 ^ 1074) (units_pos b) w))
    go (fin true (suc m) d) f v w = neither (fin true (suc m) d) (root_special.4 m d) (from_below m d)
    go (fin false (suc m) d) f v w =
        let x = fin false (suc m) d in
        let I = in_units binary64 false (suc m) d f in
        let u = I.digits * 2 ^ I.zeros in
        let n = u * 2 ^ 1074 in
        let h : HasValue x false n (2 ^ 2148) = finer x u I.value in
        let p : 0 < n = value_pos x n (2 ^ 2148) (lt→ltb 0 (suc m) (zero-lt-suc m)) (pow_pos 2148) h in
        let r = root_units x n f p h in
        from x (from_above m d)
        (decided e b u r.0 x (root x) E B lo hi f (root_held x n p h) I.value r.1 (λ y w g v. root_nearest x y n r.0 w f g p h r.1 v))

-- Any two answers to one call that the contract of `root` permits are equal.
pub root_determined : Determined root-contract.Post
root_determined κ a s s' r r' p q = p ∙ sym q

-- The number to check by hand: the root of 2.25 is 1.5.
pub by_hand : root (f64 0x4002_0000_0000_0000) ≡ f64 0x3ff8_0000_0000_0000
by_hand =
    root_exact (f64 0x4002_0000_0000_0000) (f64 0x3ff8_0000_0000_0000) (3 * 2 ^ 1073)
    (of_bits-fits binary64 0x4002_0000_0000_0000) (of_bits-fits binary64 0x3ff8_0000_0000_0000)
    (mul-pos {m = 3} (lit≤ tt) (pow_pos 1073)) two_and_a_quarter one_and_a_half
  where
    two_and_a_quarter : HasValue (f64 0x4002_0000_0000_0000) false (3 * 2 ^ 1073 * (3 * 2 ^ 1073)) (2 ^ 2148)
    two_and_a_quarter = unfold of_bits in (refl, refl)

    one_and_a_half : HasValue (f64 0x3ff8_0000_0000_0000) false (3 * 2 ^ 1073) (2 ^ 1074)
    one_and_a_half = unfold of_bits in (refl, refl)
