-- An index that is a whole number: it isn't outside, its whole part is that number, and its fraction is a zero. So of the four cells around it the first comes back. Assumes nothing.
use Rattle.std.proofs.Common.{◌≡◌, ℕ, zero, ◌+◌, ◌-◌, ◌*◌, ◌^◌, ◌<◌, ◌≤◌, Bool, true, false, ◌&&◌, T, List, [], ◌∷◌, ℤ, sym, refl, ap, ◌∙◌, subst, inl, inr, le_trans, eq-zero-or-pos, mul-pos, arith, lit≤, le→leb}
use mathlib.Core.Bool.{false≢true}
use lib.Ieee.{Float, nan, inf, fin, binary32, binary64, up, down, round, lt, eq, of_bits, of_int, to_unsigned, fits, in_float}
use lib.Ieee.Fits.{up_pos, down_pos, round-fits, fits_widens}
use lib.Ieee.Back.{round_whole, unsigned_back, whole_unique}
use lib.Ieee.Scale.{finite}
use Rattle.exact.specs.F64.{◌⊖◌, ◌⊗◌, is_zero}
use Rattle.exact.specs.Fraction.{◌≼◌, ◌≈◌, over, whole, opposite, exactly}
use Rattle.exact.proofs.Zeros.{zero_added, zero_times, zero_less_zero, self_less}
use Rattle.exact.proofs.Infinite.{singles_differ}
use Rattle.exact.proofs.Fractions.{over-≼, over-≈, lt-≺, eq-≈, ≈-trans, ≈→≼, ≈-sym, ≼_trans, ≺-not-≼, exactly_proper, whole_proper}
use Rattle.lens.specs.Constants.{zeros}
use Rattle.lens.specs.Finite.{all_finite}
use Rattle.region.specs.Size.{float}
use Rattle.lookup.specs.Lookup.{outside, whole_part, fraction, neighbour, spot, between, blended, cell, number_at}
use Rattle.lookup.specs.Owed.{Singles, around, Same}
use Rattle.lookup.proofs.Among.{float_finite, float_exactly}
use Rattle.lookup.proofs.Steps.{first_finite, rest_finite}

pub record On (i : Float) (u cells : ℕ) : Type 0 where
  pub among : outside i cells ≡ false
  pub part : whole_part i ≡ u
  pub rest : is_zero (fraction i) ≡ true

-- ---- as numbers

number : (i : Float) (u : ℕ) → u ≤ 4096 → T (eq i (float u)) → T (finite i)
unfolding eq
number nan u h t = t
number (inf s) u h t = go (float u) (float_finite u h) t
  where
    go : (x : Float) → T (finite x) → T (eq (inf s) x) → ⊥
    go nan p t = elim p [ ]
    go (inf _) p t = elim p [ ]
    go (fin r m e) p t = t
number (fin s m e) u h t = tt

same_number : (i : Float) (u : ℕ) → u ≤ 4096 → T (eq i (float u)) → exactly i ≈ whole u
same_number i u h t = ≈-trans (exactly_proper (float u)) ((eq-≈ i (float u) (number i u h t) (float_finite u h)).0 t) (float_exactly u h)

-- ---- not outside

no_less : (x y : Float) → T (finite x) → T (finite y) → exactly y ≼ exactly x → lt x y ≡ false
no_less x y p q h = go (lt x y) refl
  where
    go : (b : Bool) → lt x y ≡ b → lt x y ≡ false
    go false e = e
    go true e = absurd (≺-not-≼ ((lt-≺ x y p q).0 (subst T (sym e) tt)) h)

zero_exactly : exactly zeros ≈ whole 0
unfolding exactly of_bits over
zero_exactly = record { holds = refl }

zero_finite : T (finite zeros)
unfolding of_bits
zero_finite = tt

not_outside : (i : Float) (u cells : ℕ) → u < cells → cells ≤ 4096 → T (finite i) → exactly i ≈ whole u → outside i cells ≡ false
not_outside i u cells l h p e =
    let last = cells - 1 in
    let few : last ≤ 4096 = omega arith in
    let low = no_less i zeros p zero_finite (≼_trans (whole_proper 0) (≈→≼ zero_exactly) (≼_trans (whole_proper u) ((over-≼ 0 1 u 1).1 (omega arith)) (≈→≼ (≈-sym e)))) in
    let high = no_less (float last) i (float_finite last few) p (≼_trans (whole_proper u) (≈→≼ e) (≼_trans (whole_proper last) ((over-≼ u 1 last 1).1 (omega arith)) (≈→≼ (≈-sym (float_exactly last few))))) in
    rw (low, high) refl

-- ---- its whole part and its fraction

back : (u : ℕ) → u ≤ 4096 → to_unsigned 64 (float u) ≡ u
unfolding float in_float
back u h = (unsigned_back binary64 64 u (le→leb u (2 ^ 53) (le_trans h (lit≤ tt))) (few u h)).1
  where
    few : (u : ℕ) → u ≤ 4096 → u < 2 ^ 64
    few u h = omega arith

float_itself : (m : ℕ) (e : ℤ) (u : ℕ) → u ≤ 4096 → T (fits binary64 (fin false m e)) → m * up e * 1 ≡ u * down e → fin false m e ≡ float u
unfolding float of_int
float_itself m e u h f v = whole_unique binary64 (fin false m e) (round binary64 false u 1) false u f (round-fits binary64 false u 1) (refl, v) (round_whole binary64 false u (le_trans h (lit≤ tt)))

no_rest : (u : ℕ) → u ≤ 4096 → is_zero (float u ⊖ float (to_unsigned 64 (float u))) ≡ true
unfolding is_zero of_bits
no_rest u h = rw (back u h, self_less (float u) (float_finite u h)) refl

-- -0
minus_part : (m : ℕ) (e : ℤ) (u : ℕ) → exactly (fin true m e) ≈ whole u → (m ≡ 0) × (u ≡ 0)
unfolding exactly over opposite
minus_part m e u h = (none m (up e) (up_pos e) (omega (arith, h.holds)), none u (down e) (down_pos e) (omega (arith, h.holds)))
  where
    none : (n k : ℕ) → 0 < k → n * k ≡ 0 → n ≡ 0
    none n k p z = elim (eq-zero-or-pos n) [ inl e ↦ e | inr q ↦ absurd (omega (arith, mul-pos q p)) ]

minus_rest : (e : ℤ) → is_zero (fin true zero e ⊖ float 0) ≡ true
unfolding float of_int is_zero
minus_rest e = zero_less_zero (fin true zero e) (round binary64 false 0 1) refl (unfold round in refl)

pub on : (i : Float) (u cells : ℕ) → T (fits binary64 i) → u < cells → cells ≤ 4096 → T (eq i (float u)) → On i u cells
unfolding to_unsigned exactly
on i u cells f l h t =
    let few : u ≤ 4096 = omega arith in
    go i f (number i u few t) (same_number i u few t)
  where
    go : (i : Float) → T (fits binary64 i) → T (finite i) → exactly i ≈ whole u → On i u cells
    go nan f p v = elim p [ ]
    go (inf _) f p v = elim p [ ]
    go (fin false m e) f p v =
        let few : u ≤ 4096 = omega arith in
        let is = float_itself m e u few f ((over-≈ (m * up e) (down e) u 1).0 v) in
        record {
          among = not_outside (fin false m e) u cells l h p v;
          part = ap (to_unsigned 64) is ∙ back u few;
          rest = ap (λ (x : Float). is_zero (x ⊖ float (to_unsigned 64 x))) is ∙ no_rest u few;
        }
    go (fin true m e) f p v =
        let z = minus_part m e u v in
        record {
          among = not_outside (fin true m e) u cells l h p v;
          part = sym z.1;
          rest = ap (λ (x : ℕ). is_zero (fin true x e ⊖ float 0)) z.0 ∙ minus_rest e;
        }

-- ---- the same number, but for -0, which may come back as +0

same_trans : (a b c : Float) → Same a b → Same b c → Same a c
same_trans a b c (inl p) (inl q) = inl (q ∙ p)
same_trans a b c (inl p) (inr q) = inr (sym p ∙ q.0, q.1)
same_trans a b c (inr p) (inl q) = inr (p.0, q ∙ p.1)
same_trans a b c (inr p) (inr q) = inr (p.0, q.1)

same_fits : {c r : Float} → T (fits binary32 c) → Same c r → T (fits binary32 r)
same_fits t (inl p) = subst (λ (x : Float). T (fits binary32 x)) (sym p) t
same_fits t (inr p) = subst (λ (x : Float). T (fits binary32 x)) (sym p.1) (unfold of_bits fits in tt)

pub same_finite : {c r : Float} → T (finite c) → Same c r → T (finite r)
same_finite t (inl p) = subst (λ (x : Float). T (finite x)) (sym p) t
same_finite t (inr p) = subst (λ (x : Float). T (finite x)) (sym p.1) zero_finite

-- between two f32s by a fraction of zero lies the first
between_zero : (c d a : Float) → T (fits binary32 c) → T (fits binary32 d) → T (finite c) → T (finite d) → is_zero a ≡ true → Same c (between c d a)
unfolding between
between_zero c d a f g p q z = zero_added c (a ⊗ (d ⊖ c)) (fits_widens c f) (zero_times a (d ⊖ c) z (singles_differ d c g f q p))

-- ---- the first of four

module _ (c00 c10 c01 c11 a b : Float) where
  pub first_of_four : T (fits binary32 c00) → T (fits binary32 c10) → T (fits binary32 c01) → T (fits binary32 c11) → T (finite c00) → T (finite c10) → T (finite c01) → T (finite c11)
      → is_zero a ≡ true → is_zero b ≡ true → Same c00 (blended c00 c10 c01 c11 a b)
  unfolding blended
  first_of_four f00 f10 f01 f11 p00 p10 p01 p11 za zb =
      let top = between_zero c00 c10 a f00 f10 p00 p10 za in
      let bottom = between_zero c01 c11 a f01 f11 p01 p11 za in
      let down = between_zero (between c00 c10 a) (between c01 c11 a) b (same_fits f00 top) (same_fits f01 bottom) (same_finite p00 top) (same_finite p01 bottom) zb in
      same_trans c00 (between c00 c10 a) (between (between c00 c10 a) (between c01 c11 a) b) top down

-- ---- of finite numbers each is finite

pub sure : (b : Bool) → b ≡ true → T b
sure true e = tt
sure false e = false≢true e

pub first_of : (x : Float) (rest : List Float) → all_finite (x ∷ rest) ≡ true → T (finite x)
first_of x rest h = sure (finite x) (first_finite x rest h)

pub both_finite : (x y : Float) → T (finite x) → T (finite y) → (finite x && finite y) ≡ true
both_finite x y p q = go (finite x) (finite y) p q
  where
    go : (a b : Bool) → T a → T b → (a && b) ≡ true
    go false b p q = elim p [ ]
    go true false p q = elim q [ ]
    go true true p q = refl

-- ---- the cell comes back

-- of four finite f32s
first_of_all : (c00 c10 c01 c11 a b : Float) → T (fits binary32 c00) → T (fits binary32 c10) → T (fits binary32 c01) → T (fits binary32 c11) → all_finite (c00 ∷ c10 ∷ c01 ∷ c11 ∷ []) ≡ true
    → is_zero a ≡ true → is_zero b ≡ true → Same c00 (blended c00 c10 c01 c11 a b)
first_of_all c00 c10 c01 c11 a b f00 f10 f01 f11 h za zb =
    let h1 = rest_finite c00 (c10 ∷ c01 ∷ c11 ∷ []) h in
    let h2 = rest_finite c10 (c01 ∷ c11 ∷ []) h1 in
    let h3 = rest_finite c01 (c11 ∷ []) h2 in
    first_of_four c00 c10 c01 c11 a b f00 f10 f01 f11 (first_of c00 (c10 ∷ c01 ∷ c11 ∷ []) h) (first_of c10 (c01 ∷ c11 ∷ []) h1) (first_of c01 (c11 ∷ []) h2) (first_of c11 [] h3) za zb

pub cell_fits : (table : List Float) → Singles table → (width k p q : ℕ) → T (fits binary32 (cell table width k p q))
unfolding cell
cell_fits table held width k p q = held (2 * (q * width + p) + k)

module _ (table : List Float) (held : Singles table) (width height u v : ℕ) {i j : Float} (across : On i u width) (down : On j v height) (k : ℕ) where
  from : (p q : ℕ) → Float
  from p q = blended (cell table width k p q) (cell table width k (neighbour p width) q) (cell table width k p (neighbour q height)) (cell table width k (neighbour p width) (neighbour q height)) (fraction i) (fraction j)

  pub kept : all_finite (around table width height u v k) ≡ true → Same (cell table width k u v) (number_at table width k (spot i width) (spot j height))
  unfolding number_at spot from
  kept h =
      let c = cell table width k in
      let fit = cell_fits table held width k in
      let there = first_of_all (c u v) (c (neighbour u width) v) (c u (neighbour v height)) (c (neighbour u width) (neighbour v height)) (fraction i) (fraction j) (fit u v) (fit (neighbour u width) v) (fit u (neighbour v height)) (fit (neighbour u width) (neighbour v height)) h across.rest down.rest in
      let along : Same (c u v) (from (whole_part i) v) = subst (λ (p : ℕ). Same (c u v) (from p v)) (sym across.part) there in
      subst (λ (q : ℕ). Same (c u v) (from (whole_part i) q)) (sym down.part) along
