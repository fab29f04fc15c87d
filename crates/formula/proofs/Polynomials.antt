-- Polynomials as sorted lists of pieces, which compute: their sums and products, and what is left once 1 / D is multiplied out; and that these are the numbers' own. Solver decides by them whether two terms are the same. Assumes nothing.
use mathlib.Core.Path.{◌≡◌, refl, sym, ap, ◌∙◌}
use mathlib.Core.Bool.{Bool, true, ◌&&◌}
use mathlib.Core.List.{List, [], ◌∷◌}
use Prim.Native.Nat.{ℕ, zero, suc, ◌+◌, ◌*◌, max, compare, Ordering}
use native.Mathlib.Nat.{add-zero, add-suc}
use native.Mathlib.Omega.{arith}
use lib.Dec.{T, compare_is_eq, eqb, eqb→eq}
use lib.Ieee.Fits.{and_l, and_r}
use Rattle.exact.specs.Fraction.{Fraction, Proper, over, whole, ◌⊞◌, opposite, ◌⊠◌, power}
use Rattle.exact.proofs.Fractions.{whole_proper, ⊞-proper, ⊠-proper, power_proper, ⊞-comm, ⊞-assoc, ⊞-left-comm, ⊞-zero, opposite-⊞, opposite-⊠, ⊠-comm, ⊠-assoc, ⊠-one, ⊞-⊠}
use Rattle.formula.specs.Term.{Numbers, ◌≅◌}
use Rattle.formula.proofs.Numbers.{same, back, ◌then◌, from, sums, products, split, by_zero}

-- ---- products of powers: the place of an exponent in the list says of which variable

abbrev pub worth : (ℕ → Fraction) → List ℕ → Fraction
worth at [] = whole 1
worth at (e ∷ es) = power (at 0) e ⊠ worth (λ (n : ℕ). at (suc n)) es

abbrev pub joined : List ℕ → List ℕ → List ℕ
joined [] ds = ds
joined (e ∷ es) [] = e ∷ es
joined (e ∷ es) (d ∷ ds) = (e + d) ∷ joined es ds

abbrev pub alone : ℕ → List ℕ
alone zero = 1 ∷ []
alone (suc n) = 0 ∷ alone n

-- the order of dictionaries; a list that ends goes on with zeros
abbrev pub order : List ℕ → List ℕ → Ordering
order [] [] = Ordering.eq
order [] (zero ∷ ds) = order [] ds
order [] (suc d ∷ ds) = Ordering.lt
order (zero ∷ es) [] = order es []
order (suc e ∷ es) [] = Ordering.gt
order (e ∷ es) (d ∷ ds) = elim (compare e d) as (λ (o : Ordering). Ordering) [ Ordering.lt ↦ Ordering.lt | Ordering.eq ↦ order es ds | Ordering.gt ↦ Ordering.gt ]

worth_proper : {at : ℕ → Fraction} → Numbers at → (es : List ℕ) → Proper (worth at es)
worth_proper h [] = whole_proper 1
worth_proper h (e ∷ es) = ⊠-proper (power_proper e (h 0)) (worth_proper (λ n. h (suc n)) es)

one-⊠ : (a : Fraction) → whole 1 ⊠ a ≡ a
one-⊠ a = ⊠-comm (whole 1) a ∙ ⊠-one a

pub power_add : (a : Fraction) (e d : ℕ) → power a (e + d) ≡ power a e ⊠ power a d
unfolding power
power_add a e zero = rw add-zero (sym (⊠-one (power a e)))
power_add a e (suc d) = rw (add-suc e d) (ap (λ (z : Fraction). z ⊠ a) (power_add a e d) ∙ ⊠-assoc (power a e) (power a d) a)

⊠-swap : (a b c d : Fraction) → (a ⊠ b) ⊠ (c ⊠ d) ≡ (a ⊠ c) ⊠ (b ⊠ d)
⊠-swap a b c d = ⊠-assoc a b (c ⊠ d) ∙ ap (λ (z : Fraction). a ⊠ z) (sym (⊠-assoc b c d) ∙ ap (λ (z : Fraction). z ⊠ d) (⊠-comm b c) ∙ ⊠-assoc c b d) ∙ sym (⊠-assoc a c (b ⊠ d))

joined_worth : (at : ℕ → Fraction) (es ds : List ℕ) → worth at (joined es ds) ≡ worth at es ⊠ worth at ds
joined_worth at [] ds = sym (one-⊠ (worth at ds))
joined_worth at (e ∷ es) [] = sym (⊠-one (worth at (e ∷ es)))
joined_worth at (e ∷ es) (d ∷ ds) = rw (power_add (at 0) e d, joined_worth (λ n. at (suc n)) es ds) (⊠-swap (power (at 0) e) (power (at 0) d) (worth (λ n. at (suc n)) es) (worth (λ n. at (suc n)) ds))

pub alone_worth : (at : ℕ → Fraction) (n : ℕ) → worth at (alone n) ≡ at n
unfolding power
alone_worth at zero = ⊠-one (whole 1 ⊠ at 0) ∙ one-⊠ (at 0)
alone_worth at (suc n) = one-⊠ (worth (λ k. at (suc k)) (alone n)) ∙ alone_worth (λ k. at (suc k)) n

nothing : (at : ℕ → Fraction) (es : List ℕ) → worth (λ n. at (suc n)) es ≡ whole 1 → worth at (0 ∷ es) ≡ whole 1
unfolding power
nothing at es e = rw e (⊠-one (whole 1))

alike : (at : ℕ → Fraction) (es ds : List ℕ) → T (compare_is_eq (order es ds)) → worth at es ≡ worth at ds
alike at [] [] t = refl
alike at [] (zero ∷ ds) t = sym (nothing at ds (sym (alike (λ n. at (suc n)) [] ds t)))
alike at [] (suc d ∷ ds) t = absurd t
alike at (zero ∷ es) [] t = nothing at es (alike (λ n. at (suc n)) es [] t)
alike at (suc e ∷ es) [] t = absurd t
alike at (e ∷ es) (d ∷ ds) t = go (compare e d) (eqb→eq e d) (λ k. alike (λ n. at (suc n)) es ds k) t
  where
    go : (o : Ordering) → (T (compare_is_eq o) → e ≡ d) → (T (compare_is_eq (order es ds)) → worth (λ n. at (suc n)) es ≡ worth (λ n. at (suc n)) ds) → T (compare_is_eq (elim o as (λ (o : Ordering). Ordering) [ Ordering.lt ↦ Ordering.lt | Ordering.eq ↦ order es ds | Ordering.gt ↦ Ordering.gt ])) → worth at (e ∷ es) ≡ worth at (d ∷ ds)
    go Ordering.lt f r t = absurd t
    go Ordering.eq f r t = rw (f tt, r t) refl
    go Ordering.gt f r t = absurd t

-- ---- a piece is (plus - minus) times such a product, a polynomial a sum of pieces

pub record Piece : Type 0 where
  pub plus : ℕ
  pub minus : ℕ
  pub powers : List ℕ

abbrev pub Polynomial : Type 0
Polynomial = List Piece

unfoldable pub scale : ℕ → ℕ → Fraction
scale p m = record { plus = p; minus = m; under = 1 }

abbrev pub amount : (ℕ → Fraction) → Piece → Fraction
amount at t = scale t.plus t.minus ⊠ worth at t.powers

abbrev pub value : (ℕ → Fraction) → Polynomial → Fraction
value at [] = whole 0
value at (t ∷ P) = amount at t ⊞ value at P

scale_proper : (p m : ℕ) → Proper (scale p m)
unfolding scale
scale_proper p m = record { above = omega arith }

amount_proper : {at : ℕ → Fraction} → Numbers at → (t : Piece) → Proper (amount at t)
amount_proper h t = ⊠-proper (scale_proper t.plus t.minus) (worth_proper h t.powers)

pub value_proper : {at : ℕ → Fraction} → Numbers at → (P : Polynomial) → Proper (value at P)
value_proper h [] = whole_proper 0
value_proper h (t ∷ P) = ⊞-proper (amount_proper h t) (value_proper h P)

-- ---- the sum: a piece goes to the piece with the same powers

abbrev pub merged : Piece → Piece → Piece
merged t s = record { plus = t.plus + s.plus; minus = t.minus + s.minus; powers = s.powers }

-- a piece and what `rest` makes of the pieces after it
abbrev pub woven : Piece → (Polynomial → Polynomial) → Polynomial → Polynomial
woven t rest [] = t ∷ rest []
woven t rest (s ∷ Q) = elim (order t.powers s.powers) as (λ (o : Ordering). Polynomial) [ Ordering.lt ↦ t ∷ rest (s ∷ Q) | Ordering.eq ↦ merged t s ∷ rest Q | Ordering.gt ↦ s ∷ woven t rest Q ]

abbrev pub added : Polynomial → Polynomial → Polynomial
added [] Q = Q
added (t ∷ P) Q = woven t (λ (R : Polynomial). added P R) Q

scale-⊞ : (p m q n : ℕ) → scale (p + q) (m + n) ≡ scale p m ⊞ scale q n
unfolding scale ◌⊞◌
scale-⊞ p m q n i = let a : p + q ≡ p * 1 + q * 1 = omega arith in let b : m + n ≡ m * 1 + n * 1 = omega arith in record { plus = a i; minus = b i; under = 1 }

module _ {at : ℕ → Fraction} (h : Numbers at) where
  merged_amount : (t s : Piece) → worth at t.powers ≡ worth at s.powers → amount at (merged t s) ≅ amount at t ⊞ amount at s
  merged_amount t s e = rw (e, scale-⊞ t.plus t.minus s.plus s.minus) record {
    left = ⊠-proper (⊞-proper (scale_proper t.plus t.minus) (scale_proper s.plus s.minus)) (worth_proper h s.powers);
    right = ⊞-proper (⊠-proper (scale_proper t.plus t.minus) (worth_proper h s.powers)) (amount_proper h s);
    same = ⊞-⊠ (scale t.plus t.minus) (scale s.plus s.minus) (worth at s.powers);
  }

  woven_value : (t : Piece) (P Q : Polynomial) (rest : Polynomial → Polynomial) → ((R : Polynomial) → value at (rest R) ≅ value at P ⊞ value at R) → value at (woven t rest Q) ≅ amount at t ⊞ value at P ⊞ value at Q
  woven_value t P [] rest k = rw (⊞-assoc (amount at t) (value at P) (whole 0)) (sums (same (amount_proper h t)) (k []))
  woven_value t P (s ∷ Q) rest k = go (order t.powers s.powers) (alike at t.powers s.powers) (woven_value t P Q rest k)
    where
      go : (o : Ordering) → (T (compare_is_eq o) → worth at t.powers ≡ worth at s.powers) → value at (woven t rest Q) ≅ amount at t ⊞ value at P ⊞ value at Q → value at (elim o as (λ (o : Ordering). Polynomial) [ Ordering.lt ↦ t ∷ rest (s ∷ Q) | Ordering.eq ↦ merged t s ∷ rest Q | Ordering.gt ↦ s ∷ woven t rest Q ]) ≅ amount at t ⊞ value at P ⊞ (amount at s ⊞ value at Q)
      go Ordering.lt e w = rw (⊞-assoc (amount at t) (value at P) (amount at s ⊞ value at Q)) (sums (same (amount_proper h t)) (k (s ∷ Q)))
      go Ordering.eq e w = rw (⊞-assoc (amount at t) (value at P) (amount at s ⊞ value at Q), ⊞-left-comm (value at P) (amount at s) (value at Q), ← ⊞-assoc (amount at t) (amount at s) (value at P ⊞ value at Q)) (sums (merged_amount t s (e tt)) (k Q))
      go Ordering.gt e w = rw (⊞-left-comm (amount at t ⊞ value at P) (amount at s) (value at Q)) (sums (same (amount_proper h s)) w)

  pub added_value : (P Q : Polynomial) → value at (added P Q) ≅ value at P ⊞ value at Q
  added_value [] Q = rw (⊞-comm (whole 0) (value at Q), ⊞-zero (value at Q)) (same (value_proper h Q))
  added_value (t ∷ P) Q = woven_value t P Q (λ (R : Polynomial). added P R) (λ R. added_value P R)

-- ---- the opposite

abbrev pub turned : Polynomial → Polynomial
turned [] = []
turned (t ∷ P) = record { plus = t.minus; minus = t.plus; powers = t.powers } ∷ turned P

turned_scale : (p m : ℕ) → scale m p ≡ opposite (scale p m)
unfolding scale opposite
turned_scale p m = refl

turned_zero : opposite (whole 0) ≡ whole 0
unfolding opposite over
turned_zero = refl

pub turned_value : (at : ℕ → Fraction) (P : Polynomial) → value at (turned P) ≡ opposite (value at P)
turned_value at [] = sym turned_zero
turned_value at (t ∷ P) = rw (turned_scale t.plus t.minus, turned_value at P, opposite-⊞, opposite-⊠) refl

-- ---- the product

abbrev pub twofold : Piece → Piece → Piece
twofold t s = record { plus = t.plus * s.plus + t.minus * s.minus; minus = t.plus * s.minus + t.minus * s.plus; powers = joined t.powers s.powers }

abbrev pub scaled : Piece → Polynomial → Polynomial
scaled t [] = []
scaled t (s ∷ P) = twofold t s ∷ scaled t P

abbrev pub multiplied : Polynomial → Polynomial → Polynomial
multiplied [] Q = []
multiplied (t ∷ P) Q = added (scaled t Q) (multiplied P Q)

scale-⊠ : (p m q n : ℕ) → scale (p * q + m * n) (p * n + m * q) ≡ scale p m ⊠ scale q n
unfolding scale ◌⊠◌
scale-⊠ p m q n = refl

twofold_amount : (at : ℕ → Fraction) (t s : Piece) → amount at (twofold t s) ≡ amount at t ⊠ amount at s
twofold_amount at t s = rw (scale-⊠ t.plus t.minus s.plus s.minus, joined_worth at t.powers s.powers) (⊠-swap (scale t.plus t.minus) (scale s.plus s.minus) (worth at t.powers) (worth at s.powers))

module _ {at : ℕ → Fraction} (h : Numbers at) where
  scaled_value : (t : Piece) (P : Polynomial) → value at (scaled t P) ≅ amount at t ⊠ value at P
  scaled_value t [] = rw (⊠-comm (amount at t) (whole 0)) (back (by_zero (amount_proper h t)))
  scaled_value t (s ∷ P) = rw (twofold_amount at t s) (sums (same (⊠-proper (amount_proper h t) (amount_proper h s))) (scaled_value t P)) then back (split (amount_proper h t) (amount_proper h s) (value_proper h P))

  pub multiplied_value : (P Q : Polynomial) → value at (multiplied P Q) ≅ value at P ⊠ value at Q
  multiplied_value [] Q = back (by_zero (value_proper h Q))
  multiplied_value (t ∷ P) Q =
      added_value h (scaled t Q) (multiplied P Q) then sums (scaled_value t Q) (multiplied_value P Q)
      then back (rw (⊠-comm (amount at t ⊞ value at P) (value at Q), ⊠-comm (amount at t) (value at Q), ⊠-comm (value at P) (value at Q)) (split (value_proper h Q) (amount_proper h t) (value_proper h P)))

-- ---- single pieces and powers

abbrev pub constant : ℕ → Polynomial
constant zero = []
constant (suc n) = record { plus = suc n; minus = 0; powers = [] } ∷ []

-- the variable at a place, to a power
abbrev pub single : List ℕ → Polynomial
single es = record { plus = 1; minus = 0; powers = es } ∷ []

abbrev pub raised : Polynomial → ℕ → Polynomial
raised P zero = constant 1
raised P (suc n) = multiplied (raised P n) P

scale_whole : (n : ℕ) → scale n 0 ≡ whole n
unfolding scale over
scale_whole n = refl

pub constant_value : (at : ℕ → Fraction) (n : ℕ) → value at (constant n) ≡ whole n
constant_value at zero = refl
constant_value at (suc n) = ⊞-zero (scale (suc n) 0 ⊠ whole 1) ∙ ⊠-one (scale (suc n) 0) ∙ scale_whole (suc n)

pub single_value : (at : ℕ → Fraction) (es : List ℕ) → value at (single es) ≡ worth at es
single_value at es = ⊞-zero (scale 1 0 ⊠ worth at es) ∙ ap (λ (z : Fraction). z ⊠ worth at es) (scale_whole 1) ∙ one-⊠ (worth at es)

pub raised_value : {at : ℕ → Fraction} → Numbers at → (P : Polynomial) (n : ℕ) → value at (raised P n) ≅ power (value at P) n
unfolding power
raised_value {at} h P zero = from (constant_value at 1) (value_proper h (constant 1))
raised_value h P (suc n) = multiplied_value h (raised P n) P then products (raised_value h P n) (same (value_proper h P))

-- ---- a sum that is zero whatever the variables are

abbrev pub vanishes : Polynomial → Bool
vanishes [] = true
vanishes (t ∷ P) = eqb t.plus t.minus && vanishes P

level : (p m : ℕ) {w : Fraction} → p ≡ m → Proper w → scale p m ⊠ w ≅ whole 0
unfolding scale ◌⊠◌ over
level p m {w} e q = record { left = ⊠-proper (scale_proper p m) q; right = whole_proper 0; same = rw e (omega arith) }

zero-⊞ : whole 0 ⊞ whole 0 ≡ whole 0
zero-⊞ = ⊞-zero (whole 0)

pub vanished : {at : ℕ → Fraction} → Numbers at → (P : Polynomial) → T (vanishes P) → value at P ≅ whole 0
vanished h [] t = same (whole_proper 0)
vanished h (s ∷ P) t =
    sums (level s.plus s.minus (eqb→eq s.plus s.minus (and_l (eqb s.plus s.minus) (vanishes P) t)) (worth_proper h s.powers)) (vanished h P (and_r (eqb s.plus s.minus) (vanishes P) t))
    then from zero-⊞ (⊞-proper (whole_proper 0) (whole_proper 0))

-- ---- where the first variable is 1 / D: D ^ n times a polynomial, with that variable taken out as far as it goes

abbrev pub lowered : Polynomial → ℕ → ℕ → Polynomial
lowered D n zero = raised D n
lowered D zero (suc e) = single (suc e ∷ [])
lowered D (suc n) (suc e) = lowered D n e

abbrev pub first : List ℕ → ℕ
first [] = 0
first (e ∷ es) = e

abbrev pub highest : Polynomial → ℕ
highest [] = 0
highest (t ∷ P) = max (first t.powers) (highest P)

abbrev pub others : List ℕ → List ℕ
others [] = []
others (e ∷ es) = 0 ∷ es

abbrev pub cleared : Polynomial → ℕ → Polynomial → Polynomial
cleared D n [] = []
cleared D n (t ∷ P) = added (scaled (record { plus = t.plus; minus = t.minus; powers = others t.powers }) (lowered D n (first t.powers))) (cleared D n P)

parted : (at : ℕ → Fraction) (es : List ℕ) → worth at es ≡ worth at (others es) ⊠ power (at 0) (first es)
unfolding power
parted at [] = sym (⊠-one (whole 1))
parted at (e ∷ es) = ⊠-comm (power (at 0) e) (worth (λ n. at (suc n)) es) ∙ ap (λ (z : Fraction). z ⊠ power (at 0) e) (sym (one-⊠ (worth (λ n. at (suc n)) es)))

module _ {at : ℕ → Fraction} (h : Numbers at) (D : Polynomial) (inverted : value at D ⊠ at 0 ≅ whole 1) where
  -- the powers of D and 1 / D
  step : (n e : ℕ) → power (value at D) (suc n) ⊠ power (at 0) (suc e) ≅ power (value at D) n ⊠ power (at 0) e
  unfolding power
  step n e =
      let d = power_proper n (value_proper h D) in
      let i = power_proper e (h 0) in
      from (⊠-swap (power (value at D) n) (value at D) (power (at 0) e) (at 0)) (⊠-proper (⊠-proper d (value_proper h D)) (⊠-proper i (h 0)))
      then products (same (⊠-proper d i)) inverted then from (⊠-one (power (value at D) n ⊠ power (at 0) e)) (⊠-proper (⊠-proper d i) (whole_proper 1))

  pub both : (n : ℕ) → power (value at D) n ⊠ power (at 0) n ≅ whole 1
  unfolding power
  both zero = from (⊠-one (whole 1)) (⊠-proper (whole_proper 1) (whole_proper 1))
  both (suc n) = step n n then both n

  lowered_value : (n e : ℕ) → value at (lowered D n e) ≅ power (value at D) n ⊠ power (at 0) e
  unfolding power
  lowered_value n zero = raised_value h D n then from (sym (⊠-one (power (value at D) n))) (power_proper n (value_proper h D))
  lowered_value zero (suc e) = from (single_value at (suc e ∷ []) ∙ ⊠-one (power (at 0) (suc e)) ∙ sym (one-⊠ (power (at 0) (suc e)))) (value_proper h (single (suc e ∷ [])))
  lowered_value (suc n) (suc e) = lowered_value n e then back (step n e)

  regroup : (c w i d : Fraction) → (c ⊠ w) ⊠ (d ⊠ i) ≡ d ⊠ (c ⊠ (w ⊠ i))
  regroup c w i d = ⊠-swap c w d i ∙ ap (λ (z : Fraction). z ⊠ (w ⊠ i)) (⊠-comm c d) ∙ ⊠-assoc d c (w ⊠ i)

  cleared_value : (n : ℕ) (P : Polynomial) → value at (cleared D n P) ≅ power (value at D) n ⊠ value at P
  cleared_value n [] = rw (⊠-comm (power (value at D) n) (whole 0)) (back (by_zero (power_proper n (value_proper h D))))
  cleared_value n (t ∷ P) =
      let bare : Piece = record { plus = t.plus; minus = t.minus; powers = others t.powers } in
      let d = power_proper n (value_proper h D) in
      let i = power_proper (first t.powers) (h 0) in
      let piece : amount at bare ⊠ (power (value at D) n ⊠ power (at 0) (first t.powers)) ≅ power (value at D) n ⊠ amount at t = rw (parted at t.powers) (from (regroup (scale t.plus t.minus) (worth at (others t.powers)) (power (at 0) (first t.powers)) (power (value at D) n)) (⊠-proper (amount_proper h bare) (⊠-proper d i))) in
      added_value h (scaled bare (lowered D n (first t.powers))) (cleared D n P)
      then sums (scaled_value h bare (lowered D n (first t.powers)) then products (same (amount_proper h bare)) (lowered_value n (first t.powers)) then piece) (cleared_value n P)
      then back (split d (amount_proper h t) (value_proper h P))

  -- so what vanishes when cleared is zero
  pub cleared_zero : (n : ℕ) (P : Polynomial) → T (vanishes (cleared D n P)) → value at P ≅ whole 0
  cleared_zero n P t =
      let d = power_proper n (value_proper h D) in
      let i = power_proper n (h 0) in
      let v = value_proper h P in
      from (sym (one-⊠ (value at P))) v then products (back (both n)) (same v)
      then from (ap (λ (z : Fraction). z ⊠ value at P) (⊠-comm (power (value at D) n) (power (at 0) n)) ∙ ⊠-assoc (power (at 0) n) (power (value at D) n) (value at P)) (⊠-proper (⊠-proper d i) v)
      then products (same i) (back (cleared_value n P) then vanished h (cleared D n P) t)
      then rw (⊠-comm (power (at 0) n) (whole 0)) (by_zero i)
