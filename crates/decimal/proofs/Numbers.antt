-- A field that is a number, and one that is not; and the bytes of one passed so far. Assumes nothing.
use mathlib.Core.Path.{◌≡◌, refl, sym, ap, ◌∙◌}
use mathlib.Core.Bool.{Bool, true, false, not, ◌&&◌}
use mathlib.Core.List.{List, [], ◌∷◌}
use Prim.Native.Nat.{ℕ, zero, suc, ◌+◌, ◌*◌, ◌-◌, ◌^◌, ◌≤◌, ◌<◌}
use native.Mathlib.Nat.{pow-suc, pow-le-pow_right, lt_of_lt_of_le, mul-le-mul_right, zero-add}
use native.Mathlib.Numerals.{add-one}
use native.Mathlib.Omega.{arith}
use borrow.Author.Tests.{lt-ltb, le-ltb, le-leb, lt-leb, eq-eqb, ne_eqb, eqb-false, ltb-true, leb-true, not-true}
use lib.Dec.{eqb, leb, ltb}
use lib.ListN.{length, get_or, drop, drop_of_length-le}
use lib.Seq.{drop-cons}
use Rattle.io.specs.Digits.{last_digits as digits}
use Rattle.decimal.specs.Text.{all}
use Rattle.decimal.specs.Decimal.{decimal, digit, worth, is_number, said, number_in}
use Rattle.std.proofs.Common.{Some, None}
use Rattle.decimal.proofs.Bytes.{and_left, and_right, both, ends, goes_on, at_end}
use Rattle.decimal.proofs.Digits.{digit_range, digits_worth, worth_between, decimal_is, decimal_digits, decimal_some, decimal_short, decimal_lead}

-- ---- one way

-- a number of 1 to 9999, written, is one
pub decimal_number : (n : ℕ) → 1 ≤ n → n ≤ 9999 → is_number (decimal n) ≡ true
unfolding is_number
decimal_number n some few =
    both (lt-ltb 0 (length (decimal n)) (decimal_some n))
    (both (le-leb (length (decimal n)) 4 (decimal_short n 3 (omega arith)))
    (both (ap not (ne_eqb (get_or (decimal n) 0 0) 48 (decimal_lead n some))) (decimal_digits n)))

-- ---- and back

module _ (field : List ℕ) (e : is_number field ≡ true) where
  pub number_some : 0 < length field
  unfolding is_number
  number_some = ltb-true 0 (length field) (and_left (ltb 0 (length field)) (leb (length field) 4 && (not (eqb (get_or field 0 0) 48) && all digit field)) e)

  past_empty : (leb (length field) 4 && (not (eqb (get_or field 0 0) 48) && all digit field)) ≡ true
  unfolding is_number
  past_empty = and_right (ltb 0 (length field)) (leb (length field) 4 && (not (eqb (get_or field 0 0) 48) && all digit field)) e

  short : length field ≤ 4
  short = leb-true (length field) 4 (and_left (leb (length field) 4) (not (eqb (get_or field 0 0) 48) && all digit field) past_empty)

  past_length : (not (eqb (get_or field 0 0) 48) && all digit field) ≡ true
  past_length = and_right (leb (length field) 4) (not (eqb (get_or field 0 0) 48) && all digit field) past_empty

  first : get_or field 0 0 ≡ 48 → ⊥
  first = eqb-false (get_or field 0 0) 48 (not-true (eqb (get_or field 0 0) 48) (and_left (not (eqb (get_or field 0 0) 48)) (all digit field) past_length))

  digits_all : all digit field ≡ true
  digits_all = and_right (not (eqb (get_or field 0 0) 48)) (all digit field) past_length

-- a first digit that is not 0 makes the field worth its length
between : (field : List ℕ) → 0 < length field → (get_or field 0 0 ≡ 48 → ⊥) → all digit field ≡ true →
    (10 ^ (length field - 1) ≤ worth 0 field) × (worth 0 field < 10 ^ length field)
unfolding worth
between [] h n e = absurd (omega arith)
between (a ∷ rest) h n e =
    let d = digit_range a (and_left (digit a) (all digit rest) e) in
    let w = worth_between (0 * 10 + (a - 48)) rest (and_right (digit a) (all digit rest) e) in
    let p = 10 ^ length rest in
    let k : suc (length rest) - 1 ≡ length rest = omega arith in
    let more : 1 ≤ 0 * 10 + (a - 48) = above (0 * 10 + (a - 48)) (λ z. n (omega arith)) in
    let low : 1 * p ≤ (0 * 10 + (a - 48)) * p = mul-le-mul_right p more in
    let up : (0 * 10 + (a - 48) + 1) * p ≤ 10 * p = mul-le-mul_right p (omega arith) in
    let j : 10 ^ (suc (length rest) - 1) ≡ p = ap (λ (i : ℕ). 10 ^ i) k in
    (omega (arith, j, low, w.0), omega (arith, pow-suc 10 (length rest), up, w.1))
  where
    above : (m : ℕ) → (m ≡ 0 → ⊥) → 1 ≤ m
    above zero h = absurd (h refl)
    above (suc m) h = omega arith

module _ (field : List ℕ) (e : is_number field ≡ true) where
  range : (10 ^ (length field - 1) ≤ worth 0 field) × (worth 0 field < 10 ^ length field)
  range = between field (number_some field e) (first field e) (digits_all field e)

  -- a number that is read is one of 1 to 9999
  pub number_range : (1 ≤ worth 0 field) × (worth 0 field ≤ 9999)
  number_range =
      let some : 0 ≤ length field - 1 = omega arith in
      let one : 10 ^ 0 ≤ 10 ^ (length field - 1) = pow-le-pow_right (omega arith) some in
      let top : 10 ^ length field ≤ 10 ^ 4 = pow-le-pow_right (omega arith) (short field e) in
      (omega (arith, one, range.0), omega (arith, top, range.1))

  -- and what is written of it is the field
  pub number_decimal : field ≡ decimal (worth 0 field)
  number_decimal =
      digits_worth field 0 0 (digits_all field e)
      ∙ ap (λ (k : ℕ). digits 10 k (worth 0 field)) (zero-add (length field))
      ∙ decimal_is (worth 0 field) (length field) (number_some field e, range.1, λ l. range.0)

-- ---- the code's tests

module _ (field : List ℕ) where
  pub number_read : 0 < length field → length field ≤ 4 → (get_or field 0 0 ≡ 48 → ⊥) → said (all digit field) field ≡ number_in field
  unfolding is_number
  number_read full short lead = simp (lt-ltb 0 (length field) full, le-leb (length field) 4 short, ne_eqb (get_or field 0 0) 48 lead)

  pub number_zero : 0 < length field → length field ≤ 4 → get_or field 0 0 ≡ 48 → None ≡ number_in field
  unfolding is_number
  number_zero full short lead = simp (lt-ltb 0 (length field) full, le-leb (length field) 4 short, eq-eqb (get_or field 0 0) 48 lead)

  pub number_long : 0 < length field → 4 < length field → None ≡ number_in field
  unfolding is_number
  number_long full long = simp (lt-ltb 0 (length field) full, lt-leb (length field) 4 long)

  pub number_empty : length field ≤ 0 → None ≡ number_in field
  unfolding is_number
  number_empty h = simp (le-ltb 0 (length field) h)

-- ---- what an answer tells of the field

module _ (field : List ℕ) where
  by_test : (n : ℕ) (t : Bool) → is_number field ≡ t → said t field ≡ Some n → (is_number field ≡ true) × (worth 0 field ≡ n)
  by_test n true e f = (e, (cc))
  by_test n false e f = let z : ◌≡◌ {A = ℕ} 0 1 = cc in absurd (omega arith)

  pub number_is : (n : ℕ) → number_in field ≡ Some n → (is_number field ≡ true) × (worth 0 field ≡ n)
  number_is n e = by_test n (is_number field) refl e

  by_none : (t : Bool) → is_number field ≡ t → said t field ≡ None → is_number field ≡ false
  by_none true e f = let z : ◌≡◌ {A = ℕ} 0 1 = cc in absurd (omega arith)
  by_none false e f = e

  pub number_isnt : number_in field ≡ None → is_number field ≡ false
  number_isnt e = by_none (is_number field) refl e

-- ---- the bytes passed

-- they are digits of a number with as many, and with the rest it is worth what the field is
pub record Passed (l : List ℕ) (n i : ℕ) : Type 0 where
  pub within : i ≤ length l
  pub digits : all digit (drop i l) ≡ all digit l
  pub below : n < 10 ^ i
  pub rest : worth n (drop i l) ≡ worth 0 l

pub none_passed : (l : List ℕ) → Passed l 0 0
none_passed l = record { within = omega arith; digits = refl; below = omega arith; rest = refl }

module _ (l : List ℕ) (n i : ℕ) (p : Passed l n i) where
  pub small : length l ≤ 4 → i < length l → n < 10000
  small few h = lt_of_lt_of_le p.below (pow-le-pow_right {n = 10} (omega arith) {i = i} {j = 4} (omega arith))

  module _ (h : i < length l) (b : Bool) (f : b ≡ digit (get_or l i 0)) where
    pub no_digit : not b ≡ true → None ≡ said (all digit l) l
    no_digit t = ap (λ (a : Bool). said a l) (ends digit l i h b f t p.digits)

    pub a_digit : not b ≡ false → (48 ≤ get_or l i 0) × (get_or l i 0 ≤ 57)
    a_digit t = digit_range (get_or l i 0) (sym f ∙ yes b t)
      where
        yes : (b : Bool) → not b ≡ false → b ≡ true
        yes true e = refl
        yes false e = let z : ◌≡◌ {A = Bool} true false = e in sym z

    pub one_passed : not b ≡ false → Passed l (n * 10 + (get_or l i 0 - 48)) (i + 1)
    unfolding worth
    one_passed t =
        let at = a_digit t in
        record {
          within = omega arith;
          digits = goes_on digit l i h b f t p.digits;
          below = rw add-one (omega (arith, pow-suc 10 i, p.below));
          rest = rw add-one (sym (ap (worth n) (drop-cons l i 0 h)) ∙ p.rest);
        }

  pub all_passed : length l ≤ i → Some n ≡ said (all digit l) l
  unfolding worth
  all_passed h =
      let w : n ≡ worth 0 l = sym (ap (worth n) (drop_of_length-le l h)) ∙ p.rest in
      ap Some w ∙ ap (λ (a : Bool). said a l) (at_end digit l i h ∙ p.digits)
