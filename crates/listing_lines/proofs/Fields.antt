-- What the code guesses of a field of a line that was written is the number written there. Assumes nothing.
use mathlib.Core.Path.{◌≡◌, refl, ap, ap₂, subst, ◌∙◌}
use mathlib.Core.Bool.{Bool, true, false, cond}
use mathlib.Core.List.{List, [], ◌∷◌, ◌++◌}
use Prim.Native.Nat.{ℕ, zero, suc, ◌+◌, ◌*◌, ◌/◌, ◌%◌, ◌^◌, ◌≤◌, ◌<◌}
use native.Mathlib.Nat.{pow-zero, pow-suc, mod-lt, div-lt_iff_lt-mul, div-add-mod', div-le_self, lt_of_lt_of_le}
use native.Mathlib.Omega.{arith}
use borrow.Author.Tests.{ne_eqb, lt-ltb}
use lib.Dec.{eqb}
use lib.ListN.{length, get_or}
use Rattle.std.proofs.Common.{Some, None}
use Rattle.io.specs.Digits.{hex_digit_ascii, last_digits}
use Rattle.decimal.specs.Decimal.{places, decimal}
use Rattle.decimal.proofs.Digits.{length_digits, worth_between, decimal_worth, decimal_digits}
use Rattle.hexadecimal.specs.Hex.{digit}
use Rattle.hexadecimal.proofs.Written.{digit_glyph}
use Rattle.listing_lines.specs.Line.{hex, line}
use Rattle.listing_lines.specs.Numeral.{pushed, left_after, number_after, numeral}
use Rattle.listing_lines.proofs.Back.{Plain, Plains}

-- ---- digits

-- a number with each byte of a text after it
unfoldable pub pushes : ℕ → ℕ → List ℕ → ℕ
pushes base n [] = n
pushes base n (b ∷ text) = pushes base (pushed base n b) text

pushes_append : (base n : ℕ) (s t : List ℕ) → pushes base n (s ++ t) ≡ pushes base (pushes base n s) t
unfolding pushes
pushes_append base n [] t = refl
pushes_append base n (b ∷ s) t = pushes_append base (pushed base n b) s t

one_pushed : (base n b d : ℕ) → digit b ≡ Some d → n < 2 ^ 60 → pushed base n b ≡ n * base + d
unfolding pushed
one_pushed base n b d e k = simp (e, lt-ltb n (2 ^ 60) k)

module _ (base : ℕ) (some : 0 < base) (most : base ≤ 16) where
  pub pushes_digits : (k n : ℕ) → n < base ^ k → n / base < 2 ^ 60 → pushes base 0 (last_digits base k n) ≡ n
  unfolding pushes
  pushes_digits zero n h r = omega (arith, pow-zero base)
  pushes_digits (suc k) n h r =
      let d : n % base < 16 = lt_of_lt_of_le (mod-lt n some) most in
      let less : n / base < base ^ k = (div-lt_iff_lt-mul {k = base} {x = n} {y = base ^ k} some).1 (subst (λ (x : ℕ). n < x) (pow-suc base k) h) in
      let room : n / base / base < 2 ^ 60 = omega (arith, div-le_self (n / base) base) in
      pushes_append base 0 (last_digits base k (n / base)) (hex_digit_ascii (n % base) ∷ [])
      ∙ ap (λ (m : ℕ). pushed base m (hex_digit_ascii (n % base))) (pushes_digits k (n / base) less room)
      ∙ one_pushed base (n / base) (hex_digit_ascii (n % base)) (n % base) (digit_glyph (n % base) d) r
      ∙ div-add-mod' n base

-- ---- the two kinds of fields

pub pushes_hex : (k n : ℕ) → n < 16 ^ k → n < 2 ^ 64 → pushes 16 0 (hex k n) ≡ n
unfolding hex
pushes_hex k n h l = pushes_digits 16 (omega arith) (omega arith) k n h (omega arith)

decimal_below : (n : ℕ) → n < 10 ^ places n n
unfolding decimal
decimal_below n =
    let w = (worth_between 0 (decimal n) (decimal_digits n)).1 in
    let e : 10 ^ length (decimal n) ≡ 10 ^ places n n = ap (λ (k : ℕ). 10 ^ k) (length_digits 10 (places n n) n) in
    omega (arith, w, e, decimal_worth n)

pub pushes_decimal : (n : ℕ) → n < 2 ^ 32 → pushes 10 0 (decimal n) ≡ n
unfolding decimal
pushes_decimal n l = pushes_digits 10 (omega arith) (omega arith) (places n n) n (decimal_below n) (omega arith)

-- ---- bytes passed

plain_left : (left b : ℕ) → 10 < b → left_after left b ≡ left
unfolding left_after
plain_left left b h = simp (ne_eqb b 9 (λ e. omega (arith, e)))

other : (base left n b : ℕ) → eqb left 1 ≡ false → number_after base left n b ≡ n
unfolding number_after
other base left n b e = simp e

-- a field that is not asked for is passed over
past : (base left n : ℕ) (s t : List ℕ) → Plain s → eqb left 1 ≡ false → numeral base left n (s ++ t) ≡ numeral base left n t
unfolding numeral
past base left n [] t p e = refl
past base left n (b ∷ s) t p e =
    ap₂ (λ (l m : ℕ). numeral base l m (s ++ t)) (plain_left left b p.0) (other base left n b e) ∙ past base left n s t p.1 e

-- and the one that is, is read
through : (base n : ℕ) (s t : List ℕ) → Plain s → numeral base 1 n (s ++ t) ≡ numeral base 1 (pushes base n s) t
unfolding numeral number_after pushes
through base n [] t p = refl
through base n (b ∷ s) t p =
    ap (λ (l : ℕ). numeral base l (pushed base n b) (s ++ t)) (plain_left 1 b p.0) ∙ through base (pushed base n b) s t p.1

either : (n : ℕ) (t : Bool) → cond t n n ≡ n
either n true = refl
either n false = refl

-- nothing is read any more
over : (base n : ℕ) (t : List ℕ) → numeral base 0 n t ≡ n
unfolding numeral number_after left_after
over base n [] = refl
over base n (b ∷ t) = simp (either 0 (eqb b 9)) (over base n t)

-- ---- a tab and a line end

no_digit : (base n b : ℕ) → digit b ≡ None → pushed base n b ≡ n
unfolding pushed
no_digit base n b e = simp e

tab_left : (left : ℕ) → left_after (suc left) 9 ≡ left
unfolding left_after
tab_left left = omega arith

at_tab : (base left n : ℕ) (t : List ℕ) → eqb (suc left) 1 ≡ false → numeral base (suc left) n (9 ∷ t) ≡ numeral base left n t
unfolding numeral
at_tab base left n t e = ap₂ (λ (l m : ℕ). numeral base l m t) (tab_left left) (other base (suc left) n 9 e)

last_tab : (base n : ℕ) (t : List ℕ) → numeral base 1 n (9 ∷ t) ≡ n
unfolding numeral number_after left_after digit
last_tab base n t = simp (no_digit base n 9 refl) (over base n t)

at_end : (base left n : ℕ) → numeral base left n (10 ∷ []) ≡ n
unfolding numeral number_after left_after digit
at_end base left n = simp (no_digit base n 10 refl) (either n (eqb left 1))

-- ---- a line

pub field_number :
    (base left : ℕ) (word : List ℕ) (texts : List (List ℕ)) →
    Plain word →
    Plains texts →
    numeral base (suc left) 0 (line word texts) ≡ pushes base 0 (get_or (word ∷ texts) left [])
unfolding line pushes
field_number base zero word [] p q = through base 0 word (10 ∷ []) p ∙ at_end base 1 (pushes base 0 word)
field_number base zero word (text ∷ texts) p q = through base 0 word (9 ∷ line text texts) p ∙ last_tab base (pushes base 0 word) (line text texts)
field_number base (suc left) word [] p q = past base (suc (suc left)) 0 word (10 ∷ []) p (ne_eqb (suc (suc left)) 1 (λ e. omega (arith, e))) ∙ at_end base (suc (suc left)) 0
field_number base (suc left) word (text ∷ texts) p q =
    let e = ne_eqb (suc (suc left)) 1 (λ e. omega (arith, e)) in
    past base (suc (suc left)) 0 word (9 ∷ line text texts) p e
    ∙ at_tab base (suc left) 0 (line text texts) e
    ∙ field_number base left text texts q.0 q.1
