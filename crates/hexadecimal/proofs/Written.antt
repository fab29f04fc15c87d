-- Reading turns writing back: `digits` of io's definitions and `read` undo each other. Assumes nothing.
use mathlib.Core.Path.{◌≡◌, refl, sym, ap, ap₂, ◌∙◌}
use mathlib.Core.Bool.{Bool, true, false, cond}
use mathlib.Core.List.{List, [], ◌∷◌, ◌++◌, append_assoc, append-nil}
use Prim.Native.Nat.{ℕ, zero, suc, ◌+◌, ◌*◌, ◌-◌, ◌/◌, ◌%◌, ◌^◌, ◌≤◌, ◌<◌}
use native.Mathlib.Nat.{pow-suc, mod-lt, div-lt_iff_lt-mul, div-add-mod', pow-le-pow_right}
use native.Mathlib.Omega.{arith}
use borrow.Author.Tests.{lt-ltb, le-ltb, ltb-true, ltb-false}
use lib.Dec.{ltb}
use lib.ListN.{length}
use Rattle.std.proofs.Common.{Option, Some, None}
use Rattle.std.specs.Option.{option_map}
use Rattle.io.specs.Digits.{hex_digit_ascii, last_digits, IsDigitCount}
use Rattle.hexadecimal.specs.Hex.{digit, pushed, read}

-- ---- a digit

glyph_read : (d : ℕ) (t : Bool) → ltb d 10 ≡ t → d < 16 → digit (cond t (48 + d) (87 + d)) ≡ Some d
unfolding digit
glyph_read d true e h =
    let back : 48 + d - 48 ≡ d = omega arith in
    simp (le-ltb (48 + d) 48 (omega arith), lt-ltb (48 + d) 58 (omega (arith, ltb-true d 10 e))) (ap Some back)
glyph_read d false e h =
    let back : 87 + d - 87 ≡ d = omega arith in
    simp (
      le-ltb (87 + d) 48 (omega arith),
      le-ltb (87 + d) 58 (omega arith),
      le-ltb (87 + d) 97 (omega (arith, ltb-false d 10 e)),
      lt-ltb (87 + d) 103 (omega arith),
    )
    (ap Some back)

pub digit_glyph : (d : ℕ) → d < 16 → digit (hex_digit_ascii d) ≡ Some d
digit_glyph d h = glyph_read d (ltb d 10) refl h

-- the byte's range by its four tests
by_ranges :
    (b d : ℕ) (t u v w : Bool) →
    ltb b 48 ≡ t →
    ltb b 58 ≡ u →
    ltb b 97 ≡ v →
    ltb b 103 ≡ w →
    cond t None (cond u (Some (b - 48)) (cond v None (cond w (Some (b - 87)) None))) ≡ Some d →
    (d < 16) × (hex_digit_ascii d ≡ b)
by_ranges b d true u v w e f g i h = cc
by_ranges b d false true v w e f g i h =
    let k : b - 48 ≡ d = cc in
    let low : 48 ≤ b = ltb-false b 48 e in
    let high : b < 58 = ltb-true b 58 f in
    (omega arith, simp (lt-ltb d 10 (omega arith)) (omega arith))
by_ranges b d false false true w e f g i h = cc
by_ranges b d false false false true e f g i h =
    let k : b - 87 ≡ d = cc in
    let low : 97 ≤ b = ltb-false b 97 g in
    let high : b < 103 = ltb-true b 103 i in
    (omega arith, simp (le-ltb d 10 (omega arith)) (omega arith))
by_ranges b d false false false false e f g i h = cc

-- a byte that is a digit is its value's glyph, and the value is below 16
pub glyph_digit : (b d : ℕ) → digit b ≡ Some d → (d < 16) × (hex_digit_ascii d ≡ b)
unfolding digit
glyph_digit b d h = by_ranges b d (ltb b 48) (ltb b 58) (ltb b 97) (ltb b 103) refl refl refl refl h

-- ---- a text

read_append : (number : Option ℕ) (s t : List ℕ) → read number (s ++ t) ≡ read (read number s) t
unfolding read
read_append number [] t = refl
read_append number (b ∷ s) t = read_append (pushed number b) s t

pub read_none : (text : List ℕ) → read None text ≡ None
unfolding read pushed
read_none [] = refl
read_none (b ∷ text) = read_none text

-- what is written of a number is read as that number
pub read_digits : (k n : ℕ) → n < 16 ^ k → read (Some 0) (last_digits 16 k n) ≡ Some n
unfolding read pushed
read_digits zero n h = let z : 0 ≡ n = omega arith in ap Some z
read_digits (suc k) n h =
    read_append (Some 0) (last_digits 16 k (n / 16)) (hex_digit_ascii (n % 16) ∷ [])
    ∙ simp (
      read_digits k (n / 16) ((div-lt_iff_lt-mul (omega arith)).1 (omega (arith, pow-suc 16 k))),
      digit_glyph (n % 16) (mod-lt n (omega arith)),
    )
    (ap Some (div-add-mod' n 16))

-- one digit more
pushed_digits : (j m b d : ℕ) → digit b ≡ Some d → last_digits 16 (suc j) (m * 16 + d) ≡ last_digits 16 j m ++ (b ∷ [])
pushed_digits j m b d e =
    let g = glyph_digit b d e in
    let q : (m * 16 + d) / 16 ≡ m = omega arith in
    let r : (m * 16 + d) % 16 ≡ d = omega arith in
    simp (q, r, g.1)

read_on : (j m n b : ℕ) (text : List ℕ) (o : Option ℕ) → digit b ≡ o →
    ((m' : ℕ) → read (Some m') text ≡ Some n → last_digits 16 (suc j) m' ++ text ≡ last_digits 16 (suc j + length text) n) →
    read (option_map (λ d. m * 16 + d) o) text ≡ Some n → last_digits 16 j m ++ (b ∷ text) ≡ last_digits 16 (suc j + length text) n
read_on j m n b text (Some d) e more f =
    sym (append_assoc (last_digits 16 j m) (b ∷ []) text)
    ∙ ap (λ (s : List ℕ). s ++ text) (sym (pushed_digits j m b d e))
    ∙ more (m * 16 + d) f
read_on j m n b text None e more f = let z : None ≡ Some n = sym (read_none text) ∙ f in cc

-- what is read as a number is what is written of it
pub digits_read : (text : List ℕ) (j m n : ℕ) → read (Some m) text ≡ Some n → last_digits 16 j m ++ text ≡ last_digits 16 (j + length text) n
unfolding read pushed
digits_read [] j m n e =
    let k : j ≡ j + 0 = omega arith in
    let o : m ≡ n = cc in
    append-nil (last_digits 16 j m) ∙ ap₂ (last_digits 16) k o
digits_read (b ∷ text) j m n e =
    let k : suc j + length text ≡ j + suc (length text) = omega arith in
    read_on j m n b text (digit b) refl (λ m'. digits_read text (suc j) m' n) e ∙ ap (λ (k : ℕ). last_digits 16 k n) k

-- ---- how many digits io writes is settled by the number

-- where n has no more than w digits, w of them are written
pub hex_places : (w n k : ℕ) → n < 16 ^ w → IsDigitCount 16 w n k → k ≡ w
hex_places w n k h f = by_size (ltb w k) refl
  where
    by_size : (t : Bool) → ltb w k ≡ t → k ≡ w
    by_size true e =
        let l : w < k = ltb-true w k e in
        let m : w ≤ k - 1 = omega arith in
        let g : 16 ^ (k - 1) ≤ n = f.2 l in
        let p : 16 ^ w ≤ 16 ^ (k - 1) = pow-le-pow_right (omega arith) m in
        absurd (omega arith)
    by_size false e = omega (arith, ltb-false w k e, f.0)
