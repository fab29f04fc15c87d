-- How many digits a number has, what digits are worth, and the first of them. Assumes nothing.
use mathlib.Core.Path.{◌≡◌, refl, sym, ap, ap₂, subst, ◌∙◌}
use mathlib.Core.Bool.{Bool, true, false, cond}
use mathlib.Core.List.{List, [], ◌∷◌, ◌++◌, append_assoc, append-nil}
use Prim.Native.Nat.{ℕ, zero, suc, ◌+◌, ◌*◌, ◌-◌, ◌/◌, ◌%◌, ◌^◌, ◌≤◌, ◌<◌}
use native.Mathlib.Nat.{pow-suc, pow-le-pow_right, mod-lt, div-lt_iff_lt-mul, mul_comm, mul_assoc, mul-le-mul_right}
use native.Mathlib.Omega.{arith}
use borrow.Author.Tests.{lt-ltb, le-leb, ltb-true, ltb-false, leb-true}
use lib.Dec.{leb, ltb}
use lib.ListN.{length, get_or, length-append, get_or-append}
use Rattle.io.specs.Digits.{hex_digit_ascii, last_digits, IsDigitCount}
use Rattle.decimal.specs.Text.{all}
use Rattle.decimal.specs.Decimal.{places, decimal, digit, worth}
use Rattle.decimal.proofs.Bytes.{and_left, and_right, both, all_append}

pub length_digits : (b k n : ℕ) → length (last_digits b k n) ≡ k
length_digits b zero n = refl
length_digits b (suc k) n = omega (arith, length-append (last_digits b k (n / b)) (hex_digit_ascii (n % b) ∷ []), length_digits b k (n / b))

-- ---- how many there are

-- ten or more in the power of ten below the number
one_digit : (n k : ℕ) → n < 10 → 1 ≤ k → (1 < k → 10 ^ (k - 1) ≤ n) → 1 ≡ k
one_digit n zero h l f = absurd (omega arith)
one_digit n (suc zero) h l f = refl
one_digit n (suc (suc k)) h l' f =
    let j : suc (suc k) - 1 ≡ suc k = omega arith in
    let g : 10 ^ suc k ≤ n = subst (λ (i : ℕ). 10 ^ i ≤ n) j (f (omega arith)) in
    let l : 1 ≤ suc k = omega arith in
    let p : 10 ^ 1 ≤ 10 ^ suc k = pow-le-pow_right (omega arith) l in
    absurd (omega arith)

fewer : (n k : ℕ) → 10 ≤ n → IsDigitCount 10 1 n (suc k) → IsDigitCount 10 1 (n / 10) k
fewer n zero h f = absurd (omega (arith, f.1))
fewer n (suc zero) h f =
    let b : n < 10 ^ 2 = f.1 in
    (omega arith, omega arith, λ l. absurd (omega arith))
fewer n (suc (suc k)) h f =
    let up : n < 10 ^ suc (suc (suc k)) = f.1 in
    let i : suc (suc (suc k)) - 1 ≡ suc (suc k) = omega arith in
    let j : suc (suc k) - 1 ≡ suc k = omega arith in
    let low : 10 ^ suc (suc k) ≤ n = subst (λ (i : ℕ). 10 ^ i ≤ n) i (f.2 (omega arith)) in
    let less : n / 10 < 10 ^ suc (suc k) =
    (div-lt_iff_lt-mul {k = 10} {x = n} {y = 10 ^ suc (suc k)} (omega arith)).1 (omega (arith, pow-suc 10 (suc (suc k)))) in
    let more : 10 ^ suc k ≤ n / 10 = omega (arith, pow-suc 10 (suc k)) in
    (omega arith, less, λ l. subst (λ (i : ℕ). 10 ^ i ≤ n / 10) (sym j) more)

by_digit :
    (most n : ℕ) (t : Bool) →
    ltb n 10 ≡ t →
    ((k : ℕ) → IsDigitCount 10 1 (n / 10) k → places most (n / 10) ≡ k) →
    (k : ℕ) →
    IsDigitCount 10 1 n k →
    cond t 1 (suc (places most (n / 10))) ≡ k
by_digit most n true e more k f = one_digit n k (ltb-true n 10 e) f.0 f.2
by_digit most n false e more zero f = absurd (omega (arith, f.0))
by_digit most n false e more (suc k) f = ap suc (more k (fewer n k (ltb-false n 10 e) f))

-- the fewest digits are as many as `places` says
places_are : (most n k : ℕ) → n ≤ most → IsDigitCount 10 1 n k → places most n ≡ k
unfolding places
places_are zero n k h f = one_digit n k (omega arith) f.0 f.2
places_are (suc most) n k h f =
    let d : n / 10 ≤ most = omega arith in
    by_digit most n (ltb n 10) refl (λ j. places_are most (n / 10) j d) k f

-- what is written with the fewest digits is the number in decimal
pub decimal_is : (n k : ℕ) → IsDigitCount 10 1 n k → last_digits 10 k n ≡ decimal n
unfolding decimal
decimal_is n k f = ap (λ (j : ℕ). last_digits 10 j n) (sym (places_are n n k (omega arith) f))

one_more : (n p : ℕ) → 10 ≤ n → IsDigitCount 10 1 (n / 10) p → IsDigitCount 10 1 n (suc p)
one_more n zero h f = absurd (omega (arith, f.0))
one_more n (suc zero) h f =
    let b : n / 10 < 10 ^ 1 = f.1 in
    (omega arith, omega arith, λ l. h)
one_more n (suc (suc p)) h f =
    let b : n / 10 < 10 ^ suc (suc p) = f.1 in
    let j : suc (suc p) - 1 ≡ suc p = omega arith in
    let i : suc (suc (suc p)) - 1 ≡ suc (suc p) = omega arith in
    let low : 10 ^ suc p ≤ n / 10 = subst (λ (i : ℕ). 10 ^ i ≤ n / 10) j (f.2 (omega arith)) in
    let up : n < 10 ^ suc (suc (suc p)) = omega (arith, pow-suc 10 (suc (suc p))) in
    let more : 10 ^ suc (suc p) ≤ n = omega (arith, pow-suc 10 (suc p)) in
    (omega arith, up, λ l. subst (λ (i : ℕ). 10 ^ i ≤ n) (sym i) more)

by_places : (most n : ℕ) (t : Bool) → ltb n 10 ≡ t → IsDigitCount 10 1 (n / 10) (places most (n / 10)) → IsDigitCount 10 1 n (cond t 1 (suc (places most (n / 10))))
by_places most n true e f =
    let b : n < 10 = ltb-true n 10 e in
    (omega arith, omega arith, λ l. absurd (omega arith))
by_places most n false e f = one_more n (places most (n / 10)) (ltb-false n 10 e) f

-- `places` says the fewest
places_fewest : (most n : ℕ) → n ≤ most → IsDigitCount 10 1 n (places most n)
unfolding places
places_fewest zero n h = (omega arith, omega arith, λ l. absurd (omega arith))
places_fewest (suc most) n h =
    let d : n / 10 ≤ most = omega arith in
    by_places most n (ltb n 10) refl (places_fewest most (n / 10) d)

-- a number below 10^j has no more than j digits
pub fewest_short : (n k j : ℕ) → 1 ≤ j → n < 10 ^ j → IsDigitCount 10 1 n k → k ≤ j
fewest_short n k j s h f = by_size (ltb j k) refl
  where
    by_size : (t : Bool) → ltb j k ≡ t → k ≤ j
    by_size true e =
        let l : j < k = ltb-true j k e in
        let m : j ≤ k - 1 = omega arith in
        let g : 10 ^ (k - 1) ≤ n = f.2 (omega arith) in
        let p : 10 ^ j ≤ 10 ^ (k - 1) = pow-le-pow_right (omega arith) m in
        absurd (omega arith)
    by_size false e = ltb-false j k e

-- ---- each of them

glyph_ten : (d : ℕ) → d < 10 → hex_digit_ascii d ≡ 48 + d
glyph_ten d h = simp (lt-ltb d 10 h)

pub digit_range : (b : ℕ) → digit b ≡ true → (48 ≤ b) × (b ≤ 57)
digit_range b e = (leb-true 48 b (and_left (leb 48 b) (leb b 57) e), leb-true b 57 (and_right (leb 48 b) (leb b 57) e))

digit_yes : (b : ℕ) → 48 ≤ b → b ≤ 57 → digit b ≡ true
digit_yes b h l = simp (le-leb 48 b h, le-leb b 57 l)

digit_glyph : (d : ℕ) → d < 10 → digit (hex_digit_ascii d) ≡ true
digit_glyph d h = ap digit (glyph_ten d h) ∙ digit_yes (48 + d) (omega arith) (omega arith)

all_digits : (k n : ℕ) → all digit (last_digits 10 k n) ≡ true
all_digits zero n = refl
all_digits (suc k) n =
    all_append digit (last_digits 10 k (n / 10)) (hex_digit_ascii (n % 10) ∷ []) (all_digits k (n / 10)) (both (digit_glyph (n % 10) (mod-lt n (omega arith))) refl)

-- the first is not 0
lead : (k n : ℕ) → 10 ^ k ≤ n → n < 10 ^ suc k → get_or (last_digits 10 (suc k) n) 0 0 ≡ 48 → ⊥
lead zero n l h e =
    let s : n < 10 ^ 1 = h in
    let some : 10 ^ 0 ≤ n = l in
    let d : n % 10 ≡ n = omega arith in
    let g : hex_digit_ascii (n % 10) ≡ 48 + n = glyph_ten (n % 10) (omega arith) ∙ ap (λ (d : ℕ). 48 + d) d in
    omega (arith, sym g ∙ e)
lead (suc k) n l h e =
    let low : 10 ^ k ≤ n / 10 = omega (arith, pow-suc 10 k) in
    let up : n / 10 < 10 ^ suc k = omega (arith, pow-suc 10 (suc k)) in
    let some : 0 < length (last_digits 10 (suc k) (n / 10)) = omega (arith, length_digits 10 (suc k) (n / 10)) in
    lead k (n / 10) low up (sym (get_or-append (last_digits 10 (suc k) (n / 10)) (hex_digit_ascii (n % 10) ∷ []) 0 0 some) ∙ e)

-- ---- what they are worth

worth_append : (m : ℕ) (s t : List ℕ) → worth m (s ++ t) ≡ worth (worth m s) t
unfolding worth
worth_append m [] t = refl
worth_append m (b ∷ s) t = worth_append (m * 10 + (b - 48)) s t

worth_digits : (k n : ℕ) → n < 10 ^ k → worth 0 (last_digits 10 k n) ≡ n
unfolding worth
worth_digits zero n h = omega arith
worth_digits (suc k) n h =
    let more : n / 10 < 10 ^ k = omega (arith, pow-suc 10 k) in
    let back : n / 10 * 10 + (48 + n % 10 - 48) ≡ n = omega arith in
    worth_append 0 (last_digits 10 k (n / 10)) (hex_digit_ascii (n % 10) ∷ [])
    ∙ ap₂ (λ (a g : ℕ). a * 10 + (g - 48)) (worth_digits k (n / 10) more) (glyph_ten (n % 10) (mod-lt n (omega arith)))
    ∙ back

one_worth : (j m b : ℕ) → 48 ≤ b → b ≤ 57 → last_digits 10 (suc j) (m * 10 + (b - 48)) ≡ last_digits 10 j m ++ (b ∷ [])
one_worth j m b h l =
    let q : (m * 10 + (b - 48)) / 10 ≡ m = omega arith in
    let r : (m * 10 + (b - 48)) % 10 ≡ b - 48 = omega arith in
    let g : 48 + (b - 48) ≡ b = omega arith in
    ap₂ (λ (a d : ℕ). last_digits 10 j a ++ (d ∷ [])) q (ap hex_digit_ascii r ∙ glyph_ten (b - 48) (omega arith) ∙ g)

pub digits_worth : (field : List ℕ) (j m : ℕ) → all digit field ≡ true → last_digits 10 j m ++ field ≡ last_digits 10 (j + length field) (worth m field)
unfolding worth
digits_worth [] j m e =
    let k : j ≡ j + 0 = omega arith in
    append-nil (last_digits 10 j m) ∙ ap (λ (i : ℕ). last_digits 10 i m) k
digits_worth (b ∷ field) j m e =
    let d = digit_range b (and_left (digit b) (all digit field) e) in
    let k : suc j + length field ≡ j + suc (length field) = omega arith in
    sym (append_assoc (last_digits 10 j m) (b ∷ []) field)
    ∙ ap (λ (s : List ℕ). s ++ field) (sym (one_worth j m b d.0 d.1))
    ∙ digits_worth field (suc j) (m * 10 + (b - 48)) (and_right (digit b) (all digit field) e)
    ∙ ap (λ (i : ℕ). last_digits 10 i (worth (m * 10 + (b - 48)) field)) k

shifted : (m k : ℕ) → m * 10 ^ suc k ≡ m * 10 * 10 ^ k
shifted m k = ap (λ (x : ℕ). m * x) (pow-suc 10 k ∙ mul_comm (10 ^ k) 10) ∙ sym (mul_assoc m 10 (10 ^ k))

-- k digits after the number m: from m·10^k on, and below (m + 1)·10^k
pub worth_between :
    (m : ℕ) (field : List ℕ) →
    all digit field ≡ true →
    (m * 10 ^ length field ≤ worth m field) × (worth m field < (m + 1) * 10 ^ length field)
unfolding worth
worth_between m [] e = (omega arith, omega arith)
worth_between m (b ∷ field) e =
    let d = digit_range b (and_left (digit b) (all digit field) e) in
    let w = worth_between (m * 10 + (b - 48)) field (and_right (digit b) (all digit field) e) in
    let p = 10 ^ length field in
    let low : m * 10 * p ≤ (m * 10 + (b - 48)) * p = mul-le-mul_right p (omega arith) in
    let up : (m * 10 + (b - 48) + 1) * p ≤ (m + 1) * 10 * p = mul-le-mul_right p (omega arith) in
    (omega (arith, shifted m (length field), low, w.0), omega (arith, shifted (m + 1) (length field), up, w.1))

-- ---- a number in decimal

module _ (n : ℕ) where
  fewest : IsDigitCount 10 1 n (places n n)
  fewest = places_fewest n n (omega arith)

  pub decimal_worth : worth 0 (decimal n) ≡ n
  unfolding decimal
  decimal_worth = worth_digits (places n n) n fewest.1

  pub decimal_digits : all digit (decimal n) ≡ true
  unfolding decimal
  decimal_digits = all_digits (places n n) n

  pub decimal_some : 0 < length (decimal n)
  unfolding decimal
  decimal_some = omega (arith, length_digits 10 (places n n) n, fewest.0)

  pub decimal_short : (k : ℕ) → n < 10 ^ suc k → length (decimal n) ≤ suc k
  unfolding decimal
  decimal_short k h = omega (arith, length_digits 10 (places n n) n, fewest_short n (places n n) (suc k) (omega arith) h fewest)

  by_count : (k : ℕ) → 1 ≤ n → IsDigitCount 10 1 n k → get_or (last_digits 10 k n) 0 0 ≡ 48 → ⊥
  by_count zero h f e = omega (arith, f.0)
  by_count (suc zero) h f e = lead 0 n (omega arith) f.1 e
  by_count (suc (suc k)) h f e =
      let i : suc (suc k) - 1 ≡ suc k = omega arith in
      lead (suc k) n (subst (λ (i : ℕ). 10 ^ i ≤ n) i (f.2 (omega arith))) f.1 e

  pub decimal_lead : 1 ≤ n → get_or (decimal n) 0 0 ≡ 48 → ⊥
  unfolding decimal
  decimal_lead h e = by_count (places n n) h fewest e
