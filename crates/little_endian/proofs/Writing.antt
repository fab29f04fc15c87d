-- Bytes written one by one are the bytes that the definition gives, and stand where it says. Assumes nothing.
use mathlib.Core.Path.{◌≡◌, refl, sym, ap, ap₂, ◌∙◌}
use mathlib.Core.List.{List, [], ◌∷◌, ◌++◌, append-nil, append_assoc}
use Prim.Native.Nat.{ℕ, zero, suc, ◌+◌, ◌-◌, ◌*◌, ◌/◌, ◌%◌, ◌≤◌, ◌<◌}
use native.Mathlib.Nat.{add-zero, sub-zero, div-div-eq-div-mul}
use native.Mathlib.Numerals.{add-one}
use mir.Syntax.{w64}
use borrow.Rule.Slice.PartMut.{mid_of, put_mid, post_of, Post-is, mid_len}
use Rattle.std.specs.Int.{to_le_bytes}
use native.Mathlib.Omega.{arith}
use borrow.Author.Tests.{le-leb, lt-leb}
use lib.Ieee.{Float, binary64, to_bits}
use lib.ListN.{length, get_or, take, drop, set, length-set, length-append, drop_of_length-le}
use lib.Seq.{drop-cons, sets, length-sets, sets-eq}
use Rattle.little_endian.specs.Bytes.{bytes, floats, put}

-- ---- lengths

pub length_bytes : (n w : ℕ) → length (bytes n w) ≡ n
unfolding bytes
length_bytes zero w = refl
length_bytes (suc n) w = ap suc (length_bytes n (w / 256))

pub length_floats : (xs : List Float) → length (floats xs) ≡ 8 * length xs
unfolding floats
length_floats [] = refl
length_floats (x ∷ xs) =
    omega (arith, length-append (bytes 8 (to_bits binary64 x)) (floats xs), length_bytes 8 (to_bits binary64 x), length_floats xs)

-- ---- one byte after the other: i are written, and with those that are left of the rest they are all
pub record Bytewise (n number : ℕ) (out : List ℕ) (i rest : ℕ) : Type 0 where
  pub long : length out ≡ n
  pub left : sets out i (bytes (n - i) rest) ≡ bytes n number

pub no_byte : (out : List ℕ) (number : ℕ) → Bytewise (length out) number out 0 number
no_byte out number =
    let n : ℕ = length out in
    let all : length (bytes n number) ≡ n = length_bytes n number in
    record {
      long = refl;
      left =
          ap (λ (k : ℕ). sets out 0 (bytes k number)) (sub-zero n)
          ∙ sets-eq (bytes n number) out 0 (omega (arith, all))
          ∙ ap (λ (l : List ℕ). bytes n number ++ l) (drop_of_length-le out (omega (arith, all)))
          ∙ append-nil (bytes n number);
    }

pub next_byte :
    (n number : ℕ) (out : List ℕ) (i rest : ℕ) → Bytewise n number out i rest → i < n → Bytewise n number (set out i (rest % 256)) (i + 1) (rest / 256)
unfolding bytes
next_byte n number out i rest p h =
    let one : suc (n - (i + 1)) ≡ n - i = omega arith in
    record {
      long = length-set out i (rest % 256) ∙ p.long;
      left =
          ap (λ (k : ℕ). sets (set out i (rest % 256)) k (bytes (n - (i + 1)) (rest / 256))) (add-one i)
          ∙ ap (λ (k : ℕ). sets out i (bytes k rest)) one
          ∙ p.left;
    }

pub every_byte : (n number : ℕ) (out : List ℕ) (i rest : ℕ) → Bytewise n number out i rest → n ≤ i → out ≡ bytes n number
unfolding bytes
every_byte n number out i rest p h =
    let none : 0 ≡ n - i = omega arith in
    ap (λ (k : ℕ). sets out i (bytes k rest)) none ∙ p.left

-- ---- the library's eight bytes, and the first four of them

pub eight_bytes : (w : ℕ) → to_le_bytes w64 w ≡ bytes 8 w
unfolding bytes
eight_bytes w = simp div-div-eq-div-mul

pub first_four : (w : ℕ) {l : List ℕ} → l ≡ to_le_bytes w64 w → get_or l 0 0 ∷ get_or l 1 0 ∷ get_or l 2 0 ∷ get_or l 3 0 ∷ [] ≡ bytes 4 w
unfolding bytes
first_four w e = simp (e, div-div-eq-div-mul)

-- ---- lists of bytes side by side

pub sets_append : (l : List ℕ) (i : ℕ) (xs ys : List ℕ) (j : ℕ) → j ≡ i + length xs → sets (sets l i xs) j ys ≡ sets l i (xs ++ ys)
sets_append l i [] ys j e = ap (λ (k : ℕ). sets l k ys) (omega (arith, e))
sets_append l i (x ∷ xs) ys j e = sets_append (set l i x) (suc i) xs ys j (omega (arith, e))

-- a part of the buffer, as long as the new bytes, has become them
pub written : (at n : ℕ) (new part bs : List ℕ) → part ≡ new → n ≡ length new → at + n ≤ length bs → put_mid at (at + n - at) bs part ≡ sets bs at new
written at n new part bs e l h =
    let behind : post_of at (at + n - at) bs ≡ drop (at + length new) bs = Post-is at (at + n) bs (omega arith) ∙ ap (λ (k : ℕ). drop (at + k) bs) l in
    ap₂ (λ (p d : List ℕ). take at bs ++ (p ++ d)) e behind
    ∙ sym (append_assoc (take at bs) new (drop (at + length new) bs))
    ∙ sym (sets-eq new bs at (omega arith))

-- ---- one number after the other

pub record Floatwise (out₀ : List ℕ) (at : ℕ) (numbers : List Float) (out : List ℕ) (i : ℕ) : Type 0 where
  pub within : i ≤ length numbers
  pub fits : at + 8 * length numbers ≤ length out₀
  pub long : length out ≡ length out₀
  pub left : sets out (at + 8 * i) (floats (drop i numbers)) ≡ sets out₀ at (floats numbers)

pub no_float : (out : List ℕ) (at : ℕ) (numbers : List Float) → at + 8 * length numbers ≤ length out → Floatwise out at numbers out 0
no_float out at numbers h = record { within = omega arith; fits = h; long = refl; left = ap (λ (k : ℕ). sets out k (floats numbers)) (add-zero at) }

pub next_float :
    (out₀ : List ℕ) (at : ℕ) (numbers : List Float) (out : List ℕ) (i : ℕ) (d : Float) (b : ℕ) (after : List ℕ) →
    Floatwise out₀ at numbers out i →
    i < length numbers →
    b ≡ to_bits binary64 (get_or numbers i d) →
    after ≡ sets out (at + 8 * i) (bytes 8 b) →
    Floatwise out₀ at numbers after (i + 1)
unfolding floats
next_float out₀ at numbers out i d b after p h e f =
    let x : Float = get_or numbers i d in
    let suc_i : i + 1 ≡ suc i = omega arith in
    let g : after ≡ sets out (at + 8 * i) (bytes 8 (to_bits binary64 x)) = f ∙ ap (λ (w : ℕ). sets out (at + 8 * i) (bytes 8 w)) e in
    record {
      within = omega arith;
      fits = p.fits;
      long = ap length g ∙ length-sets out (at + 8 * i) (bytes 8 (to_bits binary64 x)) ∙ p.long;
      left =
          ap (λ (k : ℕ). sets after (at + 8 * (i + 1)) (floats (drop k numbers))) suc_i
          ∙ ap (λ (l : List ℕ). sets l (at + 8 * (i + 1)) (floats (drop (suc i) numbers))) g
          ∙ sets_append out (at + 8 * i) (bytes 8 (to_bits binary64 x)) (floats (drop (suc i) numbers)) (at + 8 * (i + 1)) (omega (arith, length_bytes 8 (to_bits binary64 x)))
          ∙ ap (λ (l : List Float). sets out (at + 8 * i) (floats l)) (sym (drop-cons numbers i d h))
          ∙ p.left;
    }

pub every_float :
    (out₀ : List ℕ) (at : ℕ) (numbers : List Float) (out : List ℕ) (i : ℕ) →
    Floatwise out₀ at numbers out i →
    length numbers ≤ i →
    out ≡ sets out₀ at (floats numbers)
unfolding floats
every_float out₀ at numbers out i p h =
    sym (ap (λ (l : List Float). sets out (at + 8 * i) (floats l)) (drop_of_length-le numbers h)) ∙ p.left

-- ---- put where they fit

module _ (at : ℕ) (new bs : List ℕ) where
  pub fitting : at + length new ≤ length bs → put at new bs ≡ sets bs at new
  unfolding put
  fitting h = simp (le-leb (at + length new) (length bs) h) (sym (sets-eq new bs at h))

  pub not_fitting : length bs < at + length new → bs ≡ put at new bs
  unfolding put
  not_fitting h = simp (lt-leb (at + length new) (length bs) h)

-- a part of the buffer, as long as the new bytes, has become them
module _ (at count number : ℕ) (bs : List ℕ) (h : count ≤ length bs - at) (l : at ≤ length bs) where
  pub put_there : (part : List ℕ) → part ≡ bytes count number → put_mid at (at + count - at) bs part ≡ put at (bytes count number) bs
  put_there part e =
      let n : length (bytes count number) ≡ count = length_bytes count number in
      written at count (bytes count number) part bs e (sym n) (omega arith) ∙ sym (fitting at (bytes count number) bs (omega (arith, n)))

  -- the part that the loop was lent has as many places
  pub put_each : (part : List ℕ) → part ≡ bytes (length (mid_of at (at + count - at) bs)) number → put_mid at (at + count - at) bs part ≡ put at (bytes count number) bs
  put_each part e =
      let n : length (mid_of at (at + count - at) bs) ≡ count = mid_len at (at + count) bs (omega arith) ∙ omega arith in
      put_there part (e ∙ ap (λ (k : ℕ). bytes k number) n)
