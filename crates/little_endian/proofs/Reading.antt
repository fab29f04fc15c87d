-- Bytes make the number that the definition gives: four and eight by the library's reading, fewer one by one. Assumes nothing.
use mathlib.Core.Path.{◌≡◌, refl, sym, ap, ◌∙◌, subst}
use mathlib.Core.List.{List, [], ◌∷◌, reverse}
use Prim.Native.Nat.{ℕ, suc, ◌+◌, ◌-◌, ◌*◌, ◌^◌, ◌≤◌, ◌<◌}
use native.Mathlib.Nat.{pow-le-pow_right}
use native.Mathlib.Omega.{arith}
use lib.ListN.{length, get_or, take, drop, length-drop, drop_of_length-le, length-reverse}
use Rattle.std.proofs.lemmas.List.{get_or-reverse, get_or_default}
use Rattle.std.proofs.lemmas.Nat.{pow-add}
use lib.Seq.{take-nil, drop-cons, get_or-drop}
use mir.Syntax.{w8, w32, w64}
use mir.Val.{Fits}
use Rattle.std.specs.Int.{from_le_bytes}
use Rattle.std.specs.Array.{IsFirstChunk}
use Rattle.little_endian.specs.Bytes.{value, half, word}

four_read : (l : List ℕ) → from_le_bytes w32 (take 4 l) ≡ value (take 4 l)
unfolding value
four_read [] = refl
four_read (a ∷ []) = omega arith
four_read (a ∷ b ∷ []) = omega arith
four_read (a ∷ b ∷ c ∷ []) = omega arith
four_read (a ∷ b ∷ c ∷ d ∷ l) = omega arith

eight_read : (l : List ℕ) → from_le_bytes w64 (take 8 l) ≡ value (take 8 l)
unfolding value
eight_read [] = refl
eight_read (a ∷ []) = omega arith
eight_read (a ∷ b ∷ []) = omega arith
eight_read (a ∷ b ∷ c ∷ []) = omega arith
eight_read (a ∷ b ∷ c ∷ d ∷ []) = omega arith
eight_read (a ∷ b ∷ c ∷ d ∷ e ∷ []) = omega arith
eight_read (a ∷ b ∷ c ∷ d ∷ e ∷ f ∷ []) = omega arith
eight_read (a ∷ b ∷ c ∷ d ∷ e ∷ f ∷ g ∷ []) = omega arith
eight_read (a ∷ b ∷ c ∷ d ∷ e ∷ f ∷ g ∷ h ∷ l) = omega arith

-- as many bytes from a place on as a number has, in the library's array
pub half_is : (bs : List ℕ) (at : ℕ) (rest four : List ℕ) (n : ℕ) → rest ≡ drop at bs → IsFirstChunk rest four 4 → n ≡ from_le_bytes w32 four → n ≡ half bs at
half_is bs at rest four n r c e = e ∙ ap (from_le_bytes w32) (c.same ∙ ap (take 4) r) ∙ four_read (drop at bs)

pub word_is : (bs : List ℕ) (at : ℕ) (rest eight : List ℕ) (n : ℕ) → rest ≡ drop at bs → IsFirstChunk rest eight 8 → n ≡ from_le_bytes w64 eight → n ≡ word bs at
word_is bs at rest eight n r c e = e ∙ ap (from_le_bytes w64) (c.same ∙ ap (take 8) r) ∙ eight_read (drop at bs)

-- past the end stand zeros
pub past : (n : ℕ) (bs : List ℕ) (at : ℕ) → length bs < at → 0 ≡ value (take n (drop at bs))
unfolding value
past n bs at h = sym (ap (λ (l : List ℕ). value (take n l)) (drop_of_length-le bs (omega arith)) ∙ ap value (take-nil n))

-- ---- fewer than eight, from the last one on: n of them are read
pub record Backwards (bs : List ℕ) (n number : ℕ) : Type 0 where
  pub read : number ≡ value (drop (length bs - n) bs)
  pub small : number < 256 ^ n

pub none_read : (bs : List ℕ) → Backwards bs 0 0
unfolding value
none_read bs = record { read = sym (ap value (drop_of_length-le bs (omega arith))); small = omega arith }

-- the bytes from a place on
pub few : (bs : List ℕ) (at : ℕ) → (at ≤ length bs) × (length bs < at + 8) → length (drop at bs) < 8
few bs at h = omega (arith, length-drop at bs)

pub each : (bs : List ℕ) (at : ℕ) → ((i : ℕ) → Fits w8 (get_or bs i 0)) → (i : ℕ) → Fits w8 (get_or (drop at bs) i 0)
each bs at h i = rw (get_or-drop at bs i 0) (h (at + i))

-- b is the next of them
module _
    (bs : List ℕ) (all : (i : ℕ) → Fits w8 (get_or bs i 0)) (short : length bs < 8)
    (n number b : ℕ) (p : Backwards bs n number) (t : (n < length (reverse bs)) × (b ≡ get_or (reverse bs) n b)) where
  more : n < length bs
  more = omega (arith, t.0, length-reverse bs)

  abbrev i : ℕ
  i = length bs - 1 - n

  next : b ≡ get_or bs i 0
  next = t.1 ∙ get_or-reverse bs n b more ∙ get_or_default bs i b 0 (omega (arith, more))

  -- there is room for it
  pub room : number * 256 + b < 2 ^ 64
  room =
      let most : 256 ^ n ≤ 256 ^ 7 = pow-le-pow_right (omega arith) {i = n} {j = 7} (omega (arith, more)) in
      omega (arith, p.small, most, next, all i)

  pub next_read : Backwards bs (n + 1) (number * 256 + b)
  unfolding value
  next_read =
      let wider : 256 ^ (n + 1) ≡ 256 ^ n * 256 = pow-add 256 n 1 in
      let here : length bs - (n + 1) ≡ i = omega arith in
      let last : suc i ≡ length bs - n = omega (arith, more) in
      let rest : number ≡ value (drop (suc i) bs) = p.read ∙ ap (λ (j : ℕ). value (drop j bs)) (sym last) in
      let first : value (drop i bs) ≡ get_or bs i 0 + 256 * value (drop (suc i) bs) = ap value (drop-cons bs i 0 (omega (arith, more))) in
      record { read = rw here (omega (arith, rest, first, next)); small = omega (arith, p.small, wider, next, all i) }

pub all_read : (bs : List ℕ) (n number : ℕ) → Backwards bs n number → n ≡ length bs → (number ≡ value bs) × (number < 256 ^ length bs)
all_read bs n number p e =
    let none : length bs - n ≡ 0 = omega arith in
    (p.read ∙ ap (λ (j : ℕ). value (drop j bs)) none, subst (λ (k : ℕ). number < 256 ^ k) e p.small)
