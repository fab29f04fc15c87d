-- What a caller may rely on, of the definitions of specs/ and of the contracts of src/. Assumes nothing.
use mathlib.Core.Path.{◌≡◌, refl, sym, ap, ◌∙◌}
use mathlib.Core.Bool.{Bool, true, false, cond}
use mathlib.Core.List.{List, [], ◌∷◌, ◌++◌, append-nil, append_assoc}
use Prim.Native.Nat.{ℕ, zero, suc, ◌+◌, ◌*◌, ◌/◌, ◌%◌, ◌^◌, ◌≤◌, ◌<◌}
use native.Mathlib.Nat.{pow-suc, mod-add-div}
use native.Mathlib.Omega.{arith}
use borrow.Author.Tests.{leb-true}
use lib.Dec.{T, leb}
use lib.Ieee.{Float, binary64, fits, to_bits}
use lib.Ieee.Bits.{of_bits-to_bits, to_bits-lt}
use lib.ListN.{length, get_or, take, drop, length-append, drop_of_length-le}
use lib.Seq.{sets, length-sets, sets-eq, length-take-le, take-append_seam, take_at, drop_at, drop-append-add}
use Rattle.exact.specs.Determined.{Determined, DeterminedWith}
use Rattle.exact.specs.F64.{f64}
use Rattle.little_endian.specs.Bytes.{value, bytes, half, word, float, floats, put}
use Rattle.little_endian.proofs.Writing as writing
use Rattle.little_endian.proofs.half.Reads as half-contract
use Rattle.little_endian.proofs.word.Reads as word-contract
use Rattle.little_endian.proofs.float.Reads as float-contract
use Rattle.little_endian.proofs.put.Reads as put-contract
use Rattle.little_endian.proofs.put_floats.Reads as put-floats-contract

-- ---- each contract permits one answer

-- Any two answers to one call that the contract of a reader permits are equal.
pub determined : Determined half-contract.Post × Determined word-contract.Post × Determined float-contract.Post
determined = (λ κ a s s' r r' p q. p ∙ sym q, λ κ a s s' r r' p q. p ∙ sym q, λ κ a s s' r r' p q. p ∙ sym q)

-- Any two buffers that the contract of a writer permits after one call are equal; it has one answer only.
pub determined_buffers : DeterminedWith put-contract.Post (λ κ s. s.0.now) × DeterminedWith put-floats-contract.Post (λ κ s. s.0.now)
determined_buffers = (λ κ a s s' r r' p q. (refl, p ∙ sym q), λ κ a s s' r r' p q. (refl, p ∙ sym q))

-- ---- numbers and their bytes

-- A number has as many bytes as are asked for, and a list of numbers eight for each.
pub length_bytes : (n w : ℕ) → length (bytes n w) ≡ n
length_bytes n w = writing.length_bytes n w

pub length_floats : (xs : List Float) → length (floats xs) ≡ 8 * length xs
length_floats xs = writing.length_floats xs

-- A number that n bytes can hold is the number of its n bytes.
pub value_bytes : (n w : ℕ) → w < 256 ^ n → value (bytes n w) ≡ w
unfolding value bytes
value_bytes zero w h = omega arith
value_bytes (suc n) w h =
    let p : 256 ^ suc n ≡ 256 ^ n * 256 = pow-suc 256 n in
    let less : w / 256 < 256 ^ n = omega arith in
    ap (λ (v : ℕ). w % 256 + 256 * v) (value_bytes n (w / 256) less) ∙ mod-add-div w 256

-- Bytes are the bytes of their number: another list of as many bytes has another number.
pub bytes_value : (bs : List ℕ) → ((i : ℕ) → get_or bs i 0 < 256) → bytes (length bs) (value bs) ≡ bs
unfolding value bytes
bytes_value [] h = refl
bytes_value (b ∷ bs) h =
    let low : b < 256 = h 0 in
    let rest : (b + 256 * value bs) / 256 ≡ value bs = omega arith in
    let first : (b + 256 * value bs) % 256 ≡ b = omega arith in
    ap (λ (k : ℕ). k ∷ bytes (length bs) ((b + 256 * value bs) / 256)) first
    ∙ ap (λ (v : ℕ). b ∷ bytes (length bs) v) rest
    ∙ ap (λ (l : List ℕ). b ∷ l) (bytes_value bs (λ i. h (suc i)))

-- ---- what is put

module _ (at : ℕ) (new bs : List ℕ) where
  by_room : (t : Bool) → leb (at + length new) (length bs) ≡ t → length (cond t (take at bs ++ new ++ drop (at + length new) bs) bs) ≡ length bs
  by_room true e =
      let h : at + length new ≤ length bs = leb-true (at + length new) (length bs) e in
      ap length (sym (sets-eq new bs at h)) ∙ length-sets bs at new
  by_room false e = refl

  -- The buffer's length is kept, whether the bytes fit or not.
  pub length_put : length (put at new bs) ≡ length bs
  unfolding put
  length_put = by_room (leb (at + length new) (length bs)) refl

  -- What does not fit changes nothing.
  pub not_put : length bs < at + length new → put at new bs ≡ bs
  not_put h = sym (writing.not_fitting at new bs h)

  module _ (h : at + length new ≤ length bs) where
    -- What fits stands between what was before it and what was behind it.
    pub is_put : put at new bs ≡ take at bs ++ new ++ drop (at + length new) bs
    is_put = writing.fitting at new bs h ∙ sets-eq new bs at h

    before : length (take at bs) ≡ at
    before = length-take-le at bs (omega arith)

    -- What fits is there,
    pub read_back : take (length new) (drop at (put at new bs)) ≡ new
    read_back =
        ap (λ (l : List ℕ). take (length new) (drop at l)) (is_put ∙ append_assoc (take at bs) new (drop (at + length new) bs))
        ∙ ap (take (length new)) (drop_at (take at bs) (new ++ drop (at + length new) bs) at before)
        ∙ take-append_seam new (drop (at + length new) bs)

    -- and what stands before and behind it is as it was.
    pub kept_before : take at (put at new bs) ≡ take at bs
    kept_before =
        ap (take at) (is_put ∙ append_assoc (take at bs) new (drop (at + length new) bs))
        ∙ take_at (take at bs) (new ++ drop (at + length new) bs) at before

    pub kept_behind : drop (at + length new) (put at new bs) ≡ drop (at + length new) bs
    kept_behind =
        ap (drop (at + length new)) is_put
        ∙ drop_at (take at bs ++ new) (drop (at + length new) bs) (at + length new) (length-append (take at bs) new ∙ ap (λ (k : ℕ). k + length new) before)

-- Bytes of the buffer's own length are all of it afterwards.
pub put_whole : (new bs : List ℕ) → length new ≡ length bs → put 0 new bs ≡ new
put_whole new bs e =
    let fits : 0 + length new ≤ length bs = omega (arith, e) in
    let none : length bs ≤ 0 + length new = omega (arith, e) in
    is_put 0 new bs fits ∙ ap (λ (l : List ℕ). new ++ l) (drop_of_length-le bs none) ∙ append-nil new

-- Bytes put right behind others are put as one.
pub put_put :
    (at : ℕ) (a b bs : List ℕ) (next : ℕ) →
    next ≡ at + length a →
    at + length a + length b ≤ length bs →
    put next b (put at a bs) ≡ put at (a ++ b) bs
put_put at a b bs next e h =
    writing.fitting next b (put at a bs) (omega (arith, e, h, length_put at a bs))
    ∙ ap (λ (l : List ℕ). sets l next b) (writing.fitting at a bs (omega (arith, h)))
    ∙ writing.sets_append bs at a b next e
    ∙ sym (writing.fitting at (a ++ b) bs (omega (arith, h, length-append a b)))

-- ---- what is put is read

-- A word that is put is read at its place, and so is a number of 32 bits.
pub word_back : (at w : ℕ) (bs : List ℕ) → at + 8 ≤ length bs → w < 256 ^ 8 → word (put at (bytes 8 w) bs) at ≡ w
word_back at w bs h l =
    let n : length (bytes 8 w) ≡ 8 = length_bytes 8 w in
    ap (λ (k : ℕ). value (take k (drop at (put at (bytes 8 w) bs)))) (sym n)
    ∙ ap value (read_back at (bytes 8 w) bs (omega (arith, n, h)))
    ∙ value_bytes 8 w l

pub half_back : (at w : ℕ) (bs : List ℕ) → at + 4 ≤ length bs → w < 256 ^ 4 → half (put at (bytes 4 w) bs) at ≡ w
half_back at w bs h l =
    let n : length (bytes 4 w) ≡ 4 = length_bytes 4 w in
    ap (λ (k : ℕ). value (take k (drop at (put at (bytes 4 w) bs)))) (sym n)
    ∙ ap value (read_back at (bytes 4 w) bs (omega (arith, n, h)))
    ∙ value_bytes 4 w l

-- Of an f64's bytes, whatever follows, the f64 itself is read: its sign, an infinity and NaN too.
pub float_of_bytes : (x : Float) (l : List ℕ) → T (fits binary64 x) → float (bytes 8 (to_bits binary64 x) ++ l) 0 ≡ x
float_of_bytes x l ok =
    let w : ℕ = to_bits binary64 x in
    ap f64
    (ap (λ (k : ℕ). value (take k (bytes 8 w ++ l))) (sym (length_bytes 8 w))
    ∙ ap value (take-append_seam (bytes 8 w) l)
    ∙ value_bytes 8 w (to_bits-lt binary64 x ok))
    ∙ of_bits-to_bits binary64 x ok

-- The k-th f64 of a list's bytes, whatever follows them, is read at place 8k.
pub float_at :
    (xs : List Float) (k : ℕ) (d : Float) (l : List ℕ) → k < length xs → T (fits binary64 (get_or xs k d))
    → float (floats xs ++ l) (8 * k) ≡ get_or xs k d
unfolding floats
float_at [] k d l h ok = absurd (omega arith)
float_at (x ∷ xs) zero d l h ok =
    ap (λ (m : List ℕ). float m 0) (append_assoc (bytes 8 (to_bits binary64 x)) (floats xs) l) ∙ float_of_bytes x (floats xs ++ l) ok
float_at (x ∷ xs) (suc k) d l h ok =
    let w : ℕ = to_bits binary64 x in
    let place : 8 * suc k ≡ length (bytes 8 w) + 8 * k = omega (arith, length_bytes 8 w) in
    ap (λ (m : List ℕ). float m (8 * suc k)) (append_assoc (bytes 8 w) (floats xs) l)
    ∙ ap (λ (j : ℕ). float (bytes 8 w ++ (floats xs ++ l)) j) place
    ∙ ap (λ (m : List ℕ). f64 (value (take 8 m))) (drop-append-add (bytes 8 w) (floats xs ++ l) (8 * k))
    ∙ float_at xs k d l (omega arith) ok
