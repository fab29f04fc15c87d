-- A camera whose parameters are finite, by their bit patterns. Assumes nothing.
use mathlib.Core.Path.{◌≡◌, refl, sym, ap, ap₂, ◌∙◌}
use Rattle.std.specs.declared.result.Result.TheVariants.{Ok, Err}
use mathlib.Core.Bool.{Bool, true, false, cond, ◌&&◌}
use mathlib.Core.List.{List, [], ◌∷◌}
use mathlib.Core.Logic.{inl, inr}
use Prim.Native.Nat.{ℕ, zero, suc, ◌+◌, ◌-◌, ◌*◌, ◌/◌, ◌%◌, ◌^◌, ◌≤◌, ◌<◌}
use native.Mathlib.Nat.{eq-zero-or-pos}
use native.Mathlib.Omega.{arith}
use borrow.Author.Count.{below_more}
use lib.Dec.{eqb, leb}
use lib.Ieee.{Float, nan, inf, binary64, top, hid, low, of_fields, of_bits}
use lib.Ieee.Bits.{is_true}
use lib.Ieee.Scale.{finite}
use lib.ListN.{length, set, take, replicate, length-set, get_or-replicate, drop_of_length-le}
use lib.Seq.{get_or-set_same, get_or-set_other}
use Rattle.exact.specs.F64.{f64}
use Rattle.exact.proofs.Infinite.{has_value}
use Rattle.exact.proofs.Pattern.{low_value, mid_value}
use Rattle.lens.specs.Constants.{zeros}
use Rattle.lens.specs.Finite.{all_finite}
use Rattle.little_endian.specs.Bytes.{value, word}
use Rattle.lens.specs.declared.Refusal.TheVariants.{NotFinite}
use Rattle.camera.specs.Camera.{parameters}
use Rattle.camera.specs.Numbers as numbers
use Rattle.camera.specs.Numbers.{most, count, first_of}
use Rattle.camera.specs.declared.Camera.{Camera}
use Rattle.camera.proofs.Laws.{camera_first, parameters_are, table_ends}
use Rattle.camera.proofs.Models.{each_model}
use Rattle.camera_bytes.specs.Reading.{at, camera_of, finite_only, Plain}
use Rattle.camera_bytes.specs.Putting.{SameTo, FiniteTo, Broken, Two, All}

-- ---- a finite number's pattern

below : (m : ℕ) → m < 0x7ff0_0000_0000_0000 → m / 0x10_0000_0000_0000 < 2047
below m h = omega arith

pub plain_finite : (b : ℕ) → Plain b → finite (f64 b) ≡ true
plain_finite b h = is_true (finite (f64 b)) (elim (eq-zero-or-pos (b % top binary64 / hid binary64)) [
  | inl e ↦ has_value (f64 b) (leb (top binary64) b) (b % hid binary64 * 2 ^ 0) (2 ^ low binary64) (low_value binary64 b e)
  | inr l ↦
      has_value (f64 b) (leb (top binary64) b) ((hid binary64 + b % hid binary64) * 2 ^ (b % top binary64 / hid binary64 - 1)) (2 ^ low binary64)
      (mid_value binary64 b l (below (b % 0x8000_0000_0000_0000) h))
])

pub odd_not : (b : ℕ) → 0x7ff0_0000_0000_0000 ≤ b % 0x8000_0000_0000_0000 → finite (f64 b) ≡ false
unfolding of_bits of_fields
odd_not b h = ap (λ (x : ℕ). finite (of_fields binary64 sign x digits)) full ∙ no_number (eqb digits 0)
  where
    sign : Bool
    sign = leb (top binary64) b

    digits : ℕ
    digits = b % hid binary64

    full : b % top binary64 / hid binary64 ≡ 2047
    full = below_all (b % 0x8000_0000_0000_0000) h (omega arith)
      where
        below_all : (m : ℕ) → 0x7ff0_0000_0000_0000 ≤ m → m < 0x8000_0000_0000_0000 → m / 0x10_0000_0000_0000 ≡ 2047
        below_all m l k = omega arith

    no_number : (none : Bool) → finite (cond none (inf sign) nan) ≡ false
    no_number true = refl
    no_number false = refl

-- ---- a model's camera has no more numbers than any model has

first_same : (k : ℕ) (n m : ℕ → Float) → ((j : ℕ) → j < k → n j ≡ m j) → first_of k n ≡ first_of k m
first_same zero n m s = refl
first_same (suc k) n m s =
    ap₂ (λ (x : Float) (l : List Float). x ∷ l) (s 0 (omega arith))
    (first_same k (λ j. n (suc j)) (λ j. m (suc j)) (λ j h. s (suc j) (omega arith)))

first_finite : (k : ℕ) (n : ℕ → Float) → ((j : ℕ) → j < k → finite (n j) ≡ true) → all_finite (first_of k n) ≡ true
unfolding all_finite
first_finite zero n s = refl
first_finite (suc k) n s = ap₂ ◌&&◌ (s 0 (omega arith)) (first_finite k (λ j. n (suc j)) (λ j h. s (suc j) (omega arith)))

first_broken : (k : ℕ) (n : ℕ → Float) (j : ℕ) → j < k → finite (n j) ≡ false → all_finite (first_of k n) ≡ false
unfolding all_finite
first_broken zero n j h e = absurd (omega arith)
first_broken (suc k) n zero h e = rw e refl
first_broken (suc k) n (suc j) h e = last_false (finite (n 0)) (first_broken k (λ i. n (suc i)) j (omega arith) e)
  where
    last_false : (b : Bool) {c : Bool} → c ≡ false → b && c ≡ false
    last_false true e = e
    last_false false e = refl

-- every model's count is even, so that its bytes are a row of two words and two words
pub even_bytes : (model : ℕ) (p : List ℕ) → length p ≡ 8 * count model → length p % 16 ≡ 0
even_bytes model p e = omega (arith, e, even model)
  where
    even : (model : ℕ) → count model % 2 ≡ 0
    even = each_model (λ m. m.count % 2 ≡ 0) (refl, (refl, (refl, (refl, (refl, tt))))) refl

module _ (model : ℕ) (p : List ℕ) where
  -- an array with the bytes' numbers
  pub same_camera : (n : List Float) → SameTo most p n → numbers.camera_of model (numbers.at n) ≡ camera_of model p
  unfolding camera_of
  same_camera n s =
      camera_first (numbers.at n) model
      ∙ ap (λ (l : List Float). numbers.camera_of model (numbers.at l))
      (first_same (count model) (numbers.at n) (at p) (λ j h. s j (omega (arith, table_ends.1 model))))
      ∙ sym (camera_first (at p) model)

  -- where all are finite, so are the camera's
  pub whole_finite : {camera : Camera} (n : List Float) → All p n → camera ≡ numbers.camera_of model (numbers.at n) → Ok camera ≡ finite_only (Ok (camera_of model p))
  unfolding camera_of
  whole_finite n a c =
      let f : all_finite (parameters (camera_of model p)) ≡ true =
      ap all_finite (parameters_are (at p) model) ∙ first_finite (count model) (at p) (λ j h. a.sound j (omega (arith, table_ends.1 model))) in
      rw f (ap Ok (c ∙ same_camera n a.same))

  -- and where one that is there isn't, the camera's aren't
  pub whole_broken : length p ≡ 8 * count model → Broken p → Err NotFinite ≡ finite_only (Ok (camera_of model p))
  unfolding camera_of
  whole_broken e b =
      let f : all_finite (parameters (camera_of model p)) ≡ false =
      ap all_finite (parameters_are (at p) model) ∙ first_broken (count model) (at p) b.place (omega (arith, e, b.within)) b.odd in
      rw f refl

-- ---- an array filled number by number

module _ (p : List ℕ) where
  pub one_more : (n : List Float) (i : ℕ) {v : Float} → i < length n → v ≡ at p i → SameTo i p n → SameTo (i + 1) p (set n i v)
  one_more n i {v} h e s =
      below_more (λ k. numbers.at (set n i v) k ≡ at p k) i (λ k l. get_or-set_other n i k v nan (λ q. omega (arith, l, q)) ∙ s k l)
      (get_or-set_same n i v nan h ∙ e)

  -- two words that were read, and tested
  module _ (i a b : ℕ) (e : a ≡ word p (8 * i)) (f : b ≡ word p (8 * i + 8)) where
    next : 8 * i + 8 ≡ 8 * (i + 1)
    next = omega arith

    at_first : f64 a ≡ at p i
    at_first = ap f64 e

    at_second : f64 b ≡ at p (i + 1)
    at_second = ap f64 (f ∙ ap (λ (k : ℕ). word p k) next)

    pub two_put : (n after : List Float) {x y : Float} → Plain a → Plain b → x ≡ f64 a → y ≡ f64 b → after ≡ set (set n i x) (i + 1) y → Two p i n after
    two_put n after g h u v w = record {
      put = w ∙ ap₂ (λ (k l : Float). set (set n i k) (i + 1) l) (u ∙ at_first) (v ∙ at_second);
      first = sym (ap finite at_first) ∙ plain_finite a g;
      second = sym (ap finite at_second) ∙ plain_finite b h;
    }

    pub first_odd : 8 * i + 16 ≤ length p → 0x7ff0_0000_0000_0000 ≤ a % 0x8000_0000_0000_0000 → Broken p
    first_odd l g = record { place = i; within = omega arith; odd = sym (ap finite at_first) ∙ odd_not a g }

    pub second_odd : 8 * i + 16 ≤ length p → 0x7ff0_0000_0000_0000 ≤ b % 0x8000_0000_0000_0000 → Broken p
    second_odd l g = record { place = i + 1; within = omega arith; odd = sym (ap finite at_second) ∙ odd_not b g }

  -- so many are put, and behind them are zeros still
  pub record Filled (i : ℕ) (n : List Float) : Type 0 where
    pub within : i ≤ most
    pub even : i % 2 ≡ 0
    pub long : length n ≡ most
    pub same : SameTo i p n
    pub sound : FiniteTo i p
    pub rest : (k : ℕ) → i ≤ k → k < most → numbers.at n k ≡ zeros

  pub none_filled : (n : List Float) → n ≡ replicate most zeros → Filled 0 n
  none_filled n e = record {
    within = omega arith;
    even = refl;
    long = ap length e;
    same = λ k h. absurd (omega arith);
    sound = λ k h. absurd (omega arith);
    rest = λ k h l. ap (λ (m : List Float). numbers.at m k) e ∙ get_or-replicate most k zeros nan l;
  }

  more : (i : ℕ) → FiniteTo i p → finite (at p i) ≡ true → FiniteTo (i + 1) p
  more = below_more (λ k. finite (at p k) ≡ true)

  pub next_filled : (i : ℕ) (n after : List Float) → Filled i n → i < most → Two p i n after → Filled (i + 2) after
  next_filled i n after f h t =
      let once : List Float = set n i (at p i) in
      let l₁ : length once ≡ most = length-set n i (at p i) ∙ f.long in
      let two_more : SameTo (i + 1 + 1) p (set once (i + 1) (at p (i + 1))) =
      one_more once (i + 1) (omega (arith, l₁, h, f.even)) refl (one_more n i (omega (arith, f.long)) refl f.same) in
      record {
        within = omega (arith, h, f.even);
        even = omega (arith, f.even);
        long = ap length t.put ∙ length-set once (i + 1) (at p (i + 1)) ∙ l₁;
        same = λ k l. ap (λ (m : List Float). numbers.at m k) t.put ∙ two_more k (omega (arith, l));
        sound = λ k l. more (i + 1) (more i f.sound t.first) t.second k (omega (arith, l));
        rest = λ k l m.
            ap (λ (m : List Float). numbers.at m k) t.put
            ∙ get_or-set_other once (i + 1) k (at p (i + 1)) nan (λ q. omega (arith, l, q))
            ∙ get_or-set_other n i k (at p i) nan (λ q. omega (arith, l, q))
            ∙ f.rest k (omega (arith, l)) m;
      }

  -- no byte is left: what isn't there is a zero
  missing : (k : ℕ) → length p ≤ 8 * k → at p k ≡ zeros
  unfolding value
  missing k h = ap (λ (l : List ℕ). f64 (value (take 8 l))) (drop_of_length-le p h)

  pub all_there : (i : ℕ) (n : List Float) → Filled i n → length p ≤ 8 * i → All p n
  all_there i n f h = record {
    same = λ k l. elim (eq-zero-or-pos (i - k)) [
      | inl e ↦ f.rest k (omega (arith, e)) l ∙ sym (missing k (omega (arith, e, h)))
      | inr m ↦ f.same k (omega (arith, m))
    ];
    sound = λ k l. elim (eq-zero-or-pos (i - k)) [
      | inl e ↦ ap finite (missing k (omega (arith, e, h))) ∙ plain_finite 0 (omega arith)
      | inr m ↦ f.sound k (omega (arith, m))
    ];
  }

  pub all_filled : (i : ℕ) (n : List Float) → Filled i n → most ≤ i → All p n
  all_filled i n f h = record { same = λ k l. f.same k (omega (arith, l, h)); sound = λ k l. f.sound k (omega (arith, l, h)) }
