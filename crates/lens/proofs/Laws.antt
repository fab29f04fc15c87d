-- What a caller may rely on, of the definitions of specs/ and of the contracts of src/. Assumes nothing.
use mathlib.Core.Path.{◌≡◌, refl, sym, ap, ◌∙◌}
use Rattle.std.specs.declared.result.Result.TheVariants.{Ok, Err}
use mathlib.Core.List.{List, [], ◌∷◌, ◌++◌}
use Prim.Native.Nat.{ℕ, zero, suc, ◌+◌, ◌-◌, ◌≤◌, ◌<◌}
use native.Mathlib.Nat.{add-zero, le_of_suc-le-suc, not-suc-le-zero}
use native.Mathlib.Omega.{arith}
use lib.Dec.{lit≤}
use lib.Ieee.{Float}
use lib.ListN.{length, get_or, length-append, get_or-append, get_or-eq_default, get_or-map}
use lib.Seq.{get_or-append-add}
use Rattle.lens.specs.Constants.{zeros}
use Rattle.exact.specs.Determined.{Determined}
use Rattle.lens.specs.Jacobian.{entries, two_rows}
use Rattle.lens.specs.Distorted.{ToldPixel, told_pixel}
use Rattle.lens.specs.Judgement.{verdict}
use Rattle.lens.specs.Refusal.{number}
use Rattle.lens.specs.Distorted.{Distorted}
use Rattle.lens.specs.Judgement.{Judgement}
use Rattle.lens.specs.Undistorted.{Told, told}
use Rattle.lens.specs.declared.Pixel.{Pixel}
use Rattle.lens.specs.declared.Refusal.{Refusal}
use Rattle.lens.specs.declared.Refusal.TheVariants.{UnknownModel, NoParameterJacobian, WrongCount, NotFinite, ZeroFocalLength, WrongSize, WrongLength, IncrementNotPositive, OutsideTable, AngleTooLarge, AnswerNotFinite, CellInfinite, ImpossibleRecord, NotTheForm, SizesDiffer, RayNotForward, NotOurs, SampleUnsettled, TooFar}
use Rattle.lens.specs.declared.Settled.{Settled}
use Rattle.lens.specs.Undistorted.{Undistorted}
use Rattle.lens.proofs.Rows.{padded_length, padded_at, any_default}
use Rattle.lens.proofs.eps.Reads as eps-contract
use Rattle.lens.proofs.number.Reads as number-contract
use Rattle.lens.proofs.direct.Reads as direct-contract
use Rattle.lens.proofs.two_rows.Reads as two-rows-contract
use Rattle.lens.proofs.two_columns.Reads as two-columns-contract
use Rattle.lens.proofs.squared_radius.Reads as squared-radius-contract
use Rattle.lens.proofs.marks.Reads as marks-contract
use Rattle.lens.proofs.all_finite.Reads as all-finite-contract
use Rattle.lens.proofs.both_finite.Reads as both-finite-contract
use Rattle.lens.proofs.finite_pixel.Reads as finite-pixel-contract

-- ---- refusals

-- by their numbers, from 1 on
refusals : List Refusal
refusals =
    UnknownModel ∷ NoParameterJacobian ∷ WrongCount ∷ NotFinite ∷ ZeroFocalLength ∷ WrongSize ∷ WrongLength
    ∷ IncrementNotPositive ∷ OutsideTable ∷ AngleTooLarge ∷ AnswerNotFinite ∷ CellInfinite ∷ ImpossibleRecord ∷ NotTheForm
    ∷ SizesDiffer ∷ RayNotForward ∷ NotOurs ∷ SampleUnsettled ∷ TooFar ∷ []

abbrev numbered : ℕ → Refusal
numbered n = get_or refusals (n - 1) TooFar

listed : (r : Refusal) → (1 ≤ number r) × (number r ≤ 19) × (numbered (number r) ≡ r)
unfolding refusals
listed UnknownModel = (lit≤ tt, lit≤ tt, refl)
listed NoParameterJacobian = (lit≤ tt, lit≤ tt, refl)
listed WrongCount = (lit≤ tt, lit≤ tt, refl)
listed NotFinite = (lit≤ tt, lit≤ tt, refl)
listed ZeroFocalLength = (lit≤ tt, lit≤ tt, refl)
listed WrongSize = (lit≤ tt, lit≤ tt, refl)
listed WrongLength = (lit≤ tt, lit≤ tt, refl)
listed IncrementNotPositive = (lit≤ tt, lit≤ tt, refl)
listed OutsideTable = (lit≤ tt, lit≤ tt, refl)
listed AngleTooLarge = (lit≤ tt, lit≤ tt, refl)
listed AnswerNotFinite = (lit≤ tt, lit≤ tt, refl)
listed CellInfinite = (lit≤ tt, lit≤ tt, refl)
listed ImpossibleRecord = (lit≤ tt, lit≤ tt, refl)
listed NotTheForm = (lit≤ tt, lit≤ tt, refl)
listed SizesDiffer = (lit≤ tt, lit≤ tt, refl)
listed RayNotForward = (lit≤ tt, lit≤ tt, refl)
listed NotOurs = (lit≤ tt, lit≤ tt, refl)
listed SampleUnsettled = (lit≤ tt, lit≤ tt, refl)
listed TooFar = (lit≤ tt, lit≤ tt, refl)

-- n numbers from s on
abbrev counted : ℕ → ℕ → List ℕ
counted s zero = []
counted s (suc n) = s ∷ counted (suc s) n

counted_at : (s n k d : ℕ) → k < n → get_or (counted s n) k d ≡ s + k
counted_at s zero k d h = absurd (not-suc-le-zero h)
counted_at s (suc n) zero d h = sym (add-zero s)
counted_at s (suc n) (suc k) d h = counted_at (suc s) n k d (le_of_suc-le-suc h) ∙ omega arith

-- Different refusals have different numbers.
pub number_one_to_one : (a b : Refusal) → number a ≡ number b → a ≡ b
number_one_to_one a b e = sym (listed a).2 ∙ ap numbered e ∙ (listed b).2

-- A refusal's number is one of 1 to 19.
pub number_within : (r : Refusal) → (1 ≤ number r) × (number r ≤ 19)
number_within r = ((listed r).0, (listed r).1)

-- Each of 1 to 19 is the number of some refusal.
pub number_each : (n : ℕ) → 1 ≤ n → n ≤ 19 → (r : Refusal) × (number r ≡ n)
unfolding refusals
number_each n low high = (
  numbered n,
  sym (get_or-map number refusals (n - 1) TooFar) ∙ counted_at 1 19 (n - 1) 19 (omega arith) ∙ omega arith,
)

-- What a judgement's number says determines it.
pub verdict_one_to_one : (a b : Judgement) → verdict a ≡ verdict b → a ≡ b
verdict_one_to_one (Ok _) (Ok _) e = refl
verdict_one_to_one (Ok _) (Err r) e = absurd (omega (arith, e, number_within r))
verdict_one_to_one (Err r) (Ok _) e = absurd (omega (arith, e, number_within r))
verdict_one_to_one (Err q) (Err r) e = ap Err (number_one_to_one q r e)

-- ---- what undistort tells

told_apart : (s : Settled) (r : Refusal) → told (Ok s) ≡ told (Err r) → ⊥
told_apart s r e = omega (arith, ap (λ (t : Told). t.number) e, number_within r)

-- What an undistort tells determines it: two that tell the same number, point, updates and flag are equal.
pub told_one_to_one : (a b : Undistorted) → told a ≡ told b → a ≡ b
told_one_to_one (Ok s) (Ok t) e = ap (λ (x : Told). Ok x.settled) e
told_one_to_one (Ok s) (Err r) e = absurd (told_apart s r e)
told_one_to_one (Err r) (Ok s) e = absurd (told_apart s r (sym e))
told_one_to_one (Err q) (Err r) e = ap Err (number_one_to_one q r (ap (λ (x : Told). x.number) e))

-- ---- what distort tells

pixel_apart : (p : Pixel) (r : Refusal) → told_pixel (Ok p) ≡ told_pixel (Err r) → ⊥
pixel_apart p r e = omega (arith, ap (λ (t : ToldPixel). t.number) e, number_within r)

-- What a distort tells determines it: two that tell the same number and pixel are equal.
pub told_pixel_one_to_one : (a b : Distorted) → told_pixel a ≡ told_pixel b → a ≡ b
told_pixel_one_to_one (Ok p) (Ok q) e = ap (λ (t : ToldPixel). Ok t.pixel) e
told_pixel_one_to_one (Ok p) (Err r) e = absurd (pixel_apart p r e)
told_pixel_one_to_one (Err r) (Ok p) e = absurd (pixel_apart p r (sym e))
told_pixel_one_to_one (Err q) (Err r) e = ap Err (number_one_to_one q r (ap (λ (t : ToldPixel). t.number) e))

-- ---- Jacobians

module _ (top bottom : List Float) where
  -- A Jacobian's list has as many numbers as the record holds, whatever the rows.
  pub entries_length : length (two_rows top bottom).entries ≡ entries
  entries_length = padded_length (top ++ bottom)

  -- Row 0 stands at its start.
  pub entries_top : (k : ℕ) (d : Float) → k < length top → k < entries → get_or (two_rows top bottom).entries k d ≡ get_or top k d
  entries_top k d h fits = padded_at (top ++ bottom) k d fits ∙ get_or-append top bottom zeros k h ∙ any_default top k zeros d h

  -- Row 1 stands behind row 0.
  pub entries_bottom :
      (k : ℕ) (d : Float) → k < length bottom → length top + k < entries → get_or (two_rows top bottom).entries (length top + k) d ≡ get_or bottom k d
  entries_bottom k d h fits =
      padded_at (top ++ bottom) (length top + k) d fits ∙ get_or-append-add top bottom k zeros ∙ any_default bottom k zeros d h

  -- Past both rows every place is +0.0.
  pub entries_past : (k : ℕ) (d : Float) → length top + length bottom ≤ k → k < entries → get_or (two_rows top bottom).entries k d ≡ zeros
  entries_past k d past fits =
      padded_at (top ++ bottom) k d fits ∙ get_or-eq_default (top ++ bottom) zeros (omega (arith, length-append top bottom))

-- ---- each contract permits one answer

-- Any two answers to one call that the contract of `finite_pixel` permits are equal; and so for the nine other functions.
pub finite_pixel_determined : Determined finite-pixel-contract.Post
finite_pixel_determined κ a s s' r r' p q = p ∙ sym q

pub eps_determined : Determined eps-contract.Post
eps_determined κ a s s' r r' p q = p ∙ sym q

pub number_determined : Determined number-contract.Post
number_determined κ a s s' r r' p q = p ∙ sym q

pub direct_determined : Determined direct-contract.Post
direct_determined κ a s s' r r' p q = p ∙ sym q

pub two_rows_determined : Determined two-rows-contract.Post
two_rows_determined κ a s s' r r' p q = p ∙ sym q

pub two_columns_determined : Determined two-columns-contract.Post
two_columns_determined κ a s s' r r' p q = p ∙ sym q

pub squared_radius_determined : Determined squared-radius-contract.Post
squared_radius_determined κ a s s' r r' p q = p ∙ sym q

pub marks_determined : Determined marks-contract.Post
marks_determined κ a s s' r r' p q = p ∙ sym q

pub all_finite_determined : Determined all-finite-contract.Post
all_finite_determined κ a s s' r r' p q = p ∙ sym q

pub both_finite_determined : Determined both-finite-contract.Post
both_finite_determined κ a s s' r r' p q = p ∙ sym q
