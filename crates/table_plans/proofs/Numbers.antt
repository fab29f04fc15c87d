-- Which numbers a unit of our tables is refused with. Assumes nothing.
use mathlib.Core.Path.{◌≡◌, refl, sym, ap, ◌∙◌, subst}
use Rattle.std.specs.declared.result.Result.TheVariants.{Ok, Err}
use mathlib.Core.Bool.{Bool, true, false, cond, false≢true, ◌&&◌, ◌||◌}
use mathlib.Core.List.{List, [], ◌∷◌, ◌++◌}
use mathlib.Core.Logic.{◌⊎◌, inl, inr}
use Prim.Native.Nat.{ℕ}
use borrow.Author.Tests.{eq-eqb, eqb-true}
use lib.Dec.{eqb}
use lib.Ieee.Scale.{finite}
use Rattle.lens.specs.Refusal.{number}
use Rattle.lens.specs.Judgement.{Judgement, accepted}
use Rattle.lens.specs.declared.Pixel.{Pixel}
use Rattle.lens.specs.declared.Refusal.{Refusal}
use Rattle.lens.specs.declared.Refusal.TheVariants.{IncrementNotPositive, AnswerNotFinite}
use Rattle.lens.specs.Undistorted.{Undistorted}
use Rattle.region.specs.Region.{increments, flat, wrong}
use Rattle.region.specs.declared.Increments.{Increments}
use Rattle.region.specs.declared.Region.{Region}
use Rattle.camera.specs.Camera.{pixel_of, point_of, finite_point, distort_judged}
use Rattle.camera.specs.declared.Camera.{Camera}
use Rattle.camera.proofs.Laws.{model_refuses}
use Rattle.plans.specs.Plan.{Content, numbers, none, State, next}
use Rattle.plans.specs.Calls.{said_number}
use Rattle.plans.proofs.Numbers.{Told, Refusing, turn_says}
use Rattle.turns.specs.Turns.{Said, finished, refused, running, turn}
use Rattle.cell.specs.Cell.{cell_point, of_pixel, cell_by}
use Rattle.alike_plans.specs.AlikePlans.{AlikeFound}
use Rattle.table_plans.specs.Tables.{full, picked, Kind, table_of, one_of, unit_numbers}
use Rattle.table_plans.proofs.Picked.{points_alike, cells_same}
use Rattle.table_plans.proofs.Sound.{Fit}

-- ---- one of some numbers

abbrev pub Each : (ℕ → Type 0) → List ℕ → Type 0
Each P [] = Unit {0}
Each P (x ∷ xs) = P x × Each P xs

-- what holds of each of them holds of it
pub by_each : (P : ℕ → Type 0) (xs : List ℕ) (n : ℕ) → one_of n xs ≡ true → Each P xs → P n
by_each P [] n e p = absurd (false≢true e)
by_each P (x ∷ xs) n e p = go (λ h. by_each P xs n h p.1) (eqb n x) refl e
  where
    go : (one_of n xs ≡ true → P n) → (b : Bool) → eqb n x ≡ b → (b || one_of n xs) ≡ true → P n
    go rest true q h = subst P (sym (eqb-true n x q)) p.0
    go rest false q h = rest h

-- one of those that refuse a unit
abbrev pub Known : ℕ → Bool → ℕ → Type 0
Known refusal strict n = one_of n (unit_numbers refusal strict) ≡ true

pub last_of : (n : ℕ) (xs : List ℕ) → one_of n (xs ++ (n ∷ [])) ≡ true
last_of n [] = ap (λ (b : Bool). b || false) (eq-eqb n n refl)
last_of n (x ∷ xs) = go (eqb n x) (last_of n xs)
  where
    go : (b : Bool) → one_of n (xs ++ (n ∷ [])) ≡ true → (b || one_of n (xs ++ (n ∷ []))) ≡ true
    go true e = refl
    go false e = e

last_known : (refusal : ℕ) (strict : Bool) → Known refusal strict refusal
last_known refusal true = last_of refusal (8 ∷ 10 ∷ 11 ∷ 16 ∷ 18 ∷ [])
last_known refusal false = last_of refusal (8 ∷ 10 ∷ 11 ∷ 16 ∷ [])

module _ (refusal : ℕ) (strict : Bool) where
  -- ---- a sample: 10, 16 or 11

  abbrev FoundKnown : Undistorted → Type 0
  FoundKnown (Ok s) = Unit {0}
  FoundKnown (Err r) = Known refusal strict (number r)

  point_known : (camera : Camera) (pixel : Pixel) → FoundKnown (point_of camera pixel)
  point_known camera pixel = go (point_of camera pixel) refl
    where
      either : (r : Refusal) → (number r ≡ 10) ⊎ (number r ≡ 16) → FoundKnown (Err r)
      either r (inl e) = subst (Known refusal strict) (sym e) refl
      either r (inr e) = subst (Known refusal strict) (sym e) refl

      go : (u : Undistorted) → point_of camera pixel ≡ u → FoundKnown u
      go (Ok s) e = tt
      go (Err r) e = either r (model_refuses camera pixel r e)

  finite_known : (u : Undistorted) → FoundKnown u → FoundKnown (finite_point u)
  finite_known (Err r) h = h
  finite_known (Ok s) h = go (finite s.point.0 && finite s.point.1)
    where
      go : (f : Bool) → FoundKnown (cond f (Ok s) (Err AnswerNotFinite))
      go true = tt
      go false = refl

  alike_known : (u v : Undistorted) → AlikeFound u v → FoundKnown v → FoundKnown u
  alike_known (Ok s) v h k = tt
  alike_known (Err r) (Ok t) h k = absurd h
  alike_known (Err q) (Err r) h k = subst (λ (r : Refusal). Known refusal strict (number r)) (sym h) k

  picked_known : (camera : Camera) (pixel : Pixel) → FoundKnown ((picked camera).undistort pixel)
  picked_known camera pixel = alike_known ((picked camera).undistort pixel) ((full camera).undistort pixel) (points_alike camera pixel) (finite_known (point_of camera pixel) (point_known camera pixel))

  -- ---- the increments: 8 or 11

  abbrev JudgedKnown : Judgement → Type 0
  JudgedKnown (Ok _) = Unit {0}
  JudgedKnown (Err r) = Known refusal strict (number r)

  wrong_known : (by : Increments) → JudgedKnown (wrong by)
  unfolding wrong
  wrong_known by = go (flat by.0 || flat by.1) (finite by.0 && finite by.1)
    where
      go : (f g : Bool) → JudgedKnown (cond f (Err IncrementNotPositive) (cond g accepted (Err AnswerNotFinite)))
      go true g = refl
      go false true = tt
      go false false = refl

  -- ---- a cell: 11, or its kind's refusal

  abbrev ContentKnown : {X : Type 0} → Content X → Type 0
  ContentKnown (numbers a b) = Unit {0}
  ContentKnown (none n) = Known refusal strict n

module _ {X : Type 0} (kind : Kind X) (fit : Fit kind) (strict : Bool) where
  pixel_known : (pixel : Pixel) → ContentKnown kind.refusal strict (kind.holds pixel)
  pixel_known pixel = go (kind.holds pixel) refl
    where
      go : (x : Content X) → kind.holds pixel ≡ x → ContentKnown kind.refusal strict x
      go (numbers a b) e = tt
      go (none n) e = subst (Known kind.refusal strict) (sym (fit.only pixel n e)) (last_known kind.refusal strict)

  cell_known : (camera : Camera) (region : Region) (by : Increments) (u v : ℕ) → ContentKnown kind.refusal strict (cell_by (distort_judged camera) kind.holds region by u v)
  unfolding cell_by
  cell_known camera region by u v = go (finite (cell_point region by u v).0 && finite (cell_point region by u v).1) (finite pixel.0 && finite pixel.1)
    where
      pixel : Pixel
      pixel = pixel_of camera (cell_point region by u v)

      go : (f g : Bool) → ContentKnown kind.refusal strict (cond f (of_pixel kind.holds (cond g (Ok pixel) (Err AnswerNotFinite))) (none 11))
      go false g = refl
      go true false = refl
      go true true = pixel_known pixel

-- what holds of 0 and of each of a strict table's numbers holds of a number that is 0 or one of a table's
pub by_unit : (P : ℕ → Type 0) (refusal : ℕ) (strict : Bool) (n : ℕ) → one_of n (0 ∷ unit_numbers refusal strict) ≡ true → Each P (0 ∷ unit_numbers refusal true) → P n
by_unit P refusal true n h e = by_each P (0 ∷ unit_numbers refusal true) n h e
by_unit P refusal false n h e = by_each P (0 ∷ unit_numbers refusal false) n h (e.0, (e.1.0, (e.1.1.0, (e.1.1.1.0, (e.1.1.1.1.0, (e.1.1.1.1.1.1.0, tt))))))

-- ---- a turn

module _ {X : Type 0} (kind : Kind X) (fit : Fit kind) (camera : Camera) (width height : ℕ) (strict : Bool) where
  abbrev refusal : ℕ
  refusal = kind.refusal

  refusing : Refusing (table_of kind camera width height strict) (Known refusal strict)
  refusing = record {
    samples = λ pixel r e. subst (FoundKnown refusal strict) e (picked_known refusal strict camera pixel);
    strictly = λ e. ap (λ (b : Bool). one_of 18 (unit_numbers refusal b)) e;
    increments = λ by r e. subst (JudgedKnown refusal strict) e (wrong_known refusal strict by);
    cells = λ region u v n e.
        let by = increments region width height in
        subst (ContentKnown refusal strict) (sym (cells_same kind.holds camera region by u v) ∙ e) (cell_known kind fit strict camera region by u v);
  }

  -- A turn that a unit refuses is refused with 8, 10, 11 or 16, in a strict job with 18, or with what its kind of cell refuses with.
  pub turn_known : (a : ℕ) (s : State X) → Told (Known refusal strict) (turn (next (table_of kind camera width height strict)) a s).said
  turn_known = turn_says (table_of kind camera width height strict) (Known refusal strict) refusing

-- as a number: 0, or one of these
pub said_known : (refusal : ℕ) (strict : Bool) (said : Said) → Told (Known refusal strict) said → one_of (said_number said) (0 ∷ unit_numbers refusal strict) ≡ true
said_known refusal strict finished h = refl
said_known refusal strict running h = refl
said_known refusal strict (refused n) h = go (eqb n 0)
  where
    go : (z : Bool) → (z || one_of n (unit_numbers refusal strict)) ≡ true
    go true = refl
    go false = h
