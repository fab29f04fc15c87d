-- Calls one after the other: which records a plan takes, what a call answers, and a build by any function whose
-- contract says so. Definitions only.
use Rattle.std.specs.Prelude.{◌≡◌, Bool, true, cond, not, ◌&&◌, ◌||◌, List, [], ◌∷◌, ℕ, ◌+◌, ◌*◌, ◌≤◌, ◌<◌, min, leb, ltb, eqb, length, Ok, Err}
use Rattle.std.specs.Float.Ieee.Scale.{finite}
use Rattle.lens.specs.Finite.{all_finite}
use Rattle.lens.specs.Judgement.{verdict, decided, accepted}
use Rattle.lens.specs.Refusal.{number}
use Rattle.lens.specs.Judgement.{Judgement}
use Rattle.lens.specs.declared.Pixel.{Pixel}
use Rattle.lens.specs.declared.Refusal.TheVariants.{WrongLength, ImpossibleRecord}
use Rattle.lens.specs.declared.Settled.{Settled}
use Rattle.region.specs.Region.{four, increments, wrong}
use Rattle.region.specs.declared.Region.{Region}
use Rattle.turns.specs.Turns.{Said, finished, refused, running, Turn, turn}
use Rattle.plans.specs.Plan.{Sweep, Plan, none, State, all_units, next}
use Rattle.plans.specs.declared.Progress.{Progress}

-- ---- which records a sweep takes

abbrev pub both_or_neither : Bool → Bool → Bool
both_or_neither a b = cond a b (not b)

-- of so many samples, a count of those that didn't settle and a first one that can be: neither is above the samples,
-- there is a first exactly if the count isn't 0, and in a strict job the count is 0
abbrev pub tallied : Bool → ℕ → ℕ → ℕ → Bool
tallied strict samples unsettled first =
    leb unsettled samples
    && (leb first samples
    && (both_or_neither (eqb unsettled 0) (eqb first 0)
    && (not strict || eqb unsettled 0)))

module _ (sweep : Sweep) where
  abbrev pub samples_done : Progress → ℕ
  samples_done at = min at.done sweep.samples

  -- what every build keeps: no more units than there are, no more updates than its samples can have made, edges that
  -- are numbers, behind the border a region with increments above 0, and tallies that agree
  unfoldable pub possible : Progress → Bool
  possible at =
      leb at.done (all_units sweep)
      && (leb at.updates (sweep.limit * samples_done at)
      && (all_finite (four at.edges)
      && ((ltb at.done sweep.samples
      || eqb (verdict (wrong (increments at.region sweep.width sweep.height))) 0)
      && tallied sweep.strict (samples_done at) at.unsettled at.first)))

  -- 7, then 13; `places` is the length of the table
  abbrev pub sound : Progress → ℕ → Judgement
  sound at places =
      cond (eqb places (2 * (sweep.width * sweep.height)))
      (cond (possible at) accepted (Err ImpossibleRecord))
      (Err WrongLength)

  -- 4, 5, 6 by the sweep, then these
  unfoldable pub admitted : Progress → ℕ → Judgement
  admitted at places = decided (sweep.opens at.region) Err (sound at places)

-- ---- a call: refused before any unit, or a turn

module _ {X : Type 0} (p : Plan X) where
  abbrev pub judged : State X → Judgement
  judged s = admitted p.sweep s.at (length s.cells)

  abbrev pub turn_of : ℕ → State X → Turn (State X)
  turn_of allowance s =
      decided (judged s)
      (λ r. record { state = s; said = refused (number r) })
      (turn (next p) allowance s)

-- the number of a refusal that is said, 0 if none is
abbrev pub said_number : Said → ℕ
said_number finished = 0
said_number (refused n) = n
said_number running = 0

-- ---- what a plan has to keep: a border where it opens, samples within the limit with finite points, no care which
-- finite region a record carries, and refusals of cells with a number

pub record Steady (sweep : Sweep) : Type 0 where
  pub bordered : (region : Region) → sweep.opens region ≡ accepted → 0 < sweep.samples
  pub limited :
      (pixel : Pixel) (settled : Settled) → sweep.sample pixel ≡ Ok settled → settled.updates ≤ sweep.limit
  pub points :
      (pixel : Pixel) (settled : Settled) → sweep.sample pixel ≡ Ok settled
      → (finite settled.point.0 ≡ true) × (finite settled.point.1 ≡ true)
  pub alike :
      (q r : Region) → all_finite (four q) ≡ true → all_finite (four r) ≡ true → sweep.opens q ≡ sweep.opens r

pub record Sound {X : Type 0} (p : Plan X) : Type 0 where
  pub steady : Steady p.sweep
  pub refusals : (region : Region) (u v : ℕ) → p.cell region u v ≡ none 0 → ⊥

-- ---- calls of a function, by its contract

-- H is what its caller holds from call to call; `Post h a said k`: the contract permits that, called with h and the
-- allowance a, it says so and leaves k. It serves a plan that can be read off h, while h is ready: what it says and
-- leaves is `turn_of` that plan, and the plan and the readiness stay.
pub record Serves {X :
    Type 0} (H : Type 0) (Ready : H → Type 0) (plan : H → Plan X) (state : H → State X) (Post : H → ℕ → Said → H
    → Type 0) : Type 0 where
  pub answers :
      (h : H) (a : ℕ) (said : Said) (k : H) → Ready h → Post h a said k
      → record { state = state k; said = said } ≡ turn_of (plan h) a (state h)
  pub plan_kept : (h : H) (a : ℕ) (said : Said) (k : H) → Ready h → Post h a said k → plan k ≡ plan h
  pub ready_kept : (h : H) (a : ℕ) (said : Said) (k : H) → Ready h → Post h a said k → Ready k

-- calls one after the other, each with what the one before left
pub data Build (H : Type 0) (Post : H → ℕ → Said → H → Type 0) : List ℕ → H → H → Type 0 where
  done : (h : H) → Build H Post [] h h
  call :
      (h : H) (a : ℕ) (said : Said) (k : H) → Post h a said k
      → (rest : List ℕ) (last : H) → Build H Post rest k last → Build H Post (a ∷ rest) h last

-- A: the allowances of those calls that are admitted, by the plan and the state that are read off what is held
module _ {X : Type 0} {H : Type 0} {Post : H → ℕ → Said → H → Type 0} (plan : H → Plan X) (state : H → State X) where
  unfoldable pub allowed : (ls : List ℕ) (h k : H) → Build H Post ls h k → ℕ
  allowed [] h k (done same) = 0
  allowed (x ∷ ls) h k (call from a said next post rest last more) =
      decided (judged (plan from) (state from)) (λ r. 0) a + allowed rest next last more
