-- What a caller may rely on, of the contracts of src/. Assumes nothing.
use mathlib.Core.Path.{◌≡◌, sym, ap, ◌∙◌, subst}
use mathlib.Core.List.{List}
use Prim.Native.Nat.{ℕ}
use lib.Dec.{eqb}
use lib.IntN.{ℤ}
use lib.Ieee.{Float}
use lib.ListN.{length}
use Rattle.exact.specs.Determined.{Determined, DeterminedWith}
use Rattle.turns.specs.Turns.{Said}
use Rattle.plans.specs.Calls.{allowed, Build}
use Rattle.alike_plans.specs.AlikePlans.{BuiltAlike}
use Rattle.table_plans.specs.Tables.{f32s, i16s, full_table}
use Rattle.table_plans.proofs.Sound.{f32_fit, i16_fit}
use Rattle.turn_bytes.specs.Turn.{handed, answer_length}
use Rattle.turn_bytes.specs.Calls.{HeldBytes, bytes_plan, bytes_state, left, bytes_said}
use Rattle.turn_bytes.proofs.Build.{ByTurnBytes}
use Rattle.turn_bytes.proofs.Laws.{all_handed, Turns, built_in_bytes}
use Rattle.given.proofs.Laws.{both}
use Rattle.camera_bytes.specs.Reading.{camera_of}
use Rattle.lens_c.proofs.lens_distort.Reads as lens-distort-contract
use Rattle.lens_c.proofs.lens_undistort.Reads as lens-undistort-contract
use Rattle.lens_c.proofs.lens_dx_distort_x.Reads as lens-dx-distort-x-contract
use Rattle.lens_c.proofs.lens_dx_distort_params.Reads as lens-dx-distort-params-contract
use Rattle.lens_c.proofs.lens_root.Reads as lens-root-contract
use Rattle.lens_c.proofs.lens_arctangent.Reads as lens-arctangent-contract
use Rattle.lens_c.proofs.lens_tangent.Reads as lens-tangent-contract
use Rattle.lens_c.proofs.lens_lookup.Reads as lens-lookup-contract
use Rattle.lens_c.proofs.lens_observe.Reads as lens-observe-contract
use Rattle.lens_c.proofs.lens_job_new.Reads as lens-job-new-contract
use Rattle.lens_c.proofs.lens_turn.Reads as lens-turn-contract
use Rattle.lens_c.proofs.lens_turn16.Reads as lens-turn16-contract

-- ---- demand 3, for firmware

-- a call that the contract of `lens_turn` permits, with an answer of 48 bytes, whichever it is
pub data Turned : HeldBytes Float → ℕ → Said → HeldBytes Float → Type 0 where
  turned :
      (κ : _) (a : _) (r : _) (s : _) → lens-turn-contract.Post κ a r s → length a.1.1.1.0.now ≡ answer_length
      → Turned record { job = a.0.now; cells = a.1.0.now } a.1.1.0
      (bytes_said (handed r s.0.now s.1.0.now s.1.1.1.0.now)) record { job = s.0.now; cells = s.1.0.now }

by_contract : (h : HeldBytes Float) (a : ℕ) (said : Said) (k : HeldBytes Float) → Turned h a said k → ByTurnBytes f32s h a said k
by_contract h a said k (turned κ args r s post room) =
    record { lent = args.1.1.1.0.now; room = room; leaves = ap left post; says = ap bytes_said post }

pub f32_turns : Turns Float
f32_turns = record { kind = f32s; fit = f32_fit; Called = Turned; by_turn_bytes = by_contract }

-- and that of `lens_turn16`
pub data Turned16 : HeldBytes ℤ → ℕ → Said → HeldBytes ℤ → Type 0 where
  turned16 :
      (κ : _) (a : _) (r : _) (s : _) → lens-turn16-contract.Post κ a r s → length a.1.1.1.0.now ≡ answer_length
      → Turned16 record { job = a.0.now; cells = a.1.0.now } a.1.1.0
      (bytes_said (handed r s.0.now s.1.0.now s.1.1.1.0.now)) record { job = s.0.now; cells = s.1.0.now }

by_contract16 : (h : HeldBytes ℤ) (a : ℕ) (said : Said) (k : HeldBytes ℤ) → Turned16 h a said k → ByTurnBytes i16s h a said k
by_contract16 h a said k (turned16 κ args r s post room) =
    record { lent = args.1.1.1.0.now; room = room; leaves = ap left post; says = ap bytes_said post }

pub i16_turns : Turns ℤ
i16_turns = record { kind = i16s; fit = i16_fit; Called = Turned16; by_turn_bytes = by_contract16 }

-- Demand 3. Start from the job that `lens_job_new` leaves when it returns 0, whatever model, parameters, size and mark it was handed,
-- with any table, and call `lens_turn` (`f32_turns`) or `lens_turn16` (`i16_turns`) with any allowances and an answer of 48 bytes, each
-- time with the job and the table that the call before handed back. Then job and table are those of exactly min(A, F) units, as
-- `built_in_turns` of distortion_table has it.
pub built_by_turns :
    {X : Type 0} (t : Turns X)
    (κ : _) (a : _) (r : _) (s : _) (post : lens-job-new-contract.Post κ a r s) (zero : r ≡ 0)
    (table : List X) (allowances : List ℕ) (last : HeldBytes X)
    (calls : Build (HeldBytes X) t.Called allowances record { job = s.1.1.1.1.1.0.now; cells = table } last)
    → BuiltAlike (full_table t.kind (camera_of a.0 a.1.0.now) a.1.1.0 a.1.1.1.0 (eqb a.1.1.1.1.0 1)) table
    (allowed (bytes_plan t.kind) bytes_state allowances record { job = s.1.1.1.1.1.0.now; cells = table } last calls) (bytes_state last)
built_by_turns {X} t κ a r s post zero table allowances last calls =
    let e = both post in
    let model = a.0 in
    let params = a.1.0.now in
    let plan = full_table t.kind (camera_of model params) a.1.1.0 a.1.1.1.0 (eqb a.1.1.1.1.0 1) in
    let start : List ℕ → HeldBytes X = λ bs. record { job = bs; cells = table } in
    subst
    (λ (bs : List ℕ). (c : Build (HeldBytes X) t.Called allowances (start bs) last)
    → BuiltAlike plan table (allowed (bytes_plan t.kind) bytes_state allowances (start bs) last c) (bytes_state last))
    (sym e.1)
    (built_in_bytes t model params a.1.1.0 a.1.1.1.0 a.1.1.1.1.0 a.1.1.1.1.1.0.now (sym e.0 ∙ zero) table allowances last)
    calls

-- ---- each contract permits one answer, and one buffer

-- Any two numbers that a contract permits to one call are equal, and so are any two buffers at the return: of the four lens
-- operations and the tangent, the latter by the name that the crate arctan gives it.
pub determined :
    DeterminedWith lens-distort-contract.Post (λ κ s. s.1.1.1.1.0.now)
    × DeterminedWith lens-undistort-contract.Post (λ κ s. s.1.1.1.1.0.now)
    × DeterminedWith lens-dx-distort-x-contract.Post (λ κ s. s.1.1.1.1.0.now)
    × DeterminedWith lens-dx-distort-params-contract.Post (λ κ s. s.1.1.1.1.0.now)
    × DeterminedWith lens-tangent-contract.Post (λ κ s. s.1.0.now)
determined = (
  λ κ a s s' r r' p q. both (p ∙ sym q),
  λ κ a s s' r r' p q. both (p ∙ sym q),
  λ κ a s s' r r' p q. both (p ∙ sym q),
  λ κ a s s' r r' p q. both (p ∙ sym q),
  λ κ a s s' r r' p q. both (p.0 ∙ sym q.0),
)

-- Of lookup, the list of observations, a fresh job and a turn of either kind.
pub determined_for_tables :
    DeterminedWith lens-lookup-contract.Post (λ κ s. s.1.1.1.1.1.1.0.now)
    × DeterminedWith lens-observe-contract.Post (λ κ s. s.1.1.0.now)
    × DeterminedWith lens-job-new-contract.Post (λ κ s. s.1.1.1.1.1.0.now)
    × DeterminedWith {L = List ℕ × List Float × List ℕ} lens-turn-contract.Post (λ κ s. (s.0.now, s.1.0.now, s.1.1.1.0.now))
    × DeterminedWith {L = List ℕ × List ℤ × List ℕ} lens-turn16-contract.Post (λ κ s. (s.0.now, s.1.0.now, s.1.1.1.0.now))
determined_for_tables = (
  λ κ a s s' r r' p q. both (p ∙ sym q),
  λ κ a s s' r r' p q. both (p ∙ sym q),
  λ κ a s s' r r' p q. both (p ∙ sym q),
  λ κ a s s' r r' p q. all_handed (p ∙ sym q),
  λ κ a s s' r r' p q. all_handed (p ∙ sym q),
)

-- Of root and arctangent.
pub determined_numbers : Determined lens-root-contract.Post × Determined lens-arctangent-contract.Post
determined_numbers = (λ κ a s s' r r' p q. p ∙ sym q, λ κ a s s' r r' p q. p.0 ∙ sym q.0)
