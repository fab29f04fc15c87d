-- Calls of a turn, by its contract, serve the plan of the record's table, whatever its cells hold. Assumes nothing.
use mathlib.Core.Path.{◌≡◌, refl, sym, ap, ap₂, ◌∙◌}
use Rattle.std.specs.declared.result.Result.TheVariants.{Ok, Err}
use mathlib.Core.Bool.{Bool}
use mathlib.Core.List.{List, [], ◌∷◌}
use Prim.Native.Nat.{ℕ, ◌*◌, ◌≤◌}
use native.Mathlib.Omega.{arith}
use denote.Param.Laws.{Laws, IsCopy}
use denote.RattleType.{RattleType}
use lib.ListN.{length}
use mir.Syntax.{Dict}
use Rattle.std.specs.declared.clone.Clone as clone
use Rattle.lens.specs.Judgement.{decided}
use Rattle.lens.specs.Refusal.{number}
use Rattle.lens.specs.Judgement.{Judgement}
use Rattle.region.specs.Size.{Sized}
use Rattle.region.proofs.Size.{bounded}
use Rattle.camera.specs.declared.Camera.{Camera}
use Rattle.border.specs.Border.{all_units}
use Rattle.turns.specs.Turns.{Said, refused, Turn, turn}
use Rattle.plans.specs.Plan.{Plan, State, nowhere, fresh, next}
use Rattle.plans.specs.Calls.{judged, Sound, Serves, Build, done, call}
use Rattle.plans.specs.Calls as plan
use Rattle.plans.proofs.Laws as plans
use Rattle.cell.specs.declared.CellNumber as cell-number
use Rattle.table_plans.specs.Tables.{opens_for, Kind, table_of}
use Rattle.table_plans.proofs.Sound.{Fit, kind_sound}
use Rattle.job.specs.Job.{fresh_job}
use Rattle.job.specs.Job as job
use Rattle.job.specs.declared.Job.{Job}
use Rattle.distortion_table.specs.Answer.{Answer, enough, plan_of, answer, turn_of, told_status}
use Rattle.distortion_table.specs.Held.{Held, held_plan, held_state}
use Rattle.distortion_table.specs.declared.Turned.{Turned}
use Rattle.distortion_table.proofs.turn.Reads as turn-contract

-- no table that is taken has more units than the largest
pub largest : (width height : ℕ) → Sized width height → all_units width height ≤ enough
largest width height s = omega (arith, bounded width height s, s.not_wider, s.not_higher)

-- ---- calls that answer the turn of a kind of cell

pub record Turns (X : Type 0) : Type 1 where
  pub kind : Kind X
  pub fit : Fit kind
  pub Called : Held X → ℕ → Said → Held X → Type 0
  pub answered :
      (h : Held X) (a : ℕ) (said : Said) (k : Held X) → Called h a said k
      → record { said = said; job = k.job; cells = k.cells } ≡ turn_of kind h.job h.cells a

-- ---- a call of `turn` that its contract permits, at any type of number: with what is held and an allowance, it says so
-- and hands that back

module _
    (g : RattleType) (l : Laws g) (c : IsCopy g) (number : cell-number.Ghosts g.Denot) (d : Dict)
    (copied : clone.Ghosts g.Denot) (e : Dict)
  where
    pub data Called : Held g.Denot → ℕ → Said → Held g.Denot → Type 0 where
      called :
          (κ : _) (a : _) (r : Turned) (s : _) → turn-contract.Post g l c number d copied e κ a r s
          → Called record { job = a.0; cells = a.1.0.now } a.1.1.0 (told_status r.status) record { job = r.job; cells = s.1.0.now }

    by_turn :
        (h : Held g.Denot) (a : ℕ) (said : Said) (k : Held g.Denot) → Called h a said k
        → record { said = said; job = k.job; cells = k.cells } ≡ turn_of number.kind h.job h.cells a
    by_turn h a said k (called κ args r s post) = post

    pub turns : Fit number.kind → Turns g.Denot
    turns fit = record { kind = number.kind; fit = fit; Called = Called; answered = by_turn }

module _ {X : Type 0} (t : Turns X) where
  -- whatever is held, it answers the plan's turn, and keeps camera, size and mark
  pub turn_serves : Serves (Held X) (λ h. Unit {0}) (held_plan t.kind) held_state t.Called
  turn_serves = record { answers = answers; plan_kept = plan_kept; ready_kept = λ h a said k r c. tt }
    where
      of_answer : Answer X → Turn (State X)
      of_answer x = record { state = record { at = x.job.at; cells = x.cells }; said = x.said }

      answers : (h : Held X) (a : ℕ) (said : Said) (k : Held X) → Unit {0} → t.Called h a said k → record { state = held_state k; said = said } ≡ plan.turn_of (held_plan t.kind h) a (held_state h)
      answers h a said k r c = ap of_answer (t.answered h a said k c)

      plan_kept : (h : Held X) (a : ℕ) (said : Said) (k : Held X) → Unit {0} → t.Called h a said k → held_plan t.kind k ≡ held_plan t.kind h
      plan_kept h a said k r c = ap (λ (x : Answer X). plan_of t.kind x.job) (t.answered h a said k c)

-- camera, size and mark are kept all along a build
pub record SameTable {X : Type 0} (h k : Held X) : Type 0 where
  pub camera : k.job.camera ≡ h.job.camera
  pub width : k.job.width ≡ h.job.width
  pub height : k.job.height ≡ h.job.height
  pub strict : k.job.strict ≡ h.job.strict

module _ {X : Type 0} (t : Turns X) where
  call_keeps : (h : Held X) (a : ℕ) (said : Said) (k : Held X) → t.Called h a said k → SameTable h k
  call_keeps h a said k c =
      let e = t.answered h a said k c in
      record {
        camera = ap (λ (x : Answer X). x.job.camera) e;
        width = ap (λ (x : Answer X). x.job.width) e;
        height = ap (λ (x : Answer X). x.job.height) e;
        strict = ap (λ (x : Answer X). x.job.strict) e;
      }

  pub build_keeps : (ls : List ℕ) (h k : Held X) → Build (Held X) t.Called ls h k → SameTable h k
  build_keeps [] h k (done same) = record { camera = refl; width = refl; height = refl; strict = refl }
  build_keeps (x ∷ ls) h k (call from a said m post rest last more) =
      let c = call_keeps from a said m post in
      let d = build_keeps rest m last more in
      record { camera = d.camera ∙ c.camera; width = d.width ∙ c.width; height = d.height ∙ c.height; strict = d.strict ∙ c.strict }

-- ---- a fresh record that is taken

module _ (camera : Camera) (width height : ℕ) (strict : Bool) where
  begins : (j : Judgement) (k : Job) → decided j Err (Ok (fresh_job camera width height strict)) ≡ Ok k → (j ≡ Ok tt) × (k ≡ fresh_job camera width height strict)
  begins (Ok _) k h = let q : fresh_job camera width height strict ≡ k = cc in (refl, sym q)
  begins (Err r) k h = let z : ◌≡◌ {A = ℕ} 0 1 = cc in absurd (omega arith)

  -- camera and size are taken, and the record is the fresh one
  pub fresh_opens : (k : Job) → job.fresh camera width height strict ≡ Ok k → (opens_for camera width height nowhere ≡ Ok tt) × (k ≡ fresh_job camera width height strict)
  unfolding job.fresh
  fresh_opens k h = begins (opens_for camera width height nowhere) k h

  module _
      {X : Type 0} (kind : Kind X) (fit : Fit kind) (opens : opens_for camera width height nowhere ≡ Ok tt)
      (cells : List X) (long : length cells ≡ 2 * (width * height))
    where
      abbrev table : Plan X
      table = table_of kind camera width height strict

      sound : Sound table
      sound = kind_sound camera width height kind fit strict

      pub start_admitted : judged table (fresh cells) ≡ Ok tt
      start_admitted = plans.fresh_admitted table sound opens cells long

      pub answer_is : (a : ℕ) → turn_of kind (fresh_job camera width height strict) cells a ≡ answer (fresh_job camera width height strict) (turn (next table) a (fresh cells))
      answer_is a = ap (answer (fresh_job camera width height strict)) (plans.answer_is table sound opens a (fresh cells) (plans.start_good table sound opens cells long))

-- ---- two things held

-- the same camera, size, mark and state are the same record and table
pub same_held :
    {X : Type 0} (h k : Held X) → h.job.camera ≡ k.job.camera → h.job.width ≡ k.job.width → h.job.height ≡ k.job.height → h.job.strict ≡ k.job.strict
    → held_state h ≡ held_state k → h ≡ k
same_held {X} h k c w v m s =
    ap₂ (λ (x : Camera) (b : Bool). record { job = record { camera = x; width = h.job.width; height = h.job.height; strict = b; at = h.job.at }; cells = h.cells }) c m
    ∙ ap₂ (λ (x y : ℕ). record { job = record { camera = k.job.camera; width = x; height = y; strict = k.job.strict; at = h.job.at }; cells = h.cells }) w v
    ∙ ap (λ (x : State X). record { job = record { camera = k.job.camera; width = k.job.width; height = k.job.height; strict = k.job.strict; at = x.at }; cells = x.cells }) s

pub same_table_of : {X : Type 0} (kind : Kind X) {c d : Camera} {w x h y : ℕ} {a b : Bool} → c ≡ d → w ≡ x → h ≡ y → a ≡ b → table_of kind c w h a ≡ table_of kind d x y b
same_table_of kind {c} {d} {w} {x} {h} {y} {a} e f g m =
    ap (λ (z : Camera). table_of kind z w h a) e ∙ ap₂ (λ (i j : ℕ). table_of kind d i j a) f g ∙ ap (table_of kind d x y) m

-- a call that is admitted is a turn
pub taken_turn : {X : Type 0} (p : Plan X) (a : ℕ) (s : State X) → judged p s ≡ Ok tt → plan.turn_of p a s ≡ turn (next p) a s
taken_turn p a s e = ap (λ (j : Judgement). decided j (λ r. record { state = s; said = refused (number r) }) (turn (next p) a s)) e
