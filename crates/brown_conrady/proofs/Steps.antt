-- A Newton by passes, whatever its step at a point is: what it finds is of f64s, and how many updates it makes; and of any two searches by passes, that they go alike. Assumes nothing.
use mathlib.Core.Path.{◌≡◌, refl, sym, ◌∙◌}
use mathlib.Core.Bool.{Bool, true, false, cond, true≢false, false≢true}
use Prim.Native.Nat.{ℕ, zero, suc, ◌≤◌}
use native.Mathlib.Numerals.{add-one}
use native.Mathlib.Omega.{arith}
use lib.Ieee.{binary64}
use lib.Ieee.Fits.{sub-fits}
use Rattle.lens.specs.Fits.{Fit}
use Rattle.lens.specs.Passes.{passes}
use Rattle.lens.specs.declared.Point.{Point}
use Rattle.lens.proofs.Passes.{passes_most, passes_keep}
use Rattle.brown_conrady.specs.BrownConrady.{small, pass_by, limit, start, ended}
use Rattle.brown_conrady.specs.declared.Offset.{Offset}
use Rattle.brown_conrady.specs.declared.Search.{Search}

abbrev pub updates : Search → ℕ
updates at = at.updates

abbrev XyFits : Search → Type 0
XyFits at = Fit at.xy.0 × Fit at.xy.1

either : (P : Search → Type 0) (b : Bool) (s t : Search) → P s → P t → P (cond b s t)
either P true s t p q = p
either P false s t p q = q

counted : (b : Bool) (n : ℕ) (s t : Search) → ended s ≡ true → updates t ≡ suc n → ended (cond b s t) ≡ false → updates (cond b s t) ≡ suc n
counted true n s t e u h = absurd (true≢false (sym e ∙ h))
counted false n s t e u h = u

module _ (step_at : Point → Offset) where
  pass_fits : (at : Search) → XyFits at → XyFits (pass_by step_at at)
  unfolding pass_by
  pass_fits at h = either XyFits (small (step_at at.xy)) _ _ h (sub-fits binary64 at.xy.0 (step_at at.xy).0, sub-fits binary64 at.xy.1 (step_at at.xy).1)

  pass_one : (at : Search) → updates (pass_by step_at at) ≤ suc (updates at)
  unfolding pass_by
  pass_one at = either (λ (s : Search). updates s ≤ suc (updates at)) (small (step_at at.xy)) _ _ (omega arith) (omega arith)

  -- A pass that doesn't end it makes an update.
  pub updated : (at : Search) → ended (pass_by step_at at) ≡ false → updates (pass_by step_at at) ≡ suc (updates at)
  unfolding pass_by
  updated at = counted (small (step_at at.xy)) (updates at) _ _ refl (add-one (updates at))

  -- From a point of two f64s it ends at such a point,
  pub found_fits : (from : Point) → Fit from.0 → Fit from.1 → XyFits (passes (pass_by step_at) ended limit (start from))
  found_fits from p q = passes_keep (pass_by step_at) ended XyFits pass_fits limit (start from) (p, q)

  -- with at most 50 updates.
  pub most_updates : (from : Point) → updates (passes (pass_by step_at) ended limit (start from)) ≤ 50
  most_updates from = passes_most (pass_by step_at) ended updates pass_one limit (start from)

-- ---- any search by passes

-- where it ends well, each pass set out well: from the start, and after the next pass
module _ {S : Type 0} (pass : S → S) (ended : S → Bool) (Ok : S → Type 0) (back : (s : S) → Ok (pass s) → Ok s) where
  from_start : (n : ℕ) (s : S) → Ok (passes pass ended n s) → Ok s
  unfolding passes
  from_start zero s h = h
  from_start (suc n) s h = back s (go (ended (pass s)) (from_start n (pass s)) h)
    where
      go : (b : Bool) → (Ok (passes pass ended n (pass s)) → Ok (pass s)) → Ok (cond b (pass s) (passes pass ended n (pass s))) → Ok (pass s)
      go true k h = h
      go false k h = k h

  pub from_next : (n : ℕ) (s : S) (b : Bool) → Ok (cond b (pass s) (passes pass ended n (pass s))) → Ok (pass s)
  from_next n s true h = h
  from_next n s false h = from_start n (pass s) h

-- two searches whose passes keep a relation, as long as what the first ends at is good: they end at what is related
module _ {S F : Type 0} (pass : S → S) (ended : S → Bool) (pass' : F → F) (ended' : F → Bool) (Ok : S → Type 0) (Rel : S → F → Type 0)
    (back : (s : S) → Ok (pass s) → Ok s) (ends : (s : S) (f : F) → Rel s f → ended s ≡ ended' f) (one : (s : S) (f : F) → Rel s f → Ok (pass s) → Rel (pass s) (pass' f)) where
  pub passes_alike : (n : ℕ) (s : S) (f : F) → Rel s f → Ok (passes pass ended n s) → Rel (passes pass ended n s) (passes pass' ended' n f)
  unfolding passes
  passes_alike zero s f r h = r
  passes_alike (suc n) s f r h =
      let t = one s f r (from_next pass ended Ok back n s (ended (pass s)) h) in
      go (ended (pass s)) (ended' (pass' f)) (ends (pass s) (pass' f) t) t (passes_alike n (pass s) (pass' f) t) h
    where
      go :
          (b b' : Bool) → b ≡ b' → Rel (pass s) (pass' f) → (Ok (passes pass ended n (pass s)) → Rel (passes pass ended n (pass s)) (passes pass' ended' n (pass' f)))
          → Ok (cond b (pass s) (passes pass ended n (pass s))) → Rel (cond b (pass s) (passes pass ended n (pass s))) (cond b' (pass' f) (passes pass' ended' n (pass' f)))
      go true true e t k h = t
      go true false e t k h = absurd (true≢false e)
      go false true e t k h = absurd (false≢true e)
      go false false e t k h = k h
