-- A search by passes that counts its updates: what the loop of each model does in one turn, and how many updates there can be. Assumes nothing.
use mathlib.Core.Path.{◌≡◌, sym, ap, ◌∙◌}
use mathlib.Core.Bool.{Bool, true, false, cond}
use Prim.Native.Nat.{ℕ, zero, suc, ◌+◌, ◌-◌, ◌≤◌, ◌<◌}
use native.Mathlib.Omega.{arith}
use Rattle.lens.specs.Passes.{passes}

-- The loop of a model: `found` is what its search finds, and what is left from s on finds it too.
module _ {S : Type 0} (pass : S → S) (ended : S → Bool) (updates : S → ℕ) (limit : ℕ) {s found : S} (inv : passes pass ended (limit - updates s) s ≡ found) where
  one_more : updates s < limit → cond (ended (pass s)) (pass s) (passes pass ended (limit - suc (updates s)) (pass s)) ≡ found
  unfolding passes
  one_more h =
      let e : limit - updates s ≡ suc (limit - suc (updates s)) = omega arith in
      ap (λ (n : ℕ). passes pass ended n s) (sym e) ∙ inv

  -- the pass to r ends it
  pub ends_there : {r : S} → updates s < limit → r ≡ pass s → ended r ≡ true → r ≡ found
  ends_there h made e =
      made ∙ ap (λ (b : Bool). cond b (pass s) (passes pass ended (limit - suc (updates s)) (pass s))) (sym (ap ended (sym made) ∙ e)) ∙ one_more h

  -- the pass to r does not, and has made its update
  pub goes_on : {r : S} → updates s < limit → r ≡ pass s → ended r ≡ false → updates (pass s) ≡ suc (updates s) → passes pass ended (limit - updates r) r ≡ found
  goes_on h made e u =
      ap (λ (t : S). passes pass ended (limit - updates t) t) made
      ∙ ap (λ (n : ℕ). passes pass ended (limit - n) (pass s)) u
      ∙ ap (λ (b : Bool). cond b (pass s) (passes pass ended (limit - suc (updates s)) (pass s))) (sym (ap ended (sym made) ∙ e))
      ∙ one_more h

  -- no pass is left
  pub none_left : limit ≤ updates s → s ≡ found
  unfolding passes
  none_left h =
      let e : limit - updates s ≡ 0 = omega arith in
      ap (λ (n : ℕ). passes pass ended n s) (sym e) ∙ inv

-- A pass that makes at most one update: n of them make at most n.
pub passes_most :
    {S : Type 0} (pass : S → S) (ended : S → Bool) (updates : S → ℕ) → ((s : S) → updates (pass s) ≤ suc (updates s))
    → (n : ℕ) (s : S) → updates (passes pass ended n s) ≤ updates s + n
unfolding passes
passes_most pass ended updates one zero s = omega arith
passes_most {S} pass ended updates one (suc n) s = go (ended (pass s)) (passes_most pass ended updates one n (pass s))
  where
    go : (b : Bool) → updates (passes pass ended n (pass s)) ≤ updates (pass s) + n → updates (cond b (pass s) (passes pass ended n (pass s))) ≤ updates s + suc n
    go true h = omega (arith, one s)
    go false h = omega (arith, one s)

-- What each pass keeps, the whole search keeps.
pub passes_keep : {S : Type 0} (pass : S → S) (ended : S → Bool) (P : S → Type 0) → ((s : S) → P s → P (pass s)) → (n : ℕ) (s : S) → P s → P (passes pass ended n s)
unfolding passes
passes_keep pass ended P one zero s p = p
passes_keep {S} pass ended P one (suc n) s p = go (ended (pass s)) (one s p) (passes_keep pass ended P one n (pass s) (one s p))
  where
    go : (b : Bool) → P (pass s) → P (passes pass ended n (pass s)) → P (cond b (pass s) (passes pass ended n (pass s)))
    go true h k = h
    go false h k = k
