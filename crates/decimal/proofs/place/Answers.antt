-- `decimal::place` meets its contract. Assumes nothing.
use mathlib.Core.Path.{◌≡◌, refl, sym, ◌∙◌}
use mathlib.Core.List.{List, [], ◌∷◌}
use Prim.Native.Nat.{ℕ, ◌+◌}
use native.Mathlib.Numerals.{add-one}
use borrow.Author.Rules.{rules}
use borrow.Author.Tests.{tests, eq-eqb, ne_eqb}
use Rattle.std.proofs.lemmas.Iterator.{IsFirst-from_position, YieldsList-from_slice, index_from_first}
use Rattle.decimal.specs.Text.{place}
use Rattle.decimal.proofs.place.Goals as goal

hit : (b x : ℕ) (text : List ℕ) → x ≡ b → place b (x ∷ text) ≡ 0
unfolding place
hit b x text e = simp (eq-eqb x b e)

miss : (b x : ℕ) (text : List ℕ) → (x ≡ b → ⊥) → place b (x ∷ text) ≡ place b text + 1
unfolding place
miss b x text ne = simp (ne_eqb x b ne) (sym (add-one (place b text)))

none : (b : ℕ) → place b [] ≡ 0
unfolding place
none b = refl

pub returns : goal.returns
returns c =
    let b = c.args.b in
    let text = c.args.text.now in
    let first = IsFirst-from_position _ _ _ (λ x. x ≡ b) (λ x. x ≡ b → ⊥) c.position.ensures.ran (YieldsList-from_slice text cc) (λ x q k. search (rules, tests)) (λ x q k. search (rules, tests)) in
    c.unwrap_or.ensures ∙ sym (index_from_first (place b) (λ x. x ≡ b) (λ x. x ≡ b → ⊥) (none b) (hit b) (miss b) text _ first)
