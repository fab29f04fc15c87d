-- `camera_file::numbers` meets its contract. Assumes nothing.
use mathlib.Core.Path.{◌≡◌, sym, ap, subst, ◌∙◌}
use mathlib.Core.List.{List}
use Prim.Native.Nat.{ℕ, zero, suc, ◌+◌, ◌<◌}
use native.Mathlib.Omega.{arith}
use borrow.Author.Rules.{rules}
use denote.Param.Members.{Mut}
use lib.ListN.{get_or}
use lib.Ieee.{nan}
use Rattle.std.specs.Fn.{Called}
use Rattle.std.specs.Array.{IsFromFnResultFrom}
use Rattle.std.proofs.lemmas.List.FromFn.{fill_by_all}
use Rattle.params_line.specs.Params.{at, params_of}
use Rattle.camera_file.proofs.numbers.Goals as goal

-- each element is what the call at its index gave, where a call leaves the closure as it was
made_at :
    {F B : Type 0} (g : Mut F (ℕ × Unit {0}) B) (f : F) (h : ℕ → B) (ys : List B) →
    ((i : ℕ) (y : B) (q : F) → Called g f (i, tt) y q → (q ≡ f) × (y ≡ h i)) →
    (n i j k : ℕ) (d : B) → IsFromFnResultFrom g f ys i n → k < n → i + k ≡ j → get_or ys j d ≡ h j
made_at g f h ys step zero i j k d r l e = absurd (omega arith)
made_at g f h ys step (suc n) i j zero d (q, y, a, c, r) l e =
    let z : i ≡ j = omega arith in
    ap (λ (m : ℕ). get_or ys m d) (sym z) ∙ a.1 d ∙ (step i y q c).1 ∙ ap h z
made_at {F} g f h ys step (suc n) i j (suc k) d (q, y, a, c, r) l e =
    made_at g f h ys step n (i + 1) j k d (subst (λ (p : F). IsFromFnResultFrom g p ys (i + 1) n) (step i y q c).0 r) (omega arith) (omega arith)

pub returns : goal.returns
returns c =
    let h = at (params_of c.args.line.now) in
    let r = c.from_fn.ensures.items in
    fill_by_all h _ 16 nan r.long (λ k l. made_at _ _ h _ (λ i y q s. search rules) 16 0 k k nan r.each l (omega arith))
