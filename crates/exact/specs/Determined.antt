-- What it means that a contract determines a function's answer. Definitions only.
use Rattle.std.specs.Prelude.{◌≡◌}

-- `post` is what the function's `ensures` says, as the check reads it off the source: `Post` of the module `Reads` that
-- the check makes of the function. It speaks of the lifetimes κ, the arguments a, the answer r, and the arguments s as
-- they are at the return. Any two answers that it permits to one call are equal.
abbrev pub Determined : {K : Type 0} {A R S : K → Type 0} → ((κ : K) → A κ → R κ → S κ → Type 0) → Type 0
Determined {K} {A} {R} {S} post = (κ : K) (a : A κ) (s s' : S κ) (r r' : R κ) → post κ a r s → post κ a r' s' → r ≡ r'

-- The same of a function that is lent memory: any two answers are equal, and so is what the memory then holds. `lent`
-- says where among the arguments at the return it is.
abbrev pub DeterminedWith :
    {K L : Type 0} {A R S : K → Type 0} → ((κ : K) → A κ → R κ → S κ → Type 0) → ((κ : K) → S κ → L) → Type 0
DeterminedWith {K} {L} {A} {R} {S} post lent =
    (κ : K) (a : A κ) (s s' : S κ) (r r' : R κ) → post κ a r s → post κ a r' s' → (r ≡ r') × (lent κ s ≡ lent κ s')
