-- A camera whose parameters are known to be finite, or not to be. Assumes nothing.
use mathlib.Core.Path.{◌≡◌, refl, sym, ap, ◌∙◌}
use Rattle.std.specs.declared.result.Result.TheVariants.{Err}
use mathlib.Core.Bool.{Bool, true, false, ◌&&◌}
use mathlib.Core.List.{List, [], ◌∷◌, ◌++◌}
use lib.Ieee.{Float}
use lib.Ieee.Scale.{finite}
use Rattle.lens.specs.Finite.{all_finite}
use Rattle.lens.specs.declared.Refusal.TheVariants.{NotFinite}
use Rattle.thin_prism.specs.declared.ThinPrismParams.{ThinPrismParams}
use Rattle.camera.specs.Camera.{parameters, placed, judged}
use Rattle.camera.specs.declared.Camera.{Camera}
use Rattle.camera.specs.declared.Camera.TheVariants.{BrownConrady, ThinPrism}

module _ (camera : Camera) (x y : Float) where
  pub judged_finite : all_finite (parameters camera) ≡ true → judged camera x y ≡ placed camera x y
  unfolding judged
  judged_finite e = rw e refl

  pub judged_not : all_finite (parameters camera) ≡ false → judged camera x y ≡ Err NotFinite
  unfolding judged
  judged_not e = rw e refl

-- ---- bc12: bc's parameters, then the prism's

pub all_finite_append : (xs ys : List Float) → all_finite (xs ++ ys) ≡ (all_finite xs && all_finite ys)
unfolding all_finite
all_finite_append [] ys = refl
all_finite_append (x ∷ xs) ys = ap (λ (b : Bool). finite x && b) (all_finite_append xs ys) ∙ go (finite x)
  where
    go : (b : Bool) → (b && (all_finite xs && all_finite ys)) ≡ ((b && all_finite xs) && all_finite ys)
    go true = refl
    go false = refl

module _ (p : ThinPrismParams) where
  abbrev pub prism : List Float
  prism = p.s1 ∷ p.s2 ∷ p.s3 ∷ p.s4 ∷ []

  -- b says that bc's are finite
  pub prism_behind : {b : Bool} → b ≡ all_finite (parameters (BrownConrady p.bc)) → (b && all_finite prism) ≡ all_finite (parameters (ThinPrism p))
  prism_behind e = ap (λ (b : Bool). b && all_finite prism) e ∙ sym (all_finite_append (parameters (BrownConrady p.bc)) prism)
