-- Between four f64s by two fractions below 1, as it is rounded: no further than any of the four (`blended_inside`), and where they are one number it is that number (`blended_level`). Assumes nothing.
use Rattle.std.proofs.Common.{◌≡◌, Bool, true, false, ◌&&◌, T, List, [], ◌∷◌, refl}
use lib.Ieee.{Float, binary64, fits}
use lib.Ieee.Scale.{finite}
use Rattle.exact.specs.Alike.{◌≐◌}
use Rattle.exact.proofs.Alike.{≐-sym, ≐-trans}
use Rattle.lens.specs.Finite.{all_finite}
use Rattle.lookup.specs.Enclosed.{Enclosed}
use Rattle.lookup.specs.Lookup.{between, blended}
use Rattle.lookup.proofs.Extremes.{Every, least-≼, ≼-greatest}
use Rattle.lookup.proofs.Way.{Part, between_finite, between_fits, between_inside, between_level}

all_four : (p q r s : Bool) → T p → T q → T r → T s → (p && (q && (r && (s && true)))) ≡ true
all_four false q r s tp tq tr ts = elim tp [ ]
all_four true false r s tp tq tr ts = elim tq [ ]
all_four true true false s tp tq tr ts = elim tr [ ]
all_four true true true false tp tq tr ts = elim ts [ ]
all_four true true true true tp tq tr ts = refl

module _ (c00 c10 c01 c11 a b : Float) where
  abbrev upper : Float
  upper = between c00 c10 a

  abbrev lower : Float
  lower = between c01 c11 a

  abbrev cells : List Float
  cells = c00 ∷ c10 ∷ c01 ∷ c11 ∷ []

  -- a finite answer needs four finite cells
  cells_finite : T (finite (blended c00 c10 c01 c11 a b)) → all_finite cells ≡ true
  unfolding blended all_finite
  cells_finite t =
      let d = between_finite upper lower b t in
      let u = between_finite c00 c10 a d.from in
      let l = between_finite c01 c11 a d.to in
      all_four (finite c00) (finite c10) (finite c01) (finite c11) u.from u.to l.from l.to

  pub blended_inside : Every (λ x. T (fits binary64 x)) cells → Part a → Part b → T (finite (blended c00 c10 c01 c11 a b)) → Enclosed cells (blended c00 c10 c01 c11 a b)
  unfolding blended
  blended_inside f pa pb t =
      let d = between_finite upper lower b t in
      let l = least-≼ cells in
      let g = ≼-greatest cells in
      let top = between_inside c00 c10 a f.0 f.1.0 pa d.from l.0 l.1.0 g.0 g.1.0 in
      let bottom = between_inside c01 c11 a f.1.1.0 f.1.1.1.0 pa d.to l.1.1.0 l.1.1.1.0 g.1.1.0 g.1.1.1.0 in
      let r = between_inside upper lower b (between_fits c00 c10 a) (between_fits c01 c11 a) pb t top.0 bottom.0 top.1 bottom.1 in
      record { cells_finite = cells_finite t; answer_finite = t; not_below = r.0; not_above = r.1 }

  pub blended_level : T (fits binary64 c00) → T (fits binary64 c01) → T (finite (blended c00 c10 c01 c11 a b)) → c10 ≐ c00 → c01 ≐ c00 → c11 ≐ c00 → blended c00 c10 c01 c11 a b ≐ c00
  unfolding blended
  blended_level f00 f01 t e10 e01 e11 =
      let d = between_finite upper lower b t in
      let top = between_level c00 c10 a f00 d.from e10 in
      let bottom = between_level c01 c11 a f01 d.to (≐-trans e11 (≐-sym e01)) in
      ≐-trans (between_level upper lower b (between_fits c00 c10 a) t (≐-trans bottom (≐-trans e01 (≐-sym top)))) top
