-- Points that are one but for the signs of zeros: their squared radius is the same bit by bit, so bc sends them alike, and two Newtons whose steps are alike go the same way. Assumes nothing.
use mathlib.Core.Path.{◌≡◌, refl, sym, ap, ap₂, ◌∙◌}
use mathlib.Core.Bool.{Bool, true, false, cond, false≢true}
use lib.Dec.{T}
use lib.Ieee.{Float, nan, inf, fin, le, of_bits}
use lib.Ieee.Scale.{finite}
use Rattle.exact.specs.Alike.{◌≐◌, same}
use Rattle.exact.specs.F64.{f64, magnitude, ◌⊕◌, ◌⊖◌, ◌⊗◌, ◌⊘◌}
use Rattle.exact.proofs.Alike.{its, square_same, ≐-isZero, ≐-minus, ≐-over, ◌⟨⊕⟩◌, ◌⟨⊖⟩◌, ◌⟨⊗⟩◌}
use Rattle.exact.proofs.Operations.{sum_finite, difference_finite, product_finite, quotient_finite}
use Rattle.exact.proofs.Swaps.{squares_unsigned}
use Rattle.root.specs.Root.{root}
use Rattle.lens.specs.Alike.{AlikePoints}
use Rattle.lens.specs.Constants.{ones, eps, int}
use Rattle.lens.specs.Passes.{passes}
use Rattle.lens.specs.Radius.{squared_radius}
use Rattle.lens.specs.declared.Point.{Point}
use Rattle.brown_conrady.specs.BrownConrady.{distortion, shared_at, slopes_at, solve, small, pass_by, limit, start, ended}
use Rattle.brown_conrady.specs.declared.BrownConradyParams.{BrownConradyParams}
use Rattle.brown_conrady.specs.declared.Offset.{Offset}
use Rattle.brown_conrady.specs.declared.Search.{Search}
use Rattle.brown_conrady.specs.declared.Slopes.{Slopes}
use Rattle.brown_conrady.proofs.NoRoot.{last_bits, no_root}
use Rattle.brown_conrady.proofs.Steps.{passes_alike}

-- ---- the squared radius

pub radius_same : {x x' y y' : Float} → x ≐ x' → y ≐ y' → squared_radius x y ≡ squared_radius x' y'
radius_same p q = ap₂ (λ (a b : Float). a ⊕ b) (square_same p) (square_same q)

-- ---- the lens

module _ (params : BrownConradyParams) {p q : Point} (h : AlikePoints p q) where
  pub distortion_kept : AlikePoints (distortion params p) (distortion params q)
  unfolding distortion
  distortion_kept =
      let x = h.x in
      let y = h.y in
      let e = radius_same x y in
      let r2 = same e in
      let r4 = r2 ⟨⊗⟩ r2 in
      let r6 = r4 ⟨⊗⟩ r2 in
      let a1 = its (int 2) ⟨⊗⟩ x ⟨⊗⟩ y in
      let a2 = r2 ⟨⊕⟩ its (int 2) ⟨⊗⟩ x ⟨⊗⟩ x in
      let a3 = r2 ⟨⊕⟩ its (int 2) ⟨⊗⟩ y ⟨⊗⟩ y in
      let cdist = its ones ⟨⊕⟩ its params.k1 ⟨⊗⟩ r2 ⟨⊕⟩ its params.k2 ⟨⊗⟩ r4 ⟨⊕⟩ its params.k3 ⟨⊗⟩ r6 in
      let icdist2 = same (ap (λ (r : Float). ones ⊘ (ones ⊕ params.k4 ⊗ r ⊕ params.k5 ⊗ (r ⊗ r) ⊕ params.k6 ⊗ (r ⊗ r ⊗ r))) e) in
      record {
        x = x ⟨⊗⟩ cdist ⟨⊗⟩ icdist2 ⟨⊕⟩ its params.p1 ⟨⊗⟩ a1 ⟨⊕⟩ its params.p2 ⟨⊗⟩ a2;
        y = y ⟨⊗⟩ cdist ⟨⊗⟩ icdist2 ⟨⊕⟩ its params.p1 ⟨⊗⟩ a3 ⟨⊕⟩ its params.p2 ⟨⊗⟩ a1;
      }

pub record AlikeSlopes (s t : Slopes) : Type 0 where
  pub c7 : s.c7 ≐ t.c7
  pub ux : s.ux ≐ t.ux
  pub uy : s.uy ≐ t.uy
  pub vx : s.vx ≐ t.vx
  pub vy : s.vy ≐ t.vy

module _ (params : BrownConradyParams) {p q : Point} (h : AlikePoints p q) where
  pub slopes_kept : AlikeSlopes (slopes_at params p) (slopes_at params q)
  unfolding slopes_at shared_at
  slopes_kept =
      let a = h.x in
      let b = h.y in
      let e = radius_same a b in
      let c2 = same e in
      let c3 = c2 ⟨⊗⟩ c2 in
      let c4 = c3 ⟨⊗⟩ c2 in
      let c5 = c2 ⟨⊗⟩ its params.k4 ⟨⊕⟩ c3 ⟨⊗⟩ its params.k5 ⟨⊕⟩ c4 ⟨⊗⟩ its params.k6 ⟨⊕⟩ its ones in
      let c6 = c5 ⟨⊗⟩ c5 in
      let c7 = same (ap (λ (r : Float). let c = r ⊗ params.k4 ⊕ r ⊗ r ⊗ params.k5 ⊕ r ⊗ r ⊗ r ⊗ params.k6 ⊕ ones in ones ⊘ (c ⊗ c)) e) in
      let c10 = its (int 2) ⟨⊗⟩ c2 in
      let c11 = its (int 3) ⟨⊗⟩ c3 in
      let c17 = c2 ⟨⊗⟩ its params.k1 ⟨⊕⟩ c3 ⟨⊗⟩ its params.k2 ⟨⊕⟩ c4 ⟨⊗⟩ its params.k3 ⟨⊕⟩ its ones in
      let c15 = its (int 2) ⟨⊗⟩ (c10 ⟨⊗⟩ its params.k5 ⟨⊕⟩ c11 ⟨⊗⟩ its params.k6 ⟨⊕⟩ its params.k4) ⟨⊗⟩ c17 in
      let c16 = its (int 2) ⟨⊗⟩ c10 ⟨⊗⟩ its params.k2 ⟨⊕⟩ its (int 2) ⟨⊗⟩ c11 ⟨⊗⟩ its params.k3 ⟨⊕⟩ its (int 2 ⊗ params.k1) in
      let c19 = a ⟨⊗⟩ b in
      let c20 = ≐-minus c15 ⟨⊗⟩ c19 ⟨⊕⟩ c16 ⟨⊗⟩ c19 ⟨⊗⟩ c5 in
      let c0 = a ⟨⊗⟩ a in
      let c1 = b ⟨⊗⟩ b in
      let c8 = a ⟨⊗⟩ its params.p2 in
      let c9 = its (int 2 ⊗ params.p1) in
      let c18 = b ⟨⊗⟩ its params.p2 in
      record {
        c7 = c7;
        ux = ≐-minus c0 ⟨⊗⟩ c15 ⟨⊕⟩ c5 ⟨⊗⟩ (c0 ⟨⊗⟩ c16 ⟨⊕⟩ c17) ⟨⊕⟩ c6 ⟨⊗⟩ (b ⟨⊗⟩ c9 ⟨⊕⟩ its (int 6) ⟨⊗⟩ c8);
        uy = c20 ⟨⊕⟩ c6 ⟨⊗⟩ (a ⟨⊗⟩ c9 ⟨⊕⟩ its (int 2) ⟨⊗⟩ c18);
        vx = c20 ⟨⊕⟩ c6 ⟨⊗⟩ (its (int 2) ⟨⊗⟩ a ⟨⊗⟩ its params.p1 ⟨⊕⟩ its (int 2) ⟨⊗⟩ c18);
        vy = ≐-minus c1 ⟨⊗⟩ c15 ⟨⊕⟩ c5 ⟨⊗⟩ (c1 ⟨⊗⟩ c16 ⟨⊕⟩ c17) ⟨⊕⟩ c6 ⟨⊗⟩ (its (int 6) ⟨⊗⟩ b ⟨⊗⟩ its params.p1 ⟨⊕⟩ its (int 2) ⟨⊗⟩ c8);
      }

-- ---- a step, and its test

pub record AlikeOffsets (f g : Offset) : Type 0 where
  pub x : f.0 ≐ g.0
  pub y : f.1 ≐ g.1

-- where the step is finite, the determinant is no zero
pub solve_kept :
    {a a' b b' c c' d d' : Float} {f f' : Offset} → a ≐ a' → b ≐ b' → c ≐ c' → d ≐ d' → AlikeOffsets f f'
    → T (finite (solve a b c d f).0) → AlikeOffsets (solve a b c d f) (solve a' b' c' d' f')
solve_kept a b c d f t =
    let det = a ⟨⊗⟩ d ⟨⊖⟩ b ⟨⊗⟩ c in
    let some = (quotient_finite ones _ (product_finite _ _ (product_finite _ _ (sum_finite _ _ t).0).0).1).1 in
    let z = ≐-over (sym (≐-isZero det) ∙ some) (its ones) det in
    record { x = d ⟨⊗⟩ z ⟨⊗⟩ f.x ⟨⊕⟩ ≐-minus b ⟨⊗⟩ z ⟨⊗⟩ f.y; y = ≐-minus c ⟨⊗⟩ z ⟨⊗⟩ f.x ⟨⊕⟩ a ⟨⊗⟩ z ⟨⊗⟩ f.y }

pub small_kept : {f g : Offset} → AlikeOffsets f g → small f ≡ small g
small_kept h = ap (λ (r : Float). le (root r) eps) (radius_same h.x h.y)

-- a small offset is of numbers: a sum of squares that is at most the bound is finite, since only -infinity is below it and isn't
at_most_lem : (q : Float) → le (magnitude q) (f64 last_bits) ≡ true → T (finite q)
unfolding magnitude le of_bits
at_most_lem nan h = absurd (false≢true h)
at_most_lem (inf s) h = absurd (false≢true h)
at_most_lem (fin s m e) h = tt

pub small_finite : (f : Offset) → small f ≡ true → T (finite f.0) × T (finite f.1)
small_finite f h =
    let q = squared_radius f.0 f.1 in
    let bounded = ap (λ (q : Float). le q (f64 last_bits)) (squares_unsigned f.0 f.1) ∙ sym (no_root f.0 f.1) ∙ h in
    let both = sum_finite (f.0 ⊗ f.0) (f.1 ⊗ f.1) (at_most_lem q bounded) in
    ((product_finite f.0 f.0 both.0).0, (product_finite f.1 f.1 both.1).0)

-- ---- two Newtons

pub record AlikeSearches (s t : Search) : Type 0 where
  pub xy : AlikePoints s.xy t.xy
  pub updates : s.updates ≡ t.updates
  pub ended : s.ended ≡ t.ended

both : (b c : Bool) (s s' t t' : Search) → b ≡ c → AlikeSearches s t → AlikeSearches s' t' → AlikeSearches (cond b s s') (cond c t t')
both true true s s' t t' e p q = p
both true false s s' t t' e p q = absurd (false≢true (sym e))
both false true s s' t t' e p q = absurd (false≢true e)
both false false s s' t t' e p q = q

-- by what is seen of a point, which two differences have only if their sides do, and a small step has
module _ (Seen : Float → Float → Type 0) (apart : (a b c d : Float) → Seen (a ⊖ c) (b ⊖ d) → Seen a b × Seen c d) (of-small : (f : Offset) → small f ≡ true → Seen f.0 f.1) where
  abbrev Known : Search → Type 0
  Known s = Seen s.xy.0 s.xy.1

  -- a pass to what has it comes from what has it, by a step that has it
  pub came_from : (step : Point → Offset) (at : Search) → Known (pass_by step at) → Known at × Seen (step at.xy).0 (step at.xy).1
  unfolding pass_by
  came_from step at = go (small (step at.xy)) refl _ _ (λ t. t) (apart at.xy.0 at.xy.1 (step at.xy).0 (step at.xy).1)
    where
      go :
          (b : Bool) → small (step at.xy) ≡ b → (s t : Search) → (Known s → Known at) → (Known t → Known at × Seen (step at.xy).0 (step at.xy).1)
          → Known (cond b s t) → Known at × Seen (step at.xy).0 (step at.xy).1
      go true e s t f g k = (f k, of-small (step at.xy) e)
      go false e s t f g k = g k

  -- a search goes as another whose steps are alike, if it ends at what has it
  module _ (step step' : Point → Offset) (kept : (p q : Point) → AlikePoints p q → Seen (step p).0 (step p).1 → AlikeOffsets (step p) (step' q)) where
    pass_alike : (s t : Search) → AlikeSearches s t → Known (pass_by step s) → AlikeSearches (pass_by step s) (pass_by step' t)
    pass_alike s t h k = go (kept s.xy t.xy h.xy (came_from step s k).1)
      where
        go : AlikeOffsets (step s.xy) (step' t.xy) → AlikeSearches (pass_by step s) (pass_by step' t)
        go f =
            unfold pass_by in
            both (small (step s.xy)) (small (step' t.xy)) _ _ _ _ (small_kept f)
            (record { xy = h.xy; updates = rw h.updates refl; ended = refl })
            (record { xy = record { x = h.xy.x ⟨⊖⟩ f.x; y = h.xy.y ⟨⊖⟩ f.y }; updates = rw h.updates refl; ended = refl })

    newton_by :
        (from : Point) → Known (passes (pass_by step) ended limit (start from))
        → AlikeSearches (passes (pass_by step) ended limit (start from)) (passes (pass_by step') ended limit (start from))
    newton_by from =
        passes_alike (pass_by step) ended (pass_by step') ended Known AlikeSearches (λ s k. (came_from step s k).0) (λ s t h. h.ended) pass_alike limit (start from) (start from)
        (record { xy = record { x = its from.0; y = its from.1 }; updates = refl; ended = refl })

-- that its first number is finite, and that both are
abbrev pub First : Float → Float → Type 0
First x y = T (finite x)

abbrev pub Both : Float → Float → Type 0
Both x y = T (finite x) × T (finite y)

pub both_apart : (a b c d : Float) → Both (a ⊖ c) (b ⊖ d) → Both a b × Both c d
both_apart a b c d h =
    let x = difference_finite a c h.0 in
    let y = difference_finite b d h.1 in
    ((x.0, y.0), (x.1, y.1))

module _ (step step' : Point → Offset) where
  pub newton_alike :
      ((p q : Point) → AlikePoints p q → First (step p).0 (step p).1 → AlikeOffsets (step p) (step' q))
      → (from : Point) → T (finite (passes (pass_by step) ended limit (start from)).xy.0)
      → AlikeSearches (passes (pass_by step) ended limit (start from)) (passes (pass_by step') ended limit (start from))
  newton_alike = newton_by First (λ a b c d. difference_finite a c) (λ f h. (small_finite f h).0) step step'

  pub newton_both :
      ((p q : Point) → AlikePoints p q → Both (step p).0 (step p).1 → AlikeOffsets (step p) (step' q))
      → (from : Point) → Both (passes (pass_by step) ended limit (start from)).xy.0 (passes (pass_by step) ended limit (start from)).xy.1
      → AlikeSearches (passes (pass_by step) ended limit (start from)) (passes (pass_by step') ended limit (start from))
  newton_both = newton_by Both both_apart small_finite step step'
