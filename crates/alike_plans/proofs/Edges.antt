-- Edges that are alike: they stay so from sample to sample, the increments are refused alike, and where these are taken the two regions are one, bit by bit. Assumes nothing.
use mathlib.Core.Path.{◌≡◌, refl, sym, ap, ◌∙◌, subst}
use Rattle.std.specs.declared.result.Result.TheVariants.{Ok, Err}
use mathlib.Core.Bool.{Bool, true, false, cond, ◌&&◌, ◌||◌, true≢false, false≢true}
use Prim.Native.Nat.{ℕ, zero, suc, ◌-◌}
use lib.Dec.{T, eqb}
use lib.IntN.{ℤ}
use lib.Ieee.{Float, nan, inf, fin, div, lt, le, of_bits}
use lib.Ieee.Scale.{finite}
use Rattle.exact.specs.Alike.{◌≐◌, both_zero}
use Rattle.exact.specs.F64.{◌⊕◌, ◌⊖◌, ◌⊘◌, is_zero}
use Rattle.exact.proofs.Alike.{its, over_kept, ≐-finite, ≐-lt, ≐-le, ≐-over, ◌⟨⊕⟩◌, ◌⟨⊖⟩◌, sum_same, difference_same}
use Rattle.exact.proofs.Zeros.{zero_elim, zero_plus_zero, zero_less_zero, zero_over_other}
use Rattle.lens.specs.Constants.{zeros}
use Rattle.lens.specs.declared.Point.{Point}
use Rattle.lens.specs.Judgement.{Judgement, accepted}
use Rattle.lens.specs.declared.Refusal.TheVariants.{IncrementNotPositive, AnswerNotFinite}
use Rattle.lens.specs.Alike.{AlikePoints}
use Rattle.region.specs.Region.{range, increments, flat, wrong}
use Rattle.region.specs.Size.{float}
use Rattle.region.specs.declared.Region.{Region}
use Rattle.border.specs.Edges.{lowered, raised, widened, edges_after, two, mid, doubled}
use Rattle.alike_plans.specs.AlikePlans.{AlikeRegions}

either : (b b' : Bool) {x x' y y' : Float} → b ≡ b' → x ≐ x' → y ≐ y' → cond b x y ≐ cond b' x' y'
either true true e p q = p
either true false e p q = absurd (true≢false e)
either false true e p q = absurd (false≢true e)
either false false e p q = q

-- ---- the edges, sample by sample

lowered_kept : {e e' x x' : Float} → e ≐ e' → x ≐ x' → lowered e x ≐ lowered e' x'
lowered_kept {e} {e'} {x} {x'} p q = either (lt x e) (lt x' e') (≐-lt q p) q p

raised_kept : {e e' x x' : Float} → e ≐ e' → x ≐ x' → raised e x ≐ raised e' x'
raised_kept {e} {e'} {x} {x'} p q = either (lt e x) (lt e' x') (≐-lt p q) q p

widened_kept : (a b : Region) (p q : Point) → AlikeRegions a b → AlikePoints p q → AlikeRegions (widened a p) (widened b q)
unfolding widened
widened_kept a b p q h k = record {
  left = lowered_kept h.left k.x;
  top = lowered_kept h.top k.y;
  right = raised_kept h.right k.x;
  bottom = raised_kept h.bottom k.y;
}

pub edges_kept : (done : ℕ) (a b : Region) (p q : Point) → AlikeRegions a b → AlikePoints p q → AlikeRegions (edges_after done a p) (edges_after done b q)
unfolding edges_after
edges_kept done a b p q h k = go (eqb done 0) (record { left = k.x; top = k.y; right = k.x; bottom = k.y }) (widened_kept a b p q h k)
  where
    go : (c : Bool) {s s' t t' : Region} → AlikeRegions s s' → AlikeRegions t t' → AlikeRegions (cond c s t) (cond c s' t')
    go true h k = h
    go false h k = k

-- ---- the region and its increments

two_no_zero : is_zero two ≡ false
unfolding is_zero of_bits
two_no_zero = refl

two_finite : T (finite two)
unfolding of_bits
two_finite = tt

mid_kept : {lo lo' hi hi' : Float} → lo ≐ lo' → hi ≐ hi' → mid lo hi ≐ mid lo' hi'
mid_kept p q = ≐-over two_no_zero (p ⟨⊕⟩ q) (its two)

doubled_kept : (a b : Region) → AlikeRegions a b → AlikeRegions (doubled a) (doubled b)
unfolding doubled
doubled_kept a b h = record {
  left = mid_kept h.left h.right ⟨⊖⟩ (h.right ⟨⊖⟩ h.left);
  top = mid_kept h.top h.bottom ⟨⊖⟩ (h.bottom ⟨⊖⟩ h.top);
  right = mid_kept h.left h.right ⟨⊕⟩ (h.right ⟨⊖⟩ h.left);
  bottom = mid_kept h.top h.bottom ⟨⊕⟩ (h.bottom ⟨⊖⟩ h.top);
}

-- zeros over any number are zeros, where they are finite
zero_over : (z k : Float) → is_zero z ≡ true → finite (z ⊘ k) ≡ true → is_zero (z ⊘ k) ≡ true
zero_over z k p = zero_elim (λ (z : Float). finite (z ⊘ k) ≡ true → is_zero (z ⊘ k) ≡ true) (λ s e. go s e k) z p
  where
    go : (s : Bool) (e : ℤ) (k : Float) → finite (fin s zero e ⊘ k) ≡ true → is_zero (fin s zero e ⊘ k) ≡ true
    go s e nan h = absurd (false≢true (unfold div in h))
    go s e (inf t) h = unfold div is_zero in refl
    go s e (fin t zero d) h = absurd (false≢true (unfold div in h))
    go s e (fin t (suc m) d) h = zero_over_other (fin s zero e) (fin t (suc m) d) (unfold is_zero in refl) tt (unfold is_zero in refl)

flat_kept : {x y : Float} → x ≐ y → flat x ≡ flat y
flat_kept {x} {y} p = ap (λ (b : Bool). b && le x zeros) (≐-finite p) ∙ ap (λ (b : Bool). finite y && b) (≐-le p (its zeros))

zero_flat : (x : Float) → is_zero x ≡ true → flat x ≡ true
zero_flat x p = flat_kept (both_zero p at_zero) ∙ flat_zero
  where
    at_zero : is_zero zeros ≡ true
    at_zero = unfold is_zero of_bits in refl

    flat_zero : flat zeros ≡ true
    flat_zero = unfold le of_bits in refl

-- of two edges that are both zeros the increment is a zero, where it is finite
zero_step : (lo hi k : Float) → is_zero lo ≡ true → is_zero hi ≡ true → let by = range (mid lo hi ⊖ range lo hi) (mid lo hi ⊕ range lo hi) ⊘ k in finite by ≡ true → is_zero by ≡ true
zero_step lo hi k p q =
    let m = zero_over_other (lo ⊕ hi) two (zero_plus_zero lo hi p q) two_finite two_no_zero in
    let r = zero_less_zero hi lo q p in
    zero_over _ k (zero_less_zero _ _ (zero_plus_zero _ _ m r) (zero_less_zero _ _ m r))

-- so where it is finite and isn't flat they are not
not_both : (lo hi k : Float) → let by = range (mid lo hi ⊖ range lo hi) (mid lo hi ⊕ range lo hi) ⊘ k in flat by ≡ false → finite by ≡ true → (is_zero lo && is_zero hi) ≡ false
not_both lo hi k h f = go (is_zero lo) (is_zero hi) refl refl
  where
    go : (a b : Bool) → is_zero lo ≡ a → is_zero hi ≡ b → (a && b) ≡ false
    go true true p q = absurd (true≢false (sym (zero_flat _ (zero_step lo hi k p q f)) ∙ h))
    go true false p q = refl
    go false b p q = refl

swapped : (a b : Bool) → (a && b) ≡ false → (b && a) ≡ false
swapped true true e = e
swapped true false e = refl
swapped false true e = refl
swapped false false e = refl

-- and the middle and the range of the two are one, bit by bit
module _ {lo lo' hi hi' : Float} (n : (is_zero lo && is_zero hi) ≡ false) (p : lo ≐ lo') (q : hi ≐ hi') where
  lower_same : mid lo hi ⊖ range lo hi ≡ mid lo' hi' ⊖ range lo' hi'
  lower_same = ap (λ (x : Float). x ⊘ two ⊖ range lo hi) (sum_same n p q) ∙ ap (λ (x : Float). mid lo' hi' ⊖ x) (difference_same (swapped (is_zero lo) (is_zero hi) n) q p)

  upper_same : mid lo hi ⊕ range lo hi ≡ mid lo' hi' ⊕ range lo' hi'
  upper_same = ap (λ (x : Float). x ⊘ two ⊕ range lo hi) (sum_same n p q) ∙ ap (λ (x : Float). mid lo' hi' ⊕ x) (difference_same (swapped (is_zero lo) (is_zero hi) n) q p)

region_same : {l l' t t' r r' b b' : Float} → l ≡ l' → t ≡ t' → r ≡ r' → b ≡ b' → ◌≡◌ {A = Region} (record { left = l; top = t; right = r; bottom = b }) (record { left = l'; top = t'; right = r'; bottom = b' })
region_same p q r s = rw (p, q, r, s) refl

abbrev Refuses : Judgement → Type 0
Refuses (Ok _) = ⊥
Refuses (Err r) = Unit {0}

module _ (width height : ℕ) (a b : Region) (h : AlikeRegions a b) where
  pub increments_refused_alike : wrong (increments (doubled a) width height) ≡ wrong (increments (doubled b) width height)
  unfolding wrong increments
  increments_refused_alike =
      let d = doubled_kept a b h in
      let x = over_kept (float (width - 1)) (d.right ⟨⊖⟩ d.left) in
      let y = over_kept (float (height - 1)) (d.bottom ⟨⊖⟩ d.top) in
      rw (flat_kept x, flat_kept y, ≐-finite x, ≐-finite y) refl

  pub region_is_one : wrong (increments (doubled a) width height) ≡ accepted → doubled a ≡ doubled b
  unfolding wrong increments doubled
  region_is_one e =
      let by = increments (doubled a) width height in
      let n = go (flat by.0) (flat by.1) (finite by.0) (finite by.1) e in
      let x = not_both a.left a.right (float (width - 1)) n.0 n.2 in
      let y = not_both a.top a.bottom (float (height - 1)) n.1 n.3 in
      region_same (lower_same x h.left h.right) (lower_same y h.top h.bottom) (upper_same x h.left h.right) (upper_same y h.top h.bottom)
    where
      go : (p q f g : Bool) → cond (p || q) (Err IncrementNotPositive) (cond (f && g) accepted (Err AnswerNotFinite)) ≡ accepted → (p ≡ false) × (q ≡ false) × (f ≡ true) × (g ≡ true)
      go true q f g e = absurd (subst Refuses e tt)
      go false true f g e = absurd (subst Refuses e tt)
      go false false true true e = (refl, refl, refl, refl)
      go false false true false e = absurd (subst Refuses e tt)
      go false false false g e = absurd (subst Refuses e tt)
