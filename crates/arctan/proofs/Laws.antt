-- What a caller may hold of arctangent and tangent without looking into their definitions, and of their contracts. Assumes nothing.
use Rattle.std.proofs.Common.{◌≡◌, ℕ, zero, suc, ◌*◌, ◌^◌, Bool, true, false, cond, not, T, ◌⊎◌, ◌↔◌, ℤ, sym, refl, ap, ◌∙◌, subst, inl, inr, arith, lit≤}
use lib.Ieee.{Float, nan, inf, fin, binary64, up, down, fits, neg, lt, le, eq}
use Rattle.exact.specs.Determined.{Determined}
use Rattle.exact.specs.F64.{magnitude}
use Rattle.exact.specs.Fraction.{Fraction, over, ◌≼◌, ◌≺◌}
use Rattle.exact.proofs.Fractions.{over_proper, over-≼, ≼_trans, ≼-or-≺, within_wider}
use Rattle.arctan.specs.Series.{Arctangent, ArctangentBy, Angle, AngleBy, arctangent_bound, tangent_bound, at_most, limit}
use Rattle.arctan.specs.Owed.{slope_number, Past, PastBy, Answered, AnsweredBy, Tangent, TangentBy, falling}
use Rattle.arctan.specs.Tangent.{steep, limit_end, tangent}
use Rattle.std.specs.Prelude.{Option, Some, None}
use Rattle.arctan.specs.Arctangent.{forward, arctangent, tiny}
use Rattle.arctan.proofs.Cases.{at_most_lem, not_at_most}
use Rattle.arctan.proofs.Near.{arctangent_near, zero_itself, minus_turned, plus_itself, minus_infinite, zero_tiny}
use Rattle.arctan.proofs.Choice.{tangent_tiny, tangent_refused}
use Rattle.arctan.proofs.Answers.{with_sign, tangent_near}
use Rattle.arctan.proofs.arctangent.Reads as arctangent-contract
use Rattle.arctan.proofs.tangent.Reads as tangent-contract

-- Near the series: for every x that an f64 can be, the arctangent is NaN, or within 2 ^ -46 of A(x), of 2P at infinity, with the sign of x.
pub arctangent_within : (x : Float) → T (fits binary64 x) → Arctangent x (arctangent x)
arctangent_within = arctangent_near

-- A NaN gives a NaN.
pub arctangent_nan : arctangent nan ≡ nan
unfolding arctangent lt eq
arctangent_nan = refl

-- A zero keeps its sign.
pub arctangent_zero : (s : Bool) (e : ℤ) → arctangent (fin s 0 e) ≡ fin s 0 e
arctangent_zero = zero_itself

twice_turned : (x : Float) → neg (neg x) ≡ x
unfolding neg
twice_turned nan = refl
twice_turned (inf true) = refl
twice_turned (inf false) = refl
twice_turned (fin true m e) = refl
twice_turned (fin false m e) = refl

-- Of -x it gives the negation, a zero's too.
pub arctangent_odd : (x : Float) → arctangent (neg x) ≡ neg (arctangent x)
unfolding neg
arctangent_odd nan = arctangent_nan ∙ ap neg (sym arctangent_nan)
arctangent_odd (inf true) = sym (ap neg minus_infinite ∙ twice_turned (arctangent (inf false)))
arctangent_odd (inf false) = minus_infinite
arctangent_odd (fin true zero e) = zero_itself false e ∙ ap neg (sym (zero_itself true e))
arctangent_odd (fin true (suc m) e) = plus_itself (suc m) e ∙ sym (ap neg (minus_turned m e) ∙ twice_turned (forward (fin false (suc m) e)))
arctangent_odd (fin false zero e) = zero_itself true e ∙ ap neg (sym (zero_itself false e))
arctangent_odd (fin false (suc m) e) = minus_turned m e ∙ ap neg (sym (plus_itself (suc m) e))

-- Any two answers to one call that the contract of `arctangent` permits are equal: it names the definition, beside the bound.
pub arctangent_determined : Determined arctangent-contract.Post
arctangent_determined κ a s s' r r' p q = p.0 ∙ sym q.0

-- ---- tangent

-- The series leads back: for every theta that an f64 can be, up to 99/64 in size, the tangent is a t of theta's sign with
-- A of its size within 2 ^ -44 of theta's; past it there is none; a NaN and the infinities give NaN.
pub tangent_within : (theta : Float) → T (fits binary64 theta) → Tangent theta (tangent theta)
tangent_within = tangent_near

-- A NaN gives a NaN.
pub tangent_nan : tangent nan ≡ Some nan
tangent_nan = tangent_near nan (unfold fits in tt)

-- And so do the infinities.
pub tangent_infinite : (s : Bool) → tangent (inf s) ≡ Some nan
tangent_infinite s = tangent_near (inf s) (unfold fits in tt)

-- A zero keeps its sign.
pub tangent_zero : (s : Bool) (e : ℤ) → tangent (fin s 0 e) ≡ Some (fin s 0 e)
unfolding magnitude
tangent_zero s e = sym (tangent_tiny (fin s 0 e) (zero_tiny false e))

-- It is refused exactly past 99/64.
pub tangent_refused_past : (s : Bool) (m : ℕ) (e : ℤ) → T (fits binary64 (fin s m e)) → (tangent (fin s m e) ≡ None) ↔ (limit ≺ over (m * up e) (down e))
tangent_refused_past s m e f = (λ r. past r (≼-or-≺ a limit), λ h. owed (not_at_most h))
  where
    a : Fraction
    a = over (m * up e) (down e)

    owed : {t : Bool} → at_most a limit ≡ t → Answered t s a (tangent (fin s m e))
    owed h = subst (λ (t : Bool). Answered t s a (tangent (fin s m e))) h (tangent_near (fin s m e) f)

    past : tangent (fin s m e) ≡ None → (a ≼ limit) ⊎ (limit ≺ a) → limit ≺ a
    past r (inl h) = absurd (subst (λ (x : Option Float). Answered true s a x) r (owed (at_most_lem h)))
    past r (inr h) = h

ten : (r : Option Float) → slope_number r ≡ 10 → r ≡ None
ten (Some t) h = absurd (omega arith)
ten None h = refl

-- So the number told is 10 exactly of an angle that is a number past 99/64 in size, and 0 of every other.
pub tangent_number : (theta : Float) → T (fits binary64 theta) → (slope_number (tangent theta) ≡ 10) ↔ Past theta
tangent_number nan f = (λ h. absurd (omega (arith, rw tangent_nan at h)), λ h. absurd h)
tangent_number (inf s) f = (λ h. absurd (omega (arith, rw (tangent_infinite s) at h)), λ h. absurd h)
tangent_number (fin s m e) f = let past = tangent_refused_past s m e f in (λ h. past.0 (ten (tangent (fin s m e)) h), λ h. ap slope_number (past.1 h))

both_signs : (s : Bool) (t : Float) → cond (not s) (neg t) t ≡ neg (cond s (neg t) t)
both_signs true t = sym (twice_turned t)
both_signs false t = refl

number_odd :
    (s : Bool) (m : ℕ) (e : ℤ) (b : Bool) → lt (fin false m e) tiny ≡ b → (c : Bool) → le (fin false m e) limit_end ≡ c
    → tangent (fin (not s) m e) ≡ falling (tangent (fin s m e))
unfolding magnitude neg
number_odd s m e true h c k = sym (tangent_tiny (fin (not s) m e) h) ∙ ap falling (tangent_tiny (fin s m e) h)
number_odd s m e false h true k = sym (with_sign (not s) m e h k) ∙ ap Some (both_signs s (steep (fin false m e))) ∙ ap falling (with_sign s m e h k)
number_odd s m e false h false k = sym (tangent_refused (fin (not s) m e) h k refl) ∙ ap falling (tangent_refused (fin s m e) h k refl)

-- Of -theta it gives the negation, a zero's too, and the same refusal.
pub tangent_odd : (theta : Float) → tangent (neg theta) ≡ falling (tangent theta)
unfolding neg
tangent_odd nan = tangent_nan ∙ ap falling (sym tangent_nan)
tangent_odd (inf s) = tangent_infinite (not s) ∙ ap falling (sym (tangent_infinite s))
tangent_odd (fin s m e) = number_odd s m e (lt (fin false m e) tiny) refl (le (fin false m e) limit_end) refl

-- Any two answers to one call that the contract of `tangent` permits are equal: it names the definition, beside the bound.
pub tangent_determined : Determined tangent-contract.Post
tangent_determined κ a s s' r r' p q = p.0 ∙ sym q.0

-- ---- before request P7: the bounds were 2 ^ -40 and 2 ^ -38, and the limit 3/2

tighter : arctangent_bound ≼ over 1 (2 ^ 40)
tighter = (over-≼ 1 (2 ^ 46) 1 (2 ^ 40)).1 (lit≤ tt)

tighter_back : tangent_bound ≼ over 1 (2 ^ 38)
tighter_back = (over-≼ 1 (2 ^ 44) 1 (2 ^ 38)).1 (lit≤ tt)

angle_still : {s : Bool} {a : Fraction} {r : Float} → Angle s a r → AngleBy (over 1 (2 ^ 40)) s a r
angle_still h = record { number = h.number; within = within_wider (over_proper 1 (2 ^ 46) (lit≤ tt)) tighter h.within }

arctangent_still : (x : Float) → T (fits binary64 x) → ArctangentBy (over 1 (2 ^ 40)) x (arctangent x)
arctangent_still nan f = arctangent_near nan f
arctangent_still (inf s) f = angle_still (arctangent_near (inf s) f)
arctangent_still (fin s m e) f = angle_still (arctangent_near (fin s m e) f)

answered_still : (s : Bool) (a : Fraction) (r : Option Float) → Answered true s a r → AnsweredBy (over 1 (2 ^ 38)) true s a r
answered_still s a (Some t) h = record { number = h.number; side = h.side; within = within_wider (over_proper 1 (2 ^ 44) (lit≤ tt)) tighter_back h.within }
answered_still s a None h = h

tangent_still : (theta : Float) → T (fits binary64 theta) → (PastBy (over 3 2) theta → ⊥) → TangentBy (over 3 2) (over 1 (2 ^ 38)) theta (tangent theta)
tangent_still nan f h = tangent_near nan f
tangent_still (inf s) f h = tangent_near (inf s) f
tangent_still (fin s m e) f h = go (≼-or-≺ a (over 3 2))
  where
    a : Fraction
    a = over (m * up e) (down e)

    r : Option Float
    r = tangent (fin s m e)

    go : (a ≼ over 3 2) ⊎ (over 3 2 ≺ a) → TangentBy (over 3 2) (over 1 (2 ^ 38)) (fin s m e) r
    go (inl k) =
        let up_to_lem = ≼_trans (over_proper 3 2 (lit≤ tt)) k ((over-≼ 3 2 99 64).1 (lit≤ tt)) in
        subst (λ (t : Bool). AnsweredBy (over 1 (2 ^ 38)) t s a r) (sym (at_most_lem k))
        (answered_still s a r (subst (λ (t : Bool). Answered t s a r) (at_most_lem up_to_lem) (tangent_near (fin s m e) f)))
    go (inr k) = absurd (h k)

-- What was promised then is kept: the arctangent of every f64 meets its old bound, and every theta that wasn't refused then is answered still, within the
-- old bound; a NaN and the infinities as before.
pub wider :
    ((x : Float) → T (fits binary64 x) → ArctangentBy (over 1 (2 ^ 40)) x (arctangent x))
    × ((theta : Float) → T (fits binary64 theta) → (PastBy (over 3 2) theta → ⊥) → TangentBy (over 3 2) (over 1 (2 ^ 38)) theta (tangent theta))
wider = (arctangent_still, tangent_still)
