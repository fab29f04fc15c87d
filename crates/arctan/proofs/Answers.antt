-- The tangent owes what specs/Owed.antt says (`tangent_near`): below 2 ^ -20 the angle itself, up to the limit a guess that passed its test or what Newton's steps found, and past it a refusal. Assumes nothing.
use Rattle.std.proofs.Common.{◌≡◌, ℕ, zero, suc, ◌*◌, ◌^◌, Bool, true, false, cond, not, T, ℤ, sym, refl, ◌∙◌, subst, true≢false, lit≤}
use mathlib.Core.Bool.{false≢true}
use lib.Ieee.{Float, nan, inf, fin, binary64, up, down, fits, lt, le, neg, of_bits}
use lib.Ieee.Fits.{div-fits}
use lib.Ieee.Scale.{finite}
use Rattle.exact.specs.F64.{magnitude, ◌⊘◌}
use Rattle.exact.specs.Fraction.{Fraction, over, signed, exactly, ◌≼◌, ◌≺◌}
use Rattle.exact.proofs.Fractions.{over_proper, ≼_trans, ≺→≼, opposite_opposite, exactly_neg, within_sym, within_wider}
use Rattle.exact.proofs.Operations.{neg_finite}
use Rattle.exact.proofs.Tests.{below_zero, plus_not_below}
use Rattle.arctan.specs.Arctangent.{tiny}
use Rattle.arctan.specs.Series.{at_most, limit}
use Rattle.arctan.specs.Tangent.{close, sine, cosine, Between, steep, limit_end, tangent}
use Rattle.arctan.specs.Owed.{Leads, Answered, Tangent}
use Rattle.std.specs.Prelude.{Option, Some}
use Rattle.arctan.proofs.Compared.{le_says, le_denies, below_tiny, from_tiny}
use Rattle.arctan.proofs.Pieces.{unit_proper}
use Rattle.arctan.proofs.Cases.{at_most_lem, not_at_most}
use Rattle.arctan.proofs.Near.{near_zero, zero_tiny, not_below, plus_not_negative, plus_held, at_plus}
use Rattle.arctan.proofs.Choice.{so, so_not, steep_guess, steep_solved, tangent_tiny, tangent_minus, tangent_plus, tangent_refused}
use Rattle.arctan.proofs.Tested.{bound, passed, guess_leads}
use Rattle.arctan.proofs.Solving.{solved_leads}

-- ---- of an angle from 2 ^ -20 to the limit
pub steep_leads : (theta : Float) → T (fits binary64 theta) → Between theta → Leads false (exactly theta) (steep theta)
steep_leads theta f b = of (close t theta) refl
  where
    t : Float
    t = sine theta ⊘ cosine theta

    of : (c : Bool) → close t theta ≡ c → Leads false (exactly theta) (steep theta)
    of true e = subst (λ (x : Float). Leads false (exactly theta) x) (steep_guess theta e) (guess_leads t theta b (div-fits binary64 (sine theta) (cosine theta)) (passed t theta e))
    of false e = subst (λ (x : Float). Leads false (exactly theta) x) (steep_solved theta e) (solved_leads theta f b)

-- ---- of the negative angle
turned : {a : Fraction} (t : Float) → Leads false a t → Leads true a (neg t)
turned t l = record {
  number = neg_finite t l.number;
  side = rw (exactly_neg t, opposite_opposite (exactly t)) l.side;
  within = rw (exactly_neg t, opposite_opposite (exactly t)) l.within;
}

-- ---- of a number
end_finite : T (finite limit_end)
unfolding of_bits
end_finite = tt

end_is : exactly limit_end ≡ limit
unfolding of_bits exactly
end_is = refl

tiny_limit : over 1 (2 ^ 20) ≼ limit
unfolding over
tiny_limit = record { holds = lit≤ tt }

pub between : (x : Float) → T (finite x) → T (not (lt x tiny)) → T (le x limit_end) → Between x
between x n h k = record { number = n; low = from_tiny x n h; high = rw end_is at (le_says x limit_end n end_finite k) }

-- neither a NaN nor an infinity passes both tests
pub number_between : (x : Float) → lt x tiny ≡ false → le x limit_end ≡ true → T (finite x)
unfolding lt le of_bits
number_between nan h k = absurd (false≢true k)
number_between (inf true) h k = absurd (true≢false h)
number_between (inf false) h k = absurd (false≢true k)
number_between (fin s m e) h k = tt

module _ (m : ℕ) (e : ℤ) where
  abbrev x : Float
  x = fin false m e

  abbrev a : Fraction
  a = over (m * up e) (down e)

  owes : (s : Bool) {t : Bool} (r : Option Float) → at_most a limit ≡ t → Answered t s a r → Answered (at_most a limit) s a r
  owes s r h w = subst (λ (t : Bool). Answered t s a r) (sym h) w

  up_to : T (le x limit_end) → a ≼ limit
  up_to h = rw (end_is, at_plus m e) at (le_says x limit_end tt end_finite h)

  past : T (not (le x limit_end)) → limit ≺ a
  past h = rw (end_is, at_plus m e) at (le_denies x limit_end tt end_finite h)

  small : T (lt x tiny) → a ≼ limit
  small h = ≼_trans (over_proper 1 (2 ^ 20) (lit≤ tt)) (≺→≼ (rw (at_plus m e) at (below_tiny x tt h))) tiny_limit

  same : (s : Bool) → signed s (exactly (fin s m e)) ≡ a
  unfolding exactly
  same true = opposite_opposite a
  same false = refl

  itself : (s : Bool) → T (fits binary64 x) → T (lt x tiny) → Leads s a (fin s m e)
  itself s f h = record {
    number = tt;
    side = rw (same s) (rw (at_plus m e) at (plus_not_negative m e));
    within = rw (same s) (within_wider (unit_proper 1129) bound (within_sym (rw (at_plus m e) at (near_zero x f tt (plus_not_negative m e) h).1)));
  }

  found_steep : T (fits binary64 x) → T (not (lt x tiny)) → T (le x limit_end) → Leads false a (steep x)
  found_steep f h k = rw (at_plus m e) at (steep_leads x f (between x tt h k))

-- the answer with the angle's sign; a zero is below 2 ^ -20
pub with_sign : (s : Bool) (m : ℕ) (e : ℤ) → lt (fin false m e) tiny ≡ false → le (fin false m e) limit_end ≡ true → Some (cond s (neg (steep (fin false m e))) (steep (fin false m e))) ≡ tangent (fin s m e)
unfolding magnitude
with_sign true zero e h k = absurd (true≢false (sym (zero_tiny false e) ∙ h))
with_sign true (suc m) e h k = tangent_minus (fin true (suc m) e) h k (below_zero m e)
with_sign false m e h k = tangent_plus (fin false m e) h k (not_below (fin false m e) (plus_not_below m e))

steep_owed : (s : Bool) (m : ℕ) (e : ℤ) → T (fits binary64 (fin false m e)) → lt (fin false m e) tiny ≡ false → le (fin false m e) limit_end ≡ true → Leads s (over (m * up e) (down e)) (cond s (neg (steep (fin false m e))) (steep (fin false m e)))
steep_owed true m e f h k = turned (steep (fin false m e)) (found_steep m e f (so_not h) (so k))
steep_owed false m e f h k = found_steep m e f (so_not h) (so k)

number_owed : (s : Bool) (m : ℕ) (e : ℤ) → T (fits binary64 (fin false m e)) → Tangent (fin s m e) (tangent (fin s m e))
unfolding magnitude
number_owed s m e f = of (lt x tiny) refl (le x limit_end) refl
  where
    x : Float
    x = fin false m e

    a : Fraction
    a = over (m * up e) (down e)

    r : Option Float
    r = tangent (fin s m e)

    of : (b : Bool) → lt x tiny ≡ b → (c : Bool) → le x limit_end ≡ c → Answered (at_most a limit) s a r
    of true h c k = owes m e s r (at_most_lem (small m e (so h))) (subst (λ (r : Option Float). Answered true s a r) (tangent_tiny (fin s m e) h) (itself m e s f (so h)))
    of false h true k = owes m e s r (at_most_lem (up_to m e (so k))) (subst (λ (r : Option Float). Answered true s a r) (with_sign s m e h k) (steep_owed s m e f h k))
    of false h false k = owes m e s r (not_at_most (past m e (so_not k))) (sym (tangent_refused (fin s m e) h k refl))

pub tangent_near : (theta : Float) → T (fits binary64 theta) → Tangent theta (tangent theta)
tangent_near nan f = unfold tangent magnitude lt le of_bits in refl
tangent_near (inf true) f = unfold tangent magnitude lt le of_bits in refl
tangent_near (inf false) f = unfold tangent magnitude lt le of_bits in refl
tangent_near (fin true m e) f = number_owed true m e (plus_held m e f)
tangent_near (fin false m e) f = number_owed false m e f
