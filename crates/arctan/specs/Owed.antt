-- What the tangent of an angle owes, in the words of the series. Definitions only.
use Rattle.std.specs.Prelude.{◌≡◌, ℕ, ◌*◌, Bool, true, false, T, Float, Option, Some, None}
use Rattle.std.specs.Float.{nan, inf, fin}
use Rattle.std.specs.Float.Ieee.{neg, up, down}
use Rattle.std.specs.Float.Ieee.Scale.{finite}
use Rattle.exact.specs.Fraction.{Fraction, Within, over, whole, signed, exactly, ◌≼◌, ◌≺◌}
use Rattle.arctan.specs.Series.{A, at_most, limit, tangent_bound}

-- the number told of an answer: 10 where there is none (docs/RULES.md, 5.1)
abbrev pub slope_number : Option Float → ℕ
slope_number (Some t) = 0
slope_number None = 10

-- theta is a number past `end` in size
abbrev pub PastBy : Fraction → Float → Type 0
PastBy end nan = ⊥
PastBy end (inf s) = ⊥
PastBy end (fin s m e) = end ≺ over (m * up e) (down e)

-- by the limit
abbrev pub Past : Float → Type 0
Past = PastBy limit

-- the slope of the negative angle
abbrev pub falling : Option Float → Option Float
falling (Some t) = Some (neg t)
falling None = None

-- t is a number that has the sign s or is zero, and A leads from its size back to within ε of the angle's, a
pub record LeadsBy (ε : Fraction) (s : Bool) (a : Fraction) (t : Float) : Type 0 where
  pub number : T (finite t)
  pub side : whole 0 ≼ signed s (exactly t)
  pub within : Within ε (A (signed s (exactly t))) a

-- by the bound
abbrev pub Leads : Bool → Fraction → Float → Type 0
Leads = LeadsBy tangent_bound

-- where an answer is owed there is such a t, and elsewhere a refusal
abbrev pub AnsweredBy : Fraction → Bool → Bool → Fraction → Option Float → Type 0
AnsweredBy ε true s a (Some t) = LeadsBy ε s a t
AnsweredBy ε true s a None = ⊥
AnsweredBy ε false s a r = r ≡ None

-- of a number up to `end` in size an answer is owed; a NaN and the infinities give NaN
abbrev pub TangentBy : Fraction → Fraction → Float → Option Float → Type 0
TangentBy end ε nan r = r ≡ Some nan
TangentBy end ε (inf s) r = r ≡ Some nan
TangentBy end ε (fin s m e) r = AnsweredBy ε (at_most (over (m * up e) (down e)) end) s (over (m * up e) (down e)) r

-- by the limit and the bound
abbrev pub Answered : Bool → Bool → Fraction → Option Float → Type 0
Answered = AnsweredBy tangent_bound

abbrev pub Tangent : Float → Option Float → Type 0
Tangent = TangentBy limit tangent_bound
