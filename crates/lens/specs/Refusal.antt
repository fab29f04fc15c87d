-- The number of each refusal. Definitions only.
use Rattle.std.specs.Prelude.{ℕ}
use Rattle.lens.specs.declared.Refusal.{Refusal}
use Rattle.lens.specs.declared.Refusal.TheVariants.{UnknownModel, NoParameterJacobian, WrongCount, NotFinite, ZeroFocalLength, WrongSize, WrongLength, IncrementNotPositive, OutsideTable, AngleTooLarge, AnswerNotFinite, CellInfinite, ImpossibleRecord, NotTheForm, SizesDiffer, RayNotForward, NotOurs, SampleUnsettled, TooFar}

abbrev pub number : Refusal → ℕ
number UnknownModel = 1
number NoParameterJacobian = 2
number WrongCount = 3
number NotFinite = 4
number ZeroFocalLength = 5
number WrongSize = 6
number WrongLength = 7
number IncrementNotPositive = 8
number OutsideTable = 9
number AngleTooLarge = 10
number AnswerNotFinite = 11
number CellInfinite = 12
number ImpossibleRecord = 13
number NotTheForm = 14
number SizesDiffer = 15
number RayNotForward = 16
number NotOurs = 17
number SampleUnsettled = 18
number TooFar = 19
