-- `job_bytes::whole` meets its contract. Assumes nothing.
use Rattle.std.proofs.Common.{◌≡◌, ℕ, ◌<◌, ◌≤◌, Bool, false, List, refl, arith, le-leb}
use borrow.Author.Tests.{lt-leb}
use Rattle.little_endian.specs.Bytes.{word}
use Rattle.job_bytes.specs.Places.{mark_place}
use Rattle.job_bytes.specs.Check.{intact, whole}
use Rattle.job_bytes.proofs.whole.Goals as goal

-- by what the mark is
no_mark : (bs : List ℕ) → 1 < word bs mark_place → false ≡ whole bs
no_mark bs h = rw (lt-leb (word bs mark_place) 1 h) refl

a_mark : (bs : List ℕ) {r : Bool} → word bs mark_place ≤ 1 → r ≡ intact bs → r ≡ whole bs
a_mark bs h e = rw (le-leb (word bs mark_place) 1 h) e

pub returns-then-word-gt1 : goal.returns-then-word-gt1
returns-then-word-gt1 c = no_mark c.args.bytes.now (omega (arith, c.word.ensures, c.if-word-gt1.true))

pub returns : goal.returns
returns c = a_mark c.args.bytes.now (omega (arith, c.word.ensures, c.if-word-gt1.false)) c.intact.ensures
