-- What a caller may rely on, of the definitions of specs/ and of the contracts of src/. Assumes nothing.
use mathlib.Core.Path.{◌≡◌, sym, ◌∙◌}
use mathlib.Core.Bool.{true}
use mathlib.Core.List.{List}
use Prim.Native.Nat.{ℕ, ◌≤◌}
use lib.ListN.{length}
use Rattle.exact.specs.Determined.{Determined, DeterminedWith}
use Rattle.decimal.specs.Text.{all}
use Rattle.put_text.proofs.Laws.{both}
use Rattle.params_line.specs.Params.{pattern, word_line, is_line, params_of}
use Rattle.params_line.proofs.Written.{line_there, line_back, line_patterns, line_some}
use Rattle.params_line.proofs.at.Reads as at-contract
use Rattle.params_line.proofs.bits_at.Reads as bits-at-contract
use Rattle.params_line.proofs.is_line.Reads as is-line-contract
use Rattle.params_line.proofs.many.Reads as many-contract
use Rattle.params_line.proofs.put_line.Reads as put-line-contract

-- ---- reading and writing

-- A line of any word of six letters that is written and read gives the same patterns.
pub line_written :
    (word : List ℕ) → length word ≡ 6 → (numbers : List ℕ) → 1 ≤ length numbers → all pattern numbers ≡ true
    → (is_line word (word_line word numbers) ≡ true) × (params_of (word_line word numbers) ≡ numbers)
line_written = line_there

-- A text that is read as a line of a word is what is written of its patterns, of which there is one or more, each of an
-- f64.
pub line_read :
    (word line : List ℕ) → is_line word line ≡ true
    → (line ≡ word_line word (params_of line)) × (1 ≤ length (params_of line)) × (all pattern (params_of line) ≡ true)
line_read word line e = (line_back word line e, line_some word line e, line_patterns word line e)

-- ---- each contract permits one answer

-- Any two answers to one call that the contract of `many` permits are equal; and so for `is_line`, `bits_at` and `at`.
pub many_determined : Determined many-contract.Post
many_determined κ a s s' r r' p q = p ∙ sym q

pub is_line_determined : Determined is-line-contract.Post
is_line_determined κ a s s' r r' p q = p ∙ sym q

pub bits_at_determined : Determined bits-at-contract.Post
bits_at_determined κ a s s' r r' p q = p ∙ sym q

pub at_determined : Determined at-contract.Post
at_determined κ a s s' r r' p q = p ∙ sym q

-- The same of `put_line`, with what the buffer then holds.
pub put_line_determined : DeterminedWith put-line-contract.Post (λ κ s. s.0.now)
put_line_determined κ a s s' r r' p q = both (p ∙ sym q)
