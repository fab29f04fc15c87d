-- `little_endian::word` meets its contract. Assumes nothing.
use mathlib.Core.Path.{◌∙◌}
use native.Mathlib.Omega.{arith}
use Rattle.std.proofs.lemmas.List.{take_rest}
use Rattle.little_endian.proofs.Reading.{word_is, past}
use Rattle.little_endian.proofs.word.Goals as goal

pub returns-in-Some-first_chunk : goal.returns-in-Some-first_chunk
returns-in-Some-first_chunk c =
    word_is c.args.bytes.now c.args.at c.in-Some.rest.now c.in-Some-first_chunk.eight.now _ (c.in-Some.ensures.lookup.0.2 ∙ take_rest c.args.bytes.now c.args.at) c.in-Some-first_chunk.ensures.cases c.from_le_bytes.ensures

pub returns-in_default : goal.returns-in_default
returns-in_default c = past 8 c.args.bytes.now c.args.at (omega (arith, c.in_default.ensures.lookup))
