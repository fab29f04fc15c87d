-- `little_endian::half` meets its contract. Assumes nothing.
use Rattle.std.proofs.Common.{◌^◌, ◌≤◌, length, drop, arith, ◌∙◌}
use native.Mathlib.Nat.{pow-le-pow_right}
use Rattle.std.proofs.lemmas.List.{take_rest, length-drop}
use Rattle.little_endian.proofs.Reading.{half_is, past}
use Rattle.little_endian.proofs.half.Goals as goal

pub overflow_cast-result : goal.overflow_cast-result
overflow_cast-result c =
    let more : 256 ^ length (drop c.args.at c.args.bytes.now) ≤ 256 ^ 3 = pow-le-pow_right (omega arith) {j = 3} (omega (arith, length-drop c.args.at c.args.bytes.now, c.in-Some.ensures.lookup.0.3, c.in-None.ensures.cases)) in
    record { fits = omega (arith, more, c.last.ensures.1) }

pub returns-in-Some-first_chunk : goal.returns-in-Some-first_chunk
returns-in-Some-first_chunk c =
    half_is c.args.bytes.now c.args.at c.in-Some.rest.now c.in-Some-first_chunk.four.now _ (c.in-Some.ensures.lookup.0.2 ∙ take_rest c.args.bytes.now c.args.at) c.in-Some-first_chunk.ensures.cases c.from_le_bytes.ensures

pub returns-in_default : goal.returns-in_default
returns-in_default c = past 4 c.args.bytes.now c.args.at (omega (arith, c.in_default.ensures.lookup))
