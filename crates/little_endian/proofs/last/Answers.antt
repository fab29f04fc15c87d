-- `little_endian::last` meets its contract. Assumes nothing.
use Rattle.std.proofs.Common.{arith, drop, ◌∙◌}
use Rattle.std.proofs.lemmas.Iterator.Adapters.{YieldsList-from_rev_slice}
use Rattle.std.proofs.lemmas.Iterator.Consumers.{YieldsList-turn, YieldsList-end}
use Rattle.std.proofs.lemmas.List.{length_push, length-reverse, take_rest}
use Rattle.little_endian.proofs.Reading.{none_read, few, each, room, next_read, all_read}
use Rattle.little_endian.proofs.last.Goals as goal

pub loop-byte-init : goal.loop-byte-init
loop-byte-init c = (none_read _, tt, tt)

pub overflow_mul-number : goal.overflow_mul-number
overflow_mul-number c =
    let t = YieldsList-turn (YieldsList-from_rev_slice (drop c.args.at c.args.bytes.now) (cc (take_rest c.args.bytes.now c.args.at))) c.loop-byte.yielded _ c.loop-byte.yielded_by _ _ c.in-Some.byte c.in-Some.is c.next.ensures.steps in
    record { fits = omega (arith, room _ (each _ _ c.type_inv.bytes) (few _ _ c.requires) _ _ _ c.loop-byte.invariant.0 t) }

pub overflow_add-number : goal.overflow_add-number
overflow_add-number c =
    let t = YieldsList-turn (YieldsList-from_rev_slice (drop c.args.at c.args.bytes.now) (cc (take_rest c.args.bytes.now c.args.at))) c.loop-byte.yielded _ c.loop-byte.yielded_by _ _ c.in-Some.byte c.in-Some.is c.next.ensures.steps in
    record { fits = room _ (each _ _ c.type_inv.bytes) (few _ _ c.requires) _ _ _ c.loop-byte.invariant.0 t }

pub loop-byte-preserved : goal.loop-byte-preserved
loop-byte-preserved c =
    let t = YieldsList-turn (YieldsList-from_rev_slice (drop c.args.at c.args.bytes.now) (cc (take_rest c.args.bytes.now c.args.at))) c.loop-byte.yielded _ c.loop-byte.yielded_by _ _ c.in-Some.byte c.in-Some.is c.next.ensures.steps in
    (rw (length_push c.loop-byte.yielded c.in-Some.byte) (next_read _ (each _ _ c.type_inv.bytes) (few _ _ c.requires) _ _ _ c.loop-byte.invariant.0 t), tt, tt)

pub returns : goal.returns
returns c =
    let e = YieldsList-end (YieldsList-from_rev_slice (drop c.args.at c.args.bytes.now) (cc (take_rest c.args.bytes.now c.args.at))) c.loop-byte.yielded _ c.loop-byte.yielded_by _ _ c.in-None.is c.next.ensures.steps in
    all_read _ _ _ c.loop-byte.invariant.0 (e.1 ∙ length-reverse (drop c.args.at c.args.bytes.now))
