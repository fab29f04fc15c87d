-- `mending::write_mended` meets its contract. Assumes nothing.
use mathlib.Core.Path.{sym, ◌∙◌}
use native.Mathlib.Omega.{arith}
use borrow.Author.Rules.{rules}
use lib.ListN.{length}
use lib.Seq.{length-take-le}
use Rattle.mending.proofs.Whole.{is_ready, parts_matched, all_written, no_room, not_ready, counts}
use Rattle.mending.proofs.write_mended.Goals as goal

pub returns-then-out-lt-OUTPUT : goal.returns-then-out-lt-OUTPUT
returns-then-out-lt-OUTPUT c =
    let e = no_room c.args.width c.args.height c.args.updates c.args.region c.args.table.now c.args.map.now c.args.out.now c.if-out-lt-OUTPUT.true in
    record { result_after = e; prefix_len = counts c.args.width c.args.height c.args.updates c.args.region c.args.table.now c.args.map.now c.args.out.now (search rules) _ _ e }

pub returns-then-not-ready : goal.returns-then-not-ready
returns-then-not-ready c =
    let e = not_ready c.args.width c.args.height c.args.updates c.args.region c.args.table.now c.args.map.now c.args.out.now (sym c.ready.ensures ∙ c.if-not-ready.true) in
    record { result_after = e; prefix_len = counts c.args.width c.args.height c.args.updates c.args.region c.args.table.now c.args.map.now c.args.out.now (search rules) _ _ e }

pub overflow_mul-n : goal.overflow_mul-n
overflow_mul-n c = omega (arith, (is_ready c.args.width c.args.height (length c.args.table.now) (length c.args.map.now) (sym c.ready.ensures ∙ c.if-not-ready.false)).few)

pub overflow_mul-n-2 : goal.overflow_mul-n-2
overflow_mul-n-2 c = omega (arith, (is_ready c.args.width c.args.height (length c.args.table.now) (length c.args.map.now) (sym c.ready.ensures ∙ c.if-not-ready.false)).few)

pub slice_bounds-tell_lines-end : goal.slice_bounds-tell_lines-end
slice_bounds-tell_lines-end c = sym (length-take-le _ _ (is_ready c.args.width c.args.height (length c.args.table.now) (length c.args.map.now) (sym c.ready.ensures ∙ c.if-not-ready.false)).numbers_enough)

pub tell_lines-requires : goal.tell_lines-requires
tell_lines-requires c = parts_matched c.args.width c.args.height c.args.updates c.args.region c.args.table.now c.args.map.now c.args.out.now (sym c.ready.ensures ∙ c.if-not-ready.false)

pub returns : goal.returns
returns c =
    let e = c.tell_lines.ensures ∙ all_written c.args.width c.args.height c.args.updates c.args.region c.args.table.now c.args.map.now c.args.out.now (sym c.ready.ensures ∙ c.if-not-ready.false) c.if-out-lt-OUTPUT.false (search rules) in
    record { result_after = e; prefix_len = counts c.args.width c.args.height c.args.updates c.args.region c.args.table.now c.args.map.now c.args.out.now (search rules) _ _ e }
