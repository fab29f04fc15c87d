-- `mending::mend` meets its contract. Assumes nothing.
use mathlib.Core.Path.{sym, ap, ◌∙◌}
use Rattle.put_text.specs.Placed.{written, with_text}
use Rattle.mending.proofs.Asked.{built_mended, no_room, all_put, counts}
use Rattle.mending.proofs.mend.Goals as goal

pub returns-then-out-lt-OUTPUT : goal.returns-then-out-lt-OUTPUT
returns-then-out-lt-OUTPUT c =
    let e = no_room c.args.input.now c.args.text.now c.args.out.now c.if-out-lt-OUTPUT.true in
    record { result_after = e; prefix_len = counts c.args.input.now c.args.text.now c.args.out.now _ _ e }

pub slice_bounds-mend_built-end : goal.slice_bounds-mend_built-end
slice_bounds-mend_built-end c = sym c.build-built.ensures.room_len

pub mend_built-requires : goal.mend_built-requires
mend_built-requires c = record {
  has_room = c.build-built.ensures.has_room;
  table_len = (c.build-built.ensures.room_len, c.if-out-lt-OUTPUT.false);
}

pub returns : goal.returns
returns c =
    let e =
    c.mend_built.ensures
    ∙ ap (with_text (written c.args.out.now 0)) (built_mended c.args.input.now c.args.text.now _ _ c.build-built.ensures.room_after)
    ∙ all_put c.args.input.now c.args.text.now c.args.out.now c.if-out-lt-OUTPUT.false in
    record { result_after = e; prefix_len = counts c.args.input.now c.args.text.now c.args.out.now _ _ e }
