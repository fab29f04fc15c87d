-- `printer::build` meets its contract. Assumes nothing.
use mathlib.Core.Path.{sym, ap, ◌∙◌, subst}
use Rattle.std.proofs.lemmas.Result.{err_from_is_err_and}
use Rattle.printer.specs.Made.{HasRoom, InRoom, build_parsed, build}
use Rattle.printer.proofs.Ways.{has_room}
use borrow.Author.Rules.{rules}
use Rattle.printer.proofs.build.Goals as goal

pub returns : goal.returns
unfolding build
returns c =
    let a = c.args in
    let e = c.build_asked.ensures ∙ ap (build_parsed a.room.now) c.in_ok-asked.ensures in
    record {
      room_after = e;
      has_room = subst (λ (b : InRoom). HasRoom b.outcome) (sym e) (has_room a.input.now a.room.now);
      room_len = search rules;
    }

pub returns-in_err-asked-clause-room_after : goal.returns-in_err-asked-clause-room_after
unfolding build
returns-in_err-asked-clause-room_after c =
    let p = err_from_is_err_and c.from_residual.result c.from_residual.ensures.1 in
    rw (p.1, p.2) (ap (build_parsed c.args.room.now) c.in_err-asked.ensures)
