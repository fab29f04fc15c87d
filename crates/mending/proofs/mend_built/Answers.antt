-- `mending::mend_built` meets its contract. Assumes nothing.
use mathlib.Core.Path.{sym, ap, subst, ◌∙◌}
use Rattle.std.proofs.Common.{Result}
use Rattle.lens.specs.declared.Refusal.{Refusal}
use Rattle.put_text.specs.Placed.{written, with_text}
use Rattle.listing.specs.Read.{lines}
use Rattle.printer.specs.Made.{told_built, HasRoom, held}
use Rattle.printer.specs.declared.Built.{Built}
use Rattle.mending.specs.Texts.{mended_text}
use Rattle.mending.proofs.Asked.{refusal_put}
use Rattle.mending.proofs.mend_built.Goals as goal

pub mend_table-requires : goal.mend_table-requires
mend_table-requires c =
    record {
      sized = subst (λ (b : Result Built Refusal). HasRoom (told_built b)) c.in-Ok.is c.requires.has_room;
      table_len = c.requires.table_len;
    }

pub returns-in-Err : goal.returns-in-Err
returns-in-Err c =
    c.refused_line.ensures
    ∙ refusal_put c.in-Err.refusal c.args.out.now c.requires.table_len.1
    ∙ ap (λ (b : Result Built Refusal). with_text (written c.args.out.now 0) (mended_text (held (told_built b) c.args.table.now) (lines c.args.text.now))) (sym c.in-Err.is)

pub returns-in-Ok : goal.returns-in-Ok
returns-in-Ok c =
    c.mend_table.ensures
    ∙ ap (λ (b : Result Built Refusal). with_text (written c.args.out.now 0) (mended_text (held (told_built b) c.args.table.now) (lines c.args.text.now))) (sym c.in-Ok.is)
