-- `little_endian::write_eight` meets its contract. Assumes nothing.
use mathlib.Core.Path.{◌∙◌, sym}
use Rattle.little_endian.specs.Bytes.{bytes}
use Rattle.little_endian.proofs.Writing.{length_bytes, written, eight_bytes}
use Rattle.little_endian.proofs.write_eight.Goals as goal

pub returns : goal.returns
returns c =
    written c.args.at 8 (bytes 8 c.args.number) _ c.args.out.now (c.copy_from_slice.ensures.after ∙ c.to_le_bytes.ensures ∙ eight_bytes c.args.number) (sym (length_bytes 8 c.args.number)) c.requires
