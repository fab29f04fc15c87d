-- `params_line::put_field` meets its contract: what is put is a tab and the digits. Assumes nothing.
use mathlib.Core.Path.{sym}
use native.Mathlib.Omega.{arith}
use lib.Seq.{length-take-le}
use Rattle.put_text.proofs.Putting.{put_same}
use Rattle.params_line.proofs.Putting.{field_long, field_made}
use Rattle.params_line.proofs.put_field.Goals as goal

pub slice_bounds-text-end : goal.slice_bounds-text-end
slice_bounds-text-end c = omega (arith, field_long _ _ _ _ _ (omega arith) c.hex-k.ensures.len c.hex-k.ensures.digits c.put-end.ensures, c.put-end.auto.out)

pub slice_bounds-put-end-3 : goal.slice_bounds-put-end-3
slice_bounds-put-end-3 c = sym (length-take-le _ _ (omega (arith, field_long _ _ _ _ _ (omega arith) c.hex-k.ensures.len c.hex-k.ensures.digits c.put-end.ensures, c.put-end.auto.out)))

pub returns : goal.returns
returns c = put_same _ _ _ _ c.put.ensures (field_made _ _ _ _ _ (omega arith) c.hex-k.ensures.len c.hex-k.ensures.digits c.put-end.ensures)
