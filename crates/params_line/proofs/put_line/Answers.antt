-- `params_line::put_line` meets its contract. Assumes nothing.
use mathlib.Core.Bool.{not}
use mathlib.Core.Path.{ap}
use Rattle.params_line.proofs.Putting.{line_left, fields_fit, line_put}
use Rattle.params_line.proofs.put_line.Goals as goal

pub returns-then-not-has_room : goal.returns-then-not-has_room
returns-then-not-has_room c = line_left _ _ _ _ _ c.has_room.ensures (ap not c.if-not-has_room.true)

pub put_fields-requires : goal.put_fields-requires
put_fields-requires c = fields_fit _ _ _ _ _ c.has_room.ensures (ap not c.if-not-has_room.false) _ _ c.put-next.ensures

pub returns : goal.returns
returns c = line_put _ _ _ _ _ c.has_room.ensures (ap not c.if-not-has_room.false) _ _ c.put-next.ensures _ _ c.put_fields.ensures
