-- `camera_file::cut` meets its contract. Assumes nothing.
use Rattle.camera_file.proofs.Bytes.{first_is, rest_is, no_first, no_rest}
use Rattle.camera_file.proofs.cut.Goals as goal

pub returns-then-end-text-clause-first : goal.returns-then-end-text-clause-first
returns-then-end-text-clause-first c = first_is _ _ _ c.place-end.ensures

pub returns-then-end-text-clause-rest : goal.returns-then-end-text-clause-rest
returns-then-end-text-clause-rest c = rest_is _ _ _ c.place-end.ensures

pub returns-else-end-text-clause-first : goal.returns-else-end-text-clause-first
returns-else-end-text-clause-first c = no_first _ _ _ c.place-end.ensures c.if-end-text.false

pub returns-else-end-text-clause-rest : goal.returns-else-end-text-clause-rest
returns-else-end-text-clause-rest c = no_rest _ _ _ c.place-end.ensures c.if-end-text.false
