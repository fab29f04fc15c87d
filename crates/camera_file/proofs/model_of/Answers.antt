-- `camera_file::model_of` meets its contract: each name is compared in turn. Assumes nothing.
use Rattle.camera_file.proofs.Models.{told, is_affine, is_eucm, is_kb, is_bc, is_bc12, is_none}
use Rattle.camera_file.proofs.model_of.Goals as goal

pub returns-then-eq : goal.returns-then-eq
returns-then-eq c = is_affine _ (told _ c.as_slice.ensures c.eq.ensures c.if-eq.true)

pub returns-then-eq-2 : goal.returns-then-eq-2
returns-then-eq-2 c =
    is_eucm _
    (told _ c.as_slice.ensures c.eq.ensures c.if-eq.false)
    (told _ c.as_slice-else-eq.ensures c.eq-else-eq.ensures c.if-eq-2.true)

pub returns-then-eq-3 : goal.returns-then-eq-3
returns-then-eq-3 c =
    is_kb _
    (told _ c.as_slice.ensures c.eq.ensures c.if-eq.false)
    (told _ c.as_slice-else-eq.ensures c.eq-else-eq.ensures c.if-eq-2.false)
    (told _ c.as_slice-else-eq-2.ensures c.eq-else-eq-2.ensures c.if-eq-3.true)

pub returns-then-eq-4 : goal.returns-then-eq-4
returns-then-eq-4 c =
    is_bc _
    (told _ c.as_slice.ensures c.eq.ensures c.if-eq.false)
    (told _ c.as_slice-else-eq.ensures c.eq-else-eq.ensures c.if-eq-2.false)
    (told _ c.as_slice-else-eq-2.ensures c.eq-else-eq-2.ensures c.if-eq-3.false)
    (told _ c.as_slice-else-eq-3.ensures c.eq-else-eq-3.ensures c.if-eq-4.true)

pub returns-then-eq-5 : goal.returns-then-eq-5
returns-then-eq-5 c =
    is_bc12 _
    (told _ c.as_slice.ensures c.eq.ensures c.if-eq.false)
    (told _ c.as_slice-else-eq.ensures c.eq-else-eq.ensures c.if-eq-2.false)
    (told _ c.as_slice-else-eq-2.ensures c.eq-else-eq-2.ensures c.if-eq-3.false)
    (told _ c.as_slice-else-eq-3.ensures c.eq-else-eq-3.ensures c.if-eq-4.false)
    (told _ c.as_slice-else-eq-4.ensures c.eq-else-eq-4.ensures c.if-eq-5.true)

pub returns-else-eq-5 : goal.returns-else-eq-5
returns-else-eq-5 c =
    is_none _
    (told _ c.as_slice.ensures c.eq.ensures c.if-eq.false)
    (told _ c.as_slice-else-eq.ensures c.eq-else-eq.ensures c.if-eq-2.false)
    (told _ c.as_slice-else-eq-2.ensures c.eq-else-eq-2.ensures c.if-eq-3.false)
    (told _ c.as_slice-else-eq-3.ensures c.eq-else-eq-3.ensures c.if-eq-4.false)
    (told _ c.as_slice-else-eq-4.ensures c.eq-else-eq-4.ensures c.if-eq-5.false)
