-- `lookup::looked_up` meets its contract. Assumes nothing.
use Rattle.std.proofs.Common.{sym, refl, ap, ◌∙◌, ap₂}
use Rattle.lens.specs.Distorted.{finite_pixel}
use Rattle.lookup.specs.Lookup.{pixel_at}
use Rattle.lookup.proofs.Steps.{looked_up_so, inside_wide, inside_high, reaches}
use Rattle.lookup.proofs.looked_up.Goals as goal
use Rattle.lookup.proofs.looked_up.Goals.{then-outside-via-then-outside, then-outside-via-else-outside+then-outside-2}

pub returns-then-outside : goal.returns-then-outside
returns-then-outside c =
    elim c.then-outside.branch [
      | then-outside-via-then-outside w ↦ looked_up_so _ _ _ _ _ (sym w.if-outside.true ∙ c.outside.ensures) refl refl
      | then-outside-via-else-outside+then-outside-2 w ↦
          looked_up_so _ _ _ _ _ (sym w.if-outside.false ∙ c.outside.ensures) (sym w.if-outside-2.true ∙ w.outside-else-outside.ensures) refl
    ]

pub pixel_at-requires : goal.pixel_at-requires
pixel_at-requires c =
    let p = c.requires in
    let i = inside_wide p.0 _ p.1 (sym c.outside.ensures ∙ c.if-outside.false) in
    let j = inside_high p.0 _ p.2 (sym c.outside-else-outside.ensures ∙ c.if-outside-2.false) in
    rw (c.spot_of-2.ensures, c.spot_of.ensures) (reaches p.0 i j)

pub returns : goal.returns
returns c =
    let a = c.args in
    looked_up_so _ _ _ _ _
    (sym c.if-outside.false ∙ c.outside.ensures)
    (sym c.if-outside-2.false ∙ c.outside-else-outside.ensures)
    (c.finite_pixel.ensures
    ∙ ap finite_pixel (c.pixel_at.ensures ∙ ap₂ (pixel_at a.table.now a.width) c.spot_of.ensures c.spot_of-2.ensures))
