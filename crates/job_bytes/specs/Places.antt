-- Where each part of a record stands: one behind the other, with room for the parameters of any model. Definitions
-- only.
use Rattle.std.specs.Prelude.{ℕ, ◌+◌, ◌*◌, ◌/◌}
use Rattle.camera.specs.Numbers.{most}

-- the model, 4 bytes, stands at 0

-- the updates, 4 bytes
abbrev pub updates_place : ℕ
updates_place = 4

-- the parameters, 8 bytes each, as many as any model has
abbrev pub params_place : ℕ
params_place = 8

-- width and height, 4 bytes each
abbrev pub width_place : ℕ
width_place = params_place + 8 * most

abbrev pub height_place : ℕ
height_place = width_place + 4

-- the units done, 8 bytes
abbrev pub done_place : ℕ
done_place = height_place + 4

-- the edges, then the region: left, top, right, bottom, 8 bytes each
abbrev pub edges_place : ℕ
edges_place = done_place + 8

abbrev pub region_place : ℕ
region_place = edges_place + 32

-- how many samples didn't settle, and which was the first, 4 bytes each
abbrev pub unsettled_place : ℕ
unsettled_place = region_place + 32

abbrev pub first_place : ℕ
first_place = unsettled_place + 4

-- the strict mark, 8 bytes: 0 or 1
abbrev pub mark_place : ℕ
mark_place = first_place + 4

-- the check word, 8 bytes (specs/Check), of as many words as stand before it
abbrev pub check_place : ℕ
check_place = mark_place + 8

abbrev pub summed : ℕ
summed = check_place / 8

-- how many bytes a record has
abbrev pub record_length : ℕ
record_length = check_place + 8

-- and had while no model had more than twelve parameters
abbrev pub length_before : ℕ
length_before = 208
