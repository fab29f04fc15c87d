-- A box read out of bytes, from a place on. Definitions only.
use Rattle.std.specs.Prelude.{List, ℕ, ◌+◌}
use Rattle.little_endian.specs.Bytes.{float}
use Rattle.region.specs.declared.Region.{Region}

abbrev pub box_at : List ℕ → ℕ → Region
box_at bs at = record {
  left = float bs at;
  top = float bs (at + 8);
  right = float bs (at + 16);
  bottom = float bs (at + 24);
}
