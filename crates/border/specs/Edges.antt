-- The edges of the points found on the border, and the region of the table. Definitions only.
use Rattle.std.specs.Prelude.{cond, ℕ, eqb, Float}
use Rattle.std.specs.Float.Ieee.{lt}
use Rattle.exact.specs.F64.{f64, ◌⊕◌, ◌⊖◌, ◌⊘◌}
use Rattle.lens.specs.declared.Point.{Point}
use Rattle.region.specs.Region.{range}
use Rattle.region.specs.declared.Region.{Region}

-- ---- the edges

-- an edge moves to x only if x is beyond it: of equal ones the first met is kept
abbrev pub lowered : Float → Float → Float
lowered edge x = cond (lt x edge) x edge

abbrev pub raised : Float → Float → Float
raised edge x = cond (lt edge x) x edge

unfoldable pub widened : Region → Point → Region
widened edges point = record {
  left = lowered edges.left point.0;
  top = lowered edges.top point.1;
  right = raised edges.right point.0;
  bottom = raised edges.bottom point.1;
}

-- the first point is all four
unfoldable pub edges_after : ℕ → Region → Point → Region
edges_after done edges point =
    cond (eqb done 0)
    record { left = point.0; top = point.1; right = point.0; bottom = point.1 }
    (widened edges point)

-- ---- the region: mid ± range, twice as wide as the edges

abbrev pub two : Float
two = f64 0x4000_0000_0000_0000

abbrev pub mid : Float → Float → Float
mid lo hi = (lo ⊕ hi) ⊘ two

unfoldable pub doubled : Region → Region
doubled edges = record {
  left = mid edges.left edges.right ⊖ range edges.left edges.right;
  top = mid edges.top edges.bottom ⊖ range edges.top edges.bottom;
  right = mid edges.left edges.right ⊕ range edges.left edges.right;
  bottom = mid edges.top edges.bottom ⊕ range edges.top edges.bottom;
}
