-- The lookup over bytes: what is handed in and the buffer lent, and the number and the buffer that come back.
-- Definitions only.
use Rattle.std.specs.Prelude.{List, ℕ, eqb, Float, length}
use Rattle.answer_bytes.specs.Answer.{give_pixel}
use Rattle.given.specs.Given.{Given, code}
use Rattle.lens.specs.Distorted.{told_pixel}
use Rattle.lookup.specs.Lookup.{lookup}
use Rattle.region_bytes.specs.Box.{box_at}

-- the region is of 32 bytes; 7 if it has another length, and the lowest refusal is told
unfoldable pub lookup_bytes : List Float → List ℕ → ℕ → ℕ → Float → Float → List ℕ → Given
lookup_bytes table region width height x y lent =
    let t = told_pixel (lookup table (box_at region 0) width height record { 0 = x; 1 = y }) in
    give_pixel (code t.number (eqb (length region) 32)) t.pixel lent
