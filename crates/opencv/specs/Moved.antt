-- A camera moved from our text to OpenCV's and back, with the refusals (docs/RULES.md, 24). Numbers are bit patterns.
-- Definitions only.
use Rattle.std.specs.Prelude.{◌≡◌, Bool, not, cond, ◌&&◌, ◌||◌, List, [], ◌∷◌, ℕ, eqb, ltb, length, get_or, drop}
use Rattle.std.specs.Float.Ieee.Scale.{finite}
use Rattle.exact.specs.F64.{f64, is_zero}
use Rattle.decimal.specs.Text.{all}
use Rattle.lens.specs.Refusal.{number}
use Rattle.lens.specs.declared.Refusal.TheVariants.{NotTheForm}
use Rattle.lens.specs.Rows.{Row, ◌when◌, first}
use Rattle.listing_lines.specs.Line.{refused_line}
use Rattle.params_line.specs.Params.{params_of}
use Rattle.put_text.specs.Placed.{Written, written, with_text}
use Rattle.opencv.specs.Text.{Lines, ours, theirs, text_of, Form, are_theirs, is_lines, lines_of}
use Rattle.opencv.specs.declared.Twelve.{Twelve}

-- a number, and neither a NaN nor an infinity; a zero of either sign
abbrev pub finite_bits : ℕ → Bool
finite_bits bits = finite (f64 bits)

abbrev pub zero_bits : ℕ → Bool
zero_bits bits = is_zero (f64 bits)

-- 1.0
abbrev pub one : ℕ
one = 0x3ff0_0000_0000_0000

-- ---- which number stands where

-- ours
unfoldable pub of_ours : List ℕ → Twelve
of_ours p =
    record {
      fx = get_or p 0 0;
      fy = get_or p 1 0;
      cx = get_or p 2 0;
      cy = get_or p 3 0;
      k1 = get_or p 4 0;
      k2 = get_or p 5 0;
      p1 = get_or p 6 0;
      p2 = get_or p 7 0;
      k3 = get_or p 8 0;
      k4 = get_or p 9 0;
      k5 = get_or p 10 0;
      k6 = get_or p 11 0;
    }

unfoldable pub our_params : Twelve → List ℕ
our_params n =
    n.fx ∷ n.fy ∷ n.cx ∷ n.cy ∷ n.k1 ∷ n.k2 ∷ n.p1 ∷ n.p2 ∷ n.k3 ∷ n.k4 ∷ n.k5 ∷ n.k6 ∷ []

-- theirs; a coefficient that isn't there is +0
unfoldable pub of_theirs : List ℕ → List ℕ → Twelve
of_theirs m c =
    record {
      fx = get_or m 0 0;
      cx = get_or m 2 0;
      fy = get_or m 4 0;
      cy = get_or m 5 0;
      k1 = get_or c 0 0;
      k2 = get_or c 1 0;
      p1 = get_or c 2 0;
      p2 = get_or c 3 0;
      k3 = get_or c 4 0;
      k4 = get_or c 5 0;
      k5 = get_or c 6 0;
      k6 = get_or c 7 0;
    }

unfoldable pub their_matrix : Twelve → List ℕ
their_matrix n =
    n.fx ∷ 0 ∷ n.cx
    ∷ 0 ∷ n.fy ∷ n.cy
    ∷ 0 ∷ 0 ∷ one ∷ []

unfoldable pub their_coeffs : Twelve → List ℕ
their_coeffs n = n.k1 ∷ n.k2 ∷ n.p1 ∷ n.p2 ∷ n.k3 ∷ n.k4 ∷ n.k5 ∷ n.k6 ∷ []

-- ---- the refusals: rows in the order they are tried

-- 17 for all but these: zeros for the skew and the lower entries of the matrix, and 1 last
unfoldable pub fixed : List ℕ → Bool
fixed m =
    zero_bits (get_or m 1 0) && (zero_bits (get_or m 3 0) && (zero_bits (get_or m 6 0) && (zero_bits (get_or m 7 0)
    && eqb (get_or m 8 0) one)))

-- 4, 5, 8, 12 or 14 coefficients
unfoldable pub counted : ℕ → Bool
counted n = eqb n 4 || (eqb n 5 || (eqb n 8 || (eqb n 12 || eqb n 14)))

-- a matrix of nine, and coefficients of which those past the eighth are zeros
unfoldable pub plain : List ℕ → List ℕ → Bool
plain m c = (eqb (length m) 9 && fixed m) && (counted (length c) && all zero_bits (drop 8 c))

unfoldable pub number_rows : Twelve → List Row
number_rows n =
    (4 when not (all finite_bits (our_params n)))
    ∷ (5 when (zero_bits n.fx || zero_bits n.fy)) ∷ []

abbrev pub rows : Lines → List Row
rows (ours p) = (3 when not (eqb (length p) 12)) ∷ number_rows (of_ours p)
rows (theirs m c) = (17 when not (plain m c)) ∷ number_rows (of_theirs m c)

abbrev pub text_rows : List ℕ → List Row
text_rows text = (14 when not (is_lines text)) ∷ rows (lines_of text)

-- lines of the form that meet none of them
pub record Taken (lines : Lines) : Type 0 where
  pub form : Form lines
  pub none : first (rows lines) ≡ 0

-- ---- the answer

-- the same camera as the other side writes it
abbrev pub other : Lines → Lines
other (ours p) = theirs (their_matrix (of_ours p)) (their_coeffs (of_ours p))
other (theirs m c) = ours (our_params (of_theirs m c))

-- the line with the number of the first row that holds; where none does, the text
abbrev pub by_rows : ℕ → List ℕ → List ℕ
by_rows number text = cond (eqb number 0) text (refused_line number)

abbrev pub moved : Lines → List ℕ
moved lines = by_rows (first (rows lines)) (text_of (other lines))

-- what two lines give, of which the first may be a matrix line and the second a coeffs line
abbrev pub lines_moved : List ℕ → List ℕ → List ℕ
lines_moved line next =
    cond (are_theirs line next) (moved (theirs (params_of line) (params_of next))) (refused_line (number NotTheForm))

-- what a text gives
unfoldable pub answered : List ℕ → List ℕ
answered text = by_rows (first (text_rows text)) (text_of (other (lines_of text)))

-- room for every answer
abbrev pub most : ℕ
most = 303

-- what `convert` makes of a buffer, and how many bytes it writes: all at its start, or none where there is no room for
-- the most
abbrev pub converted : List ℕ → List ℕ → Written
converted text out = cond (ltb (length out) most) (written out 0) (with_text (written out 0) (answered text))
