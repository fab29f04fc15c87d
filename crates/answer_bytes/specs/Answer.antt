-- The four operations over bytes, each as what is handed in and the buffer lent, and the number and the buffer that
-- come back. Definitions only.
use Rattle.camera.specs.Camera.{told_jacobian}
use Rattle.camera.specs.Camera.{Differentiated}
use Rattle.std.specs.Prelude.{List, [], ◌∷◌, ◌++◌, ℕ, ◌+◌, ◌*◌, Float, Result, Ok, Err}
use Rattle.camera.specs.declared.Camera.{Camera}
use Rattle.lens.specs.declared.Refusal.{Refusal}
use Rattle.little_endian.specs.Bytes.{bytes, floats}
use Rattle.lens.specs.Distorted.{ToldPixel, told_pixel}
use Rattle.lens.specs.Jacobian.{entries}
use Rattle.lens.specs.Undistorted.{Told, told}
use Rattle.lens.specs.Distorted.{Distorted}
use Rattle.lens.specs.declared.Jacobian.{Jacobian}
use Rattle.lens.specs.declared.Pixel.{Pixel}
use Rattle.lens.specs.declared.Point.{Point}
use Rattle.lens.specs.declared.Settled.{Settled}
use Rattle.lens.specs.Undistorted.{Undistorted}
use Rattle.camera.specs.Camera.{distort, undistort, dx_distort_x, dx_distort_params}
use Rattle.camera_bytes.specs.Reading.{read}
use Rattle.given.specs.Given.{Given, flag_number, answered}

-- ---- an answer's bytes

-- u, v
abbrev pub pixel_bytes : Pixel → List ℕ
pixel_bytes pixel = floats (pixel.0 ∷ pixel.1 ∷ [])

-- x, y; the updates in four bytes, the flag in one, three zeros
abbrev pub point_bytes : Settled → List ℕ
point_bytes settled =
    floats (settled.point.0 ∷ settled.point.1 ∷ []) ++ bytes 4 settled.updates
    ++ flag_number settled.flag ∷ 0 ∷ 0 ∷ 0 ∷ []

-- the entries row by row, the columns
abbrev pub jacobian_bytes : Jacobian → List ℕ
jacobian_bytes jacobian = floats jacobian.entries ++ bytes 8 jacobian.columns

-- the columns stand behind so many bytes, and end it
abbrev pub columns_place : ℕ
columns_place = 8 * entries

abbrev pub jacobian_length : ℕ
jacobian_length = columns_place + 8

-- ---- an answer and its number, before a lent buffer of 16 bytes, of 24, or of a Jacobian's

abbrev pub give_pixel : ℕ → Pixel → List ℕ → Given
give_pixel number pixel lent = answered 16 number (pixel_bytes pixel) lent

abbrev pub give_point : ℕ → Settled → List ℕ → Given
give_point number settled lent = answered 24 number (point_bytes settled) lent

abbrev pub give_jacobian : Differentiated → List ℕ → Given
give_jacobian d lent =
    let t = told_jacobian d in
    answered jacobian_length t.number (jacobian_bytes t.jacobian) lent

-- ---- the camera's operation, or why there is no camera

abbrev pub distorted : Result Camera Refusal → Point → Distorted
distorted (Ok camera) point = distort camera point
distorted (Err refusal) point = Err refusal

abbrev pub undistorted : Result Camera Refusal → Pixel → Undistorted
undistorted (Ok camera) pixel = undistort camera pixel
undistorted (Err refusal) pixel = Err refusal

abbrev pub slopes : Result Camera Refusal → Point → Differentiated
slopes (Ok camera) point = dx_distort_x camera point
slopes (Err refusal) point = Err refusal

abbrev pub parameter_slopes : Result Camera Refusal → Point → Differentiated
parameter_slopes (Ok camera) point = dx_distort_params camera point
parameter_slopes (Err refusal) point = Err refusal

-- ---- the functions

-- of what distort and undistort tell
abbrev pub given_pixel : ToldPixel → List ℕ → Given
given_pixel t lent = give_pixel t.number t.pixel lent

abbrev pub given_point : Told → List ℕ → Given
given_point t lent = give_point t.number t.settled lent

unfoldable pub distort_bytes : ℕ → List ℕ → Float → Float → List ℕ → Given
distort_bytes model params x y lent =
    given_pixel (told_pixel (distorted (read model params) record { 0 = x; 1 = y })) lent

unfoldable pub undistort_bytes : ℕ → List ℕ → Float → Float → List ℕ → Given
undistort_bytes model params u v lent =
    given_point (told (undistorted (read model params) record { 0 = u; 1 = v })) lent

unfoldable pub dx_distort_x_bytes : ℕ → List ℕ → Float → Float → List ℕ → Given
dx_distort_x_bytes model params x y lent = give_jacobian (slopes (read model params) record { 0 = x; 1 = y }) lent

unfoldable pub dx_distort_params_bytes : ℕ → List ℕ → Float → Float → List ℕ → Given
dx_distort_params_bytes model params x y lent =
    give_jacobian (parameter_slopes (read model params) record { 0 = x; 1 = y }) lent
