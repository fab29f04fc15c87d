-- What a camera file asks for: a camera and a size, or a refusal: 14, then 1, then 3. Whether the camera's numbers and
-- the size are good (4, 5, 6) is judged where they are used. Definitions only.
use Rattle.std.specs.Prelude.{cond, Option, Some, None, Result, Ok, Err, List, [], ◌∷◌, ℕ, suc, eqb, length}
use Rattle.decimal.specs.Text.{same}
use Rattle.lens.specs.Constants.{zeros}
use Rattle.lens.specs.Refusal.{number}
use Rattle.lens.specs.declared.Refusal.{Refusal}
use Rattle.lens.specs.declared.Refusal.TheVariants.{UnknownModel, WrongCount, NotTheForm}
use Rattle.camera.specs.Numbers as numbers
use Rattle.camera.specs.declared.Camera.{Camera}
use Rattle.camera.specs.declared.Camera.TheVariants as cameras
use Rattle.params_line.specs.Params.{at}
use Rattle.camera_file.specs.Text.{CameraFile}
use Rattle.camera_file.specs.Reading.{read}
use Rattle.camera_file.specs.declared.Asked.{Asked}

-- ---- 1: the names `affine`, `eucm`, `kb`, `bc`, `bc12`, in the order of the models' numbers

abbrev pub affine_word : List ℕ
affine_word = 97 ∷ 102 ∷ 102 ∷ 105 ∷ 110 ∷ 101 ∷ []

abbrev pub eucm_word : List ℕ
eucm_word = 101 ∷ 117 ∷ 99 ∷ 109 ∷ []

abbrev pub kb_word : List ℕ
kb_word = 107 ∷ 98 ∷ []

abbrev pub bc_word : List ℕ
bc_word = 98 ∷ 99 ∷ []

abbrev pub bc12_word : List ℕ
bc12_word = 98 ∷ 99 ∷ 49 ∷ 50 ∷ []

abbrev pub names : List (List ℕ)
names = affine_word ∷ eucm_word ∷ kb_word ∷ bc_word ∷ bc12_word ∷ []

-- the number of a name's place among names that are numbered from n on
abbrev named_from : ℕ → List (List ℕ) → List ℕ → Option ℕ
named_from n [] name = None
named_from n (word ∷ rest) name = cond (same name word) (Some n) (named_from (suc n) rest name)

unfoldable pub model : List ℕ → Option ℕ
model name = named_from 0 names name

-- ---- 3: the model's count

abbrev pub counted : ℕ → List ℕ → Result Asked Refusal → Result Asked Refusal
counted count params answer = cond (eqb (length params) count) answer (Err WrongCount)

-- ---- the camera of its parameters, in order

abbrev pub camera_of : ℕ → List ℕ → Camera
camera_of model params = numbers.camera_of model (at params)

abbrev pub asked_of : Option ℕ → ℕ → ℕ → List ℕ → Result Asked Refusal
asked_of (Some m) width height params = counted (numbers.count m) params (Ok record { camera = camera_of m params; width = width; height = height })
asked_of None width height params = Err UnknownModel

abbrev pub asked : CameraFile → Result Asked Refusal
asked file = asked_of (model file.name) file.width file.height file.params

-- ---- a text

abbrev pub asked_if : Option CameraFile → Result Asked Refusal
asked_if None = Err NotTheForm
asked_if (Some file) = asked file

abbrev pub parsed : List ℕ → Result Asked Refusal
parsed text = asked_if (read text)

-- what a caller is told: a number with a camera and a size; a refusal's camera and size are zeros
pub record ToldFile : Type 0 where
  pub number : ℕ
  pub camera : Camera
  pub width : ℕ
  pub height : ℕ

abbrev pub blank : Camera
blank = cameras.Affine record { fx = zeros; fy = zeros; cx = zeros; cy = zeros }

abbrev pub told_file : Result Asked Refusal → ToldFile
told_file (Ok a) = record { number = 0; camera = a.camera; width = a.width; height = a.height }
told_file (Err refusal) = record { number = number refusal; camera = blank; width = 0; height = 0 }
