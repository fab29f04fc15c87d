-- The models by number, and a camera of a model's number and its numbers: the way back from `parameters`, which says in
-- which order they stand. Definitions only.
use Rattle.std.specs.Prelude.{List, [], ◌∷◌, ◌++◌, ℕ, zero, suc, Float, get_or, take, replicate}
use Rattle.std.specs.Float.{nan}
use Rattle.lens.specs.Constants.{zeros}
use Rattle.brown_conrady.specs.declared.BrownConradyParams.{BrownConradyParams}
use Rattle.camera.specs.Camera.{parameters}
use Rattle.camera.specs.declared.Camera.{Camera}
use Rattle.camera.specs.declared.Camera.TheVariants.{Affine, EnhancedUnified, KannalaBrandt, BrownConrady, ThinPrism}

-- ---- a model: how many parameters it has, and the camera whose k-th parameter is the k-th number

pub record Model : Type 0 where
  pub count : ℕ
  pub camera : (ℕ → Float) → Camera

abbrev pub affine : Model
affine = record { count = 4; camera = λ n. Affine record { fx = n 0; fy = n 1; cx = n 2; cy = n 3 } }

abbrev pub enhanced_unified : Model
enhanced_unified = record {
  count = 6;
  camera = λ n. EnhancedUnified record { fx = n 0; fy = n 1; cx = n 2; cy = n 3; alpha = n 4; beta = n 5 };
}

abbrev pub kannala_brandt : Model
kannala_brandt = record {
  count = 8;
  camera = λ n.
      KannalaBrandt record { fx = n 0; fy = n 1; cx = n 2; cy = n 3; k0 = n 4; k1 = n 5; k2 = n 6; k3 = n 7 };
}

abbrev pub brown_conrady_params : (ℕ → Float) → BrownConradyParams
brown_conrady_params n = record {
  fx = n 0;
  fy = n 1;
  cx = n 2;
  cy = n 3;
  k1 = n 4;
  k2 = n 5;
  p1 = n 6;
  p2 = n 7;
  k3 = n 8;
  k4 = n 9;
  k5 = n 10;
  k6 = n 11;
}

abbrev pub brown_conrady : Model
brown_conrady = record { count = 12; camera = λ n. BrownConrady (brown_conrady_params n) }

abbrev pub thin_prism : Model
thin_prism = record {
  count = 16;
  camera = λ n. ThinPrism record { bc = brown_conrady_params n; s1 = n 12; s2 = n 13; s3 = n 14; s4 = n 15 };
}

-- ---- the table of them: 0 affine, 1 eucm, 2 kb, 3 bc, 4 bc12

abbrev pub models : List Model
models = affine ∷ enhanced_unified ∷ kannala_brandt ∷ brown_conrady ∷ thin_prism ∷ []

-- the highest number, and the most parameters that a model has
abbrev pub last : ℕ
last = 4

abbrev pub most : ℕ
most = 16

-- the model of a number. Past the last it is the last: whoever knows numbers of none asks `last` first
abbrev pub model_of : ℕ → Model
model_of number = get_or models number thin_prism

abbrev pub count : ℕ → ℕ
count model = (model_of model).count

abbrev pub camera_of : ℕ → (ℕ → Float) → Camera
camera_of model = (model_of model).camera

abbrev pub model_number : Camera → ℕ
model_number (Affine p) = 0
model_number (EnhancedUnified p) = 1
model_number (KannalaBrandt p) = 2
model_number (BrownConrady p) = 3
model_number (ThinPrism p) = 4

-- ---- numbers in a row

-- the k-th number of an array, which has them all
abbrev pub at : List Float → ℕ → Float
at numbers k = get_or numbers k nan

-- the first of them, so many
abbrev pub first_of : ℕ → (ℕ → Float) → List Float
first_of zero n = []
first_of (suc k) n = n 0 ∷ first_of k (λ j. n (suc j))

-- a camera's parameters, and zeros up to the most that a model has
abbrev pub padded : Camera → List Float
padded camera = take most (parameters camera ++ replicate most zeros)
