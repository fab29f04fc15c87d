-- From the parts of a call to what it hands back. Assumes nothing.
use mathlib.Core.Path.{◌≡◌, refl, ap, ap₂, ◌∙◌}
use Rattle.std.specs.declared.result.Result.{Result}
use Rattle.camera.specs.declared.Camera.{Camera}
use Rattle.lens.specs.declared.Refusal.{Refusal}
use mathlib.Core.Bool.{Bool, true, false}
use mathlib.Core.List.{List, [], ◌∷◌, ◌++◌}
use Prim.Native.Nat.{ℕ, ◌+◌, ◌*◌}
use native.Mathlib.Omega.{arith}
use lib.Ieee.{Float}
use lib.ListN.{length, length-append}
use Rattle.little_endian.specs.Bytes.{bytes, floats, put}
use Rattle.little_endian.proofs.Laws.{length_bytes, length_floats, put_whole, put_put}
use Rattle.lens.specs.Jacobian.{entries}
use Rattle.lens.specs.declared.Jacobian.{Jacobian}
use Rattle.lens.specs.declared.Settled.{Settled}
use Rattle.camera.specs.Camera.{Differentiated}
use Rattle.given.specs.Given.{Given, flag_number}
use Rattle.answer_bytes.specs.Answer.{point_bytes, jacobian_bytes, columns_place, jacobian_length, give_jacobian}

-- ---- the answers' bytes, as they are put one behind the other

pub numbers_put : (xs : List Float) (lent : List ℕ) (size : ℕ) → size ≡ 8 * length xs → length lent ≡ size → put 0 (floats xs) lent ≡ floats xs
numbers_put xs lent size s e = put_whole (floats xs) lent (omega (arith, s, e, length_floats xs))

flag_bytes : (flag : Bool) → bytes 4 (flag_number flag) ≡ flag_number flag ∷ 0 ∷ 0 ∷ 0 ∷ []
unfolding bytes
flag_bytes true = refl
flag_bytes false = refl

pub point_put :
    (s : Settled) (lent : List ℕ) →
    length lent ≡ 24 →
    put 20 (bytes 4 (flag_number s.flag)) (put 16 (bytes 4 s.updates) (put 0 (floats (s.point.0 ∷ s.point.1 ∷ [])) lent)) ≡ point_bytes s
point_put s lent e =
    let a : List ℕ = floats (s.point.0 ∷ s.point.1 ∷ []) in
    let b : List ℕ = bytes 4 s.updates in
    let c : List ℕ = bytes 4 (flag_number s.flag) in
    let la : length a ≡ 16 = length_floats (s.point.0 ∷ s.point.1 ∷ []) in
    let lb : length b ≡ 4 = length_bytes 4 s.updates in
    let lc : length c ≡ 4 = length_bytes 4 (flag_number s.flag) in
    let lab : length (a ++ b) ≡ length a + length b = length-append a b in
    let labc : length (a ++ b ++ c) ≡ length (a ++ b) + length c = length-append (a ++ b) c in
    ap (put 20 c) (put_put 0 a b lent 16 (omega (arith, la)) (omega (arith, la, lb, e)))
    ∙ put_put 0 (a ++ b) c lent 20 (omega (arith, la, lb, lab)) (omega (arith, la, lb, lc, lab, e))
    ∙ put_whole (a ++ b ++ c) lent (omega (arith, la, lb, lc, lab, labc, e))
    ∙ ap (λ (l : List ℕ). a ++ b ++ l) (flag_bytes s.flag)

pub jacobian_put :
    (j : Jacobian) (lent : List ℕ) →
    length j.entries ≡ entries →
    length lent ≡ jacobian_length →
    put columns_place (bytes 8 j.columns) (put 0 (floats j.entries) lent) ≡ jacobian_bytes j
jacobian_put j lent n e =
    let la : length (floats j.entries) ≡ 8 * length j.entries = length_floats j.entries in
    let lb : length (bytes 8 j.columns) ≡ 8 = length_bytes 8 j.columns in
    put_put 0 (floats j.entries) (bytes 8 j.columns) lent columns_place (omega (arith, la, n)) (omega (arith, la, lb, n, e))
    ∙ put_whole (floats j.entries ++ bytes 8 j.columns) lent (omega (arith, la, lb, n, e, length-append (floats j.entries) (bytes 8 j.columns)))

-- ---- a call, from its parts

-- what is given of what a function d tells, where d tells what the definition's operation does, and what is asked is what the definition reads
module _ {Q D T W : Type 0} (told : D → T) (number : T → ℕ) (value : T → W) (give : ℕ → W → Given) (operation : Q → D) (asked read : Q) (g : Given) where
  pub call :
      (d : D) (n : ℕ) (v : W) →
      g ≡ give n v →
      n ≡ number (told d) →
      v ≡ value (told d) →
      told d ≡ told (operation asked) →
      asked ≡ read →
      g ≡ give (number (told (operation read))) (value (told (operation read)))
  call d n v e f h i k =
      e
      ∙ ap₂ give f h
      ∙ ap (λ (t : T). give (number t) (value t)) (i ∙ ap (λ (q : Q). told (operation q)) k)

-- the same of a derivative, which is told as it is
pub jacobian_call :
    (operation : Result Camera Refusal → Differentiated) (asked read : Result Camera Refusal) (g : Given) (d : Differentiated) (lent : List ℕ) →
    g ≡ give_jacobian d lent →
    d ≡ operation asked →
    asked ≡ read →
    g ≡ give_jacobian (operation read) lent
jacobian_call operation asked read g d lent e f k = e ∙ ap (λ (t : Differentiated). give_jacobian t lent) (f ∙ ap operation k)
