-- Tests one after the other, as the code makes them, and the rows that they decide. Assumes nothing.
use mathlib.Core.Path.{◌≡◌, sym, ap, ◌∙◌}
use mathlib.Core.Bool.{Bool, true, false, not, cond, ◌&&◌, ◌||◌}
use mathlib.Core.List.{List}
use Prim.Native.Nat.{ℕ}
use Rattle.lens.specs.Rows.{first}
use Rattle.opencv.specs.Text.{theirs}
use Rattle.opencv.specs.Moved.{zero_bits, of_theirs, plain, number_rows, rows}

-- ---- both, and one of two

pub no : {a : Bool} (b : Bool) → a ≡ false → false ≡ (a && b)
no {a} b e = sym (ap (λ (t : Bool). t && b) e)

pub yes : {a b r : Bool} → a ≡ true → r ≡ b → r ≡ (a && b)
yes {a} {b} e f = f ∙ sym (ap (λ (t : Bool). t && b) e)

pub hit : {a : Bool} (b : Bool) → a ≡ true → true ≡ (a || b)
hit {a} b e = sym (ap (λ (t : Bool). t || b) e)

pub miss : {a b r : Bool} → a ≡ false → r ≡ b → r ≡ (a || b)
miss {a} {b} e f = f ∙ sym (ap (λ (t : Bool). t || b) e)

-- ---- a row that holds, and one that does not

pub holds : {t : Bool} (x y : ℕ) → t ≡ true → x ≡ cond t x y
holds {t} x y e = sym (ap (λ (b : Bool). cond b x y) e)

pub past : {t : Bool} (x : ℕ) {y r : ℕ} → t ≡ false → r ≡ y → r ≡ cond t x y
past {t} x {y} e f = f ∙ sym (ap (λ (b : Bool). cond b x y) e)

-- 17 comes before 4 and 5, whatever the numbers
pub seventeen_first : (m c : List ℕ) → plain m c ≡ false → first (rows (theirs m c)) ≡ 17
seventeen_first m c e = ap (λ (t : Bool). cond (not t) 17 (first (number_rows (of_theirs m c)))) e

-- ---- whether the number read is a zero

pub zero_told : {b t : Bool} {x y : ℕ} → b ≡ zero_bits x → x ≡ y → b ≡ t → zero_bits y ≡ t
zero_told e f g = sym (e ∙ ap zero_bits f) ∙ g
