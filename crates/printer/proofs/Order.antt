-- What is printed, by the rows of the refusal table. Assumes nothing.
use mathlib.Core.Path.{◌≡◌, refl, sym, ap, ◌∙◌}
use mathlib.Core.Bool.{Bool, true, false, cond}
use mathlib.Core.List.{List, [], ◌∷◌, ◌++◌}
use Prim.Native.Nat.{ℕ, ◌*◌, ◌≤◌}
use native.Mathlib.Omega.{arith}
use borrow.Author.Tests.{ne_eqb, eqb-true, eqb-false, ltb-false}
use lib.Dec.{eqb, ltb}
use Rattle.std.proofs.Common.{Result, Ok, Err}
use Rattle.lens.specs.declared.Refusal.{Refusal}
use Rattle.camera_file.specs.declared.Asked.{Asked}
use Rattle.lens.specs.Refusal.{number}
use Rattle.lens.specs.Rows.{Row, ◌when◌, first}
use Rattle.lens.proofs.Laws.{number_within}
use Rattle.camera.specs.declared.Camera.{Camera}
use Rattle.camera_file.specs.Asked.{parsed, told_file}
use Rattle.camera_file.specs.Rows.{file_rows}
use Rattle.camera_file.proofs.Laws.{file_number}
use Rattle.job.specs.Job.{told_started, begun_number, fresh}
use Rattle.job.specs.Rows.{fresh_rows}
use Rattle.job.specs.declared.Job.{Job}
use Rattle.job.proofs.Laws.{fresh_number}
use Rattle.listing_lines.specs.Line.{refused_line}
use Rattle.printer.specs.Made.{most_cells, InRoom, unbuilt, build_whole, build_sized, started, build_asked, build_parsed, build}
use Rattle.printer.specs.Made.{made_in, blank_room, made}
use Rattle.printer.specs.Printed.{made_text, printed}
use Rattle.printer.specs.Rows.{asked_rows, printer_rows, built_text, by_rows}

-- ---- rows behind rows

-- the first number, or the second where that is 0
abbrev else : ℕ → ℕ → ℕ
else n m = cond (eqb n 0) m n

else_some : (n m : ℕ) → 1 ≤ n → else n m ≡ n
else_some n m h = ap (λ (b : Bool). cond b m n) (ne_eqb n 0 (λ e. omega (arith, h, e)))

abbrev Numbered : List Row → Type 0
Numbered [] = Unit {0}
Numbered (row ∷ rows) = (1 ≤ row.number) × Numbered rows

behind : (rows more : List Row) → Numbered rows → first (rows ++ more) ≡ else (first rows) (first more)
behind [] more h = refl
behind (row ∷ rows) more h = go row.holds (behind rows more h.1)
  where
    go :
        (b : Bool) →
        first (rows ++ more) ≡ else (first rows) (first more) →
        cond b row.number (first (rows ++ more)) ≡ else (cond b row.number (first rows)) (first more)
    go true e = sym (else_some row.number (first more) h.0)
    go false e = e

neither : (n m : ℕ) → else n m ≡ 0 → (n ≡ 0) × (m ≡ 0)
neither n m e = go (eqb n 0) refl e
  where
    go : (b : Bool) → eqb n 0 ≡ b → cond b m n ≡ 0 → (n ≡ 0) × (m ≡ 0)
    go true f g = (eqb-true n 0 f, g)
    go false f g = absurd (eqb-false n 0 f g)

file_numbered : (input : List ℕ) → Numbered (file_rows input)
file_numbered input = (omega arith, (omega arith, (omega arith, tt)))

fresh_numbered : (camera : Camera) (width height : ℕ) → Numbered (fresh_rows camera width height)
fresh_numbered camera width height = (omega arith, (omega arith, (omega arith, tt)))

-- ---- a refusal's line

refused_text : (n m : ℕ) (text : List ℕ) → 1 ≤ n → refused_line n ≡ by_rows (else n m) text
refused_text n m text h =
    sym (ap (λ (b : Bool). cond b text (refused_line n)) (ne_eqb n 0 (λ e. omega (arith, h, e))))
    ∙ ap (λ (k : ℕ). by_rows k text) (sym (else_some n m h))

-- ---- 4, 5, 6

-- what is printed of a build in the room of zeros
abbrev text_of : InRoom → List ℕ
text_of b = made_text (made_in b)

module _ (camera : Camera) (width height : ℕ) where
  abbrev text : List ℕ
  text = built_text (Ok (record { camera = camera; width = width; height = height }))

  by_cells : (t : Bool) (b : InRoom) → text_of (cond t (unbuilt blank_room 6) b) ≡ by_rows (cond t 6 0) (text_of b)
  by_cells true b = refl
  by_cells false b = refl

  by_start : (b : Result Job Refusal)
      → text_of (started blank_room b (build_sized blank_room camera width height))
      ≡ by_rows (else (begun_number (told_started b)) (cond (ltb most_cells (width * height)) 6 0)) text
  unfolding build_sized
  by_start (Err r) = refused_text (number r) _ text (number_within r).0
  by_start (Ok job) = by_cells (ltb most_cells (width * height)) (build_whole blank_room camera width height)

  asked_first : first (asked_rows (Ok (record { camera = camera; width = width; height = height }))) ≡ else (first (fresh_rows camera width height)) (cond (ltb most_cells (width * height)) 6 0)
  asked_first = behind (fresh_rows camera width height) ((6 when ltb most_cells (width * height)) ∷ []) (fresh_numbered camera width height)

  asked_order : text_of (build_asked blank_room camera width height) ≡ by_rows (first (asked_rows (Ok (record { camera = camera; width = width; height = height })))) text
  unfolding build_asked
  asked_order =
      by_start (fresh camera width height false)
      ∙ ap (λ (n : ℕ). by_rows (else n (cond (ltb most_cells (width * height)) 6 0)) text) (fresh_number camera width height false)
      ∙ ap (λ (n : ℕ). by_rows n text) (sym asked_first)

-- ---- 14, 1, 3 before them

module _ (input : List ℕ) where
  by_file : (p : Result Asked Refusal) → text_of (build_parsed blank_room p) ≡ by_rows (else (told_file p).number (first (asked_rows p))) (built_text p)
  by_file (Err r) = refused_text (number r) 0 [] (number_within r).0
  by_file (Ok a) = asked_order a.camera a.width a.height

  all_first : first (printer_rows input) ≡ else (first (file_rows input)) (first (asked_rows (parsed input)))
  all_first = behind (file_rows input) (asked_rows (parsed input)) (file_numbered input)

  pub order : printed input ≡ by_rows (first (printer_rows input)) (built_text (parsed input))
  unfolding printed made build
  order =
      by_file (parsed input)
      ∙ ap (λ (n : ℕ). by_rows (else n (first (asked_rows (parsed input)))) (built_text (parsed input))) (file_number input)
      ∙ ap (λ (n : ℕ). by_rows n (built_text (parsed input))) (sym all_first)

-- ---- where no row holds

-- what an input asks for that no row refuses
pub record Asks (input : List ℕ) : Type 0 where
  pub camera : Camera
  pub width : ℕ
  pub height : ℕ
  pub job : Job
  pub asks : parsed input ≡ Ok record { camera = camera; width = width; height = height }
  pub begin : fresh camera width height false ≡ Ok job
  pub few : width * height ≤ most_cells

module _ (input : List ℕ) where
  few_cells : (n m : ℕ) (t : Bool) → ltb n m ≡ t → ◌≡◌ {A = ℕ} (cond t 6 0) 0 → m ≤ n
  few_cells n m true e f = absurd (omega arith)
  few_cells n m false e f = ltb-false n m e

  begins :
      (camera : Camera) (width height : ℕ) (b : Result Job Refusal) →
      parsed input ≡ Ok record { camera = camera; width = width; height = height } →
      fresh camera width height false ≡ b →
      begun_number (told_started b) ≡ 0 →
      width * height ≤ most_cells →
      Asks input
  begins camera width height (Err r) e f g h = absurd (omega (arith, g, number_within r))
  begins camera width height (Ok job) e f g h =
      record { camera = camera; width = width; height = height; job = job; asks = e; begin = f; few = h }

  asks_by : (p : Result Asked Refusal) → parsed input ≡ p → (told_file p).number ≡ 0 → first (asked_rows p) ≡ 0 → Asks input
  asks_by (Err r) e f g = absurd (omega (arith, f, number_within r))
  asks_by (Ok a) e f g =
      let z = neither _ _ (sym (asked_first a.camera a.width a.height) ∙ g) in
      begins a.camera a.width a.height (fresh a.camera a.width a.height false) e refl (fresh_number a.camera a.width a.height false ∙ z.0)
      (few_cells most_cells (a.width * a.height) (ltb most_cells (a.width * a.height)) refl z.1)

  pub none_holds : first (printer_rows input) ≡ 0 → Asks input
  none_holds e =
      let z = neither _ _ (sym (all_first input) ∙ e) in
      asks_by (parsed input) refl (file_number input ∙ z.0) z.1
