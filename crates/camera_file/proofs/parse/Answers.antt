-- `camera_file::parse` meets its contract: what the fields of a text decide is what the text asks for. Assumes nothing.
use mathlib.Core.Path.{◌≡◌, refl, sym, ap, ◌∙◌}
use Prim.Native.Nat.{ℕ}
use Rattle.std.proofs.lemmas.Result.{err_from_is_err_and}
use Rattle.std.proofs.Common.{Option, None, Result, Err}
use Rattle.std.specs.Option.{ok_or}
use Rattle.lens.specs.declared.Refusal.{Refusal}
use Rattle.params_line.specs.Params.{params_of}
use Rattle.camera_file.specs.Asked.{asked_of}
use Rattle.camera_file.proofs.Models.{alike, unlike}
use Rattle.camera_file.proofs.Stages.{fields, not_short, other_word, no_name, no_params, no_width, no_height, of_form}
use Rattle.camera_file.proofs.parse.Goals as goal

-- the refusal that `ok_or` gives
given : {o : Option ℕ} {r s : Refusal} → ◌≡◌ {A = Result ℕ Refusal} (Err r) (ok_or o s) → o ≡ None → r ≡ s
given {o} {r} {s} e f = let g : ◌≡◌ {A = Result ℕ Refusal} (Err r) (Err s) = e ∙ ap (λ (o : Option ℕ). ok_or o s) f in cc

pub returns-then-text-gt-LONGEST : goal.returns-then-text-gt-LONGEST
returns-then-text-gt-LONGEST c =
    let f = fields refl refl refl refl refl refl refl refl in
    not_short f c.if-text-gt-LONGEST.true

pub returns-then-ne : goal.returns-then-ne
returns-then-ne c =
    let f = fields c.cut.ensures.first c.cut.ensures.rest refl refl refl refl refl refl in
    other_word f c.if-text-gt-LONGEST.false (unlike _ c.as_slice.ensures c.ne.ensures c.if-ne.true)

pub returns-then-not-is_name : goal.returns-then-not-is_name
returns-then-not-is_name c =
    let f = fields c.cut.ensures.first c.cut.ensures.rest c.cut-2.ensures.first c.cut-2.ensures.rest refl refl refl refl in
    no_name f c.if-text-gt-LONGEST.false (alike _ c.as_slice.ensures c.ne.ensures c.if-ne.false) (sym c.is_name.ensures ∙ c.if-not-is_name.true)

pub returns-in_err-width : goal.returns-in_err-width
returns-in_err-width c =
    let f = fields c.cut.ensures.first c.cut.ensures.rest c.cut-2.ensures.first c.cut-2.ensures.rest c.cut-3.ensures.first c.cut-3.ensures.rest refl refl in
    let p = err_from_is_err_and c.from_residual.result c.from_residual.ensures.1 in
    let e = c.in_err-width.ensures in
    rw (p.1, p.2, given e.value e.ok_part)
    (no_width f c.if-text-gt-LONGEST.false
    (alike _ c.as_slice.ensures c.ne.ensures c.if-ne.false)
    (sym c.is_name.ensures ∙ c.if-not-is_name.false)
    (sym c.number_in.ensures ∙ e.ok_part))

pub returns-in_err-height : goal.returns-in_err-height
returns-in_err-height c =
    let f = fields c.cut.ensures.first c.cut.ensures.rest c.cut-2.ensures.first c.cut-2.ensures.rest c.cut-3.ensures.first c.cut-3.ensures.rest c.cut-4.ensures.first c.cut-4.ensures.rest in
    let p = err_from_is_err_and c.from_residual-in_err-height.result c.from_residual-in_err-height.ensures.1 in
    let e = c.in_err-height.ensures in
    rw (p.1, p.2, given e.value e.ok_part)
    (no_height f c.if-text-gt-LONGEST.false
    (alike _ c.as_slice.ensures c.ne.ensures c.if-ne.false)
    (sym c.is_name.ensures ∙ c.if-not-is_name.false)
    (sym c.number_in-2.ensures ∙ e.ok_part))

pub returns-then-not-is_line : goal.returns-then-not-is_line
returns-then-not-is_line c =
    let f = fields c.cut.ensures.first c.cut.ensures.rest c.cut-2.ensures.first c.cut-2.ensures.rest c.cut-3.ensures.first c.cut-3.ensures.rest c.cut-4.ensures.first c.cut-4.ensures.rest in
    no_params f c.if-text-gt-LONGEST.false (alike _ c.as_slice.ensures c.ne.ensures c.if-ne.false) (sym c.is_name.ensures ∙ c.if-not-is_name.false) (sym c.is_line.ensures ∙ c.if-not-is_line.true)

pub returns : goal.returns
returns c =
    let f = fields c.cut.ensures.first c.cut.ensures.rest c.cut-2.ensures.first c.cut-2.ensures.rest c.cut-3.ensures.first c.cut-3.ensures.rest c.cut-4.ensures.first c.cut-4.ensures.rest in
    c.asked_of.ensures
    ∙ ap (λ (m : Option ℕ). asked_of m c.in_ok-width.width c.in_ok-height.height (params_of c.cut-4.result.1.now)) c.model_of.ensures
    ∙ of_form f c.if-text-gt-LONGEST.false (alike _ c.as_slice.ensures c.ne.ensures c.if-ne.false) (sym c.is_name.ensures ∙ c.if-not-is_name.false) _ _
    (sym c.number_in.ensures ∙ c.in_ok-width.ensures.ok_part)
    (sym c.number_in-2.ensures ∙ c.in_ok-height.ensures.ok_part)
    (sym c.is_line.ensures ∙ c.if-not-is_line.false)
