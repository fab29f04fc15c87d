-- `printer::print` meets its contract. Assumes nothing.
use mathlib.Core.Path.{◌≡◌, sym, ap, ◌∙◌, subst}
use mathlib.Core.List.{List}
use Prim.Native.Nat.{ℕ, ◌≤◌}
use native.Mathlib.Omega.{arith}
use lib.Ieee.{Float}
use lib.ListN.{length}
use Rattle.put_text.specs.Placed.{written, with_text}
use Rattle.printer.specs.Made.{Outcome, in_room, build, held, made_in, blank_room, made}
use Rattle.printer.specs.Printed.{made_text, printed}
use Rattle.printer.proofs.Whole.{no_room, fits, all_put, counts}
use Rattle.printer.proofs.print.Goals as goal

-- what is shown of what was built in the room of zeros is what is printed
shown : (input : List ℕ) (outcome : Outcome) (room : List Float) → in_room outcome room ≡ build input blank_room → made_text (held outcome room) ≡ printed input
unfolding printed made
shown input outcome room e = ap (λ (b : _). made_text (made_in b)) e

pub returns-then-out-lt-OUTPUT : goal.returns-then-out-lt-OUTPUT
returns-then-out-lt-OUTPUT c =
    let a = c.args in
    let e = no_room a.input.now a.out.now c.if-out-lt-OUTPUT.true in
    record { result_after = e; prefix_len = counts a.input.now a.out.now _ _ e }

pub slice_bounds-show-end : goal.slice_bounds-show-end
slice_bounds-show-end c = sym c.build-built.ensures.room_len

pub show-requires : goal.show-requires
show-requires c =
    let a = c.args in
    let same = shown a.input.now _ _ c.build-built.ensures.room_after in
    let room = fits a.input.now a.out.now c.if-out-lt-OUTPUT.false in
    record {
      has_room = (c.build-built.ensures.has_room, omega (arith, c.build-built.ensures.room_len));
      room_in_bounds = subst (λ (t : List ℕ). length t ≤ length a.out.now) (sym same) (omega (arith, room));
    }

pub returns : goal.returns
returns c =
    let a = c.args in
    let same = shown a.input.now _ _ c.build-built.ensures.room_after in
    let e =
    c.show.ensures
    ∙ ap (with_text (written a.out.now 0)) same
    ∙ all_put a.input.now a.out.now c.if-out-lt-OUTPUT.false in
    record { result_after = e; prefix_len = counts a.input.now a.out.now _ _ e }
