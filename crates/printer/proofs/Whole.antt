-- All that is printed has room in a buffer of OUTPUT bytes. Assumes nothing.
use mathlib.Core.Path.{◌≡◌, refl, sym, ap, subst}
use mathlib.Core.Bool.{Bool, true, false, cond}
use mathlib.Core.List.{List}
use Prim.Native.Nat.{ℕ, ◌+◌, ◌≤◌, ◌<◌}
use native.Mathlib.Omega.{arith}
use borrow.Author.Tests.{lt-ltb, le-ltb, ltb-false}
use lib.Dec.{ltb}
use lib.ListN.{length}
use lib.Seq.{length-take-le}
use Rattle.io.specs.Counts.{IsPrefixLen}
use Rattle.put_text.specs.Placed.{Written, written, with_text}
use Rattle.put_text.proofs.Whole.{as_long}
use Rattle.printer.specs.Printed.{printed, most_printed, print}
use Rattle.printer.proofs.Finished.{printed_short}

module _ (input out : List ℕ) where
  pub no_room : length out < most_printed → written out 0 ≡ print input out
  no_room h = sym (ap (λ (b : Bool). cond b (written out 0) (with_text (written out 0) (printed input))) (lt-ltb (length out) most_printed h))

  pub fits : most_printed ≤ length out → 0 + length (printed input) ≤ length out
  fits h = omega (arith, printed_short input)

  pub all_put : most_printed ≤ length out → with_text (written out 0) (printed input) ≡ print input out
  all_put h = sym (ap (λ (b : Bool). cond b (written out 0) (with_text (written out 0) (printed input))) (le-ltb (length out) most_printed h))

  ends : (print input out).at ≤ length (print input out).out
  ends = go (ltb (length out) most_printed) refl
    where
      go : (b : Bool) → ltb (length out) most_printed ≡ b → (cond b (written out 0) (with_text (written out 0) (printed input))).at ≤ length (cond b (written out 0) (with_text (written out 0) (printed input))).out
      go true e = omega arith
      go false e = let h = fits (ltb-false (length out) most_printed e) in omega (arith, as_long out 0 (printed input) h, h)

  pub counts : (out' : List ℕ) (r : ℕ) → written out' r ≡ print input out → IsPrefixLen r out'
  counts out' r e =
      let h : r ≤ length out' = subst (λ (w : Written). w.at ≤ length w.out) (sym e) ends in
      (h, sym (length-take-le r out' h))
