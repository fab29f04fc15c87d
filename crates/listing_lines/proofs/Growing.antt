-- A line grows by what is put into it. Assumes nothing.
use mathlib.Core.Path.{◌≡◌, ap, ap₂, ◌∙◌}
use mathlib.Core.List.{List, [], ◌∷◌, ◌++◌, append_assoc}
use Prim.Native.Nat.{ℕ, ◌+◌, ◌≤◌}
use native.Mathlib.Omega.{arith}
use lib.ListN.{length, take, drop, length-append, length-take}
use lib.Seq.{take_at, length-take-le}
use Rattle.put_text.specs.Placed.{Written, written, with_text, placed}
use Rattle.put_text.proofs.Putting.{is_placed}
use Rattle.listing_lines.specs.Grown.{Grown}

module _ (out : List ℕ) (at : ℕ) (text : List ℕ) where
  -- what is put into a line makes it longer
  pub put_grown :
      (after : List ℕ) (r : ℕ) →
      length out ≡ 96 →
      length after ≡ length out →
      at + length text ≤ 96 →
      length text ≤ 21 →
      written after r ≡ placed (written out at) text →
      Grown out at text after r
  put_grown after r long same fits s e =
      let h : at + length text ≤ length out = omega arith in
      let f : written after r ≡ with_text (written out at) text = e ∙ is_placed out at text h in
      let n : r ≡ at + length text = ap (λ (w : Written). w.at) f in
      let front : length (take at out ++ text) ≡ at + length text = length-append (take at out) text ∙ ap (λ (k : ℕ). k + length text) (length-take-le at out (omega arith)) in
      record {
        next = n;
        front =
            ap₂ take n (ap (λ (w : Written). w.out) f)
            ∙ take_at (take at out ++ text) (drop (at + length text) out) (at + length text) front;
        short = s;
        long = same ∙ long;
      }

-- a tab is in place, and k digits are put behind it
pub field_grown :
    (before mid after out : List ℕ) (at m r k : ℕ) (text : List ℕ) →
    Grown before at (9 ∷ []) mid m →
    length after ≡ length mid →
    at ≤ 75 →
    k ≤ 20 →
    take k out ≡ text →
    written after r ≡ placed (written mid m) (take k out) →
    Grown before at (9 ∷ text) after r
field_grown before mid after out at m r k text g long room most same e =
    let short : length text ≤ 20 = omega (arith, ap length same, length-take k out) in
    let p : Grown mid m text after r =
    put_grown mid m text after r g.long long (omega (arith, g.next)) (omega arith) (e ∙ ap (placed (written mid m)) same) in
    record {
      next = omega (arith, p.next, g.next);
      front = p.front ∙ ap (λ (l : List ℕ). l ++ text) g.front ∙ append_assoc (take at before) (9 ∷ []) text;
      short = omega arith;
      long = p.long;
    }
