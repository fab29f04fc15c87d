-- `lookup_bytes::lookup` meets its contract. Assumes nothing.
use mathlib.Core.Path.{ap, ◌∙◌}
use Prim.Native.Nat.{ℕ}
use lib.Dec.{eqb}
use lib.ListN.{length}
use Rattle.given.specs.Given.{code}
use Rattle.lens.specs.Distorted.{ToldPixel, told_pixel}
use Rattle.lens.specs.declared.Pixel.{Pixel}
use Rattle.region.specs.declared.Region.{Region}
use Rattle.lookup.specs.Lookup.{lookup}
use Rattle.answer_bytes.specs.Answer.{give_pixel}
use Rattle.lookup_bytes.specs.Lookup.{lookup_bytes}
use Rattle.answer_bytes.proofs.Giving.{call}
use Rattle.lookup_bytes.proofs.lookup.Goals as goal

pub returns : goal.returns
unfolding lookup_bytes
returns c = let a = c.args in call told_pixel (λ (t : ToldPixel). code t.number (eqb (length a.region.now) 32)) (λ (t : ToldPixel). t.pixel) (λ (n : ℕ) (p : Pixel). give_pixel n p a.answer.now) (λ (r : Region). lookup a.table.now r a.width a.height record { 0 = a.x; 1 = a.y }) _ _ _ c.lookup.result _ _ c.give_pixel.ensures (c.code-number.ensures ∙ ap (λ (n : ℕ). code n (eqb (length a.region.now) 32)) c.told_pixel-told.ensures.0) c.told_pixel-told.ensures.1 (ap told_pixel c.lookup.ensures) c.box_at.ensures
