-- What a caller may rely on, of the definitions of specs/ and of the contract of src/. Assumes nothing.
use mathlib.Core.Path.{◌≡◌, refl, sym, ap, ◌∙◌}
use Rattle.std.specs.declared.result.Result.TheVariants.{Ok}
use mathlib.Core.Bool.{Bool}
use mathlib.Core.List.{List}
use Prim.Native.Nat.{ℕ}
use borrow.Author.Tests.{eq-eqb}
use lib.Dec.{eqb}
use lib.Ieee.{Float}
use lib.ListN.{length}
use Rattle.exact.specs.Determined.{DeterminedWith}
use Rattle.answer_bytes.specs.Answer.{pixel_bytes, give_pixel}
use Rattle.given.specs.Given.{given, code}
use Rattle.given.proofs.Laws.{both, Untouched, refused_kept, filled}
use Rattle.lens.specs.Distorted.{told_pixel}
use Rattle.lens.specs.Distorted.{Distorted}
use Rattle.lens.specs.declared.Pixel.{Pixel}
use Rattle.lookup.specs.Lookup.{lookup}
use Rattle.region_bytes.specs.Box.{box_at}
use Rattle.lookup_bytes.specs.Lookup.{lookup_bytes}
use Rattle.lookup_bytes.proofs.lookup.Reads as lookup-contract

-- Any two numbers that the contract of `lookup` permits to one call are equal, and so are any two buffers at the return.
pub determined : DeterminedWith lookup-contract.Post (λ κ s. s.1.1.1.1.1.1.0.now)
determined = λ κ a s s' r r' p q. both (p ∙ sym q)

-- A refused lookup writes nothing: with every number but 0 the buffer comes back as it was.
pub lookup_untouched :
    (table : List Float) (region lent : List ℕ) (width height : ℕ) (x y : Float) →
    Untouched (lookup_bytes table region width height x y lent) lent
unfolding lookup_bytes
lookup_untouched table region lent width height x y = refused_kept 16 _ _ lent

-- Where a table has a pixel at the point, 0 is returned, and 16 bytes are the pixel's.
pub lookup_answered :
    (table : List Float) (region lent : List ℕ) (width height : ℕ) (x y : Float) (pixel : Pixel) →
    lookup table (box_at region 0) width height record { 0 = x; 1 = y } ≡ Ok pixel →
    length region ≡ 32 →
    length lent ≡ 16 →
    lookup_bytes table region width height x y lent ≡ given 0 (pixel_bytes pixel)
unfolding lookup_bytes code
lookup_answered table region lent width height x y pixel e r f =
    ap (λ (d : Distorted). give_pixel (code (told_pixel d).number (eqb (length region) 32)) (told_pixel d).pixel lent) e
    ∙ ap (λ (b : Bool). give_pixel (code 0 b) pixel lent) (eq-eqb (length region) 32 r)
    ∙ filled 16 0 (pixel_bytes pixel) lent refl f
