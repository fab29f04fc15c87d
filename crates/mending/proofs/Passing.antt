-- The bytes of a piece taken one by one. Assumes nothing.
use mathlib.Core.Path.{◌≡◌, refl, sym, ap, ◌∙◌}
use mathlib.Core.List.{List}
use Prim.Native.Nat.{ℕ, suc, ◌+◌, ◌≤◌, ◌<◌}
use native.Mathlib.Numerals.{add-one}
use native.Mathlib.Omega.{arith}
use lib.ListN.{length, get_or, drop, drop_of_length-le}
use lib.Seq.{drop-cons}
use Rattle.mending.specs.Fed.{Fed, feed_byte, feed}

-- with the bytes that are left, what comes out is what the whole piece gives
pub record Passed (width height : ℕ) (s₀ : Fed) (piece : List ℕ) (s : Fed) (i : ℕ) : Type 0 where
  pub within : i ≤ length piece
  pub map_long : length s.map ≡ length s₀.map
  pub line_long : length s.line ≡ length s₀.line
  pub rest : feed width height s (drop i piece) ≡ feed width height s₀ piece

pub none_passed : (width height : ℕ) (s : Fed) (piece : List ℕ) → Passed width height s piece s 0
none_passed width height s piece = record { within = omega arith; map_long = refl; line_long = refl; rest = refl }

module _ (width height : ℕ) (s₀ : Fed) (piece : List ℕ) (s : Fed) (i : ℕ) (p : Passed width height s₀ piece s i) where
  next : i < length piece → feed width height s (drop i piece) ≡ feed width height (feed_byte width height s (get_or piece i 0)) (drop (suc i) piece)
  unfolding feed
  next h = rw (drop-cons piece i 0)

  pub one_passed :
      i < length piece →
      (s' : Fed) →
      s' ≡ feed_byte width height s (get_or piece i 0) →
      length s'.map ≡ length s.map →
      length s'.line ≡ length s.line →
      Passed width height s₀ piece s' (i + 1)
  one_passed h s' e m l = record {
    within = omega arith;
    map_long = m ∙ p.map_long;
    line_long = l ∙ p.line_long;
    rest =
        ap (λ (n : ℕ). feed width height s' (drop n piece)) (add-one i)
        ∙ ap (λ (x : Fed). feed width height x (drop (suc i) piece)) e
        ∙ sym (next h)
        ∙ p.rest;
  }

  pub all_passed : length piece ≤ i → s ≡ feed width height s₀ piece
  unfolding feed
  all_passed h = sym (ap (feed width height s) (drop_of_length-le piece h)) ∙ p.rest
