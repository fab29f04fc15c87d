-- The least, the greatest and the largest magnitude of some cells are what they are called. Assumes nothing.
use Rattle.std.proofs.Common.{◌≡◌, ◌^◌, Bool, true, false, cond, not, T, List, [], ◌∷◌, arith, lit≤, leb→le}
use lib.Dec.{nleb→lt}
use lib.Ieee.{Float}
use Rattle.exact.specs.Fraction.{Fraction, Proper, cross, ◌≼◌, over, whole, opposite, ◌⊟◌, exactly}
use Rattle.exact.proofs.Fractions.{whole_proper, opposite_proper, exactly_proper, over-≼, ⊞-zero, ⊞-mono, ⊟-mono, ⊠-not-negative, ≼_refl, ≼_trans}
use Rattle.lookup.specs.Enclosed.{at_most, lesser, greater, size, least, greatest, largest, Enclosed, EnclosedWithRoom}

-- ---- of each cell

abbrev pub Every : (Float → Type 0) → List Float → Type 0
Every P [] = Unit {0}
Every P (x ∷ rest) = P x × Every P rest

each : {P Q : Float → Type 0} → ((x : Float) → P x → Q x) → (cells : List Float) → Every P cells → Every Q cells
each f [] h = tt
each f (x ∷ rest) h = (f x h.0, each f rest h.1)

-- ---- of two

one_of : (t : Bool) {a b : Fraction} → Proper a → Proper b → Proper (cond t a b)
one_of true p q = p
one_of false p q = q

lesser_proper : {a b : Fraction} → Proper a → Proper b → Proper (lesser a b)
unfolding lesser
lesser_proper {a} {b} p q = one_of (at_most a b) p q

greater_proper : {a b : Fraction} → Proper a → Proper b → Proper (greater a b)
unfolding greater
greater_proper {a} {b} p q = one_of (at_most a b) q p

module _ (a b : Fraction) where
  is : T (at_most a b) → a ≼ b
  is h = record { holds = leb→le (cross a b) (cross b a) h }

  is_not : T (not (at_most a b)) → b ≼ a
  is_not h = record { holds = omega (arith, nleb→lt (cross a b) (cross b a) h) }

  lesser-≼ : (lesser a b ≼ a) × (lesser a b ≼ b)
  unfolding lesser
  lesser-≼ = go (at_most a b) is is_not
    where
      go : (t : Bool) → (T t → a ≼ b) → (T (not t) → b ≼ a) → (cond t a b ≼ a) × (cond t a b ≼ b)
      go true h k = (≼_refl a, h tt)
      go false h k = (k tt, ≼_refl b)

  ≼-greater : (a ≼ greater a b) × (b ≼ greater a b)
  unfolding greater
  ≼-greater = go (at_most a b) is is_not
    where
      go : (t : Bool) → (T t → a ≼ b) → (T (not t) → b ≼ a) → (a ≼ cond t b a) × (b ≼ cond t b a)
      go true h k = (h tt, ≼_refl b)
      go false h k = (≼_refl a, k tt)

size_proper : {a : Fraction} → Proper a → Proper (size a)
size_proper p = greater_proper p (opposite_proper p)

-- ---- of some

pub least_proper : (cells : List Float) → Proper (least cells)
unfolding least
least_proper [] = whole_proper 0
least_proper (c ∷ []) = exactly_proper c
least_proper (c ∷ d ∷ rest) = lesser_proper (exactly_proper c) (least_proper (d ∷ rest))

pub least-≼ : (cells : List Float) → Every (λ x. least cells ≼ exactly x) cells
unfolding least
least-≼ [] = tt
least-≼ (c ∷ []) = (≼_refl (exactly c), tt)
least-≼ (c ∷ d ∷ rest) =
    let l = lesser-≼ (exactly c) (least (d ∷ rest)) in
    (l.0, each (λ x h. ≼_trans (least_proper (d ∷ rest)) l.1 h) (d ∷ rest) (least-≼ (d ∷ rest)))

pub greatest_proper : (cells : List Float) → Proper (greatest cells)
unfolding greatest
greatest_proper [] = whole_proper 0
greatest_proper (c ∷ []) = exactly_proper c
greatest_proper (c ∷ d ∷ rest) = greater_proper (exactly_proper c) (greatest_proper (d ∷ rest))

pub ≼-greatest : (cells : List Float) → Every (λ x. exactly x ≼ greatest cells) cells
unfolding greatest
≼-greatest [] = tt
≼-greatest (c ∷ []) = (≼_refl (exactly c), tt)
≼-greatest (c ∷ d ∷ rest) =
    let g = ≼-greater (exactly c) (greatest (d ∷ rest)) in
    (g.0, each (λ x h. ≼_trans (greatest_proper (d ∷ rest)) h g.1) (d ∷ rest) (≼-greatest (d ∷ rest)))

pub largest_proper : (cells : List Float) → Proper (largest cells)
unfolding largest
largest_proper [] = whole_proper 0
largest_proper (c ∷ rest) = greater_proper (size_proper (exactly_proper c)) (largest_proper rest)

pub largest_not_negative : (cells : List Float) → whole 0 ≼ largest cells
unfolding largest
largest_not_negative [] = ≼_refl (whole 0)
largest_not_negative (c ∷ rest) = ≼_trans (largest_proper rest) (largest_not_negative rest) (≼-greater (size (exactly c)) (largest rest)).1

-- ---- with room

plain : (x : Fraction) → x ⊟ whole 0 ≡ x
unfolding over opposite
plain x = ⊞-zero x

pub with_room : {cells : List Float} {x : Float} → Enclosed cells x → EnclosedWithRoom cells x
with_room {cells} {x} e =
    let none = ⊠-not-negative (largest_not_negative cells) ((over-≼ 0 1 1 (2 ^ 48)).1 (lit≤ tt)) in
    record { cells_finite = e.cells_finite; answer_finite = e.answer_finite; not_below = rw (plain (exactly x)) at (⊟-mono e.not_below none); not_above = rw (⊞-zero (exactly x)) at (⊞-mono e.not_above none) }
