-- What the nearest multiple of 1/32 is known by, for whoever stands on it. Assumes nothing.
use mathlib.Core.Path.{◌≡◌, refl, sym, ap, ◌∙◌, subst}
use mathlib.Core.Logic.{inl, inr, ◌↔◌}
use mathlib.Core.Bool.{Bool, true, false, false≢true, ◌&&◌}
use Prim.Native.Nat.{ℕ, zero, suc, ◌*◌, ◌≤◌, ◌<◌}
use native.Mathlib.Decide.{dec_le}
use native.Mathlib.Omega.{arith}
use lib.IntN.{ℤ, pos, negsuc}
use lib.Signed.{◌<ℤ◌}
use lib.Dec.{T, ltb→lt, lt→ltb}
use lib.Ieee.{Float, nan, inf, fin, up, down, le, lt, neg}
use lib.Ieee.Nearest.{closest}
use lib.Ieee.Scale.{finite}
use Rattle.exact.specs.Determined.{Determined}
use Rattle.exact.specs.F64.{f64}
use Rattle.thirty_seconds.specs.Multiple.{held, nearest_multiple}
use Rattle.thirty_seconds.specs.Nearest.{Nearest, Outside}
use Rattle.std.specs.Prelude.{Option, Some, None}
use Rattle.thirty_seconds.proofs.Ranges.{up_to, down_to, lower, upper}
use Rattle.thirty_seconds.proofs.Answers.{held_up, held_down, far_up, far_down, too_low, too_high, found}
use Rattle.thirty_seconds.proofs.Rounded.{number, rounded, only_one}
use Rattle.thirty_seconds.proofs.thirty_seconds.Reads as contract

-- Any two answers to one call that the contract of `thirty_seconds` permits are equal.
pub thirty_seconds_determined : Determined contract.Post
thirty_seconds_determined κ a s s' r r' p q = p ∙ sym q

-- ---- an answer, by the sign and the size of the number

not_both : {n : ℤ} → Some n ≡ None → ⊥
not_both e = let z : ◌≡◌ {A = ℕ} 0 1 = cc in omega arith

held_is : (s : Bool) (q : ℕ) (n : ℤ) → held s q ≡ Some n → number s q ≡ n
held_is false q n e = elim (dec_le q 32767) [ yes h ↦ (let i = held_up q h in cc) | no h ↦ absurd (not_both (sym e ∙ far_up q (omega arith))) ]
held_is true q n e = elim (dec_le q 32768) [ yes h ↦ (let i = held_down q h in cc) | no h ↦ absurd (not_both (sym e ∙ far_down q (omega arith))) ]

far_below : (q : ℕ) → 32768 < q → number true q <ℤ negsuc 32767
far_below zero h = absurd (none h)
  where
    none : 32768 < 0 → ⊥
    none h = omega arith
far_below (suc q) h = record { lt = lt→ltb 32767 q (omega arith) }

below_far : (q : ℕ) → Outside (number true q) → 32768 < q
below_far zero (inl h) = absurd h.lt
below_far zero (inr h) = absurd h.lt
below_far (suc q) (inl h) = omega (arith, ltb→lt 32767 q h.lt)
below_far (suc q) (inr h) = absurd h.lt

above_far : (q : ℕ) → Outside (number false q) → 32767 < q
above_far q (inl h) = absurd h.lt
above_far q (inr h) = ltb→lt 32767 q h.lt

outside : (s : Bool) (q : ℕ) → (held s q ≡ None) ↔ Outside (number s q)
outside false q = (
  λ (e : held false q ≡ None). elim (dec_le q 32767) [
    | yes h ↦ absurd (not_both (sym (held_up q h) ∙ e))
    | no h ↦ inr (record { lt = lt→ltb 32767 q (omega arith) })
  ],
  λ (h : Outside (pos q)). far_up q (above_far q h),
)
outside true q = (
  λ (e : held true q ≡ None). elim (dec_le q 32768) [
    | yes h ↦ absurd (not_both (sym (held_down q h) ∙ e))
    | no h ↦ inl (far_below q (omega arith))
  ],
  λ (h : Outside (number true q)). far_down q (below_far q h),
)

-- ---- the laws

-- The answer n is the nearest multiple's number: n / 32 is at most 1/64 from x, no other multiple of 1/32 is nearer, and of two as near n is the even one.
pub nearest_32nd : (x : Float) (n : ℤ) → nearest_multiple x ≡ Some n → Nearest x n
unfolding nearest_multiple
nearest_32nd nan n e = absurd (not_both (sym e))
nearest_32nd (inf s) n e = absurd (not_both (sym e))
nearest_32nd (fin s m e) n i = subst (Nearest (fin s m e)) (held_is s (closest (32 * (m * up e)) (down e)) n i) (rounded s m e)

-- Every finite x has a nearest multiple, and only one number is its number.
pub nearest_some : (x : Float) → T (finite x) → (n : ℤ) × Nearest x n
nearest_some (fin s m e) t = (number s (closest (32 * (m * up e)) (down e)), rounded s m e)
nearest_some nan t = elim t [ ]
nearest_some (inf _) t = elim t [ ]

pub nearest_one : {x : Float} {k n : ℤ} → Nearest x k → Nearest x n → k ≡ n
nearest_one = only_one

-- The answer is "too far", refusal 19, exactly if the nearest multiple's number is outside the sixteen bits; so are NaN and the infinities, which have none.
pub too_far_exactly : (x : Float) → (nearest_multiple x ≡ None) ↔ ((n : ℤ) → Nearest x n → Outside n)
unfolding nearest_multiple
too_far_exactly nan = (λ e n h. absurd h.number, λ f. refl)
too_far_exactly (inf s) = (λ e n h. absurd h.number, λ f. refl)
too_far_exactly (fin s m e) =
    let q = closest (32 * (m * up e)) (down e) in
    (λ i n h. subst Outside (only_one (rounded s m e) h) ((outside s q).0 i), λ f. (outside s q).1 (f (number s q) (rounded s m e)))

-- And it is the number n exactly if that is the nearest multiple's and inside.
pub held_exactly : (x : Float) (n : ℤ) → (nearest_multiple x ≡ Some n) ↔ (Nearest x n × (Outside n → ⊥))
held_exactly x n = (
  λ (e : nearest_multiple x ≡ Some n).
      let h = nearest_32nd x n e in
      (h, λ (o : Outside n). not_both (sym e ∙ (too_far_exactly x).1 (λ k g. subst Outside (only_one h g) o))),
  λ h. go (nearest_multiple x) refl h.0 h.1,
)
  where
    go : (r : Option ℤ) → nearest_multiple x ≡ r → Nearest x n → (Outside n → ⊥) → nearest_multiple x ≡ Some n
    go (Some k) e h o = e ∙ ap Some (only_one (nearest_32nd x k e) h)
    go None e h o = absurd (o ((too_far_exactly x).0 e n h))

-- It is too far exactly unless -1024.015625 <= x < 1023.984375 as f64s compare, which a NaN doesn't.
pub too_far_from :
    (x : Float) → (nearest_multiple x ≡ None) ↔ ((le (neg (f64 0x4090_0010_0000_0000)) x && lt x (f64 0x408f_ffe0_0000_0000)) ≡ false)
too_far_from x = go (le lower x) refl (lt x upper) refl
  where
    go : (a : Bool) → le lower x ≡ a → (b : Bool) → lt x upper ≡ b → (nearest_multiple x ≡ None) ↔ ((a && b) ≡ false)
    go false h b k = (λ e. refl, λ e. sym (too_low x h))
    go true h false k = (λ e. refl, λ e. sym (too_high x k))
    go true h true k = (λ e. absurd (not_both (sym (found x h k).is ∙ e)), λ e. absurd (false≢true (sym e)))

-- A number that is held is one of a float of at most 1024.015625 in size.
pub held_size : (s : Bool) (m : ℕ) (e n : ℤ) → nearest_multiple (fin s m e) ≡ Some n → 64 * (m * up e) ≤ 65537 * down e
unfolding nearest_multiple
held_size false m e n i = elim (dec_le (closest (32 * (m * up e)) (down e)) 32767) [
  | yes h ↦ let k = (up_to m e).0 h in omega arith
  | no h ↦ absurd (not_both (sym i ∙ far_up (closest (32 * (m * up e)) (down e)) (omega arith)))
]
held_size true m e n i = elim (dec_le (closest (32 * (m * up e)) (down e)) 32768) [
  | yes h ↦ (down_to m e).0 h
  | no h ↦ absurd (not_both (sym i ∙ far_down (closest (32 * (m * up e)) (down e)) (omega arith)))
]
