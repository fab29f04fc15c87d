-- The list after so many records. Assumes nothing.
use mathlib.Core.Path.{◌≡◌, refl, sym, ap, ap₂, ◌∙◌}
use mathlib.Core.List.{List, [], ◌∷◌, ◌++◌, append_assoc}
use Prim.Native.Nat.{ℕ, zero, suc, ◌+◌, ◌*◌, ◌≤◌, ◌<◌}
use native.Mathlib.Omega.{arith}
use lib.Ieee.{Float}
use lib.ListN.{length, take, drop, length-append, take-append-drop, length-drop}
use lib.Seq.{length-take-le, take-append-le, drop-append-le, take-append-add, drop-append-add}
use Rattle.exact.specs.F64.{f64}
use Rattle.little_endian.specs.Bytes.{value, bytes, float, floats, put}
use Rattle.little_endian.proofs.Laws.{length_bytes, length_floats, length_put, put_put, is_put}
use Rattle.given.specs.Given.{flag_number}
use Rattle.lens.specs.declared.Pixel.{Pixel}
use Rattle.observations.specs.declared.Observation.{Observation}
use Rattle.observation_bytes.specs.Bytes.{pixel_of, found_bytes, with_found, each}

-- ---- what is put into a record

module _ (o : Observation) where
  abbrev answer : List ℕ
  answer = floats (o.answer.0 ∷ o.answer.1 ∷ [])

  abbrev flag : List ℕ
  flag = bytes 1 (flag_number o.flag)

  abbrev number : List ℕ
  number = bytes 1 o.number

  long : (length answer ≡ 16) × (length flag ≡ 1) × (length number ≡ 1)
  long = (length_floats (o.answer.0 ∷ o.answer.1 ∷ []), length_bytes 1 (flag_number o.flag), length_bytes 1 o.number)

  pub found_length : length (found_bytes o) ≡ 18
  unfolding found_bytes
  found_length = omega (arith, long.0, long.1, long.2, length-append (answer ++ flag) number, length-append answer flag)

  -- one behind the other
  pub found_put : (list : List ℕ) (at : ℕ) → at + 18 ≤ length list → put (at + 17) number (put (at + 16) flag (put at answer list)) ≡ put at (found_bytes o) list
  unfolding found_bytes
  found_put list at h =
      ap (put (at + 17) number) (put_put at answer flag list (at + 16) (omega (arith, long.0)) (omega (arith, h, long.0, long.1)))
      ∙ put_put at (answer ++ flag) number list (at + 17) (omega (arith, long.0, long.1, length-append answer flag)) (omega (arith, h, long.0, long.1, long.2, length-append answer flag))

-- ---- bytes ahead of others, and behind others

module _ (p q : List ℕ) where
  ahead : (at : ℕ) → at + 8 ≤ length p → float (p ++ q) at ≡ float p at
  ahead at h =
      ap (λ (l : List ℕ). f64 (value (take 8 l))) (drop-append-le at p q (omega (arith, h)))
      ∙ ap (λ (l : List ℕ). f64 (value l)) (take-append-le 8 (drop at p) q (omega (arith, h, length-drop at p)))

  behind : (n at : ℕ) → n ≡ length p + at → float (p ++ q) n ≡ float q at
  behind n at e = ap (float (p ++ q)) e ∙ ap (λ (l : List ℕ). f64 (value (take 8 l))) (drop-append-add p q at)

  put_ahead : (new : List ℕ) → length p ≡ 40 → length new ≡ 18 → put 16 new (p ++ q) ≡ (take 16 p ++ new ++ drop 34 p) ++ q
  put_ahead new e n =
      let end : 16 + length new ≡ 34 = omega (arith, n) in
      is_put 16 new (p ++ q) (omega (arith, e, n, length-append p q))
      ∙ ap₂ (λ (l r : List ℕ). l ++ new ++ r) (take-append-le 16 p q (omega (arith, e))) (ap (λ (k : ℕ). drop k (p ++ q)) end ∙ drop-append-le 34 p q (omega (arith, e)))
      ∙ sym (append_assoc (take 16 p ++ new) (drop 34 p) q)

  put_behind : (new : List ℕ) (n at : ℕ) → n ≡ length p + at → at + length new ≤ length q → put n new (p ++ q) ≡ p ++ put at new q
  put_behind new n at e h =
      let end : n + length new ≡ length p + (at + length new) = omega (arith, e) in
      is_put n new (p ++ q) (omega (arith, e, h, length-append p q))
      ∙ ap₂ (λ (l r : List ℕ). l ++ new ++ r)
      (ap (λ (k : ℕ). take k (p ++ q)) e ∙ take-append-add p q at)
      (ap (λ (k : ℕ). drop k (p ++ q)) end ∙ drop-append-add p q (at + length new))
      ∙ ap (λ (l : List ℕ). l ++ drop (at + length new) q) (append_assoc p (take at q) new)
      ∙ append_assoc p (take at q ++ new) (drop (at + length new) q)
      ∙ ap (λ (l : List ℕ). p ++ l) (sym (is_put at new q h))

-- ---- records that are made of what is found of their pixels

module _ (find : Pixel → Observation) where
  abbrev pub made : List ℕ → List ℕ
  made bs = with_found bs (find (pixel_of bs))

  pub made_length : (bs : List ℕ) → length bs ≡ 40 → length (made bs) ≡ 40
  made_length bs e =
      let o = find (pixel_of bs) in
      omega (arith, e, found_length o, length-append (take 16 bs ++ found_bytes o) (drop 34 bs), length-append (take 16 bs) (found_bytes o), length-take-le 16 bs (omega (arith, e)), length-drop 34 bs)

  -- the record at the front of a list
  pub front : (bs : List ℕ) → 40 ≤ length bs → length (take 40 bs) ≡ 40
  front bs h = length-take-le 40 bs h

  pub each_length : (n : ℕ) (bs : List ℕ) → 40 * n ≤ length bs → length (each made n bs) ≡ length bs
  unfolding each
  each_length zero bs h = refl
  each_length (suc n) bs h =
      let p = take 40 bs in
      let q = drop 40 bs in
      omega (arith, h, length-append (made p) (each made n q), made_length p (front bs (omega (arith, h))), each_length n q (omega (arith, h, length-drop 40 bs)), length-drop 40 bs)

  -- the next record
  abbrev pub found_at : List ℕ → ℕ → List ℕ
  found_at bs at = found_bytes (find record { 0 = float bs at; 1 = float bs (at + 8) })

  pub one_more : (i : ℕ) (bs : List ℕ) → 40 * suc i ≤ length bs → put (40 * i + 16) (found_at (each made i bs) (40 * i)) (each made i bs) ≡ each made (suc i) bs
  unfolding each
  one_more zero bs h =
      let p = take 40 bs in
      let q = drop 40 bs in
      let whole : p ++ q ≡ bs = take-append-drop 40 bs in
      let e : length p ≡ 40 = front bs (omega (arith, h)) in
      ap (λ (l : List ℕ). put 16 (found_at l 0) l) (sym whole)
      ∙ ap (λ (new : List ℕ). put 16 new (p ++ q)) (ap₂ (λ (a b : Float). found_bytes (find record { 0 = a; 1 = b })) (ahead p q 0 (omega (arith, e))) (ahead p q 8 (omega (arith, e))))
      ∙ put_ahead p q (found_at p 0) e (found_length (find (pixel_of p)))
  one_more (suc j) bs h =
      let p = made (take 40 bs) in
      let r = drop 40 bs in
      let q = each made j r in
      let e : length p ≡ 40 = made_length (take 40 bs) (front bs (omega (arith, h))) in
      let room : 40 * suc j ≤ length r = omega (arith, h, length-drop 40 bs) in
      let long_q : length q ≡ length r = each_length j r (omega (arith, room)) in
      ap (λ (new : List ℕ). put (40 * suc j + 16) new (p ++ q)) (ap₂ (λ (a b : Float). found_bytes (find record { 0 = a; 1 = b })) (behind p q (40 * suc j) (40 * j) (omega (arith, e))) (behind p q (40 * suc j + 8) (40 * j + 8) (omega (arith, e))))
      ∙ put_behind p q (found_at q (40 * j)) (40 * suc j + 16) (40 * j + 16) (omega (arith, e)) (omega (arith, room, long_q, found_length (find record { 0 = float q (40 * j); 1 = float q (40 * j + 8) })))
      ∙ ap (λ (l : List ℕ). p ++ l) (one_more j r room)

-- ---- the loop, after i records

pub record Recordwise (find : Pixel → Observation) (list₀ : List ℕ) (count : ℕ) (list : List ℕ) (i : ℕ) : Type 0 where
  pub within : i ≤ count
  pub room : 40 * count ≤ length list₀
  pub is : list ≡ each (made find) i list₀

module _ (find : Pixel → Observation) (list₀ : List ℕ) (count : ℕ) where
  pub none : 40 * count ≤ length list₀ → Recordwise find list₀ count list₀ 0
  unfolding each
  none h = record { within = omega arith; room = h; is = refl }

  module _ (list : List ℕ) (i : ℕ) (inv : Recordwise find list₀ count list i) where
    pub as_long : length list ≡ length list₀
    as_long = ap length inv.is ∙ each_length find i list₀ (omega (arith, inv.within, inv.room))

    pub next : i < count → (after : List ℕ) → after ≡ put (40 * i + 16) (found_at find list (40 * i)) list → Recordwise find list₀ count after (i + 1)
    next h after e = record {
      within = omega (arith, h);
      room = inv.room;
      is = e ∙ ap (λ (l : List ℕ). put (40 * i + 16) (found_at find l (40 * i)) l) inv.is ∙ one_more find i list₀ (omega (arith, h, inv.room)) ∙ ap (λ (k : ℕ). each (made find) k list₀) (omega arith);
    }

    pub all : count ≤ i → list ≡ each (made find) count list₀
    all h = inv.is ∙ ap (λ (k : ℕ). each (made find) k list₀) (omega (arith, h, inv.within))
