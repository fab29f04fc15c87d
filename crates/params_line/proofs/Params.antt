-- The fields of a line, each at its place. Assumes nothing.
use mathlib.Core.Path.{◌≡◌, refl, sym, ap, ap₂, ◌∙◌}
use mathlib.Core.Bool.{Bool, true, false, not, ◌&&◌, true≢false, false≢true}
use mathlib.Core.List.{List, [], ◌∷◌}
use Prim.Native.Nat.{ℕ, zero, suc, ◌+◌, ◌*◌, ◌-◌, ◌≤◌, ◌<◌}
use native.Mathlib.Nat.{le_of_suc-le-suc, not-suc-le-zero}
use native.Mathlib.Omega.{arith}
use borrow.Author.Tests.{lt-ltb, le-ltb}
use lib.ListN.{length, get_or, take, drop, length-drop, get_or-eq_default}
use lib.Seq.{take_all, take-take, drop-drop}
use Rattle.decimal.specs.Text.{tab, newline, same}
use Rattle.std.proofs.Common.{Option, is_some, unwrap_or}
use Rattle.hexadecimal.specs.Hex.{after}
use Rattle.params_line.specs.Params.{field, fielded, patterns, many, is_line, params_of}

-- what `hexadecimal::after` finds in a part of at most 17 bytes
pub in_chunk : (chunk : List ℕ) → length chunk ≤ 17 → after (tab ∷ []) chunk ≡ field chunk
in_chunk chunk h = ap (after (tab ∷ [])) (sym (take_all 17 chunk h))

-- a part of 17 bytes is judged as the line from there on
pub cut : (line : List ℕ) (m : ℕ) → m ≡ 17 → field (take m line) ≡ field line
cut line m e = ap (λ (k : ℕ). field (take k line)) e ∙ ap (after (tab ∷ [])) (take-take 17 17 line (omega arith))

-- ---- the loop over n fields, of which i are passed

module _ (line : List ℕ) (n i : ℕ) (h : i < n) where
  next : fielded (n - i) (drop (i * 17) line) ≡ (is_some (field (drop (i * 17) line)) && fielded (n - (i + 1)) (drop ((i + 1) * 17) line))
  unfolding fielded
  next =
      let m : n - i ≡ suc (n - (i + 1)) = omega arith in
      let k : i * 17 + 17 ≡ (i + 1) * 17 = omega arith in
      let d : drop 17 (drop (i * 17) line) ≡ drop ((i + 1) * 17) line = drop-drop 17 (i * 17) line ∙ ap (λ (j : ℕ). drop j line) k in
      ap (λ (j : ℕ). fielded j (drop (i * 17) line)) m
      ∙ ap (λ (s : List ℕ). is_some (field (drop (i * 17) line)) && fielded (n - (i + 1)) s) d

  module _ (b : Bool) (e : b ≡ is_some (field (drop (i * 17) line))) (d : fielded (n - i) (drop (i * 17) line) ≡ fielded n line) where
    joined : (b && fielded (n - (i + 1)) (drop ((i + 1) * 17) line)) ≡ fielded n line
    joined = ap (λ (t : Bool). t && fielded (n - (i + 1)) (drop ((i + 1) * 17) line)) e ∙ sym next ∙ d

    pub no_field : not b ≡ true → false ≡ fielded n line
    no_field t = by_value b refl
      where
        by_value : (a : Bool) → b ≡ a → false ≡ fielded n line
        by_value true q = absurd (false≢true (ap not (sym q) ∙ t))
        by_value false q = ap (λ (t : Bool). t && fielded (n - (i + 1)) (drop ((i + 1) * 17) line)) (sym q) ∙ joined

    pub a_field : not b ≡ false → fielded (n - (i + 1)) (drop ((i + 1) * 17) line) ≡ fielded n line
    a_field t = by_value b refl
      where
        by_value : (a : Bool) → b ≡ a → fielded (n - (i + 1)) (drop ((i + 1) * 17) line) ≡ fielded n line
        by_value true q = ap (λ (t : Bool). t && fielded (n - (i + 1)) (drop ((i + 1) * 17) line)) (sym q) ∙ joined
        by_value false q = absurd (true≢false (ap not (sym q) ∙ t))

pub none_fielded : (line : List ℕ) (n : ℕ) → fielded (n - 0) (drop (0 * 17) line) ≡ fielded n line
none_fielded line n =
    let m : n - 0 ≡ n = omega arith in
    ap (λ (j : ℕ). fielded j line) m

pub all_fielded : (line : List ℕ) (n i : ℕ) → n ≤ i → i ≤ n → fielded (n - i) (drop (i * 17) line) ≡ fielded n line → same (drop (n * 17) line) (newline ∷ []) ≡ fielded n line
unfolding fielded
all_fielded line n i h l d =
    let m : n - i ≡ 0 = omega arith in
    let k : n * 17 ≡ i * 17 = omega arith in
    ap (λ (j : ℕ). same (drop j line) (newline ∷ [])) k ∙ sym (ap (λ (j : ℕ). fielded j (drop (i * 17) line)) m) ∙ d

-- ---- the k-th pattern

pub pattern_at : (n k : ℕ) (rest : List ℕ) → k < n → get_or (patterns n rest) k 0 ≡ unwrap_or (field (drop (k * 17) rest)) 0
unfolding patterns
pattern_at zero k rest h = absurd (not-suc-le-zero h)
pattern_at (suc n) zero rest h = refl
pattern_at (suc n) (suc k) rest h =
    let j : 17 + k * 17 ≡ suc k * 17 = omega arith in
    pattern_at n k (drop 17 rest) (le_of_suc-le-suc h) ∙ ap (λ (s : List ℕ). unwrap_or (field s) 0) (drop-drop (k * 17) 17 rest ∙ ap (λ (i : ℕ). drop i rest) j)

pub patterns_length : (n : ℕ) (rest : List ℕ) → length (patterns n rest) ≡ n
unfolding patterns
patterns_length zero rest = refl
patterns_length (suc n) rest = ap suc (patterns_length n (drop 17 rest))

pub params_length : (line : List ℕ) → length (params_of line) ≡ many line
unfolding params_of
params_length line = patterns_length (many line) (drop 6 line)

-- as the code finds it
pub param_at : (line : List ℕ) (k s e : ℕ) → k < many line → s ≡ k * 17 + 6 → e ≡ s + 17 → (bits : Option ℕ) → bits ≡ after (tab ∷ []) (take (e - s) (drop s line)) → unwrap_or bits 0 ≡ get_or (params_of line) k 0
unfolding params_of
param_at line k s e h a b bits f =
    let m : e - s ≡ 17 = omega arith in
    let j : s ≡ 6 + k * 17 = omega arith in
    ap (λ (o : Option ℕ). unwrap_or o 0) (f ∙ ap (λ (n : ℕ). after (tab ∷ []) (take n (drop s line))) m)
    ∙ ap (λ (n : ℕ). unwrap_or (field (drop n line)) 0) j
    ∙ sym (ap (λ (l : List ℕ). unwrap_or (field l) 0) (drop-drop (k * 17) 6 line))
    ∙ sym (pattern_at (many line) k (drop 6 line) h)

-- past the last there is none
pub param_past : (line : List ℕ) (k : ℕ) → many line ≤ k → 0 ≡ get_or (params_of line) k 0
param_past line k h = sym (get_or-eq_default (params_of line) 0 {n = k} (omega (arith, params_length line)))

-- what is left from i on, as the code takes it
pub whole_from : (line : List ℕ) (i : ℕ) → same (take (length line - i) (drop i line)) (newline ∷ []) ≡ same (drop i line) (newline ∷ [])
whole_from line i = ap (λ (s : List ℕ). same s (newline ∷ [])) (take_all (length line - i) (drop i line) (omega (arith, length-drop i line)))

-- ---- a line, as the code judges it

pub no_fields : (word line : List ℕ) → many line ≡ 0 → false ≡ is_line word line
unfolding is_line
no_fields word line e = simp (le-ltb 0 (many line) (omega arith))

module _ (word line : List ℕ) (n : ℕ) (e : n ≡ many line) (some : 0 < n) where
  above : 0 < many line
  above = omega arith

  pub that_word : same (take 6 line) word ≡ true → (r : Bool) → r ≡ fielded n (take (length line - 6) (drop 6 line)) → r ≡ is_line word line
  unfolding is_line
  that_word w r f =
      let whole : take (length line - 6) (drop 6 line) ≡ drop 6 line = take_all (length line - 6) (drop 6 line) (omega (arith, length-drop 6 line)) in
      simp (lt-ltb 0 (many line) above, w) (f ∙ ap₂ fielded e whole)

  pub other_word : same (take 6 line) word ≡ false → false ≡ is_line word line
  unfolding is_line
  other_word w = simp (lt-ltb 0 (many line) above, w)
