-- The fields of a line, taken one after the other.
-- Assumes nothing.
use mathlib.Core.Path.{◌≡◌, refl, sym, ap, ◌∙◌}
use mathlib.Core.Bool.{Bool, true, false, cond, not}
use mathlib.Core.List.{List, [], ◌∷◌}
use Prim.Native.Nat.{ℕ, zero, suc, ◌+◌, ◌-◌, ◌<◌}
use native.Mathlib.Numerals.{add-one}
use native.Mathlib.Omega.{arith}
use lib.Dec.{eqb, ltb}
use lib.ListN.{length, get_or, take, drop, length-drop}
use lib.Seq.{take_all}
use lib.Pointwise.{pointwise_long}
use Rattle.std.specs.Prelude.{None, Some}
use Rattle.std.specs.Str.{bytes_eq}
use Rattle.std.specs.List.{position, position_or_len}
use Rattle.std.proofs.lemmas.Bool.{ltb-false}
use Rattle.std.proofs.lemmas.List.Sums.{prefix_len_passes}
use Rattle.std.proofs.lemmas.List.Quantifiers.{position-Some}
use Rattle.trace.specs.Language.{fields, on_first, numbers}

-- ---- fields
fields_here : (b : ℕ) (bs : List ℕ) → eqb b 32 ≡ true → fields (b ∷ bs) ≡ [] ∷ fields bs
unfolding fields
fields_here b bs e = rw e

fields_there : (b : ℕ) (bs : List ℕ) → eqb b 32 ≡ false → fields (b ∷ bs) ≡ on_first b (fields bs)
unfolding fields
fields_there b bs n = rw n

fields_none : fields [] ≡ [] ∷ []
unfolding fields
fields_none = refl

abbrev space : ℕ → Bool
space b = eqb b 32

split : (s : List ℕ) (e : ℕ) → e < length s → space (get_or s e 0) ≡ true → ((k : ℕ) → k < e → space (get_or s k 0) ≡ false) → fields s ≡ take e s ∷ fields (drop (suc e) s)
split [] e l h n = absurd (omega arith)
split (b ∷ bs) zero l h n = fields_here b bs h
split (b ∷ bs) (suc e) l h n = fields_there b bs (n 0 (omega arith)) ∙ ap (on_first b) (split bs e (omega arith) h (λ k m. n (suc k) (omega arith)))

no_space : (s : List ℕ) → ((k : ℕ) → k < length s → space (get_or s k 0) ≡ false) → fields s ≡ s ∷ []
no_space [] n = fields_none
no_space (b ∷ bs) n = fields_there b bs (n 0 (omega arith)) ∙ ap (on_first b) (no_space bs (λ k m. n (suc k) (omega arith)))

-- a line's first field ends at its first space, and the others start after it
pub first_field : (s : List ℕ) (e : ℕ) → Some e ≡ position space s → fields s ≡ take e s ∷ fields (take (length s - (e + 1)) (drop (e + 1) s))
first_field s e q =
    let f = position-Some space s e 0 (sym q) in
    let all : take (length s - (e + 1)) (drop (e + 1) s) ≡ drop (e + 1) s = take_all (length s - (e + 1)) (drop (e + 1) s) (omega (arith, length-drop (e + 1) s)) in
    rw (all, add-one e) (split s e f.0 f.1 f.2)

untaken : (t : Bool) (x : ℕ) → None ≡ cond t (Some x) None → t ≡ false
untaken true x e = cc
untaken false x e = refl

not_true : (t : Bool) → not t ≡ true → t ≡ false
not_true true e = sym e
not_true false e = refl

pub only_field : (s : List ℕ) → None ≡ position space s → fields s ≡ s ∷ []
only_field s q =
    let p : ℕ → Bool = λ b. not (space b) in
    let l = ltb-false _ _ (untaken (ltb (position_or_len space s) (length s)) (position_or_len space s) q) in
    no_space s (λ k m. not_true (space (get_or s k 0)) (prefix_len_passes p s k 0 (omega arith)))

-- a line has a field
pub some_field : (s : List ℕ) → numbers [] (fields s) ≡ None
some_field [] = ap (numbers []) fields_none
some_field (b ∷ bs) = by_test (eqb b 32) refl
  where
    on_any : (fs : List (List ℕ)) → numbers [] (on_first b fs) ≡ None
    on_any [] = refl
    on_any (f ∷ fs) = refl

    by_test : (t : Bool) → eqb b 32 ≡ t → numbers [] (fields (b ∷ bs)) ≡ None
    by_test true e = ap (numbers []) (fields_here b bs e)
    by_test false e = ap (numbers []) (fields_there b bs e) ∙ on_any (fields bs)

-- ---- the same bytes
pub same_lengths_lem : (a b : List ℕ) → (length a ≡ length b → ⊥) → false ≡ bytes_eq a b
same_lengths_lem a b n = by_test (bytes_eq a b) refl
  where
    by_test : (t : Bool) → bytes_eq a b ≡ t → false ≡ t
    by_test true e = absurd (n (pointwise_long eqb a b e))
    by_test false e = refl
