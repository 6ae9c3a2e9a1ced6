-- Two views with the same parts are the same.
-- Assumes nothing.
use mathlib.Core.Path.{◌≡◌, ap, ◌∙◌, fun_ext}
use mathlib.Core.Bool.{Bool}
use mathlib.Core.List.{List}
use Prim.Native.Nat.{ℕ}
use Rattle.formed.specs.Parts.{Note}
use Rattle.view.specs.View.{View}

abbrev make : (ℕ → ℕ → ℕ) → (ℕ → ℕ → Bool) → ℕ → (ℕ → Bool) → ℕ → ℕ → (ℕ → List Note) → View
make b h p a e d j = record { bytes = b; held = h; pool = p; allocated = a; entries_left = e; dynamic_length = d; journal = j }

module _ (v w : View) (bytes : (p a : ℕ) → v.bytes p a ≡ w.bytes p a) (held : (p k : ℕ) → v.held p k ≡ w.held p k) (pool : v.pool ≡ w.pool)
    (allocated : (p : ℕ) → v.allocated p ≡ w.allocated p) (entries : v.entries_left ≡ w.entries_left) (dynamic : v.dynamic_length ≡ w.dynamic_length)
    (journal : (j : ℕ) → v.journal j ≡ w.journal j) where
  pub view_by : v ≡ w
  view_by =
      ap (λ (x : ℕ → ℕ → ℕ). make x v.held v.pool v.allocated v.entries_left v.dynamic_length v.journal) (fun_ext (λ p. fun_ext (λ a. bytes p a)))
      ∙ ap (λ (x : ℕ → ℕ → Bool). make w.bytes x v.pool v.allocated v.entries_left v.dynamic_length v.journal) (fun_ext (λ p. fun_ext (λ k. held p k)))
      ∙ ap (λ (x : ℕ). make w.bytes w.held x v.allocated v.entries_left v.dynamic_length v.journal) pool
      ∙ ap (λ (x : ℕ → Bool). make w.bytes w.held w.pool x v.entries_left v.dynamic_length v.journal) (fun_ext (λ p. allocated p))
      ∙ ap (λ (x : ℕ). make w.bytes w.held w.pool w.allocated x v.dynamic_length v.journal) entries
      ∙ ap (λ (x : ℕ). make w.bytes w.held w.pool w.allocated w.entries_left x v.journal) dynamic
      ∙ ap (λ (x : ℕ → List Note). make w.bytes w.held w.pool w.allocated w.entries_left w.dynamic_length x) (fun_ext (λ j. journal j))
