-- A memory shows the same with other hints.
-- Assumes nothing.
use mathlib.Core.Path.{◌≡◌, refl, ap, ◌∙◌}
use mathlib.Core.Bool.{cond}
use mathlib.Core.List.{List, []}
use Prim.Native.Nat.{ℕ}
use lib.Dec.{ltb}
use Rattle.store.specs.Mem.{Mem, mem}
use Rattle.store.specs.Find.{HintLearnt}
use Rattle.formed.specs.Pages.{journal_count}
use Rattle.formed.specs.Parts.{Note, slot_of_chunk, holds, allocated, byte_at, journal}
use Rattle.formed.proofs.Hints.{learnt_formed}
use Rattle.view.specs.View.{View, Setting, view_of}
use Rattle.view.specs.Does.{Shows}
use Rattle.view.proofs.Equal.{view_by}

-- nothing of the view is read off the order
module _ (m : Mem) (order' : List ℕ) where
  abbrev m' : Mem
  m' = mem m.bytes m.keys order' m.words

  byte_same : (p a : ℕ) → byte_at m' p a ≡ byte_at m p a
  unfolding byte_at slot_of_chunk
  byte_same p a = refl

  held_same : (p k : ℕ) → holds m' p k ≡ holds m p k
  unfolding holds slot_of_chunk
  held_same p k = refl

  allocated_same : (p : ℕ) → allocated m' p ≡ allocated m p
  unfolding allocated
  allocated_same p = refl

  journal_same : (j : ℕ) → journal m' j ≡ journal m j
  unfolding journal
  journal_same j = refl

  pub order_free : view_of m' ≡ view_of m
  order_free = view_by (view_of m') (view_of m) byte_same held_same refl allocated_same refl refl (λ j. ap (λ (x : List Note). cond (ltb j journal_count) x []) (journal_same j))

pub learnt_shows : (s : Setting) (v : View) (m : Mem) (order' : List ℕ) → Shows s v m → HintLearnt m.order m.words order' → Shows s v (mem m.bytes m.keys order' m.words)
learnt_shows s v m order' a h = record { formed = learnt_formed m a.formed order' h; setting = a.setting; view = order_free m order' ∙ a.view }
