-- Memories and what they show.
-- Assumes nothing.
use mathlib.Core.Path.{◌≡◌, ap, ◌∙◌}
use mathlib.Core.List.{[]}
use Prim.Native.Nat.{ℕ, ◌+◌, ◌≤◌, ◌<◌}
use lib.ListN.{length, get_or}
use borrow.Author.Tests.{lt-ltb, le-ltb}
use Rattle.formed.proofs.Same.{tab_long}
use Rattle.store.specs.Mem.{Mem, journal_length}
use Rattle.formed.specs.Pages.{journal_count}
use Rattle.formed.specs.Parts.{journal, note_address, old_place, tab}
use Rattle.view.specs.View.{View, Setting, setting_of, view_of}
use Rattle.view.specs.Does.{Shows}

-- a step after another
pub shows_then : (s : Setting) (v : View) (m₁ m₂ : Mem) (step : View → View) → Shows s v m₁ → Shows (setting_of m₁) (step (view_of m₁)) m₂ → Shows s (step v) m₂
shows_then s v m₁ m₂ step a b = record { formed = b.formed; setting = b.setting ∙ a.setting; view = b.view ∙ ap step a.view }

pub shows_same : (s : Setting) (v w : View) (m : Mem) → v ≡ w → Shows s v m → Shows s w m
shows_same s v w m e a = record { formed = a.formed; setting = a.setting; view = a.view ∙ e }

-- the journals of the view
module _ (m : Mem) (j : ℕ) where
  pub journal_at : j < journal_count → (view_of m).journal j ≡ journal m j
  journal_at l = rw (lt-ltb j journal_count l)

  pub journal_none : journal_count ≤ j → (view_of m).journal j ≡ []
  journal_none l = rw (le-ltb j journal_count l)

  pub journal_long : j < journal_count → length ((view_of m).journal j) ≡ journal_length m.words j
  unfolding journal
  journal_long l = ap length (journal_at l) ∙ tab_long (journal_length m.words j) (λ i. record { address = note_address m j i; old = tab 32 (λ k. get_or m.bytes (old_place m.words j i + k) 0) })
