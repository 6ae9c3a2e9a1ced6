-- Which pages there are in a layout.
-- Assumes nothing.
use Rattle.std.specs.Prelude.{◌≡◌, Bool, ℕ, zero, suc, ◌-◌, ◌/◌, ◌<◌, ◌≤◌}
use Rattle.page_ids.specs.Decode.{decoded, is_dynamic, is_fixed}
use Rattle.page_ids.specs.declared.Layout.{Layout}
use Rattle.store.specs.Mem.{fixed_count}

-- the fixed page ids in 01's order: 0 static, 1 calldata, 2 bootloader heap, 3 bootloader aux; past these a number that is no page id
abbrev pub fixed_id : Layout → ℕ → ℕ
fixed_id l zero = l.static_memory.0
fixed_id l (suc zero) = l.calldata.0
fixed_id l (suc (suc zero)) = l.bootloader_heap.0
fixed_id l (suc (suc (suc zero))) = l.bootloader_aux.0
fixed_id l (suc (suc (suc (suc i)))) = 4294967296

-- 01's rule of refusal 1, as it holds of a memory: the four fixed page ids are distinct, and the stride is not below 4
pub record LayoutRule (l : Layout) : Type 0 where
  pub distinct : (i j : ℕ) → i < j → j < fixed_count → fixed_id l i ≡ fixed_id l j → ⊥
  pub stride : 4 ≤ l.stride

unfoldable pub fixed : Layout → ℕ → Bool
fixed l p = is_fixed (decoded l p)

unfoldable pub dynamic : Layout → ℕ → Bool
dynamic l p = is_dynamic (decoded l p)

-- the group of a dynamic page
abbrev pub group : Layout → ℕ → ℕ
group l p = (p - l.base.0) / l.stride

-- the journals: how many there are, the place of journal j's page among the fixed ones (4, which none has, where there is no journal j), and its page id
abbrev pub journal_count : ℕ
journal_count = 2

abbrev pub journal_place : ℕ → ℕ
journal_place zero = 2
journal_place (suc zero) = 3
journal_place (suc (suc j)) = 4

abbrev pub journal_page : Layout → ℕ → ℕ
journal_page l j = fixed_id l (journal_place j)

-- j is the number of page p's journal, or p has none and j is the number of journals
pub record JournalOf (l : Layout) (p j : ℕ) : Type 0 where
  pub most : j ≤ journal_count
  pub own : j < journal_count → p ≡ journal_page l j
  pub none : journal_count ≤ j → (i : ℕ) → i < journal_count → p ≡ journal_page l i → ⊥
