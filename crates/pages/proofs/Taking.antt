-- An entry is taken: what the calls on the parts of the entries ask, and what they leave.
-- Assumes nothing.
use mathlib.Core.Path.{◌≡◌, ap, ◌∙◌}
use mathlib.Core.Bool.{true}
use mathlib.Core.List.{List, ◌++◌}
use Prim.Native.Nat.{ℕ, ◌+◌, ◌-◌, ◌<◌, max}
use native.Mathlib.Omega.{arith}
use lib.ListN.{length, get_or, set, take, drop, length-drop}
use lib.Seq.{get_or-set_other}
use Rattle.index.specs.Index.{indexed, used_count, Insertable}
use Rattle.index.proofs.Orders.{index_count}
use Rattle.store.specs.Mem.{layout_of, slot_count, in_use}
use Rattle.store.proofs.Parts.{rest_low, rest_high, rest_part}
use Rattle.formed.specs.Pages.{group}
use Rattle.pages.specs.Entry.{EntryAsks, EntryTaken}

module _ (keys order words : List ℕ) (p : ℕ) (ix : EntryAsks keys order words p) where
  abbrev es : List ℕ
  es = drop (slot_count words) keys

  pub part_room : used_count (take (length keys - slot_count words) es) < length (take (length keys - slot_count words) es)
  part_room =
      let n = index_count es (drop (slot_count words) order) (in_use words) ix.pages.index in
      let r = ix.room in
      rw (rest_part keys (slot_count words)) (omega arith)

  pub in_use_few : in_use words < 4100
  in_use_few = let r = ix.room in let d = length-drop (slot_count words) keys in let f = ix.few in omega arith

  -- e is a free entry
  module _ (e : ℕ) (free : (e < length (take (length keys - slot_count words) es)) × (get_or (take (length keys - slot_count words) es) e 0 ≡ 0)) where
    entry_in : e < length es
    entry_in = rw (rest_part keys (slot_count words)) at free.0

    entry_free : get_or es e 0 ≡ 0
    entry_free = rw (rest_part keys (slot_count words)) at free.1

    pub entry_few : e < 4100
    entry_few = let l = entry_in in let d = length-drop (slot_count words) keys in let f = ix.few in omega arith

    pub insertable : Insertable (take (length keys - slot_count words) es) (take (length order - slot_count words) (drop (slot_count words) order)) (in_use words) e (p + 1)
    insertable = rw (rest_part keys (slot_count words), rest_part order (slot_count words)) record {
      index = ix.pages.index;
      room = ix.order_room;
      place = entry_in;
      free = entry_free;
      key = omega arith;
      new = ix.none;
    }

    pub taken : (e₁ e₂ words' : List ℕ) → e₁ ≡ set (take (length keys - slot_count words) es) e (p + 1)
        → indexed e₁ e₂ (in_use words + 1) ≡ true
        → words' ≡ set (set words 10 (in_use words + 1)) 11 (max (get_or (set words 10 (in_use words + 1)) 11 0) (group (layout_of words) p + 1))
        → EntryTaken p e keys order words (take (slot_count words) keys ++ (e₁ ++ drop (length keys - slot_count words) es)) (take (slot_count words) order ++ (e₂ ++ drop (length order - slot_count words) (drop (slot_count words) order))) words'
    taken e₁ e₂ words' q i w = record {
      entry_in = entry_in;
      free = entry_free;
      holders_are = rest_low keys e₁ (slot_count words) ix.pages.in_keys;
      entries_are = rest_high keys e₁ (slot_count words) ix.pages.in_keys ∙ q ∙ ap (λ (x : List ℕ). set x e (p + 1)) (rest_part keys (slot_count words));
      slots_order = rest_low order e₂ (slot_count words) ix.pages.in_order;
      index = rw (rest_high keys e₁ (slot_count words) ix.pages.in_keys, rest_high order e₂ (slot_count words) ix.pages.in_order) i;
      words_are = w ∙ ap (λ (x : ℕ). set (set words 10 (in_use words + 1)) 11 (max x (group (layout_of words) p + 1))) (get_or-set_other words 10 11 (in_use words + 1) 0 (λ z. omega arith));
    }
