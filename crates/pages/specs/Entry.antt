-- An entry is given to a page: what that asks, and what it leaves. Which free entry is taken stays open.
-- Assumes nothing.
use Rattle.std.specs.Prelude.{◌≡◌, true, List, ℕ, ◌+◌, ◌≤◌, ◌<◌, max, length, get_or, set, take, drop}
use Rattle.index.specs.Index.{indexed, seek}
use Rattle.store.specs.Mem.{in_use_place, dynamic_length_place, layout_of, slot_count, in_use, dynamic_length}
use Rattle.store.specs.Indexed.{PagesIndexed}
use Rattle.formed.specs.Pages.{group}

-- no entry lists page p, one is free, and p lies at or above the base of the dynamic pages
pub record EntryAsks (keys order words : List ℕ) (p : ℕ) : Type 0 where
  pub pages : PagesIndexed keys order words
  pub few : length keys ≤ slot_count words + 4100
  pub none : length (drop (slot_count words) keys) ≤ seek (drop (slot_count words) keys) (p + 1)
  pub room : in_use words < length (drop (slot_count words) keys)
  pub order_room : in_use words < length (drop (slot_count words) order)
  pub above : (layout_of words).base.0 ≤ p
  pub stride : 0 < (layout_of words).stride

-- keys', order', words' are keys, order, words after `entry`, which was free, was given to page p
pub record EntryTaken (p entry : ℕ) (keys order words keys' order' words' : List ℕ) : Type 0 where
  pub entry_in : entry < length (drop (slot_count words) keys)
  pub free : get_or (drop (slot_count words) keys) entry 0 ≡ 0
  pub holders_are : take (slot_count words) keys' ≡ take (slot_count words) keys
  pub entries_are : drop (slot_count words) keys' ≡ set (drop (slot_count words) keys) entry (p + 1)
  pub slots_order : take (slot_count words) order' ≡ take (slot_count words) order
  pub index : indexed (drop (slot_count words) keys') (drop (slot_count words) order') (in_use words + 1) ≡ true
  pub words_are : words' ≡ set (set words in_use_place (in_use words + 1)) dynamic_length_place (max (dynamic_length words) (group (layout_of words) p + 1))
