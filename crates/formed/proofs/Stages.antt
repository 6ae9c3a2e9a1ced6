-- What a passed test says that a later test asks.
-- Assumes nothing.
use mathlib.Core.Path.{◌≡◌}
use mathlib.Core.Bool.{true, not, ◌&&◌}
use mathlib.Core.List.{List}
use Prim.Native.Nat.{ℕ}
use Rattle.page_ids.specs.Decode.{bad_layout}
use Rattle.index.specs.Index.{used_count, indexed}
use Rattle.index.proofs.Orders.{index_count}
use Rattle.index.proofs.Logic.{and_left}
use Rattle.store.specs.Mem.{Mem, layout_of, held_now, in_use, holders, entries, slot_order, page_order}
use Rattle.formed.specs.Formed.{narrow, head_right}

pub head_narrow : (w : List ℕ) → head_right w ≡ true → narrow w ≡ true
unfolding head_right
head_narrow w h = and_left (narrow w) (not (bad_layout (layout_of w))) h

-- the keys in use are counted
pub tables_used : (m : Mem) → (indexed (holders m) (slot_order m) (held_now m.words) && indexed (entries m) (page_order m) (in_use m.words)) ≡ true → used_count (holders m) ≡ held_now m.words
tables_used m x =
    index_count (holders m) (slot_order m) (held_now m.words)
    (and_left (indexed (holders m) (slot_order m) (held_now m.words)) (indexed (entries m) (page_order m) (in_use m.words)) x)
