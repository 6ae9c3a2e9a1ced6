-- Hints: what a search by hint asks, and that a memory means the same with other hints.
-- Assumes nothing.
use mathlib.Core.Path.{◌≡◌, refl, sym, ◌∙◌}
use mathlib.Core.List.{List}
use Prim.Native.Nat.{ℕ, ◌+◌, ◌≤◌}
use native.Mathlib.Omega.{arith}
use lib.ListN.{length, take, drop, length-drop}
use lib.Seq.{get_or-take, get_or-drop, length-take-le}
use borrow.Author.Tests.{le-leb}
use Rattle.index.proofs.Orders.{index_count}
use Rattle.index.proofs.Counts.{count_le}
use Rattle.index.proofs.Meaning.{index_upto}
use Rattle.store.specs.Mem.{Mem, mem, slot_count, page_count, held_now, in_use, holders, entries, slot_order, page_order}
use Rattle.store.specs.Find.{slot_for, Findable, HintLearnt}
use Rattle.formed.specs.Parts.{slot_of_chunk}
use Rattle.formed.specs.WellFormed.{WellFormed}
use Rattle.formed.proofs.Facts.{Facts}
use Rattle.formed.proofs.Sizes.{holders_long, entries_long, lengths_kept}
use Rattle.formed.proofs.Asks.{slots_asked, pages_asked}
use Rattle.formed.proofs.Meaning.{facts_of, formed_by}

module _ (m : Mem) (f : WellFormed m) where
  pub find_asked : Findable m.keys m.order m.words
  find_asked =
      let k = f.lengths.in_keys in
      let o = f.lengths.in_order in
      let c = f.lengths.chunks_hi in
      let p = f.lengths.pages_hi in
      record { slots = slots_asked m f; pages = pages_asked m f; few = omega arith; hints = omega arith }

  -- what a lookup finds is the chunk's slot
  pub slot_found : (p k : ℕ) → k ≤ 16777216 → slot_for m.keys m.words p k ≡ slot_of_chunk m p k
  unfolding slot_of_chunk
  slot_found p k l = rw (le-leb k 16777216 l)

  module _ (order' : List ℕ) (h : HintLearnt m.order m.words order') where
    abbrev c : ℕ
    c = slot_count m.words

    abbrev m' : Mem
    m' = mem m.bytes m.keys order' m.words

    g : Facts m
    g = facts_of m f

    o_long : c + page_count m.words + 4 ≤ length order'
    o_long = let l = f.lengths.in_order in let q = h.long in omega arith

    pub learnt_formed : WellFormed m'
    learnt_formed = formed_by m' record {
      lengths = lengths_kept m m' (record { slots = refl; pages = refl; journals = refl; bytes_long = refl; keys_long = refl; order_long = h.long; words_long = refl }) g.lengths;
      layout = g.layout;
      layout_width = g.layout_width;
      length_width = g.length_width;
      slots =
          let n = index_count (holders m) (slot_order m) (held_now m.words) g.slots in
          let few = count_le (holders m) in
          let hl = holders_long m f.lengths in
          let ol = o_long in
          let tl = length-take-le c order' (omega arith) in
          index_upto (holders m) (slot_order m) (take c order') (held_now m.words) (omega arith)
          (λ i li. get_or-take c order' i 0 (omega arith) ∙ h.kept i (omega arith) ∙ sym (get_or-take c m.order i 0 (omega arith))) g.slots;
      pages =
          let n = index_count (entries m) (page_order m) (in_use m.words) g.pages in
          let few = count_le (entries m) in
          let el = entries_long m f.lengths in
          let ol = o_long in
          let dl = length-drop c order' in
          index_upto (entries m) (page_order m) (drop c order') (in_use m.words) (omega arith)
          (λ i li. get_or-drop c order' i 0 ∙ h.kept (c + i) (omega arith) ∙ sym (get_or-drop c m.order i 0)) g.pages;
      fixed_four = g.fixed_four;
      listed = g.listed;
      pooled = g.pooled;
      held = λ s p. let x = g.held s p in record { entry = x.entry; top = x.top; tail = x.tail };
      pool = g.pool;
      in_capacity = g.in_capacity;
      notes = λ j i l li. let x = g.notes j i l li in record { address = x.address; first = x.first; last = x.last };
    }
