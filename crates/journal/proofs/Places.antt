-- The slots of the chunks of a journal's page.
-- Assumes nothing.
use mathlib.Core.Path.{◌≡◌, sym, ap, ◌∙◌}
use mathlib.Core.Bool.{true}
use mathlib.Core.List.{List}
use Prim.Native.Nat.{ℕ, ◌+◌, ◌≤◌, ◌<◌}
use native.Mathlib.Omega.{arith}
use lib.ListN.{get_or}
use borrow.Author.Tests.{ltb-true}
use Rattle.store.specs.Keys.{key_of, key_entry, key_chunk}
use Rattle.index.specs.Index.{seek}
use Rattle.index.proofs.Places.{seek_hit}
use Rattle.store.specs.Mem.{Mem, mem, layout_of, slot_count, holders, entries}
use Rattle.store.specs.Indexed.{Indexed}
use Rattle.formed.specs.Pages.{journal_count, journal_place, journal_page}
use Rattle.formed.specs.Parts.{entry_of, slot_of_chunk, holds}
use Rattle.formed.specs.WellFormed.{WellFormed, HeldAt, holder}
use Rattle.formed.proofs.Sizes.{holders_long}
use Rattle.formed.proofs.Pages.{place_lt}
use Rattle.formed.proofs.Keys.{seek_is, key_entry_lem, key_chunk_lem}
use Rattle.formed.proofs.Meaning.{slots_index, page_once}
use Rattle.formed.proofs.Sense.{slot_near}

pub slots_indexed : (bytes keys order words : List ℕ) → WellFormed (mem bytes keys order words) → Indexed keys order words
slots_indexed bytes keys order words w = record {
  head = let h = w.lengths.in_words in omega arith;
  few = w.lengths.chunks_hi;
  in_keys = let h = w.lengths.in_keys in omega arith;
  in_order = let h = w.lengths.in_order in omega arith;
  index = slots_index (mem bytes keys order words) w;
}

module _ (m : Mem) (w : WellFormed m) (j : ℕ) (which : j < journal_count) where
  abbrev page : ℕ
  page = journal_page (layout_of m.words) j

  pub page_entry : entry_of m page ≡ journal_place j
  page_entry = seek_is (entries m) (page + 1) (journal_place j) (page_once m w) (omega arith) (w.encoded.fixed_four (journal_place j) (place_lt j which))

  -- a slot with a key of the page holds that chunk
  pub held_by : (s k : ℕ) → k ≤ 16777216 → holder m s ≡ key_of (journal_place j) k → HeldAt m s page k
  held_by s k near e = record {
    held = omega arith;
    page = ap (λ (x : ℕ). get_or (entries m) (key_entry x) 0) e ∙ ap (λ (x : ℕ). get_or (entries m) x 0) (key_entry_lem (journal_place j) k (omega arith)) ∙ w.encoded.fixed_four (journal_place j) (place_lt j which);
    chunk = ap key_chunk e ∙ key_chunk_lem (journal_place j) k (omega arith);
  }

  -- the slot of a key of the page
  module _ (k : ℕ) (near : k ≤ 16777216) where
    pub slot_is : slot_of_chunk m page k ≡ seek (holders m) (key_of (journal_place j) k)
    slot_is = slot_near m page k near ∙ ap (λ (x : ℕ). seek (holders m) (key_of x k)) page_entry

    -- what a search for the key finds
    pub slot_there : (s : ℕ) → s ≡ seek (holders m) (key_of (journal_place j) k) → slot_of_chunk m page k ≡ s
    slot_there s e = slot_is ∙ sym e

    module _ (s : ℕ) (e : slot_of_chunk m page k ≡ s) where
      pub slot_in : holds m page k ≡ true → s < slot_count m.words
      unfolding holds
      slot_in h = let b = ltb-true (slot_of_chunk m page k) (slot_count m.words) h in omega arith

      pub slot_key : holds m page k ≡ true → holder m s ≡ key_of (journal_place j) k
      slot_key h =
          let a = slot_in h in
          let l = holders_long m w.lengths in
          let q : s ≡ seek (holders m) (key_of (journal_place j) k) = sym e ∙ slot_is in
          ap (holder m) q ∙ seek_hit (holders m) (key_of (journal_place j) k) (omega arith)
