-- The chunks of a range, held one after the other.
-- Assumes nothing.
use mathlib.Core.Path.{◌≡◌, refl, sym, ap, ◌∙◌}
use mathlib.Core.Bool.{Bool, true, cond}
use mathlib.Core.List.{List}
use Prim.Native.Nat.{ℕ, ◌+◌, ◌≤◌, ◌<◌}
use native.Mathlib.Omega.{arith}
use lib.ListN.{length, get_or, take}
use lib.Seq.{get_or-take, length-take-le, ext_get_or}
use borrow.Author.Tests.{ltb-true}
use Rattle.store.specs.Keys.{key_of, key_entry, key_chunk}
use Rattle.view.proofs.Missing.{missing_more, missing_one, missing_le}
use Rattle.formed.proofs.Asks.{slots_asked}
use Rattle.index.specs.Index.{seek, LowerBound}
use Rattle.index.proofs.Places.{seek_hit}
use Rattle.bits.specs.Bits.{ones_of}
use Rattle.store.specs.Mem.{Mem, mem, slot_count, pool_words, holders, entries, slot_order}
use Rattle.store.specs.Indexed.{Ranked}
use Rattle.pool.specs.Hold.{lacks, Held}
use Rattle.store.specs.Find.{HintLearnt}
use Rattle.pool.proofs.Holds.{held_le}
use Rattle.formed.specs.Parts.{entry_of, slot_of_chunk, allocated, holds}
use Rattle.formed.specs.WellFormed.{WellFormed}
use Rattle.formed.proofs.Keys.{key_entry_lem, key_chunk_lem}
use Rattle.formed.proofs.Meaning.{pooling_of}
use Rattle.formed.proofs.Sense.{slot_near}
use Rattle.view.specs.View.{View, Setting, view_of, setting_of}
use Rattle.view.specs.Steps.{missing}
use Rattle.view.specs.Does.{Shows}
use Rattle.view.specs.Inner.{holding, HoldAsks}
use Rattle.view.proofs.Hints.{learnt_shows}
use Rattle.chunks.proofs.Asks.{lacks_is}
use Rattle.chunks.proofs.Ranges.{next_held, holding_none, holding_more}
use Rattle.chunks.proofs.Taking.{Took, took, took_shows}

-- one chunk: what `hold` leaves of a well-formed memory, given the key of chunk n of the allocated page p
module _ (bytes keys order words : List ℕ) (f : WellFormed (mem bytes keys order words)) (p n k : ℕ) (listed : allocated (mem bytes keys order words) p ≡ true)
    (near : n ≤ 16777216) (is : k ≡ key_of (entry_of (mem bytes keys order words) p) n) where
  abbrev m : Mem
  m = mem bytes keys order words

  used : 0 < get_or (entries m) (key_entry k) 0
  unfolding allocated
  used =
      let l = ltb-true (entry_of m p) (length (entries m)) listed in
      let h = seek_hit (entries m) (p + 1) l in
      let e : key_entry k ≡ entry_of m p = ap key_entry is ∙ key_entry_lem (entry_of m p) n (omega arith) in
      let g : get_or (entries m) (key_entry k) 0 ≡ get_or (entries m) (entry_of m p) 0 = ap (λ (x : ℕ). get_or (entries m) x 0) e in
      omega arith

  pub held_took : (s : ℕ) (keys' order' words' : List ℕ) → Held k keys order words s keys' order' words' → Took k keys order words keys' order' words'
  held_took s keys' order' words' h = took k keys order words (slots_asked m f) (pooling_of m f) (omega arith) s keys' order' words' h

  pub held_shows : (s : ℕ) (keys' order' words' : List ℕ) → Held k keys order words s keys' order' words' → Shows (setting_of m) (holding p n 1 (view_of m)) (mem bytes keys' order' words')
  held_shows s keys' order' words' h =
      let c : key_chunk k ≡ n = ap key_chunk is ∙ key_chunk_lem (entry_of m p) n (omega arith) in
      took_shows bytes keys order words keys' order' words' f k (omega arith) used (omega arith) (held_took s keys' order' words' h) p n listed near is

-- m is m₀ after the n chunks from k on of page p were held; the pages stand at the entries where they stood
pub record After (m₀ : Mem) (p k n : ℕ) (m : Mem) : Type 0 where
  pub shows : Shows (setting_of m₀) (holding p k n (view_of m₀)) m
  pub pages : entries m ≡ entries m₀

pub after_none : (m : Mem) (p k : ℕ) → WellFormed m → After m p k 0 m
after_none m p k f = record { shows = record { formed = f; setting = refl; view = holding_none p k (view_of m) }; pages = refl }

-- the next one
module _ (m₀ : Mem) (p k count : ℕ) (asks : HoldAsks m₀ p k count) (i : ℕ) (more : i < count) (bytes keys order words : List ℕ) (a : After m₀ p k i (mem bytes keys order words))
    (e key : ℕ) (at : e ≡ entry_of m₀ p) (is : key ≡ key_of e (k + i)) where
  abbrev m₁ : Mem
  m₁ = mem bytes keys order words

  near : k + i ≤ 16777216
  near = let t = asks.top in omega arith

  entry_now : entry_of m₁ p ≡ entry_of m₀ p
  entry_now = ap (λ (x : List ℕ). seek x (p + 1)) a.pages

  key_now : key ≡ key_of (entry_of m₁ p) (k + i)
  key_now = let q = entry_now in omega arith

  listed_now : allocated m₁ p ≡ true
  listed_now = ap (λ (v : View). v.allocated p) a.shows.view ∙ asks.listed

  pub turn_room : lacks (take (slot_count words) keys) key ≤ ones_of (pool_words words)
  turn_room =
      let f = a.shows.formed in
      let l : lacks (holders m₁) key ≡ cond (holds m₀ p (k + i)) 0 1 =
      ap (lacks (holders m₁)) key_now ∙ lacks_is m₁ f p (k + i) near ∙ ap (λ (v : View). cond (v.held p (k + i)) 0 1) a.shows.view ∙ ap (λ (b : Bool). cond b 0 1) (next_held p k (view_of m₀) i) in
      let g = ap (λ (v : View). v.pool) a.shows.view in
      let s = missing_more ((view_of m₀).held p) k i in
      let t = missing_le ((view_of m₀).held p) k count (i + 1) (omega arith) in
      let r = asks.room in
      omega arith

  pub turn_after : (s : ℕ) (keys' order' words' : List ℕ) → Held key keys order words s keys' order' words' → After m₀ p k (i + 1) (mem bytes keys' order' words')
  turn_after s keys' order' words' h =
      let f = a.shows.formed in
      let d = held_shows bytes keys order words f p (k + i) key listed_now near key_now s keys' order' words' h in
      let w = held_took bytes keys order words f p (k + i) key listed_now near key_now s keys' order' words' h in
      record {
        shows = record {
          formed = d.formed;
          setting = d.setting ∙ a.shows.setting;
          view = d.view ∙ ap (holding p (k + i) 1) a.shows.view ∙ holding_more p k (view_of m₀) i;
        };
        pages = w.pages ∙ a.pages;
      }

-- ---- a rank
-- the key and the rank may be written as other sums
pub rank_by : {ks os : List ℕ} {n k r k' r' : ℕ} → k' ≡ k → r' ≡ r → LowerBound ks os n k r → LowerBound ks os n k' r'
rank_by d e ranked = rw (d, e) ranked

module _ (m : Mem) (f : WellFormed m) (k r : ℕ) (ranked : Ranked m.keys m.order m.words k r) where
  -- there are few slots, so few ranks
  pub rank_few : r ≤ 65536
  rank_few = let x = slots_asked m f in let l = x.few in let h = held_le m.keys m.order m.words x in let w = ranked.within in omega arith

  -- it is the same with other hints
  pub rank_learnt : (order' : List ℕ) → HintLearnt m.order m.words order' → Ranked m.keys order' m.words k r
  rank_learnt order' h = rw slots_kept ranked
    where
      slots_kept : take (slot_count m.words) order' ≡ slot_order m
      slots_kept =
          let c = slot_count m.words in
          let o = (slots_asked m f).in_order in
          let q = h.long in
          let l = length-take-le c order' (omega arith) in
          let l₀ = length-take-le c m.order o in
          ext_get_or 0 (take c order') (slot_order m) (l ∙ sym l₀) (λ i li. get_or-take c order' i 0 (omega arith) ∙ h.kept i (omega arith) ∙ sym (get_or-take c m.order i 0 (omega arith)))

-- ---- one after the other: a chunk by itself, and then the next one
-- with other hints
pub after_learnt : (m₀ : Mem) (p k n : ℕ) (m : Mem) → After m₀ p k n m → (order' : List ℕ) → HintLearnt m.order m.words order' → After m₀ p k n (mem m.bytes m.keys order' m.words)
after_learnt m₀ p k n m a order' h = record { shows = learnt_shows (setting_of m₀) (holding p k n (view_of m₀)) m order' a.shows h; pages = a.pages }

-- chunk n of page p by itself
module _ (bytes keys order words : List ℕ) (p n : ℕ) (asks : HoldAsks (mem bytes keys order words) p n 1) (key : ℕ) (is : key ≡ key_of (entry_of (mem bytes keys order words) p) n) where
  abbrev m₂ : Mem
  m₂ = mem bytes keys order words

  pub one_room : lacks (take (slot_count words) keys) key ≤ ones_of (pool_words words)
  one_room = turn_room m₂ p n 1 asks 0 (omega arith) bytes keys order words (after_none m₂ p n asks.formed) (entry_of m₂ p) key refl (omega arith)

  pub one_held : (s : ℕ) (keys' order' words' : List ℕ) → Held key keys order words s keys' order' words' → After m₂ p n 1 (mem bytes keys' order' words')
  one_held = turn_after m₂ p n 1 asks 0 (omega arith) bytes keys order words (after_none m₂ p n asks.formed) (entry_of m₂ p) key refl (omega arith)

  -- its slot, whatever the hints are then
  pub one_slot : (s : ℕ) (keys' order' words' : List ℕ) → Held key keys order words s keys' order' words' → (order'' : List ℕ) → s ≡ slot_of_chunk (mem bytes keys' order'' words') p n
  one_slot s keys' order' words' h order'' =
      let a = one_held s keys' order' words' h in
      let c : slot_count words' ≡ slot_count words = ap (λ (x : Setting). x.chunks) a.shows.setting in
      let e : entry_of (mem bytes keys' order'' words') p ≡ entry_of m₂ p = ap (λ (x : List ℕ). seek x (p + 1)) a.pages in
      sym (slot_near (mem bytes keys' order'' words') p n (let t = asks.top in omega arith)
      ∙ ap (λ (x : ℕ). seek (take x keys') (key_of (entry_of (mem bytes keys' order'' words') p) n)) c
      ∙ ap (λ (x : ℕ). seek (take (slot_count words) keys') (key_of x n)) e
      ∙ ap (seek (take (slot_count words) keys')) (sym is)
      ∙ sym h.slot)

-- .. and the next one
module _ (m₀ : Mem) (p k count : ℕ) (asks : HoldAsks m₀ p k count) (i : ℕ) (more : i < count) (m : Mem) (a : After m₀ p k i m) where
  pub next_key : (key : ℕ) → key ≡ key_of (entry_of m₀ p) k → key + i ≡ key_of (entry_of m p) (k + i)
  next_key key is = let q : entry_of m p ≡ entry_of m₀ p = ap (λ (x : List ℕ). seek x (p + 1)) a.pages in omega arith

  pub next_asks : HoldAsks m p (k + i) 1
  next_asks = record {
    formed = a.shows.formed;
    listed = ap (λ (v : View). v.allocated p) a.shows.view ∙ asks.listed;
    top = let t = asks.top in omega arith;
    room =
        let l : missing ((view_of m).held p) (k + i) 1 ≡ cond ((view_of m₀).held p (k + i)) 0 1 =
        missing_one ((view_of m).held p) (k + i) ∙ ap (λ (v : View). cond (v.held p (k + i)) 0 1) a.shows.view ∙ ap (λ (b : Bool). cond b 0 1) (next_held p k (view_of m₀) i) in
        let g = ap (λ (v : View). v.pool) a.shows.view in
        let s = missing_more ((view_of m₀).held p) k i in
        let t = missing_le ((view_of m₀).held p) k count (i + 1) (omega arith) in
        let r = asks.room in
        omega arith;
  }

  pub next_after : (m' : Mem) → Shows (setting_of m) (holding p (k + i) 1 (view_of m)) m' → entries m' ≡ entries m → After m₀ p k (i + 1) m'
  next_after m' d w = record {
    shows = record {
      formed = d.formed;
      setting = d.setting ∙ a.shows.setting;
      view = d.view ∙ ap (holding p (k + i) 1) a.shows.view ∙ holding_more p k (view_of m₀) i;
    };
    pages = w ∙ a.pages;
  }
