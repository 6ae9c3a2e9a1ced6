-- The walk over pages, chunks and bytes: what holds on the way, and its steps.
-- Assumes nothing.
use mathlib.Core.Path.{◌≡◌, sym, ap, ◌∙◌}
use mathlib.Core.Logic.{⊎_elim}
use mathlib.Core.Bool.{true, false}
use Prim.Native.Nat.{ℕ, ◌+◌, ◌*◌, ◌-◌, ◌≤◌, ◌<◌}
use native.Mathlib.Omega.{arith}
use lib.ListN.{get_or}
use lib.Seq.{get_or-take, get_or-drop, length-take-le}
use borrow.Author.Count.{below_more}
use Rattle.store.specs.Keys.{key_of, key_entry, key_chunk}
use Rattle.index.specs.Index.{seek}
use Rattle.index.proofs.Logic.{lt_or_ge}
use Rattle.store.specs.Mem.{Mem, slot_count, page_count, held_now, holders, entries, slot_order, chunk_bytes}
use Rattle.formed.specs.WellFormed.{holder, slot_byte, WellFormed}
use Rattle.formed.proofs.Keys.{in_table}
use Rattle.formed.proofs.Sizes.{holders_long, entries_long}
use Rattle.formed.proofs.Meaning.{facts_of}
use Rattle.view.specs.View.{view_of}
use Rattle.compare.specs.Covers.{covers}
use Rattle.compare.proofs.Meaning.{Has, Agrees, beside, no_difference, page_missing, byte_differs, beside_is}

-- the slot at rank i
abbrev pub ranked : Mem → ℕ → ℕ
ranked m i = get_or m.order i 0

-- the first i slots of m's order have n's bytes, and the next is of entry e or a later one
pub record Ranks (m n : Mem) (e i : ℕ) : Type 0 where
  pub within : i ≤ held_now m.words
  pub agree : (k : ℕ) → k < i → Agrees m n (ranked m k)
  pub next : i < held_now m.words → e ≤ key_entry (holder m (ranked m i))

-- and n has the pages of m's entries below e
pub record Seen (m n : Mem) (e i : ℕ) : Type 0 where
  pub within : e ≤ page_count m.words + 4
  pub pages : (d : ℕ) → d < e → Has m n d
  pub ranks : Ranks m n e i

module _ (m : Mem) (f : WellFormed m) where
  -- an entry, as the keys have it
  pub entry_at : (e : ℕ) → get_or (entries m) e 0 ≡ get_or m.keys (slot_count m.words + e) 0
  entry_at e = get_or-drop (slot_count m.words) m.keys e 0

  pub held_few : held_now m.words ≤ slot_count m.words
  held_few =
      let r = f.encoded.slots.room in
      let o = f.lengths.in_order in
      let l = length-take-le (slot_count m.words) m.order (omega arith) in
      omega arith

  -- the slot at rank i
  module _ (i : ℕ) (l : i < held_now m.words) where
    ranked_is : get_or (slot_order m) i 0 ≡ ranked m i
    ranked_is = get_or-take (slot_count m.words) m.order i 0 (let h = held_few in omega arith)

    pub ranked_pos : 0 < holder m (ranked m i)
    ranked_pos = rw ranked_is at (f.encoded.slots.in_use i l)

    pub ranked_lt : ranked m i < slot_count m.words
    ranked_lt = let h = in_table (holders m) (ranked m i) ranked_pos in let g = holders_long m f.lengths in omega arith

    pub ranked_key : holder m (ranked m i) ≡ get_or m.keys (ranked m i) 0
    ranked_key = get_or-take (slot_count m.words) m.keys (ranked m i) 0 ranked_lt

  ranked_rises : (i : ℕ) → i + 1 < held_now m.words → holder m (ranked m i) < holder m (ranked m (i + 1))
  ranked_rises i l =
      let h = f.encoded.slots.rising i (i + 1) (omega arith) l in
      let a = ap (holder m) (ranked_is i (omega arith)) in
      let b = ap (holder m) (ranked_is (i + 1) l) in
      omega arith

  -- a held key's entry is in use
  held_entry : (s : ℕ) → 0 < holder m s → 0 < get_or (entries m) (key_entry (holder m s)) 0
  held_entry s pos = ((facts_of m f).held s pos).entry

module _ (m n : Mem) (f : WellFormed m) (g : WellFormed n) where
  -- ---- the steps
  pub seen_none : Seen m n 0 0
  seen_none = record {
    within = omega arith;
    pages = λ d l. absurd (omega arith);
    ranks = record { within = omega arith; agree = λ k l. absurd (omega arith); next = λ l. omega arith };
  }

  -- past a slot
  pub past_slot : (e i : ℕ) → i < held_now m.words → Ranks m n e i → Agrees m n (ranked m i) → Ranks m n e (i + 1)
  past_slot e i l r a = record {
    within = omega arith;
    agree = below_more _ _ r.agree a;
    next = λ h. let x = r.next l in let y = ranked_rises m f i h in omega arith;
  }

  -- past a page, whose slots end at rank i
  pub past_page : (e i₀ i : ℕ) → e < page_count m.words + 4 → Seen m n e i₀ → Has m n e → Ranks m n e i → (i < held_now m.words → e < key_entry (holder m (ranked m i))) → Seen m n (e + 1) i
  past_page e i₀ i l v has r next = record {
    within = omega arith;
    pages = below_more _ _ v.pages has;
    ranks = record { within = r.within; agree = r.agree; next = λ h. let x = next h in omega arith };
  }

  -- past a free entry, which no slot has
  pub past_free : (e i : ℕ) → e < page_count m.words + 4 → get_or m.keys (slot_count m.words + e) 0 ≡ 0 → Seen m n e i → Seen m n (e + 1) i
  past_free e i l z v =
      let x = entry_at m f e in
      past_page e i i l v (λ p. absurd (omega arith)) v.ranks (λ h.
      let y = v.ranks.next h in
      let w = held_entry m f (ranked m i) (ranked_pos m f i h) in
      ⊎_elim
      (λ (u : e < key_entry (holder m (ranked m i))). u)
      (λ (u : key_entry (holder m (ranked m i)) ≤ e).
      let k : key_entry (holder m (ranked m i)) ≡ e = omega arith in
      let q = ap (λ (d : ℕ). get_or (entries m) d 0) k in
      absurd (omega arith))
      (lt_or_ge e (key_entry (holder m (ranked m i)))))

  -- past all: no slot is left, since its entry would lie past the entries
  pub all_seen : (e i : ℕ) → page_count m.words + 4 ≤ e → Seen m n e i → covers (view_of m) (view_of n) ≡ true
  all_seen e i l v =
      let end : held_now m.words ≤ i =
      ⊎_elim
      (λ (h : i < held_now m.words).
      let y = v.ranks.next h in
      let w = in_table (entries m) (key_entry (holder m (ranked m i))) (held_entry m f (ranked m i) (ranked_pos m f i h)) in
      let k = entries_long m f.lengths in
      absurd (omega arith))
      (λ (h : held_now m.words ≤ i). h)
      (lt_or_ge i (held_now m.words)) in
      no_difference m n f g (λ d h. v.pages d (omega arith)) (λ s pos.
      let r = f.encoded.slots.complete s pos in
      let q = r.rank_lt in
      let is : ranked m r.rank ≡ s = sym (ranked_is m f r.rank q) ∙ r.is in
      rw is at (v.ranks.agree r.rank (omega arith)))

  -- ---- page e, looked up in n: h is its entry there
  module _ (e h : ℕ) (used : get_or m.keys (slot_count m.words + e) 0 ≡ 0 → ⊥) (is : h ≡ seek (entries n) (get_or m.keys (slot_count m.words + e) 0 - 1 + 1)) where
    same_id : get_or m.keys (slot_count m.words + e) 0 - 1 + 1 ≡ get_or (entries m) e 0
    same_id = let x = entry_at m f e in omega arith

    pub page_here_lem : h < page_count n.words + 4 → Has m n e
    page_here_lem l pos = let k = entries_long n g.lengths in let q = is ∙ ap (seek (entries n)) same_id in omega arith

    pub page_gone : page_count n.words + 4 ≤ h → covers (view_of m) (view_of n) ≡ false
    page_gone l =
        let k = entries_long n g.lengths in
        let x = entry_at m f e in
        let y : get_or m.keys (slot_count m.words + e) 0 - 1 + 1 ≡ get_or (entries m) e 0 - 1 + 1 = omega arith in
        let q = is ∙ ap (seek (entries n)) y in
        page_missing m n f g e (omega arith) (omega arith)

    -- ---- its slot at rank i: t is the slot of the same chunk in n
    module _ (i t : ℕ) (l : i < held_now m.words) (r : Ranks m n e i) (top : key_entry (get_or m.keys (ranked m i) 0) ≤ e)
        (at : t ≡ seek (holders n) (key_of h (key_chunk (get_or m.keys (ranked m i) 0)))) (j : ℕ) (lj : j < 256) where
      left_byte : slot_byte m (ranked m i) j ≡ get_or m.bytes (256 * ranked m i + j) 0
      left_byte = get_or-take (256 * slot_count m.words) m.bytes (256 * ranked m i + j) 0 (let x = ranked_lt m f i l in omega arith)

      right_byte : beside m n (ranked m i) j ≡ get_or (chunk_bytes n) (256 * t + j) 0
      right_byte =
          let k = ranked_key m f i l in
          let y = r.next l in
          let x = entry_at m f e in
          let p : get_or m.keys (slot_count m.words + e) 0 - 1 + 1 ≡ get_or (entries m) e 0 - 1 + 1 = omega arith in
          beside_is m n f g (ranked m i) e h t (ranked_pos m f i l) (omega arith) (is ∙ ap (seek (entries n)) p) (at ∙ ap (λ (z : ℕ). seek (holders n) (key_of h (key_chunk z))) (sym k)) j lj

      module _ (x : ℕ) (ex : x ≡ get_or (chunk_bytes n) (256 * t + j) 0) where
        pub byte_same : get_or m.bytes (256 * ranked m i + j) 0 ≡ x → slot_byte m (ranked m i) j ≡ beside m n (ranked m i) j
        byte_same q = left_byte ∙ q ∙ ex ∙ sym right_byte

        pub byte_other : (get_or m.bytes (256 * ranked m i + j) 0 ≡ x → ⊥) → covers (view_of m) (view_of n) ≡ false
        byte_other ne = byte_differs m n f g (ranked m i) j (ranked_pos m f i l) lj (λ q. ne (sym left_byte ∙ q ∙ right_byte ∙ sym ex))
