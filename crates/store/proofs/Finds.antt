-- A hint that passes its test names the slot that the indexes find.
-- Assumes nothing.
use Rattle.std.proofs.Common.{◌≡◌, ℕ, ◌+◌, ◌-◌, ◌/◌, ◌%◌, ◌^◌, ◌<◌, ◌≤◌, true, eqb, List, length, get_or, take, drop, set, sym, refl, ap, ◌∙◌, arith, length-drop, length-set, length-take-le, get_or-drop, get_or-set_other, get_or-take, eqb-true}
use Rattle.store.specs.Keys.{key_factor, key_of}
use Rattle.index.specs.Index.{seek}
use Rattle.index.proofs.Orders.{index_rises, index_count}
use Rattle.index.proofs.Places.{place_at, seek_hit, seek_le}
use Rattle.store.specs.Mem.{slot_count, page_count, held_now, in_use}
use Rattle.store.specs.Find.{slot_for, Findable, Names, Follows, HintLearnt}

module _ (keys words : List ℕ) (s p k : ℕ) where
  -- above is what is left of the key of slot s without its chunk number: a multiple of the factor, and not too large
  pub names_by : (above : ℕ) → s < slot_count words → (above + (k + 1)) % 2 ^ 64 ≡ get_or keys s 0 → k < 2 ^ 32 → above % key_factor ≡ 0 → above / key_factor < length keys - slot_count words → length keys ≤ 69636
      → eqb (get_or keys (slot_count words + above / key_factor) 0) (p + 1) ≡ true → Names keys words s p k
  names_by above l w small e m few q = record {
    slot_in = l;
    entry = above / key_factor;
    key = omega arith;
    entry_in = omega arith;
    page = eqb-true (get_or keys (slot_count words + above / key_factor) 0) (p + 1) q;
  }

  module _ (order : List ℕ) (f : Findable keys order words) (n : Names keys words s p k) where
    abbrev c : ℕ
    c = slot_count words

    entry_is : seek (drop c keys) (p + 1) ≡ n.entry
    entry_is =
        let ix = f.pages.index in
        let l = n.entry_in in
        place_at (drop c keys) (drop c order) (in_use words) (index_rises (drop c keys) (drop c order) (in_use words) ix) (index_count (drop c keys) (drop c order) (in_use words) ix) (p + 1) (omega arith) n.entry
        (let d = length-drop c keys in omega arith) (get_or-drop c keys n.entry 0 ∙ n.page)

    pub named : s ≡ slot_for keys words p k
    named =
        let ix = f.slots.index in
        let key : key_of (seek (drop c keys) (p + 1)) k ≡ key_of n.entry k = ap (λ (e : ℕ). key_of e k) entry_is in
        let l = n.slot_in in
        sym (ap (seek (take c keys)) key
        ∙ place_at (take c keys) (take c order) (held_now words) (index_rises (take c keys) (take c order) (held_now words) ix) (index_count (take c keys) (take c order) (held_now words) ix) (key_of n.entry k) (omega arith) s
        (let d = length-take-le c keys f.slots.in_keys in omega arith) (get_or-take c keys s 0 l ∙ n.key))

-- what `learn` leaves: the mask at the last place, and a hint past the numbers in use
module _ (order words : List ℕ) (room : slot_count words + page_count words + 4 < length order) (mask : ℕ) where
  abbrev masked : List ℕ
  masked = set order (length order - 1) mask

  pub mask_kept : (i : ℕ) → i < slot_count words + page_count words + 4 → get_or masked i 0 ≡ get_or order i 0
  mask_kept i l = get_or-set_other order (length order - 1) i mask 0 (λ e. omega arith)

  pub learnt_mask : HintLearnt order words masked
  learnt_mask = record { long = length-set order (length order - 1) mask; kept = mask_kept }

  pub learnt_hint : (h s : ℕ) → slot_count words + page_count words + 4 ≤ h → HintLearnt order words (set masked h s)
  learnt_hint h s l = record {
    long = length-set masked h s ∙ length-set order (length order - 1) mask;
    kept = λ i li. get_or-set_other masked h i s 0 (λ e. omega arith) ∙ mask_kept i li;
  }

-- there are few entries
pub entry_few : (keys order words : List ℕ) (p e : ℕ) → Findable keys order words → e ≡ seek (drop (slot_count words) keys) (p + 1) → e ≤ 69636
entry_few keys order words p e f q =
    let few = f.few in
    let l = seek_le (drop (slot_count words) keys) (p + 1) in
    let d = length-drop (slot_count words) keys in
    omega arith

-- a slot whose key follows that of a chunk's slot has the next chunk
pub next_slot : (keys order words : List ℕ) (p k s r : ℕ) → Findable keys order words → k ≤ 4294967296 → s ≡ slot_for keys words p k → s < slot_count words → r < slot_count words → Follows keys s r → r ≡ slot_for keys words p (k + 1)
next_slot keys order words p k s r f small e l m t =
    let c = slot_count words in
    let entry = seek (drop c keys) (p + 1) in
    let ix = f.slots.index in
    let d = length-take-le c keys f.slots.in_keys in
    let at : get_or (take c keys) s 0 ≡ key_of entry k = ap (λ (x : ℕ). get_or (take c keys) x 0) e ∙ seek_hit (take c keys) (key_of entry k) (omega (arith, e, d, l)) in
    let here : get_or keys s 0 ≡ key_of entry k = sym (get_or-take c keys s 0 l) ∙ at in
    let few = entry_few keys order words p entry f refl in
    let there : get_or keys r 0 ≡ key_of entry (k + 1) = sym t.key ∙ ap (λ (x : ℕ). (x + 1) % 2 ^ 64) here ∙ omega arith in
    sym (place_at (take c keys) (take c order) (held_now words) (index_rises (take c keys) (take c order) (held_now words) ix) (index_count (take c keys) (take c order) (held_now words) ix) (key_of entry (k + 1)) (omega arith) r (omega (arith, d, m)) (get_or-take c keys r 0 m ∙ there))
