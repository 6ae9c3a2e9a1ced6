-- A covering, slot by slot and entry by entry: what the loops find, and what it says of the views.
-- Assumes nothing.
use mathlib.Core.Path.{◌≡◌, refl, sym, ap, ◌∙◌}
use mathlib.Core.Logic.{⊎_elim}
use mathlib.Core.Bool.{true, false}
use Prim.Native.Nat.{ℕ, ◌+◌, ◌*◌, ◌-◌, ◌/◌, ◌%◌, ◌≤◌, ◌<◌}
use native.Mathlib.Omega.{arith}
use lib.ListN.{length, get_or}
use borrow.Author.Tests.{lt-ltb, le-ltb, ltb-true}
use Rattle.store.specs.Keys.{key_of, key_entry, key_chunk}
use Rattle.index.specs.Index.{seek}
use Rattle.index.proofs.Logic.{lt_or_ge}
use Rattle.index.proofs.Places.{seek_hit, seek_upto}
use Rattle.store.specs.Mem.{Mem, page_count, holders, entries, chunk_bytes}
use Rattle.formed.specs.Parts.{entry_of, allocated, slot_of_chunk, holds, byte_at}
use Rattle.formed.specs.WellFormed.{holder, slot_byte, HeldAt, WellFormed}
use Rattle.formed.proofs.Keys.{in_table}
use Rattle.formed.proofs.Sizes.{entries_long}
use Rattle.formed.proofs.Meaning.{facts_of}
use Rattle.formed.proofs.Sense.{slot_near, held_holds, holds_held, held_byte}
use Rattle.view.specs.View.{view_of}
use Rattle.compare.specs.Covers.{covers}
use Rattle.compare.proofs.Halves.{covers_by, page_lost, byte_lost}

-- the page of slot s
abbrev pub slot_page : Mem → ℕ → ℕ
slot_page m s = get_or (entries m) (key_entry (holder m s)) 0 - 1

-- the byte of n at the place of byte r of slot s of m
abbrev pub beside : Mem → Mem → ℕ → ℕ → ℕ
beside m n s r = byte_at n (slot_page m s) (256 * key_chunk (holder m s) + r)

-- slot s of m has n's bytes
abbrev pub Agrees : Mem → Mem → ℕ → Type 0
Agrees m n s = (r : ℕ) → r < 256 → slot_byte m s r ≡ beside m n s r

-- the page at entry e of m, if there is one, has an entry of n
abbrev pub Has : Mem → Mem → ℕ → Type 0
Has m n e = 0 < get_or (entries m) e 0 → seek (entries n) (get_or (entries m) e 0) < length (entries n)

module _ (m : Mem) (f : WellFormed m) where
  pub held_at : (s : ℕ) → 0 < holder m s → HeldAt m s (slot_page m s) (key_chunk (holder m s))
  held_at s pos = let g = ((facts_of m f).held s pos).entry in record { held = pos; page = omega arith; chunk = refl }

  -- page ids of entries have 32 bits
  pub entry_width : (e : ℕ) → 0 < get_or (entries m) e 0 → get_or (entries m) e 0 ≤ 4294967296
  entry_width e pos =
      ⊎_elim
      (λ (low : e < 4). let w = (facts_of m f).layout_width e (omega arith) in let q = (facts_of m f).fixed_four e low in omega arith)
      (λ (high : 4 ≤ e). ((facts_of m f).listed e high pos).width)
      (lt_or_ge e 4)

  page_there : (e : ℕ) → 0 < get_or (entries m) e 0 → allocated m (get_or (entries m) e 0 - 1) ≡ true
  unfolding allocated
  page_there e pos =
      let i = in_table (entries m) e pos in
      let u = seek_upto (entries m) (get_or (entries m) e 0 - 1 + 1) e i (omega arith) in
      lt-ltb (entry_of m (get_or (entries m) e 0 - 1)) (length (entries m)) (omega arith)

module _ (m n : Mem) (f : WellFormed m) (g : WellFormed n) where
  -- ---- no difference
  page_has : ((e : ℕ) → e < page_count m.words + 4 → Has m n e) → (p : ℕ) → allocated m p ≡ true → allocated n p ≡ true
  unfolding allocated
  page_has has p y =
      let l = ltb-true (entry_of m p) (length (entries m)) y in
      let q = seek_hit (entries m) (p + 1) l in
      let e = entries_long m f.lengths in
      let h = has (entry_of m p) (omega arith) (omega arith) in
      lt-ltb (entry_of n p) (length (entries n)) (rw q at h)

  byte_agrees : ((s : ℕ) → 0 < holder m s → Agrees m n s) → (p a : ℕ) → holds m p (a / 256) ≡ true → byte_at m p a ≡ byte_at n p a
  byte_agrees agree p a y =
      let h = holds_held m f p (a / 256) y in
      let s = slot_of_chunk m p (a / 256) in
      let q : 256 * (a / 256) + a % 256 ≡ a = omega arith in
      let pg : slot_page m s ≡ p = let w = h.page in omega arith in
      ap (byte_at m p) (sym q) ∙ held_byte m f s p (a / 256) (a % 256) h (omega arith) ∙ agree s h.held (a % 256) (omega arith)
      ∙ ap (λ (x : ℕ). byte_at n x (256 * key_chunk (holder m s) + a % 256)) pg ∙ ap (byte_at n p) (let c = h.chunk in let z : 256 * key_chunk (holder m s) + a % 256 ≡ a = omega arith in z)

  pub no_difference : ((e : ℕ) → e < page_count m.words + 4 → Has m n e) → ((s : ℕ) → 0 < holder m s → Agrees m n s) → covers (view_of m) (view_of n) ≡ true
  no_difference has agree = covers_by (view_of m) (view_of n) (page_has has) (byte_agrees agree)

  -- ---- a difference
  pub page_missing : (e : ℕ) → 0 < get_or (entries m) e 0 → length (entries n) ≤ seek (entries n) (get_or (entries m) e 0 - 1 + 1) → covers (view_of m) (view_of n) ≡ false
  unfolding allocated
  page_missing e pos l =
      let w = entry_width m f e pos in
      page_lost (view_of m) (view_of n) (get_or (entries m) e 0 - 1) (omega arith) (page_there m f e pos) (le-ltb (entry_of n (get_or (entries m) e 0 - 1)) (length (entries n)) l)

  pub byte_differs : (s r : ℕ) → 0 < holder m s → r < 256 → (slot_byte m s r ≡ beside m n s r → ⊥) → covers (view_of m) (view_of n) ≡ false
  byte_differs s r pos lr ne =
      let h = held_at m f s pos in
      let p = slot_page m s in
      let k = key_chunk (holder m s) in
      let b = held_byte m f s p k r h lr in
      let w = entry_width m f (key_entry (holder m s)) ((facts_of m f).held s pos).entry in
      let e : (256 * k + r) / 256 ≡ k = omega arith in
      ⊎_elim
      (λ (u : 256 * k + r < 4294967327). byte_lost (view_of m) (view_of n) p (256 * k + r) (omega arith) u (rw e (held_holds m f s p k h)) (λ q. ne (sym b ∙ q)))
      (λ (u : 4294967327 ≤ 256 * k + r). absurd (ne (sym b ∙ f.zero_past p (256 * k + r) (omega arith) ∙ sym (g.zero_past p (256 * k + r) (omega arith)))))
      (lt_or_ge (256 * k + r) 4294967327)

  -- ---- where n has the bytes: h is the entry there of the page at entry e, t the slot of the chunk
  pub beside_is : (s e h t : ℕ) → 0 < holder m s → key_entry (holder m s) ≡ e → h ≡ entry_of n (get_or (entries m) e 0 - 1) → t ≡ seek (holders n) (key_of h (key_chunk (holder m s))) → (r : ℕ) → r < 256
      → beside m n s r ≡ get_or (chunk_bytes n) (256 * t + r) 0
  unfolding byte_at
  beside_is s e h t pos ke eh et r lr =
      let k = key_chunk (holder m s) in
      let a : (256 * k + r) / 256 ≡ k = omega arith in
      let b : (256 * k + r) % 256 ≡ r = omega arith in
      let top = ((facts_of m f).held s pos).top in
      let q : slot_of_chunk n (slot_page m s) k ≡ t =
      slot_near n (slot_page m s) k top ∙ ap (λ (x : ℕ). seek (holders n) (key_of (entry_of n (get_or (entries m) x 0 - 1)) k)) ke ∙ ap (λ (x : ℕ). seek (holders n) (key_of x k)) (sym eh) ∙ sym et in
      rw (a, b, q)
