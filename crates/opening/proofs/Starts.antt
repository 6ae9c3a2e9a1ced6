-- A new memory is well formed, and shows the empty view.
-- Assumes nothing.
use mathlib.Core.Path.{◌≡◌, refl, sym, ap, ◌∙◌}
use mathlib.Core.Logic.{⊎_elim}
use mathlib.Core.Bool.{false, cond, not}
use mathlib.Core.List.{List, [], ◌∷◌, ◌++◌, append-nil}
use Prim.Native.Nat.{ℕ, zero, suc, ◌+◌, ◌*◌, ◌-◌, ◌/◌, ◌^◌, ◌≤◌, ◌<◌, min}
use native.Mathlib.Nat.{le_of_eq}
use native.Mathlib.Omega.{arith}
use lib.Dec.{ltb}
use lib.ListN.{length, get_or, set, take, drop, replicate, length-append, length-drop, length-replicate, drop_of_length-le}
use lib.Seq.{length-take-le, get_or-drop, get_or-append-add}
use borrow.Author.Tests.{le-ltb}
use Rattle.index.proofs.Logic.{both_ways, not_held}
use Rattle.bits.specs.Bits.{free_word}
use Rattle.bits.proofs.Free.{free_zeros}
use Rattle.store.specs.Mem.{Mem, mem, pool_length, pool_place, pool_word}
use Rattle.store.specs.Pool.{Pooling}
use Rattle.store.proofs.Parts.{take_front, drop_front, put_long, rest_part, rest_high}
use Rattle.formed.specs.Pages.{LayoutRule, fixed, journal_count}
use Rattle.formed.specs.Parts.{tab, byte_at, slot_of_chunk, holds, allocated, journal}
use Rattle.formed.specs.WellFormed.{holder, WellFormed, ListedPage}
use Rattle.formed.proofs.Pages.{layout_rule, fixed_id_lem}
use Rattle.formed.proofs.Facts.{Facts}
use Rattle.formed.proofs.Meaning.{formed_by}
use Rattle.formed.proofs.Sense.{pool_is, left_is, holds_held, allocated_is, fixed_allocated}
use Rattle.view.specs.View.{Setting, view_of}
use Rattle.view.specs.Steps.{empty_view}
use Rattle.view.specs.Does.{Shows}
use Rattle.view.proofs.Equal.{view_by}
use Rattle.opening.specs.Opening.{PoolFull, headed, OpenAsks, FixedAsks, FirstPages}
use Rattle.opening.proofs.Fixed.{get_or_zeros, take_zeros, empty_index}

-- ---- the head: 15 stores
pub head_stores : (a b c d e f g h i : ℕ) (w : List ℕ) → 16 ≤ length w
    → set (set (set (set (set (set (set (set (set (set (set (set (set (set (set w 0 a) 1 b) 2 c) 3 d) 4 e) 5 f) 6 g) 7 h) 8 i) 9 0) 10 4) 11 0) 12 0) 13 0) 15 0
    ≡ a ∷ b ∷ c ∷ d ∷ e ∷ f ∷ g ∷ h ∷ i ∷ 0 ∷ 4 ∷ 0 ∷ 0 ∷ 0 ∷ get_or w 14 0 ∷ 0 ∷ drop 16 w
head_stores a b c d e f g h i [] l = absurd (omega arith)
head_stores a b c d e f g h i (_ ∷ []) l = absurd (omega arith)
head_stores a b c d e f g h i (_ ∷ _ ∷ []) l = absurd (omega arith)
head_stores a b c d e f g h i (_ ∷ _ ∷ _ ∷ []) l = absurd (omega arith)
head_stores a b c d e f g h i (_ ∷ _ ∷ _ ∷ _ ∷ []) l = absurd (omega arith)
head_stores a b c d e f g h i (_ ∷ _ ∷ _ ∷ _ ∷ _ ∷ []) l = absurd (omega arith)
head_stores a b c d e f g h i (_ ∷ _ ∷ _ ∷ _ ∷ _ ∷ _ ∷ []) l = absurd (omega arith)
head_stores a b c d e f g h i (_ ∷ _ ∷ _ ∷ _ ∷ _ ∷ _ ∷ _ ∷ []) l = absurd (omega arith)
head_stores a b c d e f g h i (_ ∷ _ ∷ _ ∷ _ ∷ _ ∷ _ ∷ _ ∷ _ ∷ []) l = absurd (omega arith)
head_stores a b c d e f g h i (_ ∷ _ ∷ _ ∷ _ ∷ _ ∷ _ ∷ _ ∷ _ ∷ _ ∷ []) l = absurd (omega arith)
head_stores a b c d e f g h i (_ ∷ _ ∷ _ ∷ _ ∷ _ ∷ _ ∷ _ ∷ _ ∷ _ ∷ _ ∷ []) l = absurd (omega arith)
head_stores a b c d e f g h i (_ ∷ _ ∷ _ ∷ _ ∷ _ ∷ _ ∷ _ ∷ _ ∷ _ ∷ _ ∷ _ ∷ []) l = absurd (omega arith)
head_stores a b c d e f g h i (_ ∷ _ ∷ _ ∷ _ ∷ _ ∷ _ ∷ _ ∷ _ ∷ _ ∷ _ ∷ _ ∷ _ ∷ []) l = absurd (omega arith)
head_stores a b c d e f g h i (_ ∷ _ ∷ _ ∷ _ ∷ _ ∷ _ ∷ _ ∷ _ ∷ _ ∷ _ ∷ _ ∷ _ ∷ _ ∷ []) l = absurd (omega arith)
head_stores a b c d e f g h i (_ ∷ _ ∷ _ ∷ _ ∷ _ ∷ _ ∷ _ ∷ _ ∷ _ ∷ _ ∷ _ ∷ _ ∷ _ ∷ _ ∷ []) l = absurd (omega arith)
head_stores a b c d e f g h i (_ ∷ _ ∷ _ ∷ _ ∷ _ ∷ _ ∷ _ ∷ _ ∷ _ ∷ _ ∷ _ ∷ _ ∷ _ ∷ _ ∷ _ ∷ []) l = absurd (omega arith)
head_stores a b c d e f g h i (_ ∷ _ ∷ _ ∷ _ ∷ _ ∷ _ ∷ _ ∷ _ ∷ _ ∷ _ ∷ _ ∷ _ ∷ _ ∷ _ ∷ _ ∷ _ ∷ w) l = refl

-- the head is the first 16 numbers
headed_past : (s : Setting) (w : List ℕ) (y : ℕ) → get_or (headed s w) (16 + y) 0 ≡ get_or w (16 + y) 0
headed_past s w y =
    get_or-append-add
    (s.layout.static_memory.0 ∷ s.layout.calldata.0 ∷ s.layout.bootloader_heap.0 ∷ s.layout.bootloader_aux.0 ∷ s.layout.base.0 ∷ s.layout.stride
    ∷ s.chunks ∷ s.pages ∷ s.journal_words ∷ 0 ∷ 4 ∷ 0 ∷ 0 ∷ 0 ∷ get_or w 14 0 ∷ 0 ∷ [])
    (drop 16 w) y 0
    ∙ get_or-drop 16 w y 0

-- ---- the new memory: no chunk has bytes, no slot is held, every slot is pooled, the four fixed pages are listed, and the head says so
module _ (s : Setting) (b k o w : List ℕ) (asks : OpenAsks s (mem b k o w)) (width : (i : ℕ) → i < 6 → get_or (headed s w) i 0 ≤ 4294967295)
    (bare : (i : ℕ) → get_or (take (256 * s.chunks) b) i 0 ≡ 0) (free : (i : ℕ) → get_or (take s.chunks k) i 0 ≡ 0)
    (full : PoolFull s.chunks w)
    (first : FirstPages (headed s w) (drop s.chunks k) (drop s.chunks o) 4) where
  abbrev m : Mem
  m = mem b k o (headed s w)

  rule : LayoutRule s.layout
  rule = layout_rule s.layout (ap not asks.layout)

  silent : (j : ℕ) → j < journal_count → get_or (headed s w) (12 + j) 0 ≡ 0
  silent zero l = refl
  silent (suc zero) l = refl
  silent (suc (suc j)) l = absurd (omega arith)

  long : length (headed s w) ≡ length w
  long = let q = asks.sizes.in_words in let d = length-drop 16 w in omega arith

  -- the pool's words lie past the head
  pool_bits : (i : ℕ) → i < pool_length s.chunks → pool_word (headed s w) i ≡ free_word (take s.chunks k) i
  pool_bits i l =
      let q = asks.sizes.in_words in
      let g = long in
      let y = length w - pool_length s.chunks + i - 16 in
      let here : pool_place (headed s w) + i ≡ 16 + y = omega arith in
      let there : 16 + y ≡ length w - pool_length s.chunks + i = omega arith in
      let c : length (take s.chunks k) ≡ s.chunks = length-take-le s.chunks k (let h = asks.sizes.in_keys in omega arith) in
      ap (λ (x : ℕ). get_or (headed s w) x 0) here ∙ headed_past s w y ∙ ap (λ (x : ℕ). get_or w x 0) there ∙ full i l
      ∙ ap (λ (x : ℕ). 2 ^ min (x - 64 * i) 64 - 1) (sym c) ∙ sym (free_zeros (take s.chunks k) free i)

  pooling : Pooling k (headed s w)
  pooling = record {
    part = record {
      few = asks.sizes.chunks_hi;
      room = let q = asks.sizes.in_words in let g = long in omega arith;
      skip = omega arith;
      skipped = λ i l. absurd (omega arith);
    };
    bits = pool_bits;
  }

  facts : Facts m
  facts = record {
    lengths = record {
      chunks_lo = asks.sizes.chunks_lo;
      chunks_hi = asks.sizes.chunks_hi;
      pages_lo = asks.sizes.pages_lo;
      pages_hi = asks.sizes.pages_hi;
      journal_hi = asks.sizes.journal_hi;
      in_bytes = asks.sizes.in_bytes;
      in_keys = asks.sizes.in_keys;
      in_order = asks.sizes.in_order;
      in_words = long ∙ asks.sizes.in_words;
    };
    layout = rule;
    layout_width = width;
    length_width = omega arith;
    slots = empty_index (take s.chunks k) (take s.chunks o) free;
    pages = first.index;
    fixed_four = first.listed;
    listed = λ e ge p. absurd (let z = first.rest e ge in omega arith);
    pooled = λ t l z r lr. bare (256 * t + r);
    held = λ t p. absurd (let z = free t in omega arith);
    pool = pooling;
    in_capacity = λ j l. let z = silent j l in omega arith;
    notes = λ j i l h. absurd (let z = silent j l in omega arith);
  }

  formed : WellFormed m
  formed = formed_by m facts

  no_byte : (p a : ℕ) → byte_at m p a ≡ 0
  unfolding byte_at
  no_byte p a = bare _

  none_held : (p c : ℕ) → holds m p c ≡ false
  none_held p c = not_held (holds m p c) (λ h. let q : 0 < holder m (slot_of_chunk m p c) = (holds_held m formed p c h).held in let z : holder m (slot_of_chunk m p c) ≡ 0 = free (slot_of_chunk m p c) in omega arith)

  fixed_alone : (p : ℕ) → allocated m p ≡ fixed s.layout p
  fixed_alone p =
      both_ways (allocated m p) (fixed s.layout p)
      (λ h. ⊎_elim (λ y. y) (λ (q : ListedPage m p). absurd (let z = first.rest q.entry q.there.past_fixed in let t = q.there.there in omega arith)) (allocated_is m formed p h))
      (fixed_allocated m formed p)

  no_notes : (j : ℕ) → cond (ltb j journal_count) (journal m j) [] ≡ []
  unfolding journal tab
  no_notes zero = refl
  no_notes (suc zero) = refl
  no_notes (suc (suc j)) = rw (le-ltb (suc (suc j)) 2 (omega arith)) refl

  pub new_memory : Shows s (empty_view s) m
  new_memory = record {
    formed = formed;
    setting = refl;
    view =
        view_by (view_of m) (empty_view s) no_byte none_held (let h = pool_is m formed in omega arith) fixed_alone (let h = left_is m formed in omega arith) refl no_notes;
  }

-- ---- the head's widths
pub head_width : (s : Setting) (w : List ℕ) → s.layout.static_memory.0 ≤ 4294967295 → s.layout.calldata.0 ≤ 4294967295 → s.layout.bootloader_heap.0 ≤ 4294967295
    → s.layout.bootloader_aux.0 ≤ 4294967295 → s.layout.base.0 ≤ 4294967295 → s.layout.stride ≤ 4294967295 → (i : ℕ) → i < 6 → get_or (headed s w) i 0 ≤ 4294967295
head_width s w a b c d e f zero l = a
head_width s w a b c d e f (suc zero) l = b
head_width s w a b c d e f (suc (suc zero)) l = c
head_width s w a b c d e f (suc (suc (suc zero))) l = d
head_width s w a b c d e f (suc (suc (suc (suc zero)))) l = e
head_width s w a b c d e f (suc (suc (suc (suc (suc zero))))) l = f
head_width s w a b c d e f (suc (suc (suc (suc (suc (suc i)))))) l = absurd (omega arith)

-- ---- `&mut xs[c..]`
put_rest : (xs e : List ℕ) (c : ℕ) → take c xs ++ (e ++ drop (length xs - c) (drop c xs)) ≡ take c xs ++ e
put_rest xs e c = ap (λ (t : List ℕ). take c xs ++ t) (ap (λ (t : List ℕ). e ++ t) (drop_of_length-le (drop c xs) (le_of_eq (length-drop c xs))) ∙ append-nil e)

rest_long : (xs e : List ℕ) (c : ℕ) → c ≤ length xs → length e ≡ length (take (length xs - c) (drop c xs)) → length (take c xs ++ e) ≡ length xs
rest_long xs e c l q =
    let a = length-append (take c xs) e in
    let b = length-take-le c xs l in
    let d : length e ≡ length xs - c = q ∙ ap length (rest_part xs c) ∙ length-drop c xs in
    omega arith

-- ---- the pool is filled: at is where it begins, and e what is written there
module _ (c : ℕ) (words : List ℕ) (room : pool_length c ≤ length words) (at : ℕ) (here : at ≡ length words - pool_length c) where
  in_words : at ≤ length words
  in_words = omega arith

  pub part_long : length (take (length words - at) (drop at words)) ≡ (c + 63) / 64
  part_long = ap length (rest_part words at) ∙ length-drop at words ∙ omega arith

  pub filled : (e : List ℕ) → length e ≡ length (take (length words - at) (drop at words))
      → ((i : ℕ) → i < length (take (length words - at) (drop at words)) → get_or e i 0 ≡ 2 ^ min (c - 64 * i) 64 - 1)
      → PoolFull c (take at words ++ (e ++ drop (length words - at) (drop at words)))
  filled e kept ones i l =
      let w = take at words ++ (e ++ drop (length words - at) (drop at words)) in
      let g : length w ≡ length words = ap length (put_rest words e at) ∙ rest_long words e at in_words kept in
      let p = part_long in
      let q : length w - pool_length c + i ≡ at + i = omega arith in
      ap (λ (x : ℕ). get_or w x 0) q ∙ sym (get_or-drop at w i 0) ∙ ap (λ (x : List ℕ). get_or x i 0) (rest_high words e at in_words) ∙ ones i (omega arith)

-- words of another content and the same length ask no more
pub words_asks : (s : Setting) (bytes keys order words words' : List ℕ) → OpenAsks s (mem bytes keys order words) → length words' ≡ length words → OpenAsks s (mem bytes keys order words')
words_asks s bytes keys order words words' asks long = record {
  layout = asks.layout;
  sizes = record {
    chunks_lo = asks.sizes.chunks_lo;
    chunks_hi = asks.sizes.chunks_hi;
    pages_lo = asks.sizes.pages_lo;
    pages_hi = asks.sizes.pages_hi;
    journal_hi = asks.sizes.journal_hi;
    in_bytes = asks.sizes.in_bytes;
    in_keys = asks.sizes.in_keys;
    in_order = asks.sizes.in_order;
    in_words = long ∙ asks.sizes.in_words;
  };
}

-- ---- what the steps of `start` leave: k₁ and w₁ are the keys, cleared, and the words with the new head
module _ (s : Setting) (bytes keys order words : List ℕ) (asks : OpenAsks s (mem bytes keys order words)) (width : (i : ℕ) → i < 6 → get_or (headed s words) i 0 ≤ 4294967295)
    (full : PoolFull s.chunks words)
    (k₁ w₁ : List ℕ) (blank : k₁ ≡ replicate (length keys) 0) (head : w₁ ≡ headed s words) where
  k₁_long : length k₁ ≡ length keys
  k₁_long = ap length blank ∙ length-replicate (length keys) 0

  k₁_free : (i : ℕ) → get_or k₁ i 0 ≡ 0
  k₁_free i = ap (λ (xs : List ℕ). get_or xs i 0) blank ∙ get_or_zeros (length keys) i

  apart : (i j : ℕ) → i < j → j < 4 → get_or (headed s words) i 0 ≡ get_or (headed s words) j 0 → ⊥
  apart i j l h e = (layout_rule s.layout (ap not asks.layout)).distinct i j l h (fixed_id_lem (headed s words) i (omega arith) ∙ e ∙ sym (fixed_id_lem (headed s words) j h))

  pub fixed_asks : FixedAsks (take (length k₁ - s.chunks) (drop s.chunks k₁)) (take (length order - s.chunks) (drop s.chunks order)) w₁
  fixed_asks =
      let a = asks.sizes.in_keys in
      let b = asks.sizes.in_order in
      let p = k₁_long in
      let q = length-drop s.chunks k₁ in
      let r = length-drop s.chunks order in
      rw (rest_part k₁ s.chunks, rest_part order s.chunks, head) (record {
        in_keys = omega arith;
        in_order = omega arith;
        in_words = omega arith;
        free = λ i. get_or-drop s.chunks k₁ i 0 ∙ k₁_free (s.chunks + i);
        width = λ i l. width i (omega arith);
        apart = apart;
      })

  module _ (e₁ e₂ e₃ : List ℕ) (bare : e₁ ≡ replicate (length (take (256 * s.chunks) bytes)) 0)
      (long₂ : length e₂ ≡ length (take (length k₁ - s.chunks) (drop s.chunks k₁))) (long₃ : length e₃ ≡ length (take (length order - s.chunks) (drop s.chunks order)))
      (first : FirstPages w₁ e₂ e₃ 4) where
    in_bytes : 256 * s.chunks ≤ length bytes
    in_bytes = let a = asks.sizes.in_bytes in omega arith

    in_keys : s.chunks ≤ length k₁
    in_keys = let a = asks.sizes.in_keys in let b = k₁_long in omega arith

    in_order : s.chunks ≤ length order
    in_order = let a = asks.sizes.in_order in omega arith

    zeros₁ : e₁ ≡ replicate (256 * s.chunks) 0
    zeros₁ = bare ∙ ap (λ (n : ℕ). replicate n 0) (length-take-le (256 * s.chunks) bytes in_bytes)

    long₁ : length e₁ ≡ 256 * s.chunks
    long₁ = ap length zeros₁ ∙ length-replicate (256 * s.chunks) 0

    cut_keys : length (take s.chunks k₁) ≡ s.chunks
    cut_keys = length-take-le s.chunks k₁ in_keys

    cut_order : length (take s.chunks order) ≡ s.chunks
    cut_order = length-take-le s.chunks order in_order

    asks' : OpenAsks s (mem (e₁ ++ drop (256 * s.chunks) bytes) (take s.chunks k₁ ++ e₂) (take s.chunks order ++ e₃) words)
    asks' = record {
      layout = asks.layout;
      sizes = record {
        chunks_lo = asks.sizes.chunks_lo;
        chunks_hi = asks.sizes.chunks_hi;
        pages_lo = asks.sizes.pages_lo;
        pages_hi = asks.sizes.pages_hi;
        journal_hi = asks.sizes.journal_hi;
        in_bytes = put_long bytes e₁ (256 * s.chunks) long₁ in_bytes ∙ asks.sizes.in_bytes;
        in_keys = rest_long k₁ e₂ s.chunks in_keys long₂ ∙ k₁_long ∙ asks.sizes.in_keys;
        in_order = rest_long order e₃ s.chunks in_order long₃ ∙ asks.sizes.in_order;
        in_words = asks.sizes.in_words;
      };
    }

    no_bytes : (i : ℕ) → get_or (take (256 * s.chunks) (e₁ ++ drop (256 * s.chunks) bytes)) i 0 ≡ 0
    no_bytes i = ap (λ (xs : List ℕ). get_or xs i 0) (take_front e₁ (drop (256 * s.chunks) bytes) (256 * s.chunks) long₁ ∙ zeros₁) ∙ get_or_zeros (256 * s.chunks) i

    no_holder : (i : ℕ) → get_or (take s.chunks (take s.chunks k₁ ++ e₂)) i 0 ≡ 0
    no_holder i = ap (λ (xs : List ℕ). get_or xs i 0) (take_front (take s.chunks k₁) e₂ s.chunks cut_keys) ∙ take_zeros k₁ k₁_free s.chunks i

    four : FirstPages (headed s words) (drop s.chunks (take s.chunks k₁ ++ e₂)) (drop s.chunks (take s.chunks order ++ e₃)) 4
    four = rw (drop_front (take s.chunks k₁) e₂ s.chunks cut_keys, drop_front (take s.chunks order) e₃ s.chunks cut_order, ← head) first

    pub started : Shows s (empty_view s)
        (mem (e₁ ++ drop (256 * s.chunks) bytes) (take s.chunks k₁ ++ (e₂ ++ drop (length k₁ - s.chunks) (drop s.chunks k₁)))
        (take s.chunks order ++ (e₃ ++ drop (length order - s.chunks) (drop s.chunks order))) w₁)
    started =
        rw (put_rest k₁ e₂ s.chunks, put_rest order e₃ s.chunks, head)
        (new_memory s (e₁ ++ drop (256 * s.chunks) bytes) (take s.chunks k₁ ++ e₂) (take s.chunks order ++ e₃) words asks' width no_bytes no_holder full four)
