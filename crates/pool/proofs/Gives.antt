-- Chunks zeroed, and what giving slots back leaves.
-- Assumes nothing.
use mathlib.Core.Path.{◌≡◌, refl, sym, ap, ◌∙◌, subst}
use mathlib.Core.Logic.{◌⊎◌, inl, inr, ⊎_elim}
use mathlib.Core.Bool.{Bool, true, false, cond, ◌&&◌}
use mathlib.Core.List.{List, ◌++◌}
use Prim.Native.Nat.{ℕ, ◌+◌, ◌*◌, ◌-◌, ◌/◌, ◌≤◌, ◌<◌}
use native.Mathlib.Omega.{arith}
use lib.Dec.{leb}
use lib.ListN.{length, get_or, set, take, drop, length-set}
use lib.Seq.{get_or-set_same, get_or-set_other, get_or-take, ext_get_or}
use borrow.Author.Tests.{lt-ltb, le-ltb, le-leb, lt-leb}
use Rattle.index.specs.Index.{all, key_at, rises, LowerBound, Cleared, Removed}
use Rattle.index.proofs.Logic.{lt_or_ge}
use Rattle.index.proofs.Orders.{key_pos, slot_lt, rank_one, index_rises}
use Rattle.index.proofs.Removes.{ranks_order, rank_within, rank_outside}
use Rattle.store.specs.Mem.{held_place, pool_skip_place, slot_count, held_now, pool_place}
use Rattle.store.specs.Indexed.{Indexed}
use Rattle.store.specs.Pool.{Pooling}
use Rattle.store.proofs.Parts.{sub_zero, take_front, drop_front, put_long}
use Rattle.pool.specs.Give.{Zeroed, SlotRun, Wiped, repooled_all, Repoolable, within, Released}
use Rattle.pool.proofs.Pools.{pool_high, count_kept, keys_kept}
use Rattle.pool.proofs.Holds.{cut_keys, cut_order, held_le}
use Rattle.pool.proofs.Puts.{Back, back}

-- ---- the loop of `wipe`
pub wipe_none : (bs os : List ℕ) (from to : ℕ) → to ≤ from → Wiped bs os from to bs
wipe_none bs os from to l = record { long = refl; gone = λ i r a b h. absurd (omega arith); kept = λ x n. refl }

-- the chunks of a run lie in the bytes, if each of them does
pub run_in : (bs os ds : List ℕ) (from to i r : ℕ) → ((j : ℕ) → from ≤ j → j < to → 256 * get_or os j 0 + 256 ≤ length bs) → from ≤ i → Wiped bs os from i ds → SlotRun os i to r → 256 * get_or os i 0 + 256 * (r - i) ≤ length ds
run_in bs os ds from to i r fit l w u =
    let a = u.some in
    let b = u.end in
    let e = u.next (r - 1) (omega arith) (omega arith) in
    let h = fit (r - 1) (omega arith) (omega arith) in
    let q = w.long in
    omega arith

pub wipe_more : (bs os ds ds' : List ℕ) (from to i r : ℕ) → from ≤ i → Wiped bs os from i ds → SlotRun os i to r → Zeroed ds (256 * get_or os i 0) (256 * (r - i)) ds' → Wiped bs os from r ds'
wipe_more bs os ds ds' from to i r l w u z = record {
  long = z.long ∙ w.long;
  gone = λ j q a b h.
      ⊎_elim (λ (o : Out (256 * get_or os j 0 + q)). z.kept (256 * get_or os j 0 + q) o ∙ w.gone j q a (earlier j q b h o) h)
      (λ (o : In (256 * get_or os j 0 + q)). z.gone (256 * get_or os j 0 + q) o.0 o.1)
      (out_or_in (256 * get_or os j 0 + q));
  kept = λ x n.
      ⊎_elim (λ (o : Out x). z.kept x o ∙ w.kept x (λ j a b. n j a (let h = u.some in omega arith)))
      (λ (o : In x). absurd (n (i + (x / 256 - get_or os i 0)) (omega arith) (inside x o) (rank x o)))
      (out_or_in x);
}
  where
    Out : ℕ → Type 0
    Out x = (x < 256 * get_or os i 0) ⊎ (256 * get_or os i 0 + 256 * (r - i) ≤ x)

    In : ℕ → Type 0
    In x = (256 * get_or os i 0 ≤ x) × (x < 256 * get_or os i 0 + 256 * (r - i))

    out_or_in : (x : ℕ) → Out x ⊎ In x
    out_or_in x =
        ⊎_elim (λ (a : x < 256 * get_or os i 0). inl (inl a))
        (λ (a : 256 * get_or os i 0 ≤ x). ⊎_elim (λ (b : x < 256 * get_or os i 0 + 256 * (r - i)). inr (a, b)) (λ (b : 256 * get_or os i 0 + 256 * (r - i) ≤ x). inl (inr b)) (lt_or_ge x (256 * get_or os i 0 + 256 * (r - i))))
        (lt_or_ge x (256 * get_or os i 0))

    -- a chunk with a byte outside the run has an earlier rank
    earlier : (j q : ℕ) → j < r → q < 256 → Out (256 * get_or os j 0 + q) → j < i
    earlier j q b h o =
        ⊎_elim (λ (a : j < i). a)
        (λ (a : i ≤ j). let e = u.next j a b in absurd (⊎_elim (λ (c : 256 * get_or os j 0 + q < 256 * get_or os i 0). omega arith) (λ (c : 256 * get_or os i 0 + 256 * (r - i) ≤ 256 * get_or os j 0 + q). omega arith) o))
        (lt_or_ge j i)

    -- a byte inside is of the slot at this rank, which is in the run
    inside : (x : ℕ) → In x → i + (x / 256 - get_or os i 0) < r
    inside x o = let a = o.0 in let b = o.1 in omega arith

    rank : (x : ℕ) → In x → get_or os (i + (x / 256 - get_or os i 0)) 0 ≡ x / 256
    rank x o = let e = u.next (i + (x / 256 - get_or os i 0)) (omega arith) (inside x o) in let a = o.0 in omega arith

pub wipe_end : (bs os ds : List ℕ) (from to i : ℕ) → Wiped bs os from i ds → i ≤ to → to ≤ i → Wiped bs os from to ds
wipe_end bs os ds from to i w a b = let e : i ≡ to = omega arith in subst (λ (x : ℕ). Wiped bs os from x ds) e w

-- ---- within a range or not
pub within_yes : (lo hi k : ℕ) → lo ≤ k → k < hi → within lo hi k ≡ true
within_yes lo hi k a b = rw (le-leb lo k a, lt-ltb k hi b)

pub within_no : (lo hi k : ℕ) → (k < lo) ⊎ (hi ≤ k) → within lo hi k ≡ false
within_no lo hi k o = ⊎_elim (λ (a : k < lo). rw (lt-leb lo k a)) (λ (a : hi ≤ k). rw (le-ltb k hi a) (last (leb lo k))) o
  where
    last : (b : Bool) → (b && false) ≡ false
    last true = refl
    last false = refl

-- an equation with `within`, by its two cases
cases : (lo hi k x y : ℕ) → (lo ≤ k → k < hi → x ≡ 0) → ((k < lo) ⊎ (hi ≤ k) → x ≡ y) → x ≡ cond (within lo hi k) 0 y
cases lo hi k x y inside outside =
    ⊎_elim (λ (a : k < lo). outside (inl a) ∙ ap (λ (b : Bool). cond b 0 y) (sym (within_no lo hi k (inl a))))
    (λ (a : lo ≤ k).
    ⊎_elim (λ (b : k < hi). inside a b ∙ ap (λ (c : Bool). cond c 0 y) (sym (within_yes lo hi k a b)))
    (λ (b : hi ≤ k). outside (inr b) ∙ ap (λ (c : Bool). cond c 0 y) (sym (within_no lo hi k (inr b))))
    (lt_or_ge k hi))
    (lt_or_ge k lo)

-- ---- `give`
module _ (bytes keys order words : List ℕ) (ix : Indexed keys order words) (p : Pooling keys words) (lo hi from to : ℕ) (room : 256 * slot_count words ≤ length bytes) (pos : 0 < lo) (le : lo ≤ hi)
    (lower : LowerBound (take (slot_count words - 0) keys) (take (slot_count words - 0) order) (held_now words) lo from)
    (upper : LowerBound (take (slot_count words - 0) keys) (take (slot_count words - 0) order) (held_now words) hi to) where
  abbrev ks : List ℕ
  ks = take (slot_count words) keys

  abbrev os : List ℕ
  os = take (slot_count words) order

  low : LowerBound ks os (held_now words) lo from
  low = rw (sub_zero (slot_count words)) at lower

  high : LowerBound ks os (held_now words) hi to
  high = rw (sub_zero (slot_count words)) at upper

  up : all (rises ks os) (held_now words) ≡ true
  up = index_rises ks os (held_now words) ix.index

  pub in_order : from ≤ to
  in_order = ranks_order ks os (held_now words) lo hi from to ix.index low high le

  pub ranks_end : to ≤ held_now words
  ranks_end = high.within

  slot_of_rank : (i : ℕ) → i < to → get_or os i 0 < slot_count words
  slot_of_rank i b =
      let h = slot_lt ks os (held_now words) up i (let w = high.within in omega arith) in
      let c = cut_keys keys order words ix in
      omega arith

  pub chunks_in : (i : ℕ) → from ≤ i → i < to → 256 * get_or (take (slot_count words - 0) order) i 0 + 256 ≤ length bytes
  chunks_in i a b = rw (sub_zero (slot_count words)) (let h = slot_of_rank i b in omega arith)

  -- the slots at the ranks are held, and no two of them are one
  held : (i : ℕ) → from ≤ i → i < to → 0 < key_at ks os i
  held i a b = key_pos ks os (held_now words) up i (let w = high.within in omega (arith, w, b))

  apart : (i j : ℕ) → from ≤ i → i < j → j < to → get_or os i 0 ≡ get_or os j 0 → ⊥
  apart i j a b d e =
      let w = high.within in
      let h = rank_one ks os (held_now words) up i j (omega (arith, w, b, d)) (omega (arith, w, d)) (ap (λ (x : ℕ). get_or ks x 0) e) in
      omega (arith, h, b)

  pub repoolable : Repoolable words (take (slot_count words - 0) order) from to
  repoolable = rw (sub_zero (slot_count words)) record {
    keys = keys;
    in_keys = ix.in_keys;
    pooling = p;
    start = in_order;
    end = let w = high.within in let h = held_le keys order words ix in let c = cut_order keys order words ix in omega (arith, w, h, c);
    held = held;
    apart = apart;
  }

  -- the keys of the slots after those at the ranks were given up
  slot_keys : (e : List ℕ) → Cleared ks os from to e → (s : ℕ) → get_or e s 0 ≡ cond (within lo hi (get_or ks s 0)) 0 (get_or ks s 0)
  slot_keys e g s =
      cases lo hi (get_or ks s 0) (get_or e s 0) (get_or ks s 0)
      (λ a b. let r = rank_within ks os (held_now words) lo hi from to ix.index low high s pos a b in ap (λ (x : ℕ). get_or e x 0) (sym r.is) ∙ g.gone r.rank r.from_le r.to_lt)
      (λ o. g.kept s (rank_outside ks os (held_now words) lo hi from to ix.index low high s o))

  module _ (bytes' words₁ e₁ e₂ : List ℕ) (wiped : Wiped bytes (take (slot_count words - 0) order) from to bytes')
      (put : words₁ ≡ repooled_all words (take (slot_count words - 0) order) from (to - from))
      (gone : Removed (take (slot_count words - 0) keys) (take (slot_count words - 0) order) (held_now words) from to e₁ e₂) where
    w : Wiped bytes os from to bytes'
    w = rw (sub_zero (slot_count words)) at wiped

    g : Removed ks os (held_now words) from to e₁ e₂
    g = rw (sub_zero (slot_count words)) at gone

    b : Back keys words os from to words₁
    b =
        let q : from + (to - from) ≡ to = (let h = in_order in omega (arith, h)) in
        let e : words₁ ≡ repooled_all words os from (to - from) = put ∙ ap (λ (x : ℕ). repooled_all words (take x order) from (to - from)) (sub_zero (slot_count words)) in
        rw e (subst (λ (x : ℕ). Back keys words os from x (repooled_all words os from (to - from))) q (back keys words os from to ix.in_keys p held apart (to - from) (omega (arith, q))))

    l₁ : length e₁ ≡ slot_count words
    l₁ = g.cleared.long ∙ cut_keys keys order words ix

    l₂ : length e₂ ≡ slot_count words
    l₂ = g.order_long ∙ cut_order keys order words ix

    key_in : (s : ℕ) → s < slot_count words → get_or keys s 0 ≡ get_or ks s 0
    key_in s l = sym (get_or-take (slot_count words) keys s 0 l)

    chunk_bytes : (s r : ℕ) → s < slot_count words → r < 256 → get_or bytes' (256 * s + r) 0 ≡ cond (within lo hi (get_or ks s 0)) 0 (get_or bytes (256 * s + r) 0)
    chunk_bytes s r l h =
        let e : (256 * s + r) / 256 ≡ s = omega arith in
        cases lo hi (get_or ks s 0) (get_or bytes' (256 * s + r) 0) (get_or bytes (256 * s + r) 0)
        (λ a b. let q = rank_within ks os (held_now words) lo hi from to ix.index low high s pos a b in ap (λ (x : ℕ). get_or bytes' (256 * x + r) 0) (sym q.is) ∙ w.gone q.rank r q.from_le q.to_lt h)
        (λ o. w.kept (256 * s + r) (λ i a b q. rank_outside ks os (held_now words) lo hi from to ix.index low high s o i a b (q ∙ e)))

    -- the keys that the pool's bits are of are those that are left
    keys_left : take (slot_count words) b.left ≡ e₁
    keys_left =
        ext_get_or 0 (take (slot_count words) b.left) e₁ (b.cleared.long ∙ sym g.cleared.long)
        (λ s l. slot_keys (take (slot_count words) b.left) b.cleared s ∙ sym (slot_keys e₁ g.cleared s))

    abbrev held' : ℕ
    held' = held_now words - (to - from)

    abbrev words' : List ℕ
    words' = set words₁ held_place held'

    words_long : length words' ≡ length words
    words_long = length-set words₁ held_place held' ∙ b.long

    words_head : (i : ℕ) → i < pool_place words → (i ≡ held_place → ⊥) → (i ≡ pool_skip_place → ⊥) → get_or words' i 0 ≡ get_or words i 0
    words_head i l n k = get_or-set_other words₁ held_place i held' 0 n ∙ b.low i l k

    six : slot_count words' ≡ slot_count words
    six = let h = pool_high words p.part in words_head 6 (omega (arith, h)) (λ e. omega (arith, e)) (λ e. omega (arith, e))

    nine : held_now words' ≡ held'
    nine = get_or-set_same words₁ held_place held' 0 (let h = ix.head in let l = b.long in omega (arith, h, l))

    front : take (slot_count words) (e₁ ++ drop (slot_count words) keys) ≡ e₁
    front = take_front e₁ (drop (slot_count words) keys) (slot_count words) l₁

    pooling : Pooling (e₁ ++ drop (slot_count words) keys) words'
    pooling =
        keys_kept b.left (e₁ ++ drop (slot_count words) keys) words' (ap (λ (x : ℕ). take x (e₁ ++ drop (slot_count words) keys)) six ∙ front ∙ sym keys_left ∙ ap (λ (x : ℕ). take x b.left) (sym six))
        (count_kept b.left words₁ held' b.pooling)

    pub given : Released lo hi bytes keys order words bytes' (e₁ ++ drop (slot_count words - 0) keys) (e₂ ++ drop (slot_count words - 0) order) (set words₁ held_place (held_now words - (to - from)))
    given =
        let s = six in
        let lk : length (e₁ ++ drop (slot_count words) keys) ≡ length keys = put_long keys e₁ (slot_count words) l₁ ix.in_keys in
        let lo' : length (e₂ ++ drop (slot_count words) order) ≡ length order = put_long order e₂ (slot_count words) l₂ ix.in_order in
        let here : (s : ℕ) → s < slot_count words → get_or (e₁ ++ drop (slot_count words) keys) s 0 ≡ get_or e₁ s 0 = λ s l. sym (get_or-take (slot_count words) (e₁ ++ drop (slot_count words) keys) s 0 l) ∙ ap (λ (x : List ℕ). get_or x s 0) front in
        rw (sub_zero (slot_count words)) record {
          slot_keys = λ s l. here s l ∙ slot_keys e₁ g.cleared s ∙ ap (λ (x : ℕ). cond (within lo hi x) 0 x) (sym (key_in s l));
          chunk_bytes = λ s r l h. chunk_bytes s r l h ∙ ap (λ (x : ℕ). cond (within lo hi x) 0 (get_or bytes (256 * s + r) 0)) (sym (key_in s l));
          bytes_rest = λ x l. w.kept x (λ i a b q. let h = slot_of_rank i b in omega (arith, h, l, q));
          keys_rest = drop_front e₁ (drop (slot_count words) keys) (slot_count words) l₁;
          order_rest = drop_front e₂ (drop (slot_count words) order) (slot_count words) l₂;
          head = words_head;
          bytes_long = w.long;
          keys_long = lk;
          order_long = lo';
          words_long = words_long;
          indexed_still = record {
            head = let h = ix.head in let q = words_long in omega (arith, h, q);
            few = let h = ix.few in omega (arith, h, s);
            in_keys = let h = ix.in_keys in omega (arith, h, s, lk);
            in_order = let h = ix.in_order in omega (arith, h, s, lo');
            index = rw (six, nine, front, take_front e₂ (drop (slot_count words) order) (slot_count words) l₂) g.index;
          };
          pooling_still = pooling;
        }
