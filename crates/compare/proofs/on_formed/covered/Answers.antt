use mathlib.Core.Path.{refl, sym, ◌∙◌}
use native.Mathlib.Omega.{arith}
use borrow.Author.Count.{below_more}
use Rattle.formed.proofs.Asks.{pages_asked, slots_asked}
use Rattle.store.specs.Mem.{mem}
use Rattle.compare.proofs.Meaning.{entry_width}
use Rattle.compare.proofs.Walk.{entry_at, held_few, ranked_pos, ranked_lt, ranked_key, seen_none, past_slot, past_page, past_free, all_seen, page_here_lem, page_gone, byte_same, byte_other}
use Rattle.compare.proofs.on_formed.covered.Goals as goal
use Rattle.compare.proofs.on_formed.covered.Goals.{then-listed-ne0+else-f-right_pages+else-chunks-test, then-listed-ne0+else-f-right_pages+then-chunks-test+then-key_entry-e, else-listed-ne0}

pub bounds-left_words-7 : goal.bounds-left_words-7
bounds-left_words-7 c =
    omega (arith, c.requires.well_formed.lengths)

pub overflow_add-pages : goal.overflow_add-pages
overflow_add-pages c =
    omega (arith, c.requires.well_formed.lengths)

pub bounds-left_words-9 : goal.bounds-left_words-9
bounds-left_words-9 c =
    omega (arith, c.requires.well_formed.lengths)

pub bounds-right_words-6 : goal.bounds-right_words-6
bounds-right_words-6 c =
    omega (arith, c.requires.well_formed_2.lengths)

pub bounds-right_words-7 : goal.bounds-right_words-7
bounds-right_words-7 c =
    omega (arith, c.requires.well_formed_2.lengths)

pub overflow_add-right_pages : goal.overflow_add-right_pages
overflow_add-right_pages c =
    omega (arith, c.requires.well_formed_2.lengths)

pub pages-init : goal.pages-init
pages-init c =
    (refl, seen_none (mem c.args.left_bytes.now c.args.left_keys.now c.args.left_order.now c.args.left_words.now) (mem c.args.right_bytes.now c.args.right_keys.now c.args.right_order.now c.args.right_words.now) c.requires.well_formed c.requires.well_formed_2)

pub overflow_add-listed : goal.overflow_add-listed
overflow_add-listed c =
    omega (arith, c.pages-test.true, c.requires.well_formed.lengths)

pub offset_bounds-left_keys-slots : goal.offset_bounds-left_keys-slots
offset_bounds-left_keys-slots c =
    omega (arith, c.pages-test.true, c.requires.well_formed.lengths)

pub bounds-left_keys-slots : goal.bounds-left_keys-slots
bounds-left_keys-slots c =
    omega (arith, c.pages-test.true, c.requires.well_formed.lengths)

pub overflow_cast-page : goal.overflow_cast-page
overflow_cast-page c =
    let x = entry_at (mem c.args.left_bytes.now c.args.left_keys.now c.args.left_order.now c.args.left_words.now) c.requires.well_formed c.pages.e in
    let n = c.if-listed-ne0.true in
    let w = entry_width (mem c.args.left_bytes.now c.args.left_keys.now c.args.left_order.now c.args.left_words.now) c.requires.well_formed c.pages.e (omega arith) in
    record { fits = omega arith }

pub entry_of-f-requires : goal.entry_of-f-requires
entry_of-f-requires c =
    pages_asked (mem c.args.right_bytes.now c.args.right_keys.now c.args.right_order.now c.args.right_words.now) c.requires.well_formed_2

pub chunks-init : goal.chunks-init
chunks-init c =
    (c.pages.invariant.0, c.pages.invariant.1.ranks)

pub offset_bounds-left_order-i : goal.offset_bounds-left_order-i
offset_bounds-left_order-i c =
    omega (arith, c.chunks-test.true, held_few (mem c.args.left_bytes.now c.args.left_keys.now c.args.left_order.now c.args.left_words.now) c.requires.well_formed, c.requires.well_formed.lengths)

pub bounds-left_order-i : goal.bounds-left_order-i
bounds-left_order-i c =
    omega (arith, c.chunks-test.true, held_few (mem c.args.left_bytes.now c.args.left_keys.now c.args.left_order.now c.args.left_words.now) c.requires.well_formed, c.requires.well_formed.lengths)

pub overflow_cast-s : goal.overflow_cast-s
overflow_cast-s c =
    let s = ranked_lt (mem c.args.left_bytes.now c.args.left_keys.now c.args.left_order.now c.args.left_words.now) c.requires.well_formed c.chunks.i c.chunks-test.true in
    omega (arith, c.requires.well_formed.lengths)

pub offset_bounds-left_keys-s : goal.offset_bounds-left_keys-s
offset_bounds-left_keys-s c =
    let s = ranked_lt (mem c.args.left_bytes.now c.args.left_keys.now c.args.left_order.now c.args.left_words.now) c.requires.well_formed c.chunks.i c.chunks-test.true in
    omega (arith, c.requires.well_formed.lengths)

pub bounds-left_keys-s : goal.bounds-left_keys-s
bounds-left_keys-s c =
    let s = ranked_lt (mem c.args.left_bytes.now c.args.left_keys.now c.args.left_order.now c.args.left_words.now) c.requires.well_formed c.chunks.i c.chunks-test.true in
    omega (arith, c.requires.well_formed.lengths)

pub key_entry-requires : goal.key_entry-requires
key_entry-requires c =
    let p = ranked_pos (mem c.args.left_bytes.now c.args.left_keys.now c.args.left_order.now c.args.left_words.now) c.requires.well_formed c.chunks.i c.chunks-test.true in
    let k = ranked_key (mem c.args.left_bytes.now c.args.left_keys.now c.args.left_order.now c.args.left_words.now) c.requires.well_formed c.chunks.i c.chunks-test.true in
    omega arith

pub slot_beside-t-requires : goal.slot_beside-t-requires
slot_beside-t-requires c =
    let p = ranked_pos (mem c.args.left_bytes.now c.args.left_keys.now c.args.left_order.now c.args.left_words.now) c.requires.well_formed c.chunks.i c.chunks-test.true in
    let k = ranked_key (mem c.args.left_bytes.now c.args.left_keys.now c.args.left_order.now c.args.left_words.now) c.requires.well_formed c.chunks.i c.chunks-test.true in record { indexed = slots_asked (mem c.args.right_bytes.now c.args.right_keys.now c.args.right_order.now c.args.right_words.now) c.requires.well_formed_2; e_bound = (omega (arith, c.if-f-right_pages.false, c.requires.well_formed_2.lengths), omega arith) }

pub overflow_mul-s : goal.overflow_mul-s
overflow_mul-s c =
    let s = ranked_lt (mem c.args.left_bytes.now c.args.left_keys.now c.args.left_order.now c.args.left_words.now) c.requires.well_formed c.chunks.i c.chunks-test.true in
    omega (arith, c.loop-j-test.true, c.requires.well_formed.lengths)

pub overflow_add-s : goal.overflow_add-s
overflow_add-s c =
    let s = ranked_lt (mem c.args.left_bytes.now c.args.left_keys.now c.args.left_order.now c.args.left_words.now) c.requires.well_formed c.chunks.i c.chunks-test.true in
    omega (arith, c.loop-j-test.true, c.requires.well_formed.lengths)

pub bounds-left_bytes-s : goal.bounds-left_bytes-s
bounds-left_bytes-s c =
    let s = ranked_lt (mem c.args.left_bytes.now c.args.left_keys.now c.args.left_order.now c.args.left_words.now) c.requires.well_formed c.chunks.i c.chunks-test.true in
    omega (arith, c.loop-j-test.true, c.requires.well_formed.lengths)

pub byte_beside-requires : goal.byte_beside-requires
byte_beside-requires c =
    (omega (arith, c.requires.well_formed_2.lengths), omega (arith, c.loop-j-test.true))

pub loop-j-preserved : goal.loop-j-preserved
loop-j-preserved c = (
  c.loop-j.invariant.0,
  below_more _ _ c.loop-j.invariant.1
      (byte_same (mem c.args.left_bytes.now c.args.left_keys.now c.args.left_order.now c.args.left_words.now) (mem c.args.right_bytes.now c.args.right_keys.now c.args.right_order.now c.args.right_words.now) c.requires.well_formed c.requires.well_formed_2 c.pages.e c.entry_of-f.result c.if-listed-ne0.true c.entry_of-f.ensures
      c.chunks.i c.slot_beside-t.result c.chunks-test.true c.chunks.invariant.1 (omega (arith, c.if-key_entry-e.false, c.key_entry.ensures)) c.slot_beside-t.ensures
      c.loop-j.j (omega (arith, c.loop-j-test.true)) c.byte_beside.result c.byte_beside.ensures
      c.if-left_bytes-s.false),
)

pub overflow_add-i : goal.overflow_add-i
overflow_add-i c =
    omega (arith, c.chunks-test.true, held_few (mem c.args.left_bytes.now c.args.left_keys.now c.args.left_order.now c.args.left_words.now) c.requires.well_formed, c.requires.well_formed.lengths)

pub chunks-preserved : goal.chunks-preserved
chunks-preserved c =
    let end = c.loop-j-test.false in
    (c.loop-j.invariant.0, past_slot (mem c.args.left_bytes.now c.args.left_keys.now c.args.left_order.now c.args.left_words.now) (mem c.args.right_bytes.now c.args.right_keys.now c.args.right_order.now c.args.right_words.now) c.requires.well_formed c.requires.well_formed_2 c.pages.e c.chunks.i c.chunks-test.true c.chunks.invariant.1 (λ r l. c.loop-j.invariant.1 r (omega arith)))

pub pages-preserved : goal.pages-preserved
pages-preserved c =
    let here = page_here_lem (mem c.args.left_bytes.now c.args.left_keys.now c.args.left_order.now c.args.left_words.now) (mem c.args.right_bytes.now c.args.right_keys.now c.args.right_order.now c.args.right_words.now) c.requires.well_formed c.requires.well_formed_2 c.pages.e in
    let on = past_page (mem c.args.left_bytes.now c.args.left_keys.now c.args.left_order.now c.args.left_words.now) (mem c.args.right_bytes.now c.args.right_keys.now c.args.right_order.now c.args.right_words.now) c.requires.well_formed c.requires.well_formed_2 c.pages.e c.pages.i in
    elim c.if-listed-ne0.branch [
      | then-listed-ne0+else-f-right_pages+else-chunks-test w ↦ (
        w.equal-is ∙ w.chunks.invariant.0,
        rw w.i-is (on w.chunks.i c.pages-test.true c.pages.invariant.1 (here w.entry_of-f.result w.if-listed-ne0.true w.entry_of-f.ensures w.if-f-right_pages.false) w.chunks.invariant.1 (λ l. absurd (omega (arith, w.chunks-test.false)))),
      )
      | then-listed-ne0+else-f-right_pages+then-chunks-test+then-key_entry-e w ↦ (
        w.equal-is ∙ w.chunks.invariant.0,
        rw w.i-is (on w.chunks.i c.pages-test.true c.pages.invariant.1 (here w.entry_of-f.result w.if-listed-ne0.true w.entry_of-f.ensures w.if-f-right_pages.false) w.chunks.invariant.1 (λ l. omega (arith, ranked_key (mem c.args.left_bytes.now c.args.left_keys.now c.args.left_order.now c.args.left_words.now) c.requires.well_formed w.chunks.i l, w.key_entry.ensures, w.if-key_entry-e.true))),
      )
      | else-listed-ne0 w ↦ (
        w.equal-is ∙ c.pages.invariant.0,
        rw w.i-is (past_free (mem c.args.left_bytes.now c.args.left_keys.now c.args.left_order.now c.args.left_words.now) (mem c.args.right_bytes.now c.args.right_keys.now c.args.right_order.now c.args.right_words.now) c.requires.well_formed c.requires.well_formed_2 c.pages.e c.pages.i c.pages-test.true w.if-listed-ne0.false c.pages.invariant.1),
      )
    ]

pub returns-after-pages : goal.returns-after-pages
returns-after-pages c =
    c.pages.invariant.0 ∙ sym (all_seen (mem c.args.left_bytes.now c.args.left_keys.now c.args.left_order.now c.args.left_words.now) (mem c.args.right_bytes.now c.args.right_keys.now c.args.right_order.now c.args.right_words.now) c.requires.well_formed c.requires.well_formed_2 c.pages.e c.pages.i c.pages-test.false c.pages.invariant.1)

pub returns-then-f-right_pages : goal.returns-then-f-right_pages
returns-then-f-right_pages c =
    sym (page_gone (mem c.args.left_bytes.now c.args.left_keys.now c.args.left_order.now c.args.left_words.now) (mem c.args.right_bytes.now c.args.right_keys.now c.args.right_order.now c.args.right_words.now) c.requires.well_formed c.requires.well_formed_2 c.pages.e c.entry_of-f.result c.if-listed-ne0.true c.entry_of-f.ensures c.if-f-right_pages.true)

pub returns-then-left_bytes-s : goal.returns-then-left_bytes-s
returns-then-left_bytes-s c =
    sym
    (byte_other (mem c.args.left_bytes.now c.args.left_keys.now c.args.left_order.now c.args.left_words.now) (mem c.args.right_bytes.now c.args.right_keys.now c.args.right_order.now c.args.right_words.now) c.requires.well_formed c.requires.well_formed_2 c.pages.e c.entry_of-f.result c.if-listed-ne0.true c.entry_of-f.ensures
    c.chunks.i c.slot_beside-t.result c.chunks-test.true c.chunks.invariant.1 (omega (arith, c.if-key_entry-e.false, c.key_entry.ensures)) c.slot_beside-t.ensures
    c.loop-j.j (omega (arith, c.loop-j-test.true)) c.byte_beside.result c.byte_beside.ensures
    c.if-left_bytes-s.true)

pub bounds-left_words-6 : goal.bounds-left_words-6
bounds-left_words-6 c = omega (arith, c.requires.well_formed.lengths)

pub overflow_sub-page : goal.overflow_sub-page
overflow_sub-page c = omega (arith, c.if-listed-ne0.true)

pub loop-j-init : goal.loop-j-init
loop-j-init c = (c.chunks.invariant.0, λ r l. absurd (omega arith))

pub chunks-smaller : goal.chunks-smaller
chunks-smaller c = omega (arith, c.chunks-test.true)
