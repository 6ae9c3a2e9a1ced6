use mathlib.Core.Path.{refl, ◌∙◌}
use Prim.Native.Nat.{◌+◌, ◌/◌}
use native.Mathlib.Nat.{not-suc-le-zero}
use native.Mathlib.Omega.{arith}
use lib.ListN.{length}
use borrow.Author.Rules.{rules}
use Rattle.store.specs.Mem.{mem}
use Rattle.formed.specs.Parts.{byte_at}
use Rattle.formed.proofs.Same.{tab_is}
use Rattle.formed.proofs.Hints.{find_asked}
use Rattle.read_steps.proofs.Bytes.{slot_few, slot_within_lem, part_is, part_on}
use Rattle.read_steps.proofs.read_into.Goals as goal

pub slot_after-s-requires : goal.slot_after-s-requires
slot_after-s-requires c =
    let m = mem c.args.bytes.now c.args.keys.now c.args.order.now c.args.words.now in record { findable = find_asked m c.requires.well_formed; last_bound = (c.loop-pos.invariant.3, c.loop-pos.invariant.4 (omega (arith, c.loop-pos.invariant.1, c.loop-pos-test.true))) }

pub read_part-requires : goal.read_part-requires
read_part-requires c =
    let long = c.requires.well_formed.lengths in
    let in_bytes = long.in_bytes in
    let in_words = long.in_words in record { head_length_in_bounds = (omega arith, long.chunks_hi, omega arith); n_bound = (omega (arith, c.min-n.ensures), omega (arith, c.min-n.ensures, c.loop-pos.invariant.1, c.loop-pos-test.true)) }

pub loop-pos-preserved : goal.loop-pos-preserved
loop-pos-preserved c =
    let m = mem c.args.bytes.now c.args.keys.now c.args.order.now c.args.words.now in
    let page = c.args.page.0 in
    let a = c.args.start.0 + c.loop-pos.pos in
    let n = c.min-n.result in
    let s = c.slot_after-s.result in
    let is = c.slot_after-s.ensures c.args.bytes.now in (
      omega (arith, c.min-n.ensures, c.loop-pos.invariant.1, c.loop-pos-test.true),
      c.read_part.ensures.long ∙ c.loop-pos.invariant.1,
      part_on m c.requires.well_formed page c.args.start.0 c.loop-pos.pos n c.loop-pos.out _ c.loop-pos.invariant.2 (part_is m c.requires.well_formed page a n s (omega (arith, c.min-n.ensures)) is c.loop-pos.pos c.loop-pos.out _ c.read_part.ensures),
      slot_few m page (a / 256) c.requires.well_formed s is,
      λ more l. record { chunk = a / 256; next = omega (arith, more, c.min-n.ensures, c.loop-pos.invariant.1); slot = slot_within_lem m page (a / 256) s is l },
    )

pub returns : goal.returns
returns c =
    let m = mem c.args.bytes.now c.args.keys.now c.args.order.now c.args.words.now in
    tab_is (length c.args.out.now) (λ i. byte_at m c.args.page.0 (c.args.start.0 + i)) c.loop-pos.out c.loop-pos.invariant.1 (λ i l. c.loop-pos.invariant.2 i (omega (arith, c.loop-pos.invariant.1, c.loop-pos-test.false)))

pub loop-pos-init : goal.loop-pos-init
loop-pos-init c = (search rules, refl, λ i l. absurd (not-suc-le-zero l), c.requires.well_formed.lengths.chunks_hi, λ _ l. absurd (omega (arith, l)))
