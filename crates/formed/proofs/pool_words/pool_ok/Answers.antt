use Rattle.std.proofs.Common.{◌≡◌, ◌≤◌, ◌∙◌, ◌-◌, sym, ap, arith, length, leb}
use Rattle.std.proofs.lemmas.Bool.{false≢true}
use borrow.Author.Tests.{eqb-true}
use Rattle.bits.specs.Bits.{ones_of}
use Rattle.store.specs.Mem.{slot_count, held_now, pool_length, pool_words, pool_skip}
use Rattle.formed.proofs.PoolWords.{lent_count, lent_bits, lent_skipped, held_most, stop_count, stop_bits, right_bits, stop_skip, at_skipped}
use Rattle.formed.proofs.pool_words.pool_ok.Goals as goal
use Rattle.formed.proofs.pool_words.pool_ok.Goals.{then-count-words, else-count-words, then-bits_ok, else-bits_ok}

pub overflow_sub-words : goal.overflow_sub-words
overflow_sub-words c =
    let room : pool_length (slot_count c.args.words.now) ≤ length c.args.words.now = omega (arith, c.requires.1) in held_most c.args.holders.now c.args.words.now room c.requires.2 c.requires.3

pub returns-then-words-pool_length : goal.returns-then-words-pool_length
returns-then-words-pool_length c =
    let hs = c.args.holders.now in
    let ws = c.args.words.now in
    let room : pool_length (slot_count ws) ≤ length ws = omega (arith, c.requires.1) in
    elim c.if-bits_ok.branch [
      | then-bits_ok w ↦ elim c.if-count-words.branch [
        | then-count-words v ↦
            let count : ones_of (pool_words ws) ≡ slot_count ws - held_now ws = sym (lent_count hs ws room _ c.pool_place-at.ensures) ∙ sym c.count.ensures ∙ v.if-count-words.true in
            let right = right_bits hs ws room c.requires.2 c.requires.3 count (sym (lent_bits hs ws room _ c.pool_place-at.ensures) ∙ sym v.bits_ok.ensures ∙ sym v.value-is ∙ w.if-bits_ok.true) in
            c.zeros_ok.ensures ∙ lent_skipped hs ws room _ c.pool_place-at.ensures
            ∙ at_skipped hs ws room right (ap (leb (pool_skip ws)) (sym w.pool_length.ensures) ∙ sym w.value-is ∙ c.if-words-pool_length.true)
        | else-count-words v ↦ absurd (v.if-count-words.false (eqb-true _ _ (sym v.value-is ∙ w.if-bits_ok.true)))
      ]
      | else-bits_ok w ↦ absurd (false≢true (sym w.if-bits_ok.false ∙ sym w.value-is ∙ c.if-words-pool_length.true))
    ]

pub returns-else-words-pool_length : goal.returns-else-words-pool_length
returns-else-words-pool_length c =
    let hs = c.args.holders.now in
    let ws = c.args.words.now in
    let room : pool_length (slot_count ws) ≤ length ws = omega (arith, c.requires.1) in
    c.if-words-pool_length.false ∙ elim c.if-count-words.branch [
      | then-count-words v ↦ elim c.if-bits_ok.branch [
        | then-bits_ok w ↦
            let count : ones_of (pool_words ws) ≡ slot_count ws - held_now ws = sym (lent_count hs ws room _ c.pool_place-at.ensures) ∙ sym c.count.ensures ∙ v.if-count-words.true in
            let right = right_bits hs ws room c.requires.2 c.requires.3 count (sym (lent_bits hs ws room _ c.pool_place-at.ensures) ∙ sym v.bits_ok.ensures ∙ sym v.value-is ∙ w.if-bits_ok.true) in
            stop_skip hs ws room right (ap (leb (pool_skip ws)) (sym w.pool_length.ensures) ∙ sym w.value-is ∙ c.if-words-pool_length.false)
        | else-bits_ok w ↦ stop_bits hs ws room c.requires.2 c.requires.3 (sym (lent_bits hs ws room _ c.pool_place-at.ensures) ∙ sym v.bits_ok.ensures ∙ sym v.value-is ∙ w.if-bits_ok.false)
      ]
      | else-count-words v ↦ stop_count hs ws room c.requires.2 c.requires.3 (λ e. v.if-count-words.false (c.count.ensures ∙ lent_count hs ws room _ c.pool_place-at.ensures ∙ e))
    ]
