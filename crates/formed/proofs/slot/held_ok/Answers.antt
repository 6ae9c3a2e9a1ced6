use Rattle.std.proofs.Common.{◌≡◌, ◌<◌, ◌∙◌, ◌-◌, ℕ, sym, ap, arith, length, get_or, take, drop, ltb}
use borrow.Author.Tests.{ltb-true}
use Rattle.store.specs.Keys.{key_entry}
use Rattle.store.proofs.Parts.{rest_part}
use Rattle.formed.specs.Formed.{zeros}
use Rattle.formed.proofs.Slots.{held_last}
use Rattle.formed.proofs.slot.held_ok.Goals as goal

pub returns-then-c-last-2 : goal.returns-then-c-last-2
returns-then-c-last-2 c =
    let es = c.args.entries.now in
    let b = c.args.chunk.now in
    let rest : 225 ≡ length b - 31 = omega (arith, c.told-chunk) in
    let used : 0 < get_or es (key_entry c.args.k) 0 = ltb-true _ _ (ap (λ (e : ℕ). ltb 0 (get_or es e 0)) (sym c.key_entry.ensures) ∙ sym c.in_use.ensures ∙ c.if-in_use.true) in
    c.all_zero.ensures ∙ ap (λ (n : ℕ). zeros (take n (drop 31 b))) rest ∙ ap zeros (rest_part b 31) ∙ held_last es c.args.k b used (sym c.key_chunk-c.ensures ∙ c.if-c-last-2.true)
