use Rattle.std.proofs.Common.{zero-add, rules, tests, refl, arith, ◌∙◌, ◌||◌, ◌*◌, ◌-◌, min, eqb, length, get_or}
use Rattle.std.proofs.lemmas.Iterator.{YieldsList-from_slice}
use Rattle.std.proofs.lemmas.Iterator.Search.{all_from_yields_List}
use Rattle.std.proofs.lemmas.Iterator.Consumers.{YieldsList-from_enumerate}
use Rattle.std.proofs.lemmas.List.FromFn.{length-enumerate_from, get_or-enumerate_from}
use Rattle.std.specs.List.{enumerate_from}
use Rattle.bits.specs.Bits.{free_word, free_bits}
use Rattle.formed.proofs.Each.{all_of_list}
use Rattle.formed.proofs.PoolWords.{in_word}
use Rattle.formed.proofs.pool_words.bits_ok.Goals as goal

pub returns : goal.returns
returns c =
    let p = c.args.pool.now in
    let hs = c.args.holders.now in
    all_from_yields_List (λ (i, w). eqb w 0 || eqb w (free_bits hs (64 * i) (min 64 (length hs - 64 * i)))) _ _ _ c.all.ensures.ran (YieldsList-from_enumerate (YieldsList-from_slice p cc) cc) (λ x b q k. search (rules, tests))
    ∙ all_of_list _ (λ i. eqb (get_or p i 0) 0 || eqb (get_or p i 0) (free_word hs i)) (enumerate_from 0 p) (0, 0) (length p) (length-enumerate_from 0 p) (λ i l.
    let w = in_word hs i _ (omega (arith, c.requires)) refl in
    rw (get_or-enumerate_from 0 p i (0, 0) l, zero-add, w.2) refl)
