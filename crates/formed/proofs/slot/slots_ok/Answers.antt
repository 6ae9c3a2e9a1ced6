use Rattle.std.proofs.Common.{ℕ, Iter, ◌<◌, rules, tests, refl, ap, arith, ◌∙◌, ◌/◌, [], length}
use Rattle.std.proofs.lemmas.Iterator.{YieldsList-from_slice, YieldsList-from_zip}
use Rattle.std.proofs.lemmas.Iterator.Search.{all_from_yields_List}
use Rattle.std.proofs.lemmas.Slice.Zip.{length-zip, get_or-zip}
use Rattle.std.specs.List.{zip}
use Rattle.std.specs.Simd.{first_chunks}
use Rattle.formed.proofs.Each.{all_of_list, get_or-first_chunks, length-first_chunks}
use Rattle.formed.specs.Formed.{slot_right, slot_at}
use Rattle.formed.proofs.slot.slots_ok.Goals as goal

pub returns : goal.returns
returns c =
    let es = c.args.entries.now in
    let hs = c.args.holders.now in
    let bs = c.args.bytes.now in
    let cut = first_chunks 256 (length bs / 256) bs in
    all_from_yields_List (λ (k, b). slot_right es k b) c.all.new.self _ _ c.all.ensures.ran (YieldsList-from_zip (YieldsList-from_slice hs (ap (λ (x : Iter ℕ). x.rest.now) c.zip.ensures.first ∙ c.iter.ensures.rest)) (YieldsList-from_slice cut (c.zip.ensures.second.0 ∙ c.as_chunks.ensures.front))) (λ x b q k. search (rules, tests))
    ∙ all_of_list _ (slot_at es hs bs) (zip hs cut) (0, []) (length hs) (let z = length-zip hs cut in let f = length-first_chunks 256 (length bs / 256) bs in omega (arith, c.requires)) (λ i l. let m : i < length bs / 256 = omega (arith, c.requires) in
    let f = length-first_chunks 256 (length bs / 256) bs in rw (get_or-zip hs cut i (0, []) l (omega arith), get_or-first_chunks 256 (length bs / 256) i bs [] m) refl)
