use native.Mathlib.Omega.{arith}
use Rattle.opening.specs.Opening.{setting_from}
use Rattle.opening.proofs.Starts.{head_width, words_asks, fixed_asks, started}
use Rattle.opening.proofs.start.Goals as goal

pub list_fixed-requires : goal.list_fixed-requires
list_fixed-requires c =
    let asks = words_asks (setting_from c.args.layout c.args.capacity.chunks c.args.capacity.pages c.args.capacity.journal_words) c.args.bytes.now c.args.keys.now c.args.order.now c.args.words.now c.fill_pool.new.words c.requires c.fill_pool.auto.words in
    fixed_asks (setting_from c.args.layout c.args.capacity.chunks c.args.capacity.pages c.args.capacity.journal_words) c.args.bytes.now c.args.keys.now c.args.order.now c.fill_pool.new.words asks (head_width (setting_from c.args.layout c.args.capacity.chunks c.args.capacity.pages c.args.capacity.journal_words) c.fill_pool.new.words (omega arith) (omega arith) (omega arith) (omega arith) (omega arith) (omega arith)) c.fill_pool.ensures c.fill-2.new.self c.write_head.new.words (c.fill-2.ensures.after (λ y e. e)) c.write_head.ensures

pub returns : goal.returns
returns c =
    let asks = words_asks (setting_from c.args.layout c.args.capacity.chunks c.args.capacity.pages c.args.capacity.journal_words) c.args.bytes.now c.args.keys.now c.args.order.now c.args.words.now c.fill_pool.new.words c.requires c.fill_pool.auto.words in
    started (setting_from c.args.layout c.args.capacity.chunks c.args.capacity.pages c.args.capacity.journal_words) c.args.bytes.now c.args.keys.now c.args.order.now c.fill_pool.new.words asks (head_width (setting_from c.args.layout c.args.capacity.chunks c.args.capacity.pages c.args.capacity.journal_words) c.fill_pool.new.words (omega arith) (omega arith) (omega arith) (omega arith) (omega arith) (omega arith)) c.fill_pool.ensures c.fill-2.new.self c.write_head.new.words (c.fill-2.ensures.after (λ y e. e)) c.write_head.ensures c.fill.new.self c.list_fixed.new.entries c.list_fixed.new.order (c.fill.ensures.after (λ y e. e)) c.list_fixed.auto.entries c.list_fixed.auto.order c.list_fixed.ensures
