use Rattle.free_steps.proofs.Groups.{entry_in, entry_at, from_asked, at_told, used, few, asked_by, freed_visit, kept_visit}
use Rattle.store.specs.Mem.{mem}
use native.Mathlib.Omega.{arith}
use borrow.Author.Rules.{rules}
use Rattle.free_steps.proofs.free_entry.Goals as goal

pub is_from-requires : goal.is_from-requires
is_from-requires c =
    let m = mem c.args.bytes.now c.args.keys.now c.args.order.now c.args.words.now in
    from_asked m c.args.e c.requires

pub overflow_sub-x : goal.overflow_sub-x
overflow_sub-x c =
    let m = mem c.args.bytes.now c.args.keys.now c.args.order.now c.args.words.now in
    let told = at_told m c.args.e c.requires c.args.len _ c.is_from.ensures c.if-is_from.true in
    let u = used m c.args.e c.requires c.args.len told in
    let q = entry_at m c.args.e c.requires in
    omega arith

pub overflow_cast-x : goal.overflow_cast-x
overflow_cast-x c =
    let m = mem c.args.bytes.now c.args.keys.now c.args.order.now c.args.words.now in
    let told = at_told m c.args.e c.requires c.args.len _ c.is_from.ensures c.if-is_from.true in
    let u = few m c.args.e c.requires c.args.len told in
    let q = entry_at m c.args.e c.requires in
    omega arith

pub free_page-requires : goal.free_page-requires
free_page-requires c =
    let m = mem c.args.bytes.now c.args.keys.now c.args.order.now c.args.words.now in
    let told = at_told m c.args.e c.requires c.args.len _ c.is_from.ensures c.if-is_from.true in
    asked_by m c.args.e c.requires c.args.len told

pub returns-then-is_from : goal.returns-then-is_from
returns-then-is_from c =
    let m = mem c.args.bytes.now c.args.keys.now c.args.order.now c.args.words.now in
    let told = at_told m c.args.e c.requires c.args.len _ c.is_from.ensures c.if-is_from.true in
    freed_visit m c.args.e c.requires c.args.len told _ c.free_page.ensures

pub returns-else-is_from : goal.returns-else-is_from
returns-else-is_from c =
    let m = mem c.args.bytes.now c.args.keys.now c.args.order.now c.args.words.now in
    kept_visit m c.args.e c.requires c.args.len _ c.is_from.ensures c.if-is_from.false

pub bounds-words-6 : goal.bounds-words-6
bounds-words-6 c = let l = c.requires.formed.lengths.in_words in search rules

pub overflow_add-x : goal.overflow_add-x
overflow_add-x c = let h = entry_in _ _ c.requires in search rules

pub offset_bounds-keys-words : goal.offset_bounds-keys-words
offset_bounds-keys-words c = let h = entry_in _ _ c.requires in search rules

pub bounds-keys-words : goal.bounds-keys-words
bounds-keys-words c = let h = entry_in _ _ c.requires in omega arith
