use mathlib.Core.Path.{sym}
use Rattle.pages.proofs.Listing.{no_entry, entry_asks, listed_entry, listed_now}
use Rattle.pages.proofs.list_page.Goals as goal

pub take_entry-requires : goal.take_entry-requires
take_entry-requires c =
    entry_asks _ _ c.requires.0 (no_entry _ _ c.requires.0 c.requires.1)

pub returns : goal.returns
returns c =
    let a = c.requires.0 in
    let l = no_entry _ _ a c.requires.1 in
    let t = c.take_entry in record { shows = listed_now _ _ a l _ _ _ t.auto.keys t.auto.order t.ensures; value = sym (listed_entry _ _ a l _ _ _ t.auto.keys t.auto.order t.ensures) }
