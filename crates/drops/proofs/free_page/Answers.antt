use Rattle.drops.proofs.Drops.{freed_by}
use Rattle.drops.proofs.Drops.{all_asked, unlist_asked}
use Rattle.drops.proofs.free_page.Goals as goal

pub unlist_page-requires : goal.unlist_page-requires
unlist_page-requires c =
    unlist_asked _ _ c.requires _ c.drop_chunks.ensures.0

pub returns : goal.returns
returns c =
    freed_by _ _ c.requires _ _ c.drop_chunks.ensures c.unlist_page.ensures

pub drop_chunks-requires : goal.drop_chunks-requires
drop_chunks-requires c = all_asked _ _ c.requires
