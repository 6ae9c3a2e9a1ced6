use mathlib.Core.Path.{ap, ◌∙◌}
use Rattle.page_ids.specs.Decode.{decoded}
use Rattle.page_ids.specs.declared.Layout.{Layout}
use Rattle.checks.proofs.decode.Goals as goal

pub returns : goal.returns
returns c =
    c.decode_page.ensures ∙ ap (λ (l : Layout). decoded l c.args.page.0) c.layout_of.ensures

pub layout_of-requires : goal.layout_of-requires
layout_of-requires c = c.requires
