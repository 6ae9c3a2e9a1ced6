use mathlib.Core.Path.{refl, sym, ap, ◌∙◌}
use Rattle.std.specs.Prelude.{Some}
use Rattle.page_ids.specs.declared.DecodedPage.{DecodedPage}
use Rattle.page_ids.specs.Decode.{page_of}
use Rattle.formed.proofs.Bools.{and_stop}
use Rattle.formed.proofs.Pages.{told_dynamic, told_other, told_none}
use Rattle.formed.proofs.entry.page_ok.Goals as goal

pub returns-in_default : goal.returns-in_default
returns-in_default c = and_stop _ _ (told_none c.args.layout c.args.page.0 (sym (ap page_of c.in_default.is) ∙ c.decode_page.ensures))

pub returns-in-Dynamic : goal.returns-in-Dynamic
returns-in-Dynamic c =
    let t = told_dynamic c.args.layout c.args.page.0 c.in-Dynamic.field-0 c.in-Dynamic.group (sym (ap (λ (r : DecodedPage). page_of (Some r)) c.in-Dynamic.is) ∙ sym (ap page_of c.in-Some.is) ∙ c.decode_page.ensures) in
    rw (t.0, t.1) refl

pub returns-in_default-decoded : goal.returns-in_default-decoded
returns-in_default-decoded c =
    and_stop _ _ (told_other c.args.layout c.args.page.0 c.in-Some.decoded c.in_default-decoded.not-Dynamic (sym (ap page_of c.in-Some.is) ∙ c.decode_page.ensures))
