-- A page id is undecodable exactly where its decoding is `None`.
-- Assumes nothing.
use mathlib.Core.Path.{◌≡◌, refl, sym, ap, ◌∙◌}
use mathlib.Core.Bool.{Bool, false, true, not, false≢true}
use Rattle.std.specs.Prelude.{Option, Some, None, is_some}
use Rattle.page_ids.specs.declared.DynamicPageKind.TheVariants.{Code, Heap, Aux}
use Rattle.page_ids.specs.declared.DecodedPage.{DecodedPage}
use Rattle.page_ids.specs.declared.DecodedPage.TheVariants.{Static, BootloaderCalldata, BootloaderHeap, BootloaderAuxHeap, Dynamic}
use Rattle.page_ids.specs.Decode.{page_of, is_none}

pub some_known : (d : DecodedPage) → is_none (page_of (Some d)) ≡ false
some_known Static = refl
some_known BootloaderCalldata = refl
some_known BootloaderHeap = refl
some_known BootloaderAuxHeap = refl
some_known (Dynamic Code g) = refl
some_known (Dynamic Heap g) = refl
some_known (Dynamic Aux g) = refl

-- a decoding that is there
pub known : {r : Option DecodedPage} {d : DecodedPage} → r ≡ Some d → is_none (page_of r) ≡ false
known {d} e = ap (λ (x : Option DecodedPage). is_none (page_of x)) e ∙ some_known d

-- .. and one that is not
pub unknown : {r : Option DecodedPage} → r ≡ None → is_none (page_of r) ≡ true
unknown e = ap (λ (x : Option DecodedPage). is_none (page_of x)) e

-- what the test `is_none` of a decoding tells
pub told : (r : Option DecodedPage) (b : Bool) → is_some r ≡ not b → is_none (page_of r) ≡ b
told (Some d) true e = absurd (false≢true (sym e))
told (Some d) false e = some_known d
told None true e = refl
told None false e = absurd (false≢true e)
