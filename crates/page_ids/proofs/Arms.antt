-- What the arms of a match on a decoded page know of it.
-- Assumes nothing.
use mathlib.Core.Bool.{false}
use mathlib.Core.Path.{◌≡◌, refl}
use Prim.Native.Nat.{ℕ}
use Rattle.std.specs.Prelude.{Option, Some, None}
use Rattle.page_ids.specs.declared.DynamicPageKind.{DynamicPageKind}
use Rattle.page_ids.specs.declared.DynamicPageKind.TheVariants.{Code, Heap, Aux}
use Rattle.page_ids.specs.declared.DecodedPage.{DecodedPage}
use Rattle.page_ids.specs.declared.DecodedPage.TheVariants.{Static, BootloaderCalldata, BootloaderHeap, BootloaderAuxHeap, Dynamic}
use Rattle.page_ids.specs.Decode.{page_of, group_number, is_none, is_dynamic, is_fixed}

-- ---- the arm of a dynamic page
pub dynamic_group : (kind : DynamicPageKind) (g : ℕ) → group_number (page_of (Some (Dynamic kind g))) ≡ g
dynamic_group Code g = refl
dynamic_group Heap g = refl
dynamic_group Aux g = refl

pub dynamic_known : (kind : DynamicPageKind) (g : ℕ) → (is_none (page_of (Some (Dynamic kind g))) ≡ false) × (is_fixed (page_of (Some (Dynamic kind g))) ≡ false)
dynamic_known Code g = (refl, refl)
dynamic_known Heap g = (refl, refl)
dynamic_known Aux g = (refl, refl)

-- ---- the arm of every other page
pub other_than_dynamic : (r : Option DecodedPage) → ((kind : DynamicPageKind) (group : ℕ) → r ≡ Some (Dynamic kind group) → ⊥) → (is_dynamic (page_of r) ≡ false) × (group_number (page_of r) ≡ 0)
other_than_dynamic (Some Static) n = (refl, refl)
other_than_dynamic (Some BootloaderCalldata) n = (refl, refl)
other_than_dynamic (Some BootloaderHeap) n = (refl, refl)
other_than_dynamic (Some BootloaderAuxHeap) n = (refl, refl)
other_than_dynamic (Some (Dynamic kind group)) n = absurd (n kind group refl)
other_than_dynamic None n = (refl, refl)
