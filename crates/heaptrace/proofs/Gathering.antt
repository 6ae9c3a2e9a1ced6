-- Bytes that are gathered, and lines that are found.
-- Assumes nothing.
use mathlib.Core.Path.{◌≡◌, sym, ap, ◌∙◌}
use mathlib.Core.Logic.{⊎_elim}
use mathlib.Core.Bool.{false≢true}
use mathlib.Core.List.{List, ◌++◌}
use Prim.Native.Nat.{ℕ, ◌+◌, ◌-◌, ◌≤◌, ◌<◌, min}
use native.Mathlib.Omega.{arith}
use lib.ListN.{length, take, length-append}
use lib.Seq.{take-append-add, take_all}
use Rattle.std.proofs.lemmas.Bool.{cases_lt}
use Rattle.std.specs.Prelude.{Result, Ok, Err, IsOk, OnOk}

-- as much of a piece as there is room for
pub gathered : (o piece : List ℕ) (room : ℕ) → length o ≤ 104 → room ≡ min (104 - length o) (length piece) → o ++ take room piece ≡ take 104 (o ++ piece)
gathered o piece room l e =
    ⊎_elim
    (λ (g : length piece < 104 - length o). let f : room ≡ length piece = omega arith in ap (λ (t : List ℕ). o ++ t) (take_all room piece (omega arith)) ∙ sym (take_all 104 (o ++ piece) (omega (arith, length-append o piece))))
    (λ (g : 104 - length o ≤ length piece). let f : length o + room ≡ 104 = omega arith in sym (take-append-add o piece room) ∙ ap (λ (n : ℕ). take n (o ++ piece)) f)
    (cases_lt (length piece) (104 - length o))

-- a call that is carried out does what it says
pub on_ok : {A E P : Type 0} (r : Result A E) → IsOk r → OnOk r P → P
on_ok (Ok x) k p = p
on_ok (Err e) k p = absurd (false≢true k)
