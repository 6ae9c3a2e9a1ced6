-- Worked figures, by computation.
-- Assumes nothing.
use mathlib.Core.Path.{◌≡◌, refl}
use mathlib.Core.Bool.{true, false}
use mathlib.Core.List.{List, [], ◌∷◌}
use Prim.Native.Nat.{ℕ, ◌+◌, ◌*◌, ◌^◌}
use Rattle.registers.specs.declared.Place.TheVariants.{Register, Immediate, Other}
use Rattle.registers.specs.Registers.{Registers, with_register, cleared, is_source, is_register, value_of, place_from, registers_from}

-- register 3 is tagged, and has a pointer: offset 1, page 66, start 10, length 5
abbrev file : Registers
file = record { word = λ k. 1 + 66 * 2 ^ 32 + 10 * 2 ^ 64 + 5 * 2 ^ 96; flags = 8 }

pointer_erased : value_of false file 3 ≡ 1 + 5 * 2 ^ 96
pointer_erased = refl

pointer_kept : value_of true file 3 ≡ 1 + 66 * 2 ^ 32 + 10 * 2 ^ 64 + 5 * 2 ^ 96
pointer_kept = refl

plain_kept : value_of false file 2 ≡ 1 + 66 * 2 ^ 32 + 10 * 2 ^ 64 + 5 * 2 ^ 96
plain_kept = refl

flag_gone : (cleared 3 file).flags ≡ 0
flag_gone = refl

flag_come : (with_register 4 9 true file).flags ≡ 24
flag_come = refl

word_come : (with_register 4 9 true file).word 4 ≡ 9
word_come = refl

zero_register : with_register 0 9 true file ≡ file
zero_register = refl

last_register : is_register (Register 15) ≡ true
last_register = refl

no_register : is_register (Register 16) ≡ false
no_register = refl

last_immediate : is_source (Immediate 65535) ≡ true
last_immediate = refl

no_immediate : is_source (Immediate 65536) ≡ false
no_immediate = refl

no_form : is_source Other ≡ false
no_form = refl

first_immediate : place_from 65536 ≡ Immediate 0
first_immediate = refl

top_immediate : place_from 131071 ≡ Immediate 65535
top_immediate = refl

past_the_places : place_from 131072 ≡ Other
past_the_places = refl

no_such_register : is_register (place_from 16) ≡ false
no_such_register = refl

-- the limbs of registers 0 and 1: the lowest of register 1 is at place 4, its highest at 7
abbrev some : List ℕ
some = 0 ∷ 0 ∷ 0 ∷ 0 ∷ 7 ∷ 8 ∷ 0 ∷ 9 ∷ []

limbs_low_first : (registers_from some).word 1 ≡ 7 + 8 * 2 ^ 64 + 9 * 2 ^ 192
limbs_low_first = refl

no_word : (registers_from some).word 16 ≡ 0
no_word = refl
