-- The sixteen registers, the set of their pointer flags, and the places of operands.
-- Assumes nothing.
use Rattle.std.specs.Prelude.{Bool, false, cond, not, ◌&&◌, List, ℕ, ◌+◌, ◌*◌, ◌-◌, ◌/◌, ◌%◌, ◌^◌, eqb, leb, get_or}
use Rattle.word.specs.Value.{value, limbs_value}
use Rattle.registers.specs.declared.Place.{Place}
use Rattle.registers.specs.declared.Place.TheVariants.{Register, Immediate, Other}
use Rattle.registers.specs.declared.LoadPlaces.{LoadPlaces}
use Rattle.registers.specs.declared.StorePlaces.{StorePlaces}
use Rattle.registers.specs.declared.Operand as code

pub record Registers : Type 0 where
  -- the number of a register's word
  pub word : ℕ → ℕ
  -- bit n is the flag of register n
  pub flags : ℕ

-- a word, and whether it is tagged as a pointer
pub record Operand : Type 0 where
  pub word : ℕ
  pub tag : Bool

-- ---- flags
abbrev pub flag_of : ℕ → ℕ → Bool
flag_of flags n = eqb (flags / 2 ^ n % 2) 1

abbrev pub with_flag : ℕ → ℕ → ℕ
with_flag flags n = cond (flag_of flags n) flags (flags + 2 ^ n)

abbrev pub without_flag : ℕ → ℕ → ℕ
without_flag flags n = cond (flag_of flags n) (flags - 2 ^ n) flags

abbrev pub put_flag : ℕ → ℕ → Bool → ℕ
put_flag flags n t = cond t (with_flag flags n) (without_flag flags n)

-- ---- writing
-- register n has the word w and the flag t; register 0 keeps what it has
abbrev pub with_register : ℕ → ℕ → Bool → Registers → Registers
with_register n w t g = cond (eqb n 0) g (record { word = λ k. cond (eqb k n) w (g.word k); flags = put_flag g.flags n t })

abbrev pub cleared : ℕ → Registers → Registers
cleared n g = with_register n 0 false g

-- ---- places
abbrev pub is_register : Place → Bool
is_register (Register n) = leb n 15
is_register (Immediate n) = false
is_register Other = false

abbrev pub is_source : Place → Bool
is_source (Register n) = leb n 15
is_source (Immediate n) = leb n 65535
is_source Other = false

-- the number of a register; of another form, which is refused before, 0
abbrev pub register_number : Place → ℕ
register_number (Register n) = n
register_number (Immediate n) = 0
register_number Other = 0

-- what is read at a place, raw; another form is refused before
abbrev pub source_of : Registers → Place → Operand
source_of g (Register n) = record { word = g.word n; tag = flag_of g.flags n }
source_of g (Immediate n) = record { word = n; tag = false }
source_of g Other = record { word = 0; tag = false }

-- a tagged word that is read as a plain one outside kernel mode: page and start are gone
abbrev pub erased : ℕ → ℕ
erased x = x % 2 ^ 32 + 2 ^ 96 * (x / 2 ^ 96)

abbrev pub value_of : Bool → Registers → ℕ → ℕ
value_of kernel g n = cond (flag_of g.flags n && not kernel) (erased (g.word n)) (g.word n)

-- ---- which places an instruction takes
-- a load: the operand from a register or an immediate, two registers for what it gives
abbrev pub load_takes : LoadPlaces → Bool
load_takes p = is_source p.source && (is_register p.dst0 && is_register p.dst1)

-- a pointer read takes its operand from a register alone
abbrev pub pointer_takes : LoadPlaces → Bool
pointer_takes p = is_register p.source && (is_register p.dst0 && is_register p.dst1)

-- a store takes its value from a register too
abbrev pub store_takes : StorePlaces → Bool
store_takes p = is_source p.source && (is_register p.value && (is_register p.dst0 && is_register p.dst1))

-- ---- what numbers mean
-- the registers that 65 numbers are: four limbs of each word, the lowest first, and then the set of flags
abbrev pub registers_from : List ℕ → Registers
registers_from l = record {
  word = λ k. cond (leb k 15) (limbs_value (get_or l (4 * k) 0) (get_or l (4 * k + 1) 0) (get_or l (4 * k + 2) 0) (get_or l (4 * k + 3) 0)) 0;
  flags = get_or l 64 0;
}

-- the place that a number is: a register's number, 65,536 plus an immediate; from 131,072 on another form
abbrev pub place_from : ℕ → Place
place_from n = cond (leb n 65535) (Register n) (cond (leb n 131071) (Immediate (n - 65536)) Other)

abbrev pub load_places_from : (source dst0 dst1 : ℕ) → Bool → LoadPlaces
load_places_from source dst0 dst1 increment = record { source = place_from source; dst0 = place_from dst0; dst1 = place_from dst1; increment = increment }

abbrev pub store_places_from : (source value dst0 dst1 : ℕ) → Bool → StorePlaces
store_places_from source value dst0 dst1 increment = record {
  source = place_from source;
  value = place_from value;
  dst0 = place_from dst0;
  dst1 = place_from dst1;
  increment = increment;
}

abbrev pub operand_of : code.Operand → Operand
operand_of x = record { word = value x.word.limbs; tag = x.tagged }
