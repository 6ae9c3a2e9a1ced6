-- The numbers of a line, one after the other, and the line of a command.
-- Assumes nothing.
use mathlib.Core.Path.{◌≡◌, refl, sym, ap, ◌∙◌}
use mathlib.Core.List.{List, [], ◌∷◌, ◌++◌, append_assoc}
use Prim.Native.Nat.{ℕ, suc, ◌+◌, ◌-◌, ◌≤◌, ◌<◌}
use native.Mathlib.Numerals.{add-one}
use native.Mathlib.Omega.{arith}
use lib.ListN.{length, get_or, take, set, replicate, length-set, get_or-append}
use lib.Seq.{take-suc-set, take_all, get_or_at}
use Rattle.std.specs.Prelude.{Option, None, Some}
use Rattle.trace.specs.Language.{Kind, Unread, Open, Write, Read, Snapshot, Rollback, unread, decimal, numbers, also, line_if}
use Rattle.word.specs.Value.{value}
use Rattle.word.specs.declared.Word.{Word}
use Rattle.trace.specs.declared.Command.{Command}
use Rattle.trace.specs.declared.Command.TheVariants as command
use Rattle.trace.specs.Reading.{ahead, ended}

abbrev pub Form : Type 0
Form = List ℕ → Option ℕ

pub also_none : (x : Option ℕ) → also x None ≡ None
also_none None = refl
also_none (Some n) = refl

-- one field
ahead_one : (ms : List ℕ) (v : ℕ) (x : Option (List ℕ)) → ahead ms (also (Some v) x) ≡ ahead (ms ++ (v ∷ [])) x
ahead_one ms v None = refl
ahead_one ms v (Some ns) = ap Some (sym (append_assoc ms (v ∷ []) ns))

-- ---- the loop over decimals
ahead_none : (x : Option (List ℕ)) → x ≡ ahead [] x
ahead_none None = refl
ahead_none (Some ns) = refl

-- what is to be read where n decimals are left
abbrev pub to_read : List (List ℕ) → ℕ → List Form → Option (List ℕ)
to_read fs n forms = numbers (replicate n decimal ++ forms) fs

-- i of n decimals are read: vs has them, and gs is left of the fields fs
pub record IsRead (n : ℕ) (fs : List (List ℕ)) (i : ℕ) (vs : List ℕ) (gs : List (List ℕ)) : Type 0 where
  pub long : length vs ≡ n
  pub read : (forms : List Form) → to_read fs n forms ≡ ahead (take i vs) (to_read gs (n - i) forms)

left_over : (n i : ℕ) → i < n → n - i ≡ suc (n - (i + 1))
left_over n i l = omega arith

pub read_none : (n : ℕ) (fs : List (List ℕ)) (vs : List ℕ) → length vs ≡ n → IsRead n fs 0 vs fs
read_none n fs vs e = let z : n - 0 ≡ n = omega arith in record { long = e; read = λ forms. rw z (ahead_none (to_read fs n forms)) }

module _ (n : ℕ) (fs : List (List ℕ)) (i : ℕ) (vs : List ℕ) (gs : List (List ℕ)) (r : IsRead n fs i vs gs) where
  -- there is no field more
  pub read_past : i < n → gs ≡ [] → (forms : List Form) → to_read fs n forms ≡ None
  read_past l e forms = r.read forms ∙ rw (e, left_over n i l)

  module _ (l : i < n) (f : List ℕ) (hs : List (List ℕ)) (e : gs ≡ f ∷ hs) where
    pub read_bad : None ≡ decimal f → (forms : List Form) → to_read fs n forms ≡ None
    read_bad q forms = r.read forms ∙ rw (e, left_over n i l, sym q)

    pub read_one : (v : ℕ) → Some v ≡ decimal f → IsRead n fs (i + 1) (set vs i v) hs
    read_one v q = record {
      long = simp length-set r.long;
      read = λ forms. r.read forms ∙ rw (e, left_over n i l, sym q, add-one i, take-suc-set vs i v (omega (arith, r.long))) (ahead_one (take i vs) v (to_read hs (n - suc i) forms));
    }

  pub read_all : n ≤ i → (forms : List Form) → to_read fs n forms ≡ ahead vs (numbers forms gs)
  read_all l forms = let z : n - i ≡ 0 = omega arith in r.read forms ∙ rw (z, take_all i vs (omega (arith, r.long)))

-- ---- commands
pub no_line : (x : Option (List ℕ)) → line_if Unread x ≡ unread
no_line None = refl
no_line (Some ns) = refl

pub snapshot_line : (x : Option (List ℕ)) → line_if Snapshot x ≡ ended (Some command.Snapshot) x
snapshot_line None = refl
snapshot_line (Some ns) = refl

pub no_read : (k : Kind) (n : Option (List ℕ)) (r : Option Command) (x : Option (List ℕ)) → n ≡ None → r ≡ None → line_if k n ≡ ended r x
no_read k n r x e f = rw (e, f)

pub open_read : (vs : List ℕ) (x : Option (List ℕ)) → length vs ≡ 9
    → line_if Open (ahead vs x) ≡ ended (Some (command.Open (record { static_memory = get_or vs 0 0; calldata = get_or vs 1 0; bootloader_heap = get_or vs 2 0; bootloader_aux = get_or vs 3 0; base = get_or vs 4 0; stride = get_or vs 5 0; counts = record { chunks = get_or vs 6 0; pages = get_or vs 7 0; journal_words = get_or vs 8 0 } }))) x
open_read vs None l = refl
open_read vs (Some ns) l =
    rw (get_or-append vs ns 0 0 (omega arith), get_or-append vs ns 0 1 (omega arith), get_or-append vs ns 0 2 (omega arith), get_or-append vs ns 0 3 (omega arith), get_or-append vs ns 0 4 (omega arith), get_or-append vs ns 0 5 (omega arith), get_or-append vs ns 0 6 (omega arith), get_or-append vs ns 0 7 (omega arith), get_or-append vs ns 0 8 (omega arith))

pub read_read : (vs : List ℕ) (x : Option (List ℕ)) → length vs ≡ 2 → line_if Read (ahead vs x) ≡ ended (Some (command.Read (get_or vs 0 0) (get_or vs 1 0))) x
read_read vs None l = refl
read_read vs (Some ns) l = rw (get_or-append vs ns 0 0 (omega arith), get_or-append vs ns 0 1 (omega arith))

pub rollback_read : (vs : List ℕ) (x : Option (List ℕ)) → length vs ≡ 2 → line_if Rollback (ahead vs x) ≡ ended (Some (command.Rollback (get_or vs 0 0) (get_or vs 1 0))) x
rollback_read vs None l = refl
rollback_read vs (Some ns) l = rw (get_or-append vs ns 0 0 (omega arith), get_or-append vs ns 0 1 (omega arith))

pub write_read : (vs : List ℕ) (w : Word) (x : Option (List ℕ)) → length vs ≡ 2 → line_if Write (ahead vs (also (Some (value w.limbs)) x)) ≡ ended (Some (command.Write (get_or vs 0 0) (get_or vs 1 0) w)) x
write_read vs w None l = refl
write_read vs w (Some ns) l =
    rw (get_or-append vs (value w.limbs ∷ ns) 0 0 (omega arith), get_or-append vs (value w.limbs ∷ ns) 0 1 (omega arith), get_or_at vs (value w.limbs) ns 0 2 l)
