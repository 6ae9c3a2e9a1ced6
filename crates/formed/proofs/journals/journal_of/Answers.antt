use Prim.Native.Nat.{ℕ, zero, suc, ◌<◌}
use mathlib.Core.List.{List}
use mathlib.Core.Path.{◌≡◌, sym}
use native.Mathlib.Omega.{arith}
use lib.ListN.{get_or}
use Rattle.store.specs.Mem.{layout_of}
use Rattle.formed.specs.Pages.{journal_count, journal_page}
use Rattle.formed.proofs.journals.journal_of.Goals as goal

neither : (w : List ℕ) (p : ℕ) → (get_or w 2 0 ≡ p → ⊥) → (get_or w 3 0 ≡ p → ⊥) → (i : ℕ) → i < journal_count → p ≡ journal_page (layout_of w) i → ⊥
neither w p n o zero l e = n (sym e)
neither w p n o (suc zero) l e = o (sym e)
neither w p n o (suc (suc i)) l e = omega arith

pub returns : goal.returns
returns c =
    record { most = omega arith; own = λ l. absurd (omega arith); none = λ _. neither c.args.words.now c.args.page.0 c.if-words-page.false c.if-words-page-2.false }

pub returns-then-words-page : goal.returns-then-words-page
returns-then-words-page c = record { most = omega arith; own = λ _. sym c.if-words-page.true; none = λ l. absurd (omega arith) }

pub returns-then-words-page-2 : goal.returns-then-words-page-2
returns-then-words-page-2 c = record { most = omega arith; own = λ _. sym c.if-words-page-2.true; none = λ l. absurd (omega arith) }
