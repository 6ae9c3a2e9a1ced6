-- A call as the function's proved contract tells it to whoever calls it. Nothing here restates a contract:
-- `Asked` and `Learnt` are what the checker reads in the function's own clauses.
-- Assumes nothing.
use Rattle.std.specs.Prelude.{◌≡◌, List, ℕ}
use borrow.Fn.Kind.{ParamKind, ResultKind}
use borrow.Fn.Kinds.{In, Out, Dens, res_t, ended_of, stays}
use borrow.Fn.Args.{ArgsT, args_v}
use borrow.Table.Row.{Cx}
use borrow.Table.Typed.{Mo}
use borrow.Author.Called.{Called}
use contract.Lifetimes.{Lfts}
use denote.Triple.Clauses.{Lasts, AtExit, at_exit}
use denote.Triple.Walked.{Fit}
use Rattle.std.specs.Borrow.{Bor, MutBor}
use Rattle.store.specs.Mem.{Mem, mem}

-- A call of a function that takes ps and answers an r, asks P and tells Q: what the logic's record `borrow.Author.Called` hands a caller's proof,
-- with the arguments and what is asked of them in place of the caller's locals, and without its field `type_inv`, the range of the result's numbers.
-- So a step is a call in the contract's own terms, its numbers of any size: each call of the code is one, and not each is a call of the code. What
-- is claimed of all steps is the stronger for it; that there is a step (Goes) is said in these terms, and no more
pub record Went {n : ℕ} (ps : List (ParamKind n)) (r : ResultKind n) (P : In n ps) (Q : Out n ps r) : Type 0 where
  pub lifetimes : Lfts n
  pub args : Dens lifetimes ps
  pub result : (res_t r lifetimes).Denot
  pub last : Lasts (ended_of n ps r) lifetimes args
  pub asked : P lifetimes args
  pub kept : Fit (ended_of n ps r) (stays ps) lifetimes args last
  pub ensures : Q lifetimes args result (at_exit (ended_of n ps r) lifetimes args last)

-- the call c of the logic as a `Went`: it has the lifetimes, arguments, result and last values of c
-- `calls_are_steps` of Rules says that each call has one
pub record WentBy {n : ℕ} {ps : List (ParamKind n)} {r : ResultKind n} {Q : Out n ps r} {Γ : Cx} {ar : ArgsT ps Γ.locals} {u : Mo Γ} (P : In n ps) (c : Called ps r Q Γ ar u) : Type 0 where
  pub went : Went ps r P Q
  pub same :
      ◌≡◌ {A = (κ : Lfts n) × (a : Dens κ ps) × (res_t r κ).Denot × Lasts (ended_of n ps r) κ a}
      (went.lifetimes, went.args, went.result, went.last)
      (c.lifetimes, args_v c.lifetimes ps Γ.locals ar u, c.result, c.new)

-- the parameters at exit
abbrev pub exits : {n : ℕ} {ps : List (ParamKind n)} {r : ResultKind n} {P : In n ps} {Q : Out n ps r} (w : Went ps r P Q) → AtExit (ended_of n ps r) w.lifetimes
exits {n} {ps} {r} w = at_exit (ended_of n ps r) w.lifetimes w.args w.last

-- the four lent buffers, which every function takes first, with what each of them holds
abbrev pub lent_as : {A B C D X : Type 0} → (A → List ℕ) → (B → List ℕ) → (C → List ℕ) → (D → List ℕ) → A × (B × (C × (D × X))) → Mem
lent_as f g h k a = mem (f a.0) (g a.1.0) (h a.1.1.0) (k a.1.1.1.0)

-- what a buffer holds that is lent by a `&`, and one that is lent by a `&mut`
abbrev pub held : Bor (List ℕ) → List ℕ
held x = x.now

abbrev pub held_mut : MutBor (List ℕ) → List ℕ
held_mut x = x.now

-- all four are lent by a `&`
abbrev pub lent : {X : Type 0} → Bor (List ℕ) × (Bor (List ℕ) × (Bor (List ℕ) × (Bor (List ℕ) × X))) → Mem
lent a = lent_as held held held held a

-- all four are lent by a `&mut`
abbrev pub lent_mut : {X : Type 0} → MutBor (List ℕ) × (MutBor (List ℕ) × (MutBor (List ℕ) × (MutBor (List ℕ) × X))) → Mem
lent_mut a = lent_as held_mut held_mut held_mut held_mut a

-- the bytes and the words are lent by a `&mut`, as to a rollback
abbrev pub lent_bytes_words : {X : Type 0} → MutBor (List ℕ) × (Bor (List ℕ) × (Bor (List ℕ) × (MutBor (List ℕ) × X))) → Mem
lent_bytes_words a = lent_as held_mut held held held_mut a

-- the words alone are lent by a `&mut`, as to a deletion of the history
abbrev pub lent_words : {X : Type 0} → Bor (List ℕ) × (Bor (List ℕ) × (Bor (List ℕ) × (MutBor (List ℕ) × X))) → Mem
lent_words a = lent_as held held held held_mut a

-- what else the caller chooses
abbrev pub rest : {A B C D X : Type 0} → A × (B × (C × (D × X))) → X
rest a = a.1.1.1.1
