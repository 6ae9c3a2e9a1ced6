-- Laws on gas, bounds and quotes.
-- Assumes nothing.
use Rattle.std.proofs.Common.{◌≡◌, ℕ, suc, ◌+◌, ◌-◌, ◌<◌, ◌≤◌, max, Bool, true, false, cond, ltb, leb, List, length, get_or, drop, sym, refl, ap, ◌∙◌, true≢false, mod-eq_of_lt, arith, drop-cons, ltb-false, leb-false, leb-true}
use mathlib.Core.Bool.{false≢true}
use lib.Seq.{drop-length}
use Rattle.word.specs.Value.{last_address}
use Rattle.state.specs.Access.{new_bound, due, accessed, frame_accessed}
use Rattle.state.specs.Quote.{end_of, walked}
use Rattle.state.specs.declared.Frame.{Frame}
use Rattle.state.specs.declared.Area.{Area}
use Rattle.state.specs.declared.Area.TheVariants.{Heap, Aux}
use Rattle.state.specs.declared.Growth.{Growth}
use Rattle.state.specs.declared.quote.RunEnd.{RunEnd}

-- the operand limit excludes a wrap
pub no_wrap : (address : ℕ) → address ≤ last_address → new_bound address ≡ address + 32
no_wrap address l = mod-eq_of_lt (omega arith)

-- ---- an access
-- where it is paid: the operand is within the limit, the bound becomes the larger of itself and x + 32, and the gas pays the difference
pub record Pays (gas bound x : ℕ) (g : Growth) : Type 0 where
  pub within : x ≤ last_address
  pub top : g.bound ≡ max bound (x + 32)
  pub price : g.gas + (g.bound - bound) ≡ gas

module _ (gas bound x : ℕ) where
  -- by its three tests: whether it is above the limit, within the bound, and within the gas
  abbrev tested : Bool → Bool → Bool → Growth
  tested a b c =
      cond a (record { gas = 0; bound = bound; paid = false })
      (cond b (record { gas = gas; bound = bound; paid = true })
      (cond c (record { gas = gas - due bound (new_bound x); bound = new_bound x; paid = true }) (record { gas = 0; bound = bound; paid = false })))

  -- it leaves no more gas than there was
  less : (a b c : Bool) → (tested a b c).gas ≤ gas
  less true b c = omega arith
  less false true c = omega arith
  less false false true = omega arith
  less false false false = omega arith

  pub accessed_less : (given : ℕ) {g : Growth} → gas ≤ given → g ≡ accessed gas bound x → g.gas ≤ given
  accessed_less given l e =
      let k = less (ltb last_address x) (leb (new_bound x) bound) (leb (due bound (new_bound x)) gas) in
      let left = ap (λ (g : Growth). g.gas) e in
      omega (arith, k, left, l)

  -- where it is not paid it empties the gas and keeps the bound
  short : (a b c : Bool) → (tested a b c).paid ≡ false → tested a b c ≡ record { gas = 0; bound = bound; paid = false }
  short true b c e = refl
  short false true c e = absurd (true≢false e)
  short false false true e = absurd (true≢false e)
  short false false false e = refl

  pub accessed_short : (accessed gas bound x).paid ≡ false → accessed gas bound x ≡ record { gas = 0; bound = bound; paid = false }
  accessed_short = short (ltb last_address x) (leb (new_bound x) bound) (leb (due bound (new_bound x)) gas)

  pub accessed_paid : (accessed gas bound x).paid ≡ true → Pays gas bound x (accessed gas bound x)
  accessed_paid = go (ltb last_address x) (leb (new_bound x) bound) (leb (due bound (new_bound x)) gas) refl refl refl
    where
      go : (a b c : Bool) → ltb last_address x ≡ a → leb (new_bound x) bound ≡ b → leb (due bound (new_bound x)) gas ≡ c → (tested a b c).paid ≡ true → Pays gas bound x (tested a b c)
      go true b c p q r e = absurd (false≢true e)
      go false true c p q r e =
          let l = ltb-false last_address x p in
          let new = no_wrap x l in
          let k = leb-true (new_bound x) bound q in
          record { within = l; top = omega arith; price = omega arith }
      go false false true p q r e =
          let l = ltb-false last_address x p in
          let new = no_wrap x l in
          let k = leb-false (new_bound x) bound q in
          let j = leb-true (due bound (new_bound x)) gas r in
          record { within = l; top = omega arith; price = omega arith }
      go false false false p q r e = absurd (false≢true e)

-- the limit, of a frame
pub frame_within : (f : Frame) (area : Area) (x : ℕ) → (frame_accessed f area x).paid ≡ true → x ≤ last_address
frame_within f Heap x e = (accessed_paid f.gas f.heap_bound x e).within
frame_within f Aux x e = (accessed_paid f.gas f.aux_bound x e).within

-- ---- the run over a list
-- the rest of a list from i on: an access that is paid goes on, one that is not ends the run, and so does the list's end
module _ (given : ℕ) (list : List ℕ) (i gas bound : ℕ) where
  abbrev after : Growth → RunEnd
  after g = cond g.paid (walked given (drop (suc i) list) g.gas g.bound (suc i)) (end_of given g.gas g.bound i)

  next : i < length list → {g : Growth} → g ≡ accessed gas bound (get_or list i 0) → walked given (drop i list) gas bound i ≡ after g
  unfolding walked
  next l e = ap (λ (rest : List ℕ). walked given rest gas bound i) (drop-cons list i 0 l) ∙ ap after (sym e)

  pub walked_on : i < length list → {g : Growth} → g ≡ accessed gas bound (get_or list i 0) → g.paid ≡ true
      → walked given (drop i list) gas bound i ≡ walked given (drop (suc i) list) g.gas g.bound (suc i)
  walked_on l {g} e p = next l e ∙ ap (λ (b : Bool). cond b (walked given (drop (suc i) list) g.gas g.bound (suc i)) (end_of given g.gas g.bound i)) p

  pub walked_stops : i < length list → {g : Growth} → g ≡ accessed gas bound (get_or list i 0) → g.paid ≡ false
      → walked given (drop i list) gas bound i ≡ end_of given g.gas g.bound i
  walked_stops l {g} e p = next l e ∙ ap (λ (b : Bool). cond b (walked given (drop (suc i) list) g.gas g.bound (suc i)) (end_of given g.gas g.bound i)) p

  pub walked_end : i ≡ length list → walked given (drop i list) gas bound i ≡ end_of given gas bound i
  unfolding walked
  walked_end e = ap (λ (rest : List ℕ). walked given rest gas bound i) (ap (λ (k : ℕ). drop k list) e ∙ drop-length list)
