-- A table of keys and the order of its places. ks has a key for each place, 0 for a free one; os lists the places in use by ascending key.
-- Assumes nothing.
use Rattle.std.specs.Prelude.{◌≡◌, Bool, true, cond, ◌&&◌, List, [], ◌∷◌, ℕ, zero, suc, ◌+◌, ◌-◌, ◌<◌, ◌≤◌, ltb, leb, eqb, length, get_or}

-- p holds at every number below n
unfoldable pub all : (ℕ → Bool) → ℕ → Bool
all p zero = true
all p (suc n) = all p n && p n

-- the first place with the key k, or the number of places
unfoldable pub seek : List ℕ → ℕ → ℕ
seek [] k = 0
seek (x ∷ ks) k = cond (eqb x k) 0 (suc (seek ks k))

-- how many places are in use, and how many are free
unfoldable pub used_count : List ℕ → ℕ
used_count [] = 0
used_count (zero ∷ ks) = used_count ks
used_count (suc k ∷ ks) = suc (used_count ks)

unfoldable pub free_count : List ℕ → ℕ
free_count [] = 0
free_count (zero ∷ ks) = suc (free_count ks)
free_count (suc k ∷ ks) = free_count ks

-- the key at rank i, and the one before it, 0 before the first
abbrev pub key_at : List ℕ → List ℕ → ℕ → ℕ
key_at ks os i = get_or ks (get_or os i 0) 0

unfoldable pub key_before : List ℕ → List ℕ → ℕ → ℕ
key_before ks os zero = 0
key_before ks os (suc i) = key_at ks os i

-- the key at rank i is above the one before it; a place past the table has key 0, so this holds of places of the table alone
abbrev pub rises : List ℕ → List ℕ → ℕ → Bool
rises ks os i = ltb (key_before ks os i) (key_at ks os i)

-- the test: n places are in use, and the keys of the first n of the order rise
unfoldable pub indexed : List ℕ → List ℕ → ℕ → Bool
indexed ks os n = leb n (length os) && (eqb (used_count ks) n && all (rises ks os) n)

-- s is among the first n of os
pub record Listed (os : List ℕ) (n s : ℕ) : Type 0 where
  pub rank : ℕ
  pub rank_lt : rank < n
  pub is : get_or os rank 0 ≡ s

-- what the test means: the first n of os are the places in use, each once, by ascending key
pub record Index (ks os : List ℕ) (n : ℕ) : Type 0 where
  pub room : n ≤ length os
  pub complete : (s : ℕ) → 0 < get_or ks s 0 → Listed os n s
  pub rising : (i j : ℕ) → i < j → j < n → key_at ks os i < key_at ks os j
  pub in_use : (i : ℕ) → i < n → 0 < key_at ks os i

-- r is the first rank whose key is at least k
pub record LowerBound (ks os : List ℕ) (n k r : ℕ) : Type 0 where
  pub within : r ≤ n
  pub below : (i : ℕ) → i < r → key_at ks os i < k
  pub above : (i : ℕ) → r ≤ i → i < n → k ≤ key_at ks os i

-- ds is os with what stands from `at` to n moved up by one
pub record MovedUp (os ds : List ℕ) (at n : ℕ) : Type 0 where
  pub long : length ds ≡ length os
  pub low : (i : ℕ) → i < at → get_or ds i 0 ≡ get_or os i 0
  pub high : (i : ℕ) → at ≤ i → i < n → get_or ds (i + 1) 0 ≡ get_or os i 0

-- place s is free, and may be given the key k, which no place has
pub record Insertable (ks os : List ℕ) (n s k : ℕ) : Type 0 where
  pub index : indexed ks os n ≡ true
  pub room : n < length os
  pub place : s < length ks
  pub free : get_or ks s 0 ≡ 0
  pub key : 0 < k
  pub new : length ks ≤ seek ks k

-- ks' is ks with the places of the ranks from `from` up to, but without, `to` free
pub record Cleared (ks os : List ℕ) (from to : ℕ) (ks' : List ℕ) : Type 0 where
  pub long : length ks' ≡ length ks
  pub gone : (i : ℕ) → from ≤ i → i < to → key_at ks' os i ≡ 0
  pub kept : (s : ℕ) → ((i : ℕ) → from ≤ i → i < to → get_or os i 0 ≡ s → ⊥) → get_or ks' s 0 ≡ get_or ks s 0

-- ds is os with what stands from `from` to n moved down to `at`
pub record MovedDown (os ds : List ℕ) (at from n : ℕ) : Type 0 where
  pub long : length ds ≡ length os
  pub low : (i : ℕ) → i < at → get_or ds i 0 ≡ get_or os i 0
  pub high : (j : ℕ) → from ≤ j → j < n → get_or ds (at + (j - from)) 0 ≡ get_or os j 0

-- those places are free, and the rest is indexed
pub record Removed (ks os : List ℕ) (n from to : ℕ) (ks' os' : List ℕ) : Type 0 where
  pub cleared : Cleared ks os from to ks'
  pub order_long : length os' ≡ length os
  pub index : indexed ks' os' (n - (to - from)) ≡ true
