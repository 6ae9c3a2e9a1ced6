-- Well formed, as the test that the code computes.
-- It is 01's sentence, the record WellFormed, both ways: `well_formed_lem` of lists/specs/Rules.antt says so, and proofs/Meaning proves it.
-- Assumes nothing.
use Rattle.std.specs.Prelude.{Bool, true, cond, not, ◌&&◌, ◌||◌, List, [], ◌∷◌, ℕ, ◌+◌, ◌*◌, ◌-◌, ◌/◌, ltb, leb, eqb, length, get_or, take, drop}
use Rattle.store.specs.Keys.{last_chunk, key_of, key_entry, key_chunk}
use Rattle.page_ids.specs.Decode.{bad_layout}
use Rattle.index.specs.Index.{all, indexed}
use Rattle.bits.specs.Bits.{free_word}
use Rattle.store.specs.Mem.{Mem, head_length, fixed_count, layout_of, slot_count, page_count, journal_words, held_now, in_use, dynamic_length, journal_length, pool_length, pool_word, pool_skip, holders, entries, slot_order, page_order, chunk_bytes}
use Rattle.formed.specs.Pages.{dynamic, group, journal_count, journal_place}
use Rattle.formed.specs.Buffers.{lengths_fit}

-- the counts are in bounds, and the lengths b, k, o of the other buffers and that of w are those for them
unfoldable pub sized : ℕ → ℕ → ℕ → List ℕ → Bool
sized b k o w =
    leb head_length (length w) && lengths_fit b k o (length w) (slot_count w) (page_count w) (journal_words w)

-- a number of 32 bits
abbrev pub fits : ℕ → Bool
fits n = leb n 4294967295

-- the six numbers of the layout and the dynamic length have 32 bits
unfoldable pub narrow : List ℕ → Bool
narrow w = fits (get_or w 0 0) && (fits (get_or w 1 0) && (fits (get_or w 2 0) && (fits (get_or w 3 0) && (fits (get_or w 4 0) && (fits (get_or w 5 0) && fits (dynamic_length w))))))

unfoldable pub head_right : List ℕ → Bool
head_right w = narrow w && not (bad_layout (layout_of w))

-- the first entries are the fixed pages'; any other is free, or a dynamic page below the dynamic length, of an id of 32 bits
unfoldable pub entry_right : List ℕ → List ℕ → ℕ → Bool
entry_right w es e =
    cond (ltb e fixed_count) (eqb (get_or es e 0) (get_or w e 0 + 1))
    (eqb (get_or es e 0) 0 || (leb (get_or es e 0) 4294967296 && (dynamic (layout_of w) (get_or es e 0 - 1) && ltb (group (layout_of w) (get_or es e 0 - 1)) (dynamic_length w))))

-- every element is 0
unfoldable pub zeros : List ℕ → Bool
zeros [] = true
zeros (x ∷ xs) = eqb x 0 && zeros xs

-- the 256 bytes of slot s
abbrev pub chunk : List ℕ → ℕ → List ℕ
chunk bs s = take 256 (drop (256 * s) bs)

-- the holder k has an entry that is in use, and a chunk number up to 16,777,216, whose bytes from 31 on are zero if it is that one
unfoldable pub held_right : List ℕ → ℕ → List ℕ → Bool
held_right es k b =
    ltb 0 (get_or es (key_entry k) 0) && (leb (key_chunk k) last_chunk && cond (eqb (key_chunk k) last_chunk) (zeros (drop 31 b)) true)

-- a chunk that is not held is zero, a held one is rightly held
unfoldable pub slot_right : List ℕ → ℕ → List ℕ → Bool
slot_right es k b = cond (eqb k 0) (zeros b) (held_right es k b)

abbrev pub slot_at : List ℕ → List ℕ → List ℕ → ℕ → Bool
slot_at es hs bs s = slot_right es (get_or hs s 0) (chunk bs s)

-- each word of the pool has the bits of its slots' holders hs, and those that a search skips are 0
unfoldable pub pool_right : List ℕ → List ℕ → Bool
pool_right hs w =
    all (λ i. eqb (pool_word w i) (free_word hs i)) (pool_length (slot_count w))
    && (leb (pool_skip w) (pool_length (slot_count w)) && all (λ i. eqb (pool_word w i) 0) (pool_skip w))

-- the chunks of word i, of which ns has the three numbers, are held at the slots noted; k is the key of the page's chunk 0
abbrev pub noted : List ℕ → List ℕ → ℕ → ℕ → Bool
noted hs ns k i =
    leb (get_or ns (3 * i) 0) 4294967295
    && (eqb (get_or hs (get_or ns (3 * i + 1) 0) 0) (k + get_or ns (3 * i) 0 / 256) && eqb (get_or hs (get_or ns (3 * i + 2) 0) 0) (k + (get_or ns (3 * i) 0 + 31) / 256))

-- journal j is within its room, and the chunks of each of its words are held
unfoldable pub journal_right : List ℕ → List ℕ → ℕ → Bool
journal_right hs w j =
    leb (journal_length w j) (journal_words w)
    && all (noted hs (take (3 * journal_words w) (drop (head_length + 3 * journal_words w * j) w)) (key_of (journal_place j) 0)) (journal_length w j)

-- pages, slots, pool, journals
unfoldable pub contents : Mem → Bool
contents m =
    all (entry_right m.words (entries m)) (length (entries m))
    && (all (slot_at (entries m) (holders m) (chunk_bytes m)) (length (holders m))
    && (pool_right (holders m) m.words
    && all (journal_right (holders m) m.words) journal_count))

-- WELL FORMED: refusal 3 is that this is false
unfoldable pub well_formed : Mem → Bool
well_formed m =
    sized (length m.bytes) (length m.keys) (length m.order) m.words
    && (head_right m.words
    && ((indexed (holders m) (slot_order m) (held_now m.words) && indexed (entries m) (page_order m) (in_use m.words))
    && contents m))
