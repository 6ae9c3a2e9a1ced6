-- Chunks are dropped and pages freed: by what a memory shows this, one drop after another, and drops that are the same.
-- Assumes nothing.
use mathlib.Core.Path.{◌≡◌, refl, sym, ap, ◌∙◌, subst, fun_ext}
use mathlib.Core.Bool.{Bool, true, false, cond, not, ◌&&◌, ◌||◌}
use mathlib.Core.List.{List}
use Prim.Native.Nat.{ℕ, ◌-◌, ◌/◌}
use native.Mathlib.Omega.{arith}
use Rattle.store.specs.Mem.{Mem, layout_of, slot_count, page_count, dynamic_length}
use Rattle.formed.specs.Pages.{dynamic}
use Rattle.formed.specs.Parts.{Note, byte_at, holds, pool, allocated, entries_left}
use Rattle.formed.specs.WellFormed.{WellFormed}
use Rattle.formed.proofs.Sense.{unheld_byte}
use Rattle.page_ids.specs.declared.Layout.{Layout}
use Rattle.view.specs.View.{View, Setting, setting_of, view_of}
use Rattle.view.specs.Steps.{count, pairs, without}
use Rattle.view.specs.Does.{Shows}
use Rattle.view.proofs.Equal.{view_by}
use Rattle.view.proofs.Counts.{pool_pairs, entries_pages}

-- ---- tests that are the same everywhere count the same
pub pairs_by : (f g : ℕ → ℕ → Bool) → ((q k : ℕ) → f q k ≡ g q k) → pairs f ≡ pairs g
pairs_by f g h = ap pairs (fun_ext (λ q. fun_ext (λ k. h q k)))

pub count_by : (f g : ℕ → Bool) (n : ℕ) → ((q : ℕ) → f q ≡ g q) → count f n ≡ count g n
count_by f g n h = ap (λ (t : ℕ → Bool). count t n) (fun_ext (λ q. h q))

-- ---- a memory that has the bytes, the chunks and the pages shows the drop: the counts follow
module _ (m m' : Mem) (dropped : ℕ → ℕ → Bool) (free : ℕ → Bool) (formed : WellFormed m') (setting : setting_of m' ≡ setting_of m)
    (bytes : (q a : ℕ) → byte_at m' q a ≡ cond (dropped q (a / 256)) 0 (byte_at m q a))
    (held : (q k : ℕ) → holds m' q k ≡ (holds m q k && not (dropped q k)))
    (pages : (q : ℕ) → allocated m' q ≡ (allocated m q && not (free q)))
    (same : dynamic_length m'.words ≡ dynamic_length m.words) (journals : (view_of m').journal ≡ (view_of m).journal) where
  pool_left : pool m' ≡ slot_count m.words - pairs (λ q k. holds m q k && not (dropped q k))
  pool_left =
      let a = pool_pairs m' formed in
      let b = pairs_by (holds m') (λ q k. holds m q k && not (dropped q k)) held in
      let c : slot_count m'.words ≡ slot_count m.words = ap (λ (s : Setting). s.chunks) setting in
      omega arith

  layout_kept : layout_of m'.words ≡ layout_of m.words
  layout_kept = ap (λ (s : Setting). s.layout) setting

  entries_left_lem : entries_left m' ≡ page_count m.words - count (λ q. (allocated m q && not (free q)) && dynamic (layout_of m.words) q) 4294967296
  entries_left_lem =
      let a = entries_pages m' formed in
      let b =
      count_by (λ q. allocated m' q && dynamic (layout_of m'.words) q) (λ q. (allocated m q && not (free q)) && dynamic (layout_of m.words) q) 4294967296
      (λ q. ap (λ (t : Bool). t && dynamic (layout_of m'.words) q) (pages q) ∙ ap (λ (l : Layout). (allocated m q && not (free q)) && dynamic l q) layout_kept) in
      let c : page_count m'.words ≡ page_count m.words = ap (λ (s : Setting). s.pages) setting in
      omega arith

  pub without_shows : Shows (setting_of m) (without (setting_of m) dropped free (view_of m)) m'
  without_shows = record {
    formed = formed;
    setting = setting;
    view = view_by (view_of m') (without (setting_of m) dropped free (view_of m)) bytes held pool_left pages entries_left_lem same
        (λ j. ap (λ (notes : ℕ → List Note). notes j) journals);
  }

-- ---- views alone
either : (h a b : Bool) → ((h && not a) && not b) ≡ (h && not (a || b))
either false a b = refl
either true true b = refl
either true false b = refl

both : (a b : Bool) (x : ℕ) → cond b 0 (cond a 0 x) ≡ cond (a || b) 0 x
both true true x = refl
both true false x = refl
both false b x = refl

only : (h a b : Bool) → (h ≡ true → a ≡ b) → (h && not a) ≡ (h && not b)
only true a b e = ap not (e refl)
only false a b e = refl

byte : (h a b : Bool) (x : ℕ) → (h ≡ true → a ≡ b) → (h ≡ false → x ≡ 0) → cond a 0 x ≡ cond b 0 x
byte true a b x e z = ap (λ (t : Bool). cond t 0 x) (e refl)
byte false true true x e z = refl
byte false true false x e z = sym (z refl)
byte false false true x e z = z refl
byte false false false x e z = refl

module _ (s : Setting) (d d' : ℕ → ℕ → Bool) (u u' : ℕ → Bool) (v : View) where
  -- one drop and then another drop what either names
  pub without_twice : without s d' u' (without s d u v) ≡ without s (λ q k. d q k || d' q k) (λ q. u q || u' q) v
  without_twice =
      view_by (without s d' u' (without s d u v)) (without s (λ q k. d q k || d' q k) (λ q. u q || u' q) v)
      (λ q a. both (d q (a / 256)) (d' q (a / 256)) (v.bytes q a))
      (λ q k. either (v.held q k) (d q k) (d' q k))
      (ap (λ (n : ℕ). s.chunks - n) (pairs_by _ _ (λ q k. either (v.held q k) (d q k) (d' q k))))
      (λ q. either (v.allocated q) (u q) (u' q))
      (ap (λ (n : ℕ). s.pages - n) (count_by _ _ 4294967296 (λ q. ap (λ (t : Bool). t && dynamic s.layout q) (either (v.allocated q) (u q) (u' q)))))
      refl (λ j. refl)

  pub without_then : (m₁ m₂ : Mem) → Shows s (without s d u v) m₁ → Shows s (without s d' u' (view_of m₁)) m₂
      → Shows s (without s (λ q k. d q k || d' q k) (λ q. u q || u' q) v) m₂
  without_then m₁ m₂ a b = record { formed = b.formed; setting = b.setting; view = b.view ∙ ap (without s d' u') a.view ∙ without_twice }

  -- drops that name the same of the chunks that are held and of the pages that are allocated
  module _ (m : Mem) (shows : Shows s v m) (chunks : (q k : ℕ) → v.held q k ≡ true → d q k ≡ d' q k)
      (pages : (q : ℕ) → v.allocated q ≡ true → u q ≡ u' q) where
    unheld : (q a : ℕ) → v.held q (a / 256) ≡ false → v.bytes q a ≡ 0
    unheld q a =
        subst (λ (w : View). w.held q (a / 256) ≡ false → w.bytes q a ≡ 0) shows.view (unheld_byte m shows.formed q a)

    pub without_same : without s d u v ≡ without s d' u' v
    without_same =
        view_by (without s d u v) (without s d' u' v)
        (λ q a. byte (v.held q (a / 256)) (d q (a / 256)) (d' q (a / 256)) (v.bytes q a) (chunks q (a / 256)) (unheld q a))
        (λ q k. only (v.held q k) (d q k) (d' q k) (chunks q k))
        (ap (λ (n : ℕ). s.chunks - n) (pairs_by _ _ (λ q k. only (v.held q k) (d q k) (d' q k) (chunks q k))))
        (λ q. only (v.allocated q) (u q) (u' q) (pages q))
        (ap (λ (n : ℕ). s.pages - n) (count_by _ _ 4294967296 (λ q. ap (λ (t : Bool). t && dynamic s.layout q) (only (v.allocated q) (u q) (u' q) (pages q)))))
        refl (λ j. refl)

-- ---- a drop of nothing
pub without_nothing : (m : Mem) → WellFormed m → Shows (setting_of m) (without (setting_of m) (λ q k. false) (λ q. false) (view_of m)) m
without_nothing m f = without_shows m m (λ q k. false) (λ q. false) f refl (λ q a. refl) (λ q k. whole (holds m q k)) (λ q. whole (allocated m q)) refl refl
  where
    whole : (b : Bool) → b ≡ (b && not false)
    whole true = refl
    whole false = refl

-- and one that names no chunk that is held and no page that is allocated
pub without_none : (m : Mem) → WellFormed m → (d : ℕ → ℕ → Bool) (u : ℕ → Bool) → ((q k : ℕ) → holds m q k ≡ true → d q k ≡ false) → ((q : ℕ) → allocated m q ≡ true → u q ≡ false)
    → Shows (setting_of m) (without (setting_of m) d u (view_of m)) m
without_none m f d u chunks pages =
    subst (λ (v : View). Shows (setting_of m) v m)
    (without_same (setting_of m) (λ q k. false) d (λ q. false) u (view_of m) m (record { formed = f; setting = refl; view = refl }) (λ q k h. sym (chunks q k h)) (λ q h. sym (pages q h)))
    (without_nothing m f)
