use mathlib.Core.Path.{refl, ◌∙◌}
use Prim.Native.Nat.{◌+◌, ◌/◌}
use native.Mathlib.Omega.{arith}
use Rattle.formed.proofs.Hints.{find_asked}
use Rattle.bodies.proofs.Puts.{put_none, put_slot, put_in, put_more, put_done}
use Rattle.bodies.proofs.write_from.Goals as goal

pub loop-pos-init : goal.loop-pos-init
loop-pos-init c =
    (omega arith, refl, put_none _ _ _ _ _ _ c.args.src.now c.requires, c.requires.formed.lengths.chunks_hi, λ _ l. absurd (omega (arith, l)))

pub place_after-s-requires : goal.place_after-s-requires
place_after-s-requires c =
    let top = c.requires.top in record { findable = (find_asked _ c.requires.formed, omega arith); last_bound = (c.loop-pos.invariant.3, c.loop-pos.invariant.4 c.loop-pos-test.true) }

pub overflow_mul-s : goal.overflow_mul-s
overflow_mul-s c =
    let small = put_in _ _ _ _ _ _ c.args.src.now c.requires c.place_after-s.result c.loop-pos.pos c.loop-pos-test.true c.place_after-s.ensures in
    omega arith

pub overflow_add-s : goal.overflow_add-s
overflow_add-s c =
    let small = put_in _ _ _ _ _ _ c.args.src.now c.requires c.place_after-s.result c.loop-pos.pos c.loop-pos-test.true c.place_after-s.ensures in
    omega arith

pub copy-requires : goal.copy-requires
copy-requires c =
    let small = put_in _ _ _ _ _ _ c.args.src.now c.requires c.place_after-s.result c.loop-pos.pos c.loop-pos-test.true c.place_after-s.ensures in
    let same = c.loop-pos.invariant.1 in
    let fit = c.piece-n.ensures in
    (omega arith, omega arith)

pub loop-pos-preserved : goal.loop-pos-preserved
loop-pos-preserved c =
    let fit = c.piece-n.ensures in
    let small = put_in _ _ _ _ _ _ c.args.src.now c.requires c.place_after-s.result c.loop-pos.pos c.loop-pos-test.true c.place_after-s.ensures in
    let abs = c.args.address.0 + c.loop-pos.pos in (
      omega arith,
      c.copy.auto.dst ∙ c.loop-pos.invariant.1,
      put_more _ _ _ _ _ _ c.args.src.now c.requires c.loop-pos.pos c.loop-pos.bytes c.loop-pos.invariant.2 c.place_after-s.result c.piece-n.result _ (put_slot _ _ _ _ _ _ c.args.src.now c.requires c.place_after-s.result c.loop-pos.pos c.loop-pos-test.true c.place_after-s.ensures) (omega arith) (omega arith) c.copy.auto.dst c.copy.ensures,
      omega (arith, small),
      λ more _. record { chunk = abs / 256; next = omega arith; slot = c.place_after-s.ensures },
    )

pub returns : goal.returns
returns c =
    put_done _ _ _ _ _ _ c.args.src.now c.requires c.loop-pos.pos c.loop-pos.bytes c.loop-pos.invariant.2 c.loop-pos-test.false

pub overflow_cast-abs-in-loop-pos : goal.overflow_cast-abs-in-loop-pos
overflow_cast-abs-in-loop-pos c = let top = c.requires.top in omega arith
