use native.Mathlib.Omega.{arith}
use lib.ListN.{get_or}
use Rattle.word.specs.Value.{value}
use Rattle.word.proofs.Written.{written}
use Rattle.word.proofs.to_big_endian.Goals as goal

pub returns : goal.returns
unfolding value
returns c =
    let l = c.args.w.limbs in
    rw (c.copy_from_slice-4.ensures.after, c.copy_from_slice-3.ensures.after, c.copy_from_slice-2.ensures.after, c.copy_from_slice.ensures.after, c.to_be_bytes-4.ensures, c.to_be_bytes-3.ensures, c.to_be_bytes-2.ensures, c.to_be_bytes.ensures)
    (written (get_or l 0 0) (get_or l 1 0) (get_or l 2 0) (get_or l 3 0) (omega arith) (omega arith) (omega arith) (omega arith))
