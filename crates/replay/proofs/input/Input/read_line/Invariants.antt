use Rattle.std.proofs.Common.{◌≤◌}
use Rattle.arrayvec.specs.ArrayVec.{array_vec_len}
use Rattle.replay.proofs.input.Input.read_line.Given as goal

-- A line has at most 512 bytes.
abbrev pub invariant-loop : goal.invariant-loop
invariant-loop l = array_vec_len l.line ≤ 512
