-- A line that is answered: what it does, and that the answer's text is what the output has next.
-- Assumes nothing.
use Rattle.std.specs.Prelude.{◌≡◌, []}
use Rattle.trace.specs.Language.{meaning}
use Rattle.trace_text.specs.Text.{Reported}
use Rattle.trace_calls.specs.Space.{mem_of}
use Rattle.trace_calls.specs.Trace.{TraceTells}
use Rattle.heaptrace.specs.declared.lines.Session.{Session}
use Rattle.heaptrace.specs.Puts.{Puts}

pub record Answers (s s' : Session) : Type 0 where
  pub reply : Reported
  pub tells : TraceTells s.current (mem_of s.buffers) (meaning s.line.items) s'.current reply (mem_of s'.buffers)
  pub puts : Puts reply s.output s'.output
  pub line : s'.line.items ≡ []
