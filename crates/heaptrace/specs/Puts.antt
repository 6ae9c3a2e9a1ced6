-- An answer that is put after those that are gathered.
-- Assumes nothing.
use Rattle.std.specs.Prelude.{◌≡◌, ◌⊎◌, [], ◌∷◌, ◌++◌, ℕ}
use Rattle.trace_text.specs.Text.{Reported, text_of, Wrote}
use Rattle.heaptrace.specs.declared.output.Output.{Output}

pub record Puts (reply : Reported) (o o' : Output) : Type 0 where
  -- the text stands after what is gathered, or at the start where that is written first
  pub at : ℕ
  pub after : (at ≡ o.used) ⊎ (at ≡ 0)
  pub text : Wrote (text_of reply ++ (10 ∷ [])) at o.bytes o'.bytes o'.used
