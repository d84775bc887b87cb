-- When a release is served, and the answer to a RELEASE: what proofs/ServedExactly speaks of.
use Rattle.std.specs.Prelude.{ℕ, ◌<◌, ◌≡◌}
use Rattle.state.specs.HasThread.{HasUnfinished}
use Rattle.table.specs.Numbers.{finished}
use Rattle.wire.specs.declared.answer.Answer.{Answer}
use Rattle.wire.specs.declared.event.Event.TheVariants as event
use Rattle.system.specs.declared.System.{System}
use Rattle.system.specs.System.{state_in, gang_in}
use Rattle.system.specs.Events.{apply_of}

-- "all its threads are finished": every thread of the table that is gang g's
abbrev pub AllFinished : System → ℕ → Type 0
AllFinished s g = (t : ℕ) → t < s.table.sizes.threads → gang_in s t ≡ g → state_in s t ≡ finished

-- some thread of the table that is gang g's is not
abbrev pub SomeUnfinished : System → ℕ → Type 0
SomeUnfinished s g = HasUnfinished s.state s.table.gang g s.table.sizes.threads

-- the answer to "RELEASE" of gang g
abbrev pub answer_to_release : System → ℕ → Answer
answer_to_release s g = (apply_of s (event.Release g)).answer
