-- The answer to a RELEASE after some events: what proofs/Releases speaks of.
use Rattle.std.specs.Prelude.{ℕ, List}
use Rattle.table.specs.declared.Table.{Table}
use Rattle.wire.specs.declared.answer.Answer.{Answer}
use Rattle.wire.specs.declared.event.Event.{Event}
use Rattle.wire.specs.declared.event.Event.TheVariants as event
use Rattle.system.specs.System.{fresh_system}
use Rattle.system.specs.Events.{apply_of}
use Rattle.reached.specs.Reached.{after}

-- the answer to "RELEASE" of gang g after some events from table b: in the history it stands right after theirs (`entry_next` of Runs)
abbrev pub release_after : Table → List Event → ℕ → Answer
release_after b before g = (apply_of (after (fresh_system b) before) (event.Release g)).answer
