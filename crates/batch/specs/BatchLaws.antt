-- What a batch promises allows one answer, and which events it reads. Document 01's sentences on a batch are laws in proofs/BatchLaws.
use Rattle.std.specs.Prelude.{ℕ, ◌≡◌, List, take}
use Rattle.system.specs.declared.System.{System}
use Rattle.wire.specs.Promise.{one_answer}
use Rattle.wire.specs.declared.event.Event.{Event}
use Rattle.batch.specs.declared.Batched.{Batched}
use Rattle.batch.specs.Turn.{Run, Came}
use Rattle.batch.specs.Batch.{batch_of}
use Rattle.batch.specs.History.{events_of}

-- a promise allows one answer and one output
pub one_outcome : (r : Run) (out : List ℕ) {x y : List ℕ} {b c : Batched} → Came r out x b → Came r out y c → (b ≡ c) × (x ≡ y)
one_outcome r out p q = (one_answer _ p.told q.told, one_answer _ p.output q.output)

-- the events of the bytes that a batch reads
abbrev pub events_read : System → List ℕ → ℕ → List Event
events_read s ev room = events_of (take (batch_of s ev room).read ev)
