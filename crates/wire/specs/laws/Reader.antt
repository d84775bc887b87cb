-- The two readers of a record: where what they read lies, with which numbers they refuse, and that an event is the same whatever follows it.
use Rattle.std.specs.Prelude.{ℕ, ◌-◌, ◌≤◌, ◌<◌, ◌≡◌, refl, List, ◌++◌, length, drop, Ok}
use Rattle.std.proofs.Math.Path.{sym, ap}
use Rattle.std.proofs.Common.{◌∙◌, arith}
use Rattle.wire.specs.declared.event.Event.{Event}
use Rattle.wire.specs.NextEvent.{NextEvent}
use Rattle.wire.specs.NextEvent as event
use Rattle.wire.specs.declared.kinds.Stream.TheVariants as stream
use Rattle.wire.specs.Seen.{Seen}
use Rattle.wire.specs.Seen as seen
use Rattle.wire.specs.declared.refusal.Refusal.{Refusal}
use Rattle.wire.specs.declared.refusal.Refusal.TheVariants.{CutShort}
use Rattle.wire.specs.NextTableRecord.{NextTableRecord}
use Rattle.wire.specs.NextTableRecord as put
use Rattle.wire.specs.Event.{event_found, next_event}
use Rattle.wire.specs.Question.{Question, no_header, question_gives, WholeRecord, OneToThree}
use Rattle.wire.specs.Record.{header_size, payload_at, read_seen}
use Rattle.wire.specs.laws.Part.{read_from_lem}
use Rattle.wire.specs.laws.Readers.{reader, read_case, read_longer, read_shorter}
use Rattle.wire.specs.Table.{table_record_of, table_record_found, next_table_record}

-- an event is read from a whole record at the start, or refused with 1, 2 or 3; and so is a table record
abbrev pub EventIn : List ℕ → NextEvent → Type 0
EventIn s (Ok r) = WholeRecord s 0 r.next
EventIn s (event.Refused refusal) = OneToThree refusal

abbrev pub TableRecordIn : List ℕ → NextTableRecord → Type 0
TableRecordIn s (Ok r) = WholeRecord s 0 r.next
TableRecordIn s (put.Refused refusal) = OneToThree refusal

module _ (s : List ℕ) where
  pub event_in : EventIn s (next_event s)
  unfolding next_event
  event_in = read_case event_found event.Refused stream.Events s (EventIn s) (λ kind next p w. w) (λ refusal o. o)

  pub table_record_in : TableRecordIn s (next_table_record s)
  unfolding next_table_record
  table_record_in = read_case table_record_found put.Refused stream.Table s (TableRecordIn s) (λ kind next p w. w) (λ refusal o. o)

  pub event_cut : length s < header_size → next_event s ≡ event.Refused CutShort
  unfolding next_event
  event_cut l =
      sym (reader event_found event.Refused stream.Events s (sym (question_gives stream.Events s 0 (no_header (omega arith)))) refl)

  pub event_whole : {e : Event} {next : ℕ} → next_event s ≡ event.Event e next → WholeRecord s 0 next
  event_whole f = rw f at event_in

  pub event_refused : {refusal : Refusal} → next_event s ≡ event.Refused refusal → OneToThree refusal
  event_refused f = rw f at event_in

module _ (a b : List ℕ) {e : Event} {next : ℕ} where
  -- the event at the start of a is that of a and what follows it
  pub event_longer : next_event a ≡ event.Event e next → next_event (a ++ b) ≡ event.Event e next
  unfolding next_event
  event_longer f = read_longer event_found event.Refused stream.Events a b (event_whole a f) ∙ f

  -- and the other way round, where its record lies in a
  pub event_shorter : next_event (a ++ b) ≡ event.Event e next → next ≤ length a → next_event a ≡ event.Event e next
  unfolding next_event
  event_shorter f l = sym (read_shorter event_found event.Refused stream.Events a b (event_whole (a ++ b) f) l) ∙ f

-- the table record of the part from a place on, by what the record question finds there
module _ (s : List ℕ) (at : ℕ) where
  table_record_at : {r : Seen} → Question stream.Table s at r
      → next_table_record (drop at s)
      ≡ read_seen (λ kind payload next. table_record_found kind payload (next - at)) put.Refused r (payload_at stream.Table s at)
  unfolding next_table_record
  table_record_at q =
      read_from_lem s at stream.Table table_record_found put.Refused
      ∙ ap
      (λ (r : Seen). read_seen (λ kind payload next. table_record_found kind payload (next - at)) put.Refused r (payload_at stream.Table s at))
      (question_gives stream.Table s at q)

  pub table_record_refused : {refusal : Refusal} → Question stream.Table s at (seen.Refused refusal)
      → next_table_record (drop at s) ≡ put.Refused refusal
  table_record_refused q = table_record_at q

  pub table_record_whole : {kind next : ℕ} → Question stream.Table s at (seen.Record kind next)
      → next_table_record (drop at s) ≡ put.Record (table_record_of kind (payload_at stream.Table s at)) (next - at)
  table_record_whole q = table_record_at q
