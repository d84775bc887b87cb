-- A walk through a table's records keeps what reading keeps; so where it stops is what reading comes to, and every table's walk stops somewhere.
use Rattle.std.specs.Prelude.{ℕ, zero, suc, ◌+◌, ◌-◌, ◌≤◌, ◌<◌, List, ◌≡◌, refl, length, drop, Ok}
use Rattle.std.proofs.Common.{sym, ap, subst, ◌∙◌, arith}
use Rattle.std.proofs.Math.Decide.{ℕ_discrete}
use Rattle.table.specs.declared.Table.{Table}
use Rattle.table.specs.Rules.{empty_table}
use Rattle.wire.specs.Question.{Question, question, question_gives, WholeRecord, record_whole}
use Rattle.wire.specs.Record.{record_at}
use Rattle.wire.specs.declared.kinds.Stream.TheVariants as stream
use Rattle.wire.specs.Seen.{Seen}
use Rattle.wire.specs.Seen as seen
use Rattle.wire.specs.declared.refusal.Refusal.{Refusal}
use Rattle.wire.specs.laws.Reader.{table_record_refused, table_record_whole}
use Rattle.reading.specs.Verdict.{Verdict, Accepted, Refused}
use Rattle.reading.specs.Reading.{told, reading_of}
use Rattle.reading.specs.Rows.{RecordWay, record_bad, record_good, EndWay, end_bad, end_good}
use Rattle.reading.specs.Taken.{Taken, record_refused, record_accepted, record_taken}
use Rattle.reading.specs.Turn.{table_turn}
use Rattle.reading.specs.Walk.{record_there, ReadTo, walk_start, walk_on, TableStops, question_refuses, rules_refuse, end_refused}
use Rattle.reading.specs.Walk.{RefusesTable, AcceptsTable, TableWay, table_bad, table_good}
use Rattle.reading.specs.laws.Ends.{end_way, end_refuses, end_accepts}
use Rattle.reading.specs.laws.Rows.{record_way, record_refuses, record_accepts}
use Rattle.reading.specs.laws.Sofar.{Sofar, start, ends, turn, read, unread, stops, goes}

-- a record that the question finds lies in the bytes
pub whole_there : (s : List ℕ) (at : ℕ) {kind next : ℕ} → Question stream.Table s at (seen.Record kind next) → WholeRecord s at next
whole_there s at q = record_whole stream.Table s at (question_gives stream.Table s at q)

module _ (d : ℕ) (s : List ℕ) where
  -- the turn at a place, where a record is found and what it comes to
  turn_there : (b : Table) (at : ℕ) {kind next : ℕ} {t : Taken} → Question stream.Table s at (seen.Record kind next)
      → record_taken d b (record_there s at kind) ≡ t → turn (next - at) t ≡ table_turn d b (drop at s)
  turn_there b at {kind} {next} {t} q e = read d b (drop at s) (record_there s at kind) (next - at) t (table_record_whole s at q) (sym e)

  pub reads_on : {at : ℕ} {b : Table} → ReadTo d s at b → Sofar d s b at
  reads_on walk_start = start d s
  reads_on (walk_on {at = at} {next = next} {b = b} {more = more} w q a) =
      let k = whole_there s at q in
      let e : at + (next - at) ≡ next = omega arith in
      subst (Sofar d s more) e
      (goes d s b at (reads_on w) (omega arith) (turn (next - at) (record_accepted more)) (turn_there b at q (record_accepts d b a)) refl)

  -- ---- where it stops

  stops_there : {at : ℕ} {b : Table} {r : Refusal} → Sofar d s b at → TableStops d s at b r → told (Refused r) b at ≡ reading_of d s
  stops_there {at} {b} {r} f (question_refuses l q) =
      stops d s b at f l (turn 0 (record_refused b r)) (unread d b (drop at s) r (table_record_refused s at q)) r refl
  stops_there {at} {b} {r} f (rules_refuse {next = next} q w) =
      let k = whole_there s at q in
      stops d s b at f (omega arith) (turn (next - at) (record_refused b r)) (turn_there b at q (record_refuses d b w)) r refl
  stops_there {at} {b} {r} f (end_refused e w) =
      sym (ap (λ (v : Verdict). told v b at) (end_refuses b w)) ∙ ends d s b at f (omega arith)

  pub table_refuses : {r : Refusal} {at : ℕ} → RefusesTable d s r at → told (Refused r) (reading_of d s).table at ≡ reading_of d s
  table_refuses w = stops_there (reads_on w.before) w.reason

  pub table_accepts : {b : Table} → AcceptsTable d s b → told Accepted b (length s) ≡ reading_of d s
  table_accepts {b} w =
      sym (ap (λ (v : Verdict). told v b (length s)) (end_accepts b w.may_end))
      ∙ ends d s b (length s) (reads_on w.every_record) (omega arith)

  -- ---- every walk stops somewhere

  ending_way : {at : ℕ} {b : Table} → ReadTo d s at b → at ≡ length s → TableWay d s
  ending_way {at} {b} w e = go (end_way b)
    where
      go : {v : Verdict} → EndWay b v → TableWay d s
      go (end_bad x) = table_bad (record { table_then = b; before = w; reason = end_refused e x })
      go (end_good x) = table_good (record { every_record = subst (λ (i : ℕ). ReadTo d s i b) e w; may_end = x })

  -- with at most n bytes left
  abbrev WayFrom : ℕ → Type 0
  WayFrom n = (at : ℕ) (b : Table) → ReadTo d s at b → length s - at ≤ n → TableWay d s

  way_more : (n : ℕ) → WayFrom n → WayFrom (suc n)
  way_more n rest at b w l = at_end (ℕ_discrete at (length s))
    where
      its_way : {kind next : ℕ} {t : Taken} → Question stream.Table s at (seen.Record kind next) → RecordWay d b (record_there s at kind) t
          → TableWay d s
      its_way q (record_bad x) = table_bad (record { table_then = b; before = w; reason = rules_refuse q x })
      its_way {next = next} q (record_good {more = more} x) =
          let k = whole_there s at q in
          rest next more (walk_on w q x) (omega arith)

      by : (r : Seen) → Question stream.Table s at r → at < length s → TableWay d s
      by (seen.Refused r) q k = table_bad (record { table_then = b; before = w; reason = question_refuses k q })
      by (Ok r) q k = its_way q (record_way d b (record_there s at r.kind))

      at_end : Dec (at ≡ length s) → TableWay d s
      at_end (yes e) = ending_way w e
      at_end (no ne) = by (record_at stream.Table s at) (question stream.Table s at) (let k = (reads_on w).inside in omega arith)

  way_from : (n : ℕ) → WayFrom n
  way_from zero = λ at b w l. ending_way w (let k = (reads_on w).inside in omega arith)
  way_from (suc n) = way_more n (way_from n)

  pub table_way : TableWay d s
  table_way = way_from (length s) 0 empty_table walk_start (omega arith)
