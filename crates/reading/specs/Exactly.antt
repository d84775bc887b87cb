-- One more record of a table, and a table's end: refused with a number exactly when document 01's table says so, in both directions.
use Rattle.std.specs.Prelude.{ℕ, ◌↔◌, ◌≡◌}
use Rattle.std.proofs.Common.{sym, ap, subst}
use Rattle.table.specs.declared.Table.{Table}
use Rattle.wire.specs.declared.refusal.Refusal.{Refusal}
use Rattle.wire.specs.declared.table_record.TableRecord.{TableRecord}
use Rattle.reading.specs.Verdict.{Verdict, Accepted, Refused}
use Rattle.reading.specs.Ending.{ending}
use Rattle.reading.specs.Rows.{RefusesRecord, AcceptsRecord, RecordWay, record_bad, record_good}
use Rattle.reading.specs.Rows.{RefusesEnd, AcceptsEnd, EndWay, end_bad, end_good}
use Rattle.reading.specs.Taken.{Taken, record_accepted, record_taken}
use Rattle.reading.specs.laws.Rows.{record_way, record_refuses, record_accepts}
use Rattle.reading.specs.laws.Ends.{end_way, end_refuses, end_accepts}
use Rattle.reading.specs.laws.Verdict.{no_refusal, one_refusal}

module _ (d : ℕ) (b : Table) (one : TableRecord) where
  -- a record is refused with a number exactly when a row says so
  pub record_refused_exactly : (r : Refusal) → ((record_taken d b one).verdict ≡ Refused r) ↔ RefusesRecord d b one r
  record_refused_exactly r = (when (record_way d b one), λ w. ap (λ (t : Taken). t.verdict) (record_refuses d b w))
    where
      when : {t : Taken} → RecordWay d b one t → t.verdict ≡ Refused r → RefusesRecord d b one r
      when (record_bad w) q = subst (RefusesRecord d b one) (one_refusal q) w
      when (record_good w) q = absurd (no_refusal q)

  -- and accepted, which leaves the table with it in place, exactly when it keeps every rule
  pub record_accepted_exactly : (more : Table) → (record_taken d b one ≡ record_accepted more) ↔ AcceptsRecord d b one more
  record_accepted_exactly more = (when (record_way d b one), record_accepts d b)
    where
      when : {t : Taken} → RecordWay d b one t → t ≡ record_accepted more → AcceptsRecord d b one more
      when (record_bad w) q = absurd (no_refusal (ap (λ (t : Taken). t.verdict) (sym q)))
      when (record_good w) q = subst (AcceptsRecord d b one) (ap (λ (t : Taken). t.table) q) w

  -- a refused record leaves the table as it came
  pub refused_record_same : (r : Refusal) → (record_taken d b one).verdict ≡ Refused r → (record_taken d b one).table ≡ b
  refused_record_same r q = ap (λ (t : Taken). t.table) (record_refuses d b ((record_refused_exactly r).0 q))

module _ (b : Table) where
  -- at the end 8 is given exactly when its row says so, and no other number,
  pub ends_exactly : (r : Refusal) → (ending b ≡ Refused r) ↔ RefusesEnd b r
  ends_exactly r = (when (end_way b), end_refuses b)
    where
      when : {v : Verdict} → EndWay b v → v ≡ Refused r → RefusesEnd b r
      when (end_bad w) q = subst (RefusesEnd b) (one_refusal q) w
      when (end_good w) q = absurd (no_refusal q)

  -- and else the table is accepted
  pub ended_exactly : (ending b ≡ Accepted) ↔ AcceptsEnd b
  ended_exactly = (when (end_way b), end_accepts b)
    where
      when : {v : Verdict} → EndWay b v → v ≡ Accepted → AcceptsEnd b
      when (end_bad w) q = absurd (no_refusal (sym q))
      when (end_good w) q = w
