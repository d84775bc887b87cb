-- A whole table: refused with a number and a place exactly when document 01 says so, and else accepted; in both directions.
use Rattle.std.specs.Prelude.{ℕ, ◌≤◌, ◌<◌, List, ◌↔◌, ◌≡◌, refl, length}
use Rattle.std.proofs.Common.{sym, ap, subst, ◌∙◌, arith}
use Rattle.system.specs.System.{fresh_system, empty_system}
use Rattle.table.specs.declared.Table.{Table}
use Rattle.wire.specs.Question.{question_gives, record_refused_lem}
use Rattle.wire.specs.Record.{record_at}
use Rattle.wire.specs.Refusal.{number_of}
use Rattle.wire.specs.laws.Refusal.{some_number, one_number}
use Rattle.wire.specs.declared.kinds.Stream.TheVariants as stream
use Rattle.wire.specs.Seen.{Refused}
use Rattle.wire.specs.declared.refusal.Refusal.{Refusal}
use Rattle.reading.specs.declared.SystemRead.{SystemRead}
use Rattle.reading.specs.Rows.{NoCores}
use Rattle.reading.specs.SystemRead.{started, system_read}
use Rattle.reading.specs.Walk.{ReadTo, walk_start, walk_on, TableStops, question_refuses, rules_refuse, end_refused}
use Rattle.reading.specs.Walk.{RefusesTable, AcceptsTable, TableWay, table_bad, table_good}
use Rattle.reading.specs.laws.Ends.{end_number}
use Rattle.reading.specs.laws.Rows.{rules_number, cores_then}
use Rattle.reading.specs.laws.Walk.{whole_there, table_refuses, table_accepts, table_way}

-- "A refused table gives the number, the record's place (for 8, the table's length) and the empty system"
abbrev pub refused_read : Refusal → ℕ → SystemRead
refused_read r at = record { system = empty_system; number = number_of r; place = at }

-- an accepted one gives its fresh system, 0 and its length
abbrev pub accepted_read : Table → ℕ → SystemRead
accepted_read b size = record { system = fresh_system b; number = 0; place = size }

module _ (d : ℕ) (s : List ℕ) where
  gives_refused : {r : Refusal} {at : ℕ} → RefusesTable d s r at → refused_read r at ≡ system_read d s
  gives_refused w = ap started (table_refuses d s w)

  gives_accepted : {b : Table} → AcceptsTable d s b → accepted_read b (length s) ≡ system_read d s
  gives_accepted w = ap started (table_accepts d s w)

  -- of the first record that is refused, or of the table's end
  pub table_exactly : (r : Refusal) (at : ℕ) → (system_read d s ≡ refused_read r at) ↔ RefusesTable d s r at
  table_exactly r at = (when (table_way d s), λ w. sym (gives_refused w))
    where
      when : TableWay d s → system_read d s ≡ refused_read r at → RefusesTable d s r at
      when (table_bad {r = a} {at = i} w) q =
          let e = gives_refused w ∙ q in
          subst (λ (x : Refusal). RefusesTable d s x at) (one_number a r (ap (λ (x : SystemRead). x.number) e))
          (subst (RefusesTable d s a) (ap (λ (x : SystemRead). x.place) e) w)
      when (table_good {b = b} w) q =
          let e : 0 ≡ number_of r = ap (λ (x : SystemRead). x.number) (gives_accepted w ∙ q) in
          absurd (omega (arith, some_number r))

  pub table_accepted_exactly : (b : Table) → (system_read d s ≡ accepted_read b (length s)) ↔ AcceptsTable d s b
  table_accepted_exactly b = (when (table_way d s), λ w. sym (gives_accepted w))
    where
      when : TableWay d s → system_read d s ≡ accepted_read b (length s) → AcceptsTable d s b
      when (table_bad {r = a} w) q =
          let e : number_of a ≡ 0 = ap (λ (x : SystemRead). x.number) (gives_refused w ∙ q) in
          absurd (omega (arith, some_number a))
      when (table_good {b = a} w) q =
          subst (AcceptsTable d s) (ap (λ (x : SystemRead). x.system.table) (gives_accepted w ∙ q)) w

  -- 1, 2 and 3 are the record question's at that record, and no other number is
  pub one_to_three_exactly : (r : Refusal) (at : ℕ) → RefusesTable d s r at
      → (number_of r ≤ 3) ↔ ((at < length s) × (record_at stream.Table s at ≡ Refused r))
  one_to_three_exactly r at w = (when w.reason, λ e. (record_refused_lem stream.Table s at e.1).most)
    where
      when : {b : Table} → TableStops d s at b r → number_of r ≤ 3 → (at < length s) × (record_at stream.Table s at ≡ Refused r)
      when (question_refuses l q) m = (l, question_gives stream.Table s at q)
      when {b} (rules_refuse q x) m = absurd (omega (arith, rules_number d b x))
      when {b} (end_refused e x) m = absurd (omega (arith, end_number b x))

  -- "first table record not CORES": the table so far has no cores exactly where its first record stands
  pub first_record_exactly : (at : ℕ) (b : Table) → ReadTo d s at b → NoCores b ↔ (at ≡ 0)
  first_record_exactly at b w = (only w, first w)
    where
      only : {i : ℕ} {a : Table} → ReadTo d s i a → NoCores a → i ≡ 0
      only walk_start e = refl
      only (walk_on {b = c} v q x) e = absurd (omega (arith, cores_then d c x))

      first : {i : ℕ} {a : Table} → ReadTo d s i a → i ≡ 0 → NoCores a
      first walk_start e = refl
      first (walk_on {at = j} v q x) e = absurd (omega (arith, (whole_there s j q).header))
