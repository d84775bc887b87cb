-- A ledger whose lists are lent, to be read or to be written: the ledger that they make, and that each stays the list it was.
use Rattle.std.specs.Prelude.{◌≡◌}
use Rattle.ledger.specs.declared.Ledger.{Ledger}
use Rattle.ledger.specs.declared.LedgerRef.{LedgerRef}
use Rattle.ledger.specs.declared.LedgerMut.{LedgerMut}

-- the ledger of the lists lent for reading
abbrev pub ledger_seen : LedgerRef → Ledger
ledger_seen l = record { number = l.number.now; served = l.served.now; skipped = l.skipped.now; job = l.job.now }

-- the ledger of the lists lent for writing
abbrev pub ledger_now : LedgerMut → Ledger
ledger_now l = record { number = l.number.now; served = l.served.now; skipped = l.skipped.now; job = l.job.now }

-- each list is in the place it was
abbrev pub SameLedgerPlaces : LedgerMut → LedgerMut → Type 0
SameLedgerPlaces l m =
    (m.number.ghost_name ≡ l.number.ghost_name)
    × (m.served.ghost_name ≡ l.served.ghost_name)
    × (m.skipped.ghost_name ≡ l.skipped.ghost_name)
    × (m.job.ghost_name ≡ l.job.ghost_name)
