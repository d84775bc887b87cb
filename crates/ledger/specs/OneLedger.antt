-- A promise on `ledger_now l` or `ledger_seen l` allows one value of each list that is lent: those of `LedgerMut::serve_release`,
-- `LedgerMut::skip_release` and `Ledger::lent`.
use Rattle.std.specs.Prelude.{◌≡◌}
use Rattle.std.proofs.Common.{sym, ap, ◌∙◌}
use Rattle.ledger.specs.declared.Ledger.{Ledger}
use Rattle.ledger.specs.declared.LedgerMut.{LedgerMut}
use Rattle.ledger.specs.declared.LedgerRef.{LedgerRef}
use Rattle.ledger.specs.Lent.{ledger_now, ledger_seen}

-- two ledgers have each list alike
abbrev pub SameLists : Ledger → Ledger → Type 0
SameLists l m = (l.number ≡ m.number) × (l.served ≡ m.served) × (l.skipped ≡ m.skipped) × (l.job ≡ m.job)

same_lists : {l m : Ledger} → l ≡ m → SameLists l m
same_lists e = (
  ap (λ (x : Ledger). x.number) e,
  ap (λ (x : Ledger). x.served) e,
  ap (λ (x : Ledger). x.skipped) e,
  ap (λ (x : Ledger). x.job) e,
)

pub one_ledger_now : (d : Ledger) (l m : LedgerMut) → ledger_now l ≡ d → ledger_now m ≡ d → SameLists (ledger_now l) (ledger_now m)
one_ledger_now d l m e f = same_lists (e ∙ sym f)

pub one_ledger_seen : (d : Ledger) (l m : LedgerRef) → ledger_seen l ≡ d → ledger_seen m ≡ d → SameLists (ledger_seen l) (ledger_seen m)
one_ledger_seen d l m e f = same_lists (e ∙ sym f)
