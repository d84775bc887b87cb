pub mod LedgerKept
pub mod LedgerOk
pub mod Ledger
