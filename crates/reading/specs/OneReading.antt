-- A promise on `reading_told s result` allows one answer: that of `read_table`.
use Rattle.std.specs.Prelude.{ℕ, List, ◌≡◌, Result, Ok, Err}
use Rattle.std.proofs.Common.{sym, ap, ◌∙◌, arith}
use Rattle.table.specs.declared.Table.{Table}
use Rattle.wire.specs.Refusal.{number_of}
use Rattle.wire.specs.laws.Refusal.{some_number, one_number}
use Rattle.reading.specs.declared.TableRefused.{TableRefused}
use Rattle.reading.specs.Reading.{Reading, reading_told}

module _ (s : List ℕ) where
  -- an accepted table is told by 0, and a refused one by a refusal's number
  apart : (b : Table) (x : TableRefused) → reading_told s (Ok b) ≡ reading_told s (Err x) → ⊥
  apart b x e =
      let n : 0 ≡ number_of x.refusal = ap (λ (r : Reading). r.number) e in
      omega (arith, some_number x.refusal)

  told_alike : (r q : Result Table TableRefused) → reading_told s r ≡ reading_told s q → r ≡ q
  told_alike (Ok b) (Ok c) e = ap (λ (r : Reading). Ok r.table) e
  told_alike (Ok b) (Err x) e = absurd (apart b x e)
  told_alike (Err x) (Ok b) e = absurd (apart b x (sym e))
  told_alike (Err x) (Err y) e =
      let refusal : x.refusal ≡ y.refusal = one_number x.refusal y.refusal (ap (λ (r : Reading). r.number) e) in
      let place : x.place ≡ y.place = ap (λ (r : Reading). r.place) e in
      λ i. Err (record { refusal = refusal i; place = place i })

  pub one_reading : (d : Reading) {r q : Result Table TableRefused} → reading_told s r ≡ d → reading_told s q ≡ d → r ≡ q
  one_reading d {r} {q} e f = told_alike r q (e ∙ sym f)
