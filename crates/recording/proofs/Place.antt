-- The place at which a table is refused lies within the table's bytes.
use Rattle.std.proofs.Common.{ℕ, ◌≤◌, ◌≡◌, ap, List, arith, length}
use Rattle.reading.specs.Reading.{default_budget}
use Rattle.reading.specs.Sound.{sound}
use Rattle.reading.specs.SystemRead.{system_read}
use Rattle.reading.specs.declared.SystemRead.{SystemRead}

pub place_within : (s : List ℕ) {x : SystemRead} → x ≡ system_read default_budget s → x.place ≤ length s
place_within s e =
    let p = ap (λ (r : SystemRead). r.place) e in
    omega (arith, (sound default_budget s).inside)
