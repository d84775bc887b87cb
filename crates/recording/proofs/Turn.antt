-- An event that is listed takes a whole record of the bytes from its place on.
use Rattle.std.proofs.Common.{ℕ, ◌+◌, ◌-◌, ◌≤◌, ◌≡◌, List, arith, length, take, drop, length-take, length-drop, Ok}
use Rattle.wire.specs.Question.{WholeRecord}
use Rattle.wire.specs.Record.{header_size}
use Rattle.system.specs.declared.System.{System}
use Rattle.listed.specs.Listed.{event_listed}
use Rattle.listed.specs.laws.Listed.{event_listed_whole}
use Rattle.listed.specs.declared.Listed.{Listed}

-- the part of the bytes from a place on, as it is lent
abbrev part_from : ℕ → List ℕ → List ℕ
part_from at bytes = take (length bytes - at) (drop at bytes)

pub turn : (s : System) (position at : ℕ) (bytes : List ℕ) {l : Listed} → event_listed s position (part_from at bytes) ≡ Ok l → at ≤ length bytes
    → (header_size ≤ l.size) × (at + l.size ≤ length bytes)
turn s position at bytes {l} e inside =
    let w : WholeRecord (part_from at bytes) 0 l.size = event_listed_whole s position (part_from at bytes) e in
    let part : length (part_from at bytes) ≤ length bytes - at = simp (length-take, length-drop) (omega arith) in
    (omega (arith, w.header), omega (arith, w.inside))
