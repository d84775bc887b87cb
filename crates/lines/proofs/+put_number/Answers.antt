-- `put_number` meets its contract, by recursion on the places: no digit, one digit, or the quotient's digits and then the remainder.
use Rattle.std.proofs.Common.{◌≡◌, true, false, ◌&&◌, ltb, sym, arith, lt-ltb, le-ltb}
use Rattle.lines.specs.laws.Number.{numeral_none, numeral_one, numeral_more}
use Rattle.lines.specs.laws.Put.{put_none, put_byte, put_put, put_as}
use Rattle.lines.proofs.+put_number.Goals as goal
use Rattle.lines.proofs.+put_number.Goals.{else-digits-via-then-digits+else-n-digits, else-digits-via-else-digits}

pub returns-then-places-eq0 : goal.returns-then-places-eq0
returns-then-places-eq0 t c =
    let a = c.args in
    let e = numeral_none a.digits.base a.digits.short a.places a.n c.if-places-eq0.true in
    put_as (put_none a.out.now a.at) (sym e) (omega arith)

pub returns-then-n-digits : goal.returns-then-n-digits
returns-then-n-digits t c =
    let a = c.args in
    let one : (a.digits.short && ltb a.n a.digits.base) ≡ true = rw (c.if-digits.true, lt-ltb a.n a.digits.base c.if-n-digits.true) in
    let e = numeral_one a.digits.base a.digits.short a.places a.n c.if-places-eq0.false one in
    put_as (put_byte a.out.now a.at c.glyph.result (omega arith)) (rw (e, c.glyph.ensures)) (omega arith)

pub returns : goal.returns
returns t c =
    let a = c.args in
    let p = c.put_number-last in
    let more : (a.digits.short && ltb a.n a.digits.base) ≡ false =
    elim c.else-digits.branch [
      | else-digits-via-then-digits+else-n-digits w ↦ rw (w.if-digits.true, le-ltb a.n a.digits.base w.if-n-digits.false)
      | else-digits-via-else-digits w ↦ rw w.if-digits.false
    ]
    in
    let e = numeral_more a.digits.base a.digits.short a.places a.n c.if-places-eq0.false more in
    let last = put_byte p.new.out p.result c.glyph-2.result (omega arith) in
    put_as (put_put p.ensures last (omega arith)) (rw (e, c.glyph-2.ensures)) (omega arith)
