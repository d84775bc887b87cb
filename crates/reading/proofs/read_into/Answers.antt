-- `reading::read_into`: each turn reads the record at the place, and the loop keeps that reading on gives the whole reading.
use Rattle.std.proofs.Common.{refl, rules, arith}
use Rattle.std.proofs.lemmas.Result.{err_from_is_err_and}
use Rattle.reading.proofs.Mapped.{was_err, was_ok}
use Rattle.reading.proofs.Turns.{unread_told, refused_told, inside, next, finished}
use Rattle.reading.specs.laws.Sofar.{start}
use Rattle.reading.proofs.read_into.Goals as goal

pub loop-at-init : goal.loop-at-init
loop-at-init c = rw c.requires (start _ _)

pub returns-in-Err : goal.returns-in-Err
returns-in-Err c = unread_told c.loop-at.invariant c.loop-at-test.true c.in-Err.ensures refl refl

pub returns-in_err-map_err-in-Ok : goal.returns-in_err-map_err-in-Ok
returns-in_err-map_err-in-Ok c =
    let p = err_from_is_err_and c.from_residual.result c.from_residual.ensures.1 in
    let w = was_err _ _ _ _ c.map_err.ensures.cases c.in_err-map_err-in-Ok.was in
    rw (p.1, p.2) (refused_told c.loop-at.invariant c.loop-at-test.true c.in-Ok.ensures refl c.take-taken.ensures w.was (let q = w.made in search rules))

pub overflow_add-at : goal.overflow_add-at
overflow_add-at c =
    let v = was_ok _ _ _ _ c.map_err.ensures.cases c.in_ok-map_err-in-Ok.was in
    let k = next c.loop-at.invariant c.loop-at-test.true c.in-Ok.ensures refl c.take-taken.ensures v in
    omega (arith, k.inside)

pub loop-at-smaller : goal.loop-at-smaller
loop-at-smaller c =
    let v = was_ok _ _ _ _ c.map_err.ensures.cases c.in_ok-map_err-in-Ok.was in
    let k = inside c.loop-at.invariant c.loop-at-test.true c.in-Ok.ensures refl c.take-taken.ensures v in
    omega (arith, k.header)

pub loop-at-preserved : goal.loop-at-preserved
loop-at-preserved c =
    let v = was_ok _ _ _ _ c.map_err.ensures.cases c.in_ok-map_err-in-Ok.was in
    next c.loop-at.invariant c.loop-at-test.true c.in-Ok.ensures refl c.take-taken.ensures v

pub returns : goal.returns
returns c =
    finished c.loop-at.invariant c.loop-at-test.false c.ending.ensures _ _ c.map_err-2.ensures.cases (λ e x q. search rules)
