-- `wire::kinds::length_of` meets its contract: it looks for the first pair of that kind.
use Rattle.std.proofs.Common.{rules, tests, ap, ◌∙◌}
use Rattle.std.proofs.lemmas.Iterator.{YieldsList-from_slice}
use Rattle.std.proofs.lemmas.Iterator.Search.{find_from_yields_List}
use Rattle.wire.specs.Kinds.{is_of_kind, lengths}
use Rattle.wire.proofs.Lengths.{said_of, find_says}
use Rattle.wire.proofs.kinds.length_of.Goals as goal

pub returns-in-Some : goal.returns-in-Some
unfolding lengths
returns-in-Some c =
    let p = is_of_kind c.args.kind in
    let found = find_from_yields_List p _ _ c.find.result c.find.ensures.ran (YieldsList-from_slice lengths cc) (λ x b q k. search (rules, tests)) in
    rw c.in-Some.is at (ap (said_of (λ q. q.len) 0) found ∙ find_says p (λ q. q.len) 0 lengths)

pub returns-in-None : goal.returns-in-None
unfolding lengths
returns-in-None c =
    let p = is_of_kind c.args.kind in
    let found = find_from_yields_List p _ _ c.find.result c.find.ensures.ran (YieldsList-from_slice lengths cc) (λ x b q k. search (rules, tests)) in
    rw c.in-None.is at (ap (said_of (λ q. q.len) 0) found ∙ find_says p (λ q. q.len) 0 lengths)
