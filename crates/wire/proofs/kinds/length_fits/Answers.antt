-- `wire::kinds::length_fits` meets its contract: it looks for a pair of that kind and that length.
use Rattle.std.proofs.Common.{rules, tests, ◌∙◌}
use Rattle.std.proofs.lemmas.Iterator.{YieldsList-from_slice}
use Rattle.std.proofs.lemmas.Iterator.Search.{any_from_yields_List}
use Rattle.wire.specs.Kinds.{is_pair, lengths}
use Rattle.wire.proofs.Lengths.{any_passes}
use Rattle.wire.proofs.kinds.length_fits.Goals as goal

pub returns : goal.returns
unfolding lengths
returns c =
    let p = is_pair c.args.kind c.args.len in
    any_from_yields_List p _ _ c.any.result c.any.ensures.ran (YieldsList-from_slice lengths cc) (λ x b q k. search (rules, tests))
    ∙ any_passes p lengths
