-- `every_place` meets its contract: the loop keeps whether every place passed meets the rule.
use Rattle.ranges.specs.laws.Pass.{passed_none, passed_more}
use Rattle.lists.proofs.every.every_place.Goals as goal

pub loop-i-init : goal.loop-i-init
loop-i-init g c = (c.requires, λ p h. passed_none _ _)

pub loop-i-preserved : goal.loop-i-preserved
loop-i-preserved g c =
    (c.loop-i.invariant.0, λ p h. passed_more (c.loop-i.invariant.1 p h) c.loop-i-test.true (h _ _ c.loop-i-test.true c.rule-ok.ensures))
