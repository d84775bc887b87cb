-- `events_start` meets its contract: the loop goes past a table record at each turn, and keeps that walking on finds the start.
use Rattle.std.proofs.Common.{sym, ◌∙◌, arith}
use Rattle.wire.specs.Question.{record_whole}
use Rattle.wire.specs.declared.kinds.Stream.TheVariants as stream
use Rattle.listed.proofs.Walked.{stops, goes}
use Rattle.listed.proofs.events_start.Goals as goal

pub loop-next-smaller : goal.loop-next-smaller
loop-next-smaller c = omega (arith, record_whole stream.Table _ c.loop-next.at (sym c.record_at.ensures ∙ c.in-Ok.is))

pub loop-next-preserved : goal.loop-next-preserved
loop-next-preserved c = goes _ _ c.loop-next.invariant (sym c.record_at.ensures ∙ c.in-Ok.is)

pub returns : goal.returns
returns c = c.split_at.ensures ∙ stops _ _ c.loop-next.invariant (sym c.record_at.ensures ∙ c.in_default.is)
