-- `TableRef::gangs_of`: at first no thread is passed, and nothing is marked.
use Rattle.std.proofs.Common.{arith}
use Rattle.table.specs.laws.Occurs.{marked_none}
use Rattle.table.proofs.TableRef.gangs_of.Goals as goal

pub loop-t-init : goal.loop-t-init
loop-t-init c = record { place = omega arith; holds = marked_none _ }
