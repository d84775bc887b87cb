-- `turn` meets its contract: where the event is answered, its ANSWER stands at the start of the output.
use Rattle.std.proofs.Common.{arith}
use Rattle.batch.proofs.OneTurn.{turn_done}
use Rattle.batch.proofs.turns.turn.Goals as goal

pub returns : goal.returns
returns c =
    turn_done _ _ _ c.in_ok-found.ensures (omega arith) c.step-answer.ensures c.record_of-record.ensures c.write_answer.ensures.out_after
