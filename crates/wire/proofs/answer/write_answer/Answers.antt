-- `wire::answer::write_answer` meets its contract: the bytes are as many as the part of the output that they are copied into.
use Rattle.std.proofs.Common.{arith, ap, length, length-take}
use Rattle.wire.specs.Answer.{answer_bytes}
use Rattle.wire.proofs.answer.write_answer.Goals as goal

pub copy_from_slice-requires : goal.copy_from_slice-requires
unfolding answer_bytes
copy_from_slice-requires c = omega (arith, ap length c.answer_bytes.ensures, length-take 18 c.args.out.now)
