-- `write_line` meets its contract: what is put at the start of the buffer is the line, and that is written.
use Rattle.lines.specs.laws.Shown.{shown_front}
use Rattle.recording.proofs.write_line.Goals as goal

pub returns : goal.returns
returns g c = rw (← shown_front c.put-size.ensures) c.write_all.ensures.bytes
