-- `put_field` meets its contract: the digits, and then the space, are put together.
use Rattle.std.proofs.Common.{arith, rules}
use Rattle.lines.specs.Chars.{space}
use Rattle.lines.specs.laws.Put.{put_byte, put_put}
use Rattle.lines.specs.Listing.{field_of}
use Rattle.lines.proofs.put_field.Goals as goal

pub returns : goal.returns
unfolding field_of
returns c =
    let p = c.put_number-end in
    put_put p.ensures (put_byte p.new.out p.result space (search rules)) (omega arith)
