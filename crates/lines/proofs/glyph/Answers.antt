-- `glyph` meets its contract: each arm of its test is an arm of glyph_of.
use Rattle.std.proofs.Common.{lt-ltb, le-ltb}
use Rattle.lines.proofs.glyph.Goals as goal

pub returns-then-d-lt-TEN : goal.returns-then-d-lt-TEN
returns-then-d-lt-TEN c = simp (lt-ltb _ _ c.if-d-lt-TEN.true)

pub returns-else-d-lt-TEN : goal.returns-else-d-lt-TEN
returns-else-d-lt-TEN c = simp (le-ltb _ _ c.if-d-lt-TEN.false)
