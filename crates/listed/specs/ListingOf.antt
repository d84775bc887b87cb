-- Document 01, "The listing": a line for each event.
use Rattle.std.specs.Prelude.{ℕ, List}
use Rattle.lines.specs.Listing.{line_of}
use Rattle.listed.specs.Listed.{line_for}
use Rattle.listed.specs.Output.{Print, output_of}

-- an event's line
abbrev pub event_printed : Print
event_printed position e r = line_of (line_for position e r)

abbrev pub listing_of : List ℕ → List ℕ
listing_of s = output_of event_printed s
