-- `write_input` is safe: the events start within the bytes.
use Rattle.std.proofs.Common.{arith, take, length-take}
use Rattle.listed.specs.laws.Start.{start_inside}
use Rattle.recording.proofs.Place.{place_within}
use Rattle.recording.proofs.write_input.Goals as goal

pub slice_bounds-read_system-end : goal.slice_bounds-read_system-end
slice_bounds-read_system-end g c = simp length-take (omega (arith, c.events_start-start.ensures, start_inside c.args.bytes.now))

pub write_events-requires : goal.write_events-requires
write_events-requires g c = (omega (arith, c.events_start-start.ensures, start_inside c.args.bytes.now), c.requires)

pub overflow_cast-place : goal.overflow_cast-place
overflow_cast-place g c =
    let start = c.events_start-start.result in
    let place = place_within (take start c.args.bytes.now) c.read_system.ensures in
    omega (arith, place, length-take start c.args.bytes.now, c.requires)
