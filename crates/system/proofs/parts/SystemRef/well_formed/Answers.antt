-- `SystemRef::well_formed` meets its contract: its five tests are the parts of `well_formed`, in their order.
use Rattle.system.specs.WellFormed.{well_formed}
use Rattle.system.proofs.parts.SystemRef.well_formed.Goals as goal

pub returns : goal.returns
unfolding well_formed
returns c = rw (c.ok.ensures, c.states_ok.ensures, c.counts_ok.ensures, c.ok-2.ensures, c.ok-3.ensures)
