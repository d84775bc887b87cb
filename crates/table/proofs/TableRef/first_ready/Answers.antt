-- `TableRef::first_ready`: past the last place no thread stands, so the loop may end there.
use Rattle.std.proofs.Common.{◌∙◌, ap, arith}
use Rattle.pick.specs.Pick.{pick_below}
use Rattle.ranges.specs.laws.Pass.{upto_all}
use Rattle.table.specs.Order.{first_ready, stands_at, before_by}
use Rattle.table.proofs.Past.{none_stands, pick_past}
use Rattle.table.proofs.TableRef.first_ready.Goals as goal

pub returns : goal.returns
unfolding first_ready
returns c =
    let stands = stands_at c.args.state.now c.args.self.core.now c.args.c in
    let before = before_by c.args.self.gang.now c.args.self.priority.now in
    upto_all c.loop-t.invariant c.loop-t-test.false
    ∙ ap (pick_below stands before) c.min-threads.ensures
    ∙ pick_past stands before 128 (λ t l. none_stands c.args.state.now c.args.self.core.now c.args.c t (omega (arith, c.told-state, l)))
    c.args.self.sizes.threads
