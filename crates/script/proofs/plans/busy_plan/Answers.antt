use Rattle.script.proofs.Busy.{added, filled, none_yet, owned}
use Rattle.script.proofs.plans.busy_plan.Goals as goal

pub loop-slot-init : goal.loop-slot-init
loop-slot-init c = λ k. rw c.new-draft.ensures (none_yet k)

pub loop-slot-preserved : goal.loop-slot-preserved
loop-slot-preserved c = λ k.
    rw c.add.ensures.left
    (added c.loop-slot.slot c.loop-slot.draft.table.entries c.loop-slot-test.true c.loop-slot.invariant c.loop-slot.draft.table.long k)

pub returns-clause-owned : goal.returns-clause-owned
returns-clause-owned c = λ s less.
    rw c.seal.ensures
    (owned c.loop-slot.draft.table.entries (filled c.loop-slot.slot c.loop-slot.draft.table.entries c.loop-slot-test.false c.loop-slot.invariant) s less)
