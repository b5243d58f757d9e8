use Rattle.std.proofs.Common.{rules}
use Rattle.reception.specs.declared.state.Reception.TheVariants.{Hunting, Pending}
use Rattle.reception.specs.Steps.{stepped}
use Rattle.reception.proofs.Hunted.{hunts_on}
use Rattle.reception.proofs.state.Receiver.step.Goals as goal

pub returns-then-hear-clause-hunt : goal.returns-then-hear-clause-hunt
unfolding stepped
returns-then-hear-clause-hunt c =
    hunts_on c.args.mode c.args.self.now (record { state = Pending c.new.result; alarm = c.args.self.now.alarm; errored = c.args.self.now.errored; bits = c.saturating_add-self.result }) c.args.bit (search rules)

pub returns-else-hear-clause-hunt : goal.returns-else-hear-clause-hunt
unfolding stepped
returns-else-hear-clause-hunt c =
    hunts_on c.args.mode c.args.self.now (record { state = Hunting c.hear.new.self; alarm = c.args.self.now.alarm; errored = c.args.self.now.errored; bits = c.saturating_add-self.result }) c.args.bit (search rules)
