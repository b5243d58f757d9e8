use Rattle.std.proofs.Common.{sym, rules}
use Rattle.channel_plan.proofs.Owners.{owner_first}
use Rattle.channel_plan.proofs.table.Table.owner.Goals as goal

pub returns : goal.returns
returns c = sym (owner_first 1 c.args.self.now.entries c.args.slot c.in_ok-at.at (search rules) (search rules) (search rules))
