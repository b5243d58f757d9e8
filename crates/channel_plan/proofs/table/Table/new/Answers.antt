use Rattle.std.proofs.Common.{refl}
use Rattle.channel_plan.proofs.Tables.{below_none, one_rate_none, apart_none}
use Rattle.channel_plan.proofs.table.Table.new.Goals as goal

pub invariant_of-result : goal.invariant_of-result
invariant_of-result c = record { below = below_none; one_rate = one_rate_none; apart = apart_none; long = refl }
