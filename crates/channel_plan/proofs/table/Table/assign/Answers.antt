use Rattle.std.proofs.Common.{◌<◌, ◌≤◌, rules}
use Rattle.channel_plan.proofs.Tables.{below_more, one_rate_more, apart_more, no_conflict}
use Rattle.channel_plan.proofs.table.Table.assign.Goals as goal

pub invariant_of-self : goal.invariant_of-self
invariant_of-self c =
    let old = c.args.self.now in
    let t = old.entries in
    let new = c.args.new in
    let low : 0 < c.args.channel = search rules in
    let high : c.args.channel ≤ 80 = search rules in
    let clear = no_conflict t new c.requires.admitted in
    record {
      below = below_more t c.args.channel new old.long low high old.below c.requires.below;
      one_rate = one_rate_more t c.args.channel new old.long low high old.one_rate clear.0;
      apart = apart_more t c.args.channel new old.long low high old.apart clear.1;
      long = search rules;
    }
