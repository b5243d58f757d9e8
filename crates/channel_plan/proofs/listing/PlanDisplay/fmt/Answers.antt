use Rattle.std.proofs.Common.{codes, refl, ap, ◌∙◌, subst}
use Rattle.std.proofs.Output.{has_written_of_eq, has_written_append}
use Rattle.channel_plan.specs.Iterating.{to_come}
use Rattle.channel_plan.specs.Listings.{listing, row_lines}
use Rattle.channel_plan.proofs.Printing.{Printed, printed_none, printed_more, printed_all}
use Rattle.channel_plan.proofs.listing.PlanDisplay.fmt.Goals as goal

pub loop-row-init : goal.loop-row-init
loop-row-init g c plain = printed_none g.W.Write.write_str_gives c.writeln.new.self (to_come c.into_iter-row-iterator.result) plain

pub loop-row-preserved : goal.loop-row-preserved
loop-row-preserved g c plain =
    let took = g.W.Write.write_str_gives in
    let start = c.writeln.new.self in
    let all = to_come c.into_iter-row-iterator.result in
    let before = subst (Printed took start c.loop-row.f all) c.in-Some.ensures.steps (c.loop-row.invariant plain) in
    printed_more took start c.loop-row.f c.writeln-in-loop-row.new.self all (to_come c.next.new.self) c.in-Some.row before (c.in_ok-writeln-2.ensures.writes before.put.plain refl)

pub returns-clause-writes : goal.returns-clause-writes
unfolding listing
returns-clause-writes g c plain ok =
    let took = g.W.Write.write_str_gives in
    let start = c.writeln.new.self in
    let all = to_come c.into_iter-row-iterator.result in
    let names = c.in_ok-writeln.ensures.writes plain refl in
    let rows = printed_all took start c.loop-row.f all (subst (Printed took start c.loop-row.f all) c.in-None.ensures.steps (c.loop-row.invariant names.plain)) in
    let whole = ap to_come c.into_iter-row-iterator.ensures.into_iter_gives ∙ c.rows-row-items.ensures in
    has_written_append took c.args.f.now (codes "channel,rate,first,slots\n") start _ c.loop-row.f names (has_written_of_eq took start _ _ c.loop-row.f (ap row_lines whole) rows)
