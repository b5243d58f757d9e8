use Rattle.std.specs.Fmt.{IsPlainFormatter}
use Rattle.channel_plan.specs.Iterating.{to_come}
use Rattle.channel_plan.proofs.Printing.{Printed}
use Rattle.channel_plan.proofs.listing.PlanDisplay.fmt.Given as goal

abbrev pub invariant-loop-row : goal.invariant-loop-row
invariant-loop-row g l = IsPlainFormatter l.initial.f → Printed g.W.Write.write_str_gives l.initial.f l.f (to_come l.initial.row-iterator) (to_come l.row-iterator)
