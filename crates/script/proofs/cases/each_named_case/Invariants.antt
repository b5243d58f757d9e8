use Rattle.std.proofs.Common.{length}
use denote.Param.Always.{always_mut}
use Rattle.script.specs.Cases.{Plays, named_cases}
use Rattle.script.proofs.cases.each_named_case.Given as goal

abbrev pub invariant-loop-case : goal.invariant-loop-case
invariant-loop-case g l =
    always_mut g.F.FnMut l.play
    × ((r : _) → Plays g.F.FnMut l.play (named_cases l.rest) r → Plays g.F.FnMut l.fn.play (named_cases l.fn.lines) r)

abbrev pub decreases-loop-case : goal.decreases-loop-case
decreases-loop-case g l = length l.rest
