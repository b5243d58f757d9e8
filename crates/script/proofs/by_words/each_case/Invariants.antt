use Rattle.std.proofs.Common.{length}
use denote.Param.Always.{always_mut}
use Rattle.script.specs.Cases.{Plays, cases}
use Rattle.script.proofs.by_words.each_case.Given as goal

abbrev pub invariant-loop-case : goal.invariant-loop-case
invariant-loop-case g l =
    always_mut g.F.FnMut l.play
    × ((r : _) → Plays g.F.FnMut l.play (cases l.rest) r → Plays g.F.FnMut l.fn.play (cases l.fn.lines) r)

abbrev pub decreases-loop-case : goal.decreases-loop-case
decreases-loop-case g l = length l.rest
