use Rattle.std.proofs.Common.{inr}
use Rattle.std.proofs.lemmas.Fn.{called_at}
use Rattle.script.proofs.Parting.{is_that_err}
use Rattle.script.proofs.by_words.each_case.Goals as goal

pub returns-in_err-play : goal.returns-in_err-play
returns-in_err-play g c =
    c.loop-case.invariant.1 _
    (rw c.in-Some.ensures.cut
    (c.play.new.self, inr (c.from_residual.ensures.0, called_at g.F.FnMut c.in_err-play.ensures (is_that_err _ _ c.from_residual.ensures.1))))
