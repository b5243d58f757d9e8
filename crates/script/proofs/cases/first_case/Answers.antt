use Rattle.std.proofs.Common.{◌≡◌, ◌∷◌}
use Rattle.script.specs.Cases.{begins_named}
use Rattle.script.proofs.Parting.{first_cut}
use Rattle.script.proofs.cases.first_case.Goals as goal

pub returns-clause-cut : goal.returns-clause-cut
returns-clause-cut c =
    let whole : c.args.lines.now ≡ c.in_ok-rest.field-0-0.now ∷ c.in_ok-rest.rest.now = c.in_ok-rest.ensures.cases.0 in
    rw c.split_at.ensures.front
    (rw c.split_at.ensures.back (rw whole (first_cut begins_named _ _ _ c.before_next.ensures)))
