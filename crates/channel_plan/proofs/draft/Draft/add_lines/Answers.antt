use Rattle.std.proofs.Common.{Ok, Err, sym, ap, ◌∙◌, ◌≡◌, rules}
use Rattle.channel_plan.specs.Files.{with_line}
use Rattle.channel_plan.specs.Outcomes.{answer, left}
use Rattle.std.proofs.lemmas.Result.{err_from_is_err_and}
use Rattle.channel_plan.proofs.Loading.{lines_end, line_taken, line_stopped}
use Rattle.channel_plan.proofs.draft.Draft.add_lines.Goals as goal

pub returns-in_err-add_line : goal.returns-in_err-add_line
returns-in_err-add_line c =
    let e = c.in_err-add_line.field-0.0 in
    let refused : Err e ≡ answer (with_line c.args.header c.loop-line.self.table.entries c.in-Some.line.number c.in-Some.line.byte c.in-Some.line.text.now) = search rules in
    let all = line_stopped c.args.header c.loop-line.self.table.entries c.loop-line.line-iterator c.next.new.self c.in-Some.line c.in-Some.ensures.steps e refused in
    let p = err_from_is_err_and c.from_residual.result c.from_residual.ensures.1 in
    rw (p.1, p.2) (record { answer = ap answer (sym all ∙ c.loop-line.invariant); left = tt })

pub loop-line-preserved : goal.loop-line-preserved
loop-line-preserved c =
    let taken : Ok tt ≡ answer (with_line c.args.header c.loop-line.self.table.entries c.in-Some.line.number c.in-Some.line.byte c.in-Some.line.text.now) = search rules in
    line_taken c.args.header c.loop-line.self.table.entries c.loop-line.line-iterator c.next.new.self c.in-Some.line c.in-Some.ensures.steps c.add_line.new.self.table.entries taken c.add_line.ensures.left
    ∙ c.loop-line.invariant

pub returns : goal.returns
returns c =
    let i = c.loop-line.line-iterator in
    let all = sym (lines_end c.args.header c.loop-line.self.table.entries i.number i.byte i.rest.now c.in-None.ensures.steps) ∙ c.loop-line.invariant in
    record { answer = ap answer all; left = ap (λ o. left o c.args.self.now.table.entries) all }
