use Rattle.std.proofs.Common.{◌≡◌, ◌++◌, IfOk, string_bytes, codes, ap, ◌∙◌, subst}
use Rattle.channel_plan.specs.Listings.{listing, refusal_text, report}
use Rattle.channel_plan.proofs.Reporting.{report_err, report_ok}
use Rattle.channel_plan.proofs.report.report_on.Goals as goal

pub returns-in-Ok : goal.returns-in-Ok
returns-in-Ok c =
    let text : listing c.seal-plan.result.table.entries ≡ report c.args.file.now =
    report_ok c.new-draft.result.table.entries c.args.file.now c.new-draft.ensures c.seal-plan.result.table.entries c.in-Ok.ensures.answer (ap (λ t. t.entries) c.seal-plan.ensures ∙ c.in-Ok.ensures.left) in
    subst (λ bs. IfOk c.format.result (λ s. string_bytes s ≡ bs)) text c.format.ensures.ok

pub returns-in-Err : goal.returns-in-Err
returns-in-Err c =
    let text : refusal_text c.in-Err.refusal ++ codes "\n" ≡ report c.args.file.now =
    report_err c.new-draft.result.table.entries c.args.file.now c.new-draft.ensures c.in-Err.refusal c.in-Err.ensures.answer in
    subst (λ bs. IfOk c.format-in-Err.result (λ s. string_bytes s ≡ bs)) text c.format-in-Err.ensures.ok
