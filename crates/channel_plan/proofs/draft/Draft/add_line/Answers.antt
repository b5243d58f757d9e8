use Rattle.std.proofs.Common.{◌≡◌, Ok, sym, ap, ◌∙◌, rules}
use Rattle.channel_plan.specs.Files.{values_of, with_line, with_values}
use Rattle.channel_plan.specs.Adding.{with_row}
use Rattle.channel_plan.specs.Outcomes.{answer, left}
use Rattle.plan_text.specs.Headers.{under}
use Rattle.plan_text.specs.declared.header.Column.TheVariants.{Channel, Rate, First}
use Rattle.channel_plan.proofs.Loading.{row_left, row_told}
use Rattle.channel_plan.proofs.draft.Draft.add_line.Goals as goal

pub returns : goal.returns
unfolding with_line
returns c =
    let l = c.args.line in
    let t = c.args.self.now.table.entries in
    let h = c.args.header in
    let v = c.in_ok-values.values in
    let read : values_of l.text.now ≡ Ok v = search rules in
    let row = with_row t (under h Channel v.left v.middle v.right) (under h Rate v.left v.middle v.right) (under h First v.left v.middle v.right) in
    let there : c.add.new.self.table.entries ≡ left row t = search rules in
    record {
      answer = row_told l.number l.byte row c.add.result c.map_err-2.result _ (search rules) c.map_err-2.ensures.cases (λ e f p. search rules) ∙ ap (λ o. answer (with_values h t l.number l.byte o)) (sym read);
      left = there ∙ row_left l.number l.byte row t ∙ ap (λ o. left (with_values h t l.number l.byte o) t) (sym read);
    }
