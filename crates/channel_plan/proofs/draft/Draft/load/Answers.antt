use Rattle.std.proofs.Common.{◌≡◌, Ok, Some, None, sym, ap, ◌∙◌, arith, rules}
use Rattle.channel_plan.specs.Outcomes.{answer, left}
use Rattle.channel_plan.proofs.Accepting.{file_joins}
use Rattle.plan_text.proofs.Cuts.{length_split}
use Rattle.std.proofs.lemmas.Result.{err_from_is_err_and}
use Rattle.channel_plan.proofs.Loading.{file_named, file_lines}
use Rattle.channel_plan.proofs.Placing.{refused_file}
use Rattle.channel_plan.proofs.Outcomes.{was_err, was_ok}
use Rattle.channel_plan.proofs.draft.Draft.load.Goals as goal

pub returns-in_err-header : goal.returns-in_err-header
returns-in_err-header c =
    let found : c.split_once.result ≡ Some (c.in_ok-names.names, c.in_ok-names.rest) = grind arith in
    let cut = rw found at c.split_once.ensures in
    let missing : c.read.result ≡ None = grind arith in
    let is = file_named c.args.self.now.table.entries c.args.file.now (search rules) (search rules) _ _ cut in
    search rules

pub add_lines-requires : goal.add_lines-requires
add_lines-requires c =
    let found : c.split_once.result ≡ Some (c.in_ok-names.names, c.in_ok-names.rest) = grind arith in
    let cut = rw found at c.split_once.ensures in
    omega (arith, length_split 10 c.args.file.now _ _ cut)

pub returns-in_err-add_lines : goal.returns-in_err-add_lines
returns-in_err-add_lines c =
    let t = c.args.self.now.table.entries in
    let e = c.in_err-add_lines.field-0.0 in
    let found : c.split_once.result ≡ Some (c.in_ok-names.names, c.in_ok-names.rest) = grind arith in
    let cut = rw found at c.split_once.ensures in
    let named : c.read.result ≡ Some c.in_ok-header.header = grind arith in
    let all = file_lines t c.args.file.now (search rules) (search rules) _ _ c.in_ok-header.header cut (sym named ∙ c.read.ensures) in
    let says = sym c.in_err-add_lines.was ∙ c.add_lines.ensures.answer in
    let refused = was_err _ e says in
    let p = err_from_is_err_and c.from_residual-in_err-add_lines.result c.from_residual-in_err-add_lines.ensures.1 in
    rw (p.1, p.2)
    (record { answer = ap answer (sym (all ∙ refused)); left = ap (λ o. left o t) (sym (all ∙ refused)); rows = tt; place = refused_file c.in_ok-header.header t c.args.file.now _ _ cut e refused })

pub returns : goal.returns
returns c =
    let t = c.args.self.now.table.entries in
    let u = c.add_lines.new.self.table.entries in
    let found : c.split_once.result ≡ Some (c.in_ok-names.names, c.in_ok-names.rest) = grind arith in
    let cut = rw found at c.split_once.ensures in
    let named : c.read.result ≡ Some c.in_ok-header.header = grind arith in
    let head = sym named ∙ c.read.ensures in
    let all = file_lines t c.args.file.now (search rules) (search rules) _ _ c.in_ok-header.header cut head in
    let by_lines = was_ok _ t c.in_ok-add_lines.ensures.answer ∙ ap Ok (sym c.in_ok-add_lines.ensures.left) in
    let whole = sym (all ∙ by_lines) in
    record {
      answer = ap answer whole;
      left = ap (λ o. left o t) whole;
      rows = file_joins t u c.args.file.now _ _ c.in_ok-header.header c.args.self.now.table.long cut head by_lines;
      place = tt;
    }
