use Rattle.std.proofs.Common.{false, ap, ◌∙◌, rules}
use Rattle.std.proofs.lemmas.Iterator.{YieldsList-from_slice}
use Rattle.std.proofs.lemmas.Iterator.Consumers.{fold_from_yields_List}
use borrow.Author.Tests.{tests}
use Rattle.channel_plan.proofs.Tables.{clash, clash_all}
use Rattle.channel_plan.proofs.table.Table.clashes.Goals as goal

pub returns : goal.returns
returns c =
    let t = c.args.self.now.entries in
    let all = fold_from_yields_List _ (clash c.args.new) (false, false) c.fold.result c.fold.ensures.ran (YieldsList-from_slice t cc) (λ f x g q k. search (rules, tests)) ∙ clash_all c.args.new (false, false) t in
    record { mixed = ap (λ f. f.0) all; taken = ap (λ f. f.1) all }
