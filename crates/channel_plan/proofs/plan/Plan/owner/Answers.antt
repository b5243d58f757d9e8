use Rattle.std.proofs.Common.{◌≡◌, ◌<◌, ◌≤◌, get_or, IfSome, None, sym, ◌∙◌, subst, rules}
use Rattle.std.proofs.lemmas.Bool.{cond-true, lt-ltb}
use Rattle.channel_plan.specs.Entries.{owner_from}
use Rattle.channel_plan.specs.Tables.{OwnerIs}
use Rattle.channel_plan.proofs.Owners.{owner_is, owner_known}
use Rattle.channel_plan.proofs.plan.Plan.owner.Goals as goal

pub returns : goal.returns
returns c =
    let p = c.args.self.now in
    let s = c.args.slot in
    let framed : s < 240 = search rules in
    let read : c.in_ok-get.field-0.now ≡ get_or p.owners s None = search rules in
    let is : c.in_ok-get.field-0.now ≡ owner_from 1 p.table.entries s = read ∙ p.owned s framed ∙ cond-true _ _ _ (lt-ltb s 240 framed) in
    record {
      value = read ∙ p.owned s framed;
      exact = λ k. subst (λ o. OwnerIs p.table.entries s o k) (sym is) (owner_is p.table.entries p.table.long p.table.apart s framed k);
      known = subst (λ o. IfSome o (λ k. (0 < k) × (k ≤ 80))) (sym is) (owner_known p.table.entries s p.table.long);
    }
