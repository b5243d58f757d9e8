use Rattle.std.proofs.Common.{◌≡◌, None, sym, refl, ◌∙◌, arith, rules}
use Rattle.std.proofs.lemmas.Bool.{cond-true, lt-ltb}
use Rattle.channel_plan.specs.Entries.{owner_from}
use Rattle.channel_plan.proofs.Filling.{filled}
use Rattle.channel_plan.proofs.table.Table.owners.Goals as goal

pub returns : goal.returns
returns c = λ s h.
    filled _ _ (λ slot owner. owner ≡ owner_from 1 c.args.self.now.entries slot) (λ i y q k. search rules) c.from_fn.result 240 0 _ refl c.from_fn.ensures.items.each s None (omega arith) (omega arith)
    ∙ sym (cond-true _ _ _ (lt-ltb s 240 h))
