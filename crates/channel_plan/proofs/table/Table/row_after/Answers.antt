use Rattle.std.proofs.Common.{◌≡◌, ◌+◌, true, false, get_or, is_some, None, ap, ◌∙◌, arith, rules}
use Rattle.std.proofs.lemmas.Iterator.{first_from_Range, serves_from_Range}
use borrow.Author.Tests.{tests}
use Rattle.channel_plan.specs.Entries.{as_row, row_at}
use Rattle.channel_plan.proofs.Tables.{entry_at, next_above, rows_next, rows_none}
use Rattle.channel_plan.proofs.table.Table.row_after.Goals as goal

pub find-requires : goal.find-requires
find-requires c = record { can = tt; finite = tt; callable = serves_from_Range (λ x q k. search (rules, tests)) (λ x low high. search rules) }

pub returns-in_err-seen : goal.returns-in_err-seen
returns-in_err-seen c =
    let t = c.args.self.now.entries in
    let first = first_from_Range _ _ _ c.find.result (λ k. is_some (get_or t k None) ≡ true) (λ k. is_some (get_or t k None) ≡ false) c.find.ensures.ran (λ x q k. search (rules, tests)) (λ x q k. search (rules, tests)) in
    let none = rw c.in_err-seen.was at first in
    rw c.from_residual.ensures (record { next = rows_none t c.args.channel c.args.self.now.long (λ k from below. ap is_some (entry_at t k below) ∙ none k from below); above = tt })

pub returns : goal.returns
returns c =
    let t = c.args.self.now.entries in
    let i = c.in_ok-seen.seen in
    let first = first_from_Range _ _ _ c.find.result (λ k. is_some (get_or t k None) ≡ true) (λ k. is_some (get_or t k None) ≡ false) c.find.ensures.ran (λ x q k. search (rules, tests)) (λ x q k. search (rules, tests)) in
    let found = rw c.in_ok-seen.was at first in
    let row : c.map.result ≡ as_row (i + 1) (row_at t (i + 1)) = search rules in
    rw row
    (record {
      next = rows_next t c.args.channel i c.args.self.now.long found.0 found.1 (ap is_some (entry_at t i found.1) ∙ found.2) (λ k from below. ap is_some (entry_at t k (omega arith)) ∙ found.3 k from below);
      above = next_above t c.args.channel i found.0 found.1;
    })
