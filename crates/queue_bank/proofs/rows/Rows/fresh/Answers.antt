use Rattle.std.proofs.Common.{◌≡◌, ◌*◌, refl, arith, rules}
use Rattle.queue_bank.specs.Standing.{FreshChannel}
use Rattle.queue_bank.proofs.Made.{each_made}
use Rattle.queue_bank.proofs.rows.Rows.fresh.Goals as goal

pub invariant_of-result : goal.invariant_of-result
invariant_of-result c =
    let all = c.from_fn.ensures.items in
    record {
      eighty = all.long;
      laid = λ k d lt. (each_made (λ f. f.0.now ≡ c.args.places) (λ i y. FreshChannel (128 * i) c.args.places y) (λ f i y q j h. (search rules, search rules)) 80 _ c.from_fn.result 0 refl all.each k d (omega arith) (omega (arith, all.long))).outgoing.base;
    }

pub returns : goal.returns
returns c = λ k d lt. each_made (λ f. f.0.now ≡ c.args.places) (λ i y. FreshChannel (128 * i) c.args.places y) (λ f i y q j h. (search rules, search rules)) 80 _ c.from_fn.result 0 refl c.from_fn.ensures.items.each k d (omega arith) (omega arith)
