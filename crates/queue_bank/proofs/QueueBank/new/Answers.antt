use Rattle.std.proofs.Common.{◌≡◌, ◌*◌, length, get_or, sym, refl, ap, subst, arith, rules}
use Rattle.bank.proofs.Tables.{table_each}
use Rattle.bank.specs.Channels.{on_each}
use Rattle.queue_bank.specs.Queues.{empty_queues}
use Rattle.queue_bank.specs.Account.{as_account}
use Rattle.queue_bank.specs.Order.{AllInOrder}
use Rattle.queue_bank.specs.Standing.{FreshChannel, account_of, queues_of, places_over}
use Rattle.queue_bank.proofs.Channels.{spare, fresh_queues}
use Rattle.queue_bank.proofs.Order.{all_in_order}
use Rattle.queue_bank.proofs.QueueBank.new.Goals as goal

pub returns : goal.returns
returns c =
    let cs = c.fresh.result.channels in
    let m = c.args.memory.now in
    let len : length cs ≡ 80 = search rules in
    let p : c.if-memory-lt-MEMORY.places ≡ places_over (length m) = search rules in
    let empty : account_of (record { memory = c.args.memory; rows = c.fresh.result }) ≡ on_each (as_account (empty_queues (places_over (length m)))) =
    table_each (λ x. as_account (queues_of m x)) cs spare _ len
    (λ k lt. ap as_account (fresh_queues m (128 * k) (get_or cs k spare) (subst (λ q. FreshChannel (128 * k) q (get_or cs k spare)) p (c.fresh.ensures k spare lt)) (omega arith))) in
    record { account = empty; kept = refl; order = subst AllInOrder (sym empty) (all_in_order (places_over (length m))) }
