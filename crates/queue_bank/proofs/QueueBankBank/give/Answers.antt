use Rattle.std.proofs.Common.{◌-◌, get_or, ap, rules}
use Rattle.queue_bank.specs.Queues.{give_to}
use Rattle.queue_bank.specs.Meaning.{queue_meaning, queue_laws}
use Rattle.queue_bank.specs.Standing.{queues_of, Step}
use Rattle.queue_bank.proofs.Standings.{give_means, called_means}
use Rattle.queue_bank.proofs.QueueBankBank.give.Goals as goal

pub returns : goal.returns
returns c =
    let b = c.args.self.now in
    let b' = c.on_channel.new.self in
    let m = b.memory.now in
    let n = c.args.channel in
    let e = c.args.e in
    let all =
    called_means b.rows m n b'.rows.channels b'.memory.now (λ o. tt {0}) (λ a. (tt {0}, queue_meaning.given n a e)) c.on_channel.result c.on_channel.ensures (λ a out. ap (λ l. (tt {0}, l)) (queue_laws.no_give n a e out))
    (λ d x s' m' t k.
    let s = get_or b.rows.channels (n - 1) d in
    let q = queues_of m s in
    let step : Step s m s' m' (give_to q e) = search rules in
    (give_to q e, step, ap (λ l. (tt {0}, l)) (give_means b.rows m n t d e))) in
    record { left = all.1; outside = all.2 }
