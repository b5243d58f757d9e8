use Rattle.std.proofs.Common.{◌≡◌, ◌-◌, get_or, sym, ap, ◌∙◌, rules}
use Rattle.std.specs.Option.{option_flatten}
use Rattle.ring.specs.Queue.{oldest}
use Rattle.queue_bank.specs.Queues.{collect_from}
use Rattle.queue_bank.specs.Account.{as_account}
use Rattle.queue_bank.specs.Meaning.{queue_meaning, queue_laws}
use Rattle.queue_bank.specs.Standing.{queues_of, Step}
use Rattle.queue_bank.proofs.Standings.{collect_means, called_means}
use Rattle.queue_bank.proofs.QueueBankBank.collect.Goals as goal

pub returns : goal.returns
returns c =
    let b = c.args.self.now in
    let b' = c.on_channel.new.self in
    let m = b.memory.now in
    let n = c.args.channel in
    let all =
    called_means b.rows m n b'.rows.channels b'.memory.now option_flatten (queue_meaning.collected n) c.on_channel.result c.on_channel.ensures (queue_laws.no_collect n)
    (λ d x s' m' t k.
    let s = get_or b.rows.channels (n - 1) d in
    let q = queues_of m s in
    let answer : x ≡ oldest q.incoming = search rules in
    let step : Step s m s' m' (collect_from q) = search rules in
    (collect_from q, step, collect_means b.rows m n t d ∙ ap (λ a. (a, as_account (collect_from q))) (sym answer))) in
    record { answer = c.flatten.ensures ∙ all.0; left = all.1; kept = search rules }
