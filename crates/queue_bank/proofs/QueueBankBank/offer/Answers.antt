use Rattle.std.proofs.Common.{◌≡◌, ◌-◌, false, get_or, unwrap_or, refl, sym, ap, ◌∙◌, inl, length, rules}
use Rattle.ring.specs.Held.{queue, Put}
use Rattle.queue_bank.specs.Queues.{offer_to}
use Rattle.queue_bank.specs.Account.{as_account}
use Rattle.queue_bank.specs.Meaning.{queue_meaning, queue_laws}
use Rattle.queue_bank.specs.Standing.{queues_of, Step}
use Rattle.queue_bank.proofs.Channels.{incoming_left, within_channel}
use Rattle.queue_bank.proofs.Standings.{offer_means, called_means}
use Rattle.queue_bank.proofs.QueueBankBank.offer.Goals as goal

pub returns : goal.returns
returns c =
    let b = c.args.self.now in
    let b' = c.on_channel.new.self in
    let m = b.memory.now in
    let n = c.args.channel in
    let e = c.args.e in
    let all =
    called_means b.rows m n b'.rows.channels b'.memory.now (λ o. unwrap_or o false) (λ a. queue_meaning.offered n a e) c.on_channel.result c.on_channel.ensures (λ a. queue_laws.no_offer n a e)
    (λ d x s' m' t k.
    let s = get_or b.rows.channels (n - 1) d in
    let q = queues_of m s in
    let put : Put e s.outgoing m x s'.outgoing m' = search rules in
    let len : length m' ≡ length m = search rules in
    let inn : s'.incoming ≡ s.incoming = search rules in
    let same : s'.dropped ≡ s.dropped = search rules in
    let beside = ap (λ r. queue r m') inn ∙ incoming_left s s'.outgoing m m' e x put len in
    let step : Step s m s' m' (offer_to q e) = record {
      left = λ i. record { outgoing = put.left i; incoming = beside i; dropped = same i };
      base = put.same.base;
      size = len;
      outside = within_channel s s.outgoing m m' (inl refl) put.outside;
    } in
    (offer_to q e, step, offer_means b.rows m n t d e ∙ ap (λ a. (a, as_account (offer_to q e))) (sym put.answer))) in
    record { answer = c.unwrap_or.ensures ∙ all.0; left = all.1; outside = all.2 }
