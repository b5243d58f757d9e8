use Rattle.std.proofs.Common.{◌≡◌, ◌∙◌, sym, ap, length, arith}
use Rattle.std.proofs.lemmas.Grind.{common_steps}
use Rattle.queue_bank.proofs.Standings.{told, queues_found}
use Rattle.queue_bank.proofs.QueueBank.waiting.Goals as goal

pub returns : goal.returns
returns c =
    let b = c.args.self.now in
    let q = queues_found b.memory.now c.channel.result in
    let t = told b.rows b.memory.now c.args.channel c.channel.result c.channel.ensures in
    let e : c.map_or.result ≡ (length q.outgoing.waiting, length q.incoming.waiting) = grind (arith, common_steps) in
    e ∙ sym (ap (λ s. (length s.outgoing.waiting, length s.incoming.waiting)) t)
