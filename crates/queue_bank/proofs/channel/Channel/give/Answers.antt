use Rattle.std.proofs.Common.{◌≡◌, ◌+◌, min, length, sym, refl, ◌∙◌, inr, rules}
use Rattle.ring.specs.Queue.{has_room}
use Rattle.ring.specs.Held.{queue}
use Rattle.std.proofs.lemmas.Bool.{cond-true}
use Rattle.queue_bank.proofs.Channels.{outgoing_left, within_channel}
use Rattle.queue_bank.proofs.channel.Channel.give.Goals as goal

pub returns-else-not-put : goal.returns-else-not-put
returns-else-not-put c =
    let s = c.args.self.now in
    let m = c.args.memory.now in
    let m' = c.put.new.memory in
    let put = c.put.ensures in
    let len : length m' ≡ length m = search rules in
    let out = outgoing_left s c.put.new.self m m' c.args.e c.put.result put len in
    let kept = cond-true (has_room (queue s.incoming m)) s.dropped (min 65535 (s.dropped + 1)) (sym put.answer ∙ c.if-not-put.false) in
    record {
      left = λ i. record { outgoing = out i; incoming = put.left i; dropped = sym kept i };
      base = refl;
      size = len;
      outside = within_channel s s.incoming m m' (inr refl) put.outside;
    }
