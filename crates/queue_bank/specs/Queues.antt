-- The two queues of a channel, and what the calls do to them.
use Rattle.std.specs.Prelude.{ℕ, ◌+◌, min, cond}
use Rattle.bank.specs.declared.Envelope.{Envelope}
use Rattle.ring.specs.Queue.{Queue, empty, has_room, put_into, without_oldest}

-- dropped counts the envelopes from the line that found every place full
pub record Queues : Type 0 where
  pub outgoing : Queue Envelope
  pub incoming : Queue Envelope
  pub dropped : ℕ

abbrev pub empty_queues : ℕ → Queues
empty_queues p = record { outgoing = empty p; incoming = empty p; dropped = 0 }

abbrev pub offer_to : Queues → Envelope → Queues
offer_to q e = record { outgoing = put_into q.outgoing e; incoming = q.incoming; dropped = q.dropped }

abbrev pub take_from : Queues → Queues
take_from q = record { outgoing = without_oldest q.outgoing; incoming = q.incoming; dropped = q.dropped }

abbrev pub collect_from : Queues → Queues
collect_from q = record { outgoing = q.outgoing; incoming = without_oldest q.incoming; dropped = q.dropped }

-- the count of those dropped stays at 65,535
abbrev pub give_to : Queues → Envelope → Queues
give_to q e = record {
  outgoing = q.outgoing;
  incoming = put_into q.incoming e;
  dropped = cond (has_room q.incoming) q.dropped (min 65535 (q.dropped + 1));
}
