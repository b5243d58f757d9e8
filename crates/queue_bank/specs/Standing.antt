-- The queues that stand on the channels of a bank, and where a call may write.
use Rattle.std.specs.Prelude.{◌≡◌, ℕ, ◌+◌, ◌-◌, ◌*◌, cond, List, length, nat_lt}
use Rattle.bank.specs.declared.Envelope.{Envelope}
use Rattle.bank.specs.Meaning.{Accounts}
use Rattle.bank.specs.Channels.{table}
use Rattle.ring.specs.Held.{queue, around, Fresh}
use Rattle.queue_bank.specs.declared.channel.Channel.{Channel}
use Rattle.queue_bank.specs.declared.QueueBank.{QueueBank}
use Rattle.queue_bank.specs.Queues.{Queues}
use Rattle.queue_bank.specs.Account.{as_account}

-- a channel's queues over the memory m
abbrev pub queues_of : List Envelope → Channel → Queues
queues_of m c = record { outgoing = queue c.outgoing m; incoming = queue c.incoming m; dropped = c.dropped }

abbrev pub memory_of : QueueBank → List Envelope
memory_of b = b.memory.now

abbrev pub account_of : QueueBank → Accounts
account_of b = table (λ c. as_account (queues_of (memory_of b) c)) b.rows.channels

-- the memory before the 128 places of channel n, and after them
abbrev pub besides : ℕ → QueueBank → List Envelope × List Envelope
besides n b = around (128 * (n - 1)) 128 (memory_of b)

-- a call on a channel leaves its queues as q, and writes only to the channel's own 128 places
pub record Step (c : Channel) (m : List Envelope) (c' : Channel) (m' : List Envelope) (q : Queues) : Type 0 where
  pub left : queues_of m' c' ≡ q
  pub base : c'.outgoing.base ≡ c.outgoing.base
  pub size : length m' ≡ length m
  pub outside : around c.outgoing.base 128 m' ≡ around c.outgoing.base 128 m

-- how many places each queue has over a memory of n
abbrev pub places_over : ℕ → ℕ
places_over n = cond (nat_lt n 10240) 0 64

-- a channel in which nothing waits
pub record FreshChannel (base places : ℕ) (c : Channel) : Type 0 where
  pub outgoing : Fresh base places c.outgoing
  pub incoming : Fresh (base + 64) places c.incoming
  pub dropped : c.dropped ≡ 0
