-- What the queue bank tells of a channel, read off its account.
use Rattle.std.specs.Prelude.{ℕ, List, length, count_by, nat_eq}
use Rattle.bank.specs.declared.Envelope.{Envelope}
use Rattle.bank.specs.Code.{code_of}
use Rattle.queue_bank.specs.Account.{as_queues}

-- how many envelopes wait for the line, and from it
abbrev pub waiting_counts : List ℕ → ℕ × ℕ
waiting_counts a = (length (as_queues a).outgoing.waiting, length (as_queues a).incoming.waiting)

abbrev pub with_code : ℕ → List Envelope → ℕ
with_code code es = count_by (λ e. nat_eq (code_of e) code) es

-- how many of them have a code
abbrev pub code_counts : ℕ → List ℕ → ℕ × ℕ
code_counts code a = (with_code code (as_queues a).outgoing.waiting, with_code code (as_queues a).incoming.waiting)

abbrev pub dropped_count : List ℕ → ℕ
dropped_count a = (as_queues a).dropped
