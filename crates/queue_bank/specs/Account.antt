-- A channel's queues as a list of numbers, and back.
use Rattle.std.specs.Prelude.{ℕ, List, [], ◌∷◌, ◌++◌, length, take, drop, ◌==◌, slice_index}
use Rattle.bank.specs.declared.Envelope.{Envelope}
use Rattle.bank.specs.Code.{bit}
use Rattle.queue_bank.specs.Queues.{Queues}

-- two numbers for each envelope: its status bit and its octet
abbrev pub numbers : List Envelope → List ℕ
numbers [] = []
numbers (e ∷ es) = bit e ∷ e.octet ∷ numbers es

abbrev pub envelopes : List ℕ → List Envelope
envelopes [] = []
envelopes (s ∷ []) = []
envelopes (s ∷ o ∷ ns) = record { status = (s == 1); octet = o } ∷ envelopes ns

-- the places each way, the count of those dropped, how many envelopes wait for the line, these, and those from the line
unfoldable pub as_account : Queues → List ℕ
as_account q =
    q.outgoing.places
    ∷ q.incoming.places
    ∷ q.dropped
    ∷ length q.outgoing.waiting
    ∷ numbers (q.outgoing.waiting ++ q.incoming.waiting)

unfoldable pub as_queues : List ℕ → Queues
as_queues a = record {
  outgoing = record { places = slice_index a 0; waiting = take (slice_index a 3) (envelopes (drop 4 a)) };
  incoming = record { places = slice_index a 1; waiting = drop (slice_index a 3) (envelopes (drop 4 a)) };
  dropped = slice_index a 2;
}
