-- First in, first out: what goes through a channel's queues over any list of calls comes out in order.
use Rattle.std.specs.Prelude.{◌≡◌, ℕ, true, List, ◌++◌}
use Rattle.bank.specs.declared.Envelope.{Envelope}
use Rattle.bank.specs.Meaning.{Accounts, is_channel}
use Rattle.bank.specs.Runs.{Call, after_calls, passed, accepted_by, taken_by, given_by, collected_by}
use Rattle.queue_bank.specs.Queues.{Queues}
use Rattle.queue_bank.specs.Account.{as_queues}
use Rattle.queue_bank.specs.Meaning.{queue_meaning}

-- over a list of calls on channel n, from the account a: the envelopes whose offer was answered yes,
-- those that take answered, those given, and those that collect answered
module _ (n : ℕ) (a : List ℕ) (calls : List Call) where
  abbrev pub accepted : List Envelope
  accepted = passed queue_meaning n (accepted_by queue_meaning n) a calls

  abbrev pub taken : List Envelope
  taken = passed queue_meaning n (taken_by queue_meaning n) a calls

  abbrev pub given : List Envelope
  given = passed queue_meaning n (given_by queue_meaning n) a calls

  abbrev pub collected : List Envelope
  collected = passed queue_meaning n (collected_by queue_meaning n) a calls

  -- the queues after them
  abbrev pub queues_left : Queues
  queues_left = as_queues (after_calls queue_meaning n a calls)

pub record InOrder (n : ℕ) (a : List ℕ) (calls : List Call) : Type 0 where
  -- what was accepted is what take answered and then what still waits for the line
  pub outgoing : accepted n a calls ≡ taken n a calls ++ (queues_left n a calls).outgoing.waiting
  -- where nothing was dropped, what was given is what collect answered and then what still waits from the line
  pub incoming : (queues_left n a calls).dropped ≡ 0 → given n a calls ≡ collected n a calls ++ (queues_left n a calls).incoming.waiting

-- so on each channel, from these accounts
abbrev pub AllInOrder : Accounts → Type 0
AllInOrder f = (n : ℕ) → is_channel n ≡ true → (calls : List Call) → InOrder n (f n) calls
