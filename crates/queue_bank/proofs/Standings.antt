-- The accounts of all 80 channels, and what a call on one of them does to them.
use Rattle.std.proofs.Common.{◌≡◌, ℕ, ◌+◌, ◌-◌, ◌*◌, ◌<◌, ◌≤◌, true, false, ◌⊎◌, List, get_or, set, Option, Some, None, sym, ap, ◌∙◌, ap₂, subst, inl, inr, ⊎_elim, arith}
use Rattle.std.proofs.lemmas.Bool.{cond-true, cases_lt}
use Rattle.bank.specs.declared.Envelope.{Envelope}
use Rattle.bank.specs.Meaning.{Accounts, is_channel, put_at}
use Rattle.bank.specs.Channels.{table}
use Rattle.bank.proofs.Tables.{channel_low, channel_high, put_at_left, table_at, table_outside, table_change}
use Rattle.ring.specs.Queue.{has_room, oldest}
use Rattle.ring.specs.Held.{around}
use Rattle.queue_bank.specs.declared.channel.Channel.{Channel}
use Rattle.queue_bank.specs.declared.rows.Rows.{Rows}
use Rattle.queue_bank.specs.Queues.{Queues, empty_queues, offer_to, take_from, collect_from, give_to}
use Rattle.queue_bank.specs.Account.{as_account, as_queues}
use Rattle.queue_bank.specs.Meaning.{queue_each, queue_meaning}
use Rattle.queue_bank.specs.Standing.{queues_of, Step}
use Rattle.queue_bank.proofs.Accounts.{queues_account, offered_account, collected_account, taken_account, given_account}
use Rattle.queue_bank.specs.Called.{FoundAt, Found, Answers, Called}
use Rattle.std.specs.Borrow.{MutBor}
use Rattle.std.specs.Fn.{Once}
use Rattle.std.proofs.lemmas.Option.{get_or_from_slice_get}
use Rattle.queue_bank.proofs.Channels.{queues_apart}

-- over the memory m
abbrev accounts : Rows → List Envelope → Accounts
accounts rows m = table (λ c. as_account (queues_of m c)) rows.channels

-- the queues of the channel that was found
abbrev pub queues_found : List Envelope → Option Channel → Queues
queues_found m None = empty_queues 0
queues_found m (Some c) = queues_of m c

module _ (rows : Rows) (m : List Envelope) (n : ℕ) where
  -- the channel that a read at n finds
  abbrev found : Channel → Channel
  found d = get_or rows.channels (n - 1) d

  here : (c : Channel) → FoundAt n rows.channels c → found c ≡ c
  here c at = get_or_from_slice_get rows.channels (n - 1) c c at.here

  module _ (t : is_channel n ≡ true) (d : Channel) where
    stands : accounts rows m n ≡ as_account (queues_of m (found d))
    stands =
        let low = channel_low n t in
        let high = channel_high n t in
        let len = rows.eighty in
        table_at (λ x. as_account (queues_of m x)) rows.channels n d low (omega arith)

    -- what the calls mean on channel n
    pub offer_means : (e : Envelope) → queue_meaning.offered n (accounts rows m n) e ≡ (has_room (queues_of m (found d)).outgoing, as_account (offer_to (queues_of m (found d)) e))
    offer_means e = cond-true (is_channel n) _ _ t ∙ ap (λ a. queue_each.offered a e) stands ∙ offered_account (queues_of m (found d)) e

    pub collect_means : queue_meaning.collected n (accounts rows m n) ≡ (oldest (queues_of m (found d)).incoming, as_account (collect_from (queues_of m (found d))))
    collect_means = cond-true (is_channel n) _ _ t ∙ ap queue_each.collected stands ∙ collected_account (queues_of m (found d))

    pub take_means : queue_meaning.taken n (accounts rows m n) ≡ (oldest (queues_of m (found d)).outgoing, as_account (take_from (queues_of m (found d))))
    take_means = cond-true (is_channel n) _ _ t ∙ ap queue_each.taken stands ∙ taken_account (queues_of m (found d))

    pub give_means : (e : Envelope) → queue_meaning.given n (accounts rows m n) e ≡ as_account (give_to (queues_of m (found d)) e)
    give_means e = cond-true (is_channel n) _ _ t ∙ ap (λ a. queue_each.given a e) stands ∙ given_account (queues_of m (found d)) e

    lies : (found d).outgoing.base ≡ 128 * (n - 1)
    lies =
        let low = channel_low n t in
        let high = channel_high n t in
        let len = rows.eighty in
        rows.laid (n - 1) d (omega arith)

    module _ (c' : Channel) (m' : List Envelope) (q : Queues) (step : Step (found d) m c' m' q) where
      -- a call on channel n, as the accounts of all channels have it
      pub bank_step : (a : List ℕ) → a ≡ as_account q → table (λ x. as_account (queues_of m' x)) (set rows.channels (n - 1) c') ≡ put_at n a (accounts rows m)
      bank_step a e =
          let low = channel_low n t in
          let high = channel_high n t in
          let len = rows.eighty in
          let b = lies in
          let c = found d in
          table_change (λ x. as_account (queues_of m x)) (λ x. as_account (queues_of m' x)) rows.channels n c' low (omega arith)
          (λ k lt ne.
          let o = get_or rows.channels k c' in
          let there : o.outgoing.base ≡ 128 * k = rows.laid k c' lt in
          let away : (o.outgoing.base + 128 ≤ c.outgoing.base) ⊎ (c.outgoing.base + 128 ≤ o.outgoing.base) =
          ⊎_elim (λ (l : k < n - 1). inl (omega arith)) (λ (ge : n - 1 ≤ k). let gt : n - 1 < k = omega arith in inr (omega arith)) (cases_lt k (n - 1)) in
          ap as_account (queues_apart o c.outgoing.base m m' step.outside step.size away))
          ∙ ap (λ l. put_at n l (accounts rows m)) (ap as_account step.left ∙ sym e)

      -- it writes only to the 128 places of channel n
      pub outside_left : around (128 * (n - 1)) 128 m' ≡ around (128 * (n - 1)) 128 m
      outside_left = subst (λ b. around b 128 m' ≡ around b 128 m) lies step.outside

  -- the queues that the account of n tells
  pub told : (o : Option Channel) → Found n rows.channels o → as_queues (accounts rows m n) ≡ queues_found m o
  unfolding as_queues
  told None out = ap as_queues (table_outside (λ x. as_account (queues_of m x)) rows.channels n rows.eighty out)
  told (Some c) at = ap as_queues (stands at.inside c) ∙ queues_account (queues_of m (found c)) ∙ ap (queues_of m) (here c at)

  module _ {F R A : Type 0} {g : Once F (MutBor Channel × (MutBor (List Envelope) × Unit {0})) (R × (MutBor Channel × (MutBor (List Envelope) × Unit {0})))} {call : F} (cs' : List Channel) (m' : List Envelope) where
    -- a call means `mean`, if it answers and leaves what `mean` has on the channel that it finds; and it writes to the places of channel n alone
    pub called_means : (to : Option R → A) (mean : List ℕ → A × List ℕ) (o : Option R) → Called g call n rows.channels m o cs' m' → ((a : List ℕ) → is_channel n ≡ false → mean a ≡ (to None, a)) → ((d : Channel) (x : R) (c' : Channel) (m' : List Envelope) → is_channel n ≡ true → Answers g call (found d) m x c' m' → (q : Queues) × Step (found d) m c' m' q × (mean (accounts rows m n) ≡ (to (Some x), as_account q))) → (to o ≡ (mean (accounts rows m n)).0) × (table (λ x. as_account (queues_of m' x)) cs' ≡ put_at n (mean (accounts rows m n)).1 (accounts rows m)) × (around (128 * (n - 1)) 128 m' ≡ around (128 * (n - 1)) 128 m)
    called_means to mean None k out on =
        let e = out (accounts rows m n) k.outside in (
          sym (ap (λ p. p.0) e),
          ap₂ (λ l (cs : List Channel). table (λ x. as_account (queues_of l x)) cs) k.memory k.rows ∙ sym (put_at_left n _ (accounts rows m) (ap (λ p. p.1) e)),
          ap (around (128 * (n - 1)) 128) k.memory,
        )
    called_means to mean (Some x) k out on =
        let t = k.at.inside in
        let d = k.found in
        let did = on d x k.left m' t (subst (λ c. Answers g call c m x k.left m') (sym (here d k.at)) k.called) in (
          sym (ap (λ p. p.0) did.2),
          ap (table (λ x. as_account (queues_of m' x))) k.rows ∙ bank_step t d k.left m' did.0 did.1 _ (ap (λ p. p.1) did.2),
          outside_left t d k.left m' did.0 did.1,
        )
