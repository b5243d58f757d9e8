-- What the queue bank answers and leaves, and that it shows the law of banks.
use Rattle.std.specs.Prelude.{◌≡◌, ℕ, Bool, true, false, cond, List, Some, None, Option, is_some, refl}
use Rattle.std.proofs.Common.{ap}
use Rattle.std.proofs.lemmas.Bool.{true≢false}
use Rattle.bank.specs.declared.Envelope.{Envelope}
use Rattle.bank.specs.Meaning.{Meaning, Laws}
use Rattle.bank.specs.Channels.{Each, on_channels, lawful}
use Rattle.ring.specs.Queue.{has_room, oldest}
use Rattle.queue_bank.specs.Queues.{offer_to, take_from, collect_from, give_to}
use Rattle.queue_bank.specs.Account.{as_account, as_queues}

-- an envelope with the account that is left without it, or nothing with the account a
abbrev pub answered : Option Envelope → List ℕ → List ℕ → Option Envelope × List ℕ
answered None without a = (None, a)
answered (Some e) without a = (Some e, without)

abbrev pub queue_each : Each
queue_each = record {
  offered = λ a e. cond (has_room (as_queues a).outgoing) (true, as_account (offer_to (as_queues a) e)) (false, a);
  collected = λ a. answered (oldest (as_queues a).incoming) (as_account (collect_from (as_queues a))) a;
  taken = λ a. answered (oldest (as_queues a).outgoing) (as_account (take_from (as_queues a))) a;
  given = λ a e. as_account (give_to (as_queues a) e);
}

abbrev pub queue_meaning : Meaning
queue_meaning = on_channels queue_each

-- the law's proof stands here, since a bank can cite only what stands in specs/
refused : (b : Bool) (x a : List ℕ) → (cond {A = Bool × List ℕ} b (true, x) (false, a)).0 ≡ false → (cond {A = Bool × List ℕ} b (true, x) (false, a)).1 ≡ a
refused true x a e = absurd (true≢false e)
refused false x a e = refl

nothing : (o : Option Envelope) (x a : List ℕ) → (answered o x a).0 ≡ None → (answered o x a).1 ≡ a
nothing None x a e = refl
nothing (Some y) x a e = absurd (true≢false (ap is_some e))

pub queue_laws : Laws queue_meaning
queue_laws = lawful queue_each (λ a e. refused (has_room (as_queues a).outgoing) _ a) (λ a. nothing (oldest (as_queues a).incoming) _ a)
