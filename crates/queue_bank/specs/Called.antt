-- A call on one channel over the bank's memory: what it answers, and what it leaves of the channels and the memory.
use Rattle.std.specs.Prelude.{◌≡◌, ℕ, ◌-◌, true, false, List, Some, None, Option, slice_set}
use Rattle.std.specs.List.{slice_get}
use Rattle.std.specs.Fn.{Once}
use Rattle.std.specs.Borrow.{MutBor}
use Rattle.bank.specs.declared.Envelope.{Envelope}
use Rattle.bank.specs.Meaning.{is_channel}
use Rattle.queue_bank.specs.declared.channel.Channel.{Channel}

-- the channel n of these, and nothing outside 1 to 80
pub record FoundAt (n : ℕ) (cs : List Channel) (c : Channel) : Type 0 where
  pub inside : is_channel n ≡ true
  pub here : slice_get cs (n - 1) ≡ Some c

abbrev pub Found : ℕ → List Channel → Option Channel → Type 0
Found n cs None = is_channel n ≡ false
Found n cs (Some c) = FoundAt n cs c

module _ {F R : Type 0} (g : Once F (MutBor Channel × (MutBor (List Envelope) × Unit {0})) (R × (MutBor Channel × (MutBor (List Envelope) × Unit {0})))) where
  -- on the channel c and the memory m the call may answer x, and leave c' and m'
  pub record Answers (call : F) (c : Channel) (m : List Envelope) (x : R) (c' : Channel) (m' : List Envelope) : Type 0 where
    pub channel : MutBor Channel
    pub memory : MutBor (List Envelope)
    pub channel_after : MutBor Channel
    pub memory_after : MutBor (List Envelope)
    pub shows : (channel.now ≡ c) × (memory.now ≡ m)
    pub met : g.post call (channel, (memory, tt)) (x, (channel_after, (memory_after, tt)))
    pub leaves : (channel_after.now ≡ c') × (memory_after.now ≡ m')

  -- the call leaves the channel where it lies
  abbrev pub StaysPut : F → Type 0
  StaysPut call = (c : Channel) (m : List Envelope) (x : R) (c' : Channel) (m' : List Envelope) → Answers call c m x c' m' → c'.outgoing.base ≡ c.outgoing.base

  pub record CalledAt (call : F) (n : ℕ) (cs : List Channel) (m : List Envelope) (x : R) (cs' : List Channel) (m' : List Envelope) : Type 0 where
    pub found : Channel
    pub left : Channel
    pub at : FoundAt n cs found
    pub called : Answers call found m x left m'
    pub rows : cs' ≡ slice_set cs (n - 1) left

  -- outside 1 to 80 nothing is called
  pub record Missed (n : ℕ) (cs : List Channel) (m : List Envelope) (cs' : List Channel) (m' : List Envelope) : Type 0 where
    pub outside : is_channel n ≡ false
    pub rows : cs' ≡ cs
    pub memory : m' ≡ m

  abbrev pub Called : F → ℕ → List Channel → List Envelope → Option R → List Channel → List Envelope → Type 0
  Called call n cs m None cs' m' = Missed n cs m cs' m'
  Called call n cs m (Some x) cs' m' = CalledAt call n cs m x cs' m'
