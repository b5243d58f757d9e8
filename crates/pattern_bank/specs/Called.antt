-- A call on the row of one channel: what it answers, and the rows that it leaves.
use Rattle.std.specs.Prelude.{◌≡◌, ℕ, ◌-◌, true, false, List, Some, None, Option, slice_set}
use Rattle.std.specs.List.{slice_get}
use Rattle.std.specs.Fn.{Once, FnOnceReturnsAtMut}
use Rattle.std.specs.Borrow.{MutBor}
use Rattle.bank.specs.Meaning.{is_channel}
use Rattle.pattern_bank.specs.declared.channel.Channel.{Channel}

module _ {F R : Type 0} (g : Once F (MutBor Channel × Unit {0}) (R × (MutBor Channel × Unit {0}))) where
  -- the call at channel n found c there, and answered x
  pub record CalledAt (call : F) (n : ℕ) (cs : List Channel) (x : R) (cs' : List Channel) : Type 0 where
    pub inside : is_channel n ≡ true
    pub found : Channel
    pub left : Channel
    pub here : slice_get cs (n - 1) ≡ Some found
    pub called : FnOnceReturnsAtMut g call found x left
    pub rows : cs' ≡ slice_set cs (n - 1) left

  -- outside 1 to 80 nothing is called
  pub record Missed (n : ℕ) (cs cs' : List Channel) : Type 0 where
    pub outside : is_channel n ≡ false
    pub rows : cs' ≡ cs

  abbrev pub Called : F → ℕ → List Channel → Option R → List Channel → Type 0
  Called call n cs None cs' = Missed n cs cs'
  Called call n cs (Some x) cs' = CalledAt call n cs x cs'
