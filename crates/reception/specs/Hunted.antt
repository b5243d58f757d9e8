-- What a hunt finds: the first pattern received since it began, and no pattern that was not received.
use Rattle.std.specs.Prelude.{◌≡◌, ℕ, ◌+◌, ◌-◌, ◌*◌, ◌%◌, ◌<◌, ◌≤◌, false, List, [], ◌∷◌, ◌++◌, length, fold, slice_index}
use Rattle.frame.specs.Frames.{sent_bit}
use Rattle.reception.specs.declared.state.Hunt.{Hunt}
use Rattle.reception.specs.declared.state.Receiver.{Receiver}
use Rattle.reception.specs.declared.state.Reception.{Reception}
use Rattle.reception.specs.declared.state.Reception.TheVariants.{Hunting, Pending}
use Rattle.reception.specs.Hunts.{fresh, hunted_on}
use Rattle.reception.specs.Steps.{state_number}

-- the hunt after these bits since it began, the oldest first
abbrev pub hunt_after : List ℕ → Hunt
hunt_after bs = fold (λ h b. hunted_on h (b % 2)) fresh bs

-- the last of the bits completes the pattern: the fourteen bits 16 apart that end with it were received, and are the pattern
pub record PatternReceived (bs : List ℕ) : Type 0 where
  pub long : 209 ≤ length bs
  pub bits : (j : ℕ) → j < 14 → slice_index bs (length bs - 209 + 16 * j) % 2 ≡ sent_bit 14 0b11111001101010 j

-- with the last of the bits a hunt, which had not found the pattern before, comes to state s
pub record HuntComesTo (bs : List ℕ) (s : Reception) : Type 0 where
  pub finds : PatternReceived bs → s ≡ Pending (record { since = 0; high = false })
  pub only : state_number s ≡ 1 → PatternReceived bs
  pub goes_on : (PatternReceived bs → ⊥) → s ≡ Hunting (hunt_after bs)

-- bit b takes receiver x to y: where x is in a hunt, by all the bits that the hunt has had and this one
abbrev pub HuntsOn : Receiver → ℕ → Receiver → Type 0
HuntsOn x b y = (bs : List ℕ) → x.state ≡ Hunting (hunt_after bs) → HuntComesTo (bs ++ b ∷ []) y.state
