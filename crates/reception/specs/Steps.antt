-- What a bit received does to the receiver, and what it shows: by the state and the bit's role together.
use Rattle.std.specs.Prelude.{ℕ, ◌+◌, ◌-◌, ◌%◌, ◌^◌, min, Bool, true, false, cond, Some, None, Option, ◌==◌, nat_lt}
use Rattle.frame.specs.declared.mode.Mode.{Mode}
use Rattle.frame.specs.declared.place.Role.{Role}
use Rattle.frame.specs.declared.place.Role.TheVariants.{Padding, Payload, Added}
use Rattle.frame.specs.Paddings.{padding}
use Rattle.frame.specs.Places.{role}
use Rattle.reception.specs.declared.progress.Heard.{Heard}
use Rattle.reception.specs.declared.progress.Heard.TheVariants as heard
use Rattle.reception.specs.declared.receiver.Conclusion.{Conclusion}
use Rattle.reception.specs.declared.receiver.Conclusion.TheVariants.{Word, Fault, Justification}
use Rattle.reception.specs.declared.receiver.FaultKind.{FaultKind}
use Rattle.reception.specs.declared.receiver.FaultKind.TheVariants.{Lost, Regained, Check, EnvelopeAlignment, Words, AlarmBegun, AlarmEnded}
use Rattle.reception.specs.declared.state.Hunt.{Hunt}
use Rattle.reception.specs.declared.state.Progress.{Progress}
use Rattle.reception.specs.declared.state.Receiver.{Receiver}
use Rattle.reception.specs.declared.state.Reception.{Reception}
use Rattle.reception.specs.declared.state.Reception.TheVariants.{Hunting, Pending, Proving, Aligned}
use Rattle.reception.specs.declared.state.Wait.{Wait}
use Rattle.reception.specs.Hunts.{found, fresh, hunted_on, subframe_after, waited_on}
use Rattle.reception.specs.Progresses.{filled, heard_in, joined, moved_on, padded, placed, word_in}

abbrev pub kind_number : FaultKind → ℕ
kind_number Lost = 1
kind_number Regained = 2
kind_number Check = 3
kind_number EnvelopeAlignment = 4
kind_number Words = 5
kind_number AlarmBegun = 6
kind_number AlarmEnded = 7

abbrev pub state_number : Reception → ℕ
state_number (Hunting h) = 0
state_number (Pending w) = 1
state_number (Proving p) = 2
state_number (Aligned p n) = 3

abbrev pub is_blocked : Reception → Bool
is_blocked (Hunting h) = true
is_blocked (Pending w) = true
is_blocked (Proving p) = false
is_blocked (Aligned p n) = false

-- wrong patterns in a row; outside aligned there are none
abbrev pub wrong_in : Reception → ℕ
wrong_in (Hunting h) = 0
wrong_in (Pending w) = 0
wrong_in (Proving p) = 0
wrong_in (Aligned p n) = n

-- the place of the next bit, where it is known
abbrev pub place_in : Reception → ℕ
place_in (Hunting h) = 0
place_in (Pending w) = 0
place_in (Proving p) = p.place
place_in (Aligned p n) = p.place

-- aligned, before the first bit of a frame
abbrev pub placed_state : Reception
placed_state = Aligned placed 0

-- before the first bit of a hunt
abbrev pub hunting_state : Reception
hunting_state = Hunting fresh

-- at making the far alarm bit last received counts as 1
abbrev pub fresh_receiver : Reception → Receiver
fresh_receiver s = record { state = s; alarm = true; errored = 0; bits = 0 }

abbrev pub with_state : Reception → Receiver → Receiver
with_state s x = record { state = s; alarm = x.alarm; errored = x.errored; bits = x.bits }

-- with one bit more counted
abbrev pub counted : Receiver → Receiver
counted x = record { state = x.state; alarm = x.alarm; errored = x.errored; bits = min (x.bits + 1) (2 ^ 64 - 1) }

-- alignment is lost, and a hunt begins
abbrev pub lost : Receiver → Receiver
lost x = with_state hunting_state x

-- what padding leaves of the far alarm and the errored frames
abbrev pub heard_by : Receiver → Heard → ℕ → Receiver
heard_by x heard.Alarm b = record { state = x.state; alarm = (b == 1); errored = x.errored; bits = x.bits }
heard_by x heard.RightPattern b = x
heard_by x heard.WrongPattern b = x
heard_by x heard.WrongCheck b = record { state = x.state; alarm = x.alarm; errored = min (x.errored + 1) 65535; bits = x.bits }
heard_by x (heard.Words told) b = x

-- the far alarm, where the last bit was a
abbrev pub alarm_fault : Bool → Bool → Option Conclusion
alarm_fault true true = None
alarm_fault true false = Some (Fault AlarmBegun)
alarm_fault false true = Some (Fault AlarmEnded)
alarm_fault false false = None

abbrev pub concluded : Receiver → Heard → ℕ → Option Conclusion
concluded x heard.Alarm b = alarm_fault x.alarm (b == 1)
concluded x heard.RightPattern b = None
concluded x heard.WrongPattern b = None
concluded x heard.WrongCheck b = Some (Fault Check)
concluded x (heard.Words told) b = Some (Justification told)

abbrev pub word_told : ℕ → Option ℕ → Option Conclusion
word_told k None = None
word_told k (Some w) = Some (Word k w)

-- hunting: the first phase that equals the pattern wins
abbrev pub hunted_state : Hunt → ℕ → Reception
hunted_state h b = cond (found h b) (Pending (record { since = 0; high = false })) (Hunting (hunted_on h b))

-- pending: once the subframe is named, proving begins
abbrev pub named_state : Wait → Option ℕ → Reception
named_state w None = Pending w
named_state w (Some k) = Proving (joined k)

abbrev pub named_fault : Option ℕ → Option Conclusion
named_fault None = None
named_fault (Some k) = Some (Fault Regained)

-- proving: a right pattern leads to aligned, a wrong one loses alignment
abbrev pub proved_by : Option Heard → Progress → Receiver → ℕ → Receiver
proved_by None q x b = with_state (Proving q) x
proved_by (Some heard.Alarm) q x b = heard_by (with_state (Proving q) x) heard.Alarm b
proved_by (Some heard.RightPattern) q x b = with_state (Aligned q 0) x
proved_by (Some heard.WrongPattern) q x b = lost x
proved_by (Some heard.WrongCheck) q x b = heard_by (with_state (Proving q) x) heard.WrongCheck b
proved_by (Some (heard.Words told)) q x b = heard_by (with_state (Proving q) x) (heard.Words told) b

abbrev pub proved_fault : Option Heard → Receiver → ℕ → Option Conclusion
proved_fault None x b = None
proved_fault (Some heard.Alarm) x b = concluded x heard.Alarm b
proved_fault (Some heard.RightPattern) x b = None
proved_fault (Some heard.WrongPattern) x b = Some (Fault Lost)
proved_fault (Some heard.WrongCheck) x b = concluded x heard.WrongCheck b
proved_fault (Some (heard.Words told)) x b = concluded x (heard.Words told) b

-- aligned: a right pattern clears the count of n wrong ones, the third wrong one in a row loses alignment
abbrev pub aligned_by : Option Heard → Progress → ℕ → Receiver → ℕ → Receiver
aligned_by None q n x b = with_state (Aligned q n) x
aligned_by (Some heard.Alarm) q n x b = heard_by (with_state (Aligned q n) x) heard.Alarm b
aligned_by (Some heard.RightPattern) q n x b = with_state (Aligned q 0) x
aligned_by (Some heard.WrongPattern) q n x b = cond (nat_lt n 2) (with_state (Aligned q (n + 1)) x) (lost x)
aligned_by (Some heard.WrongCheck) q n x b = heard_by (with_state (Aligned q n) x) heard.WrongCheck b
aligned_by (Some (heard.Words told)) q n x b = heard_by (with_state (Aligned q n) x) (heard.Words told) b

abbrev pub aligned_fault : Option Heard → ℕ → Receiver → ℕ → Option Conclusion
aligned_fault None n x b = None
aligned_fault (Some heard.Alarm) n x b = concluded x heard.Alarm b
aligned_fault (Some heard.RightPattern) n x b = None
aligned_fault (Some heard.WrongPattern) n x b = cond (nat_lt n 2) None (Some (Fault Lost))
aligned_fault (Some heard.WrongCheck) n x b = concluded x heard.WrongCheck b
aligned_fault (Some (heard.Words told)) n x b = concluded x (heard.Words told) b

abbrev pub proving_at : Mode → Role → Progress → Receiver → ℕ → Receiver
proving_at mode (Padding s i) p x b = proved_by (heard_in p s (padding mode s i) b) (padded mode p s (padding mode s i) b) x b
proving_at mode (Payload k j) p x b = with_state (Proving (filled mode p j b)) x
proving_at mode Added p x b = with_state (Proving (moved_on mode p b)) x

abbrev pub proving_shows : Mode → Role → Progress → Receiver → ℕ → Option Conclusion
proving_shows mode (Padding s i) p x b = proved_fault (heard_in p s (padding mode s i) b) x b
proving_shows mode (Payload k j) p x b = word_told k (word_in p j b)
proving_shows mode Added p x b = None

abbrev pub aligned_at : Mode → Role → Progress → ℕ → Receiver → ℕ → Receiver
aligned_at mode (Padding s i) p n x b = aligned_by (heard_in p s (padding mode s i) b) (padded mode p s (padding mode s i) b) n x b
aligned_at mode (Payload k j) p n x b = with_state (Aligned (filled mode p j b) n) x
aligned_at mode Added p n x b = with_state (Aligned (moved_on mode p b) n) x

abbrev pub aligned_shows : Mode → Role → Progress → ℕ → Receiver → ℕ → Option Conclusion
aligned_shows mode (Padding s i) p n x b = aligned_fault (heard_in p s (padding mode s i) b) n x b
aligned_shows mode (Payload k j) p n x b = word_told k (word_in p j b)
aligned_shows mode Added p n x b = None

abbrev pub step_in : Mode → Reception → Receiver → ℕ → Receiver
step_in mode (Hunting h) x b = with_state (hunted_state h b) x
step_in mode (Pending w) x b = with_state (named_state (waited_on w b) (subframe_after w b)) x
step_in mode (Proving p) x b = proving_at mode (role p.place) p x b
step_in mode (Aligned p n) x b = aligned_at mode (role p.place) p n x b

abbrev pub shows_in : Mode → Reception → Receiver → ℕ → Option Conclusion
shows_in mode (Hunting h) x b = None
shows_in mode (Pending w) x b = named_fault (subframe_after w b)
shows_in mode (Proving p) x b = proving_shows mode (role p.place) p x b
shows_in mode (Aligned p n) x b = aligned_shows mode (role p.place) p n x b

-- the receiver after a bit
unfoldable pub stepped : Mode → Receiver → ℕ → Receiver
stepped mode x b = step_in mode x.state (counted x) (b % 2)

-- what the bit shows
unfoldable pub conclusion : Mode → Receiver → ℕ → Option Conclusion
conclusion mode x b = shows_in mode x.state x (b % 2)
