-- A station in step with a sender: what it makes of clean frames, however many.
use Rattle.std.specs.Prelude.{◌≡◌, ℕ, ◌-◌, ◌<◌, ◌≤◌, Bool, true, not, List, length, IfSome, Some, None, Option}
use Rattle.std.specs.List.{AllByRecursion}
use Rattle.bank.specs.Meaning.{Meaning}
use Rattle.frame.specs.declared.mode.Justification.{Justification}
use Rattle.frame.specs.declared.mode.Mode.{Mode}
use Rattle.reception.specs.declared.receiver.FaultKind.{FaultKind}
use Rattle.reception.specs.declared.receiver.FaultKind.TheVariants.{Lost, Regained, Check, EnvelopeAlignment, Words, AlarmBegun, AlarmEnded}
use Rattle.reception.specs.declared.state.Reception.{Reception}
use Rattle.reception.specs.declared.state.Reception.TheVariants.{Aligned}
use Rattle.reception.specs.Checks.{checking}
use Rattle.reception.specs.Progresses.{from}
use Rattle.reception.specs.Steps.{placed_state}
use Rattle.station.specs.declared.line.Line.{Line}
use Rattle.station.specs.Lines.{entry, fresh_line, next_bit}
use Rattle.station.specs.Receiving.{faults_in, given, line_after}
use Rattle.station.specs.Sending.{Owners}
use Rattle.bearer.specs.Sent.{Allows, Sender, after_frames, bits_sent, envelopes_sent}

-- the owner of each slot is a channel
abbrev pub Channels : Owners → Type 0
Channels owner = (k : ℕ) → IfSome (owner k) (λ c. (0 < c) × (c ≤ 80))

-- aligned before the first bit of a frame; what is expected of its check, if anything, is that
pub record Between (check : ℕ) (s : Reception) : Type 0 where
  pub expected : Option ℕ
  pub wrong : ℕ
  pub is : s ≡ Aligned (from 0 (checking true expected)) wrong
  pub known : IfSome expected (λ e. e ≡ check)

-- the bit last received, if any, is not the next
abbrev pub Alternates : Bool → Option Bool → Type 0
Alternates next None = Unit {0}
Alternates next (Some last) = last ≡ not next

-- the line of a sender, and the line of a receiver of its frames
pub record InStep (s r : Line) : Type 0 where
  pub mode : r.mode ≡ s.mode
  pub check : s.check < 65536
  pub state : Between s.check r.receiver.state
  pub sends : length s.records ≡ 80
  pub receives : length r.records ≡ 80
  pub bits : (c : ℕ) → 0 < c → c ≤ 80 → Alternates (next_bit s.records c) (entry r.records (c - 1)).received

-- a fault of kinds 6 and 7, which tell what the sender itself tells
abbrev pub IsAlarm : FaultKind → Type 0
IsAlarm Lost = ⊥
IsAlarm Regained = ⊥
IsAlarm Check = ⊥
IsAlarm EnvelopeAlignment = ⊥
IsAlarm Words = ⊥
IsAlarm AlarmBegun = Unit {0}
IsAlarm AlarmEnded = Unit {0}

-- what a line r in step with a sender makes of frames with these justifications: it stays in step, so it is aligned, records no fault
-- of kinds 1 to 5, and gives every envelope as it was sent
pub record Receives (m : Meaning) (owner : Owners) (s : Sender) (r : Line) (js : List Justification) : Type 0 where
  pub in_step : InStep (after_frames m owner s js).line (line_after owner r (bits_sent m owner s js))
  pub faults : AllByRecursion (λ f. IsAlarm f.kind) (faults_in owner r (bits_sent m owner s js))
  pub given : given owner r (bits_sent m owner s js) ≡ envelopes_sent m owner s js

-- two placed stations just made are in step, each way; and a line in step stays so over any number of frames
pub record StaysInStep : Type 0 where
  pub begins : (mode : Mode) (n k : ℕ) → InStep (fresh_line mode n placed_state) (fresh_line mode k placed_state)
  pub goes_on : (m : Meaning) (owner : Owners) → Channels owner → (s : Sender) (r : Line) (js : List Justification) → AllByRecursion (Allows s.line.mode) js → InStep s.line r → Receives m owner s r js
