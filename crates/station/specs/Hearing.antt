-- A bit received by a station: what it concludes, and what it leaves.
use Rattle.std.specs.Prelude.{ℕ, ◌-◌, ◌/◌, ◌%◌, Bool, true, false, cond, List, map, Some, None, Option, ◌==◌, slice_set}
use Rattle.bank.specs.declared.Envelope.{Envelope}
use Rattle.bank.specs.Meaning.{Accounts, Meaning, after_give}
use Rattle.frame.specs.declared.mode.Justification.TheVariants.{Unchanged}
use Rattle.reception.specs.declared.receiver.Conclusion.{Conclusion}
use Rattle.reception.specs.declared.receiver.Conclusion.TheVariants.{Word, Fault, Justification}
use Rattle.reception.specs.declared.receiver.FaultKind.{FaultKind}
use Rattle.reception.specs.declared.receiver.FaultKind.TheVariants.{Lost, Regained, Check, EnvelopeAlignment, Words, AlarmBegun, AlarmEnded}
use Rattle.reception.specs.Steps.{conclusion, stepped}
use Rattle.station.specs.declared.event.Delivery.{Delivery}
use Rattle.station.specs.declared.event.Event.{Event}
use Rattle.station.specs.declared.event.Fault.{Fault as Recorded}
use Rattle.station.specs.declared.line.ChannelRecord.{ChannelRecord}
use Rattle.station.specs.declared.line.Line.{Line}
use Rattle.station.specs.declared.slot.Slot.{Slot}
use Rattle.station.specs.Events.{fault_event, no_event}
use Rattle.station.specs.Faults.{Told, noted}
use Rattle.station.specs.Lines.{entry, with_receiver, with_records}
use Rattle.station.specs.Sending.{Owners}

-- the ten bits of a slot: status, envelope alignment, octet
abbrev pub envelope_in : ℕ → Envelope
envelope_in w = record { status = (w / 512 % 2 == 1); octet = w % 256 }

abbrev pub alignment_in : ℕ → Bool
alignment_in w = w / 256 % 2 == 1

abbrev pub slot_in : ℕ → Slot
slot_in w = record { envelope = envelope_in w; align = alignment_in w }

abbrev pub same : Bool → Bool → Bool
same true b = b
same false b = cond b false true

-- whether an alignment bit is the one last received; the first after making or regaining is not compared
abbrev pub repeated : Option Bool → Bool → Bool
repeated None a = false
repeated (Some last) a = same last a

abbrev pub with_received : Bool → ChannelRecord → ChannelRecord
with_received a r = record { sending = r.sending; received = Some a }

abbrev pub was_repeated : List ChannelRecord → ℕ → Bool → Bool
was_repeated rs c a = repeated (entry rs (c - 1)).received a

-- channel c has received the alignment bit a
abbrev pub received_on : List ChannelRecord → ℕ → Bool → List ChannelRecord
received_on rs c a = slice_set rs (c - 1) (with_received a (entry rs (c - 1)))

abbrev pub without_received : ChannelRecord → ChannelRecord
without_received r = record { sending = r.sending; received = None }

-- the alignment bits last received are forgotten
abbrev pub forgotten : List ChannelRecord → List ChannelRecord
forgotten rs = map without_received rs

-- a fault at the last bit that the line has received
abbrev pub fault_at : Line → FaultKind → ℕ → Recorded
fault_at l kind c = record { kind = kind; channel = c; bits = l.receiver.bits }

abbrev pub fault_if : Bool → Recorded → Option Recorded
fault_if b f = cond b (Some f) None

-- the word w of a slot with that owner: its envelope is given, also where its alignment bit is wrong
abbrev pub slot_event : Option ℕ → Line → ℕ → Event
slot_event None l w = no_event
slot_event (Some c) l w = record {
  given = Some (record { channel = c; envelope = envelope_in w });
  fault = fault_if (was_repeated l.records c (alignment_in w)) (fault_at l EnvelopeAlignment c);
  taken = None;
}

abbrev pub slot_line : Option ℕ → Line → ℕ → Line
slot_line None l w = l
slot_line (Some c) l w = with_records (received_on l.records c (alignment_in w)) l

-- proving begins with no alignment bit received
abbrev pub records_past : FaultKind → List ChannelRecord → List ChannelRecord
records_past Lost rs = rs
records_past Regained rs = forgotten rs
records_past Check rs = rs
records_past EnvelopeAlignment rs = rs
records_past Words rs = rs
records_past AlarmBegun rs = rs
records_past AlarmEnded rs = rs

module _ (owner : Owners) where
  -- words that dispute the justification are a fault, and the frame is taken to be unchanged
  abbrev pub concluded_event : Line → Option Conclusion → Event
  concluded_event l None = no_event
  concluded_event l (Some (Word k w)) = slot_event (owner k) l w
  concluded_event l (Some (Fault kind)) = fault_event (fault_at l kind 0)
  concluded_event l (Some (Justification (Some j))) = record { given = None; fault = None; taken = Some j }
  concluded_event l (Some (Justification None)) = record { given = None; fault = Some (fault_at l Words 0); taken = Some Unchanged }

  abbrev pub concluded_line : Line → Option Conclusion → Line
  concluded_line l None = l
  concluded_line l (Some (Word k w)) = slot_line (owner k) l w
  concluded_line l (Some (Fault kind)) = with_records (records_past kind l.records) l
  concluded_line l (Some (Justification told)) = l

  -- the line with a bit more received
  abbrev pub heard_line : Line → ℕ → Line
  heard_line l b = with_receiver (stepped l.mode l.receiver b) l

  -- what a bit concludes
  unfoldable pub event : Line → ℕ → Event
  event l b = concluded_event (heard_line l b) (conclusion l.mode l.receiver b)

  -- the line after it
  unfoldable pub stepped_line : Line → ℕ → Line
  stepped_line l b = concluded_line (heard_line l b) (conclusion l.mode l.receiver b)

-- the accounts, where this was given
abbrev pub given_to : Meaning → Accounts → Delivery → Accounts
given_to m f d = after_give m d.channel d.envelope f

abbrev pub given_if : Meaning → Option Delivery → Accounts → Accounts
given_if m None f = f
given_if m (Some d) f = given_to m f d

abbrev pub noted_if : Option Recorded → Told → Told
noted_if None t = t
noted_if (Some f) t = noted t f
