-- What a bit received concludes.
use Rattle.std.specs.Prelude.{ℕ, Some, None}
use Rattle.reception.specs.Steps.{kind_number}
use Rattle.station.specs.declared.event.Event.{Event}
use Rattle.station.specs.declared.event.Fault.{Fault}

-- the code of 16 bits that a fault record tells is its kind
abbrev pub fault_code : Fault → ℕ
fault_code f = kind_number f.kind

abbrev pub no_event : Event
no_event = record { given = None; fault = None; taken = None }

abbrev pub fault_event : Fault → Event
fault_event f = record { given = None; fault = Some f; taken = None }
