-- Deliveries and faults as they are printed.
use Rattle.std.specs.Prelude.{ℕ, List, ◌++◌, codes, decimal}
use Rattle.reception.specs.Steps.{kind_number}
use Rattle.station.specs.declared.event.Delivery.{Delivery}
use Rattle.station.specs.declared.event.Fault.{Fault}
use Rattle.station.specs.Sending.{one_if}

-- three numbers with a space between
abbrev pub three_numbers : ℕ → ℕ → ℕ → List ℕ
three_numbers x y z = decimal x ++ (codes " " ++ (decimal y ++ (codes " " ++ decimal z)))

-- channel, status bit and octet
abbrev pub delivery_text : Delivery → List ℕ
delivery_text d = three_numbers d.channel (one_if d.envelope.status) d.envelope.octet

-- kind, channel and count of bits
abbrev pub fault_text : Fault → List ℕ
fault_text f = three_numbers (kind_number f.kind) f.channel f.bits
