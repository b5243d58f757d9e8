-- What a station keeps besides its plan, its bank and its faults.
use Rattle.std.specs.Prelude.{ℕ, ◌-◌, Bool, true, false, not, List, replicate, None, slice_index_or, slice_set}
use Rattle.frame.specs.declared.mode.Mode.{Mode}
use Rattle.reception.specs.declared.state.Receiver.{Receiver}
use Rattle.reception.specs.declared.state.Reception.{Reception}
use Rattle.reception.specs.Steps.{fresh_receiver}
use Rattle.station.specs.declared.line.ChannelRecord.{ChannelRecord}
use Rattle.station.specs.declared.line.Line.{Line}

-- a channel on which nothing was sent or received: alignment bits begin with 1
abbrev pub fresh_record : ChannelRecord
fresh_record = record { sending = true; received = None }

-- at making; the first frame carries sixteen ones as check bits
abbrev pub fresh_line : Mode → ℕ → Reception → Line
fresh_line mode number state = record { mode = mode; number = number; check = 65535; records = replicate 80 fresh_record; receiver = fresh_receiver state }

-- entry i of the records is that of channel i + 1
abbrev pub entry : List ChannelRecord → ℕ → ChannelRecord
entry rs i = slice_index_or rs i (record { sending = false; received = None })

-- the alignment bit of the next envelope of channel c
abbrev pub next_bit : List ChannelRecord → ℕ → Bool
next_bit rs c = (entry rs (c - 1)).sending

abbrev pub with_records : List ChannelRecord → Line → Line
with_records rs l = record { mode = l.mode; number = l.number; check = l.check; records = rs; receiver = l.receiver }

abbrev pub with_check : ℕ → Line → Line
with_check n l = record { mode = l.mode; number = l.number; check = n; records = l.records; receiver = l.receiver }

abbrev pub with_receiver : Receiver → Line → Line
with_receiver x l = record { mode = l.mode; number = l.number; check = l.check; records = l.records; receiver = x }

-- the bit of the next envelope to send is inverted
abbrev pub alternated_record : ChannelRecord → ChannelRecord
alternated_record r = record { sending = not r.sending; received = r.received }

abbrev pub alternated_line : Line → ℕ → Line
alternated_line l c = with_records (slice_set l.records (c - 1) (alternated_record (entry l.records (c - 1)))) l
