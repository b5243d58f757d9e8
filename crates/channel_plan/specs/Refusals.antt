-- The numbers of refusals.
use Rattle.std.specs.Prelude.{ℕ}
use Rattle.channel_plan.specs.declared.refusal.RowRefusal.{RowRefusal}
use Rattle.channel_plan.specs.declared.refusal.RowRefusal.TheVariants.{NoChannel, UnknownRate, FirstSlot, ChannelPresent, GroupRate, SlotTaken}
use Rattle.channel_plan.specs.declared.refusal.Reason.{Reason}
use Rattle.channel_plan.specs.declared.refusal.Reason.TheVariants.{TooLong, NotEnded, Names, Fields, Number, Row}

abbrev pub row_number : RowRefusal → ℕ
row_number NoChannel = 1
row_number UnknownRate = 2
row_number FirstSlot = 3
row_number ChannelPresent = 4
row_number GroupRate = 5
row_number SlotTaken = 6

abbrev pub file_number : Reason → ℕ
file_number TooLong = 7
file_number NotEnded = 11
file_number Names = 8
file_number Fields = 9
file_number Number = 10
file_number (Row e) = row_number e
