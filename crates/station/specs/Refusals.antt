-- The numbers of refusals, and how they are printed.
use Rattle.std.specs.Prelude.{ℕ, List, ◌++◌, codes, decimal}
use Rattle.station.specs.declared.refusal.ReceiveRefusal.{ReceiveRefusal}
use Rattle.station.specs.declared.refusal.ReceiveRefusal.TheVariants.{TooLong, NotABit}
use Rattle.station.specs.declared.refusal.SendRefusal.{SendRefusal}
use Rattle.station.specs.declared.refusal.SendRefusal.TheVariants.{Justification, Buffer}

abbrev pub send_number : SendRefusal → ℕ
send_number Justification = 16
send_number Buffer = 18

abbrev pub receive_number : ReceiveRefusal → ℕ
receive_number TooLong = 20
receive_number NotABit = 19

-- a refusal of that number, as it is printed
abbrev pub refused : ℕ → List ℕ
refused n = codes "refused " ++ decimal n
