-- A run of bits received: what it concludes, one event a bit, and what these events leave.
use Rattle.std.specs.Prelude.{ℕ, Bool, true, cond, ◌&&◌, List, [], ◌∷◌, ◌++◌, length, Some, None, Ok, Err, fold, Option, Result, nat_lt}
use Rattle.std.specs.Option.{option_to_list}
use Rattle.bank.specs.Meaning.{Accounts, Meaning}
use Rattle.station.specs.declared.event.Delivery.{Delivery}
use Rattle.station.specs.declared.event.Event.{Event}
use Rattle.station.specs.declared.event.Fault.{Fault}
use Rattle.station.specs.declared.line.Line.{Line}
use Rattle.station.specs.declared.refusal.ReceiveRefusal.{ReceiveRefusal}
use Rattle.station.specs.declared.refusal.ReceiveRefusal.TheVariants.{TooLong, NotABit}
use Rattle.station.specs.Faults.{Told, noted}
use Rattle.station.specs.Hearing.{event, given_to, stepped_line}
use Rattle.station.specs.Sending.{Owners}

abbrev pub only_bits : List ℕ → Bool
only_bits [] = true
only_bits (b ∷ bs) = nat_lt b 2 && only_bits bs

-- why a run is not received
abbrev pub refused_run : List ℕ → Option ReceiveRefusal
refused_run bs = cond (nat_lt 65536 (length bs)) (Some TooLong) (cond (only_bits bs) None (Some NotABit))

-- a run is received where there is no reason against it
abbrev pub accepted : Option ReceiveRefusal → Result Unit ReceiveRefusal
accepted None = Ok tt
accepted (Some e) = Err e

-- the parts of some kind that events have, in order
unfoldable pub parts : {A : Type 0} → (Event → Option A) → List Event → List A
parts of [] = []
parts of (e ∷ es) = option_to_list (of e) ++ parts of es

module _ (owner : Owners) where
  unfoldable pub line_after : Line → List ℕ → Line
  line_after l [] = l
  line_after l (b ∷ bs) = line_after (stepped_line owner l b) bs

  -- what each bit concludes
  unfoldable pub events : Line → List ℕ → List Event
  events l [] = []
  events l (b ∷ bs) = event owner l b ∷ events (stepped_line owner l b) bs

  -- the envelopes given, in order
  abbrev pub given : Line → List ℕ → List Delivery
  given l bs = parts (λ e. e.given) (events l bs)

  -- the faults recorded, in order
  abbrev pub faults_in : Line → List ℕ → List Fault
  faults_in l bs = parts (λ e. e.fault) (events l bs)

-- the accounts, once these were given in order
abbrev pub give_all : Meaning → Accounts → List Delivery → Accounts
give_all m f ds = fold (given_to m) f ds

-- the faults that wait, once these were recorded in order
abbrev pub note_all : Told → List Fault → Told
note_all t fs = fold noted t fs

-- a call of receive
module _ (owner : Owners) where
  abbrev pub received_answer : Option ReceiveRefusal → Line → List ℕ → Result (ℕ × ℕ) ReceiveRefusal
  received_answer (Some e) l bs = Err e
  received_answer None l bs = Ok (length bs, length (given owner l bs))

  abbrev pub received_line : Option ReceiveRefusal → Line → List ℕ → Line
  received_line (Some e) l bs = l
  received_line None l bs = line_after owner l bs

  abbrev pub received_accounts : Option ReceiveRefusal → Line → List ℕ → Meaning → Accounts → Accounts
  received_accounts (Some e) l bs m f = f
  received_accounts None l bs m f = give_all m f (given owner l bs)

  abbrev pub received_faults : Option ReceiveRefusal → Line → List ℕ → Told → Told
  received_faults (Some e) l bs t = t
  received_faults None l bs t = note_all t (faults_in owner l bs)
