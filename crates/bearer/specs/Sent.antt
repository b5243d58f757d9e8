-- What a station sends over frames one after another: the bits, and the envelopes in the order of their slots.
use Rattle.std.specs.Prelude.{ℕ, ◌%◌, List, [], ◌∷◌, ◌++◌, Some, None, Ok, Option}
use Rattle.std.specs.List.{range_with_len}
use Rattle.std.specs.Option.{option_to_list}
use Rattle.bank.specs.declared.Envelope.{Envelope}
use Rattle.bank.specs.Meaning.{Accounts, Meaning}
use Rattle.frame.specs.declared.mode.Justification.{Justification}
use Rattle.frame.specs.declared.mode.Justification.TheVariants.{Deleted, Unchanged, Added}
use Rattle.frame.specs.declared.mode.Mode.{Mode}
use Rattle.frame.specs.declared.mode.Mode.TheVariants.{Synchronous, Justified}
use Rattle.station.specs.declared.event.Delivery.{Delivery}
use Rattle.station.specs.declared.line.Line.{Line}
use Rattle.station.specs.Frames.{sent_accounts, sent_frame, sent_line}
use Rattle.station.specs.Sending.{Owners, or_filler, taken_for}

-- a frame carries eight bits of an octet; no bank of bytes answers more
abbrev pub carried : Envelope → Envelope
carried e = record { status = e.status; octet = e.octet % 256 }

-- the parts that some of a list have, in order
unfoldable pub gathered : {A : Type 0} → (ℕ → Option A) → List ℕ → List A
gathered g [] = []
gathered g (k ∷ ks) = option_to_list (g k) ++ gathered g ks

abbrev pub sent_by : Meaning → Accounts → Option ℕ → Option Delivery
sent_by m f None = None
sent_by m f (Some c) = Some (record { channel = c; envelope = carried (or_filler (m.taken c (f c)).0) })

-- the frames that a mode has
abbrev pub Allows : Mode → Justification → Type 0
Allows Synchronous Deleted = ⊥
Allows Synchronous Unchanged = Unit {0}
Allows Synchronous Added = ⊥
Allows Justified j = Unit {0}

-- what a sender stands on: the accounts of its bank, and its line
pub record Sender : Type 0 where
  pub accounts : Accounts
  pub line : Line

module _ (m : Meaning) (owner : Owners) where
  -- the envelope of slot k, which its owner's take answers, or else the filler
  abbrev pub sent_at : Accounts → ℕ → Option Delivery
  sent_at f k = sent_by m (taken_for m owner f k) (owner k)

  -- the envelopes of a frame
  abbrev pub sent_slots : Accounts → List Delivery
  sent_slots f = gathered (sent_at f) (range_with_len 0 240)

  abbrev pub after_frame : Sender → Justification → Sender
  after_frame s j = record { accounts = sent_accounts m owner s.accounts s.line (Ok j); line = sent_line m owner s.accounts s.line (Ok j) }

  -- over frames with these justifications
  unfoldable pub bits_sent : Sender → List Justification → List ℕ
  bits_sent s [] = []
  bits_sent s (j ∷ js) = sent_frame m owner s.accounts s.line j ++ bits_sent (after_frame s j) js

  unfoldable pub envelopes_sent : Sender → List Justification → List Delivery
  envelopes_sent s [] = []
  envelopes_sent s (j ∷ js) = sent_slots s.accounts ++ envelopes_sent (after_frame s j) js

  unfoldable pub after_frames : Sender → List Justification → Sender
  after_frames s [] = s
  after_frames s (j ∷ js) = after_frames (after_frame s j) js
