-- What a station sends: the words of the slots, from the takes of its bank and its channel records.
use Rattle.std.specs.Prelude.{ℕ, zero, suc, ◌+◌, ◌*◌, ◌%◌, ◌<◌, Bool, false, cond, not, List, [], ◌∷◌, map, IfSome, Some, None, Option, ◌==◌}
use Rattle.std.specs.List.{range_with_len}
use Rattle.bank.specs.declared.Envelope.{Envelope}
use Rattle.bank.specs.Meaning.{Accounts, Meaning, after_take}
use Rattle.channel_plan.specs.Rows.{count_below}
use Rattle.frame.specs.declared.content.Content.{Content}
use Rattle.frame.specs.declared.mode.Justification.{Justification}
use Rattle.station.specs.declared.line.ChannelRecord.{ChannelRecord}
use Rattle.station.specs.declared.line.Line.{Line}
use Rattle.reception.specs.Steps.{is_blocked}
use Rattle.station.specs.Lines.{alternated_line, next_bit}

-- who owns each slot
abbrev pub Owners : Type 0
Owners = ℕ → Option ℕ

abbrev pub is_owner : Option ℕ → ℕ → Bool
is_owner None c = false
is_owner (Some d) c = d == c

-- how many of the slots below k channel c owns
unfoldable pub before : Owners → ℕ → ℕ → ℕ
before owner c k = count_below (λ s. is_owner (owner s) c) k

-- the account of channel c after n takes
unfoldable pub after_takes : Meaning → ℕ → List ℕ → ℕ → List ℕ
after_takes m c a zero = a
after_takes m c a (suc n) = (m.taken c (after_takes m c a n)).1

-- a bit after n alternations
unfoldable pub alternated : Bool → ℕ → Bool
alternated b zero = b
alternated b (suc n) = not (alternated b n)

-- what is sent where take answers nothing
abbrev pub filler : Envelope
filler = record { status = false; octet = 255 }

abbrev pub or_filler : Option Envelope → Envelope
or_filler None = filler
or_filler (Some e) = e

abbrev pub one_if : Bool → ℕ
one_if b = cond b 1 0

-- the ten bits of a slot: status, envelope alignment, and the eight of the octet
abbrev pub word : Envelope → Bool → ℕ
word e align = 512 * one_if e.status + 256 * one_if align + e.octet % 256

-- the accounts once the slots below k were taken for
unfoldable pub taken_for : Meaning → Owners → Accounts → ℕ → Accounts
taken_for m owner f k c = after_takes m c (f c) (before owner c k)

-- the channel records then: each has alternated once for each slot; the first is that of channel c
unfoldable pub records_from : Owners → ℕ → ℕ → List ChannelRecord → List ChannelRecord
records_from owner k c [] = []
records_from owner k c (r ∷ rs) = record { sending = alternated r.sending (before owner c k); received = r.received } ∷ records_from owner k (suc c) rs

abbrev pub records_for : Owners → List ChannelRecord → ℕ → List ChannelRecord
records_for owner rs k = records_from owner k 1 rs

-- the word of a slot of that owner, from the accounts and records before it
abbrev pub slot_word : Meaning → Accounts → List ChannelRecord → Option ℕ → ℕ
slot_word m f rs None = 1023
slot_word m f rs (Some c) = word (or_filler (m.taken c (f c)).0) (next_bit rs c)

-- what is sent for a slot of that owner is an envelope of a byte, so that its word has the octet itself
abbrev pub OfByte : Meaning → Accounts → Option ℕ → Type 0
OfByte m f o = IfSome o (λ c. (or_filler (m.taken c (f c)).0).octet < 256)

-- the word of slot k
unfoldable pub word_at : Meaning → Owners → Accounts → List ChannelRecord → ℕ → ℕ
word_at m owner f rs k = slot_word m (taken_for m owner f k) (records_for owner rs k) (owner k)

-- the envelopes of all slots are such
abbrev pub OfBytes : Meaning → Owners → Accounts → Type 0
OfBytes m owner f = (k : ℕ) → k < 240 → OfByte m (taken_for m owner f k) (owner k)

-- the words of all slots
unfoldable pub words : Meaning → Owners → Accounts → List ChannelRecord → List ℕ
words m owner f rs = map (word_at m owner f rs) (range_with_len 0 240)

-- what a frame is made of
abbrev pub content_of : Meaning → Owners → Accounts → Line → Justification → Content
content_of m owner f l j = record { blocked = is_blocked l.receiver.state; check = l.check; justification = j; words = words m owner f l.records }

-- what one slot leaves of the accounts and of the line
abbrev pub accounts_past : Meaning → Option ℕ → Accounts → Accounts
accounts_past m None f = f
accounts_past m (Some c) f = after_take m c f

abbrev pub line_past : Option ℕ → Line → Line
line_past None l = l
line_past (Some c) l = alternated_line l c
