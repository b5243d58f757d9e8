-- The slots of a clean frame, one after another: given as they were sent, their alignment bits alternating.
use Rattle.std.proofs.Common.{◌≡◌, ℕ, suc, ◌+◌, ◌-◌, ◌<◌, ◌≤◌, Bool, false, List, [], ◌∷◌, ◌++◌, length, IfSome, IsSome, Some, None, Option, sym, refl, ap, ◌∙◌, subst, arith}
use Rattle.std.specs.List.{range_with_len, AllByRecursion}
use Rattle.std.specs.Option.{option_to_list}
use Rattle.std.proofs.ByRecursion.{All-append}
use Rattle.std.proofs.lemmas.List.{length-set}
use Rattle.std.proofs.lemmas.Bool.{false≢true}
use Rattle.std.proofs.lemmas.Grind.{elements}
use Rattle.bank.specs.declared.Envelope.{Envelope}
use Rattle.bank.specs.Meaning.{Accounts, Meaning}
use Rattle.frame.specs.declared.mode.Justification.{Justification}
use Rattle.reception.specs.declared.receiver.Conclusion.{Conclusion}
use Rattle.reception.specs.declared.receiver.Conclusion.TheVariants as shows
use Rattle.reception.specs.declared.receiver.FaultKind.{FaultKind}
use Rattle.reception.specs.declared.receiver.FaultKind.TheVariants.{Regained}
use Rattle.reception.specs.Steps.{conclusion, stepped}
use Rattle.station.specs.declared.event.Delivery.{Delivery}
use Rattle.station.specs.declared.line.ChannelRecord.{ChannelRecord}
use Rattle.station.specs.declared.line.Line.{Line}
use Rattle.station.specs.Hearing.{alignment_in, concluded_event, concluded_line, envelope_in, event, heard_line, received_on, records_past, repeated, slot_event, slot_line, stepped_line}
use Rattle.station.specs.Lines.{entry, next_bit}
use Rattle.station.specs.Receiving.{events, faults_in, given, line_after, parts}
use Rattle.station.specs.Sending.{Owners, or_filler, records_for, records_from, slot_word, taken_for, word, word_at}
use Rattle.station.proofs.Counted.{records_one, records_same}
use Rattle.bearer.specs.InStep.{Alternates, Channels, IsAlarm}
use Rattle.bearer.specs.Sent.{carried, gathered, sent_at, sent_by}
use Rattle.bearer.proofs.Clean.{Clean, CleanWhere, clean_where_le}
use Rattle.bearer.proofs.Records.{only_records}
use Rattle.bearer.proofs.Runs.{shown}

-- what the ten bits of a slot hold
pub envelope_in_word : (e : Envelope) (a : Bool) → envelope_in (word e a) ≡ carried e
envelope_in_word e a = grind arith

pub alignment_in_word : (e : Envelope) (a : Bool) → alignment_in (word e a) ≡ a
alignment_in_word e a = grind arith

-- a bit that alternates is not repeated
fresh_bit : (a : Bool) (o : Option Bool) → Alternates a o → repeated o a ≡ false
fresh_bit a o h = grind arith

-- the far alarm leaves the records
alarm_past : (f : FaultKind) (rs : List ChannelRecord) → IsAlarm f → rs ≡ records_past f rs
alarm_past Regained rs h = absurd h
alarm_past _ rs h = refl

pub length_records : (owner : Owners) (k c : ℕ) (rs : List ChannelRecord) → length (records_from owner k c rs) ≡ length rs
unfolding records_from
length_records owner k c [] = refl
length_records owner k c (r ∷ rs) = ap suc (length_records owner k (suc c) rs)

module _ (m : Meaning) (owner : Owners) (known : Channels owner) (f : Accounts) (rs : List ChannelRecord) (eighty : length rs ≡ 80) where
  abbrev sender : ℕ → List ChannelRecord
  sender k = records_for owner rs k

  -- the records of the receiver before slot k, beside those of the sender
  pub record Synced (k : ℕ) (rr : List ChannelRecord) : Type 0 where
    pub long : length rr ≡ 80
    pub bits : (c : ℕ) → 0 < c → c ≤ 80 → Alternates (next_bit (sender k) c) (entry rr (c - 1)).received

  -- an envelope of channel ch is sent in slot k, and received
  synced_own : (k ch : ℕ) → owner k ≡ Some ch → 0 < ch → ch ≤ 80 → (rr : List ChannelRecord) → Synced k rr → Synced (k + 1) (received_on rr ch (next_bit (sender k) ch))
  synced_own k ch e low high rr s = record {
    long = length-set rr (ch - 1) _ ∙ s.long;
    bits = λ c h l. rw (← records_one owner k ch e (ch - 1) 1 rs (omega arith)) (grind (arith, elements, s.bits c h l, s.long, eighty, length_records owner k 1 rs));
  }

  abbrev word_of : ℕ → ℕ
  word_of k = word_at m owner f rs k

  -- the word of slot k, received
  pub record Slot (k : ℕ) (o : Option ℕ) (w : ℕ) (l : Line) : Type 0 where
    pub synced : Synced (k + 1) (slot_line o l w).records
    pub quiet : (slot_event o l w).fault ≡ None
    pub given : (slot_event o l w).given ≡ sent_by m (taken_for m owner f k) o

  slot_at : (k : ℕ) (l : Line) → Synced k l.records → (o : Option ℕ) → owner k ≡ o → IfSome o (λ c. (0 < c) × (c ≤ 80)) → Slot k o (slot_word m (taken_for m owner f k) (sender k) o) l
  slot_at k l s None e h = record { synced = record { long = s.long; bits = rw (← records_same owner k 1 rs (λ d _. rw e)) s.bits }; quiet = refl; given = refl }
  slot_at k l s (Some ch) e h =
      let sent = or_filler (m.taken ch (taken_for m owner f k ch)).0 in
      let a = next_bit (sender k) ch in
      record {
        synced = rw (alignment_in_word sent a) (synced_own k ch e h.0 h.1 l.records s);
        quiet = rw (alignment_in_word sent a, fresh_bit a (entry l.records (ch - 1)).received (s.bits ch h.0 h.1));
        given = rw (envelope_in_word sent a);
      }

  slot : (k : ℕ) (l : Line) → Synced k l.records → Slot k (owner k) (word_of k) l
  unfolding word_at
  slot k l s = slot_at k l s (owner k) refl (known k)

  -- what is given from slot k on
  abbrev given_from : ℕ → List Delivery
  given_from k = gathered (sent_at m owner f) (range_with_len k (240 - k))

  module _ (J : Option Justification → Type 0) where
    -- one conclusion of a clean frame, where slot k comes next
    pub record ConcludedWhere (k : ℕ) (l : Line) (c : Option Conclusion) (cs : List (Option Conclusion)) : Type 0 where
      pub next : ℕ
      pub rest : CleanWhere J word_of next cs
      pub synced : Synced next (concluded_line owner l c).records
      pub quiet : AllByRecursion (λ x. IsAlarm x.kind) (option_to_list (concluded_event owner l c).fault)
      pub given : option_to_list (concluded_event owner l c).given ++ given_from next ≡ given_from k

    step : ((o : Option Justification) → J o → IsSome o) → (k : ℕ) (l : Line) (c : Option Conclusion) (cs : List (Option Conclusion)) → CleanWhere J word_of k (c ∷ cs) → Synced k l.records → ConcludedWhere k l c cs
    unfolding CleanWhere gathered
    step told k l None cs h s = record { next = k; rest = h; synced = s; quiet = tt; given = refl }
    step told k l (Some (shows.Word i w)) cs h s =
        let one = slot k l s in
        let more : 240 - k ≡ suc (240 - (k + 1)) = omega (arith, clean_where_le J word_of cs (k + 1) h.1) in
        rw (h.0.0, h.0.1) (record { next = k + 1; rest = h.1; synced = one.synced; quiet = rw (one.quiet) tt; given = rw (one.given, more) })
    step told k l (Some (shows.Fault kind)) cs h s = record { next = k; rest = h.1; synced = rw (← alarm_past kind l.records h.0) s; quiet = (h.0, tt); given = refl }
    step told k l (Some (shows.Justification (Some j))) cs h s = record { next = k; rest = h.1; synced = s; quiet = tt; given = refl }
    step told k l (Some (shows.Justification None)) cs h s = absurd (false≢true (told None h.0))

  abbrev pub Concluded : ℕ → Line → Option Conclusion → List (Option Conclusion) → Type 0
  Concluded k l c cs = ConcludedWhere (λ told. IsSome told) k l c cs

  -- all that a clean frame leaves from slot k on
  pub record Slots (k : ℕ) (l : Line) (bs : List ℕ) : Type 0 where
    pub synced : Synced 240 (line_after owner l bs).records
    pub quiet : AllByRecursion (λ x. IsAlarm x.kind) (faults_in owner l bs)
    pub given : given owner l bs ≡ given_from k

  pub slots : (bs : List ℕ) (k : ℕ) (l : Line) → Clean word_of k (shown l.mode l.receiver bs) → Synced k l.records → Slots k l bs
  unfolding CleanWhere shown line_after stepped_line events event parts gathered
  slots [] k l h s = record { synced = rw (← h) s; quiet = tt; given = rw h }
  slots (b ∷ bs) k l h s =
      let c = conclusion l.mode l.receiver b in
      let here : Concluded k (heard_line owner l b) c (shown l.mode (stepped l.mode l.receiver b) bs) = step (λ told. IsSome told) (λ told h. h) k (heard_line owner l b) c (shown l.mode (stepped l.mode l.receiver b) bs) h s in
      let rest = slots bs here.next (stepped_line owner l b) (subst (λ (x : Line). Clean word_of here.next (shown x.mode x.receiver bs)) (sym (only_records owner (heard_line owner l b) c)) here.rest) here.synced in
      record {
        synced = rest.synced;
        quiet = All-append (λ x. IsAlarm x.kind) (option_to_list (event owner l b).fault) (faults_in owner (stepped_line owner l b) bs) here.quiet rest.quiet;
        given = ap (λ ds. option_to_list (event owner l b).given ++ ds) rest.given ∙ here.given;
      }
