-- A line in step with a sender stays so over a clean frame, and over any number of them.
use Rattle.std.proofs.Common.{◌≡◌, ℕ, ◌-◌, ◌<◌, Bool, true, false, List, [], ◌∷◌, map, get_or, IfSome, Some, None, Option, sym, refl, ap, ◌∙◌, subst, ⊎_elim, arith}
use native.Mathlib.Nat.{div-eq_of_lt}
use lib.Bits.{xor_zero_r}
use Rattle.std.specs.List.{AllByRecursion}
use Rattle.std.proofs.lemmas.List.FromFn.{get_or-map-range_with_len, length-map-range_with_len}
use Rattle.std.proofs.ByRecursion.{All-append}
use Rattle.std.proofs.lemmas.List.{get_or_past, get_or-replicate}
use Rattle.std.proofs.lemmas.Bool.{cases_lt}
use Rattle.bank.specs.Meaning.{Accounts, Meaning}
use Rattle.frame.specs.declared.content.Content.{Content}
use Rattle.frame.specs.declared.mode.Justification.{Justification}
use Rattle.frame.specs.declared.mode.Mode.{Mode}
use Rattle.frame.specs.declared.mode.Mode.TheVariants.{Synchronous, Justified}
use Rattle.frame.specs.Frames.{frame}
use Rattle.frame.proofs.Division.{remainder_is}
use Rattle.reception.specs.declared.receiver.Conclusion.{Conclusion}
use Rattle.reception.specs.declared.state.Receiver.{Receiver}
use Rattle.reception.specs.Checks.{checking}
use Rattle.reception.specs.Progresses.{from}
use Rattle.station.specs.declared.line.Line.{Line}
use Rattle.station.specs.Frames.{next_check, sent_frame}
use Rattle.station.specs.Lines.{fresh_record}
use Rattle.station.specs.Receiving.{events, faults_in, line_after, parts}
use Rattle.station.specs.Sending.{Owners, content_of, word_at, words}
use Rattle.station.proofs.Counted.{records_none}
use Rattle.station.proofs.Pieces.{in_two}
use Rattle.bearer.specs.InStep.{Between, Channels, InStep, IsAlarm, Receives, StaysInStep}
use Rattle.bearer.specs.Sent.{Allows, Sender, after_frame, after_frames, bits_sent, envelopes_sent}
use Rattle.bearer.proofs.Clean.{CleanOf, carried, clean_laden, clean_rests, clean_shown, clean_some, clean_stays, expected_next, resting}
use Rattle.bearer.proofs.Laden.{Valid, bare, check_front, laden, laden_word, own_remainder, progress_with, state_with, summed, sums_in, word_front}
use Rattle.bearer.proofs.Records.{line_over}
use Rattle.bearer.proofs.Runs.{frame_after, frame_remainder, frame_shown, leaves, receiver_after, shown}
use Rattle.bearer.proofs.Slots.{Slots, length_records, slots}

-- a frame with content c, received between two frames
module _ (mode : Mode) (c : Content) (v : Valid c) where
  begins : (e : Option ℕ) → laden mode c (from 0 (checking true e)) ≡ from 0 (checking true (summed c.check e))
  unfolding word_front check_front own_remainder
  begins e = rw (div-eq_of_lt (v.word 0), div-eq_of_lt v.check)

  -- what is expected is nothing, or what the frame carries
  expects : (o : Option ℕ) → IfSome o (λ e. e ≡ c.check) → (known : Bool) × (o ≡ summed c.check (carried known))
  expects None h = (false, refl)
  expects (Some e) h = (true, ap Some (h ∙ sym (xor_zero_r c.check)))

  -- what is expected after it is nothing, or its remainder
  next_known : IfSome (summed (leaves mode c v) (expected_next mode c.blocked c.justification)) (λ e. e ≡ next_check mode (frame mode c))
  next_known = grind (arith, frame_remainder mode c v)

  -- what a clean frame shows and leaves
  pub record Received (x : Receiver) : Type 0 where
    pub bare_shown : List (Option Conclusion)
    pub shows : shown mode x (frame mode c) ≡ map (laden_word c) bare_shown
    pub clean : CleanOf (λ k. 0) c.justification 0 bare_shown
    pub between : Between (next_check mode (frame mode c)) (receiver_after mode x (frame mode c)).state

  pub received : (x : Receiver) → Allows mode c.justification → Between c.check x.state → Received x
  unfolding progress_with
  received x allowed between =
      let e = expects between.expected between.known in
      let y = resting (carried e.0) between.wrong x.alarm x.errored x.bits in
      let is : x ≡ progress_with (laden mode c) y = rw (begins (carried e.0), ← e.1, ← between.is) in
      let stays = clean_stays between.wrong x.errored x.bits mode c.justification allowed e.0 c.blocked x.alarm in
      record {
        bare_shown = shown mode y (frame mode (bare c));
        shows = ap (λ z. shown mode z (frame mode c)) is ∙ frame_shown mode c v y stays;
        clean = clean_shown between.wrong x.errored x.bits mode c.justification allowed e.0 c.blocked x.alarm;
        between = record {
          expected = summed (leaves mode c v) (expected_next mode c.blocked c.justification);
          wrong = 0;
          is =
              ap (λ z. (receiver_after mode z (frame mode c)).state) is ∙ ap (λ (z : Receiver). z.state) (frame_after mode c v y stays)
              ∙ ap (state_with (sums_in 0 0 0 (leaves mode c v))) (clean_rests between.wrong x.errored x.bits mode c.justification allowed e.0 c.blocked x.alarm);
          known = next_known;
        };
      }

-- what a sender sends fits into a frame
check_lt : (mode : Mode) (bits : List ℕ) → next_check mode bits < 65536
check_lt Synchronous bits = (remainder_is bits).lower
check_lt Justified bits = omega arith

module _ (m : Meaning) (owner : Owners) (f : Accounts) (l : Line) where
  word_is : (k : ℕ) → k < 240 → get_or (words m owner f l.records) k 0 ≡ word_at m owner f l.records k
  unfolding words
  word_is k h = get_or-map-range_with_len (word_at m owner f l.records) 0 240 k k 0 h (omega arith)

  word_at_lt : (k : ℕ) → word_at m owner f l.records k < 1024
  unfolding word_at
  word_at_lt k = grind arith

  word_fits : (k : ℕ) → get_or (words m owner f l.records) k 0 < 1024
  unfolding words
  word_fits k =
      ⊎_elim (λ h. rw (word_is k h) (word_at_lt k))
      (λ h. rw (get_or_past (words m owner f l.records) k 0 (omega (arith, length-map-range_with_len (word_at m owner f l.records) 0 240))) (omega arith)) (cases_lt k 240)

-- one frame of a sender
module _ (m : Meaning) (owner : Owners) (known : Channels owner) (s : Sender) (r : Line) (j : Justification) (allowed : Allows s.line.mode j) (so : InStep s.line r) where
  abbrev c : Content
  c = content_of m owner s.accounts s.line j

  abbrev bits : List ℕ
  bits = sent_frame m owner s.accounts s.line j

  valid : Valid c
  valid = record { check = so.check; word = word_fits m owner s.accounts s.line }

  frame_received : Received s.line.mode c valid r.receiver
  frame_received = received s.line.mode c valid r.receiver allowed so.state

  all_slots : Slots m owner known s.accounts s.line.records so.sends 0 r bits
  unfolding sent_frame
  all_slots =
      let got = frame_received in
      slots m owner known s.accounts s.line.records so.sends bits 0 r
      (rw (so.mode, got.shows) (clean_laden c (word_at m owner s.accounts s.line.records) (word_is m owner s.accounts s.line) 0 got.bare_shown (clean_some (λ k. 0) j got.bare_shown 0 got.clean)))
      (record { long = so.receives; bits = rw (records_none owner 1 s.line.records) so.bits })

  pub keeps_step : InStep (after_frame m owner s j).line (line_after owner r bits)
  unfolding sent_frame
  keeps_step = subst (InStep (after_frame m owner s j).line) (sym (line_over owner bits r)) (record {
    mode = so.mode;
    check = check_lt s.line.mode bits;
    state = rw (so.mode) frame_received.between;
    sends = length_records owner 240 1 s.line.records ∙ so.sends;
    receives = all_slots.synced.long;
    bits = all_slots.synced.bits;
  })

-- frame after frame
over_frames : (m : Meaning) (owner : Owners) → Channels owner → (js : List Justification) (s : Sender) (r : Line) → AllByRecursion (Allows s.line.mode) js → InStep s.line r → Receives m owner s r js
unfolding bits_sent envelopes_sent after_frames line_after events parts
over_frames m owner known [] s r allowed so = record { in_step = so; faults = tt; given = refl }
over_frames m owner known (j ∷ js) s r allowed so =
    let bits = sent_frame m owner s.accounts s.line j in
    let next = after_frame m owner s j in
    let more = bits_sent m owner next js in
    let two = in_two owner r bits more in
    let here = all_slots m owner known s r j allowed.0 so in
    let rest = over_frames m owner known js next (line_after owner r bits) allowed.1 (keeps_step m owner known s r j allowed.0 so) in
    record {
      in_step = rw (two.line) rest.in_step;
      faults = rw (two.recorded) (All-append (λ f. IsAlarm f.kind) (faults_in owner r bits) (faults_in owner (line_after owner r bits) more) here.quiet rest.faults);
      given = rw (two.delivered, here.given, rest.given);
    }

pub stays : StaysInStep
stays = record {
  begins = λ mode n k. record {
    mode = refl;
    check = omega arith;
    state = record { expected = None; wrong = 0; is = refl; known = tt };
    sends = refl;
    receives = refl;
    bits = λ c h u. rw (get_or-replicate 80 (c - 1) fresh_record _ (omega arith)) tt;
  };
  goes_on = λ m owner known s r js. over_frames m owner known js s r;
}
