-- A clean bare frame, received from its first bit: what it shows and leaves is computed.
use Rattle.std.proofs.Common.{◌≡◌, ℕ, zero, suc, ◌+◌, ◌%◌, ◌<◌, ◌≤◌, Bool, true, false, cond, not, ◌&&◌, eqb, List, [], ◌∷◌, map, get_or, Some, None, IsSome, is_some, Option, sym, refl, ap, subst, arith}
use lib.Bits.{xor_zero_r}
use Rattle.std.specs.List.{range_with_len}
use Rattle.std.proofs.lemmas.Bool.Decides.{nat_tests}
use Rattle.std.proofs.lemmas.Bool.{and_parts, eqb-true, false≢true, not-true}
use Rattle.frame.specs.declared.content.Content.{Content}
use Rattle.frame.specs.declared.mode.Justification.{Justification}
use Rattle.frame.specs.declared.mode.Justification.TheVariants.{Deleted, Unchanged, Added}
use Rattle.frame.specs.declared.mode.Mode.{Mode}
use Rattle.frame.specs.declared.mode.Mode.TheVariants.{Synchronous, Justified}
use Rattle.frame.specs.declared.place.Role.{Role}
use Rattle.frame.specs.declared.place.Role.TheVariants.{Padding, Payload}
use Rattle.frame.specs.declared.place.Role.TheVariants as place
use Rattle.frame.specs.Checks.{divide, remainder, remainder_after}
use Rattle.frame.specs.Frames.{frame, frame_bit}
use Rattle.frame.specs.Modes.{frame_length}
use Rattle.frame.specs.Paddings.{padding}
use Rattle.frame.specs.Places.{role}
use Rattle.reception.specs.declared.progress.Heard.{Heard}
use Rattle.reception.specs.declared.progress.Heard.TheVariants as heard
use Rattle.reception.specs.declared.receiver.Conclusion.{Conclusion}
use Rattle.reception.specs.declared.receiver.Conclusion.TheVariants as shows
use Rattle.reception.specs.declared.state.Progress.{Progress}
use Rattle.reception.specs.declared.state.Receiver.{Receiver}
use Rattle.reception.specs.declared.state.Reception.{Reception}
use Rattle.reception.specs.declared.state.Reception.TheVariants.{Aligned}
use Rattle.reception.specs.Checks.{checking}
use Rattle.reception.specs.Progresses.{from, heard_in}
use Rattle.reception.specs.Registers.{shift}
use Rattle.reception.specs.Steps.{aligned_fault, aligned_shows, conclusion, shows_in, stepped, word_told}
use Rattle.reception.specs.Words.{has_majority}
use Rattle.bearer.specs.InStep.{IsAlarm}
use Rattle.bearer.specs.Sent.{Allows}
use Rattle.bearer.proofs.Laden.{laden_word}
use Rattle.bearer.proofs.Runs.{At, StaysOver, receiver_after, shown}
use Rattle.bearer.proofs.Square.{goes_on}

-- a receiver between two frames, which expects e and has had n wrong patterns
abbrev pub resting : Option ℕ → ℕ → Bool → ℕ → ℕ → Receiver
resting e n a k t = record { state = Aligned (from 0 (checking true e)) n; alarm = a; errored = k; bits = t }

abbrev pub bare_content : Bool → Justification → Content
bare_content blocked j = record { blocked = blocked; check = 0; justification = j; words = [] }

-- what is expected is nothing, or what the bare frame carries
abbrev pub carried : Bool → Option ℕ
carried false = None
carried true = Some 0

abbrev pub same_justification : Justification → Justification → Bool
same_justification Deleted Deleted = true
same_justification Unchanged Unchanged = true
same_justification Added Added = true
same_justification _ _ = false

-- what the words of a frame tell is justification j
abbrev tells : Justification → Option Justification → Bool
tells j None = false
tells j (Some i) = same_justification i j

told_is : (j : Justification) (o : Option Justification) → tells j o ≡ true → o ≡ Some j
told_is j None e = absurd (false≢true e)
told_is Deleted (Some Deleted) e = refl
told_is Unchanged (Some Unchanged) e = refl
told_is Added (Some Added) e = refl
told_is _ (Some _) e = absurd (false≢true e)

-- the slots from k on are shown in order, each with its word, and nothing else but the far alarm and justifications, of each of which J holds
unfoldable pub CleanWhere : (Option Justification → Type 0) → (ℕ → ℕ) → ℕ → List (Option Conclusion) → Type 0
CleanWhere J word k [] = k ≡ 240
CleanWhere J word k (None ∷ cs) = CleanWhere J word k cs
CleanWhere J word k (Some (shows.Word i w) ∷ cs) = ((i ≡ k) × (w ≡ word k)) × CleanWhere J word (k + 1) cs
CleanWhere J word k (Some (shows.Fault f) ∷ cs) = IsAlarm f × CleanWhere J word k cs
CleanWhere J word k (Some (shows.Justification told) ∷ cs) = J told × CleanWhere J word k cs

-- each justification that is shown is told, whichever it is
abbrev pub Clean : (ℕ → ℕ) → ℕ → List (Option Conclusion) → Type 0
Clean word k cs = CleanWhere (λ told. IsSome told) word k cs

-- each justification that is shown is j
abbrev pub CleanOf : (ℕ → ℕ) → Justification → ℕ → List (Option Conclusion) → Type 0
CleanOf word j k cs = CleanWhere (λ told. told ≡ Some j) word k cs

-- those of a bare frame have no bit set, and so those of the frame have the bits of its words
abbrev zeros : ℕ → ℕ
zeros k = 0

module _ (J : Option Justification → Type 0) where
  pub clean_where_le : (w : ℕ → ℕ) (cs : List (Option Conclusion)) (k : ℕ) → CleanWhere J w k cs → k ≤ 240
  unfolding CleanWhere
  clean_where_le w [] k h = omega (arith, h)
  clean_where_le w (None ∷ cs) k h = clean_where_le w cs k h
  clean_where_le w (Some (shows.Word i v) ∷ cs) k h = omega (arith, clean_where_le w cs (k + 1) h.1)
  clean_where_le w (Some (shows.Fault f) ∷ cs) k h = clean_where_le w cs k h.1
  clean_where_le w (Some (shows.Justification told) ∷ cs) k h = clean_where_le w cs k h.1

  pub clean_where_laden : (c : Content) (word : ℕ → ℕ) → ((i : ℕ) → i < 240 → get_or c.words i 0 ≡ word i) → (k : ℕ) (cs : List (Option Conclusion)) → CleanWhere J zeros k cs → CleanWhere J word k (map (laden_word c) cs)
  unfolding CleanWhere laden_word
  clean_where_laden c word is k [] h = h
  clean_where_laden c word is k (None ∷ cs) h = clean_where_laden c word is k cs h
  clean_where_laden c word is k (Some (shows.Word i w) ∷ cs) h =
      let below : k < 240 = omega (arith, clean_where_le zeros cs (k + 1) h.1) in ((h.0.0, rw (h.0.0, h.0.1, xor_zero_r) (is k below)), clean_where_laden c word is (k + 1) cs h.1)
  clean_where_laden c word is k (Some (shows.Fault f) ∷ cs) h = (h.0, clean_where_laden c word is k cs h.1)
  clean_where_laden c word is k (Some (shows.Justification told) ∷ cs) h = (h.0, clean_where_laden c word is k cs h.1)

  -- where less is said of the justifications
  pub clean_where_less : (I : Option Justification → Type 0) → ((o : Option Justification) → J o → I o) → (w : ℕ → ℕ) (cs : List (Option Conclusion)) (k : ℕ) → CleanWhere J w k cs → CleanWhere I w k cs
  unfolding CleanWhere
  clean_where_less I less w [] k h = h
  clean_where_less I less w (None ∷ cs) k h = clean_where_less I less w cs k h
  clean_where_less I less w (Some (shows.Word i v) ∷ cs) k h = (h.0, clean_where_less I less w cs (k + 1) h.1)
  clean_where_less I less w (Some (shows.Fault f) ∷ cs) k h = (h.0, clean_where_less I less w cs k h.1)
  clean_where_less I less w (Some (shows.Justification told) ∷ cs) k h = (less told h.0, clean_where_less I less w cs k h.1)

pub clean_le : (w : ℕ → ℕ) (cs : List (Option Conclusion)) (k : ℕ) → Clean w k cs → k ≤ 240
clean_le w cs k h = clean_where_le (λ told. IsSome told) w cs k h

pub clean_laden : (c : Content) (word : ℕ → ℕ) → ((i : ℕ) → i < 240 → get_or c.words i 0 ≡ word i) → (k : ℕ) (cs : List (Option Conclusion)) → Clean zeros k cs → Clean word k (map (laden_word c) cs)
clean_laden c word is k cs h = clean_where_laden (λ told. IsSome told) c word is k cs h

-- where each is j, each is told
pub clean_some : (w : ℕ → ℕ) (j : Justification) (cs : List (Option Conclusion)) (k : ℕ) → CleanOf w j k cs → Clean w k cs
clean_some w j cs k h = clean_where_less (λ told. told ≡ Some j) (λ told. IsSome told) (λ told e. ap is_some e) w cs k h

-- what padding of a clean frame shows, where its words tell what is wanted
abbrev is_fair : (Option Justification → Bool) → Option Heard → Bool
is_fair wanted (Some heard.WrongPattern) = false
is_fair wanted (Some heard.WrongCheck) = false
is_fair wanted (Some (heard.Words told)) = wanted told
is_fair wanted _ = true

-- a bit of a clean frame, where slot k comes next
abbrev fair_bit : Mode → (Option Justification → Bool) → ℕ → Role → Progress → ℕ → Bool
fair_bit mode wanted k (Padding s i) q b = is_fair wanted (heard_in q s (padding mode s i) b)
fair_bit mode wanted k (Payload s i) q b = cond (eqb i 9) (eqb s k && eqb (shift 10 q.word b) 0) true
fair_bit mode wanted k place.Added q b = true

abbrev slot_after : ℕ → Role → ℕ
slot_after k (Payload s i) = cond (eqb i 9) (k + 1) k
slot_after k r = k

abbrev is_fair_at : Mode → (Option Justification → Bool) → Bool → ℕ → ℕ → Reception → ℕ → Bool
is_fair_at mode wanted on p k (Aligned q n) b = (eqb q.place p && cond on (goes_on mode q) (not (goes_on mode q))) && fair_bit mode wanted k (role p) q (b % 2)
is_fair_at mode wanted on p k s b = false

-- n bits from place p on, the last of which ends the frame
unfoldable is_fair_from : Mode → (Option Justification → Bool) → (ℕ → ℕ) → Receiver → ℕ → ℕ → ℕ → Bool
is_fair_from mode wanted b x p k zero = false
is_fair_from mode wanted b x p k (suc zero) = is_fair_at mode wanted false p k x.state (b p) && eqb (slot_after k (role p)) 240
is_fair_from mode wanted b x p k (suc (suc n)) = is_fair_at mode wanted true p k x.state (b p) && is_fair_from mode wanted b (stepped mode x (b p)) (p + 1) (slot_after k (role p)) (suc n)

-- such bits keep reception aligned, and show the slots in order
module _ (mode : Mode) (wanted : Option Justification → Bool) where
  fair_at : (on : Bool) (p k : ℕ) (s : Reception) (d : ℕ) → is_fair_at mode wanted on p k s d ≡ true → At mode on p s
  fair_at on p k (Aligned q n) d e =
      let parts = and_parts _ _ (and_parts _ _ e).0 in
      record { progress = q; wrong = n; is = refl; place = eqb-true q.place p parts.0; goes = goes on (goes_on mode q) parts.1 }
    where
      goes : (on u : Bool) → cond on u (not u) ≡ true → u ≡ on
      goes true u e = e
      goes false u e = not-true u e
  fair_at on p k s d e = absurd (false≢true e)

  module _ (b : ℕ → ℕ) where
    fair_stays : (n p k : ℕ) (x : Receiver) → is_fair_from mode wanted b x p k n ≡ true → StaysOver mode b x p n
    unfolding is_fair_from StaysOver
    fair_stays zero p k x e = absurd (false≢true e)
    fair_stays (suc zero) p k x e = fair_at false p k x.state (b p) (and_parts _ _ e).0
    fair_stays (suc (suc n)) p k x e =
        let parts = and_parts _ _ e in (fair_at true p k x.state (b p) parts.0, fair_stays (suc n) (p + 1) (slot_after k (role p)) (stepped mode x (b p)) parts.1)

  module _ (J : Option Justification → Type 0) (meant : (o : Option Justification) → wanted o ≡ true → J o) where
    heard_clean : (g : Option Heard) (n : ℕ) (x : Receiver) (d k : ℕ) (cs : List (Option Conclusion)) → is_fair wanted g ≡ true → CleanWhere J zeros k cs → CleanWhere J zeros k (aligned_fault g n x d ∷ cs)
    unfolding CleanWhere
    heard_clean g n x d k cs e h = grind (arith, meant)

    word_clean : (u : Bool) (s w k : ℕ) (cs : List (Option Conclusion)) → cond u (eqb s k && eqb w 0) true ≡ true → CleanWhere J zeros (cond u (k + 1) k) cs → CleanWhere J zeros k (word_told s (cond u (Some w) None) ∷ cs)
    unfolding CleanWhere
    word_clean u s w k cs e h = grind (arith, nat_tests)

    role_clean : (r : Role) (q : Progress) (n : ℕ) (x : Receiver) (d k : ℕ) (cs : List (Option Conclusion)) → fair_bit mode wanted k r q d ≡ true → CleanWhere J zeros (slot_after k r) cs → CleanWhere J zeros k (aligned_shows mode r q n x d ∷ cs)
    unfolding CleanWhere
    role_clean (Padding s i) q n x d k cs e h = heard_clean (heard_in q s (padding mode s i) d) n x d k cs e h
    role_clean (Payload s i) q n x d k cs e h = word_clean (eqb i 9) s (shift 10 q.word d) k cs e h
    role_clean place.Added q n x d k cs e h = h

    state_clean : (on : Bool) (p k : ℕ) (s : Reception) (x : Receiver) (d : ℕ) (cs : List (Option Conclusion)) → is_fair_at mode wanted on p k s d ≡ true → CleanWhere J zeros (slot_after k (role p)) cs → CleanWhere J zeros k (shows_in mode s x (d % 2) ∷ cs)
    state_clean on p k (Aligned q n) x d cs e c =
        let parts = and_parts _ _ e in
        subst (λ m. CleanWhere J zeros k (aligned_shows mode (role m) q n x (d % 2) ∷ cs)) (sym (eqb-true q.place p (and_parts _ _ parts.0).0)) (role_clean (role p) q n x (d % 2) k cs parts.1 c)
    state_clean on p k s x d cs e c = absurd (false≢true e)

    fair_clean : (b : ℕ → ℕ) (n p k : ℕ) (x : Receiver) → is_fair_from mode wanted b x p k n ≡ true → CleanWhere J zeros k (shown mode x (map b (range_with_len p n)))
    unfolding is_fair_from shown conclusion CleanWhere
    fair_clean b zero p k x e = absurd (false≢true e)
    fair_clean b (suc zero) p k x e = let parts = and_parts _ _ e in state_clean false p k x.state x (b p) [] parts.0 (eqb-true _ 240 parts.1)
    fair_clean b (suc (suc n)) p k x e =
        let parts = and_parts _ _ e in state_clean true p k x.state x (b p) _ parts.0 (fair_clean b (suc n) (p + 1) (slot_after k (role p)) (stepped mode x (b p)) parts.1)

-- what is expected of the next frame
abbrev pub expected_next : Mode → Bool → Justification → Option ℕ
expected_next Synchronous blocked j = Some (remainder (frame Synchronous (bare_content blocked j)))
expected_next Justified blocked j = None

module _ (n k t : ℕ) where
  bare_is_fair : (mode : Mode) (j : Justification) → Allows mode j → (known blocked a : Bool) → is_fair_from mode (tells j) (frame_bit mode (bare_content blocked j)) (resting (carried known) n a k t) 0 0 (frame_length j) ≡ true
  unfolding is_fair_from stepped frame_bit divide has_majority
  bare_is_fair Synchronous Deleted never known blocked a = absurd never
  bare_is_fair Synchronous Added never known blocked a = absurd never
  bare_is_fair Justified Deleted ok true blocked a = refl
  bare_is_fair Justified Deleted ok false blocked a = refl
  bare_is_fair _ _ ok true blocked a = refl
  bare_is_fair _ _ ok false blocked a = refl

  pub clean_stays : (mode : Mode) (j : Justification) → Allows mode j → (known blocked a : Bool) → StaysOver mode (frame_bit mode (bare_content blocked j)) (resting (carried known) n a k t) 0 (frame_length j)
  clean_stays mode j ok known blocked a = fair_stays mode (tells j) (frame_bit mode (bare_content blocked j)) (frame_length j) 0 0 (resting (carried known) n a k t) (bare_is_fair mode j ok known blocked a)

  pub clean_shown : (mode : Mode) (j : Justification) → Allows mode j → (known blocked a : Bool) → CleanOf zeros j 0 (shown mode (resting (carried known) n a k t) (frame mode (bare_content blocked j)))
  unfolding frame
  clean_shown mode j ok known blocked a =
      fair_clean mode (tells j) (λ told. told ≡ Some j) (told_is j) (frame_bit mode (bare_content blocked j)) (frame_length j) 0 0 (resting (carried known) n a k t) (bare_is_fair mode j ok known blocked a)

  pub clean_rests : (mode : Mode) (j : Justification) → Allows mode j → (known blocked a : Bool) → (receiver_after mode (resting (carried known) n a k t) (frame mode (bare_content blocked j))).state ≡ Aligned (from 0 (checking true (expected_next mode blocked j))) 0
  unfolding receiver_after stepped frame frame_bit divide remainder_after has_majority
  clean_rests Synchronous Deleted never known blocked a = absurd never
  clean_rests Synchronous Added never known blocked a = absurd never
  clean_rests Justified Deleted ok true blocked a = refl
  clean_rests Justified Deleted ok false blocked a = refl
  clean_rests _ _ ok true true a = refl
  clean_rests _ _ ok true false a = refl
  clean_rests _ _ ok false true a = refl
  clean_rests _ _ ok false false a = refl
