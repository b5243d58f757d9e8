-- The examples that settle how the rules are read, as one statement: each is computed from the definitions of the rules.
use Rattle.std.specs.Prelude.{◌≡◌, ℕ, Bool, true, false, cond, ◌||◌, List, [], ◌∷◌, ◌++◌, map, take, Some, fold, Option, ◌==◌}
use Rattle.std.specs.List.{range_with_len}
use Rattle.bank.specs.Meaning.{is_channel}
use Rattle.bank.specs.Runs.{Take, passed, taken_by}
use Rattle.pattern_bank.specs.Meaning.{as_account, pattern_meaning}
use Rattle.pattern_bank.specs.Pattern.{fresh, marked}
use Rattle.frame.specs.declared.content.Content.{Content}
use Rattle.frame.specs.declared.mode.Justification.TheVariants.{Deleted, Unchanged, Added}
use Rattle.frame.specs.declared.mode.Mode.TheVariants.{Synchronous, Justified}
use Rattle.frame.specs.declared.place.Role.{Role}
use Rattle.frame.specs.declared.place.Role.TheVariants.{Padding, Payload}
use Rattle.frame.specs.declared.place.Role.TheVariants as place
use Rattle.frame.specs.Checks.{flipped, remainder}
use Rattle.frame.specs.Frames.{frame}
use Rattle.frame.specs.Places.{place_of, role}
use Rattle.reception.specs.declared.state.Progress.{Progress}
use Rattle.reception.specs.declared.state.Receiver.{Receiver}
use Rattle.reception.specs.declared.state.Reception.{Reception}
use Rattle.reception.specs.declared.state.Reception.TheVariants.{Aligned}
use Rattle.reception.specs.Progresses.{pattern}
use Rattle.reception.specs.Steps.{aligned_by, fresh_receiver, hunting_state, placed_state, state_number, stepped, with_state, wrong_in}
use Rattle.reception.specs.Words.{is_disputed, justification_by}

-- whether a bit with this role is one of slot k
abbrev pub is_of : ℕ → Role → Bool
is_of k (Padding s i) = false
is_of k (Payload n j) = n == k
is_of k place.Added = false

-- those of the places that hold a bit of slot k
abbrev pub holding : ℕ → List ℕ → List ℕ
holding k [] = []
holding k (p ∷ ps) = cond (is_of k (role p)) (p ∷ holding k ps) (holding k ps)

-- all places that hold a bit of slot k; the longest frame has 2,561 places
abbrev pub slot_places : ℕ → List ℕ
slot_places k = holding k (range_with_len 0 2561)

-- the service words of the subframes 1 to 4
abbrev pub four : ℕ → ℕ → ℕ → ℕ → List (Option ℕ)
four a b c d = Some a ∷ Some b ∷ Some c ∷ Some d ∷ []

abbrev pub is_among : ℕ → List ℕ → Bool
is_among p [] = false
is_among p (q ∷ qs) = p == q || is_among p qs

-- the 2,560 bits of a frame: 1 at these places and 0 elsewhere
abbrev pub ones_at : List ℕ → List ℕ
ones_at places = map (λ p. cond (is_among p places) 1 0) (range_with_len 0 2560)

-- the synchronous frame of what c holds; no bit is added or deleted
abbrev pub synchronous : Content → List ℕ
synchronous c = frame Synchronous (record { blocked = c.blocked; check = c.check; justification = Unchanged; words = c.words })

-- a receiver placed at that frame, after n bits of it, of which those at these places are inverted
abbrev pub received : Content → ℕ → List ℕ → Receiver
received c n places = fold (stepped Synchronous) (fresh_receiver placed_state) (take n (flipped (synchronous c) (ones_at places)))

-- the number of its state, 0 hunting and 3 aligned, and how many patterns in a row were wrong
abbrev pub standing : Receiver → ℕ × ℕ
standing x = (state_number x.state, wrong_in x.state)

-- an aligned receiver after one pattern more, right or wrong, which brings it to q
abbrev pub pattern_heard : Progress → Receiver → Bool → Receiver
pattern_heard q x right = aligned_by (Some (pattern right)) q (wrong_in x.state) x 1

-- the state after these patterns, where none before them was wrong
abbrev pub after_patterns : Progress → Receiver → List Bool → Reception
after_patterns q x patterns = (fold (pattern_heard q) (with_state (Aligned q 0) x) patterns).state

pub record Settled : Type 0 where
  -- frame bit 335 is P21 of subframe 1, with which the pattern begins
  pub pattern_begins : role 335 ≡ Padding 1 21
  -- P21 of subframe 1 is frame bit 335
  pub pattern_place : place_of (Padding 1 21) ≡ Some 335
  -- frame bit 575 is P36 of subframe 1, with which its number ends
  pub number_ends : role 575 ≡ Padding 1 36
  -- P36 of subframe 1 is frame bit 575
  pub number_place : place_of (Padding 1 36) ≡ Some 575
  -- slot 1 lies on bits 10 to 14 and 16 to 20, and on no other
  pub slot_one_places : slot_places 1 ≡ range_with_len 10 5 ++ range_with_len 16 5
  -- its first five bits are bits 10 to 14, in order
  pub slot_one_front : map role (range_with_len 10 5) ≡ Payload 1 0 ∷ Payload 1 1 ∷ Payload 1 2 ∷ Payload 1 3 ∷ Payload 1 4 ∷ []
  -- bit 15, between the two halves, is padding
  pub slot_one_gap : role 15 ≡ Padding 1 1
  -- its last five bits are bits 16 to 20, in order
  pub slot_one_back : map role (range_with_len 16 5) ≡ Payload 1 5 ∷ Payload 1 6 ∷ Payload 1 7 ∷ Payload 1 8 ∷ Payload 1 9 ∷ []
  -- slot 239 lies on bits 2549 to 2558, and on no other
  pub last_slot_places : slot_places 239 ≡ range_with_len 2549 10
  -- its bits 0 to 9 are these, in order
  pub last_slot_bits : map role (range_with_len 2549 10) ≡ map (Payload 239) (range_with_len 0 10)
  -- service words 100, 100, 100, 001 mean added
  pub most_added : justification_by Justified (four 0b100 0b100 0b100 0b001) ≡ Added
  -- and are not disputed
  pub most_added_clear : is_disputed (four 0b100 0b100 0b100 0b001) ≡ false
  -- 100, 100, 010, 010 mean none
  pub even_split : justification_by Justified (four 0b100 0b100 0b010 0b010) ≡ Unchanged
  -- and are disputed
  pub even_split_disputed : is_disputed (four 0b100 0b100 0b010 0b010) ≡ true
  -- four times 111 means none
  pub no_service_word : justification_by Justified (four 0b111 0b111 0b111 0b111) ≡ Unchanged
  -- and is disputed
  pub no_service_word_disputed : is_disputed (four 0b111 0b111 0b111 0b111) ≡ true
  -- four times 001 means deleted
  pub all_deleted : justification_by Justified (four 0b001 0b001 0b001 0b001) ≡ Deleted
  -- and is not disputed
  pub all_deleted_clear : is_disputed (four 0b001 0b001 0b001 0b001) ≡ false
  -- a frame whose only 1 is bit 2559 has the remainder 1
  pub remainder_of_last : remainder (ones_at (2559 ∷ [])) ≡ 1
  -- a frame whose only 1 is bit 2543, of the power x^16, has the remainder 0x1021
  pub remainder_of_x16 : remainder (ones_at (2543 ∷ [])) ≡ 0x1021
  -- whatever a frame carries: two wrong patterns, with P21 of subframes 1 and 2 inverted, leave the receiver aligned after P36 of subframe 2
  pub two_wrong : (c : Content) → standing (received c 1216 (335 ∷ 975 ∷ [])) ≡ (3, 2)
  -- wrong, wrong, right keeps alignment: after P36 of subframe 3 none is counted
  pub third_right : (c : Content) → standing (received c 1856 (335 ∷ 975 ∷ [])) ≡ (3, 0)
  -- with P21 of subframe 3 inverted too, alignment stands until P36 of subframe 3
  pub third_awaited : (c : Content) → standing (received c 1855 (335 ∷ 975 ∷ 1615 ∷ [])) ≡ (3, 2)
  -- three wrong lose alignment: after P36 of subframe 3 the receiver hunts
  pub third_wrong : (c : Content) → standing (received c 1856 (335 ∷ 975 ∷ 1615 ∷ [])) ≡ (0, 0)
  -- in any frame and mode: wrong, wrong, right keeps alignment, with none counted
  pub keeps : (q : Progress) (x : Receiver) → after_patterns q x (false ∷ false ∷ true ∷ []) ≡ Aligned q 0
  -- in any frame and mode: three wrong lose alignment
  pub loses : (q : Progress) (x : Receiver) → after_patterns q x (false ∷ false ∷ false ∷ []) ≡ hunting_state
  -- two takes on a fresh pattern channel, whichever of the 80, answer 7 and then 190
  pub first_taken : (n : ℕ) → is_channel n ≡ true → passed pattern_meaning n (taken_by pattern_meaning n) (as_account fresh) (Take ∷ Take ∷ []) ≡ marked 7 ∷ marked 190 ∷ []
