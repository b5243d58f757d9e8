-- The examples, computed.
use Rattle.std.proofs.Common.{refl}
use Rattle.bank.specs.Runs.{after_call, passed}
use Rattle.pattern_bank.specs.Meaning.{as_account, as_pattern}
use Rattle.pattern_bank.specs.Register.{bits_from}
use Rattle.frame.specs.Checks.{divide, flipped, remainder_after}
use Rattle.frame.specs.Frames.{frame, frame_bit}
use Rattle.reception.specs.Steps.{stepped}
use Rattle.reception.specs.Words.{has_majority}
use Rattle.settled.specs.Examples.{Settled}

pub settled : Settled
unfolding as_account as_pattern bits_from divide flipped frame frame_bit has_majority passed remainder_after stepped
settled = record {
  pattern_begins = refl;
  pattern_place = refl;
  number_ends = refl;
  number_place = refl;
  slot_one_places = refl;
  slot_one_front = refl;
  slot_one_gap = refl;
  slot_one_back = refl;
  last_slot_places = refl;
  last_slot_bits = refl;
  most_added = refl;
  most_added_clear = refl;
  even_split = refl;
  even_split_disputed = refl;
  no_service_word = refl;
  no_service_word_disputed = refl;
  all_deleted = refl;
  all_deleted_clear = refl;
  remainder_of_last = refl;
  remainder_of_x16 = refl;
  two_wrong = λ c. refl;
  third_right = λ c. refl;
  third_awaited = λ c. refl;
  third_wrong = λ c. refl;
  keeps = λ q x. refl;
  loses = λ q x. refl;
  first_taken = λ n t. simp (t, after_call);
}
