-- The words of a line, which single spaces separate, and what they say.
use Rattle.std.specs.Prelude.{ℕ, Bool, false, cond, ◌&&◌, List, length, Some, None, Option, ◌==◌, nat_lt, slice_get}
use Rattle.std.specs.List.{slice_split}
use Rattle.std.specs.Option.{unwrap_or}
use Rattle.std.specs.Str.{all_ascii_digits, bytes_eq}
use Rattle.std.specs.Str.Parse.{digits_value, without_leading_plus}
use Rattle.plan_text.specs.Numbers.{number_of}

abbrev pub words : List ℕ → List (List ℕ)
words line = slice_split (λ b. b == 32) line

abbrev pub word_at : List ℕ → ℕ → Option (List ℕ)
word_at line place = slice_get (words line) place

-- a word that is no number in plain digits counts as 0
abbrev pub number_in : Option (List ℕ) → ℕ
number_in None = 0
number_in (Some word) = unwrap_or (number_of word) 0

abbrev pub number_at : List ℕ → ℕ → ℕ
number_at line place = number_in (word_at line place)

-- a word parses as a number where it is decimal digits, after a plus or none, and what they write is below 65536
abbrev pub is_number : List ℕ → Bool
is_number word = nat_lt 0 (length (without_leading_plus word)) && (all_ascii_digits (without_leading_plus word) && nat_lt (digits_value 10 (without_leading_plus word)) 65536)

-- a word that doesn't parse counts as 0
abbrev pub parsed_in : Option (List ℕ) → ℕ
parsed_in None = 0
parsed_in (Some word) = cond (is_number word) (digits_value 10 (without_leading_plus word)) 0

abbrev pub parsed_at : List ℕ → ℕ → ℕ
parsed_at line place = parsed_in (word_at line place)

abbrev pub is_word : Option (List ℕ) → List ℕ → Bool
is_word None text = false
is_word (Some word) text = bytes_eq word text
