-- The number that a word writes, as it is parsed.
use Rattle.std.proofs.Common.{◌≡◌, ℕ, ◌<◌, ◌^◌, true, List, Ok, Err, Result, Some, sym, ◌∙◌}
use Rattle.std.proofs.lemmas.Bool.{and_from, and_parts, cond-false, cond-true, false_from_ne_true, lt-ltb, ltb-true}
use Rattle.std.proofs.lemmas.Str.Parse.{numerals_by_value, tells_all_ascii_digits}
use Rattle.std.specs.Option.{unwrap_or}
use Rattle.std.specs.Result.{result_ok}
use Rattle.std.specs.Str.Parse.{IsNumeral, ParsesUnsigned, digits_value, without_leading_plus}
use Rattle.script.specs.Words.{is_number, parsed_in}

abbrev Numeral : List ℕ → Type 0
Numeral word = IsNumeral 10 (without_leading_plus word) × (digits_value 10 (without_leading_plus word) < 2 ^ 16)

told : (word : List ℕ) → Numeral word → is_number word ≡ true
told word h =
    and_from _ _ (lt-ltb _ _ h.0.0)
    (and_from _ _ ((numerals_by_value _ tells_all_ascii_digits).from _ h.0.1) (lt-ltb _ _ h.1))

meant : (word : List ℕ) → is_number word ≡ true → Numeral word
meant word t =
    let parts = and_parts _ _ t in
    let others = and_parts _ _ parts.1 in
    ((ltb-true _ _ parts.0, (numerals_by_value _ tells_all_ascii_digits).to _ others.0), ltb-true _ _ others.1)

-- what is read in a word, or 0
pub read : {E : Type 0} (word : List ℕ) (r : Result ℕ E) → ParsesUnsigned 16 10 word r → unwrap_or (result_ok r) 0 ≡ parsed_in (Some word)
read word (Ok n) h = h.1 ∙ sym (cond-true (is_number word) _ _ (told word h.0))
read word (Err e) h = sym (cond-false (is_number word) _ _ (false_from_ne_true _ (λ t. h (meant word t))))
