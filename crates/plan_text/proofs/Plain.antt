-- Plain digits: what a field with a fault in it is, and what a number is written as.
use Rattle.std.proofs.Common.{◌≡◌, ℕ, ◌+◌, ◌-◌, ◌*◌, ◌<◌, ◌≤◌, Bool, true, false, cond, ◌&&◌, ltb, List, [], ◌∷◌, length, get_or, drop, Some, None, decimal, Option, sym, refl, ap, ◌∙◌, subst, ⊎_elim, arith, rules}
use Rattle.std.specs.Str.{all_ascii_digits}
use Rattle.std.proofs.lemmas.Fmt.{decimal_digit, decimal-digits_value, digits_decimal, digits_value-decimal, decimal_nonempty, first_decimal}
use Rattle.std.proofs.lemmas.Str.Parse.{IsNumeralModel, numerals_by_fold, tells_all_ascii_digits}
use Rattle.std.proofs.lemmas.Bool.{cond-true, cases_eq}
use Rattle.std.proofs.lemmas.List.{at_drop_more}
use Rattle.std.proofs.lemmas.Bool.Decides.{nat_tests}
use Rattle.plan_text.specs.Numbers.{reading, opens, digits_of, number_of, Writes}

own : IsNumeralModel (λ ds. all_ascii_digits ds ≡ true) (reading 0)
own = numerals_by_fold _ tells_all_ascii_digits reading (search rules)

-- what is read only grows
pub reading_ge : (n : ℕ) (ds : List ℕ) → n ≤ reading n ds
reading_ge n [] = omega arith
reading_ge n (d ∷ ds) = omega (arith, reading_ge (n * 10 + (d - 48)) ds)

-- what is read from a digit on is at least what it makes of what was read before
pub reading_past : (n : ℕ) (ds : List ℕ) (i : ℕ) → i < length ds → n * 10 + (get_or ds i 0 - 48) ≤ reading n (drop i ds)
reading_past n ds i h = subst (λ m. n * 10 + (get_or ds i 0 - 48) ≤ m) (sym (at_drop_more (reading n) ds i 0 h)) (reading_ge (n * 10 + (get_or ds i 0 - 48)) (drop (i + 1) ds))

-- where a field has a number, it opens well, and is digits that fit
parts : (f : List ℕ) (n : ℕ) → number_of f ≡ Some n → (opens f ≡ true) × (all_ascii_digits f ≡ true) × (reading 0 f < 65536) × (n ≡ reading 0 f)
unfolding number_of
parts f n e = at (opens f) (all_ascii_digits f) (ltb (reading 0 f) 65536) refl refl refl e
  where
    at : (x y z : Bool) → opens f ≡ x → all_ascii_digits f ≡ y → ltb (reading 0 f) 65536 ≡ z → cond x (cond (y && z) (Some (reading 0 f)) None) None ≡ Some n → (opens f ≡ true) × (all_ascii_digits f ≡ true) × (reading 0 f < 65536) × (n ≡ reading 0 f)
    at true true true p q r e = (p, q, grind (arith, nat_tests), cc)
    at true true false p q r e = cc
    at true false z p q r e = cc
    at false y z p q r e = cc

whole : (f : List ℕ) → opens f ≡ true → all_ascii_digits f ≡ true → reading 0 f < 65536 → number_of f ≡ Some (reading 0 f)
unfolding number_of
whole f p q r = cond-true (opens f) (digits_of f) None p ∙ cond-true (all_ascii_digits f && ltb (reading 0 f) 65536) (Some (reading 0 f)) None (grind (arith, nat_tests))

written_opens : (n : ℕ) → n < 65536 → opens (decimal n) ≡ true
written_opens n small =
    ⊎_elim (λ e. ap (λ m. opens (decimal m)) e ∙ ap opens (decimal_digit 0 (omega arith)))
    (λ ne. let first = first_decimal n (omega arith) (omega arith) in let some = decimal_nonempty n (omega arith) in grind (arith, nat_tests)) (cases_eq n 0)

pub writes : (f : List ℕ) (n : ℕ) → Writes f (number_of f) n
writes f n = record { written = written; only = only }
  where
    written : number_of f ≡ Some n → (n < 65536) × (f ≡ decimal n)
    written e =
        let p = parts f n e in
        let opened = p.0 in
        (omega (arith, p.2, p.3), sym (decimal-digits_value own f p.1 (grind (arith, nat_tests)) (λ zero. grind (arith, nat_tests)) (omega (arith, p.2))) ∙ ap decimal (sym p.3))

    only : n < 65536 → f ≡ decimal n → number_of f ≡ Some n
    only small e =
        let v : reading 0 (decimal n) ≡ n = digits_value-decimal own n (omega arith) in
        ap number_of e ∙ whole (decimal n) (written_opens n small) (digits_decimal own n (omega arith)) (omega arith) ∙ ap Some v

-- so what is said of the value is said of the writing
pub writes_by : (f : List ℕ) (r : Option ℕ) → r ≡ number_of f → (n : ℕ) → Writes f r n
writes_by f r e n = subst (λ o. Writes f o n) (sym e) (writes f n)
