-- The first case of a script, and the others; and a script cut where a case begins.
use Rattle.std.proofs.Common.{◌≡◌, Ok, Err, Result, ℕ, ◌+◌, suc, Bool, true, false, cond, not, ltb, List, [], ◌∷◌, ◌++◌, length, String, take, drop, refl, ap, ◌∙◌, sym, arith}
use Rattle.std.proofs.lemmas.Bool.{cond-true}
use Rattle.std.proofs.lemmas.Bool.Decides.{nat_tests}
use Rattle.std.proofs.lemmas.List.Sums.{prefix_len-le-length}
use Rattle.std.proofs.Math.Numerals.{add-one}
use Rattle.std.specs.List.{onto_first, position, position_or_len}
use Rattle.std.specs.Option.{unwrap_or}
use Rattle.std.specs.Result.{IsErrAnd}
use Rattle.script.specs.Cases.{Cut, begins_named, cases_by}

-- where a case begins at each line of which `starts` holds
module _ {Z : Type 0} (starts : String Z → Bool) where
  -- the lines up to the next that begins a case, and the cases of those from there on
  first_suc : (x : String Z) (xs : List (String Z))
      → cases_by starts (x ∷ xs) ≡ take (suc (position_or_len starts xs)) (x ∷ xs) ∷ cases_by starts (drop (suc (position_or_len starts xs)) (x ∷ xs))
  first_suc x [] = refl
  first_suc x (y ∷ ys) =
      elim (starts y) as (λ b.
      cond b ((x ∷ []) ∷ cases_by starts (y ∷ ys)) (onto_first x (cases_by starts (y ∷ ys)))
      ≡ (x ∷ take (cond (not b) (1 + position_or_len starts ys) 0) (y ∷ ys)) ∷ cases_by starts (drop (cond (not b) (1 + position_or_len starts ys) 0) (y ∷ ys))) [
        | true ↦ refl
        | false ↦ ap (onto_first x) (first_suc y ys) ∙ ap (λ n. (x ∷ take n (y ∷ ys)) ∷ cases_by starts (drop n (y ∷ ys))) one_more
      ]
    where
      one_more : suc (position_or_len starts ys) ≡ 1 + position_or_len starts ys
      one_more = omega arith

  -- the place of the next case, or the end
  next_place : (xs : List (String Z)) → unwrap_or (position starts xs) (length xs) ≡ position_or_len starts xs
  next_place xs = at (ltb (position_or_len starts xs) (length xs)) refl
    where
      at : (b : Bool) → ltb (position_or_len starts xs) (length xs) ≡ b → unwrap_or (position starts xs) (length xs) ≡ position_or_len starts xs
      at true e = rw e refl
      at false e = rw e (grind (arith, nat_tests, prefix_len-le-length))

  pub first_cut : (x : String Z) (xs : List (String Z)) (n : ℕ) → n ≡ unwrap_or (position starts xs) (length xs)
      → cases_by starts (x ∷ xs) ≡ take (n + 1) (x ∷ xs) ∷ cases_by starts (drop (n + 1) (x ∷ xs))
  first_cut x xs n e = rw (e ∙ next_place xs) (rw (add-one (position_or_len starts xs)) (first_suc x xs))

  onto : (x : String Z) (c : List (String Z)) (cs ds parts : List (List (String Z))) → parts ≡ c ∷ cs → onto_first x (parts ++ ds) ≡ onto_first x parts ++ ds
  onto x c cs ds parts e = rw e refl

  -- a case that begins behind other lines is none of theirs
  apart : (line : String Z) (after : List (String Z)) → starts line ≡ true → (x : String Z) (xs : List (String Z))
      → cases_by starts (x ∷ (xs ++ line ∷ after)) ≡ cases_by starts (x ∷ xs) ++ cases_by starts (line ∷ after)
  apart line after b x [] = cond-true (starts line) _ _ b
  apart line after b x (y ∷ ys) =
      elim (starts y) as (λ c.
      cond c ((x ∷ []) ∷ cases_by starts (y ∷ (ys ++ line ∷ after))) (onto_first x (cases_by starts (y ∷ (ys ++ line ∷ after))))
      ≡ cond c ((x ∷ []) ∷ cases_by starts (y ∷ ys)) (onto_first x (cases_by starts (y ∷ ys))) ++ cases_by starts (line ∷ after)) [
        | true ↦ ap (λ cs. (x ∷ []) ∷ cs) (apart line after b y ys)
        | false ↦ ap (onto_first x) (apart line after b y ys) ∙ onto x _ _ (cases_by starts (line ∷ after)) (cases_by starts (y ∷ ys)) (first_suc y ys)
      ]

  cut_by : (line : String Z) (after : List (String Z)) (b : Bool) → starts line ≡ b → (xs : List (String Z))
      → cases_by starts (xs ++ line ∷ after) ≡ cond b (cases_by starts xs) [] ++ cases_by starts (cond b [] xs ++ line ∷ after)
  cut_by line after true e [] = refl
  cut_by line after true e (x ∷ xs) = apart line after e x xs
  cut_by line after false e xs = refl

pub cut_at : {Z : Type 0} (lines : List (String Z)) (line : String Z) → Cut lines line
cut_at lines line = λ after. cut_by begins_named line after (begins_named line) refl lines

pub is_that_err : {X E : Type 0} (r : Result X E) (e : E) → IsErrAnd r (λ d. d ≡ e) → Err e ≡ r
is_that_err (Ok x) e h = absurd h
is_that_err (Err d) e h = ap (λ d. Err d) (sym h)
