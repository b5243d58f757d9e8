-- The four words of a frame, counted as a list and one by one.
use Rattle.std.proofs.Common.{◌≡◌, ℕ, cond, List, [], ◌∷◌, length, Option, Some, None, count_by, eqb, leb, refl, ap, arith}
use Rattle.std.specs.Option.{option_eq}
use Rattle.reception.specs.Words.{has_majority, is_word, shown}

one_word : (o : Option ℕ) (w : ℕ) → cond (option_eq eqb o (Some w)) 1 0 ≡ is_word o w
one_word None w = refl
one_word (Some v) w = refl

shown_is : (ws : List (Option ℕ)) (w n : ℕ) → length ws ≡ 4 → n ≡ count_by (λ o. option_eq eqb o (Some w)) ws → n ≡ shown ws w
shown_is (a ∷ b ∷ c ∷ d ∷ []) w n long e = omega (arith, one_word a w, one_word b w, one_word c w, one_word d w)
shown_is [] w n long e = absurd (omega arith)
shown_is (a ∷ []) w n long e = absurd (omega arith)
shown_is (a ∷ b ∷ []) w n long e = absurd (omega arith)
shown_is (a ∷ b ∷ c ∷ []) w n long e = absurd (omega arith)
shown_is (a ∷ b ∷ c ∷ d ∷ f ∷ ws) w n long e = absurd (omega arith)

pub majority_counted : (ws : List (Option ℕ)) (w n : ℕ) → length ws ≡ 4 → n ≡ count_by (λ o. option_eq eqb o (Some w)) ws → leb 3 n ≡ has_majority ws w
unfolding has_majority
majority_counted ws w n long e = ap (leb 3) (shown_is ws w n long e)
