-- What a closure made of each index, where a fact J of what it captures holds from the first call on.
use Rattle.std.proofs.Common.{◌≡◌, ℕ, zero, suc, ◌+◌, ◌<◌, ◌≤◌, List, get_or, sym, subst, ⊎_elim, arith}
use Rattle.std.proofs.lemmas.Bool.{cases_lt}
use Rattle.std.specs.Fn.{Mut, Called}
use Rattle.std.specs.Array.{IsFromFnResultFrom}

module _ {F B : Type 0} {g : Mut F (ℕ × Unit {0}) B} (J : F → Type 0) (P : ℕ → B → Type 0) (step : (f : F) (i : ℕ) (y : B) (q : F) → J f → Called g f (i, tt) y q → P i y × J q) where
  pub each_made : (n : ℕ) (f : F) (ys : List B) (i : ℕ) → J f → IsFromFnResultFrom g f ys i n → (k : ℕ) (d : B) → i ≤ k → k < i + n → P k (get_or ys k d)
  each_made zero f ys i j made k d low high = absurd (omega arith)
  each_made (suc n) f ys i j made k d low high =
      let did = step f i made.1 made.0 j made.3 in
      ⊎_elim
      (λ (l : i < k). each_made n made.0 ys (i + 1) did.1 made.4 k d (omega arith) (omega arith))
      (λ (ge : k ≤ i).
      let e : i ≡ k = omega arith in
      subst (λ a. P a (get_or ys a d)) e (subst (P i) (sym (made.2.1 d)) did.0))
      (cases_lt i k)
