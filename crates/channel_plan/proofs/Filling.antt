-- What an array holds that a closure made which no call changes.
use Rattle.std.proofs.Common.{◌≡◌, ℕ, zero, suc, ◌+◌, ◌<◌, ◌≤◌, List, get_or, sym, subst, ⊎_elim, arith}
use Rattle.std.proofs.lemmas.Bool.{cases_eq}
use Rattle.std.specs.Array.{IsFromFnResultFrom}
use denote.Param.Members.{Mut, Called}

module _ {F B : Type 0} (g : Mut F (ℕ × Unit {0}) B) (f : F) (P : ℕ → B → Type 0) (kept : (i : ℕ) (y : B) (q : F) → Called g f (i, tt) y q → (q ≡ f) × P i y) (ys : List B) where
  pub filled : (n i : ℕ) (p : F) → p ≡ f → IsFromFnResultFrom g p ys i n → (k : ℕ) (d : B) → i ≤ k → k < i + n → P k (get_or ys k d)
  filled zero i p same made k d from below = absurd (omega arith)
  filled (suc n) i p same made k d from below =
      let one = kept i made.1 made.0 (subst (λ q. Called g q (i, tt) made.1 made.0) same made.3) in
      ⊎_elim (λ here. subst (λ j. P j (get_or ys j d)) (sym here) (subst (P i) (sym (made.2.1 d)) one.1))
      (λ other. filled n (i + 1) made.0 one.0 made.4 k d (omega arith) (omega arith)) (cases_eq k i)
