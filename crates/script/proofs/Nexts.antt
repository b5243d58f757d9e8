-- What calls of `next`, one after another, answer of a list.
use Rattle.std.proofs.Common.{◌≡◌, ℕ, suc, List, [], ◌∷◌, drop, Some, None, Option, refl, ap, sym, subst}
use Rattle.std.proofs.lemmas.Iterator.{YieldsList}
use Rattle.std.specs.Iterator.{AlwaysYields}
use Rattle.std.specs.List.{slice_get}
use Rattle.std.specs.Option.{option_map}

module _ {S A B : Type 0} (steps : S → Option A → S → Type 0) (v : A → B) (stays : (s t : S) → steps s None t → t ≡ s) where
  next_step : (ys : List B) (s t : S) (r : Option A) → steps s r t → AlwaysYields steps v s ys
      → (option_map v r ≡ slice_get ys 0) × AlwaysYields steps v t (drop 1 ys)
  next_step [] s t None h e = (refl, subst (λ u. AlwaysYields steps v u []) (sym (stays s t h)) e)
  next_step [] s t (Some x) h e = absurd (e x t h)
  next_step (y ∷ ys) s t None h e = absurd (e.0 t h)
  next_step (y ∷ ys) s t (Some x) h e = (ap Some (e.1 x t h).0, (e.1 x t h).1)

  -- where an iterator that has answered None stays as it is, `next` answers the first of the list, and the rest is left
  pub next_of : {ys : List B} {s : S} (t : S) (r : Option A) → steps s r t → YieldsList steps v s ys
      → (option_map v r ≡ slice_get ys 0) × YieldsList steps v t (drop 1 ys)
  next_of {ys} {s} t r h e = let m = next_step ys s t r h e.runs in (m.0, record { runs = m.1 })

pub at_drop : {X : Type 0} (n : ℕ) (xs : List X) → slice_get (drop 1 xs) n ≡ slice_get xs (suc n)
at_drop n [] = refl
at_drop n (x ∷ xs) = refl
