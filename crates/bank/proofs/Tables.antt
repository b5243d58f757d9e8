-- The accounts of a row of channels after a write to one of them.
use Rattle.std.proofs.Common.{◌≡◌, ℕ, zero, suc, ◌-◌, ◌<◌, ◌≤◌, Bool, true, false, cond, Some, None, eqb, leb, List, [], ◌∷◌, map, length, get_or, set, sym, refl, ap, ◌∙◌, ⊎_elim, arith}
use mathlib.Core.Path.{fun_ext}
use lib.ListN.{length-map}
use Rattle.std.proofs.lemmas.List.{get_or-set_same, get_or-set_other, get_or-map, map-set, get_or_past}
use Rattle.std.proofs.lemmas.Bool.{cases_eq, cases_lt, cond-true, cond-false, cond_both, eq-eqb, ne_eqb, eqb-true, leb-true, leb-false, and_parts, and_cases}
use Rattle.bank.specs.Meaning.{Accounts, is_channel, index_of, put_at}
use Rattle.bank.specs.Channels.{table, on_each}

pub channel_low : (n : ℕ) → is_channel n ≡ true → 1 ≤ n
channel_low n t = leb-true 1 n (and_parts (leb 1 n) (leb n 80) t).0

pub channel_high : (n : ℕ) → is_channel n ≡ true → n ≤ 80
channel_high n t = leb-true n 80 (and_parts (leb 1 n) (leb n 80) t).1

-- the index of a channel's row
pub index_is : (n i : ℕ) → index_of n ≡ Some i → (is_channel n ≡ true) × (i ≡ n - 1)
index_is n i = at (is_channel n) refl
  where
    at : (b : Bool) → is_channel n ≡ b → cond b (Some (n - 1)) None ≡ Some i → (is_channel n ≡ true) × (i ≡ n - 1)
    at true t e = (t, cc)
    at false t e = absurd cc

-- what stands there already
pub put_at_left : (n : ℕ) (a : List ℕ) (f : Accounts) → a ≡ f n → put_at n a f ≡ f
put_at_left n a f e = fun_ext (λ k. cond_both (eqb k n) a (f k) (λ b. b ≡ f k) (λ t. e ∙ ap f (sym (eqb-true k n t))) (λ _. refl))

get_or_set : {X : Type 0} (l : List X) (n : ℕ) (v : X) (k : ℕ) (d : X) → n < length l → get_or (set l n v) k d ≡ cond (eqb k n) v (get_or l k d)
get_or_set l n v k d lt =
    ⊎_elim
    (λ (e : k ≡ n). ap (λ j. get_or (set l n v) j d) e ∙ get_or-set_same l n v d lt ∙ sym (cond-true (eqb k n) v (get_or l k d) (eq-eqb k n e)))
    (λ (ne : k ≡ n → ⊥). get_or-set_other l n k v d ne ∙ sym (cond-false (eqb k n) v (get_or l k d) (ne_eqb k n ne)))
    (cases_eq k n)

module _ {X : Type 0} (f : X → List ℕ) where
  -- a write to the place of channel n
  pub table_set : (xs : List X) (n : ℕ) (x : X) → 1 ≤ n → n ≤ length xs → table f (set xs (n - 1) x) ≡ put_at n (f x) (table f xs)
  table_set xs n x low high =
      let e : suc (n - 1) ≡ n = omega arith in
      let len : length (map f xs) ≡ length xs = length-map xs f in
      fun_ext
      (λ k.
      ap (λ l. get_or ([] ∷ l) k []) (map-set f xs (n - 1) x)
      ∙ get_or_set ([] ∷ map f xs) (suc (n - 1)) (f x) k [] (omega arith)
      ∙ ap (λ j. cond (eqb k j) (f x) (table f xs k)) e)

  -- what channel n has
  pub table_at : (xs : List X) (n : ℕ) (d : X) → 1 ≤ n → n ≤ length xs → table f xs n ≡ f (get_or xs (n - 1) d)
  table_at xs n d low high =
      let e : n ≡ suc (n - 1) = omega arith in
      ap (table f xs) e ∙ get_or-map f xs (n - 1) d [] (omega arith)

  -- a number that is no channel has the empty list
  pub table_outside : (xs : List X) (n : ℕ) → length xs ≡ 80 → is_channel n ≡ false → table f xs n ≡ []
  table_outside xs n len t =
      let same : length (map f xs) ≡ length xs = length-map xs f in
      ⊎_elim
      (λ (z : leb 1 n ≡ false). let low = leb-false 1 n z in let e : n ≡ 0 = omega arith in ap (table f xs) e)
      (λ (h : leb n 80 ≡ false). let high = leb-false n 80 h in get_or_past ([] ∷ map f xs) n [] (omega arith))
      (and_cases (leb 1 n) (leb n 80) t)

  -- 80 channels that all have the account a
  pub table_each : (xs : List X) (d : X) (a : List ℕ) → length xs ≡ 80 → ((k : ℕ) → k < 80 → f (get_or xs k d) ≡ a) → table f xs ≡ on_each a
  table_each xs d a len all =
      fun_ext
      (λ n.
      cond_both
      (is_channel n)
      a
      []
      (λ b. table f xs n ≡ b)
      (λ t.
      let low = channel_low n t in
      let high = channel_high n t in
      table_at xs n d low (omega arith) ∙ all (n - 1) (omega arith))
      (table_outside xs n len))

module _ {X : Type 0} (f g : X → List ℕ) where
  table_same : (xs : List X) (d : X) (k : ℕ) → (1 ≤ k → k - 1 < length xs → g (get_or xs (k - 1) d) ≡ f (get_or xs (k - 1) d)) → table g xs k ≡ table f xs k
  table_same xs d zero same = refl
  table_same xs d (suc j) same =
      let e : suc j - 1 ≡ j = omega arith in
      ⊎_elim
      (λ (lt : j < length xs).
      get_or-map g xs j d [] lt ∙ ap (λ i. g (get_or xs i d)) (sym e) ∙ same (omega arith) (omega arith) ∙ ap (λ i. f (get_or xs i d)) e ∙ sym (get_or-map f xs j d [] lt))
      (λ (ge : length xs ≤ j).
      let lg : length (map g xs) ≡ length xs = length-map xs g in
      let lf : length (map f xs) ≡ length xs = length-map xs f in
      get_or_past (map g xs) j [] (omega arith) ∙ sym (get_or_past (map f xs) j [] (omega arith)))
      (cases_lt j (length xs))

  -- a write to the place of channel n, where the others have what they had
  pub table_change : (xs : List X) (n : ℕ) (x : X) → 1 ≤ n → n ≤ length xs → ((k : ℕ) → k < length xs → (k ≡ n - 1 → ⊥) → g (get_or xs k x) ≡ f (get_or xs k x)) → table g (set xs (n - 1) x) ≡ put_at n (g x) (table f xs)
  table_change xs n x low high same =
      table_set g xs n x low high
      ∙ fun_ext
      (λ k.
      ⊎_elim
      (λ (e : k ≡ n). cond-true (eqb k n) (g x) (table g xs k) (eq-eqb k n e) ∙ sym (cond-true (eqb k n) (g x) (table f xs k) (eq-eqb k n e)))
      (λ (ne : k ≡ n → ⊥). ap (cond (eqb k n) (g x)) (table_same xs x k (λ l h. same (k - 1) h (λ e. ne (omega arith)))))
      (cases_eq k n))
