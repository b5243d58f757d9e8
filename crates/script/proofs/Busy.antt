-- Rows of 750 bit/s, one for each channel, which meet no refusal.
use Rattle.std.proofs.Common.{◌≡◌, ℕ, zero, suc, ◌+◌, ◌-◌, ◌%◌, ◌<◌, ◌≤◌, Bool, true, false, cond, ◌&&◌, eqb, ltb, [], ◌∷◌, length, add-zero, get_or, set, replicate, Some, None, Option, Ok, is_some, sym, refl, ap, ◌∙◌, arith}
use Rattle.std.proofs.lemmas.Bool.{and_right, cond-true, cond-false, eq-eqb, eqb-true, false≢true}
use Rattle.std.proofs.lemmas.Bool.Decides.{nat_tests}
use Rattle.std.proofs.lemmas.Grind.{get_or-set_at}
use Rattle.std.proofs.lemmas.List.{get_or-set_other}
use Rattle.channel_plan.specs.declared.rate.Rate.TheVariants.{Bps750}
use Rattle.channel_plan.specs.declared.row.Assignment.{Assignment}
use Rattle.channel_plan.specs.Adding.{admitted, assigned, conflict, unless, with_row}
use Rattle.channel_plan.specs.Outcomes.{left}
use Rattle.channel_plan.specs.Rows.{mixes, owns, shares, some_below}
use Rattle.channel_plan.specs.Entries.{Entries, is_channel, owner_among, owner_from, passes, row_at, some_row}
use Rattle.script.specs.Plans.{busy}

abbrev at : ℕ → Assignment
at k = record { rate = Bps750; first = k }

no_row : (p : Assignment → Bool) (t : Entries) → ((k : ℕ) → passes p (get_or t k None) ≡ false) → some_row p t ≡ false
no_row p [] h = refl
no_row p (o ∷ t) h = rw (h 0) (no_row p t (λ k. h (suc k)))

none_below : (p : ℕ → Bool) (n : ℕ) → ((s : ℕ) → p s ≡ false) → some_below p n ≡ false
none_below p zero h = refl
none_below p (suc n) h = rw (h n) (none_below p n h)

apart : (m j k : ℕ) → j < k → (eqb m k && eqb m j) ≡ false
apart m j k less = grind (arith, nat_tests)

not_shared : (j k : ℕ) → j < k → shares (at k) (at j) ≡ false
unfolding shares
not_shared j k less = none_below (λ s. owns (at k) s && owns (at j) s) 240 (λ s. apart (s % 80) j k less)

-- what passes at no entry of the first n passes at no row
none_of : (p : Assignment → Bool) (n : ℕ) (t : Entries) → ((k : ℕ) → get_or t k None ≡ busy n k) → ((k : ℕ) → k < n → p (at k) ≡ false) → some_row p t ≡ false
none_of p n t h out = no_row p t (λ k. ap (passes p) (h k) ∙ here k (ltb k n) refl)
  where
    here : (k : ℕ) (b : Bool) → ltb k n ≡ b → passes p (cond b (Some (at k)) None) ≡ false
    here k true e = out k (grind (arith, nat_tests))
    here k false e = refl

no_conflict : (n : ℕ) (t : Entries) → ((k : ℕ) → get_or t k None ≡ busy n k) → conflict t (at n) ≡ None
no_conflict n t h =
    cond-false (some_row (mixes (at n)) t) _ _ (none_of (mixes (at n)) n t h (λ k less. and_right _ false refl))
    ∙ cond-false (some_row (shares (at n)) t) _ _ (none_of (shares (at n)) n t h (λ k less. not_shared k n less))

back : (n : ℕ) → n + 1 - 1 ≡ n
back n = omega arith

module _ (n : ℕ) (t : Entries) (less : n < 80) (h : (k : ℕ) → get_or t k None ≡ busy n k) where
  in_range : is_channel (n + 1) ≡ true
  in_range = grind (arith, nat_tests)

  absent : row_at t (n + 1) ≡ None
  absent =
      cond-true (is_channel (n + 1)) _ _ in_range ∙ ap (λ k. get_or t k None) (back n) ∙ h n
      ∙ cond-false (ltb n n) (Some (at n)) None (grind (arith, nat_tests))

  accepted : admitted t (n + 1) 750 n ≡ Ok (at n)
  accepted =
      cond-true (is_channel (n + 1)) _ _ in_range ∙ cond-true (ltb n 80) _ _ (grind (arith, nat_tests))
      ∙ cond-false (is_some (row_at t (n + 1))) _ _ (ap is_some absent) ∙ ap (λ o. unless o (at n)) (no_conflict n t h)

  one_more : left (with_row t (n + 1) 750 n) t ≡ set t n (Some (at n))
  one_more = ap (λ r. left (assigned r t (n + 1)) t) accepted ∙ ap (λ k. set t k (Some (at n))) (back n)

  -- the row of the next channel is accepted
  pub added : length t ≡ 80 → (k : ℕ) → get_or (left (with_row t (n + 1) 750 n) t) k None ≡ busy (n + 1) k
  added long k = rw one_more (there (eqb k n) refl)
    where
      there : (b : Bool) → eqb k n ≡ b → get_or (set t n (Some (at n))) k None ≡ busy (n + 1) k
      there true e =
          let same = eqb-true k n e in
          get_or-set_at t n k (Some (at n)) None same (omega arith) ∙ ap (λ m. Some (at m)) (sym same)
          ∙ sym (cond-true (ltb k (n + 1)) _ _ (grind (arith, nat_tests)))
      there false e =
          get_or-set_other t n k _ None (λ same. grind (arith, nat_tests)) ∙ h k
          ∙ ap (λ b. cond b (Some (at k)) None) (grind (arith, nat_tests))

none_at : (m k : ℕ) → get_or {A = Option Assignment} (replicate m None) k None ≡ None
none_at zero k = refl
none_at (suc m) zero = refl
none_at (suc m) (suc k) = none_at m k

pub none_yet : (k : ℕ) → get_or {A = Option Assignment} (replicate 80 None) k None ≡ busy 0 k
none_yet k = none_at 80 k ∙ sym (cond-false (ltb k 0) _ _ (grind (arith, nat_tests)))

-- the first row that owns the slot tells its owner
owner_at : (t : Entries) (c j s : ℕ) → passes (λ a. owns a s) (get_or t j None) ≡ true → ((k : ℕ) → k < j → passes (λ a. owns a s) (get_or t k None) ≡ false) → owner_from c t s ≡ Some (c + j)
owner_at [] c j s here none = absurd (false≢true here)
owner_at (o ∷ t) c zero s here none = cond-true (passes (λ a. owns a s) o) _ _ here ∙ ap (λ n. Some n) (sym (add-zero c))
owner_at (o ∷ t) c (suc j) s here none =
    cond-false (passes (λ a. owns a s) o) _ _ (none 0 (omega arith))
    ∙ owner_at t (c + 1) j s here (λ k less. none (suc k) (omega arith))
    ∙ ap (λ n. Some n) (omega arith)

-- where every channel has 750 bit/s every slot is owned
pub owned : (t : Entries) → ((k : ℕ) → k < 80 → get_or t k None ≡ Some (at k)) → (s : ℕ) → s < 240 → owner_among t s ≡ Some (s % 80 + 1)
owned t h s less =
    cond-true (ltb s 240) _ _ (grind (arith, nat_tests))
    ∙ owner_at t 1 (s % 80) s
    (ap (passes (λ a. owns a s)) (h (s % 80) small) ∙ eq-eqb (s % 80) (s % 80) refl)
    (λ k before. ap (passes (λ a. owns a s)) (h k (omega arith)) ∙ grind (arith, nat_tests))
    ∙ ap (λ n. Some n) (omega arith)
  where
    small : s % 80 < 80
    small = omega arith

pub filled : (n : ℕ) (t : Entries) → 80 ≤ n → ((k : ℕ) → get_or t k None ≡ busy n k) → (k : ℕ) → k < 80 → get_or t k None ≡ Some (at k)
filled n t enough h k less = h k ∙ cond-true (ltb k n) _ _ (grind (arith, nat_tests))
