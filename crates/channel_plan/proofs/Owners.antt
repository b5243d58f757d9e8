-- The owner that a table answers for a slot is the one channel that has it.
use Rattle.std.proofs.Common.{◌≡◌, ℕ, zero, suc, ◌+◌, ◌-◌, ◌<◌, ◌≤◌, Bool, true, false, cond, [], ◌∷◌, length, get_or, IfSome, Some, None, Option, sym, refl, ap, ◌∙◌, subst, arith}
use Rattle.std.proofs.lemmas.Bool.{eqb-true, eq-eqb, cond-true, cond-false, false≢true}
use Rattle.std.proofs.lemmas.Bool.Decides.{nat_tests}
use Rattle.channel_plan.specs.declared.row.Assignment.{Assignment}
use Rattle.channel_plan.specs.Rows.{owns}
use Rattle.channel_plan.specs.Entries.{Entries, is_channel, row_at, passes, holds, owner_from, Apart}
use Rattle.channel_plan.specs.Tables.{Owns, OwnerIs}

-- the owner found from channel k on is among the entries, and its row has the slot
pub record Found (k : ℕ) (t : Entries) (s c : ℕ) : Type 0 where
  pub from : k ≤ c
  pub within : c < k + length t
  pub has : passes (λ a. owns a s) (get_or t (c - k) None) ≡ true

found_more : (k : ℕ) (o : Option Assignment) (t : Entries) (s c : ℕ) → Found (k + 1) t s c → Found k (o ∷ t) s c
found_more k o t s c rest = record {
  from = omega (arith, rest.from);
  within = omega (arith, rest.within);
  has = subst (λ n. passes (λ a. owns a s) (get_or (o ∷ t) n None) ≡ true) (next rest.from) rest.has;
}
  where
    next : k + 1 ≤ c → suc (c - (k + 1)) ≡ c - k
    next h = omega arith

found : (k : ℕ) (t : Entries) (s c : ℕ) → owner_from k t s ≡ Some c → Found k t s c
found k [] s c e = cc
found k (o ∷ t) s c e = at (passes (λ a. owns a s) o) refl e (found (k + 1) t s c)
  where
    at : (b : Bool) → passes (λ a. owns a s) o ≡ b → cond b (Some k) (owner_from (k + 1) t s) ≡ Some c → (owner_from (k + 1) t s ≡ Some c → Found (k + 1) t s c) → Found k (o ∷ t) s c
    at true p q rest =
        let same : k ≡ c = cc in
        let first : zero ≡ c - k = omega arith in
        record { from = omega arith; within = omega arith; has = subst (λ n. passes (λ a. owns a s) (get_or (o ∷ t) n None) ≡ true) first p }
    at false p q rest = found_more k o t s c (rest q)

finds : (k : ℕ) (t : Entries) (s j : ℕ) → passes (λ a. owns a s) (get_or t j None) ≡ true → (d : ℕ) × (owner_from k t s ≡ Some d)
finds k [] s j h = absurd (false≢true h)
finds k (o ∷ t) s zero h = (k, cond-true _ _ _ h)
finds k (o ∷ t) s (suc j) h = at (passes (λ a. owns a s) o) (finds (k + 1) t s j h)
  where
    at : (b : Bool) → (d : ℕ) × (owner_from (k + 1) t s ≡ Some d) → (d : ℕ) × (cond b (Some k) (owner_from (k + 1) t s) ≡ Some d)
    at true rest = (k, refl)
    at false rest = rest

-- where no entry has the slot it has no owner
pub owner_none : (k : ℕ) (t : Entries) (s : ℕ) → ((j : ℕ) → j < length t → passes (λ a. owns a s) (get_or t j None) ≡ false) → owner_from k t s ≡ None
owner_none k [] s none = refl
owner_none k (o ∷ t) s none = cond-false _ _ _ (none 0 (omega arith)) ∙ owner_none (k + 1) t s (λ j h. none (suc j) (omega arith))

-- the first entry that has the slot is that of its owner
pub owner_first : (k : ℕ) (t : Entries) (s i : ℕ) → i < length t → passes (λ a. owns a s) (get_or t i None) ≡ true → ((j : ℕ) → j < i → passes (λ a. owns a s) (get_or t j None) ≡ false) → owner_from k t s ≡ Some (i + k)
owner_first k [] s i h has before = absurd (omega arith)
owner_first k (o ∷ t) s zero h has before = cond-true _ _ _ has ∙ ap Some (omega arith)
owner_first k (o ∷ t) s (suc i) h has before =
    let later : owner_from (k + 1) t s ≡ Some (i + (k + 1)) = owner_first (k + 1) t s i (omega arith) has (λ j low. before (suc j) (omega arith)) in
    cond-false _ _ _ (before 0 (omega arith)) ∙ later ∙ ap Some (omega arith)

-- a look-up inside the table
row_at_entry : (t : Entries) (c : ℕ) → 1 ≤ c → c ≤ 80 → row_at t c ≡ get_or t (c - 1) None
row_at_entry t c low high = cond-true (is_channel c) _ _ (grind (arith, nat_tests))

-- what a row that has the slot says
row_says : (t : Entries) (c s : ℕ) → s < 240 → holds t c s ≡ true → Owns t c s
row_says t c s h e = at (row_at t c) refl e
  where
    at : (o : Option Assignment) → row_at t c ≡ o → passes (λ a. owns a s) o ≡ true → Owns t c s
    at None p q = absurd (false≢true q)
    at (Some a) p q = record { row = a; there = p; framed = h; falls = eqb-true _ _ q }

owns_holds : (t : Entries) (c s : ℕ) → Owns t c s → holds t c s ≡ true
owns_holds t c s o = ap (passes (λ a. owns a s)) o.there ∙ eq-eqb _ _ o.falls

-- a channel that has a row is one of the eighty
is_channel_lem : (t : Entries) (c : ℕ) (a : Assignment) → row_at t c ≡ Some a → is_channel c ≡ true
is_channel_lem t c a e = at (is_channel c) refl e
  where
    at : (b : Bool) → is_channel c ≡ b → cond b (get_or t (c - 1) None) None ≡ Some a → is_channel c ≡ true
    at true p q = p
    at false p q = cc

-- an owner is one of the eighty channels
pub owner_known : (t : Entries) (s : ℕ) → length t ≡ 80 → IfSome (owner_from 1 t s) (λ c. (0 < c) × (c ≤ 80))
owner_known t s long = at (owner_from 1 t s) refl
  where
    at : (o : Option ℕ) → owner_from 1 t s ≡ o → IfSome o (λ c. (0 < c) × (c ≤ 80))
    at None e = tt
    at (Some c) e = let f = found 1 t s c e in (omega (arith, f.from), omega (arith, f.within))

module _ (t : Entries) (long : length t ≡ 80) (apart : Apart t) (s : ℕ) (framed : s < 240) where
  owner_holds : (c : ℕ) → owner_from 1 t s ≡ Some c → holds t c s ≡ true
  owner_holds c e =
      let f = found 1 t s c e in
      ap (passes (λ a. owns a s)) (row_at_entry t c f.from (omega (arith, f.within))) ∙ f.has

  one_owner : (c d : ℕ) → holds t c s ≡ true → holds t d s ≡ true → c ≡ d
  one_owner c d p q = let none = apart c d s in grind (arith, nat_tests)

  pub owner_is : (c : ℕ) → OwnerIs t s (owner_from 1 t s) c
  owner_is c = record { owner = λ e. row_says t c s framed (owner_holds c e); only = only }
    where
      only : Owns t c s → owner_from 1 t s ≡ Some c
      only o =
          let in-range = is_channel_lem t c o.row o.there in
          let there : passes (λ a. owns a s) (get_or t (c - 1) None) ≡ true = ap (passes (λ a. owns a s)) (sym (row_at_entry t c (grind (arith, nat_tests)) (grind (arith, nat_tests)))) ∙ owns_holds t c s o in
          let d = finds 1 t s (c - 1) there in
          d.1 ∙ ap Some (one_owner d.0 c (owner_holds d.0 d.1) (owns_holds t c s o))
