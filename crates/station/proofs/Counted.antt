-- One slot more: accounts and records as defined by place move as one take and one alternation move them.
use Rattle.std.proofs.Common.{◌≡◌, ℕ, zero, suc, ◌+◌, ◌-◌, ◌<◌, ◌≤◌, false, cond, List, [], ◌∷◌, set, IfSome, Some, None, Option, sym, refl, ap, subst, ⊎_elim, add-one, arith}
use Rattle.std.proofs.lemmas.Bool.{cases_eq, eq-eqb, ne_eqb}
use Rattle.bank.specs.Meaning.{Accounts, Meaning}
use Rattle.station.specs.declared.line.ChannelRecord.{ChannelRecord}
use Rattle.station.specs.declared.line.Line.{Line}
use Rattle.station.specs.Lines.{alternated_record, entry, with_records}
use Rattle.station.specs.Sending.{Owners, accounts_past, after_takes, alternated, before, is_owner, line_past, records_for, records_from, taken_for}

-- the count of a channel's slots
before_more : (owner : Owners) (c k : ℕ) → before owner c (k + 1) ≡ cond (is_owner (owner k) c) (suc (before owner c k)) (before owner c k)
unfolding before
before_more owner c k = rw add-one (grind arith)

-- accounts
pub taken_none : (m : Meaning) (owner : Owners) (f : Accounts) → taken_for m owner f 0 ≡ f
unfolding taken_for after_takes before
taken_none m owner f = refl

module _ (m : Meaning) (owner : Owners) (f : Accounts) (k : ℕ) where
  taken_at : (o : Option ℕ) → owner k ≡ o → (c : ℕ) → accounts_past m o (taken_for m owner f k) c ≡ taken_for m owner f (k + 1) c
  unfolding taken_for after_takes
  taken_at None e c = rw (before_more owner c k, e)
  taken_at (Some d) e c =
      ⊎_elim (λ same. subst (λ n. accounts_past m (Some d) (taken_for m owner f k) n ≡ taken_for m owner f (k + 1) n) (sym same) (rw (before_more owner d k, e, eq-eqb d d refl)))
      (λ ne. rw (before_more owner c k, e, ne_eqb c d ne, ne_eqb d c (λ q. ne (sym q)))) (cases_eq c d)

  pub taken_more : accounts_past m (owner k) (taken_for m owner f k) ≡ taken_for m owner f (k + 1)
  taken_more = λ i c. taken_at (owner k) refl c i

-- records
module _ (owner : Owners) where
  pub records_none : (c : ℕ) (rs : List ChannelRecord) → records_from owner 0 c rs ≡ rs
  unfolding records_from alternated before
  records_none c [] = refl
  records_none c (r ∷ rs) = ap (λ xs. r ∷ xs) (records_none (suc c) rs)

  -- where none of the channels owns slot k, their records stay
  pub records_same : (k c : ℕ) (rs : List ChannelRecord) → ((d : ℕ) → c ≤ d → is_owner (owner k) d ≡ false) → records_from owner k c rs ≡ records_from owner (k + 1) c rs
  unfolding records_from
  records_same k c [] none = refl
  records_same k c (r ∷ rs) none = rw (before_more owner c k, none c (omega arith), records_same k (suc c) rs (λ d h. none d (omega arith)))

  -- the owner of slot k alternates
  pub records_one : (k d : ℕ) → owner k ≡ Some d → (n c : ℕ) (rs : List ChannelRecord) → d ≡ c + n → set (records_from owner k c rs) n (alternated_record (entry (records_from owner k c rs) n)) ≡ records_from owner (k + 1) c rs
  unfolding records_from alternated
  records_one k d e n c [] is = refl
  records_one k d e zero c (r ∷ rs) is =
      rw (before_more owner c k, e, eq-eqb d c (omega arith), records_same k (suc c) rs (λ x h. rw (e, ne_eqb d x (λ q. omega arith))))
  records_one k d e (suc n) c (r ∷ rs) is = rw (before_more owner c k, e, ne_eqb d c (λ q. omega arith), records_one k d e n (suc c) rs (omega arith))

  records_at : (rs : List ChannelRecord) (k : ℕ) (o : Option ℕ) → owner k ≡ o → IfSome o (λ c. (0 < c) × (c ≤ 80)) → (l : Line) → line_past o (with_records (records_for owner rs k) l) ≡ with_records (records_for owner rs (k + 1)) l
  records_at rs k None e known l = rw (records_same k 1 rs (λ d h. rw e))
  records_at rs k (Some d) e known l = rw (records_one k d e (d - 1) 1 rs (omega (arith, known.0)))

  pub records_more : (rs : List ChannelRecord) (k : ℕ) → IfSome (owner k) (λ c. (0 < c) × (c ≤ 80)) → (l : Line) → line_past (owner k) (with_records (records_for owner rs k) l) ≡ with_records (records_for owner rs (k + 1)) l
  records_more rs k known l = records_at rs k (owner k) refl known l
