-- Look-ups in a table of rows, and what one row more keeps.
use Rattle.std.proofs.Common.{◌≡◌, ℕ, zero, suc, ◌+◌, ◌-◌, ◌<◌, ◌≤◌, Bool, true, false, cond, not, ◌&&◌, ◌||◌, eqb, ltb, [], ◌∷◌, ◌++◌, length, get_or, set, fold, is_some, IfSome, replicate, Some, None, Ok, Option, sym, refl, ap, ◌∙◌, subst, ⊎_elim, arith}
use Rattle.std.proofs.lemmas.List.{get_or-set_same, get_or-set_other, at_drop_more, at_drop_all}
use Rattle.std.proofs.lemmas.Bool.{and_right, or_parts, cases_eq, eq-eqb, ne_eqb, cond-true, cond-false, false≢true, true≢false}
use Rattle.std.proofs.lemmas.Bool.Decides.{nat_tests}
use Rattle.channel_plan.specs.declared.row.Assignment.{Assignment}
use Rattle.channel_plan.specs.Rates.{period}
use Rattle.channel_plan.specs.Rows.{owns, mixes, shares}
use Rattle.channel_plan.specs.declared.refusal.RowRefusal.TheVariants.{GroupRate, SlotTaken}
use Rattle.channel_plan.specs.Adding.{conflict, unless}
use Rattle.channel_plan.specs.Outcomes.{answer}
use Rattle.std.specs.Option.{option_to_list}
use Rattle.channel_plan.specs.Entries.{Entries, NextRow, as_row, is_channel, row_at, row_of, rows_from, rows_after, passes, some_row, holds, Below, OneRate, Apart}
use Rattle.channel_plan.proofs.Sharing.{not_shared}

-- no row at all
get_or_none : (n k : ℕ) → get_or {A = Option Assignment} (replicate n None) k None ≡ None
get_or_none zero k = refl
get_or_none (suc n) zero = refl
get_or_none (suc n) (suc k) = get_or_none n k

pub row_at_none : (c : ℕ) → row_at (replicate 80 None) c ≡ None
row_at_none c = ap (λ o. cond (is_channel c) o None) (get_or_none 80 (c - 1)) ∙ same (is_channel c)
  where
    same : (b : Bool) → cond {A = Option Assignment} b None None ≡ None
    same true = refl
    same false = refl

pub below_none : Below (replicate 80 None)
below_none c = ap (passes (λ a. not (ltb a.first (period a.rate)))) (row_at_none c)

pub one_rate_none : OneRate (replicate 80 None)
one_rate_none c d = ap (passes (λ a. passes (mixes a) (row_at (replicate 80 None) d))) (row_at_none c)

pub apart_none : Apart (replicate 80 None)
apart_none c d s =
    ap (λ o. not (eqb c d) && (ltb s 240 && (passes (λ a. owns a s) o && holds (replicate 80 None) d s))) (row_at_none c)
    ∙ and_right (not (eqb c d)) (ltb s 240 && false) (and_right (ltb s 240) false refl)

-- a row that passes is there
pub some_none : (p : Assignment → Bool) (t : Entries) → some_row p t ≡ false → (k : ℕ) → passes p (get_or t k None) ≡ false
some_none p [] h k = refl
some_none p (o ∷ t) h zero = (or_parts (passes p o) (some_row p t) h).0
some_none p (o ∷ t) h (suc k) = some_none p t (or_parts (passes p o) (some_row p t) h).1 k

pub some_none_at : (p : Assignment → Bool) (t : Entries) → some_row p t ≡ false → (c : ℕ) → passes p (row_at t c) ≡ false
some_none_at p t h c = at (is_channel c)
  where
    at : (b : Bool) → passes p (cond b (get_or t (c - 1) None) None) ≡ false
    at true = some_none p t h (c - 1)
    at false = refl

-- the table with one row more
module _ (t : Entries) (channel : ℕ) (new : Assignment) (long : length t ≡ 80) (low : 0 < channel) (high : channel ≤ 80) where
  abbrev more : Entries
  more = set t (channel - 1) (Some new)

  row_at_same : row_at more channel ≡ Some new
  row_at_same =
      cond-true (is_channel channel) _ _ (grind (arith, nat_tests)) ∙ get_or-set_same t (channel - 1) (Some new) None (omega arith)

  row_at_other : (c : ℕ) → (c ≡ channel → ⊥) → row_at more c ≡ row_at t c
  row_at_other c ne = at (is_channel c) refl
    where
      at : (b : Bool) → is_channel c ≡ b → cond b (get_or more (c - 1) None) None ≡ cond b (get_or t (c - 1) None) None
      at true e = get_or-set_other t (channel - 1) (c - 1) (Some new) None (λ same. ne (grind (arith, nat_tests)))
      at false e = refl

  pub row_at_more : (c : ℕ) → row_at more c ≡ cond (eqb c channel) (Some new) (row_at t c)
  row_at_more c =
      ⊎_elim (λ e. ap (row_at more) e ∙ row_at_same ∙ sym (cond-true (eqb c channel) _ _ (eq-eqb c channel e)))
      (λ ne. row_at_other c ne ∙ sym (cond-false (eqb c channel) _ _ (ne_eqb c channel ne))) (cases_eq c channel)

  -- what holds of the new row and of the old ones holds of all
  at_each : (P : Option Assignment → Type 0) → P (Some new) → (c : ℕ) → P (row_at t c) → P (row_at more c)
  at_each P one c old = subst P (sym (row_at_more c)) (either (eqb c channel))
    where
      either : (b : Bool) → P (cond b (Some new) (row_at t c))
      either true = one
      either false = old

  pub below_more : Below t → new.first < period new.rate → Below more
  below_more old h c = at_each (λ o. passes (λ a. not (ltb a.first (period a.rate))) o ≡ false) (grind (arith, nat_tests)) c (old c)

  pub one_rate_more : OneRate t → some_row (mixes new) t ≡ false → OneRate more
  one_rate_more old h c d =
      at_each (λ o. passes (λ a. passes (mixes a) (row_at more d)) o ≡ false)
      (at_each (λ o. passes (mixes new) o ≡ false) (grind (arith, nat_tests)) d (some_none_at (mixes new) t h d)) c
      (at_each (λ o. passes (λ a. passes (mixes a) o) (row_at t c) ≡ false) (turned (row_at t c) (some_none_at (mixes new) t h c)) d (old c d))
    where
      turned : (o : Option Assignment) → passes (mixes new) o ≡ false → passes (λ a. mixes a new) o ≡ false
      turned None e = refl
      turned (Some a) e = grind (arith, nat_tests)

  -- a slot of the new row goes to no old one
  clear : (s : ℕ) (o : Option Assignment) → passes (shares new) o ≡ false → s < 240 → (owns new s && passes (λ a. owns a s) o) ≡ false
  clear s None e h = and_right (owns new s) false refl
  clear s (Some b) e h = not_shared new b s e h

  -- channels c and d do not both have slot s by the rows o and p
  abbrev NotBoth : ℕ → ℕ → ℕ → Option Assignment → Option Assignment → Type 0
  NotBoth c d s o p = (not (eqb c d) && (ltb s 240 && (passes (λ a. owns a s) o && passes (λ a. owns a s) p))) ≡ false

  pub apart_more : Apart t → some_row (shares new) t ≡ false → Apart more
  apart_more old none c d s =
      subst (λ o. NotBoth c d s o (row_at more d)) (sym (row_at_more c))
      (subst (NotBoth c d s (cond (eqb c channel) (Some new) (row_at t c))) (sym (row_at_more d)) (at (eqb c channel) (eqb d channel) refl refl))
    where
      old_clear : (k : ℕ) → s < 240 → (owns new s && holds t k s) ≡ false
      old_clear k = clear s (row_at t k) (some_none_at (shares new) t none k)

      at : (x y : Bool) → eqb c channel ≡ x → eqb d channel ≡ y → NotBoth c d s (cond x (Some new) (row_at t c)) (cond y (Some new) (row_at t d))
      at true true p q = grind (arith, nat_tests)
      at true false p q = let e = old_clear d in grind (arith, nat_tests)
      at false true p q = let e = old_clear c in grind (arith, nat_tests)
      at false false p q = old c d s

pub no_conflict : (t : Entries) (a : Assignment) → answer (unless (conflict t a) a) ≡ Ok tt → (some_row (mixes a) t ≡ false) × (some_row (shares a) t ≡ false)
no_conflict t a e = at (some_row (mixes a) t) (some_row (shares a) t) e
  where
    at : (x y : Bool) → answer (unless (cond x (Some GroupRate) (cond y (Some SlotTaken) None)) a) ≡ Ok tt → (x ≡ false) × (y ≡ false)
    at true y p = cc
    at false true p = cc
    at false false p = (refl, refl)

-- what the entries so far say of an assignment, and one entry more: whether one mixes with it, and whether one shares a slot
abbrev pub clash : Assignment → Bool × Bool → Option Assignment → Bool × Bool
clash a f o = (f.0 || passes (mixes a) o, f.1 || passes (shares a) o)

pub clash_all : (a : Assignment) (f : Bool × Bool) (t : Entries) → fold (clash a) f t ≡ (f.0 || some_row (mixes a) t, f.1 || some_row (shares a) t)
clash_all a f [] = λ i. (or_none f.0 i, or_none f.1 i)
  where
    or_none : (x : Bool) → x ≡ (x || false)
    or_none true = refl
    or_none false = refl
clash_all a f (o ∷ t) =
    clash_all a (clash a f o) t
    ∙ (λ i. (or_or f.0 (passes (mixes a) o) (some_row (mixes a) t) i, or_or f.1 (passes (shares a) o) (some_row (shares a) t) i))
  where
    or_or : (x y z : Bool) → ((x || y) || z) ≡ (x || (y || z))
    or_or true y z = refl
    or_or false y z = refl

-- the row of a channel is its entry
pub entry_at : (t : Entries) (i : ℕ) → i < 80 → row_at t (i + 1) ≡ get_or t i None
entry_at t i below = cond-true (is_channel (i + 1)) _ _ (grind (arith, nat_tests)) ∙ ap (λ k. get_or t k None) (omega arith)

-- where no channel above c up to the i-th has a row, the rows after c are those after the i-th
skipped : (t : Entries) (n c : ℕ) → ((k : ℕ) → c ≤ k → k < c + n → is_some (row_at t (k + 1)) ≡ false) → n ≤ 80 - c → length t ≡ 80 → rows_after t c ≡ rows_after t (c + n)
skipped t zero c none low long = ap (rows_after t) (omega arith)
skipped t (suc n) c none low long =
    at_drop_more (rows_from (c + 1)) t c None (omega arith)
    ∙ ap (λ o. option_to_list (as_row (c + 1) o) ++ rows_after t (c + 1)) (no_row (none c (omega arith) (omega arith)))
    ∙ skipped t n (c + 1) (λ k from below. none k (omega arith) (omega arith)) (omega arith) long
    ∙ ap (rows_after t) (omega arith)
  where
    there : row_at t (c + 1) ≡ get_or t c None
    there = entry_at t c (omega arith)

    no_row : is_some (row_at t (c + 1)) ≡ false → get_or t c None ≡ None
    no_row e = at (get_or t c None) refl (ap is_some (sym there) ∙ e)
      where
        at : (o : Option Assignment) → get_or t c None ≡ o → is_some o ≡ false → get_or t c None ≡ None
        at None p q = p
        at (Some a) p q = absurd (true≢false q)

pub rows_none : (t : Entries) (c : ℕ) → length t ≡ 80 → ((k : ℕ) → c ≤ k → k < 80 → is_some (row_at t (k + 1)) ≡ false) → rows_after t c ≡ []
rows_none t c long none = skipped t (80 - c) c (λ k from below. none k from (omega arith)) (omega arith) long ∙ at_end (c + (80 - c)) (omega arith)
  where
    at_end : (d : ℕ) → 80 ≤ d → rows_after t d ≡ []
    at_end d past = at_drop_all (rows_from (d + 1)) t d (omega arith)

pub rows_next : (t : Entries) (c i : ℕ) → length t ≡ 80 → c ≤ i → i < 80 → is_some (row_at t (i + 1)) ≡ true → ((k : ℕ) → c ≤ k → k < i → is_some (row_at t (k + 1)) ≡ false) → NextRow t c (row_of t (i + 1))
rows_next t c i long from below is before = at (row_at t (i + 1)) refl is
  where
    there : row_at t (i + 1) ≡ get_or t i None
    there = entry_at t i below

    at : (o : Option Assignment) → row_at t (i + 1) ≡ o → is_some o ≡ true → NextRow t c (as_row (i + 1) o)
    at None p q = absurd (false≢true q)
    at (Some a) p q =
        skipped t (i - c) c (λ k low high. before k low (omega arith)) (omega arith) long
        ∙ ap (rows_after t) (omega arith)
        ∙ at_drop_more (rows_from (i + 1)) t i None (omega arith)
        ∙ ap (λ o. option_to_list (as_row (i + 1) o) ++ rows_after t (i + 1)) (sym there ∙ p)

-- it stands above c
pub next_above : (t : Entries) (c i : ℕ) → c ≤ i → i < 80 → IfSome (row_of t (i + 1)) (λ r. (c < r.channel) × (r.channel ≤ 80))
next_above t c i from below = at (row_at t (i + 1))
  where
    at : (o : Option Assignment) → IfSome (as_row (i + 1) o) (λ r. (c < r.channel) × (r.channel ≤ 80))
    at None = tt
    at (Some a) = (omega arith, omega arith)
