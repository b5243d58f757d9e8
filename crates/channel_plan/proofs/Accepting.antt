-- A file that is accepted adds its rows, and no others.
use Rattle.std.proofs.Common.{◌≡◌, ℕ, zero, suc, ◌+◌, ◌-◌, ◌<◌, ◌≤◌, Bool, true, false, cond, eqb, ltb, List, [], ◌∷◌, length, get_or, set, is_some, Some, None, Ok, Err, Option, Result, sym, refl, ap, ◌∙◌, subst, inl, inr, ⊎_elim, arith}
use Rattle.std.proofs.lemmas.List.{length-set}
use Rattle.std.proofs.lemmas.Bool.{cases_eq, cond-true, cond-false, eq-eqb, ne_eqb}
use Rattle.std.proofs.lemmas.Bool.Decides.{nat_tests}
use Rattle.plan_text.specs.declared.header.Column.TheVariants.{Channel, Rate, First}
use Rattle.plan_text.specs.declared.header.Header.{Header}
use Rattle.channel_plan.specs.declared.rate.Rate.{Rate as RateType}
use Rattle.channel_plan.specs.declared.file.Fault.{Fault}
use Rattle.channel_plan.specs.declared.refusal.FileRefusal.{FileRefusal}
use Rattle.channel_plan.specs.declared.rate.Rate.TheVariants.{Bps12000, Bps6000, Bps3000, Bps750}
use Rattle.channel_plan.specs.declared.refusal.RowRefusal.{RowRefusal}
use Rattle.channel_plan.specs.declared.refusal.RowRefusal.TheVariants.{NoChannel, FirstSlot, ChannelPresent}
use Rattle.channel_plan.specs.declared.row.Assignment.{Assignment}
use Rattle.channel_plan.specs.Adding.{admitted_at, assigned, conflict, unless, with_row}
use Rattle.channel_plan.specs.Files.{Values, and_then, row_refused, values_of, with_line, with_lines, with_values}
use Rattle.plan_text.specs.Headers.{header_of, under}
use Rattle.channel_plan.specs.Laws.{Joins, Says, SomeLine, States}
use Rattle.plan_text.specs.Pieces.{Split, lines}
use Rattle.channel_plan.specs.Rates.{bits, period, rate_of}
use Rattle.channel_plan.specs.Entries.{Entries, is_channel, row_at}
use Rattle.plan_text.proofs.Cuts.{cut_split}
use Rattle.channel_plan.proofs.Outcomes.{ok_same}
use Rattle.channel_plan.proofs.Tables.{row_at_more}

rate_bits : (r : RateType) (n : ℕ) → rate_of n ≡ Some r → bits r ≡ n
rate_bits Bps12000 n e = grind (arith, nat_tests)
rate_bits Bps6000 n e = grind (arith, nat_tests)
rate_bits Bps3000 n e = grind (arith, nat_tests)
rate_bits Bps750 n e = grind (arith, nat_tests)

rate_back : (r : RateType) → rate_of (bits r) ≡ Some r
rate_back Bps12000 = refl
rate_back Bps6000 = refl
rate_back Bps3000 = refl
rate_back Bps750 = refl

-- rates are told apart by their bit/s
same_rate : (r q : RateType) → bits r ≡ bits q → r ≡ q
same_rate r q e = let p : Some r ≡ Some q = sym (rate_back r) ∙ ap rate_of e ∙ rate_back q in cc

-- a row that was added: where it stands, and that its channel was free
record Added (t : Entries) (channel rate first : ℕ) (u : Entries) : Type 0 where
  row : Assignment
  low : 0 < channel
  high : channel ≤ 80
  rated : bits row.rate ≡ rate
  placed : row.first ≡ first
  free : row_at t channel ≡ None
  is : u ≡ set t (channel - 1) (Some row)

module _ (t : Entries) (channel rate first : ℕ) (u : Entries) where
  added_at : (r : RateType) (inside below : Bool) (o : Option Assignment) (k : Option RowRefusal) → is_channel channel ≡ inside → rate_of rate ≡ Some r → row_at t channel ≡ o → assigned (cond inside (cond below (cond (is_some o) (Err ChannelPresent) (unless k (record { rate = r; first = first }))) (Err FirstSlot)) (Err NoChannel)) t channel ≡ Ok u → Added t channel rate first u
  added_at r false below o k p q w e = cc
  added_at r true false o k p q w e = cc
  added_at r true true (Some b) k p q w e = cc
  added_at r true true None (Some b) p q w e = cc
  added_at r true true None None p q w e = record {
    row = record { rate = r; first = first };
    low = grind (arith, nat_tests);
    high = grind (arith, nat_tests);
    rated = rate_bits r rate q;
    placed = refl;
    free = w;
    is = cc;
  }

  added : with_row t channel rate first ≡ Ok u → Added t channel rate first u
  added e = at (is_channel channel) (rate_of rate) refl refl e
    where
      at : (inside : Bool) (r : Option RateType) → is_channel channel ≡ inside → rate_of rate ≡ r → assigned (cond inside (admitted_at r t channel first) (Err NoChannel)) t channel ≡ Ok u → Added t channel rate first u
      at inside (Some r) p q e = added_at r inside (ltb first (period r)) (row_at t channel) (conflict t (record { rate = r; first = first })) p q refl e
      at true None p q e = cc
      at false None p q e = cc

  -- the row is there, and all that was
  joins_row : length t ≡ 80 → Added t channel rate first u → Joins t u (λ c a. (channel ≡ c) × (rate ≡ bits a.rate) × (first ≡ a.first))
  joins_row long w = record {
    old = λ c a e. at c ∙ cond-false (eqb c channel) _ _ (ne_eqb c channel (λ same. cc (w.free, ap (row_at t) same, e))) ∙ e;
    new = λ c a h. at c ∙ cond-true (eqb c channel) _ _ (eq-eqb c channel (sym h.0)) ∙ ap Some (same a h.1 h.2);
    only = λ c a e. ⊎_elim (λ same-c. inr (only_row c a same-c e)) (λ ne. inl (sym (cond-false (eqb c channel) _ _ (ne_eqb c channel ne)) ∙ sym (at c) ∙ e)) (cases_eq c channel);
  }
    where
      at : (c : ℕ) → row_at u c ≡ cond (eqb c channel) (Some w.row) (row_at t c)
      at c = ap (λ v. row_at v c) w.is ∙ row_at_more t channel w.row long w.low w.high c

      same : (a : Assignment) → rate ≡ bits a.rate → first ≡ a.first → w.row ≡ a
      same a p q = λ i. record { rate = same_rate w.row.rate a.rate (w.rated ∙ p) i; first = (w.placed ∙ q) i }

      only_row : (c : ℕ) (a : Assignment) → c ≡ channel → row_at u c ≡ Some a → (channel ≡ c) × (rate ≡ bits a.rate) × (first ≡ a.first)
      only_row c a same-c e =
          let there : Some w.row ≡ Some a = sym (cond-true (eqb c channel) _ _ (eq-eqb c channel same-c)) ∙ sym (at c) ∙ e in
          let is : w.row ≡ a = cc in
          (sym same-c, sym w.rated ∙ ap (λ r. bits r.rate) is, sym w.placed ∙ ap (λ r. r.first) is)

-- one line
line_joins : (h : Header) (t : Entries) (line byte : ℕ) (text : List ℕ) (u : Entries) → length t ≡ 80 → with_line h t line byte text ≡ Ok u → Joins t u (Says h text) × (length u ≡ 80)
unfolding with_line
line_joins h t line byte text u long e = at (values_of text) refl e
  where
    by_row : (v : Values) → values_of text ≡ Ok v → (o : Result Entries RowRefusal) → with_row t (under h Channel v.left v.middle v.right) (under h Rate v.left v.middle v.right) (under h First v.left v.middle v.right) ≡ o → row_refused line byte o ≡ Ok u → Joins t u (Says h text) × (length u ≡ 80)
    by_row v p (Err x) q e = cc
    by_row v p (Ok w) q e =
        let is : w ≡ u = cc in
        let a = added t (under h Channel v.left v.middle v.right) (under h Rate v.left v.middle v.right) (under h First v.left v.middle v.right) u (q ∙ ap Ok is) in
        let j = joins_row t (under h Channel v.left v.middle v.right) (under h Rate v.left v.middle v.right) (under h First v.left v.middle v.right) u long a in (
          record {
            old = j.old;
            new = λ c b s. j.new c b (says_values v p c b s);
            only = λ c b f. ⊎_elim inl (λ k. inr (record { values = v; numbers = p; channel = k.0; rate = k.1; first = k.2 })) (j.only c b f);
          },
          ap length a.is ∙ length-set t (under h Channel v.left v.middle v.right - 1) (Some a.row) ∙ long,
        )
      where
        says_values : (v : Values) → values_of text ≡ Ok v → (c : ℕ) (b : Assignment) → Says h text c b → (under h Channel v.left v.middle v.right ≡ c) × (under h Rate v.left v.middle v.right ≡ bits b.rate) × (under h First v.left v.middle v.right ≡ b.first)
        says_values v p c b s =
            let same : v ≡ s.values = ok_same (sym p ∙ s.numbers) in
            (ap (λ w. under h Channel w.left w.middle w.right) same ∙ s.channel, ap (λ w. under h Rate w.left w.middle w.right) same ∙ s.rate, ap (λ w. under h First w.left w.middle w.right) same ∙ s.first)

    at : (o : Result Values Fault) → values_of text ≡ o → with_values h t line byte o ≡ Ok u → Joins t u (Says h text) × (length u ≡ 80)
    at (Err f) p e = cc
    at (Ok v) p e = by_row v p (with_row t (under h Channel v.left v.middle v.right) (under h Rate v.left v.middle v.right) (under h First v.left v.middle v.right)) refl e

-- a line more in front
joins_more : (h : Header) (t v u : Entries) (text : List ℕ) (rest : List (List ℕ)) → Joins t v (Says h text) → Joins v u (SomeLine h rest) → Joins t u (SomeLine h (text ∷ rest))
joins_more h t v u text rest a b = record {
  old = λ c x e. b.old c x (a.old c x e);
  new = new;
  only = λ c x e. ⊎_elim (λ p. ⊎_elim inl (λ s. inr (record { place = zero; below = omega arith; says = s })) (a.only c x p)) (λ s. inr (record { place = suc s.place; below = omega (arith, s.below); says = s.says })) (b.only c x e);
}
  where
    at : (c : ℕ) (x : Assignment) (k : ℕ) → k < length (text ∷ rest) → Says h (get_or (text ∷ rest) k []) c x → row_at u c ≡ Some x
    at c x zero below s = b.old c x (a.new c x s)
    at c x (suc k) below s = b.new c x (record { place = k; below = omega arith; says = s })

    new : (c : ℕ) (x : Assignment) → SomeLine h (text ∷ rest) c x → row_at u c ≡ Some x
    new c x s = at c x s.place s.below s.says

pub lines_join : (h : Header) (ls : List (List ℕ)) (t : Entries) (line byte : ℕ) (u : Entries) → length t ≡ 80 → with_lines h t line byte ls ≡ Ok u → Joins t u (SomeLine h ls)
unfolding with_lines
lines_join h [] t line byte u long e =
    let same : t ≡ u = cc in
    record {
      old = λ c a p. ap (λ v. row_at v c) (sym same) ∙ p;
      new = λ c a s. absurd (omega (arith, s.below));
      only = λ c a p. inl (ap (λ v. row_at v c) same ∙ p);
    }
lines_join h (l ∷ ls) t line byte u long e = at (with_line h t line byte l) refl e (λ v. lines_join h ls v (line + 1) (byte + (length l + 1)) u)
  where
    at : (o : Result Entries FileRefusal) → with_line h t line byte l ≡ o → and_then o (λ v. with_lines h v (line + 1) (byte + (length l + 1)) ls) ≡ Ok u → ((v : Entries) → length v ≡ 80 → with_lines h v (line + 1) (byte + (length l + 1)) ls ≡ Ok u → Joins v u (SomeLine h ls)) → Joins t u (SomeLine h (l ∷ ls))
    at (Err f) p e more = cc
    at (Ok v) p e more = let one = line_joins h t line byte l v long p in joins_more h t v u l ls one.0 (more v one.1 e)

-- the lines of a file, under the names of its first
pub file_joins : (t u : Entries) (file names rest : List ℕ) (h : Header) → length t ≡ 80 → Split 10 file names rest → Some h ≡ header_of names → with_lines h t 2 (length names + 1) (lines rest) ≡ Ok u → Joins t u (States file)
file_joins t u file names rest h long cut named e =
    let j = lines_join h (lines rest) t 2 (length names + 1) u long e in
    record {
      old = j.old;
      new = λ c a s. j.new c a (under_names c a s);
      only = λ c a p. ⊎_elim inl (λ s. inr (record { header = h; names = names; rest = lines rest; cut = parts; named = sym named; line = s })) (j.only c a p);
    }
  where
    parts : lines file ≡ names ∷ lines rest
    parts = cut_split 10 [] file names rest cut

    under_names : (c : ℕ) (a : Assignment) → States file c a → SomeLine h (lines rest) c a
    under_names c a s =
        let whole : s.names ∷ s.rest ≡ names ∷ lines rest = sym s.cut ∙ parts in
        let first : s.names ≡ names = cc in
        let others : s.rest ≡ lines rest = cc in
        let head : Some s.header ≡ Some h = sym s.named ∙ ap header_of first ∙ sym named in
        let same : s.header ≡ h = cc in
        subst (λ g. SomeLine g (lines rest) c a) same (subst (λ ls. SomeLine s.header ls c a) others s.line)
