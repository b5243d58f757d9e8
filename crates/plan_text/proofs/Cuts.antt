-- Pieces of a text, by the first separator.
use Rattle.std.proofs.Common.{◌≡◌, ℕ, zero, suc, ◌+◌, Bool, true, false, cond, eqb, ◌⊎◌, List, [], ◌∷◌, ◌++◌, length, Some, None, sym, refl, ap, ◌∙◌, subst, inl, inr, ⊎_elim, arith}
use Rattle.std.proofs.lemmas.List.{length-append}
use Rattle.std.proofs.lemmas.Bool.{cases_eq, cond-true, cond-false, eq-eqb, ne_eqb}
use Rattle.plan_text.specs.Pieces.{Three, longer, cut, lines, fields, three, Without, Split}

module _ (sep : ℕ) (end : List (List ℕ)) where
  after_byte : (b : ℕ) (bs : List ℕ) → Without sep (b ∷ bs) → cut sep end (b ∷ bs) ≡ longer b (cut sep end bs)
  after_byte b bs h = cond-false (eqb b sep) _ _ (ne_eqb b sep (h 0 (omega arith)))

  rest_without : (b : ℕ) (bs : List ℕ) → Without sep (b ∷ bs) → Without sep bs
  rest_without b bs h k below = h (suc k) (omega arith)

  cut_at : (a b : List ℕ) → Without sep a → cut sep end (a ++ (sep ∷ b)) ≡ a ∷ cut sep end b
  cut_at [] b h = cond-true (eqb sep sep) _ _ (eq-eqb sep sep refl)
  cut_at (x ∷ a) b h = cond-false (eqb x sep) _ _ (ne_eqb x sep (h 0 (omega arith))) ∙ ap (longer x) (cut_at a b (rest_without x a h))

  pub cut_split : (text a b : List ℕ) → Split sep text a b → cut sep end text ≡ a ∷ cut sep end b
  cut_split text a b s = ap (cut sep end) s.whole ∙ cut_at a b s.first

pub lines_none : (text : List ℕ) → Without 10 text → lines text ≡ []
lines_none [] h = refl
lines_none (b ∷ bs) h = after_byte 10 [] b bs h ∙ ap (longer b) (lines_none bs (rest_without 10 [] b bs h))

pub fields_one : (text : List ℕ) → Without 44 text → fields text ≡ text ∷ []
fields_one [] h = refl
fields_one (b ∷ bs) h = after_byte 44 ([] ∷ []) b bs h ∙ ap (longer b) (fields_one bs (rest_without 44 ([] ∷ []) b bs h))

-- a line has a field, even if it is empty
fields_some : (text : List ℕ) → (p : List ℕ) × (ps : List (List ℕ)) × (fields text ≡ p ∷ ps)
fields_some [] = ([], [], refl)
fields_some (b ∷ bs) = at (eqb b 44) (fields_some bs)
  where
    at : (t : Bool) → (p : List ℕ) × (ps : List (List ℕ)) × (fields bs ≡ p ∷ ps) → (p : List ℕ) × (ps : List (List ℕ)) × (cond t ([] ∷ fields bs) (longer b (fields bs)) ≡ p ∷ ps)
    at true rest = ([], fields bs, refl)
    at false rest = (b ∷ rest.0, rest.1, ap (longer b) rest.2)

-- where a line is cut at two commas, the third part decides
module _ (line a rest : List ℕ) (one : Split 44 line a rest) where
  pub three_short : Without 44 rest → three (fields line) ≡ None
  three_short h = ap three (cut_split 44 ([] ∷ []) line a rest one ∙ ap (λ ps. a ∷ ps) (fields_one rest h))

  module _ (b c : List ℕ) (two : Split 44 rest b c) where
    parts : fields line ≡ a ∷ b ∷ fields c
    parts = cut_split 44 ([] ∷ []) line a rest one ∙ ap (λ ps. a ∷ ps) (cut_split 44 ([] ∷ []) rest b c two)

    pub three_parts : Without 44 c → three (fields line) ≡ Some (a, b, c)
    three_parts h = ap three (parts ∙ ap (λ ps. a ∷ b ∷ ps) (fields_one c h))

    pub three_long : (d e : List ℕ) → Split 44 c d e → three (fields line) ≡ None
    three_long d e more =
        let fourth = fields_some e in
        ap three (parts ∙ ap (λ ps. a ∷ b ∷ ps) (cut_split 44 ([] ∷ []) c d e more) ∙ ap (λ ps. a ∷ b ∷ d ∷ ps) fourth.2)

pub length_split : (sep : ℕ) (text a b : List ℕ) → Split sep text a b → length text ≡ length a + 1 + length b
length_split sep text a b s = ap length s.whole ∙ length-append a (sep ∷ b) ∙ omega arith

-- what the first piece says of the text
without_cons : (sep b : ℕ) (bs : List ℕ) → (b ≡ sep → ⊥) → Without sep bs → Without sep (b ∷ bs)
without_cons sep b bs first rest zero below is = first is
without_cons sep b bs first rest (suc k) below is = rest k (omega arith) is

pub record Cut (sep : ℕ) (end : List (List ℕ)) (text p : List ℕ) (ps : List (List ℕ)) : Type 0 where
  pub rest : List ℕ
  pub whole : text ≡ p ++ (sep ∷ rest)
  pub first : Without sep p
  pub others : cut sep end rest ≡ ps

cut_longer : (sep : ℕ) (end : List (List ℕ)) (b : ℕ) (bs p : List ℕ) (ps : List (List ℕ)) → (b ≡ sep → ⊥) → Cut sep end bs p ps → Cut sep end (b ∷ bs) (b ∷ p) ps
cut_longer sep end b bs p ps ne c = record { rest = c.rest; whole = ap (λ xs. b ∷ xs) c.whole; first = without_cons sep b p ne c.first; others = c.others }

-- a text that begins with the separator
cut_now : (sep : ℕ) (end : List (List ℕ)) (b : ℕ) (bs p : List ℕ) (ps : List (List ℕ)) → b ≡ sep → cut sep end (b ∷ bs) ≡ p ∷ ps → Cut sep end (b ∷ bs) p ps
cut_now sep end b bs p ps is e =
    let cuts : [] ∷ cut sep end bs ≡ p ∷ ps = sym (cond-true (eqb b sep) _ _ (eq-eqb b sep is)) ∙ e in
    let none : [] ≡ p = cc in
    let others : cut sep end bs ≡ ps = cc in
    record { rest = bs; whole = ap (λ x. x ∷ bs) is ∙ ap (λ q. q ++ (sep ∷ bs)) none; first = subst (Without sep) none (λ k below. absurd (omega arith)); others = others }

-- one that does not: its first piece is longer than that of the rest
cut_later : (sep : ℕ) (end : List (List ℕ)) (b : ℕ) (bs p : List ℕ) (ps : List (List ℕ)) → (b ≡ sep → ⊥) → cut sep end (b ∷ bs) ≡ p ∷ ps → (q : List ℕ) × (p ≡ b ∷ q) × (cut sep end bs ≡ q ∷ ps)
cut_later sep end b bs p ps ne e = at (cut sep end bs) refl (sym (cond-false (eqb b sep) _ _ (ne_eqb b sep ne)) ∙ e)
  where
    at : (qs : List (List ℕ)) → cut sep end bs ≡ qs → longer b qs ≡ p ∷ ps → (q : List ℕ) × (p ≡ b ∷ q) × (cut sep end bs ≡ q ∷ ps)
    at [] is same = cc
    at (q ∷ qs) is same =
        let first : p ≡ b ∷ q = cc in
        let others : qs ≡ ps = cc in
        (q, first, is ∙ ap (λ rs. q ∷ rs) others)

-- a line of a text has its end behind it
pub line_cut : (text l : List ℕ) (ls : List (List ℕ)) → lines text ≡ l ∷ ls → Cut 10 [] text l ls
line_cut [] l ls e = cc
line_cut (b ∷ bs) l ls e =
    ⊎_elim (λ is. cut_now 10 [] b bs l ls is e)
    (λ ne. let c = cut_later 10 [] b bs l ls ne e in subst (λ p. Cut 10 [] (b ∷ bs) p ls) (sym c.1) (cut_longer 10 [] b bs c.0 ls ne (line_cut bs c.0 ls c.2)))
    (cases_eq b 10)

-- a field of a line has a comma behind it, or is the last
pub field_cut : (text p : List ℕ) (ps : List (List ℕ)) → fields text ≡ p ∷ ps → Cut 44 ([] ∷ []) text p ps ⊎ ((ps ≡ []) × (text ≡ p) × Without 44 p)
field_cut [] p ps e =
    let none : [] ≡ p = cc in
    let others : [] ≡ ps = cc in
    inr (sym others, none, subst (Without 44) none (λ k below. absurd (omega arith)))
field_cut (b ∷ bs) p ps e =
    ⊎_elim (λ is. inl (cut_now 44 ([] ∷ []) b bs p ps is e))
    (λ ne. let c = cut_later 44 ([] ∷ []) b bs p ps ne e in
    ⊎_elim (λ x. inl (subst (λ q. Cut 44 ([] ∷ []) (b ∷ bs) q ps) (sym c.1) (cut_longer 44 ([] ∷ []) b bs c.0 ps ne x)))
    (λ x. inr (x.0, ap (λ q. b ∷ q) x.1 ∙ sym c.1, subst (Without 44) (sym c.1) (without_cons 44 b c.0 ne x.2))) (field_cut bs c.0 ps c.2))
    (cases_eq b 44)

-- three fields are a line cut at two commas
pub record ThreeCut (text a b c : List ℕ) : Type 0 where
  pub whole : text ≡ a ++ (44 ∷ (b ++ (44 ∷ c)))
  pub left : Without 44 a
  pub middle : Without 44 b
  pub right : Without 44 c

three_are : (ps : List (List ℕ)) (a b c : List ℕ) → three ps ≡ Some (a, b, c) → ps ≡ a ∷ b ∷ c ∷ []
three_are [] a b c e = cc
three_are (x ∷ []) a b c e = cc
three_are (x ∷ y ∷ []) a b c e = cc
three_are (x ∷ y ∷ z ∷ []) a b c e =
    let same : ◌≡◌ {A = Three} (x, y, z) (a, b, c) = cc in
    λ i. (same i).0 ∷ (same i).1 ∷ (same i).2 ∷ []
three_are (x ∷ y ∷ z ∷ w ∷ ps) a b c e = cc

-- the last of the fields
last_field : (text c : List ℕ) → fields text ≡ c ∷ [] → (text ≡ c) × Without 44 c
last_field text c e =
    ⊎_elim (λ x. let more = fields_some x.rest in cc (x.others, more.2)) (λ x. (x.1, x.2)) (field_cut text c [] e)

-- one that is not
next_field : (text p q : List ℕ) (ps : List (List ℕ)) → fields text ≡ p ∷ q ∷ ps → Cut 44 ([] ∷ []) text p (q ∷ ps)
next_field text p q ps e = ⊎_elim (λ x. x) (λ x. cc (x.0)) (field_cut text p (q ∷ ps) e)

pub three_cut : (text a b c : List ℕ) → three (fields text) ≡ Some (a, b, c) → ThreeCut text a b c
three_cut text a b c e =
    let one = next_field text a b (c ∷ []) (three_are (fields text) a b c e) in
    let two = next_field one.rest b c [] one.others in
    let last = last_field two.rest c two.others in
    record {
      whole = one.whole ∙ ap (λ xs. a ++ (44 ∷ xs)) (two.whole ∙ ap (λ xs. b ++ (44 ∷ xs)) last.0);
      left = one.first;
      middle = two.first;
      right = last.1;
    }
