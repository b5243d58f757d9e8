-- Where a refused file goes wrong: the sums of lengths are places in its bytes.
use Rattle.std.proofs.Common.{◌≡◌, ℕ, suc, ◌+◌, cond, ◌⊎◌, List, [], ◌∷◌, ◌++◌, length, Some, None, Ok, Err, Option, Result, sym, refl, ap, ◌∙◌, subst, inl, inr, arith}
use Rattle.std.proofs.lemmas.List.{append_assoc, append-nil, length-append}
use Rattle.std.proofs.lemmas.Bool.{ne_eqb}
use Rattle.plan_text.specs.declared.header.Column.TheVariants.{Channel, Rate, First}
use Rattle.plan_text.specs.declared.header.Header.{Header}
use Rattle.plan_text.specs.Headers.{under}
use Rattle.plan_text.specs.Numbers.{number_of}
use Rattle.plan_text.specs.Pieces.{Split, Three, Without, fields, lines, three}
use Rattle.plan_text.proofs.Cuts.{ThreeCut, line_cut, three_cut}
use Rattle.channel_plan.specs.declared.file.Fault.{Fault}
use Rattle.channel_plan.specs.declared.refusal.FileRefusal.{FileRefusal}
use Rattle.channel_plan.specs.declared.refusal.Reason.TheVariants.{Fields, Number, Row}
use Rattle.channel_plan.specs.declared.refusal.RowRefusal.{RowRefusal}
use Rattle.channel_plan.specs.Adding.{with_row}
use Rattle.channel_plan.specs.Files.{Values, and_then, numbered, read_from, row_refused, values_of, with_line, with_lines, with_values}
use Rattle.channel_plan.specs.Laws.{EndsWith, FieldPlace, LineBegins, LinePlace, PlaceBy, ends}
use Rattle.channel_plan.specs.Entries.{Entries}
use Rattle.channel_plan.proofs.Outcomes.{err_same}

-- how many lines end
ends_append : (xs ys : List ℕ) → ends (xs ++ ys) ≡ ends xs + ends ys
ends_append [] ys = omega arith
ends_append (x ∷ xs) ys = omega (arith, ends_append xs ys)

ends_none : (xs : List ℕ) → Without 10 xs → ends xs ≡ 0
ends_none [] h = refl
ends_none (x ∷ xs) h =
    ap (λ b. cond b 1 0 + ends xs) (ne_eqb x 10 (h 0 (omega arith))) ∙ omega (arith, ends_none xs (λ k below. h (suc k) (omega arith)))

-- a line that begins behind front
module _ (file front l rest : List ℕ) (line byte : ℕ) (whole : file ≡ front ++ (l ++ (10 ∷ rest))) (at : length front ≡ byte) (counted : ends front + 1 ≡ line) (begins : LineBegins front) (closed : Without 10 l) where
  line_place : (e : FileRefusal) → e.line ≡ line → e.byte ≡ byte → LinePlace file e
  line_place e is-line is_byte_lem = record {
    front = front;
    back = l ++ (10 ∷ rest);
    place = record { whole = whole; byte = at ∙ sym is_byte_lem; line = counted ∙ sym is-line };
    begins = begins;
  }

  -- a field that begins in the line behind `inside`
  field_place : (inside field : List ℕ) (stop : ℕ) (back : List ℕ) (e : FileRefusal) → l ++ (10 ∷ rest) ≡ inside ++ (field ++ (stop ∷ back)) → ends inside ≡ 0 → LineBegins (front ++ inside) ⊎ EndsWith 44 (front ++ inside) → Without 44 field → (stop ≡ 44) ⊎ (stop ≡ 10) → number_of field ≡ None → e.line ≡ line → e.byte ≡ byte + length inside → FieldPlace file e
  field_place inside field stop back e cut none starts one stops wrong is-line is_byte_lem = record {
    front = front ++ inside;
    field = field;
    stop = stop;
    back = back;
    place = record {
      whole = whole ∙ ap (λ xs. front ++ xs) cut ∙ sym (append_assoc front inside (field ++ (stop ∷ back)));
      byte = omega (arith, length-append front inside, at, is_byte_lem);
      line = omega (arith, ends_append front inside, none, counted, is-line);
    };
    begins = starts;
    one = one;
    stops = stops;
    no_number = wrong;
  }

  abbrev fault_at : ℕ → FileRefusal
  fault_at off = record { reason = Number; line = line; byte = byte + off }

  module _ (a b c : List ℕ) (cut : ThreeCut l a b c) where
    quiet : (ends a ≡ 0) × (ends b ≡ 0)
    quiet =
        let all = ap ends cut.whole in
        let one = ends_append a (44 ∷ (b ++ (44 ∷ c))) in
        let two = ends_append b (44 ∷ c) in
        let none = ends_none l closed in
        (omega arith, omega arith)

    left_place : number_of a ≡ None → FieldPlace file (fault_at 0)
    left_place wrong =
        field_place [] a 44 ((b ++ (44 ∷ c)) ++ (10 ∷ rest)) (fault_at 0) (ap (λ xs. xs ++ (10 ∷ rest)) cut.whole ∙ append_assoc a (44 ∷ (b ++ (44 ∷ c))) (10 ∷ rest)) refl
        (inl (subst LineBegins (sym (append-nil front)) begins)) cut.left (inl refl) wrong refl refl

    middle_place : number_of b ≡ None → FieldPlace file (fault_at (length a + 1))
    middle_place wrong =
        field_place (a ++ (44 ∷ [])) b 44 (c ++ (10 ∷ rest)) (fault_at (length a + 1))
        (ap (λ xs. xs ++ (10 ∷ rest)) cut.whole ∙ append_assoc a (44 ∷ (b ++ (44 ∷ c))) (10 ∷ rest)
        ∙ ap (λ xs. a ++ (44 ∷ xs)) (append_assoc b (44 ∷ c) (10 ∷ rest)) ∙ sym (append_assoc a (44 ∷ []) (b ++ (44 ∷ (c ++ (10 ∷ rest))))))
        (omega (arith, ends_append a (44 ∷ []), quiet)) (inr (front ++ a, sym (append_assoc front a (44 ∷ [])))) cut.middle (inl refl) wrong refl
        (omega (arith, length-append a (44 ∷ [])))

    right_place : number_of c ≡ None → FieldPlace file (fault_at (length a + 1 + (length b + 1)))
    right_place wrong =
        let inside : List ℕ = a ++ (44 ∷ (b ++ (44 ∷ []))) in
        field_place inside c 10 rest (fault_at (length a + 1 + (length b + 1)))
        (ap (λ xs. xs ++ (10 ∷ rest)) cut.whole ∙ append_assoc a (44 ∷ (b ++ (44 ∷ c))) (10 ∷ rest)
        ∙ ap (λ xs. a ++ (44 ∷ xs)) (append_assoc b (44 ∷ c) (10 ∷ rest) ∙ sym (append_assoc b (44 ∷ []) (c ++ (10 ∷ rest))))
        ∙ sym (append_assoc a (44 ∷ (b ++ (44 ∷ []))) (c ++ (10 ∷ rest))))
        (omega (arith, ends_append a (44 ∷ (b ++ (44 ∷ []))), ends_append b (44 ∷ []), quiet))
        (inr (front ++ (a ++ (44 ∷ b)), ap (λ xs. front ++ xs) (sym (append_assoc a (44 ∷ b) (44 ∷ []))) ∙ sym (append_assoc front (a ++ (44 ∷ b)) (44 ∷ [])))) cut.right (inr refl) wrong refl
        (omega (arith, length-append a (44 ∷ (b ++ (44 ∷ []))), length-append b (44 ∷ [])))

    numbers_place : (x y z : Option ℕ) → number_of a ≡ x → number_of b ≡ y → number_of c ≡ z → (fault : Fault) → numbered (a, b, c) x y z ≡ Err fault → PlaceBy fault.reason file (record { reason = fault.reason; line = line; byte = byte + fault.at })
    numbers_place None y z p q r fault bad = subst (λ g. PlaceBy g.reason file (record { reason = g.reason; line = line; byte = byte + g.at })) (err_same bad) (left_place p)
    numbers_place (Some x) None z p q r fault bad = subst (λ g. PlaceBy g.reason file (record { reason = g.reason; line = line; byte = byte + g.at })) (err_same bad) (middle_place q)
    numbers_place (Some x) (Some y) None p q r fault bad = subst (λ g. PlaceBy g.reason file (record { reason = g.reason; line = line; byte = byte + g.at })) (err_same bad) (right_place r)
    numbers_place (Some x) (Some y) (Some z) p q r fault bad = cc

  fault_place : (o : Option Three) → three (fields l) ≡ o → (fault : Fault) → read_from o ≡ Err fault → PlaceBy fault.reason file (record { reason = fault.reason; line = line; byte = byte + fault.at })
  fault_place None e fault bad =
      subst (λ g. PlaceBy g.reason file (record { reason = g.reason; line = line; byte = byte + g.at })) (err_same bad) (line_place (record { reason = Fields; line = line; byte = byte + 0 }) refl (omega arith))
  fault_place (Some f) e fault bad =
      numbers_place f.0 f.1 f.2 (three_cut l f.0 f.1 f.2 e) (number_of f.0) (number_of f.1) (number_of f.2) refl refl refl fault bad

  refused_line : (h : Header) (t : Entries) (e : FileRefusal) → with_line h t line byte l ≡ Err e → PlaceBy e.reason file e
  unfolding with_line
  refused_line h t e bad = by_values (values_of l) refl bad
    where
      by_row : (o : Result Entries RowRefusal) → row_refused line byte o ≡ Err e → PlaceBy e.reason file e
      by_row (Ok u) same = cc
      by_row (Err x) same = subst (λ g. PlaceBy g.reason file g) (err_same same) (line_place (record { reason = Row x; line = line; byte = byte }) refl refl)

      by_values : (o : Result Values Fault) → values_of l ≡ o → with_values h t line byte o ≡ Err e → PlaceBy e.reason file e
      by_values (Ok v) is same = by_row (with_row t (under h Channel v.left v.middle v.right) (under h Rate v.left v.middle v.right) (under h First v.left v.middle v.right)) same
      by_values (Err f) is same = subst (λ g. PlaceBy g.reason file g) (err_same same) (fault_place (three (fields l)) refl f is)

-- either this line is refused, or a later one
split : (h : Header) (t : Entries) (l : List ℕ) (line byte : ℕ) (e : FileRefusal) (file : List ℕ) (o : Result Entries FileRefusal) → with_line h t line byte l ≡ o → (later : Entries → Result Entries FileRefusal) → and_then o later ≡ Err e → (with_line h t line byte l ≡ Err e → PlaceBy e.reason file e) → ((u : Entries) → later u ≡ Err e → PlaceBy e.reason file e) → PlaceBy e.reason file e
split h t l line byte e file (Ok u) is later bad here there = there u bad
split h t l line byte e file (Err f) is later bad here there = here (is ∙ bad)

-- line by line
pub refused_lines : (h : Header) (ls : List (List ℕ)) (t : Entries) (line byte : ℕ) (file front text : List ℕ) → file ≡ front ++ text → length front ≡ byte → ends front + 1 ≡ line → LineBegins front → lines text ≡ ls → (e : FileRefusal) → with_lines h t line byte ls ≡ Err e → PlaceBy e.reason file e
unfolding with_lines
refused_lines h [] t line byte file front text whole at counted begins are e bad = cc
refused_lines h (l ∷ ls) t line byte file front text whole at counted begins are e bad =
    let c = line_cut text l ls are in
    let all : file ≡ front ++ (l ++ (10 ∷ c.rest)) = whole ∙ ap (λ xs. front ++ xs) c.whole in
    let next : List ℕ = front ++ (l ++ (10 ∷ [])) in
    let joined : file ≡ next ++ c.rest = all ∙ ap (λ xs. front ++ xs) (sym (append_assoc l (10 ∷ []) c.rest)) ∙ sym (append_assoc front (l ++ (10 ∷ [])) c.rest) in
    split h t l line byte e file (with_line h t line byte l) refl
    (λ u. with_lines h u (line + 1) (byte + (length l + 1)) ls) bad
    (refused_line file front l c.rest line byte all at counted begins c.first h t e)
    (λ u. refused_lines h ls u (line + 1) (byte + (length l + 1)) file next c.rest joined
    (omega (arith, length-append front (l ++ (10 ∷ [])), length-append l (10 ∷ []))) (omega (arith, ends_append front (l ++ (10 ∷ [])), ends_append l (10 ∷ []), ends_none l c.first))
    (inr (front ++ l, sym (append_assoc front l (10 ∷ [])))) c.others e)

-- the lines of values behind the names
pub refused_file : (h : Header) (t : Entries) (file names rest : List ℕ) → Split 10 file names rest → (e : FileRefusal) → with_lines h t 2 (length names + 1) (lines rest) ≡ Err e → PlaceBy e.reason file e
refused_file h t file names rest cut e bad =
    refused_lines h (lines rest) t 2 (length names + 1) file (names ++ (10 ∷ [])) rest (cut.whole ∙ sym (append_assoc names (10 ∷ []) rest)) (length-append names (10 ∷ []))
    (omega (arith, ends_append names (10 ∷ []), ends_none names cut.first)) (inr (names, refl)) refl e bad
