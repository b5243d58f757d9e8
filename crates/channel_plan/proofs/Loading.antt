-- Loading a file line by line.
use Rattle.std.proofs.Common.{◌≡◌, ℕ, ◌+◌, ◌<◌, ◌≤◌, true, false, cond, ltb, List, [], length, Some, Ok, Err, Result, refl, sym, ap, ◌∙◌}
use Rattle.plan_text.specs.declared.header.Header.{Header}
use Rattle.channel_plan.specs.declared.refusal.FileRefusal.{FileRefusal}
use Rattle.channel_plan.specs.declared.refusal.Reason.TheVariants.{TooLong, NotEnded, Names, Row}
use Rattle.channel_plan.specs.declared.refusal.RowRefusal.{RowRefusal}
use Rattle.std.specs.Result.{MatchResult, IsErrAnd}
use Rattle.channel_plan.specs.Files.{and_then, by_lines, ended, row_refused, under_header, wholly, with_file, with_line, with_lines}
use Rattle.plan_text.specs.Headers.{header_of}
use Rattle.channel_plan.specs.Numbering.{Next}
use Rattle.channel_plan.specs.declared.lines.Line.{Line}
use Rattle.channel_plan.specs.declared.lines.Lines.{Lines}
use Rattle.channel_plan.specs.Outcomes.{answer, left}
use Rattle.plan_text.specs.Pieces.{Split, Without, lines}
use Rattle.channel_plan.specs.Entries.{Entries}
use Rattle.std.proofs.lemmas.Bool.{cond-true, cond-false, lt-ltb, le-ltb}
use Rattle.plan_text.proofs.Cuts.{cut_split, lines_none}
use Rattle.channel_plan.proofs.Outcomes.{was_ok, was_err}

module _ (h : Header) (t : Entries) (line byte : ℕ) where
  -- no line is left
  pub lines_end : (text : List ℕ) → Without 10 text → with_lines h t line byte (lines text) ≡ Ok t
  unfolding with_lines
  lines_end text none = ap (with_lines h t line byte) (lines_none text none)

  module _ (text row after : List ℕ) (cut : Split 10 text row after) where
    by_line : with_lines h t line byte (lines text) ≡ and_then (with_line h t line byte row) (λ u. with_lines h u (line + 1) (byte + (length row + 1)) (lines after))
    unfolding with_lines
    by_line = ap (with_lines h t line byte) (cut_split 10 [] text row after cut)

    -- one line is taken
    pub line_more : (u : Entries) → Ok tt ≡ answer (with_line h t line byte row) → u ≡ left (with_line h t line byte row) t → with_lines h u (line + 1) (byte + (length row + 1)) (lines after) ≡ with_lines h t line byte (lines text)
    line_more u ok is =
        ap (λ v. with_lines h v (line + 1) (byte + (length row + 1)) (lines after)) is
        ∙ sym (by_line ∙ ap (λ o. and_then o (λ v. with_lines h v (line + 1) (byte + (length row + 1)) (lines after))) (was_ok (with_line h t line byte row) t ok))

    -- one line is refused
    pub line_refused : (e : FileRefusal) → Err e ≡ answer (with_line h t line byte row) → with_lines h t line byte (lines text) ≡ Err e
    line_refused e err = by_line ∙ ap (λ o. and_then o (λ u. with_lines h u (line + 1) (byte + (length row + 1)) (lines after))) (was_err (with_line h t line byte row) e err)

-- the same, by what the iterator over the lines gives
module _ (h : Header) (t : Entries) (s next : Lines) (l : Line) (gave : Next s l next) where
  pub line_taken : (u : Entries) → Ok tt ≡ answer (with_line h t l.number l.byte l.text.now) → u ≡ left (with_line h t l.number l.byte l.text.now) t → with_lines h u next.number next.byte (lines next.rest.now) ≡ with_lines h t s.number s.byte (lines s.rest.now)
  line_taken u ok is =
      rw (gave.number_after, gave.byte_after)
      (line_more h t s.number s.byte s.rest.now l.text.now next.rest.now gave.cut u (rw (gave.number, gave.byte) at ok) (rw (gave.number, gave.byte) at is))

  pub line_stopped : (e : FileRefusal) → Err e ≡ answer (with_line h t l.number l.byte l.text.now) → with_lines h t s.number s.byte (lines s.rest.now) ≡ Err e
  line_stopped e err = line_refused h t s.number s.byte s.rest.now l.text.now next.rest.now gave.cut e (rw (gave.number, gave.byte) at err)

-- the row of a line, and the refusal of it told with its place
module _ (line byte : ℕ) where
  pub row_told : (o : Result Entries RowRefusal) (r : Result Unit RowRefusal) (m : Result Unit FileRefusal) (P : RowRefusal → FileRefusal → Type 0) → r ≡ answer o → MatchResult r (λ x. m ≡ Ok x) (λ e. IsErrAnd m (P e)) → ((e : RowRefusal) (f : FileRefusal) → P e f → f ≡ record { reason = Row e; line = line; byte = byte }) → m ≡ answer (row_refused line byte o)
  row_told (Ok t) (Ok x) m P a k told = k
  row_told (Ok t) (Err e) m P a k told = cc
  row_told (Err e) (Ok x) m P a k told = cc
  row_told (Err e) (Err f) (Ok x) P a k told = absurd k
  row_told (Err e) (Err f) (Err d) P a k told = let same : f ≡ e = cc in ap Err (told f d k ∙ ap (λ g. record { reason = Row g; line = line; byte = byte }) same)

  pub row_left : (o : Result Entries RowRefusal) (t : Entries) → left o t ≡ left (row_refused line byte o) t
  row_left (Ok u) t = refl
  row_left (Err e) t = refl

-- the file as a whole, in the order in which it is judged
module _ (t : Entries) (file : List ℕ) where
  pub file_long : 4096 < length file → with_file t file ≡ Err (wholly TooLong)
  unfolding with_file
  file_long long = cond-true (ltb 4096 (length file)) _ _ (lt-ltb 4096 (length file) long)

  module _ (short : length file ≤ 4096) where
    by_end : with_file t file ≡ cond (ended file) (by_lines t (lines file)) (Err (wholly NotEnded))
    unfolding with_file
    by_end = cond-false (ltb 4096 (length file)) _ _ (le-ltb 4096 (length file) short)

    pub file_open : ended file ≡ false → with_file t file ≡ Err (wholly NotEnded)
    file_open e = by_end ∙ cond-false (ended file) _ _ e

    module _ (closed : ended file ≡ true) where
      pub file_empty : Without 10 file → with_file t file ≡ Err (wholly Names)
      file_empty none = by_end ∙ cond-true (ended file) _ _ closed ∙ ap (by_lines t) (lines_none file none)

      pub file_named : (names rest : List ℕ) → Split 10 file names rest → with_file t file ≡ under_header (header_of names) t (length names + 1) (lines rest)
      file_named names rest cut = by_end ∙ cond-true (ended file) _ _ closed ∙ ap (by_lines t) (cut_split 10 [] file names rest cut)

      pub file_lines : (names rest : List ℕ) (h : Header) → Split 10 file names rest → Some h ≡ header_of names → with_file t file ≡ with_lines h t 2 (length names + 1) (lines rest)
      file_lines names rest h cut is = file_named names rest cut ∙ ap (λ o. under_header o t (length names + 1) (lines rest)) (sym is)
