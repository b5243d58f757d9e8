-- What a plan file means to a table: the table with its rows, or why it is refused and where.
use Rattle.std.specs.Prelude.{ℕ, ◌+◌, ◌-◌, Bool, cond, ◌||◌, List, [], ◌∷◌, length, Some, None, Ok, Err, Option, Result, ◌==◌, nat_lt, slice_index}
use Rattle.plan_text.specs.declared.header.Column.TheVariants.{Channel, Rate, First}
use Rattle.plan_text.specs.declared.header.Header.{Header}
use Rattle.plan_text.specs.declared.text.Columns.{Columns}
use Rattle.channel_plan.specs.declared.file.Fault.{Fault}
use Rattle.channel_plan.specs.declared.refusal.FileRefusal.{FileRefusal}
use Rattle.channel_plan.specs.declared.refusal.Reason.{Reason}
use Rattle.channel_plan.specs.declared.refusal.Reason.TheVariants.{TooLong, NotEnded, Names, Fields, Number, Row}
use Rattle.channel_plan.specs.declared.refusal.RowRefusal.{RowRefusal}
use Rattle.channel_plan.specs.Adding.{with_row}
use Rattle.plan_text.specs.Headers.{header_of, under}
use Rattle.plan_text.specs.Numbers.{number_of}
use Rattle.plan_text.specs.Pieces.{Three, fields, lines, three}
use Rattle.channel_plan.specs.Entries.{Entries}

-- the numbers of a line from left to right
abbrev pub Values : Type 0
Values = Columns ℕ

abbrev pub numbered : Three → Option ℕ → Option ℕ → Option ℕ → Result Values Fault
numbered f None y z = Err (record { reason = Number; at = 0 })
numbered f (Some x) None z = Err (record { reason = Number; at = length f.0 + 1 })
numbered f (Some x) (Some y) None = Err (record { reason = Number; at = length f.0 + 1 + (length f.1 + 1) })
numbered f (Some x) (Some y) (Some z) = Ok (record { left = x; middle = y; right = z })

abbrev pub read_from : Option Three → Result Values Fault
read_from None = Err (record { reason = Fields; at = 0 })
read_from (Some f) = numbered f (number_of f.0) (number_of f.1) (number_of f.2)

-- three numbers, or the leftmost field that is none
abbrev pub values_of : List ℕ → Result Values Fault
values_of text = read_from (three (fields text))

-- where a line stands in its file: its number from 1, and the byte from 0 where it begins
abbrev pub row_refused : ℕ → ℕ → Result Entries RowRefusal → Result Entries FileRefusal
row_refused line byte (Ok t) = Ok t
row_refused line byte (Err e) = Err (record { reason = Row e; line = line; byte = byte })

abbrev pub with_values : Header → Entries → ℕ → ℕ → Result Values Fault → Result Entries FileRefusal
with_values h t line byte (Err f) = Err (record { reason = f.reason; line = line; byte = byte + f.at })
with_values h t line byte (Ok v) =
    row_refused line byte
    (with_row t (under h Channel v.left v.middle v.right) (under h Rate v.left v.middle v.right) (under h First v.left v.middle v.right))

-- the table with the row of one line
unfoldable pub with_line : Header → Entries → ℕ → ℕ → List ℕ → Result Entries FileRefusal
with_line h t line byte text = with_values h t line byte (values_of text)

abbrev pub and_then : Result Entries FileRefusal → (Entries → Result Entries FileRefusal) → Result Entries FileRefusal
and_then (Ok t) next = next t
and_then (Err e) next = Err e

-- line by line: each is put to the table that those before it leave
unfoldable pub with_lines : Header → Entries → ℕ → ℕ → List (List ℕ) → Result Entries FileRefusal
with_lines h t line byte [] = Ok t
with_lines h t line byte (text ∷ rest) = and_then (with_line h t line byte text) (λ u. with_lines h u (line + 1) (byte + (length text + 1)) rest)

-- a refusal of the whole file
abbrev pub wholly : Reason → FileRefusal
wholly r = record { reason = r; line = 0; byte = 0 }

abbrev pub under_header : Option Header → Entries → ℕ → List (List ℕ) → Result Entries FileRefusal
under_header None t byte rest = Err (wholly Names)
under_header (Some h) t byte rest = with_lines h t 2 byte rest

-- the names line, and the lines of values after it
abbrev pub by_lines : Entries → List (List ℕ) → Result Entries FileRefusal
by_lines t [] = Err (wholly Names)
by_lines t (names ∷ rest) = under_header (header_of names) t (length names + 1) rest

-- the last byte, if there is one, ends a line
abbrev pub ended : List ℕ → Bool
ended file = length file == 0 || slice_index file (length file - 1) == 10

-- the table with the rows of a file
unfoldable pub with_file : Entries → List ℕ → Result Entries FileRefusal
with_file t file =
    cond (nat_lt 4096 (length file)) (Err (wholly TooLong))
    (cond (ended file) (by_lines t (lines file)) (Err (wholly NotEnded)))
