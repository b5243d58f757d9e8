-- The tables of plans.
use Rattle.std.specs.Prelude.{◌≡◌, ℕ, ◌<◌, Bool, cond, List, [], ◌∷◌, codes, Some, None, Option, nat_lt, replicate, slice_index_or}
use Rattle.channel_plan.specs.declared.rate.Rate.TheVariants.{Bps750}
use Rattle.channel_plan.specs.declared.row.Assignment.{Assignment}
use Rattle.channel_plan.specs.Adding.{with_row}
use Rattle.channel_plan.specs.Outcomes.{left}
use Rattle.channel_plan.specs.Entries.{Entries}
use Rattle.script.specs.Words.{is_word, number_at, parsed_at, word_at}

abbrev pub is_row : List ℕ → Bool
is_row line = is_word (word_at line 0) (codes "row")

-- by a reading of the number at a place of a line
module _ (at : List ℕ → ℕ → ℕ) where
  -- the table with the row of a line; a refused row is passed over
  abbrev pub with_line_by : Entries → List ℕ → Entries
  with_line_by t line = cond (is_row line) (left (with_row t (at line 1) (at line 2) (at line 3)) t) t

  abbrev pub with_lines_by : Entries → List (List ℕ) → Entries
  with_lines_by t [] = t
  with_lines_by t (line ∷ lines) = with_lines_by (with_line_by t line) lines

-- by numbers in plain digits
abbrev pub with_line : Entries → List ℕ → Entries
with_line t line = with_line_by number_at t line

abbrev pub with_lines : Entries → List (List ℕ) → Entries
with_lines t lines = with_lines_by number_at t lines

-- what the rows among the lines make of an empty draft
abbrev pub table_of : List (List ℕ) → Entries
table_of lines = with_lines (replicate 80 None) lines

-- by numbers as they are parsed
abbrev pub parsed_table_of : List (List ℕ) → Entries
parsed_table_of lines = with_lines_by parsed_at (replicate 80 None) lines

-- what channel k + 1 is assigned where the first n channels have 750 bit/s, each from the slot below its number
abbrev pub busy : ℕ → ℕ → Option Assignment
busy n k = cond (nat_lt k n) (Some (record { rate = Bps750; first = k })) None

-- every channel has 750 bit/s, so that every slot is owned
abbrev pub Busy : Entries → Type 0
Busy t = (k : ℕ) → k < 80 → slice_index_or t k None ≡ Some (record { rate = Bps750; first = k })
