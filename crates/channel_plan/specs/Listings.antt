-- The listing of a plan, and how a refusal of a file is told, byte by byte.
use Rattle.std.specs.Prelude.{ℕ, List, ◌++◌, replicate, None, Ok, Err, codes, decimal, Result}
use Rattle.std.specs.List.{flat_map}
use Rattle.channel_plan.specs.declared.refusal.FileRefusal.{FileRefusal}
use Rattle.channel_plan.specs.declared.row.Row.{Row}
use Rattle.channel_plan.specs.Files.{with_file}
use Rattle.channel_plan.specs.Rates.{bits}
use Rattle.channel_plan.specs.Refusals.{file_number}
use Rattle.channel_plan.specs.Rows.{slots}
use Rattle.channel_plan.specs.Entries.{Entries, rows_after}

-- a row, as the listing prints it
abbrev pub row_text : Row → List ℕ
row_text r =
    decimal r.channel
    ++ (codes "," ++ (decimal (bits r.assignment.rate) ++ (codes "," ++ (decimal r.assignment.first ++ (codes "," ++ decimal (slots r.assignment))))))

-- a refusal of a file, as it is printed
abbrev pub refusal_text : FileRefusal → List ℕ
refusal_text r =
    codes "refused " ++ (decimal (file_number r.reason) ++ (codes " line " ++ (decimal r.line ++ (codes " byte " ++ decimal r.byte))))

-- rows, a line each
abbrev pub row_lines : List Row → List ℕ
row_lines rs = flat_map (λ r. row_text r ++ codes "\n") rs

-- the listing of a plan: a line of names, and a line for each row by rising channel
unfoldable pub listing : Entries → List ℕ
listing t = codes "channel,rate,first,slots\n" ++ row_lines (rows_after t 0)

abbrev pub told : Result Entries FileRefusal → List ℕ
told (Ok t) = listing t
told (Err e) = refusal_text e ++ codes "\n"

-- what is printed of a plan file: the listing of its plan, or its refusal
abbrev pub report : List ℕ → List ℕ
report file = told (with_file (replicate 80 None) file)
