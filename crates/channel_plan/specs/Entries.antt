-- The entries of a table of rows by channel, which channel owns a slot, and which rows may stand together.
use Rattle.std.specs.Prelude.{◌≡◌, ℕ, ◌+◌, ◌-◌, ◌<◌, Bool, false, cond, not, ◌&&◌, List, [], ◌∷◌, ◌++◌, drop, Some, None, Option, ◌==◌, nat_le, nat_lt, slice_index_or}
use Rattle.std.specs.List.{list_any}
use Rattle.std.specs.Option.{option_to_list}
use Rattle.channel_plan.specs.declared.row.Assignment.{Assignment}
use Rattle.channel_plan.specs.declared.row.Row.{Row}
use Rattle.channel_plan.specs.Rates.{period}
use Rattle.channel_plan.specs.Rows.{owns, mixes}

-- entry i is what channel i + 1 is assigned
abbrev pub Entries : Type 0
Entries = List (Option Assignment)

abbrev pub is_channel : ℕ → Bool
is_channel c = nat_le 1 c && nat_le c 80

-- what channel c is assigned
abbrev pub row_at : Entries → ℕ → Option Assignment
row_at t c = cond (is_channel c) (slice_index_or t (c - 1) None) None

abbrev pub as_row : ℕ → Option Assignment → Option Row
as_row c None = None
as_row c (Some a) = Some (record { channel = c; assignment = a })

-- the row of channel c
abbrev pub row_of : Entries → ℕ → Option Row
row_of t c = as_row c (row_at t c)

-- the rows by rising channel, where the first entry is that of channel c
abbrev pub rows_from : ℕ → Entries → List Row
rows_from c [] = []
rows_from c (o ∷ t) = option_to_list (as_row c o) ++ rows_from (c + 1) t

-- the rows of the channels above c
abbrev pub rows_after : Entries → ℕ → List Row
rows_after t c = rows_from (c + 1) (drop c t)

-- the next row after those of the channels up to c, if there is one
abbrev pub NextRow : Entries → ℕ → Option Row → Type 0
NextRow t c None = rows_after t c ≡ []
NextRow t c (Some r) = rows_after t c ≡ r ∷ rows_after t r.channel

-- there is a row, and it passes the test
abbrev pub passes : (Assignment → Bool) → Option Assignment → Bool
passes p None = false
passes p (Some a) = p a

abbrev pub some_row : (Assignment → Bool) → Entries → Bool
some_row p t = list_any (passes p) t

-- the channel has the slot
abbrev pub holds : Entries → ℕ → ℕ → Bool
holds t c s = passes (λ a. owns a s) (row_at t c)

-- the first channel from c on whose row owns the slot
abbrev pub owner_from : ℕ → Entries → ℕ → Option ℕ
owner_from c [] s = None
owner_from c (o ∷ t) s = cond (passes (λ a. owns a s) o) (Some c) (owner_from (c + 1) t s)

-- the owner of a slot of the frame
abbrev pub owner_among : Entries → ℕ → Option ℕ
owner_among t s = cond (nat_lt s 240) (owner_from 1 t s) None

-- every first slot lies below its period
abbrev pub Below : Entries → Type 0
Below t = (c : ℕ) → passes (λ a. not (nat_lt a.first (period a.rate))) (row_at t c) ≡ false

-- all rows of a group have one rate
abbrev pub OneRate : Entries → Type 0
OneRate t = (c d : ℕ) → passes (λ a. passes (mixes a) (row_at t d)) (row_at t c) ≡ false

-- a slot of the frame goes to two channels
abbrev pub twice : Entries → ℕ → ℕ → ℕ → Bool
twice t c d s = not (c == d) && (nat_lt s 240 && (holds t c s && holds t d s))

-- no slot of the frame goes to two channels
abbrev pub Apart : Entries → Type 0
Apart t = (c d s : ℕ) → twice t c d s ≡ false

-- the table of owners is what the rows say
abbrev pub Owned : Entries → List (Option ℕ) → Type 0
Owned t owners = (s : ℕ) → s < 240 → slice_index_or owners s None ≡ owner_among t s
