-- The owner of a slot by a table of rows.
use Rattle.std.specs.Prelude.{◌≡◌, ℕ, ◌%◌, ◌<◌, Some, Option}
use Rattle.channel_plan.specs.declared.row.Assignment.{Assignment}
use Rattle.channel_plan.specs.Entries.{Entries, owner_among, row_at}
use Rattle.channel_plan.specs.Rates.{period}
use Rattle.channel_plan.specs.declared.table.Table.{Table as Rows}

-- the struct that holds the rows, with what its type says of them
abbrev pub Table : Type 0
Table = Rows

-- the owner of a slot of the frame
abbrev pub owner_of : Table → ℕ → Option ℕ
owner_of t s = owner_among t.entries s

-- channel c has a row, and its period and first slot give it slot s of the frame
pub record Owns (t : Entries) (c s : ℕ) : Type 0 where
  pub row : Assignment
  pub there : row_at t c ≡ Some row
  pub framed : s < 240
  pub falls : s % period row.rate ≡ row.first

-- channel c is the answer exactly if it owns the slot
pub record OwnerIs (t : Entries) (s : ℕ) (answer : Option ℕ) (c : ℕ) : Type 0 where
  pub owner : answer ≡ Some c → Owns t c s
  pub only : Owns t c s → answer ≡ Some c
