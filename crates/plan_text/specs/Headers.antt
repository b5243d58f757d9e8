-- The names line of a plan file: channel, rate and first, each once, in any order.
use Rattle.std.specs.Prelude.{ℕ, Bool, true, false, cond, ◌||◌, List, Some, None, codes, Option}
use Rattle.std.specs.Str.{bytes_eq}
use Rattle.plan_text.specs.declared.header.Column.{Column}
use Rattle.plan_text.specs.declared.header.Column.TheVariants.{Channel, Rate, First}
use Rattle.plan_text.specs.declared.header.Header.{Header}
use Rattle.plan_text.specs.Pieces.{Three, fields, three}

-- the column that a name stands for
abbrev pub column_of : List ℕ → Option Column
column_of name =
    cond (bytes_eq name (codes "channel")) (Some Channel)
    (cond (bytes_eq name (codes "rate")) (Some Rate) (cond (bytes_eq name (codes "first")) (Some First) None))

abbrev pub same : Column → Column → Bool
same Channel Channel = true
same Channel Rate = false
same Channel First = false
same Rate Channel = false
same Rate Rate = true
same Rate First = false
same First Channel = false
same First Rate = false
same First First = true

abbrev pub each_once : Option Column → Option Column → Option Column → Option Header
each_once None b c = None
each_once (Some a) None c = None
each_once (Some a) (Some b) None = None
each_once (Some a) (Some b) (Some c) =
    cond (same a b || (same a c || same b c)) None (Some (record { columns = record { left = a; middle = b; right = c } }))

abbrev pub named : Option Three → Option Header
named None = None
named (Some f) = each_once (column_of f.0) (column_of f.1) (column_of f.2)

-- the columns that the names line gives
abbrev pub header_of : List ℕ → Option Header
header_of line = named (three (fields line))

-- the value under a name, of three from left to right
abbrev pub under : Header → Column → ℕ → ℕ → ℕ → ℕ
under h name x y z = cond (same h.columns.left name) x (cond (same h.columns.middle name) y z)
