-- What a file that is accepted leaves, in terms of rows, and where one that is refused goes wrong, in terms of its bytes.
use Rattle.std.specs.Prelude.{◌≡◌, ℕ, ◌+◌, ◌<◌, cond, ◌⊎◌, List, [], ◌∷◌, ◌++◌, length, Some, None, Ok, Err, Result, ◌==◌, slice_index_or}
use Rattle.plan_text.specs.declared.header.Column.TheVariants.{Channel, Rate, First}
use Rattle.plan_text.specs.declared.header.Header.{Header}
use Rattle.channel_plan.specs.declared.refusal.FileRefusal.{FileRefusal}
use Rattle.channel_plan.specs.declared.refusal.Reason.{Reason}
use Rattle.channel_plan.specs.declared.refusal.Reason.TheVariants.{TooLong, NotEnded, Names, Fields, Number, Row}
use Rattle.channel_plan.specs.declared.row.Assignment.{Assignment}
use Rattle.channel_plan.specs.Files.{Values, values_of}
use Rattle.plan_text.specs.Headers.{header_of, under}
use Rattle.plan_text.specs.Numbers.{number_of}
use Rattle.plan_text.specs.Pieces.{Without, lines}
use Rattle.channel_plan.specs.Rates.{bits}
use Rattle.channel_plan.specs.Entries.{Entries, row_at}

-- under these names the line says: channel c, this rate and this first slot
pub record Says (h : Header) (line : List ℕ) (c : ℕ) (a : Assignment) : Type 0 where
  pub values : Values
  pub numbers : values_of line ≡ Ok values
  pub channel : under h Channel values.left values.middle values.right ≡ c
  pub rate : under h Rate values.left values.middle values.right ≡ bits a.rate
  pub first : under h First values.left values.middle values.right ≡ a.first

-- one of the lines says it
pub record SomeLine (h : Header) (rest : List (List ℕ)) (c : ℕ) (a : Assignment) : Type 0 where
  pub place : ℕ
  pub below : place < length rest
  pub says : Says h (slice_index_or rest place []) c a

-- the file's first line gives the names, and one of the lines after it says it
pub record States (file : List ℕ) (c : ℕ) (a : Assignment) : Type 0 where
  pub header : Header
  pub names : List ℕ
  pub rest : List (List ℕ)
  pub cut : lines file ≡ names ∷ rest
  pub named : header_of names ≡ Some header
  pub line : SomeLine header rest c a

-- the rows that `after` has are those of `before` and those that P says
pub record Joins (before after : Entries) (P : ℕ → Assignment → Type 0) : Type 0 where
  pub old : (c : ℕ) (a : Assignment) → row_at before c ≡ Some a → row_at after c ≡ Some a
  pub new : (c : ℕ) (a : Assignment) → P c a → row_at after c ≡ Some a
  pub only : (c : ℕ) (a : Assignment) → row_at after c ≡ Some a → (row_at before c ≡ Some a) ⊎ P c a

-- a file that is accepted leaves the rows that were there and the file's rows, and no others
abbrev pub Accepted : Result Unit FileRefusal → Entries → List ℕ → Entries → Type 0
Accepted (Ok x) before file after = Joins before after (States file)
Accepted (Err e) before file after = Unit {0}

-- how many lines end in a text
abbrev pub ends : List ℕ → ℕ
ends [] = 0
ends (b ∷ bs) = cond (b == 10) 1 0 + ends bs

-- the text ends with that byte
abbrev pub EndsWith : ℕ → List ℕ → Type 0
EndsWith b text = (rest : List ℕ) × (text ≡ rest ++ (b ∷ []))

-- behind it a line begins: it is empty, or a line ends there
abbrev pub LineBegins : List ℕ → Type 0
LineBegins front = (front ≡ []) ⊎ EndsWith 10 front

-- the line and the byte that a refusal names are those of what stands behind front
pub record Place (file front back : List ℕ) (e : FileRefusal) : Type 0 where
  pub whole : file ≡ front ++ back
  pub byte : length front ≡ e.byte
  pub line : ends front + 1 ≡ e.line

-- a line begins there
pub record LinePlace (file : List ℕ) (e : FileRefusal) : Type 0 where
  pub front : List ℕ
  pub back : List ℕ
  pub place : Place file front back e
  pub begins : LineBegins front

-- a field begins there, which is no number
pub record FieldPlace (file : List ℕ) (e : FileRefusal) : Type 0 where
  pub front : List ℕ
  pub field : List ℕ
  pub stop : ℕ
  pub back : List ℕ
  pub place : Place file front (field ++ (stop ∷ back)) e
  pub begins : LineBegins front ⊎ EndsWith 44 front
  pub one : Without 44 field
  pub stops : (stop ≡ 44) ⊎ (stop ≡ 10)
  pub no_number : number_of field ≡ None

abbrev pub PlaceBy : Reason → List ℕ → FileRefusal → Type 0
PlaceBy TooLong file e = (e.line ≡ 0) × (e.byte ≡ 0)
PlaceBy NotEnded file e = (e.line ≡ 0) × (e.byte ≡ 0)
PlaceBy Names file e = (e.line ≡ 0) × (e.byte ≡ 0)
PlaceBy Fields file e = LinePlace file e
PlaceBy Number file e = FieldPlace file e
PlaceBy (Row r) file e = LinePlace file e

-- a refusal of the whole file names line 0 and byte 0, one of a line the place where that line or field begins
abbrev pub Refused : Result Unit FileRefusal → List ℕ → Type 0
Refused (Ok x) file = Unit {0}
Refused (Err e) file = PlaceBy e.reason file e
