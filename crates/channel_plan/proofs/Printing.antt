-- Rows printed one after another.
use Rattle.std.proofs.Common.{◌≡◌, ℕ, List, [], ◌∷◌, ◌++◌, codes, sym, refl, ◌∙◌}
use Rattle.std.specs.Fmt.{IsPlainFormatter, HasWritten}
use Rattle.std.specs.declared.fmt.Formatter.{Formatter}
use Rattle.std.proofs.Output.{writes_in_calls_nil, has_written_append, has_written_of_eq}
use Rattle.std.proofs.lemmas.List.{append_assoc, append-nil}
use Rattle.channel_plan.specs.declared.row.Row.{Row}
use Rattle.channel_plan.specs.Listings.{row_lines, row_text}

module _ {W : Type 0} (took : W → List ℕ → W → Type 0) where
  -- from f to g so many of the rows were printed that `rest` is left of `all`
  pub record Printed (f g : Formatter W) (all rest : List Row) : Type 0 where
    pub text : List ℕ
    pub put : HasWritten took f text g
    pub so_far : text ++ row_lines rest ≡ row_lines all

  pub printed_none : (f : Formatter W) (all : List Row) → IsPlainFormatter f → Printed f f all all
  printed_none f all plain = record { text = []; put = record { wrote = writes_in_calls_nil took f.writer; plain = plain }; so_far = refl }

  pub printed_more : (f g h : Formatter W) (all rest : List Row) (r : Row) → Printed f g all (r ∷ rest) → HasWritten took g (row_text r ++ codes "\n") h → Printed f h all rest
  printed_more f g h all rest r p q = record {
    text = p.text ++ (row_text r ++ codes "\n");
    put = has_written_append took f p.text g (row_text r ++ codes "\n") h p.put q;
    so_far = append_assoc p.text (row_text r ++ codes "\n") (row_lines rest) ∙ p.so_far;
  }

  pub printed_all : (f g : Formatter W) (all : List Row) → Printed f g all [] → HasWritten took f (row_lines all) g
  printed_all f g all p = has_written_of_eq took f p.text (row_lines all) g (sym (append-nil p.text) ∙ p.so_far) p.put
