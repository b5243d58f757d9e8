-- What is printed of a file, by what loading it onto an empty draft answers.
use Rattle.std.proofs.Common.{◌≡◌, ℕ, List, ◌++◌, replicate, None, Ok, Err, codes, sym, ap, ◌∙◌}
use Rattle.channel_plan.specs.declared.refusal.FileRefusal.{FileRefusal}
use Rattle.channel_plan.specs.Files.{with_file}
use Rattle.channel_plan.specs.Listings.{listing, refusal_text, report, told}
use Rattle.channel_plan.specs.Outcomes.{answer, left}
use Rattle.channel_plan.specs.Entries.{Entries}
use Rattle.channel_plan.proofs.Outcomes.{was_err, was_ok}

module _ (t : Entries) (file : List ℕ) (empty : t ≡ replicate 80 None) where
  on_empty : told (with_file t file) ≡ report file
  on_empty = ap (λ v. told (with_file v file)) empty

  pub report_ok : (u : Entries) → Ok tt ≡ answer (with_file t file) → u ≡ left (with_file t file) t → listing u ≡ report file
  report_ok u ok is = ap listing is ∙ ap told (sym (was_ok (with_file t file) t ok)) ∙ on_empty

  pub report_err : (e : FileRefusal) → Err e ≡ answer (with_file t file) → refusal_text e ++ codes "\n" ≡ report file
  report_err e err = ap told (sym (was_err (with_file t file) e err)) ∙ on_empty
