use Rattle.std.proofs.Common.{ap, drop, lit<, refl, ◌∙◌}
use Rattle.std.proofs.lemmas.Iterator.Splits.{YieldsList-from_str_split}
use Rattle.script.proofs.Nexts.{at_drop, next_of}
use Rattle.script.specs.Words.{parsed_in, words}
use Rattle.script.proofs.words.numbers.Goals as goal

pub returns : goal.returns
returns c =
    let line = c.args.line.now in
    let all = YieldsList-from_str_split 32 line (lit< tt) c.split-words.ensures.text c.split-words.ensures.has_more c.split-words.ensures.pattern in
    let a = next_of _ _ (λ s t h. h.1) _ _ c.next.ensures.steps all in
    let b = next_of _ _ (λ s t h. h.1) _ _ c.next-2.ensures.steps a.1 in
    let d = next_of _ _ (λ s t h. h.1) _ _ c.next-3.ensures.steps b.1 in
    let e = next_of _ _ (λ s t h. h.1) _ _ c.next-4.ensures.steps d.1 in
    rw (c.parsed_in.ensures ∙ ap parsed_in (b.0 ∙ at_drop 0 (words line)))
    (rw (c.parsed_in-2.ensures ∙ ap parsed_in (d.0 ∙ at_drop 0 (drop 1 (words line)) ∙ at_drop 1 (words line)))
    (rw (c.parsed_in-3.ensures ∙ ap parsed_in (e.0 ∙ at_drop 0 (drop 1 (drop 1 (words line))) ∙ at_drop 1 (drop 1 (words line)) ∙ at_drop 2 (words line)))
    refl))
