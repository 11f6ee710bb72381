use Rattle.std.proofs.Common.{◌≡◌, refl, ap, ◌∙◌, codes}
use Rattle.std.specs.Prelude.{Option, Some, None, option_and_then}
use Rattle.clap.specs.Words.{Text, found_of, one_text}
use Rattle.clap.proofs.WalkLemmas.{one_text-rows}
use Rattle.command_words.specs.Tasks.{number_by}
use Rattle.command_words.proofs.NumberLemmas.{number_read}
use Rattle.command_words.proofs.task.number_of.Goals as goal

pub returns : goal.returns
returns c =
    let found = found_of c.args.found.now in
    let text = one_text found (codes "number") in
    let go : (o : Option Text) → text ≡ o → c.get_one.result ≡ option_and_then number_by o = λ o. elim o as (λ o. text ≡ o → c.get_one.result ≡ option_and_then number_by o) [ None ↦ (λ e. c.get_one.ensures.none e) | Some t ↦ (λ e. number_read t c.get_one.result (c.get_one.ensures.value t e)) ] in
    go text refl ∙ ap (option_and_then number_by) (one_text-rows found (codes "number"))
