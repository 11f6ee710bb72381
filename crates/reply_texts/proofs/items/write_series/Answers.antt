use Rattle.std.proofs.Common.{◌≡◌, ◌++◌, [], ◌∷◌, ◌∙◌, rules}
use Rattle.std.proofs.lemmas.Result.{on_ok_weaker}
use Rattle.json.specs.Token.{begin_object}
use Rattle.reply_texts.proofs.ListLemmas.{four_pieces}
use Rattle.reply_texts.proofs.items.write_series.Goals as goal

pub returns-clause-tokens : goal.returns-clause-tokens
returns-clause-tokens c =
    let begun : c.begin_object.new.self.tokens ≡ c.args.out.now.tokens ++ begin_object ∷ [] = search rules in
    on_ok_weaker c.end_object.result (λ e. e ∙ four_pieces _ _ _ _ _ _ _ _ begun c.in_ok-write_text.ensures.tokens c.in_ok-put_list.ensures.tokens) c.end_object.ensures.ok
