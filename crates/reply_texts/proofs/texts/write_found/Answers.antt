use Rattle.std.proofs.Common.{◌≡◌, ◌++◌, [], ◌∷◌, ◌∙◌, rules}
use Rattle.std.proofs.lemmas.Result.{on_ok_weaker}
use Rattle.json.specs.Token.{begin_object}
use Rattle.reply_texts.proofs.ListLemmas.{five_pieces}
use Rattle.reply_texts.proofs.texts.write_found.Goals as goal

pub returns-clause-tokens : goal.returns-clause-tokens
returns-clause-tokens c =
    let begun : c.begin_object.new.self.tokens ≡ c.args.out.now.tokens ++ begin_object ∷ [] = search rules in
    on_ok_weaker c.end_object.result (λ e. e ∙ five_pieces _ _ _ _ _ _ _ _ _ _ begun c.in_ok-write_flag.ensures.tokens c.in_ok-put_list.ensures.tokens c.in_ok-write_flag-2.ensures.tokens) c.end_object.ensures.ok
