use Rattle.std.proofs.Common.{◌∙◌, ap, Some, cond}
use Rattle.std.specs.Prelude.{string_bytes}
use Rattle.std.specs.HashMap.{get_by_text}
use Rattle.std.specs.Str.{bytes_eq}
use Rattle.std.proofs.lemmas.Map.Text.{hash_map_updates_text}
use Rattle.tag_index.proofs.SoundLemmas.{turned}
use Rattle.tag_index.proofs.index.number.Goals as goal

pub returns-clause-ok : goal.returns-clause-ok
returns-clause-ok c t =
    hash_map_updates_text (string_bytes c.in_ok-key.key) c.args.numbers.now c.insert.new.self _ c.in_ok-insert.ensures.updates t
    ∙ ap (λ b. cond b (Some c.args.ordinal) (get_by_text c.args.numbers.now t)) (ap (λ id. bytes_eq id t) (c.in_ok-key.ensures.ok ∙ c.as_str.ensures) ∙ turned c.args.id.now t)
