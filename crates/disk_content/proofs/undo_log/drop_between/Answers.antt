use Rattle.std.proofs.Common.{rules}
use Rattle.std.proofs.lemmas.Fn.{filter_same}
use Rattle.disk_content.specs.Writes.{is_other}
use Rattle.disk_content.proofs.undo_log.drop_between.Goals as goal

pub returns-clause-others : goal.returns-clause-others
returns-clause-others c = filter_same _ (λ w. is_other c.args.name w.name) _ (λ x b q r. search rules) _ _ c.retain.ensures.filtered
