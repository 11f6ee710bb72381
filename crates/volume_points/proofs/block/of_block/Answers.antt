use Rattle.std.proofs.Common.{rules, ap, ◌∙◌, List, ◌++◌}
use Rattle.std.specs.Prelude.{filter}
use Rattle.fileset_check.specs.volume_bytes.declared.heads.Head.{Head}
use Rattle.fileset_check.specs.volume_bytes.Heads.{head_of}
use Rattle.volume_points.specs.Known.{is_head_of}
use Rattle.volume_points.proofs.RetainLemmas.{filtered}
use Rattle.volume_points.proofs.block.of_block.Goals as goal

pub returns : goal.returns
returns c =
    let test = λ (h : Head). is_head_of c.args.ns c.args.start c.args.size (head_of h) in
    filtered _ test _ (λ x b g k. search rules) c.extend_from_slice.new.self.items c.retain.new.self.items c.retain.ensures.filtered
    ∙ ap (filter test) (c.in_ok-extend_from_slice.ensures.items ∙ ap (λ (l : List Head). l ++ c.args.volumes.now) c.new-found.ensures.items)
