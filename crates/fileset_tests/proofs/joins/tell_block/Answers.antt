use Rattle.std.proofs.Common.{◌∙◌, List, subst}
use Rattle.m3_model.specs.Members.{IsIn}
use Rattle.m3_model.proofs.MemberLemmas.{IsIn-map}
use Rattle.volume_bytes.specs.declared.heads.Head.{Head}
use Rattle.volume_bytes.specs.Heads.{head_of}
use Rattle.fileset_read.specs.Volumes.{IsThere}
use Rattle.fileset_check.specs.declared.volume.Volume.{Volume}
use Rattle.fileset_tests.proofs.joins.tell_block.Goals as goal

pub block_rows-requires-clause-there : goal.block_rows-requires-clause-there
block_rows-requires-clause-there g c = λ t h m.
    let files = (g.D.Disk.state c.args.disk.now).files in
    let of = IsIn-map (λ (v : Volume). v.head) c.args.all.now h (subst (λ (l : List Head). IsIn l h) (c.deref.ensures.value ∙ c.in_ok-heads.ensures) m) in
    subst (λ (x : Head). IsThere (head_of x) files) of.2 (c.requires.there t of.0 of.1)
