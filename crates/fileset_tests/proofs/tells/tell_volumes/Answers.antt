use Rattle.std.proofs.Common.{sym, subst, ◌∙◌, get_or}
use Rattle.m3_model.proofs.Lists.{IsIn-get_or}
use Rattle.m3_outside.specs.Files.{Files}
use Rattle.volume_bytes.specs.Heads.{head_of}
use Rattle.fileset_read.specs.Volumes.{IsThere}
use Rattle.fileset_check.specs.declared.volume.Volume.{Volume}
use Rattle.fileset_tests.proofs.tells.tell_volumes.Goals as goal

pub loop-volume-init : goal.loop-volume-init
loop-volume-init g c = c.requires.there

pub tell_volume-requires : goal.tell_volume-requires
tell_volume-requires g c = record {
  there = λ t.
      let none : Volume = record { head = record { ns = 0; start = 0; size = 0; number = 0 }; series = 0; points = 0 } in
      c.loop-volume.invariant t (get_or c.args.volumes.now c.loop-volume.volume-index none) (IsIn-get_or c.args.volumes.now c.loop-volume.volume-index none c.loop-volume-test.true);
}

pub loop-volume-preserved : goal.loop-volume-preserved
loop-volume-preserved g c = λ t v m.
    let before = sym c.tell_volume.ensures.tells ∙ t in
    subst (λ (files : Files). IsThere (head_of v.head) files) (sym (c.tell_volume.ensures.files before)) (c.loop-volume.invariant before v m)
