use Rattle.std.proofs.Common.{◌≡◌, ◌∙◌, sym, ap, subst, refl, length}
use Rattle.std.specs.FinMap.{get}
use Rattle.commit_log.specs.Segment.{OthersStay}
use Rattle.commit_log.proofs.Append.{torn_others, others_then, same_others, inside0, moment1, inside1, moment2, present2, moment3, inside3, moment4, present4, moment5, acknowledged, kept}
use Rattle.log_chunks.specs.m3_outside.declared.file_name.FileName.{FileName}
use Rattle.commit_log.proofs.chunk.put_chunk.Goals as goal

pub write_at-requires-clause-inside : goal.write_at-requires-clause-inside
write_at-requires-clause-inside g c t =
    inside0 c.args.number c.args.at c.args.chunk.now c.write_u32.new.buf c.segment_name-name.result c.segment_name-name.ensures c.write_u32.ensures (ap length c.write_u32.ensures)
    (g.D.Disk.state c.args.disk.now) c.requires t

pub returns-in_err-write_at-clause-any_moment : goal.returns-in_err-write_at-clause-any_moment
returns-in_err-write_at-clause-any_moment g c t =
    moment1 c.args.number c.args.at c.args.chunk.now c.write_u32.new.buf c.segment_name-name.result c.segment_name-name.ensures c.write_u32.ensures (ap length c.write_u32.ensures)
    (g.D.Disk.state c.args.disk.now) c.requires t _ (c.write_at.ensures.proceeds.told t)

pub write_at-requires-2-clause-inside : goal.write_at-requires-2-clause-inside
write_at-requires-2-clause-inside g c h =
    let t = sym c.write_at.ensures.proceeds.tells ∙ h in
    inside1 c.args.number c.args.at c.args.chunk.now c.write_u32.new.buf c.segment_name-name.result c.segment_name-name.ensures c.write_u32.ensures (ap length c.write_u32.ensures)
    (g.D.Disk.state c.args.disk.now) c.requires t (g.D.Disk.state c.write_at.new.self) (c.in_ok-write_at.ensures.wrote t)

pub returns-in_err-write_at-2-clause-any_moment : goal.returns-in_err-write_at-2-clause-any_moment
returns-in_err-write_at-2-clause-any_moment g c t =
    let t1 = c.write_at.ensures.proceeds.tells ∙ t in
    moment2 c.args.number c.args.at c.args.chunk.now c.write_u32.new.buf c.segment_name-name.result c.segment_name-name.ensures c.write_u32.ensures (ap length c.write_u32.ensures)
    (g.D.Disk.state c.args.disk.now) c.requires t _ _ (c.write_at.ensures.proceeds.told t) (c.write_at-2.ensures.proceeds.told t1)

pub sync-requires-clause-present : goal.sync-requires-clause-present
sync-requires-clause-present g c h =
    let t1 = sym c.write_at-2.ensures.proceeds.tells ∙ h in
    let t = sym c.write_at.ensures.proceeds.tells ∙ t1 in
    present2 c.args.number c.args.at c.args.chunk.now c.write_u32.new.buf c.segment_name-name.result c.segment_name-name.ensures c.write_u32.ensures (ap length c.write_u32.ensures)
    (g.D.Disk.state c.args.disk.now) c.requires t (g.D.Disk.state c.write_at.new.self) (g.D.Disk.state c.write_at-2.new.self) (c.in_ok-write_at.ensures.wrote t) (c.in_ok-write_at-2.ensures.wrote t1)

pub returns-in_err-sync-clause-any_moment : goal.returns-in_err-sync-clause-any_moment
returns-in_err-sync-clause-any_moment g c t =
    let t1 = c.write_at.ensures.proceeds.tells ∙ t in
    let t2 = c.write_at-2.ensures.proceeds.tells ∙ t1 in
    moment3 c.args.number c.args.at c.args.chunk.now c.write_u32.new.buf c.segment_name-name.result c.segment_name-name.ensures c.write_u32.ensures (ap length c.write_u32.ensures)
    (g.D.Disk.state c.args.disk.now) c.requires t _ _ _ (c.write_at.ensures.proceeds.told t) (c.write_at-2.ensures.proceeds.told t1) (c.sync.ensures.proceeds.told t2)

pub write_at-requires-3-clause-inside : goal.write_at-requires-3-clause-inside
write_at-requires-3-clause-inside g c h =
    let t2 = sym c.sync.ensures.proceeds.tells ∙ h in
    let t1 = sym c.write_at-2.ensures.proceeds.tells ∙ t2 in
    let t = sym c.write_at.ensures.proceeds.tells ∙ t1 in
    inside3 c.args.number c.args.at c.args.chunk.now c.write_u32.new.buf c.segment_name-name.result c.segment_name-name.ensures c.write_u32.ensures (ap length c.write_u32.ensures)
    (g.D.Disk.state c.args.disk.now) c.requires t
    (g.D.Disk.state c.write_at.new.self) (g.D.Disk.state c.write_at-2.new.self) (g.D.Disk.state c.sync.new.self)
    (c.write_at.ensures.proceeds.told t) (c.write_at-2.ensures.proceeds.told t1) (c.sync.ensures.proceeds.told t2) (c.in_ok-write_at.ensures.wrote t) (c.in_ok-write_at-2.ensures.wrote t1) (c.sync.ensures.files t2) (c.in_ok-sync.ensures.synced t2)

pub returns-in_err-write_at-3-clause-any_moment : goal.returns-in_err-write_at-3-clause-any_moment
returns-in_err-write_at-3-clause-any_moment g c t =
    let t1 = c.write_at.ensures.proceeds.tells ∙ t in
    let t2 = c.write_at-2.ensures.proceeds.tells ∙ t1 in
    let t3 = c.sync.ensures.proceeds.tells ∙ t2 in
    moment4 c.args.number c.args.at c.args.chunk.now c.write_u32.new.buf c.segment_name-name.result c.segment_name-name.ensures c.write_u32.ensures (ap length c.write_u32.ensures)
    (g.D.Disk.state c.args.disk.now) c.requires t
    (g.D.Disk.state c.write_at.new.self) (g.D.Disk.state c.write_at-2.new.self) (g.D.Disk.state c.sync.new.self)
    (c.write_at.ensures.proceeds.told t) (c.write_at-2.ensures.proceeds.told t1) (c.sync.ensures.proceeds.told t2) (c.in_ok-write_at.ensures.wrote t) (c.in_ok-write_at-2.ensures.wrote t1) (c.sync.ensures.files t2) (c.in_ok-sync.ensures.synced t2)
    _ (c.write_at-3.ensures.proceeds.told t3)

pub sync-requires-2-clause-present : goal.sync-requires-2-clause-present
sync-requires-2-clause-present g c h =
    let t3 = sym c.write_at-3.ensures.proceeds.tells ∙ h in
    let t2 = sym c.sync.ensures.proceeds.tells ∙ t3 in
    let t1 = sym c.write_at-2.ensures.proceeds.tells ∙ t2 in
    let t = sym c.write_at.ensures.proceeds.tells ∙ t1 in
    present4 c.args.number c.args.at c.args.chunk.now c.write_u32.new.buf c.segment_name-name.result c.segment_name-name.ensures c.write_u32.ensures (ap length c.write_u32.ensures)
    (g.D.Disk.state c.args.disk.now) c.requires t
    (g.D.Disk.state c.write_at.new.self) (g.D.Disk.state c.write_at-2.new.self) (g.D.Disk.state c.sync.new.self)
    (c.write_at.ensures.proceeds.told t) (c.write_at-2.ensures.proceeds.told t1) (c.sync.ensures.proceeds.told t2) (c.in_ok-write_at.ensures.wrote t) (c.in_ok-write_at-2.ensures.wrote t1) (c.sync.ensures.files t2) (c.in_ok-sync.ensures.synced t2)
    (g.D.Disk.state c.write_at-3.new.self) (c.in_ok-write_at-3.ensures.wrote t3)

pub returns-in_err-sync-2-clause-any_moment : goal.returns-in_err-sync-2-clause-any_moment
returns-in_err-sync-2-clause-any_moment g c t =
    let t1 = c.write_at.ensures.proceeds.tells ∙ t in
    let t2 = c.write_at-2.ensures.proceeds.tells ∙ t1 in
    let t3 = c.sync.ensures.proceeds.tells ∙ t2 in
    let t4 = c.write_at-3.ensures.proceeds.tells ∙ t3 in
    moment5 c.args.number c.args.at c.args.chunk.now c.write_u32.new.buf c.segment_name-name.result c.segment_name-name.ensures c.write_u32.ensures (ap length c.write_u32.ensures)
    (g.D.Disk.state c.args.disk.now) c.requires t
    (g.D.Disk.state c.write_at.new.self) (g.D.Disk.state c.write_at-2.new.self) (g.D.Disk.state c.sync.new.self)
    (c.write_at.ensures.proceeds.told t) (c.write_at-2.ensures.proceeds.told t1) (c.sync.ensures.proceeds.told t2) (c.in_ok-write_at.ensures.wrote t) (c.in_ok-write_at-2.ensures.wrote t1) (c.sync.ensures.files t2) (c.in_ok-sync.ensures.synced t2)
    _ _ (c.write_at-3.ensures.proceeds.told t3) (c.sync-2.ensures.proceeds.told t4)

pub returns-clause-any_moment : goal.returns-clause-any_moment
returns-clause-any_moment g c t =
    let t1 = c.write_at.ensures.proceeds.tells ∙ t in
    let t2 = c.write_at-2.ensures.proceeds.tells ∙ t1 in
    let t3 = c.sync.ensures.proceeds.tells ∙ t2 in
    let t4 = c.write_at-3.ensures.proceeds.tells ∙ t3 in
    moment5 c.args.number c.args.at c.args.chunk.now c.write_u32.new.buf c.segment_name-name.result c.segment_name-name.ensures c.write_u32.ensures (ap length c.write_u32.ensures)
    (g.D.Disk.state c.args.disk.now) c.requires t
    (g.D.Disk.state c.write_at.new.self) (g.D.Disk.state c.write_at-2.new.self) (g.D.Disk.state c.sync.new.self)
    (c.write_at.ensures.proceeds.told t) (c.write_at-2.ensures.proceeds.told t1) (c.sync.ensures.proceeds.told t2) (c.in_ok-write_at.ensures.wrote t) (c.in_ok-write_at-2.ensures.wrote t1) (c.sync.ensures.files t2) (c.in_ok-sync.ensures.synced t2)
    _ _ (c.write_at-3.ensures.proceeds.told t3) (c.sync-2.ensures.proceeds.told t4)

pub returns-clause-acknowledged : goal.returns-clause-acknowledged
returns-clause-acknowledged g c t =
    let t1 = c.write_at.ensures.proceeds.tells ∙ t in
    let t2 = c.write_at-2.ensures.proceeds.tells ∙ t1 in
    let t3 = c.sync.ensures.proceeds.tells ∙ t2 in
    let t4 = c.write_at-3.ensures.proceeds.tells ∙ t3 in
    acknowledged c.args.number c.args.at c.args.chunk.now c.write_u32.new.buf c.segment_name-name.result c.segment_name-name.ensures c.write_u32.ensures (ap length c.write_u32.ensures)
    (g.D.Disk.state c.args.disk.now) c.requires t
    (g.D.Disk.state c.write_at.new.self) (g.D.Disk.state c.write_at-2.new.self) (g.D.Disk.state c.sync.new.self)
    (c.write_at.ensures.proceeds.told t) (c.write_at-2.ensures.proceeds.told t1) (c.sync.ensures.proceeds.told t2) (c.in_ok-write_at.ensures.wrote t) (c.in_ok-write_at-2.ensures.wrote t1) (c.sync.ensures.files t2) (c.in_ok-sync.ensures.synced t2)
    _ _ (c.write_at-3.ensures.proceeds.told t3) (c.sync-2.ensures.proceeds.told t4) (c.in_ok-write_at-3.ensures.wrote t3) (c.sync-2.ensures.files t4) (c.in_ok-sync-2.ensures.synced t4)

pub returns-clause-kept : goal.returns-clause-kept
returns-clause-kept g c = record {
  rest = λ h.
      let t4 = sym c.sync-2.ensures.proceeds.tells ∙ h in
      let t3 = sym c.write_at-3.ensures.proceeds.tells ∙ t4 in
      let t2 = sym c.sync.ensures.proceeds.tells ∙ t3 in
      let t1 = sym c.write_at-2.ensures.proceeds.tells ∙ t2 in
      let t = sym c.write_at.ensures.proceeds.tells ∙ t1 in
      kept c.args.number c.args.at c.args.chunk.now c.write_u32.new.buf c.segment_name-name.result c.segment_name-name.ensures c.write_u32.ensures (ap length c.write_u32.ensures)
      (g.D.Disk.state c.args.disk.now) c.requires t
      (g.D.Disk.state c.write_at.new.self) (g.D.Disk.state c.write_at-2.new.self) (g.D.Disk.state c.sync.new.self)
      (c.write_at.ensures.proceeds.told t) (c.write_at-2.ensures.proceeds.told t1) (c.sync.ensures.proceeds.told t2) (c.in_ok-write_at.ensures.wrote t) (c.in_ok-write_at-2.ensures.wrote t1) (c.sync.ensures.files t2) (c.in_ok-sync.ensures.synced t2)
      (g.D.Disk.state c.write_at-3.new.self) (g.D.Disk.state c.sync-2.new.self) _ refl (c.in_ok-write_at-3.ensures.wrote t3) (c.sync-2.ensures.files t4);
  synced = λ h f image. subst (λ m. get f m ≡ get (g.D.Disk.state c.sync-2.new.self).files m) c.segment_name-name.ensures (c.in_ok-sync-2.ensures.synced (sym c.sync-2.ensures.proceeds.tells ∙ h) f image);
}

pub returns-in_err-write_at-clause-others : goal.returns-in_err-write_at-clause-others
returns-in_err-write_at-clause-others g c t =
    subst (λ (m : FileName). OthersStay m (g.D.Disk.state c.args.disk.now).files (g.D.Disk.state c.write_at.new.self).files) c.segment_name-name.ensures (torn_others c.segment_name-name.result _ _ (g.D.Disk.state c.args.disk.now).files (g.D.Disk.state c.write_at.new.self).files (c.write_at.ensures.torn t))

pub returns-in_err-write_at-2-clause-others : goal.returns-in_err-write_at-2-clause-others
returns-in_err-write_at-2-clause-others g c t =
    let t1 = c.write_at.ensures.proceeds.tells ∙ t in
    subst (λ (m : FileName). OthersStay m (g.D.Disk.state c.args.disk.now).files (g.D.Disk.state c.write_at-2.new.self).files) c.segment_name-name.ensures (others_then c.segment_name-name.result (g.D.Disk.state c.args.disk.now).files (g.D.Disk.state c.write_at.new.self).files (g.D.Disk.state c.write_at-2.new.self).files (torn_others c.segment_name-name.result _ _ (g.D.Disk.state c.args.disk.now).files (g.D.Disk.state c.write_at.new.self).files (c.write_at.ensures.torn t)) (torn_others c.segment_name-name.result _ _ (g.D.Disk.state c.write_at.new.self).files (g.D.Disk.state c.write_at-2.new.self).files (c.write_at-2.ensures.torn t1)))

pub returns-in_err-sync-clause-others : goal.returns-in_err-sync-clause-others
returns-in_err-sync-clause-others g c t =
    let t1 = c.write_at.ensures.proceeds.tells ∙ t in
    let t2 = c.write_at-2.ensures.proceeds.tells ∙ t1 in
    subst (λ (m : FileName). OthersStay m (g.D.Disk.state c.args.disk.now).files (g.D.Disk.state c.sync.new.self).files) c.segment_name-name.ensures (same_others c.segment_name-name.result (g.D.Disk.state c.args.disk.now).files (g.D.Disk.state c.write_at-2.new.self).files (g.D.Disk.state c.sync.new.self).files (others_then c.segment_name-name.result (g.D.Disk.state c.args.disk.now).files (g.D.Disk.state c.write_at.new.self).files (g.D.Disk.state c.write_at-2.new.self).files (torn_others c.segment_name-name.result _ _ (g.D.Disk.state c.args.disk.now).files (g.D.Disk.state c.write_at.new.self).files (c.write_at.ensures.torn t)) (torn_others c.segment_name-name.result _ _ (g.D.Disk.state c.write_at.new.self).files (g.D.Disk.state c.write_at-2.new.self).files (c.write_at-2.ensures.torn t1))) (c.sync.ensures.files t2))

pub returns-in_err-write_at-3-clause-others : goal.returns-in_err-write_at-3-clause-others
returns-in_err-write_at-3-clause-others g c t =
    let t1 = c.write_at.ensures.proceeds.tells ∙ t in
    let t2 = c.write_at-2.ensures.proceeds.tells ∙ t1 in
    let t3 = c.sync.ensures.proceeds.tells ∙ t2 in
    subst (λ (m : FileName). OthersStay m (g.D.Disk.state c.args.disk.now).files (g.D.Disk.state c.write_at-3.new.self).files) c.segment_name-name.ensures (others_then c.segment_name-name.result (g.D.Disk.state c.args.disk.now).files (g.D.Disk.state c.sync.new.self).files (g.D.Disk.state c.write_at-3.new.self).files (same_others c.segment_name-name.result (g.D.Disk.state c.args.disk.now).files (g.D.Disk.state c.write_at-2.new.self).files (g.D.Disk.state c.sync.new.self).files (others_then c.segment_name-name.result (g.D.Disk.state c.args.disk.now).files (g.D.Disk.state c.write_at.new.self).files (g.D.Disk.state c.write_at-2.new.self).files (torn_others c.segment_name-name.result _ _ (g.D.Disk.state c.args.disk.now).files (g.D.Disk.state c.write_at.new.self).files (c.write_at.ensures.torn t)) (torn_others c.segment_name-name.result _ _ (g.D.Disk.state c.write_at.new.self).files (g.D.Disk.state c.write_at-2.new.self).files (c.write_at-2.ensures.torn t1))) (c.sync.ensures.files t2)) (torn_others c.segment_name-name.result _ _ (g.D.Disk.state c.sync.new.self).files (g.D.Disk.state c.write_at-3.new.self).files (c.write_at-3.ensures.torn t3)))

pub returns-in_err-sync-2-clause-others : goal.returns-in_err-sync-2-clause-others
returns-in_err-sync-2-clause-others g c t =
    let t1 = c.write_at.ensures.proceeds.tells ∙ t in
    let t2 = c.write_at-2.ensures.proceeds.tells ∙ t1 in
    let t3 = c.sync.ensures.proceeds.tells ∙ t2 in
    let t4 = c.write_at-3.ensures.proceeds.tells ∙ t3 in
    subst (λ (m : FileName). OthersStay m (g.D.Disk.state c.args.disk.now).files (g.D.Disk.state c.sync-2.new.self).files) c.segment_name-name.ensures (same_others c.segment_name-name.result (g.D.Disk.state c.args.disk.now).files (g.D.Disk.state c.write_at-3.new.self).files (g.D.Disk.state c.sync-2.new.self).files (others_then c.segment_name-name.result (g.D.Disk.state c.args.disk.now).files (g.D.Disk.state c.sync.new.self).files (g.D.Disk.state c.write_at-3.new.self).files (same_others c.segment_name-name.result (g.D.Disk.state c.args.disk.now).files (g.D.Disk.state c.write_at-2.new.self).files (g.D.Disk.state c.sync.new.self).files (others_then c.segment_name-name.result (g.D.Disk.state c.args.disk.now).files (g.D.Disk.state c.write_at.new.self).files (g.D.Disk.state c.write_at-2.new.self).files (torn_others c.segment_name-name.result _ _ (g.D.Disk.state c.args.disk.now).files (g.D.Disk.state c.write_at.new.self).files (c.write_at.ensures.torn t)) (torn_others c.segment_name-name.result _ _ (g.D.Disk.state c.write_at.new.self).files (g.D.Disk.state c.write_at-2.new.self).files (c.write_at-2.ensures.torn t1))) (c.sync.ensures.files t2)) (torn_others c.segment_name-name.result _ _ (g.D.Disk.state c.sync.new.self).files (g.D.Disk.state c.write_at-3.new.self).files (c.write_at-3.ensures.torn t3))) (c.sync-2.ensures.files t4))

pub returns-clause-others : goal.returns-clause-others
returns-clause-others g c t =
    let t1 = c.write_at.ensures.proceeds.tells ∙ t in
    let t2 = c.write_at-2.ensures.proceeds.tells ∙ t1 in
    let t3 = c.sync.ensures.proceeds.tells ∙ t2 in
    let t4 = c.write_at-3.ensures.proceeds.tells ∙ t3 in
    subst (λ (m : FileName). OthersStay m (g.D.Disk.state c.args.disk.now).files (g.D.Disk.state c.sync-2.new.self).files) c.segment_name-name.ensures (same_others c.segment_name-name.result (g.D.Disk.state c.args.disk.now).files (g.D.Disk.state c.write_at-3.new.self).files (g.D.Disk.state c.sync-2.new.self).files (others_then c.segment_name-name.result (g.D.Disk.state c.args.disk.now).files (g.D.Disk.state c.sync.new.self).files (g.D.Disk.state c.write_at-3.new.self).files (same_others c.segment_name-name.result (g.D.Disk.state c.args.disk.now).files (g.D.Disk.state c.write_at-2.new.self).files (g.D.Disk.state c.sync.new.self).files (others_then c.segment_name-name.result (g.D.Disk.state c.args.disk.now).files (g.D.Disk.state c.write_at.new.self).files (g.D.Disk.state c.write_at-2.new.self).files (torn_others c.segment_name-name.result _ _ (g.D.Disk.state c.args.disk.now).files (g.D.Disk.state c.write_at.new.self).files (c.write_at.ensures.torn t)) (torn_others c.segment_name-name.result _ _ (g.D.Disk.state c.write_at.new.self).files (g.D.Disk.state c.write_at-2.new.self).files (c.write_at-2.ensures.torn t1))) (c.sync.ensures.files t2)) (torn_others c.segment_name-name.result _ _ (g.D.Disk.state c.sync.new.self).files (g.D.Disk.state c.write_at-3.new.self).files (c.write_at-3.ensures.torn t3))) (c.sync-2.ensures.files t4))
