use Rattle.std.proofs.Common.{◌≡◌, ℕ, suc, ◌+◌, ◌-◌, List, [], ◌∷◌, ◌++◌, length, sym, subst, ap, ◌∙◌, arith}
use Rattle.std.proofs.lemmas.List.{length_push}
use Rattle.fileset_check.specs.m3_model.declared.point.Point.{Point}
use Rattle.fileset_check.specs.wire_bytes.Entries.{PointsStand}
use Rattle.fileset_check.proofs.wire_bytes_proofs.EntryLemmas.{stands_none}
use Rattle.fileset_check.specs.shard_files.Entries.{HasPoint, HavePoints}
use Rattle.fileset_check.proofs.shard_files_proofs.LocationLemmas.{first_of, others_of, read_more}
use Rattle.fileset_check.proofs.shard_files_proofs.SegmentStops.{passed_on}
use Rattle.snapshot_files.specs.Bodies.{Refuses}
use Rattle.snapshot_files.proofs.CheckLemmas.{refuses_as}
use Rattle.snapshot_files.proofs.body.read_points.Goals as goal

pub loop-i-init : goal.loop-i-init
loop-i-init c =
    let all : c.args.count ≡ c.args.count - 0 = omega arith in
    let none : c.new-points.result.items ≡ [] = c.new-points.ensures.items in
    record {
      read = subst (λ (ps : List Point). PointsStand ps c.args.bytes.now c.args.from c.args.from) (sym none) (stands_none c.args.bytes.now c.args.from c.requires);
      counted = ap length none;
      left = λ h. subst (λ (n : ℕ). HavePoints n c.args.bytes.now c.args.from) all h;
    }

pub returns-in_err-point-clause-err : goal.returns-in_err-point-clause-err
returns-in_err-point-clause-err c =
    let left : c.args.count - c.loop-i._i ≡ suc (c.args.count - (c.loop-i._i + 1)) = omega arith in
    passed_on c.from_residual.result c.in_err-point.field-0.0 (Refuses (HavePoints c.args.count c.args.bytes.now c.args.from)) c.from_residual.ensures.1
    (refuses_as (HasPoint c.args.bytes.now c.loop-i.offset) (HavePoints c.args.count c.args.bytes.now c.args.from) c.in_err-point.field-0.0
    (λ h. first_of (c.args.count - (c.loop-i._i + 1)) c.args.bytes.now c.loop-i.offset (subst (λ (n : ℕ). HavePoints n c.args.bytes.now c.loop-i.offset) left (c.loop-i.invariant.left h))) c.in_err-point.ensures.err)

pub loop-i-preserved : goal.loop-i-preserved
loop-i-preserved c =
    let left : c.args.count - c.loop-i._i ≡ suc (c.args.count - (c.loop-i._i + 1)) = omega arith in
    let old = c.loop-i.points.items in
    let p = c.in_ok-point.point in
    let next = c.in_ok-point.next in
    let pushed : c.push.new.self.items ≡ old ++ p ∷ [] = c.in_ok-push.ensures.items in
    record {
      read = subst (λ (ps : List Point). PointsStand ps c.args.bytes.now c.args.from next) (sym pushed)
          (read_more old p c.args.bytes.now c.args.from c.loop-i.offset next c.loop-i.invariant.read c.in_ok-point.ensures.ok.0 c.in_ok-point.ensures.ok.1);
      counted = ap length pushed ∙ length_push old p ∙ ap (λ (n : ℕ). n + 1) c.loop-i.invariant.counted;
      left = λ h. others_of (c.args.count - (c.loop-i._i + 1)) c.args.bytes.now c.loop-i.offset next p
          (subst (λ (n : ℕ). HavePoints n c.args.bytes.now c.loop-i.offset) left (c.loop-i.invariant.left h)) c.in_ok-point.ensures.ok.0 c.in_ok-point.ensures.ok.1;
    }
