use Rattle.std.proofs.Common.{◌≡◌, ℕ, suc, ◌+◌, ◌-◌, List, [], ◌∷◌, ◌++◌, length, sym, subst, ap, ◌∙◌, arith}
use Rattle.std.proofs.lemmas.List.{length_push}
use Rattle.commit_log.specs.m3_model.declared.point.Point.{Point}
use Rattle.commit_log.specs.wire_bytes.Entries.{PointsStand}
use Rattle.shard_files.specs.Entries.{HavePoints}
use Rattle.shard_files.proofs.LocationLemmas.{first_of, others_of, read_none, read_more}
use Rattle.shard_files.proofs.entries.read_points.Goals as goal

pub loop-i-init : goal.loop-i-init
loop-i-init c =
    let all : c.args.count ≡ c.args.count - 0 = omega arith in
    let none : c.new-points.result.items ≡ [] = c.new-points.ensures.items in
    record {
      read = subst (λ (ps : List Point). PointsStand ps c.args.bytes.now c.args.from c.args.from) (sym none) (read_none c.args.count c.args.bytes.now c.args.from c.requires);
      counted = ap length none;
      left = subst (λ (n : ℕ). HavePoints n c.args.bytes.now c.args.from) all c.requires;
    }

pub read_point-requires : goal.read_point-requires
read_point-requires c =
    let left : c.args.count - c.loop-i._i ≡ suc (c.args.count - (c.loop-i._i + 1)) = omega arith in
    first_of (c.args.count - (c.loop-i._i + 1)) c.args.bytes.now c.loop-i.offset (subst (λ (n : ℕ). HavePoints n c.args.bytes.now c.loop-i.offset) left c.loop-i.invariant.left)

pub loop-i-preserved : goal.loop-i-preserved
loop-i-preserved c =
    let left : c.args.count - c.loop-i._i ≡ suc (c.args.count - (c.loop-i._i + 1)) = omega arith in
    let old = c.loop-i.points.items in
    let p = c.in_ok-point.point in
    let next = c.in_ok-point.next in
    let pushed : c.push.new.self.items ≡ old ++ p ∷ [] = c.in_ok-push.ensures.items in
    record {
      read = subst (λ (ps : List Point). PointsStand ps c.args.bytes.now c.args.from next) (sym pushed)
          (read_more old p c.args.bytes.now c.args.from c.loop-i.offset next c.loop-i.invariant.read c.in_ok-point.ensures.0 c.in_ok-point.ensures.1);
      counted = ap length pushed ∙ length_push old p ∙ ap (λ (n : ℕ). n + 1) c.loop-i.invariant.counted;
      left = others_of (c.args.count - (c.loop-i._i + 1)) c.args.bytes.now c.loop-i.offset next p
          (subst (λ (n : ℕ). HavePoints n c.args.bytes.now c.loop-i.offset) left c.loop-i.invariant.left) c.in_ok-point.ensures.0 c.in_ok-point.ensures.1;
    }
