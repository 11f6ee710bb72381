use Rattle.std.proofs.Common.{rules, ◌∙◌}
use Rattle.std.proofs.lemmas.Result.{on_ok_weaker}
use Rattle.listed_volumes.proofs.commit_log_proofs.Leaves.{leaves_none, leaves_then}
use Rattle.listed_volumes.specs.Listed.{known_in}
use Rattle.joined_reads.specs.Beside.{content_beside}
use Rattle.joined_reads.proofs.BesideLemmas.{adds_all, first_bounded, held_left, later_bounded, points_then}
use Rattle.joined_reads.proofs.rising.+add_all.Goals as goal

pub add_risen-requires-clause-bounded : goal.add_risen-requires-clause-bounded
add_risen-requires-clause-bounded g t c = first_bounded c.args.points.now c.in-Some.later.now c.in-Some.first.now c.in-Some.ensures.cases.0 c.requires.bounded

pub add_all-requires : goal.add_all-requires
add_all-requires g t c κs within = (
  search rules,
  (
    search rules,
    (later_bounded c.args.points.now c.in-Some.later.now c.in-Some.first.now c.in-Some.ensures.cases.0 c.requires.bounded, (c.requires.room, (held_left (known_in c.args.volumes.now) _ (g.D.Disk.state c.args.disk.now) (g.D.Disk.state c.add_risen.new.disk) c.add_risen.ensures.leaves c.requires.there, c.add_risen.ensures.cached))),
  ),
)

pub returns-clause-points : goal.returns-clause-points
returns-clause-points g t c = λ tells.
    let content = content_beside c.args.held.now.points c.args.volumes.now in
    on_ok_weaker c.add_all.result
    (λ later. points_then content c.args.points.now c.in-Some.later.now c.in-Some.first.now c.args.found.now.items c.add_risen.new.found.items c.add_all.new.found.items c.in-Some.ensures.cases.0 (c.in_ok-add_risen.ensures.points tells) later)
    (c.add_all.ensures.points (c.add_risen.ensures.leaves.proceeds.tells ∙ tells))

pub returns-clause-adds : goal.returns-clause-adds
returns-clause-adds g t c =
    on_ok_weaker c.add_all.result (λ later. adds_all c.args.points.now c.in-Some.later.now c.in-Some.first.now c.args.found.now.items c.add_risen.new.found.items c.add_all.new.found.items c.in-Some.ensures.cases.0 c.in_ok-add_risen.ensures.adds later) c.add_all.ensures.adds

pub returns-clause-leaves : goal.returns-clause-leaves
returns-clause-leaves g t c = leaves_then _ _ (g.D.Disk.state c.args.disk.now) (g.D.Disk.state c.add_risen.new.disk) (g.D.Disk.state c.add_all.new.disk) c.add_risen.ensures.leaves c.add_all.ensures.leaves

pub returns-in_default-clause-leaves : goal.returns-in_default-clause-leaves
returns-in_default-clause-leaves g t c = leaves_none _ (g.D.Disk.state c.args.disk.now) (λ f. absurd (cc))
