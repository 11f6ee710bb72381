use Rattle.std.proofs.Common.{◌≡◌, ◌⊎◌, List, Some, subst}
use Rattle.m3_model.specs.declared.answer.Answer.TheVariants as answer
use Rattle.m3_model.specs.declared.placement.Instance.{Instance}
use Rattle.placement_core.specs.NodeNames.{name_of}
use Rattle.placement_plan.specs.declared.plan_err.PlaceErr.{PlaceErr}
use Rattle.placement_acts.specs.Acts.{Refuses}
use Rattle.placement_lines.proofs.LineLemmas.{limit_told, busy_told, late_busy_told, group_told, late_group_told}
use Rattle.placement_lines.proofs.lines.refused.Goals as goal

pub returns-in-Limit : goal.returns-in-Limit
returns-in-Limit c = limit_told c.args.place.now c.args.kept c.args.act.now c.requires.step c.in-Limit.limit (subst (λ (e : PlaceErr). Refuses (Some c.args.place.now) c.args.act.now e) c.in-Limit.is c.requires.refused)

pub returns-then-kept-lt-MOST_VERSIONS : goal.returns-then-kept-lt-MOST_VERSIONS
returns-then-kept-lt-MOST_VERSIONS c =
    busy_told c.args.place.now c.args.kept c.args.act.now c.requires.step c.busy.result c.in-Busy.shard c.in-Busy.node
    (subst (λ (e : PlaceErr). Refuses (Some c.args.place.now) c.args.act.now e) c.in-Busy.is c.requires.refused) c.if-kept-lt-MOST_VERSIONS.true
    (subst (λ (nodes : List Instance). (c.busy.result ≡ answer.Memory) ⊎ (c.busy.result ≡ answer.Busy (name_of nodes c.in-Busy.node) c.in-Busy.shard)) c.as_slice.ensures c.busy.ensures)

pub returns-else-kept-lt-MOST_VERSIONS : goal.returns-else-kept-lt-MOST_VERSIONS
returns-else-kept-lt-MOST_VERSIONS c =
    late_busy_told c.args.place.now c.args.kept c.args.act.now c.requires.step c.past_versions.result c.in-Busy.shard c.in-Busy.node
    (subst (λ (e : PlaceErr). Refuses (Some c.args.place.now) c.args.act.now e) c.in-Busy.is c.requires.refused) c.if-kept-lt-MOST_VERSIONS.false c.past_versions.ensures

pub returns-then-kept-lt-MOST_VERSIONS-2 : goal.returns-then-kept-lt-MOST_VERSIONS-2
returns-then-kept-lt-MOST_VERSIONS-2 c =
    group_told c.args.place.now c.args.kept c.args.act.now c.requires.step c.in-Group.shard
    (subst (λ (e : PlaceErr). Refuses (Some c.args.place.now) c.args.act.now e) c.in-Group.is c.requires.refused) c.if-kept-lt-MOST_VERSIONS-2.true

pub returns-else-kept-lt-MOST_VERSIONS-2 : goal.returns-else-kept-lt-MOST_VERSIONS-2
returns-else-kept-lt-MOST_VERSIONS-2 c =
    late_group_told c.args.place.now c.args.kept c.args.act.now c.requires.step c.past_versions-else-kept-lt-MOST_VERSIONS-2.result c.in-Group.shard
    (subst (λ (e : PlaceErr). Refuses (Some c.args.place.now) c.args.act.now e) c.in-Group.is c.requires.refused) c.if-kept-lt-MOST_VERSIONS-2.false c.past_versions-else-kept-lt-MOST_VERSIONS-2.ensures
