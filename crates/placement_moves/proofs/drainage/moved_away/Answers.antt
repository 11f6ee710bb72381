use Rattle.std.proofs.Common.{rules, ◌≡◌, ℕ, List, length, slice_index, subst, sym, ap, ◌∙◌, inr, arith}
use Rattle.std.proofs.lemmas.Option.{slice_get_within}
use Rattle.placement_core.specs.Shards.{Shard}
use Rattle.placement_plan.specs.Nodes.{Has}
use Rattle.placement_plan.specs.Choices.{MayTake, IsLeastLoaded, moved}
use Rattle.placement_plan.specs.Loads.{LoadsFollow}
use Rattle.placement_plan.proofs.LoadLemmas.{from_not_to, loads_shifted, has_by}
use Rattle.placement_moves.proofs.drainage.moved_away.Goals as goal

pub shift-requires : goal.shift-requires
shift-requires c =
    let shard = c.args.shard.now in
    let has : Has c.args.node shard = subst (Has c.args.node) c.as_slice.ensures (has_by (Has c.args.node c.as_slice.result.now) c.has_node.result c.has_node.ensures (search rules)) in
    let may : MayTake c.args.instances.now shard c.args.node c.in-Some.to = subst (λ s. MayTake c.args.instances.now s c.args.node c.in-Some.to) c.as_slice-3.ensures (c.in-Some.ensures.found).may in
    record {
      from = omega (arith, c.requires.within has, c.requires.many);
      to = omega (arith, slice_get_within c.args.instances.now c.in-Some.to may.instance may.stands, c.requires.many);
      differ = from_not_to c.args.node c.in-Some.to shard has may.lacks;
      small = c.requires.small c.in-Some.to;
    }

pub returns : goal.returns
returns c =
    let shard = c.args.shard.now in
    let has : Has c.args.node shard = subst (Has c.args.node) c.as_slice.ensures (has_by (Has c.args.node c.as_slice.result.now) c.has_node.result c.has_node.ensures (search rules)) in
    let least : IsLeastLoaded c.args.instances.now (slice_index c.args.loads.now.items) (MayTake c.args.instances.now shard c.args.node) c.in-Some.to =
    subst (λ (table : List ℕ). IsLeastLoaded c.args.instances.now (slice_index table) (MayTake c.args.instances.now shard c.args.node) c.in-Some.to) c.as_slice-2.ensures.value
    (subst (λ (s : Shard). IsLeastLoaded c.args.instances.now (slice_index c.as_slice-2.result.now) (MayTake c.args.instances.now s c.args.node) c.in-Some.to) c.as_slice-3.ensures c.in-Some.ensures.found) in
    let next_is : c.in_ok-next.next ≡ moved c.args.version c.args.node c.in-Some.to shard = c.in_ok-next.ensures ∙ ap (moved c.args.version c.args.node c.in-Some.to) c.as_slice-4.ensures in
    record {
      moved = inr (has, (c.in-Some.to, least, next_is));
      loads = subst (LoadsFollow (length c.args.instances.now) c.args.loads.now.items c.shift.new.loads.items shard) (sym next_is)
          (loads_shifted (length c.args.instances.now) c.args.version c.args.node c.in-Some.to c.args.loads.now.items c.shift.new.loads.items shard (c.requires.steady has) has (least.may).lacks c.shift.ensures);
      stuck = tt;
    }

pub returns-in_default-clause-stuck : goal.returns-in_default-clause-stuck
returns-in_default-clause-stuck c = (
  subst (Has c.args.node) c.as_slice.ensures (has_by (Has c.args.node c.as_slice.result.now) c.has_node.result c.has_node.ensures (search rules)),
  subst (λ (s : Shard). (to : ℕ) → ¬ MayTake c.args.instances.now s c.args.node to) c.as_slice-3.ensures c.in_default.ensures.none,
)
