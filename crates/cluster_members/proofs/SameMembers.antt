-- Members are the same where all that isn't a fact of them is.
use Rattle.std.proofs.Common.{◌≡◌, ◌<◌, ◌≤◌, ◌^◌, ◌*◌, length, refl, sym, subst}
use Rattle.m3_model.specs.declared.limits.TheConstants.{MOST_NAMESPACES, MOST_NODES, MOST_SHARDS, MOST_VERSIONS, TIME_END}
use Rattle.std.specs.List.{All}
use Rattle.std.proofs.Props.{props}
use Rattle.m3_outside.specs.declared.disk.Disk.{Ghosts}
use Rattle.m3_model.specs.declared.rules.MetaState.{MetaState}
use Rattle.m3_model.specs.declared.rules.Space.{Space}
use Rattle.session_writes.specs.net_plan.declared.late_write.LateWrite.{LateWrite}
use Rattle.session_writes.specs.wire_bytes.Entries.{IsBounded}
use Rattle.cluster_members.specs.declared.members.Members.{Members}

-- the same members, with other proofs of their facts
pub same_state : {D : Type 0} {G : Ghosts D} (m : Members D G) (state : MetaState) → state ≡ m.net.state → (some : 0 < length state.place.shards) (few_shards : length state.place.shards < 2 ^ 32) (bounded : All (λ (one : LateWrite). IsBounded one.point) m.net.bag)
    (few : length state.rules.spaces ≤ MOST_NAMESPACES) (sizes : All (λ (space : Space). 0 < space.block) state.rules.spaces) (moment : state.rules.now < TIME_END) (few_nodes : length state.place.instances ≤ MOST_NODES) (few_slots : length m.slots.items ≤ MOST_NODES * MOST_SHARDS) (few_past : length m.past.items < MOST_VERSIONS) (one_each : length m.stopped.items ≡ length state.place.instances)
    → ◌≡◌ {A = Members D G} (record {
      net = record { state = state; replicas = m.net.replicas; fates = m.net.fates; bag = m.net.bag; some_shards = some; few_shards = few_shards; bounded_late = bounded };
      past = m.past;
      slots = m.slots;
      stopped = m.stopped;
      few = few;
      sizes = sizes;
      moment = moment;
      few_nodes = few_nodes;
      few_slots = few_slots;
      few_past = few_past;
      one_each = one_each;
    }) m
same_state {D} {G} m state is = subst Same (sym is) own
  where
    Same : MetaState → Type 0
    Same s =
        (some : 0 < length s.place.shards) (few_shards : length s.place.shards < 2 ^ 32) (bounded : All (λ (one : LateWrite). IsBounded one.point) m.net.bag) (few : length s.rules.spaces ≤ MOST_NAMESPACES) (sizes : All (λ (space : Space). 0 < space.block) s.rules.spaces) (moment : s.rules.now < TIME_END)
        (few_nodes : length s.place.instances ≤ MOST_NODES) (few_slots : length m.slots.items ≤ MOST_NODES * MOST_SHARDS) (few_past : length m.past.items < MOST_VERSIONS) (one_each : length m.stopped.items ≡ length s.place.instances)
        → ◌≡◌ {A = Members D G} (record {
          net = record { state = s; replicas = m.net.replicas; fates = m.net.fates; bag = m.net.bag; some_shards = some; few_shards = few_shards; bounded_late = bounded };
          past = m.past;
          slots = m.slots;
          stopped = m.stopped;
          few = few;
          sizes = sizes;
          moment = moment;
          few_nodes = few_nodes;
          few_slots = few_slots;
          few_past = few_past;
          one_each = one_each;
        }) m

    some_prop : IsProp (0 < length m.net.state.place.shards)
    some_prop = Prim.hlevel props

    shards_prop : IsProp (length m.net.state.place.shards < 2 ^ 32)
    shards_prop = Prim.hlevel props

    bounded_prop : IsProp (All (λ (one : LateWrite). IsBounded one.point) m.net.bag)
    bounded_prop = Prim.hlevel props

    few_prop : IsProp (length m.net.state.rules.spaces ≤ MOST_NAMESPACES)
    few_prop = Prim.hlevel props

    sizes_prop : IsProp (All (λ (space : Space). 0 < space.block) m.net.state.rules.spaces)
    sizes_prop = Prim.hlevel props

    moment_prop : IsProp (m.net.state.rules.now < TIME_END)
    moment_prop = Prim.hlevel props

    nodes_prop : IsProp (length m.net.state.place.instances ≤ MOST_NODES)
    nodes_prop = Prim.hlevel props

    slots_prop : IsProp (length m.slots.items ≤ MOST_NODES * MOST_SHARDS)
    slots_prop = Prim.hlevel props

    past_prop : IsProp (length m.past.items < MOST_VERSIONS)
    past_prop = Prim.hlevel props

    each_prop : IsProp (length m.stopped.items ≡ length m.net.state.place.instances)
    each_prop = Prim.hlevel props

    own : Same m.net.state
    own some few_shards bounded few sizes moment few_nodes few_slots few_past one_each = λ i. record {
      net = record {
        state = m.net.state;
        replicas = m.net.replicas;
        fates = m.net.fates;
        bag = m.net.bag;
        some_shards = some_prop some m.net.some_shards i;
        few_shards = shards_prop few_shards m.net.few_shards i;
        bounded_late = bounded_prop bounded m.net.bounded_late i;
      };
      past = m.past;
      slots = m.slots;
      stopped = m.stopped;
      few = few_prop few m.few i;
      sizes = sizes_prop sizes m.sizes i;
      moment = moment_prop moment m.moment i;
      few_nodes = nodes_prop few_nodes m.few_nodes i;
      few_slots = slots_prop few_slots m.few_slots i;
      few_past = past_prop few_past m.few_past i;
      one_each = each_prop one_each m.one_each i;
    }

pub same_members : {D : Type 0} {G : Ghosts D} (m : Members D G) (few : length m.net.state.rules.spaces ≤ MOST_NAMESPACES) (sizes : All (λ (space : Space). 0 < space.block) m.net.state.rules.spaces) (moment : m.net.state.rules.now < TIME_END) (few_nodes : length m.net.state.place.instances ≤ MOST_NODES)
    (few_slots : length m.slots.items ≤ MOST_NODES * MOST_SHARDS) (few_past : length m.past.items < MOST_VERSIONS) (one_each : length m.stopped.items ≡ length m.net.state.place.instances)
    → ◌≡◌ {A = Members D G} (record { net = m.net; past = m.past; slots = m.slots; stopped = m.stopped; few = few; sizes = sizes; moment = moment; few_nodes = few_nodes; few_slots = few_slots; few_past = few_past; one_each = one_each }) m
same_members m few sizes moment few_nodes few_slots few_past one_each = same_state m m.net.state refl m.net.some_shards m.net.few_shards m.net.bounded_late few sizes moment few_nodes few_slots few_past one_each
