-- A node of a cluster that stands, and its slots.
use Rattle.std.proofs.Common.{◌≡◌, ◌<◌, ℕ, List, [], ◌∷◌, ◌++◌, length, refl, sym, ap, ◌∙◌, inl, inr, arith, Bool, true, false}
use Rattle.std.specs.Prelude.{Option, Some, slice_get, slice_set, nat_eq, if◌then◌else◌}
use Rattle.std.specs.Cmp.Lexicographic.{pointwise}
use Rattle.std.proofs.lemmas.Bool.{cases_eq, eq-eqb, eqb-true}
use Rattle.std.proofs.lemmas.Slice.Eq.{bytes_eq-Decides}
use Rattle.m3_model.specs.Members.{IsIn}
use Rattle.m3_model.specs.declared.act.Act.{Act}
use Rattle.m3_model.specs.declared.answer.Answer.{Answer}
use Rattle.m3_model.specs.declared.placement.Instance.{Instance}
use Rattle.m3_model.specs.declared.placement.Placement.{Placement}
use Rattle.m3_model.specs.declared.rules.MetaState.{MetaState}
use Rattle.m3_model.specs.declared.turn.Turn.{Turn}
use Rattle.m3_model.proofs.Lists.{IsIn-filter_passes, filter-IsIn}
use Rattle.m3_outside.specs.declared.disk.Disk.{Ghosts}
use Rattle.cluster_core.specs.Earlier.{last_place}
use Rattle.cluster_core.specs.declared.event.Event.{Event}
use Rattle.cluster_core.proofs.ListLemmas.{at_some}
use Rattle.placement_core.proofs.ListLemmas.{same_at}
use Rattle.node_calls.specs.replica_exchange.declared.slot.Slot.{Slot}
use Rattle.node_calls.specs.session_net.Runs.{slot_at}
use Rattle.told_runs.specs.told_by.Hears.{HasReplica, IsNamedBy}
use Rattle.told_runs.specs.told_by.Makes.{IsNamedLast}
use Rattle.told_runs.proofs.told_by_proofs.LeaveLemmas.{place_there}
use Rattle.transcripts.specs.Fates.{OfNode, is_stopped, stopped_by}
use Rattle.transcripts.specs.Record.{inner_turns, line_of}
use Rattle.line_tracks.specs.calls.Left.{AreStoppedBy}
use Rattle.node_calls.specs.cluster_members.declared.members.Members.{Members}
use Rattle.node_calls.proofs.cluster_members_proofs.NameLemmas.{NamedNode, node_found, same_node}
use Rattle.node_calls.specs.Halts.{slots_of_node}
use Rattle.node_calls.specs.Nodes.{IsNode}
use Rattle.node_calls.proofs.ListLemmas.{set_elsewhere, set_here}
use Rattle.line_tracks.specs.acts.Stands.{ClusterStands}
use Rattle.line_tracks.proofs.acts.QuietLemmas.{stops_next}

-- ---- slots of a node

pub of_node : (node : ℕ) (slots : List Slot) (s : Slot) → IsIn (slots_of_node node slots) s → s.node ≡ node
of_node node slots s i = eqb-true s.node node (IsIn-filter_passes (λ (x : Slot). nat_eq x.node node) slots s i)

pub node_has : (node : ℕ) (slots : List Slot) (s : Slot) → IsIn slots s → s.node ≡ node → IsIn (slots_of_node node slots) s
node_has node slots s i is = filter-IsIn (λ (x : Slot). nat_eq x.node node) slots s i (eq-eqb s.node node is)

-- ---- stopped nodes

module _ {D : Type 0} {G : Ghosts D} (start : Option MetaState) (turns : List Turn) (m : Members D G) (stands : ClusterStands start turns m) (name : List ℕ) (halted : Bool) (n : IsNode m name halted) where
  abbrev pub place : Placement
  place = m.net.state.place

  abbrev named : NamedNode name place.instances n.node
  named = node_found name place.instances n.node n.found

  -- the node is one of the placement's, of this name
  abbrev pub of_name : OfNode place n.node (λ own. own ≡ name)
  of_name = record { instance_ = named.instance_; stands = named.stands; holds = named.name_is }

  -- it is stopped as the members say
  pub stopped_so : is_stopped (inner_turns turns) name ≡ halted
  stopped_so =
      let is : Some halted ≡ Some (is_stopped (inner_turns turns) named.instance_.name) = sym n.is ∙ stands.stopped n.node named.instance_ named.stands in
      let same : is_stopped (inner_turns turns) named.instance_.name ≡ halted = cc in
      ap (is_stopped (inner_turns turns)) (sym named.name_is) ∙ same

  -- one with the name of the node is it
  pub only_node : (k : ℕ) (own : Instance) → slice_get place.instances k ≡ Some own → own.name ≡ name → k ≡ n.node
  only_node k own at same = same_node place.instances k n.node own named.instance_ (stands.ready.lawful).limits.distinct at named.stands (same ∙ sym named.name_is)

  abbrev pub named_last : (past : List Event) → last_place past ≡ Some place → IsNamedLast past n.node name
  named_last past last = record { place = place; last = last; named = of_name }

  -- a slot that all Places call so is one of the node's
  pub slot_here : (k s : ℕ) → IsNamedBy m.net.replicas.events k name → HasReplica m.net.replicas.events k s → IsIn (slots_of_node n.node m.slots.items) (slot_at k s)
  slot_here k s all has =
      let slot = stands.slots.all k s has in
      let own = instance_at place.instances k (stands.slots.placed (slot_at k s) slot) in
      let there = place_there m.net.replicas.events place stands.ready.place in
      let same : (own.0).name ≡ name = all there.0 place there.1 own.0 there.2 own.1 in
      node_has n.node m.slots.items (slot_at k s) slot (only_node k own.0 own.1 same)
    where
      instance_at : (instances : List Instance) (k : ℕ) → k < length instances → (own : Instance) × (slice_get instances k ≡ Some own)
      instance_at [] k low = absurd (omega (arith, low))
      instance_at (x ∷ xs) k low = at_some (x ∷ xs) k low

  -- the list of stopped nodes with this one set
  module _ (new : Members D G) (v : Bool) (a : Act) (b : Answer) (set : new.stopped.items ≡ slice_set m.stopped.items n.node v) (same_place : new.net.state.place ≡ place)
      (halts : (own : List ℕ) (x : Bool) → stopped_by own a b x ≡ (if pointwise nat_eq own name then v else x)) where
    one_node : (k : ℕ) (own : Instance) → slice_get place.instances k ≡ Some own → slice_get new.stopped.items k ≡ Some (is_stopped (inner_turns (turns ++ line_of a b ∷ [])) own.name)
    one_node k own at =
        let was = is_stopped (inner_turns turns) own.name in
        let now : is_stopped (inner_turns (turns ++ line_of a b ∷ [])) own.name ≡ (if pointwise nat_eq own.name name then v else was) = stops_next turns a b own.name ∙ halts own.name was in
        elim (cases_eq k n.node) as (λ _. slice_get new.stopped.items k ≡ Some (is_stopped (inner_turns (turns ++ line_of a b ∷ [])) own.name)) [
          | inl here ↦
              (let called : own.name ≡ name = ap (λ (x : Instance). x.name) (same_at place.instances n.node own named.instance_ (ap (slice_get place.instances) (sym here) ∙ at) named.stands) ∙ named.name_is in
              ap (λ xs. slice_get xs k) set ∙ ap (slice_get (slice_set m.stopped.items n.node v)) here ∙ set_here m.stopped.items n.node v halted n.is
              ∙ ap Some (sym (now ∙ ap (λ t. if t then v else was) ((bytes_eq-Decides own.name name).1 called))))
          | inr other ↦
              ap (λ xs. slice_get xs k) set ∙ set_elsewhere m.stopped.items n.node k v other ∙ stands.stopped k own at ∙ ap Some (sym (now ∙ ap (λ t. if t then v else was) (differs (pointwise nat_eq own.name name) refl (λ called. other (only_node k own at called)))))
        ]
      where
        differs : (t : Bool) → pointwise nat_eq own.name name ≡ t → (own.name ≡ name → ⊥) → t ≡ false
        differs true is apart = absurd (apart ((bytes_eq-Decides own.name name).0 is))
        differs false is apart = refl

    pub stopped_set : AreStoppedBy (turns ++ line_of a b ∷ []) new.net.state.place new.stopped.items
    stopped_set k own at = one_node k own (ap (λ (p : Placement). slice_get p.instances k) (sym same_place) ∙ at)
