-- The bootstrap of a node in parts, from what its members do.
use Rattle.std.proofs.Common.{◌≡◌, ℕ, List, refl, sym, ap, subst, ◌∙◌}
use Rattle.std.specs.Prelude.{Option, Some, option_map}
use Rattle.std.proofs.lemmas.Option.{same_Some}
use Rattle.m3_model.specs.declared.act.Act.TheVariants as act
use Rattle.m3_model.specs.declared.answer.Answer.{Answer}
use Rattle.m3_model.specs.declared.answer.Answer.TheVariants as answer
use Rattle.m3_model.specs.declared.rules.MetaState.{MetaState}
use Rattle.m3_outside.specs.DiskState.{DiskState}
use Rattle.m3_outside.specs.Slots.{Held}
use Rattle.m3_outside.specs.declared.disk.Disk.{Ghosts}
use Rattle.m3_outside.specs.declared.slot.DiskSlot.{DiskSlot}
use Rattle.line_tracks.specs.cluster_members.declared.members.Members.{Members}
use Rattle.line_tracks.specs.cluster_joins.Boots.{IsBooted, IsBooting, IsToMark, MayBeLeft}
use Rattle.line_tracks.specs.cluster_joins.Marks.{HasEnded, IsMarked}
use Rattle.line_tracks.specs.cluster_joins.declared.marking.Booting.{Booting}
use Rattle.line_tracks.specs.cluster_joins.declared.marking.Booting.TheVariants as booting
use Rattle.line_tracks.specs.cluster_joins.declared.marking.Marked.{Marked}
use Rattle.line_tracks.specs.cluster_joins.declared.marking.Marking.{Marking}
use Rattle.line_tracks.specs.cluster_placements.Steps.{MayChange}
use Rattle.line_tracks.specs.tracks.Acts.{Does, OnMembers, next_call}
use Rattle.served_cluster.specs.Acts.{Answers}
use Rattle.served_cluster.specs.Joins.{EndsSources, HasJoined, HasMarked, OpensNode, StandsWith, by_marking}
use Rattle.served_cluster.specs.Plans.{state_of}
use Rattle.served_cluster.specs.declared.cluster.Cluster.{Cluster}
use Rattle.served_cluster.proofs.ActLemmas.{changed}
use Rattle.served_cluster.proofs.KeptLemmas.{still_so}

module _ {D : Type 0} {G : Ghosts D} (c : Cluster D G) (m : Members D G) (stood : c.members ≡ Some m) where
  -- what holds of the members that stand
  pub here : (Holds : Members D G → Type 0) → StandsWith c Holds → Holds m
  here Holds h = let both : Some h.0 ≡ Some m = sym h.1 ∙ stood in subst Holds (same_Some h.0 m both) h.2

  -- a state that its members have
  pub state_here : (next : MetaState) → next ≡ m.net.state → Some next ≡ state_of c
  state_here next same = ap Some same ∙ sym (ap (option_map (λ (x : Members D G). x.net.state)) stood)

  -- and one that a marking makes of it
  pub state_by : (marking : Marking) (next : MetaState) → next ≡ by_marking marking m.net.state → Some next ≡ option_map (by_marking marking) (state_of c)
  state_by marking next same = ap Some same ∙ ap (option_map (by_marking marking)) (state_here m.net.state refl)

  module _ (state : D → DiskState) (name : List ℕ) (asked : Option ℕ) (g : Members D G) where
    -- the line of a bootstrap
    boots : (b : Answer) → IsBooted state m name asked b g → Answers state c (act.Bootstrap name asked) b (record { members = Some g; calls = c.calls })
    boots b did = changed state c m stood (act.Bootstrap name asked) b g refl refl (λ id. did)

    pub opens : (b : Booting) → IsBooting state m name asked b g → MayBeLeft state m name asked b g → OpensNode state c name asked b (record { members = Some g; calls = c.calls })
    opens (booting.Answered b) did left = boots b did
    opens (booting.Joined marking) did left = (record { was = m; is = g; stood = stood; stands = refl; step = did; calls = refl }, boots answer.Memory left)

  module _ (state : D → DiskState) (marked : Marked) (b : Answer) (g : Members D G) (ended : HasEnded state m marked b g) where
    -- what was joined and marked is answered
    answers_so : ((first was : Members D G) (name : List ℕ) (asked : Option ℕ) (marking : Marking) → IsToMark state first name asked marking was → IsMarked state was marking marked m → IsBooted state first name asked b g)
        → (first was : Cluster D G) (name : List ℕ) (asked : Option ℕ) (marking : Marking) → HasJoined state first name asked marking was → HasMarked state was marking marked c → Answers state first (act.Bootstrap name asked) b (record { members = Some g; calls = c.calls })
    answers_so booted first was name asked marking joined mark =
        let both : Some mark.was ≡ Some joined.is = sym mark.stood ∙ joined.stands in
        let here : Some mark.is ≡ Some m = sym mark.stands ∙ stood in
        let marks = subst (λ (x : Members D G). IsMarked state joined.is marking marked x) (same_Some mark.is m here) (subst (λ (x : Members D G). IsMarked state x marking marked mark.is) (same_Some mark.was joined.is both) mark.step.0) in
        record {
          members = subst (λ (o : Option (Members D G)). OnMembers o (λ k n. Does state (next_call first.calls) k (act.Bootstrap name asked) b n) b (Some g)) (sym joined.stood) (g, refl, booted joined.was joined.is name asked marking joined.step.0 marks);
          calls = mark.calls ∙ joined.calls;
        }

    pub ends : ((first was : Members D G) (name : List ℕ) (asked : Option ℕ) (marking : Marking) → IsToMark state first name asked marking was → IsMarked state was marking marked m → IsBooted state first name asked b g)
        → ((held : DiskSlot → Held D) → MayChange m held → MayChange g held) → EndsSources state c marked b (record { members = Some g; calls = c.calls })
    ends booted still = record { ended = record { was = m; is = g; stood = stood; stands = refl; step = ended; calls = refl }; answers = answers_so booted; stays = state_here g.net.state ended.keeps.keeps.state; still = still_so c (record { members = Some g; calls = c.calls }) m g stood refl still }
