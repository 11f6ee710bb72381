-- A cluster that stands stands after the line of a bootstrap, whatever it was answered.
use Rattle.std.proofs.Common.{◌≡◌, ◌∙◌, ℕ, List, [], ◌∷◌, ◌++◌, refl, sym, ap, subst, inl, inr}
use Rattle.std.specs.Prelude.{Option, Some}
use Rattle.std.proofs.lemmas.List.{append-nil}
use Rattle.std.proofs.lemmas.Option.{same_Some}
use Rattle.m3_model.specs.declared.act.Act.{Act}
use Rattle.m3_model.specs.declared.act.Act.TheVariants as act
use Rattle.m3_model.specs.declared.answer.Answer.{Answer}
use Rattle.m3_model.specs.declared.answer.Answer.TheVariants as answer
use Rattle.m3_model.specs.declared.placement.Placement.{Placement}
use Rattle.m3_model.specs.declared.reason.Reason.TheVariants as reason
use Rattle.m3_model.specs.declared.rules.MetaState.{MetaState}
use Rattle.m3_model.specs.declared.turn.Turn.{Turn}
use Rattle.m3_outside.specs.DiskState.{DiskState}
use Rattle.m3_outside.specs.declared.disk.Disk.{Ghosts}
use Rattle.cluster_core.specs.declared.event.Event.{Event}
use Rattle.node_calls.specs.session_net.Ready.{IsReady}
use Rattle.node_calls.specs.session_net.Runs.{Ran, slot_at}
use Rattle.transcripts.specs.Placements.{newer}
use Rattle.transcripts.specs.Record.{line_of}
use Rattle.node_calls.specs.cluster_members.declared.members.Members.{Members}
use Rattle.node_calls.specs.Nodes.{KeepsButBoots}
use Rattle.line_tracks.specs.acts.Quiet.{KeepsStops}
use Rattle.line_tracks.specs.acts.Stands.{ClusterStands}
use Rattle.line_tracks.specs.acts.Stays.{HaveNoPlace, PrintsNoOther}
use Rattle.line_tracks.proofs.acts.KnownLemmas.{known_kept}
use Rattle.line_tracks.proofs.acts.LeftLemmas.{SetsNoMore, left_still}
use Rattle.line_tracks.proofs.acts.StandLemmas.{flags_stay, newer_same, stands_on, stands_unchanged}
use Rattle.told_joins.specs.Lines.{Leaves, done_by, joined_of}
use Rattle.told_joins.proofs.AskLemmas.{held_each, missed_each, part_each, unmarked_each}
use Rattle.cluster_placements.specs.Steps.{kept_in}
use Rattle.cluster_joins.specs.Boots.{IsBooted, IsEndedBy, IsOpenedUp, stood_before}
use Rattle.line_tracks.specs.joins.Stands.{BootsStand}
use Rattle.line_tracks.proofs.joins.CameLemmas.{came_there, joins_place, no_place_by, none_placed}
use Rattle.line_tracks.proofs.joins.MoveLemmas.{moved_stands}

-- an answer that prints nothing, as each does where nothing is marked
abbrev IsUnmarked : Answer → Type 0
IsUnmarked (answer.Peers got needed reasons shard) = Unit {0}
IsUnmarked (answer.Disk node shard) = Unit {0}
IsUnmarked (answer.Corrupt node shard damage) = Unit {0}
IsUnmarked answer.Memory = Unit {0}
IsUnmarked answer.Full = Unit {0}
IsUnmarked (answer.Limit limit) = Unit {0}
IsUnmarked _ = ⊥

unmarked_prints : (place : Placement) (b : Answer) → IsUnmarked b → PrintsNoOther place b
unmarked_prints place (answer.Peers got needed reasons shard) h other e = cc
unmarked_prints place (answer.Disk node shard) h other e = cc
unmarked_prints place (answer.Corrupt node shard damage) h other e = cc
unmarked_prints place answer.Memory h other e = cc
unmarked_prints place answer.Full h other e = cc
unmarked_prints place (answer.Limit limit) h other e = cc
unmarked_prints place _ h other e = absurd h

unmarked_sets : (place : Placement) (name : List ℕ) (asked : Option ℕ) (b : Answer) → IsUnmarked b → SetsNoMore place (act.Bootstrap name asked) b
unmarked_sets place name asked (answer.Peers got needed reasons shard) h = record { rules = λ x. refl; place_is = refl; seed = λ x. refl; fates = refl; quiet = refl }
unmarked_sets place name asked (answer.Disk node shard) h = record { rules = λ x. refl; place_is = refl; seed = λ x. refl; fates = refl; quiet = refl }
unmarked_sets place name asked (answer.Corrupt node shard damage) h = record { rules = λ x. refl; place_is = refl; seed = λ x. refl; fates = refl; quiet = refl }
unmarked_sets place name asked answer.Memory h = record { rules = λ x. refl; place_is = refl; seed = λ x. refl; fates = refl; quiet = refl }
unmarked_sets place name asked answer.Full h = record { rules = λ x. refl; place_is = refl; seed = λ x. refl; fates = refl; quiet = refl }
unmarked_sets place name asked (answer.Limit limit) h = record { rules = λ x. refl; place_is = refl; seed = λ x. refl; fates = refl; quiet = refl }
unmarked_sets place name asked _ h = absurd h

-- a bootstrap neither stops nor restarts a node
unmarked_halts : (name : List ℕ) (asked : Option ℕ) (b : Answer) → IsUnmarked b → KeepsStops (act.Bootstrap name asked) b
unmarked_halts name asked (answer.Peers got needed reasons shard) h own x = refl
unmarked_halts name asked (answer.Disk node shard) h own x = refl
unmarked_halts name asked (answer.Corrupt node shard damage) h own x = refl
unmarked_halts name asked answer.Memory h own x = refl
unmarked_halts name asked answer.Full h own x = refl
unmarked_halts name asked (answer.Limit limit) h own x = refl
unmarked_halts name asked _ h own x = absurd h

module _ {D : Type 0} {G : Ghosts D} (state : D → DiskState) (old : Members D G) (start : Option MetaState) (turns : List Turn) (stands : ClusterStands start turns old) (name : List ℕ) (asked : Option ℕ) where
  abbrev place : Placement
  place = old.net.state.place

  abbrev a : Act
  a = act.Bootstrap name asked

  -- where nothing changed
  still : (b : Answer) (new : Members D G) → new ≡ old → ClusterStands start (turns ++ line_of a b ∷ []) old → ClusterStands start (turns ++ line_of a b ∷ []) new
  still b new same h = subst (ClusterStands start (turns ++ line_of a b ∷ [])) (sym same) h

  module _ (new : Members D G) (ready : IsReady new.net.state new.net.replicas new.net.bag) where
    -- no placement was made
    unmoved_stands : (b : Answer) → SetsNoMore place a b → KeepsStops a b → PrintsNoOther place b → (more : List Event) → Ran state old.net.replicas more new.net.replicas → HaveNoPlace more → KeepsButBoots old new → ClusterStands start (turns ++ line_of a b ∷ []) new
    unmoved_stands b sets halts prints more ran none keeps =
        let same : new.net.state.place ≡ place = ap (λ (s : MetaState). s.place) keeps.keeps.state in
        stands_on state start turns old stands a b new same more ran none
        (λ n s c r m. stands.slots.are.all (slot_at n s) (λ away. came_there state old.net.replicas new.net.replicas more ran n s c r m away))
        keeps.keeps.slots keeps.keeps.past prints
        (left_still start turns a b old.net new.net sets stands.left (record { state = keeps.keeps.state; fates = keeps.keeps.fates }) keeps.keeps.bag) ready
        (flags_stay turns a b old new halts same keeps.stopped stands.stopped)
        (known_kept turns a b place new.net.state.place old.net.fates new.net.fates same keeps.keeps.fates sets.fates halts stands.known)

    ended_stands : (Adds : Placement → ℕ → Option ℕ → List Event → Type 0) (b : Answer) → IsUnmarked b → (h : IsEndedBy state old name asked Adds new) → HaveNoPlace h.more → ClusterStands start (turns ++ line_of a b ∷ []) new
    ended_stands Adds b unmarked h none = unmoved_stands b (unmarked_sets place name asked b unmarked) (unmarked_halts name asked b unmarked) (unmarked_prints place b unmarked) h.more h.ran none h.keeps

    -- the answer where all were opened
    abbrev printing : List (ℕ × List ℕ) → Placement → Answer
    printing available shown = answer.Available available shown shown.version

    opened_stands : (available : List (ℕ × List ℕ)) (shown : Placement) → IsOpenedUp state old name asked available shown new → ClusterStands start (turns ++ line_of a (printing available shown) ∷ []) new
    opened_stands available shown h = by (joined_of h.opened) refl (h.adds).leaves h.past
      where
        by : (joined : List (ℕ × List ℕ)) → joined_of h.opened ≡ joined → Leaves place h.may.runs.node joined shown → new.past.items ≡ old.past.items ++ stood_before joined place → ClusterStands start (turns ++ line_of a (printing available shown) ∷ []) new
        by [] none same past =
            unmoved_stands (printing available shown)
            (record { rules = λ x. refl; place_is = ap (λ q. Some (newer q (Some place))) same ∙ ap Some (newer_same place); seed = λ x. refl; fates = refl; quiet = refl })
            (λ own x. refl) (λ other e. sym (same_Some shown other e) ∙ same) h.more h.ran (none_placed place h.may.runs.node asked h.opened shown h.more h.adds none) (record {
              keeps = record { state = h.state_is ∙ ap (λ q. record old.net.state { place = q }) same; fates = h.fates; bag = h.bag; slots = h.slots; past = past ∙ append-nil old.past.items };
              stopped = h.stopped;
            })
        by (x ∷ joined) some leaves past =
            moved_stands state old new start turns stands name asked available shown (done_by h.may.runs.node (x ∷ joined)) leaves.0 h.more h.ran (joins_place place h.may.runs.node asked h.opened shown h.more h.adds) h.state_is past h.fates h.bag h.slots h.stopped ready

    booted_stands : (b : Answer) → IsBooted state old name asked b new → ClusterStands start (turns ++ line_of a b ∷ []) new
    booted_stands (answer.Available available shown version) (version_is, h) = subst (λ v. ClusterStands start (turns ++ line_of a (answer.Available available shown v) ∷ []) new) (sym version_is) (opened_stands available shown h)
    booted_stands (answer.Peers got needed reasons shard) (peers, is, h) = ended_stands _ (answer.Peers got needed reasons shard) tt h (no_place_by place h.may.runs.node asked h.more (missed_each place h.may.runs.node asked shard peers h.more h.adds))
    booted_stands (answer.Disk node shard) (same, h) = ended_stands _ (answer.Disk node shard) tt h (no_place_by place h.may.runs.node asked h.more (held_each place h.may.runs.node asked shard reason.Disk h.more h.adds))
    booted_stands (answer.Corrupt node shard damage) (same, damaged, h) = ended_stands _ (answer.Corrupt node shard damage) tt h (no_place_by place h.may.runs.node asked h.more (held_each place h.may.runs.node asked shard (reason.Corrupt damage) h.more h.adds))
    booted_stands answer.Memory (inl same) = still answer.Memory new same (stands_unchanged old start turns a answer.Memory stands tt tt)
    booted_stands answer.Memory (inr (inl (shard, h))) = ended_stands _ answer.Memory tt h (no_place_by place h.may.runs.node asked h.more (held_each place h.may.runs.node asked shard reason.Memory h.more h.adds))
    booted_stands answer.Memory (inr (inr h)) = ended_stands _ answer.Memory tt h (no_place_by place h.may.runs.node asked h.more (part_each place h.may.runs.node asked h.more h.adds))
    booted_stands answer.Full (lacks, h) = ended_stands _ answer.Full tt h (no_place_by place h.may.runs.node asked h.more (part_each place h.may.runs.node asked h.more h.adds))
    booted_stands (answer.Limit limit) (limit_is, h) = ended_stands _ (answer.Limit limit) tt h (no_place_by place h.may.runs.node asked h.more (unmarked_each place h.may.runs.node asked (kept_in old) h.more h.adds))
    booted_stands (answer.Unknown unknown) (which, is) = still (answer.Unknown unknown) new is (stands_unchanged old start turns a (answer.Unknown unknown) stands tt tt)
    booted_stands (answer.State node) (of, has, same, is) = still (answer.State node) new is (stands_unchanged old start turns a (answer.State node) stands tt tt)
    booted_stands _ h = absurd h

pub bootstraps_stand : {D : Type 0} {G : Ghosts D} (state : D → DiskState) (old : Members D G) → BootsStand state old
bootstraps_stand state old start turns name asked b new stands ready booted = booted_stands state old start turns stands name asked new ready b booted
