-- A bootstrap: the state in which moves are over may be saved, and is the one to which the line leads that ends them; and what the line is answered.
use Rattle.std.proofs.Common.{◌≡◌, ◌≢◌, ℕ, List, [], ◌∷◌, map, refl, sym, ap, subst, ◌∙◌, inl, inr, true}
use Rattle.std.specs.Prelude.{Option, Some, None, Ok, Err, IfSome, IsErrOf, IsTrue, option_map}
use Rattle.std.specs.List.{cons_option}
use Rattle.std.proofs.lemmas.List.{append-nil}
use Rattle.std.proofs.lemmas.Option.{same_Some}
use Rattle.m3_model.specs.Members.{IsIn}
use Rattle.m3_model.specs.declared.act.Act.{Act}
use Rattle.m3_model.specs.declared.act.Act.TheVariants as act
use Rattle.m3_model.specs.declared.answer.Answer.{Answer}
use Rattle.m3_model.specs.declared.answer.Answer.TheVariants as answer
use Rattle.m3_model.specs.declared.rules.MetaState.{MetaState}
use Rattle.m3_model.specs.declared.turn.Request.TheVariants as request
use Rattle.m3_outside.specs.Causes.{CountsFaults}
use Rattle.m3_outside.specs.Depots.{Depot}
use Rattle.m3_outside.specs.DiskState.{DiskState, Elapses}
use Rattle.m3_outside.specs.declared.disk.Disk.{Ghosts}
use Rattle.m3_outside.specs.declared.disk_err.DiskErr.{DiskErr}
use Rattle.m3_outside.specs.declared.disk_err.DiskErr.TheVariants as disk_err
use Rattle.m3_outside.proofs.Moments.{counts_none}
use Rattle.placement_plan.specs.Plans.{IsAvailable}
use Rattle.meta_bytes.specs.States.{IsMetaState}
use Rattle.placement_log.specs.MetaHolds.{KeepsLast, MaySave, MetaStands}
use Rattle.placement_log.specs.States.{MayBeState}
use Rattle.line_tracks.specs.transcripts.Waiting.{is_covering}
use Rattle.line_tracks.specs.cluster_members.declared.members.Members.{Members}
use Rattle.line_tracks.specs.cluster_joins.Boots.{IsToMark}
use Rattle.line_tracks.specs.cluster_joins.declared.marking.Marked.{Marked}
use Rattle.line_tracks.specs.cluster_joins.declared.marking.Marking.{Marking}
use Rattle.line_tracks.specs.cluster_placements.Steps.{kept_in}
use Rattle.line_tracks.specs.peer_streams.Joins.{Join, Opened}
use Rattle.line_tracks.specs.told_joins.Lines.{done_by, joined_of}
use Rattle.served_cluster.specs.Acts.{Answers, Serves}
use Rattle.served_cluster.specs.Joins.{EndsSources, HasJoined, HasMarked, MayEndSources, MayMark, by_marking}
use Rattle.served_cluster.specs.Owned.{MayServeCluster, StillServes}
use Rattle.served_cluster.specs.Plans.{state_of}
use Rattle.served_cluster.specs.declared.cluster.Cluster.{Cluster}
use Rattle.served_cluster.proofs.OwnLemmas.{serves_so}
use Rattle.saved_cluster.specs.Saved.{AnswersSaved, HasState, IsSaved, Leads, MayServeSaved}
use Rattle.saved_cluster.specs.States.{IsMovedState, LeadsToState, kept_of, unready}
use Rattle.saved_cluster.specs.declared.lost.Lost.{Lost}
use Rattle.saved_cluster.specs.declared.lost.Lost.TheVariants as lost
use Rattle.saved_cluster.specs.declared.saved.SavedCluster.{SavedCluster}
use Rattle.saved_cluster.proofs.DiskLemmas.{counts_as, counts_same, saved_still}
use Rattle.saved_cluster.proofs.SaveLemmas.{answered_saved, answered_unsaved, lost_saved, lost_unsaved, may_close, may_readied}
use Rattle.saved_cluster.proofs.ServeLemmas.{elapses_same, kept_is, state_is}
use Rattle.saved_cluster.proofs.StateLemmas.{place_lawful}

-- ---- the shards that were joined

abbrev numbers : List (ℕ × List ℕ) → List ℕ
numbers joined = map (λ x. x.0) joined

pairs_of : (y : ℕ) (joined : List (ℕ × List ℕ)) → done_by y joined ≡ map (λ s. (s, y)) (numbers joined)
pairs_of y [] = refl
pairs_of y (x ∷ joined) = ap (λ (rest : List (ℕ × ℕ)). (x.0, y) ∷ rest) (pairs_of y joined)

some_so : (joined : List (ℕ × List ℕ)) → joined ≢ [] → numbers joined ≢ []
some_so [] some none = some refl
some_so (x ∷ joined) some none = cc

-- each was opened
opened_so : (opened : List Opened) (s : ℕ) → IsIn (numbers (joined_of opened)) s → IsIn (map (λ o. o.shard) opened) s
opened_so [] s i = absurd i
opened_so (o ∷ opened) s i = by o.joined (opened_so opened s) i
  where
    by : (j : Option Join) → (IsIn (numbers (joined_of opened)) s → IsIn (map (λ x. x.shard) opened) s) → IsIn (numbers (cons_option (option_map (λ k. (o.shard, k.peers)) j) (joined_of opened))) s → IsIn (map (λ x. x.shard) (o ∷ opened)) s
    by None rest later = inr (rest later)
    by (Some j) rest (inl here) = inl here
    by (Some j) rest (inr later) = inr (rest later)

-- ---- the state

module _ {D : Type 0} {G : Ghosts D} (state : D → DiskState) (m g : Members D G) (name : List ℕ) (asked : Option ℕ) (marking : Marking) (to : IsToMark state m name asked marking g) where
  covered_so : (s : ℕ) → IsIn (numbers (joined_of to.opened)) s → IsTrue (is_covering s asked)
  covered_so s i = ((to.all.are s).0 (subst (λ xs. IsIn xs s) (sym (append-nil (map (λ o. o.shard) to.opened))) (opened_so to.opened s i))).0

  moved_so : IsMovedState m.net.state (kept_in m) name asked (by_marking marking m.net.state)
  moved_so = record {
    node = to.may.runs.node;
    named = to.may.runs.found;
    shards = numbers (joined_of to.opened);
    some = some_so (joined_of to.opened) to.some;
    covered = covered_so;
    over = subst (λ done. IsAvailable m.net.state.place done marking.next) (pairs_of to.may.runs.node (joined_of to.opened)) to.available;
    room = to.room;
    rules = refl;
    seed_is = refl;
  }

module _ {D : Type 0} {G : Ghosts D} (state : D → DiskState) (old opened : Cluster D G) (name : List ℕ) (asked : Option ℕ) (marking : Marking) (joined : HasJoined state old name asked marking opened) (next : MetaState) (is : Some next ≡ option_map (by_marking marking) (state_of opened)) where
  -- the joins left the state
  from_old : next ≡ by_marking marking (joined.was).net.state
  from_old =
      let both : Some next ≡ Some (by_marking marking (joined.was).net.state) = is ∙ ap (option_map (by_marking marking)) (state_is opened joined.is joined.stands ∙ ap Some joined.step.0.keeps.keeps.state) in
      same_Some next (by_marking marking (joined.was).net.state) both

  -- it may be saved
  pub joined_lawful : MayBeState (state_of old) → IsMetaState next
  joined_lawful was = subst IsMetaState (sym from_old) (place_lawful (joined.was).net.state marking.next (subst MayBeState (state_is old joined.was joined.stood) was) joined.step.0.lawful)

  -- and the line leads to it
  pub joined_leads : LeadsToState (state_of old) (kept_of old) (act.Bootstrap name asked) next
  joined_leads =
      subst (λ (n : MetaState). LeadsToState (state_of old) (kept_of old) (act.Bootstrap name asked) n) (sym from_old)
      (subst (λ (o : Option MetaState). LeadsToState o (kept_of old) (act.Bootstrap name asked) (by_marking marking (joined.was).net.state)) (sym (state_is old joined.was joined.stood))
      (subst (λ (k : ℕ). LeadsToState (Some (joined.was).net.state) k (act.Bootstrap name asked) (by_marking marking (joined.was).net.state)) (sym (kept_is old joined.was joined.stood)) (moved_so state joined.was joined.is name asked marking joined.step.0)))

-- ---- what is marked

module _ {D : Type 0} {G : Ghosts D} (state : D → DiskState) where
  -- what was joined may be marked
  pub may_mark : (old opened mid : Cluster D G) (name : List ℕ) (asked : Option ℕ) (marking : Marking) → HasJoined state old name asked marking opened → mid ≡ opened → MayMark mid marking
  may_mark old opened mid name asked marking joined same = subst (λ (c : Cluster D G). MayMark c marking) (sym same) (joined.is, joined.stands, joined.step.1)

  -- and the tenures may end once it is
  pub may_end : (mid was now : Cluster D G) (marking : Marking) (marked : Marked) → HasMarked state mid marking marked was → now ≡ was → MayEndSources now marked
  may_end mid was now marking marked marks same = subst (λ (c : Cluster D G). MayEndSources c marked) (sym same) (marks.is, marks.stands, marks.step.1)

  -- what a stop leaves of the meta disk once the save is readied has the state that the joins left
  pub saved_mid : (old mid : SavedCluster D G) (opened : Cluster D G) → state_of opened ≡ state_of old.cluster → mid.cluster ≡ opened → (state mid.meta).tells ≡ (state old.meta).tells → ((state old.meta).tells ≡ true → Elapses KeepsLast (state old.meta) (state mid.meta))
      → IsSaved (state_of old.cluster) (state old.meta) → IsSaved (state_of mid.cluster) (state mid.meta)
  saved_mid old mid opened same stays tells readied saved = subst (λ o. IsSaved o (state mid.meta)) (sym (ap state_of stays ∙ same)) (saved_still (state_of old.cluster) (state old.meta) (state mid.meta) tells readied saved)

-- ---- the line

module _ {D : Type 0} {G : Ghosts D} (state : D → DiskState) (depot : Depot D) (old : SavedCluster D G) (opened : Cluster D G) (name : List ℕ) (asked : Option ℕ) (may : MayServeSaved state old depot.held) (same : state_of opened ≡ state_of old.cluster) (still : StillServes old.cluster opened) where
  abbrev boot : Act
  boot = act.Bootstrap name asked

  -- the replicas were opened, and the state stays
  may_opened : MayServeSaved state (record old { cluster = opened }) depot.held
  may_opened = record {
    cluster = still depot.held may.cluster;
    meta_out = may.meta_out;
    log = may.log;
    state = subst MayBeState (sym same) may.state;
    saved = subst (λ o. IsSaved o (state old.meta)) (sym same) may.saved;
  }

  serves_boot : (b : Answer) (new : Cluster D G) → Answers state old.cluster boot b new → Serves state depot old.cluster boot b depot new
  serves_boot b new answers = serves_so state depot old.cluster boot b new refl refl answers

  -- it is answered then
  pub boot_answered : (b : Answer) → Answers state old.cluster boot b opened → AnswersSaved state depot old boot (Ok b) depot (record old { cluster = opened })
  boot_answered b answers =
      answered_unsaved state depot depot old (record old { cluster = opened }) boot b same may_opened (serves_boot b opened answers) (λ tells. elapses_same (state old.meta)) refl (counts_same ⊥ (state old.meta).faults (λ never. never))

  module _ (mid : SavedCluster D G) (stays : mid.cluster ≡ opened) (log : MetaStands mid.log (state mid.meta)) (readied : (state old.meta).tells ≡ true → Elapses KeepsLast (state old.meta) (state mid.meta)) (tells : (state mid.meta).tells ≡ (state old.meta).tells) where
    -- its save couldn't be readied
    pub boot_unready : Answers state old.cluster boot answer.Memory opened → (why : DiskErr) → CountsFaults (IsErrOf {T = Unit} (Err why) disk_err.Failed) (state old.meta).faults (state mid.meta).faults → AnswersSaved state depot old boot (unready why) depot mid
    boot_unready left why counts = by why counts
      where
        state_mid : state_of mid.cluster ≡ state_of old.cluster
        state_mid = ap state_of stays ∙ same

        may_mid : MayServeSaved state mid depot.held
        may_mid = may_readied state depot.held (record old { cluster = opened }) mid stays log tells readied may_opened

        serves : Serves state depot old.cluster boot answer.Memory depot mid.cluster
        serves = subst (λ (c : Cluster D G). Serves state depot old.cluster boot answer.Memory depot c) (sym stays) (serves_boot answer.Memory opened left)

        by : (e : DiskErr) → CountsFaults (IsErrOf {T = Unit} (Err e) disk_err.Failed) (state old.meta).faults (state mid.meta).faults → AnswersSaved state depot old boot (unready e) depot mid
        by disk_err.Memory c = answered_unsaved state depot depot old mid boot answer.Memory state_mid may_mid serves readied tells (counts_none _ (state old.meta).faults (state mid.meta).faults (λ is. cc) c)
        by disk_err.Failed c = lost_unsaved state depot depot old mid boot answer.Memory state_mid (may_close state mid depot.held may_mid) serves readied tells (counts_as _ _ (state old.meta).faults (state mid.meta).faults (λ is. refl) c)

    module _ (marking : Marking) (joined : HasJoined state old.cluster name asked marking opened) (counts : CountsFaults ⊥ (state old.meta).faults (state mid.meta).faults)
        (marked : Marked) (was : Cluster D G) (marks : HasMarked state mid.cluster marking marked was) (leads : state_of was ≡ option_map (by_marking marking) (state_of mid.cluster)) (still_marked : StillServes mid.cluster was)
        (saved : Cluster D G) (saved_is : saved ≡ was) (next : MetaState) (next_is : state_of was ≡ Some next)
        (b : Answer) (final : SavedCluster D G) (ended : EndsSources state saved marked b final.cluster) (goes : (state mid.meta).tells ≡ true → Elapses (MaySave next) (state mid.meta) (state final.meta)) (final_tells : (state final.meta).tells ≡ (state mid.meta).tells) where
      from_joined : Some next ≡ option_map (by_marking marking) (state_of opened)
      from_joined = sym next_is ∙ leads ∙ ap (λ (c : Cluster D G). option_map (by_marking marking) (state_of c)) stays

      line_leads : Leads old.cluster (request.One boot) next
      line_leads = record { to = joined_leads state old.cluster opened name asked marking joined next from_joined; runs = (joined.was, joined.stood, (joined.step.0).may.runs) }

      answers : Answers state old.cluster boot b final.cluster
      answers = ended.answers old.cluster opened name asked marking joined (subst (λ (c : Cluster D G). HasMarked state c marking marked saved) stays (subst (λ (c : Cluster D G). HasMarked state mid.cluster marking marked c) (sym saved_is) marks))

      may_final : MayServeCluster final.cluster depot.held
      may_final = ended.still depot.held (subst (λ (c : Cluster D G). MayServeCluster c depot.held) (sym saved_is) (still_marked depot.held (subst (λ (c : Cluster D G). MayServeCluster c depot.held) (sym stays) (still depot.held may.cluster))))

      state_final : state_of final.cluster ≡ Some next
      state_final = ended.stays ∙ ap state_of saved_is ∙ next_is

      has_final : HasState final.cluster next
      has_final = subst (λ o. IfSome o (λ it. it ≡ next)) (sym state_final) refl

      -- the state was saved, and then the tenures ended
      pub boot_saved : MetaStands final.log (state final.meta) → IsSaved (Some next) (state final.meta) → CountsFaults ⊥ (state mid.meta).faults (state final.meta).faults → AnswersSaved state depot old boot (Ok b) depot final
      boot_saved final_log holds final_counts = answered_saved state depot depot old mid final boot next line_leads readied tells counts goes final_tells b has_final (record {
        cluster = may_final;
        meta_out = may.meta_out;
        log = final_log;
        state = subst MayBeState (sym state_final) (joined_lawful state old.cluster opened name asked marking joined next from_joined may.state);
        saved = subst (λ o. IsSaved o (state final.meta)) (sym state_final) holds;
      }) (serves_boot b final.cluster answers) final_counts

      -- its save failed, and the tenures ended all the same
      pub boot_lost : (e : Lost) → CountsFaults (IsErrOf {T = Answer} (Err e) lost.Meta) (state mid.meta).faults (state final.meta).faults → AnswersSaved state depot old boot (Err e) depot final
      boot_lost e final_counts = lost_saved state depot depot old mid final boot next line_leads readied tells counts goes final_tells e b has_final (record { cluster = may_final; meta_out = may.meta_out }) (serves_boot b final.cluster answers) final_counts
