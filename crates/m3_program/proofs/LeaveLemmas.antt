-- What a run leaves in the slots of replicas, before the disks are given back.
use Rattle.std.proofs.Common.{◌≡◌, ℕ, List, [], ◌∷◌, ◌++◌, refl, sym, ap, subst, inl, inr, true}
use Rattle.std.specs.Prelude.{Option, Some, None, IfSome}
use Rattle.m3_model.specs.declared.act.Act.{Act}
use Rattle.m3_model.specs.declared.act.Act.TheVariants as act
use Rattle.m3_model.specs.declared.answer.Answer.{Answer}
use Rattle.m3_model.specs.declared.answer.Answer.TheVariants as answer
use Rattle.m3_model.specs.declared.rules.MetaState.{MetaState}
use Rattle.m3_model.specs.declared.turn.Request.{Request}
use Rattle.m3_model.specs.declared.turn.Request.TheVariants as request
use Rattle.m3_model.specs.declared.turn.Turn.{Turn}
use Rattle.m3_outside.specs.Depots.{Depot}
use Rattle.m3_outside.specs.DiskState.{DiskState}
use Rattle.m3_outside.specs.Files.{Files}
use Rattle.m3_outside.specs.declared.disk.Disk.{Ghosts}
use Rattle.placement_log.specs.MetaHolds.{MetaHolds}
use Rattle.transcripts.specs.Record.{Record, line_of}
use Rattle.saved_cluster.specs.cluster_members.declared.members.Members.{Members}
use Rattle.saved_cluster.specs.line_tracks.Acts.{IsServedBy}
use Rattle.saved_cluster.specs.line_tracks.Leaves.{AllSlotsStand, held_after, may_step, record_with, state_with}
use Rattle.saved_cluster.specs.line_tracks.Lines.{EachMember}
use Rattle.saved_cluster.specs.replica_calls.Calls.{AreMembersOf}
use Rattle.saved_cluster.specs.served_cluster.Acts.{Serves, is_init}
use Rattle.saved_cluster.specs.served_cluster.Owned.{TracksTurns}
use Rattle.saved_cluster.specs.served_cluster.Plans.{state_of}
use Rattle.saved_cluster.specs.served_cluster.Tracks.{Tracks}
use Rattle.saved_cluster.specs.Saved.{ElapsesBy, IsSaved}
use Rattle.saved_cluster.specs.States.{LeadsToState, is_init_request, kept_of, saves_by}
use Rattle.saved_cluster.proofs.line_tracks_proofs.LeaveLemmas.{last_turn_may_be_open, leaves_standing, leaves_unmade, leaves_unsaved}
use Rattle.saved_cluster.proofs.line_tracks_proofs.MadeLemmas.{steps_are_made}
use Rattle.m3_program.specs.Streams.{BeginsSo, KnowsMembers, LeaveSlots, LeavesSlots, Opening, Stage, StandsAfter, held_back}

-- ---- nothing more was served

-- whichever request was taken and not served
pub stood_slots : {D : Type 0} {G : Ghosts D} (state : D → DiskState) (first : Opening D G) (now : Stage D G) (turns : List Turn) (unanswered : Option Request) → StandsAfter state first turns now → LeaveSlots state first now turns unanswered
stood_slots state first now turns unanswered s past lay begins are files image =
    let t = s.tracks true past lay begins in
    record {
      left = state_of now.saved.cluster;
      holds = s.saved (t.tell refl now.saved.meta) files image;
      slots = leaves_standing state now.saved.cluster.members past first.start lay now.depot turns now.saved.cluster.calls unanswered t are;
    }

-- ---- a request was served, and got no reply

-- an act that saves may step
saved_may_step : (a : Act) → saves_by a ≡ true → may_step a ≡ true
saved_may_step (act.Init rf shards seed nodes) is = refl
saved_may_step (act.Namespace name block past future retention) is = refl
saved_may_step (act.Now now) is = refl
saved_may_step (act.Bootstrap node shard) is = refl
saved_may_step _ is = is

-- where none stood only an `init` leads to a state
first_init : (kept : ℕ) (next : MetaState) (a : Act) → LeadsToState None kept a next → is_init a ≡ true
first_init kept next (act.Init rf shards seed nodes) leads = refl
first_init kept next _ leads = absurd leads

-- a request for one
pub init_asked : (a : Act) → is_init_request (request.One a) ≡ is_init a
init_asked (act.Init rf shards seed nodes) = refl
init_asked _ = refl

module _ {D : Type 0} {G : Ghosts D} (state : D → DiskState) where
  -- a cluster that stood stands
  stays_made : (calls : List ℕ) (depot after : Depot D) (m : Members D G) (a : Act) (b : Answer) → ¬ IsServedBy state calls depot (Some m) a b after None
  stays_made calls depot after m a b h = by a h
    where
      by_init : (rf shards seed : ℕ) (nodes : List (List ℕ × List ℕ)) (x : Answer) → ¬ IsServedBy state calls depot (Some m) (act.Init rf shards seed nodes) x after None
      by_init rf shards seed nodes (answer.Placed place version) it = (let clash : Some m ≡ None = it.0 in cc)
      by_init rf shards seed nodes answer.Order it = (let clash : None ≡ Some m = it.1 in cc)
      by_init rf shards seed nodes _ it = (let clash : Some m ≡ None = it.0 in cc)

      by : (x : Act) → ¬ IsServedBy state calls depot (Some m) x b after None
      by (act.Init rf shards seed nodes) it = by_init rf shards seed nodes b it
      by (act.Add node group) it = (let clash : None ≡ Some it.0 = it.1 in cc)
      by (act.Drain node) it = (let clash : None ≡ Some it.0 = it.1 in cc)
      by (act.Cancel node) it = (let clash : None ≡ Some it.0 = it.1 in cc)
      by (act.Remove node) it = (let clash : None ≡ Some it.0 = it.1 in cc)
      by (act.Replace node with_ group) it = (let clash : None ≡ Some it.0 = it.1 in cc)
      by _ it = (let clash : None ≡ Some it.0.0 = it.0.1 in cc)

  module _ (past : List Record) (start : Option MetaState) (lay before after : Depot D) (turns : List Turn) (a : Act) (b : Answer) (calls next_calls : List ℕ) where
    abbrev Slots : Option MetaState → Option (Members D G) → Type 0
    Slots left members = AllSlotsStand state (past ++ record_with start turns (Some (request.One a)) ∷ []) left (held_after members after.held)

    abbrev Line : Option (Members D G) → Type 0
    Line members = Tracks state true past start lay after (turns ++ line_of a b ∷ []) members next_calls

    -- by the state that the cluster has now
    by_new : (new : Option (Members D G)) → Line new → EachMember new (λ m. AreMembersOf state m.net.replicas) → Slots (state_with new) new
    by_new new t are = last_turn_may_be_open state past start turns a b (state_with new) (held_after new after.held) (leaves_standing state new past start lay after (turns ++ line_of a b ∷ []) next_calls None t are)

    module _ (kept : ℕ) (next : MetaState) where
      -- an `init` led to a first state, and no cluster was made
      by_first : (x : Act) → a ≡ x → LeadsToState None kept x next → Line None → Slots (Some next) None
      by_first (act.Init rf shards seed nodes) is leads t = last_turn_may_be_open state past start turns a b (Some next) (held_after {D = D} {G = G} None after.held) (leaves_unmade state None past start lay after (turns ++ line_of a b ∷ []) next_calls None rf shards nodes next refl t leads.place)
      by_first _ is leads t = absurd leads

      -- the state to which the act leads was saved
      by_next : (old new : Option (Members D G)) (served : List ℕ) (said : Answer) → Line new → EachMember new (λ m. AreMembersOf state m.net.replicas) → LeadsToState (state_with old) kept a next → IfSome (state_with new) (λ it. it ≡ next) → IsServedBy state served before old a said after new → Slots (Some next) new
      by_next old (Some n) served said t are leads has did = subst (λ (it : MetaState). Slots (Some it) (Some n)) has (by_new (Some n) t are)
      by_next None None served said t are leads has did = by_first a refl leads t
      by_next (Some o) None served said t are leads has did = absurd (stays_made served before after o a said did)

      -- it wasn't: by the state from before it, where a cluster stood
      by_stood : (old new : Members D G) (served : List ℕ) (said : Answer) → Tracks state true past start lay before turns (Some old) calls → Line (Some new) → AreMembersOf state new.net.replicas → may_step a ≡ true → IsServedBy state served before (Some old) a said after (Some new)
          → Slots (Some old.net.state) (Some new)
      by_stood old new served said was t are may did = leaves_unsaved state new past start lay before after turns calls next_calls a b old was t are (steps_are_made state old new served before after a said may did)

      by_made : (old : Members D G) (new : Option (Members D G)) (served : List ℕ) (said : Answer) → Tracks state true past start lay before turns (Some old) calls → Line new → EachMember new (λ m. AreMembersOf state m.net.replicas) → may_step a ≡ true → IsServedBy state served before (Some old) a said after new
          → Slots (Some old.net.state) new
      by_made old (Some new) served said was t are may did = by_stood old new served said was t are may did
      by_made old None served said was t are may did = absurd (stays_made served before after old a said did)

      -- or by none
      by_none : (new : Option (Members D G)) → Line new → EachMember new (λ m. AreMembersOf state m.net.replicas) → new ≡ None → Slots None new
      by_none new t are none = subst (λ (left : Option MetaState). Slots left new) (ap state_with none) (by_new new t are)

      by_old : (old new : Option (Members D G)) (served : List ℕ) (said : Answer) → Tracks state true past start lay before turns old calls → Line new → EachMember new (λ m. AreMembersOf state m.net.replicas) → LeadsToState (state_with old) kept a next → (is_init a ≡ true → new ≡ None) → may_step a ≡ true → IsServedBy state served before old a said after new
          → Slots (state_with old) new
      by_old None new served said was t are leads none may did = by_none new t are (none (first_init kept next a leads))
      by_old (Some old) new served said was t are leads none may did = by_made old new served said was t are may did

-- what is known of a request that was served and got no reply
pub record LostSo {D : Type 0} {G : Ghosts D} (old new : Stage D G) (a : Act) : Type 0 where
  pub saves : saves_by a ≡ true
  pub unmade : is_init a ≡ true → new.saved.cluster.members ≡ None

-- its reply wasn't written
pub said_slots : {D : Type 0} {G : Ghosts D} (state : D → DiskState) (first : Opening D G) (new : Stage D G) (turns : List Turn) (a : Act) (b : Answer) (past : List Record) (lay : Depot D) → IsSaved (state_of new.saved.cluster) (state new.saved.meta)
    → TracksTurns state true past first.start lay new.depot (turns ++ line_of a b ∷ []) new.saved.cluster → KnowsMembers state new
    → (files : Files) → (state new.saved.meta).images files → LeavesSlots state past (record { start = first.start; turns = turns; unanswered = Some (request.One a) }) (held_back new) files
said_slots state first new turns a b past lay saved t are files image = record {
  left = state_of new.saved.cluster;
  holds = saved (t.tell refl new.saved.meta) files image;
  slots = last_turn_may_be_open state past first.start turns a b (state_of new.saved.cluster) (held_back new) (leaves_standing state new.saved.cluster.members past first.start lay new.depot (turns ++ line_of a b ∷ []) new.saved.cluster.calls None t are);
}

module _ {D : Type 0} {G : Ghosts D} (state : D → DiskState) (first : Opening D G) (old new : Stage D G) (turns : List Turn) (a : Act) (was : StandsAfter state first turns old) where
  -- it got no answer
  pub lost_slots : (b said : Answer) → Serves state old.depot old.saved.cluster a said new.depot new.saved.cluster → LostSo old new a
      → ((state old.saved.meta).tells ≡ true → ElapsesBy old.saved.cluster (request.One a) new.saved.cluster (state old.saved.meta) (state new.saved.meta)) → (past : List Record) (lay : Depot D) → BeginsSo state true past lay first
      → TracksTurns state true past first.start lay new.depot (turns ++ line_of a b ∷ []) new.saved.cluster → KnowsMembers state new
      → (files : Files) → (state new.saved.meta).images files → LeavesSlots state past (record { start = first.start; turns = turns; unanswered = Some (request.One a) }) (held_back new) files
  lost_slots b said served lost elapses past lay begins t are files image = by (elapses told)
    where
      om : Option (Members D G)
      om = old.saved.cluster.members

      nm : Option (Members D G)
      nm = new.saved.cluster.members

      t_was : Tracks state true past first.start lay old.depot turns om old.saved.cluster.calls
      t_was = was.tracks true past lay begins

      told : (state old.saved.meta).tells ≡ true
      told = t_was.tell refl old.saved.meta

      by : ElapsesBy old.saved.cluster (request.One a) new.saved.cluster (state old.saved.meta) (state new.saved.meta) → LeavesSlots state past (record { start = first.start; turns = turns; unanswered = Some (request.One a) }) (held_back new) files
      by (inl (same, keeps)) =
          let step = keeps.images files image in record {
            left = state_of new.saved.cluster;
            holds = subst (λ (o : Option MetaState). MetaHolds o files) (sym same) (step.stepped.last (state_of old.saved.cluster) (was.saved told step.before step.was));
            slots = by_new state past first.start lay old.depot new.depot turns a b old.saved.cluster.calls new.saved.cluster.calls nm t are;
          }
      by (inr (next, leads, has, may)) =
          let step = may.images files image in
          elim (step.stepped.last (state_of old.saved.cluster) (was.saved told step.before step.was)) as (λ _. LeavesSlots state past (record { start = first.start; turns = turns; unanswered = Some (request.One a) }) (held_back new) files) [
            | inl holds ↦ record {
              left = state_of old.saved.cluster;
              holds = holds;
              slots = by_old state past first.start lay old.depot new.depot turns a b old.saved.cluster.calls new.saved.cluster.calls (kept_of old.saved.cluster) next om nm old.saved.cluster.calls said t_was t are leads.to lost.unmade (saved_may_step a lost.saves) served.members;
            }
            | inr saved ↦ record {
              left = Some next;
              holds = saved;
              slots = by_next state past first.start lay old.depot new.depot turns a b old.saved.cluster.calls new.saved.cluster.calls (kept_of old.saved.cluster) next om nm old.saved.cluster.calls said t are leads.to has served.members;
            }
          ]
