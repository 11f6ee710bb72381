-- What a bootstrap added to the list: which slots took its steps, what it began, and which placement it made.
use Rattle.std.proofs.Common.{◌≡◌, ℕ, List, [], ◌∷◌, refl, ap, subst, inl, inr}
use Rattle.std.specs.Prelude.{Option, Some, None, nat_eq, if◌then◌else◌}
use Rattle.std.specs.FinMap as finite
use Rattle.std.specs.Option.{option_map_or}
use Rattle.std.proofs.lemmas.Bool.{and_from, eq-eqb}
use Rattle.m3_model.specs.Members.{IsIn}
use Rattle.m3_model.specs.declared.placement.Placement.{Placement}
use Rattle.m3_model.proofs.Lists.{IsIn-flat_map}
use Rattle.m3_model.proofs.MemberLemmas.{IsIn-append_cases, filter_map-IsIn}
use Rattle.m3_outside.specs.DiskState.{DiskState}
use Rattle.cluster_core.specs.declared.event.Event.{Event}
use Rattle.cluster_core.specs.declared.event.Event.TheVariants as event
use Rattle.cluster_core.specs.declared.event.StepCall.{StepCall}
use Rattle.cluster_core.specs.declared.event.StepCall.TheVariants as call
use Rattle.cluster_core.specs.declared.event.StepReply.{StepReply}
use Rattle.cluster_core.specs.declared.event.StepReply.TheVariants as reply
use Rattle.node_calls.specs.replica_calls.Calls.{Tracked}
use Rattle.node_calls.specs.session_net.Runs.{Ran, slot_at, step_in, steps_of}
use Rattle.told_runs.specs.told_by.Makes.{IsAssigned}
use Rattle.line_tracks.specs.acts.Stays.{HaveNoPlace, IsNoPlace}
use Rattle.peer_streams.specs.Joins.{Join, Opened}
use Rattle.peer_streams.specs.Streams.{replied}
use Rattle.told_joins.specs.Lines.{AddsJoins, added_by, joined_of, marks, source_ends}
use Rattle.told_joins.proofs.AskLemmas.{MayHappen, all_happen}

-- ---- steps

-- a step that came is one of its slot's steps
step_came : (more : List Event) (n s : ℕ) (c : StepCall) (r : StepReply) → IsIn more (event.Step n s c r) → steps_of (slot_at n s) more ≡ [] → ⊥
step_came more n s c r m none =
    let own : step_in (slot_at n s) (event.Step n s c r) ≡ Some (record { call = c; reply = r }) = ap (λ t. if t then Some (record { call = c; reply = r }) else None) (and_from (nat_eq n n) (nat_eq s s) (eq-eqb n n refl) (eq-eqb s s refl)) in
    subst (λ xs. IsIn xs (record { call = c; reply = r })) none (filter_map-IsIn (step_in (slot_at n s)) more (event.Step n s c r) (record { call = c; reply = r }) m own)

-- so it is of a slot with a replica
pub came_there : {D : Type 0} (state : D → DiskState) (old new : Tracked D) (more : List Event) → Ran state old more new → (n s : ℕ) (c : StepCall) (r : StepReply) → IsIn more (event.Step n s c r) → finite.get old.members (slot_at n s) ≡ None → ⊥
came_there state old new more ran n s c r m none = step_came more n s c r m (ran.only (slot_at n s) none)

-- ---- lines that make no placement

module _ (place : Placement) (y : ℕ) (only : Option ℕ) where
  happens_no_place : (e : Event) → MayHappen place y only e → IsNoPlace e
  happens_no_place (event.Place next done) h = absurd h
  happens_no_place _ h = tt

  pub no_place_by : (more : List Event) → ((e : Event) → IsIn more e → MayHappen place y only e) → HaveNoPlace more
  no_place_by more each e m = happens_no_place e (each e m)

  pub begins_by : (more : List Event) → ((e : Event) → IsIn more e → MayHappen place y only e) → (n s tenure : ℕ) (r : StepReply) → IsIn more (event.Step n s (call.Begin tenure) r) → IsAssigned place n s tenure
  begins_by more each n s tenure r m = (each (event.Step n s (call.Begin tenure) r) m).2

  -- ---- lines that end moves

  -- what stands behind the streams: an Ask and a Place, and the ends of tenures
  abbrev IsMark : Placement → Event → Type 0
  IsMark next (event.Place shown done) = shown ≡ next
  IsMark next (event.Step n s (call.Begin tenure) r) = ⊥
  IsMark next _ = Unit {0}

  end_marks : (next : Placement) (o : Opened) (e : Event) → IsIn (source_ends o) e → IsMark next e
  end_marks next o e m = by o.joined m
    where
      by : (j : Option Join) → IsIn (option_map_or (λ (k : Join). replied k.source o.shard call.End reply.Done) j []) e → IsMark next e
      by None m = absurd m
      by (Some j) (inl is) = subst (IsMark next) is tt
      by (Some j) (inr (inl is)) = subst (IsMark next) is tt
      by (Some j) (inr (inr none)) = absurd none

  marks_are : (opened : List Opened) (available : List (ℕ × List ℕ)) (next : Placement) (e : Event) → IsIn (marks y opened available next) e → IsMark next e
  marks_are opened [] next e m = absurd m
  marks_are opened (x ∷ available) next e (inl is) = subst (IsMark next) is tt
  marks_are opened (x ∷ available) next e (inr (inl is)) = subst (IsMark next) is refl
  marks_are opened (x ∷ available) next e (inr (inr m)) = let o = IsIn-flat_map source_ends opened e m in end_marks next o.0 e o.2

  module _ (opened : List Opened) (next : Placement) (more : List Event) (adds : AddsJoins place y only opened next more) where
    front : (e : Event) → IsIn (added_by opened) e → MayHappen place y only e
    front e m = all_happen place y only opened [] adds.all e m

    pub joins_begin : (n s tenure : ℕ) (r : StepReply) → IsIn more (event.Step n s (call.Begin tenure) r) → IsAssigned place n s tenure
    joins_begin n s tenure r m =
        let e : Event = event.Step n s (call.Begin tenure) r in
        elim (IsIn-append_cases (added_by opened) (marks y opened (joined_of opened) next) e (subst (λ xs. IsIn xs e) adds.adds m)) as (λ _. IsAssigned place n s tenure) [
          | inl here ↦ (front e here).2
          | inr behind ↦ absurd (marks_are opened (joined_of opened) next e behind)
        ]

    pub joins_place : (shown : Placement) (done : List (ℕ × ℕ)) → IsIn more (event.Place shown done) → shown ≡ next
    joins_place shown done m =
        let e : Event = event.Place shown done in
        elim (IsIn-append_cases (added_by opened) (marks y opened (joined_of opened) next) e (subst (λ xs. IsIn xs e) adds.adds m)) as (λ _. shown ≡ next) [
          | inl here ↦ absurd (front e here)
          | inr behind ↦ marks_are opened (joined_of opened) next e behind
        ]

    -- where none was joined no placement is made
    pub none_placed : joined_of opened ≡ [] → HaveNoPlace more
    none_placed none e m = elim (IsIn-append_cases (added_by opened) (marks y opened (joined_of opened) next) e (subst (λ xs. IsIn xs e) adds.adds m)) as (λ _. IsNoPlace e) [
      | inl here ↦ happens_no_place e (front e here)
      | inr behind ↦ absurd (subst (λ xs. IsIn (marks y opened xs next) e) none behind)
    ]
