-- What each step leaves of a replica's tenure and fence, and what it began or was to begin with.
use Rattle.std.proofs.Common.{◌≡◌, ℕ, suc, ◌<◌, ◌≤◌, List, [], ◌∷◌, ◌++◌, take, length, refl, sym, ap, ◌∙◌, subst, inl, inr, arith, Bool}
use Rattle.std.specs.Prelude.{◌⊎◌, Some, None}
use Rattle.std.proofs.lemmas.Bool.{cases_eq}
use Rattle.std.proofs.lemmas.Option.{same_Some}
use Rattle.m3_model.specs.declared.reason.Reason.{Reason}
use Rattle.m3_model.specs.declared.reason.Reason.TheVariants as reason
use Rattle.m3_model.specs.declared.replica.Standing.TheVariants as standing
use Rattle.m3_model.specs.Members.{IsIn}
use Rattle.m3_model.proofs.MemberLemmas.{IsIn-append_cases}
use Rattle.cluster_core.specs.Legal.{Legal}
use Rattle.cluster_core.specs.Lists.{At}
use Rattle.cluster_core.specs.Replicas.{after, replica}
use Rattle.cluster_core.specs.declared.event.Event.{Event}
use Rattle.cluster_core.specs.declared.event.Event.TheVariants as event
use Rattle.cluster_core.specs.declared.event.StepCall.{StepCall}
use Rattle.cluster_core.specs.declared.event.StepCall.TheVariants as call
use Rattle.cluster_core.specs.declared.event.StepReply.{StepReply}
use Rattle.cluster_core.specs.declared.event.StepReply.TheVariants as reply
use Rattle.cluster_core.specs.declared.replica_state.ReplicaState.{ReplicaState}
use Rattle.cluster_core.proofs.ListLemmas.{along}
use Rattle.cluster_core.proofs.TraceLemmas.{replica_suc, step_cases}
use Rattle.told_causes.proofs.RunLemmas.{refused_open}

-- ---- one step

refused_tenure : (r : ReplicaState) (c : StepCall) (why : Reason) → (after r c (reply.Refused why)).tenure ≡ r.tenure
refused_tenure r (call.Begin tenure) reason.Disk = refl
refused_tenure r (call.Put client number rules version point) reason.Disk = refl
refused_tenure r (call.Merge page) reason.Disk = refl
refused_tenure r (call.Fence version) reason.Disk = refl
refused_tenure r (call.Tick rules) reason.Disk = refl
refused_tenure r _ reason.Disk = refl
refused_tenure r (call.Tick rules) (reason.Corrupt damage) = refl
refused_tenure r _ (reason.Corrupt damage) = refl
refused_tenure r (call.Begin tenure) _ = refl
refused_tenure r (call.Put client number rules version point) _ = refl
refused_tenure r (call.Merge page) _ = refl
refused_tenure r (call.Fence version) _ = refl
refused_tenure r _ _ = refl

-- open without a tenure
pub record IsEnded (r : ReplicaState) : Type 0 where
  pub open_ : r.standing ≡ standing.Open
  pub none : r.tenure ≡ None

-- what leaves a replica open without a tenure: it was so, or its tenure ended
pub ended_by : (r : ReplicaState) (c : StepCall) (a : StepReply) → IsEnded (after r c a) → IsEnded r ⊎ ((c ≡ call.End) × (a ≡ reply.Done))
ended_by r c (reply.Refused why) h = inl (record { open_ = refused_open r c why h.open_; none = sym (refused_tenure r c why) ∙ h.none })
ended_by r call.Restart reply.Done h = absurd (let bad : standing.Boot ≡ standing.Open = h.open_ in cc)
ended_by r call.Stop reply.Done h = absurd (let bad : standing.Down ≡ standing.Open = h.open_ in cc)
ended_by r call.End reply.Done h = inr (refl, refl)
ended_by r call.End a h = inl (record { open_ = h.open_; none = h.none })
ended_by r (call.Begin tenure) (reply.Began fence points) h = absurd (let bad : Some tenure ≡ None = h.none in cc)
ended_by r (call.Begin tenure) a h = inl (record { open_ = h.open_; none = h.none })
ended_by r _ _ h = inl (record { open_ = h.open_; none = h.none })

-- what leaves a replica a tenure: it had it, or began with it
pub owned_by : (r : ReplicaState) (c : StepCall) (a : StepReply) (tenure : ℕ) → (after r c a).tenure ≡ Some tenure → (r.tenure ≡ Some tenure) ⊎ (c ≡ call.Begin tenure)
owned_by r c (reply.Refused why) tenure e = inl (sym (refused_tenure r c why) ∙ e)
owned_by r call.End reply.Done tenure e = absurd (let bad : None ≡ Some tenure = e in cc)
owned_by r call.End a tenure e = inl e
owned_by r (call.Begin own) (reply.Began fence points) tenure e = let same : own ≡ tenure = same_Some own tenure e in inr (ap (λ t. call.Begin t) same)
owned_by r (call.Begin own) a tenure e = inl e
owned_by r _ _ tenure e = inl e

-- the replica began with it, or was to when the disk failed
abbrev pub Tries : ReplicaState → ℕ → Type 0
Tries r tenure = IsIn r.begun tenure ⊎ IsIn r.tried tenure

pushed : (xs : List ℕ) (own tenure : ℕ) → IsIn (xs ++ own ∷ []) tenure → IsIn xs tenure ⊎ (call.Begin own ≡ call.Begin tenure)
pushed xs own tenure m =
    elim (IsIn-append_cases xs (own ∷ []) tenure m) as (λ _. IsIn xs tenure ⊎ (call.Begin own ≡ call.Begin tenure)) [
      | inl k ↦ inl k
      | inr l ↦ elim l as (λ _. IsIn xs tenure ⊎ (call.Begin own ≡ call.Begin tenure)) [ inl e ↦ inr (ap (λ t. call.Begin t) e) | inr none ↦ absurd none ]
    ]

-- what a replica tries it tried before, or this step is the begin
pub tries_by : (r : ReplicaState) (c : StepCall) (a : StepReply) (tenure : ℕ) → Tries (after r c a) tenure → Tries r tenure ⊎ (c ≡ call.Begin tenure)
tries_by r (call.Begin own) (reply.Began fence points) tenure (inl m) = elim (pushed r.begun own tenure m) as (λ _. Tries r tenure ⊎ (call.Begin own ≡ call.Begin tenure)) [ inl k ↦ inl (inl k) | inr e ↦ inr e ]
tries_by r (call.Begin own) (reply.Began fence points) tenure (inr m) = inl (inr m)
tries_by r (call.Begin own) (reply.Refused reason.Disk) tenure (inl m) = inl (inl m)
tries_by r (call.Begin own) (reply.Refused reason.Disk) tenure (inr m) = elim (pushed r.tried own tenure m) as (λ _. Tries r tenure ⊎ (call.Begin own ≡ call.Begin tenure)) [ inl k ↦ inl (inr k) | inr e ↦ inr e ]
tries_by r (call.Put client number rules version point) (reply.Refused reason.Disk) tenure h = inl h
tries_by r (call.Merge page) (reply.Refused reason.Disk) tenure h = inl h
tries_by r (call.Fence version) (reply.Refused reason.Disk) tenure h = inl h
tries_by r (call.Tick rules) (reply.Refused reason.Disk) tenure h = inl h
tries_by r (call.Tick rules) (reply.Refused (reason.Corrupt damage)) tenure h = inl h
tries_by r _ (reply.Refused reason.Disk) tenure h = inl h
tries_by r _ (reply.Refused (reason.Corrupt damage)) tenure h = inl h
tries_by r (call.Put client number rules version point) reply.Done tenure h = inl h
tries_by r (call.Merge page) (reply.Count n) tenure h = inl h
tries_by r (call.Fence version) reply.Done tenure h = inl h
tries_by r (call.Tick rules) (reply.Count n) tenure h = inl h
tries_by r call.End reply.Done tenure h = inl h
tries_by r call.Stop reply.Done tenure h = inl h
tries_by r call.Restart reply.Done tenure h = inl h
tries_by r _ _ tenure h = inl h

-- ---- the slot

module _ {tells : Bool} (events : List Event) (legal : Legal tells events) (n s : ℕ) where
  abbrev pub slot : ℕ → ReplicaState
  slot j = replica n s (take j events)

  -- what each event keeps, be it a step of the slot or not
  pub each_event : (P : ℕ → Type 0) → P 0 → ((j : ℕ) → slot (suc j) ≡ slot j → P j → P (suc j)) → ((j : ℕ) (c : StepCall) (a : StepReply) → At events j (event.Step n s c a) → slot (suc j) ≡ after (slot j) c a → P j → P (suc j))
      → (j : ℕ) → j ≤ length events → P j
  each_event P start others own j high =
      along events P 0 start
      (λ k e le there was. elim (step_cases n s (slot k) e) as (λ _. P (suc k)) [
        | inl same ↦ others k (replica_suc events legal n s k e there ∙ same) was
        | inr step ↦ own k step.0 step.1 (there ∙ ap Some step.2) (replica_suc events legal n s k e there ∙ step.3) was
      ])
      j (omega arith) high

  -- the slot was to begin with the tenure before this position
  pub record BeginAt (j tenure : ℕ) : Type 0 where
    pub position : ℕ
    pub below : position < j
    pub answer : StepReply
    pub there : At events position (event.Step n s (call.Begin tenure) answer)

  pub begin_later : (j tenure : ℕ) → BeginAt j tenure → BeginAt (suc j) tenure
  begin_later j tenure b = let below = b.below in record { position = b.position; below = omega (arith, below); answer = b.answer; there = b.there }

  pub begin_here : (j tenure : ℕ) (c : StepCall) (a : StepReply) → At events j (event.Step n s c a) → c ≡ call.Begin tenure → BeginAt (suc j) tenure
  begin_here j tenure c a there is = record { position = j; below = omega arith; answer = a; there = subst (λ d. At events j (event.Step n s d a)) is there }

  -- each tenure that it has, began with or tried is one that it was to begin with
  pub owned_began : (tenure j : ℕ) → j ≤ length events → (slot j).tenure ≡ Some tenure → BeginAt j tenure
  owned_began tenure = each_event (λ j. (slot j).tenure ≡ Some tenure → BeginAt j tenure) (λ e. let bad : None ≡ Some tenure = e in cc)
      (λ j same was e. begin_later j tenure (was (sym (ap (λ (r : ReplicaState). r.tenure) same) ∙ e)))
      (λ j c a there is was e. elim (owned_by (slot j) c a tenure (sym (ap (λ (r : ReplicaState). r.tenure) is) ∙ e)) as (λ _. BeginAt (suc j) tenure) [ inl before ↦ begin_later j tenure (was before) | inr begins ↦ begin_here j tenure c a there begins ])

  pub tried_began : (tenure j : ℕ) → j ≤ length events → Tries (slot j) tenure → BeginAt j tenure
  tried_began tenure = each_event (λ j. Tries (slot j) tenure → BeginAt j tenure) none
      (λ j same was h. begin_later j tenure (was (subst (λ r. Tries r tenure) same h)))
      (λ j c a there is was h. elim (tries_by (slot j) c a tenure (subst (λ r. Tries r tenure) is h)) as (λ _. BeginAt (suc j) tenure) [ inl before ↦ begin_later j tenure (was before) | inr begins ↦ begin_here j tenure c a there begins ])
    where
      none : Tries (slot 0) tenure → BeginAt 0 tenure
      none (inl m) = absurd m
      none (inr m) = absurd m

  -- its tenure ended before this position, and it is open without one since
  pub record EndedAt (j : ℕ) : Type 0 where
    pub position : ℕ
    pub below : position < j
    pub there : At events position (event.Step n s call.End reply.Done)
    pub since : (i : ℕ) → position < i → i ≤ j → IsEnded (slot i)

  goes_on : (j : ℕ) → IsEnded (slot (suc j)) → EndedAt j → EndedAt (suc j)
  goes_on j now e =
      let below = e.below in
      record {
        position = e.position;
        below = omega (arith, below);
        there = e.there;
        since = λ i low high. elim (cases_eq i (suc j)) as (λ _. IsEnded (slot i)) [ inl last ↦ subst (λ m. IsEnded (slot m)) (sym last) now | inr other ↦ e.since i low (omega (arith, high, other)) ];
      }

  pub ended_at : (j : ℕ) → j ≤ length events → IsEnded (slot j) → EndedAt j
  ended_at = each_event (λ j. IsEnded (slot j) → EndedAt j) (λ h. absurd (let bad : standing.Boot ≡ standing.Open = h.open_ in cc))
      (λ j same was h. goes_on j h (was (subst IsEnded same h)))
      (λ j c a there is was h. elim (ended_by (slot j) c a (subst IsEnded is h)) as (λ _. EndedAt (suc j)) [
        | inl before ↦ goes_on j h (was before)
        | inr ends ↦ record {
          position = j;
          below = omega arith;
          there = subst (λ b. At events j (event.Step n s call.End b)) ends.1 (subst (λ d. At events j (event.Step n s d a)) ends.0 there);
          since = λ i low high. let last : suc j ≡ i = omega (arith, low, high) in subst (λ m. IsEnded (slot m)) last h;
        }
      ])
