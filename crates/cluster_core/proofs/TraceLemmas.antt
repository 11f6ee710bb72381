-- What a legal list keeps from one event to the next.
use Rattle.std.proofs.Common.{◌≡◌, ℕ, zero, suc, ◌<◌, ◌≤◌, List, [], take, length, refl, sym, ap, ◌∙◌, subst, inl, inr, arith, Bool, true, false, cond}
use Rattle.std.specs.Prelude.{◌⊎◌, ◌≢◌, Some, nat_eq, ◌&&◌}
use Rattle.std.proofs.lemmas.Bool.{and_parts, eqb-true}
use Rattle.m3_model.specs.Members.{IsIn}
use Rattle.m3_model.specs.declared.point.Point.{Point}
use Rattle.m3_model.specs.declared.rules.Rules.{Rules}
use Rattle.m3_model.specs.declared.point.Pick.{Pick}
use Rattle.m3_model.specs.declared.point.Series.{Series}
use Rattle.m3_model.specs.declared.placement.Placement.{Placement}
use Rattle.m3_model.specs.declared.replica.Standing.TheVariants as standing
use Rattle.cluster_core.specs.declared.event.StepCall.{StepCall}
use Rattle.cluster_core.specs.declared.event.StepReply.{StepReply}
use Rattle.cluster_core.specs.declared.event.Event.{Event}
use Rattle.cluster_core.specs.declared.event.Event.TheVariants as event
use Rattle.cluster_core.specs.Lists.{At}
use Rattle.cluster_core.specs.declared.replica_state.ReplicaState.{ReplicaState}
use Rattle.cluster_core.specs.Replicas.{replica, fresh, after, step_of, IsGone}
use Rattle.cluster_core.specs.Earlier.{HasShard, HasClock}
use Rattle.cluster_core.specs.Legal.{Legal, IsNextPlace}
use Rattle.cluster_core.specs.Rows.{LawfulStep}
use Rattle.cluster_core.specs.Core.{IsLiveUpTo}
use Rattle.m3_model.specs.Rules.{HasExpired}
use Rattle.cluster_core.proofs.ListLemmas.{at_take, at_within, at_in, any_at, fold_suc, along}
use Rattle.cluster_core.proofs.PastLemmas.{AckAt, FetchAt, ack_at, fetch_at, clock_at}
use Rattle.cluster_core.proofs.ReplicaLemmas.{after_sure, after_fence, after_unbegun, after_ticks, after_open, step_own}

-- a step of another slot, or an event that is no step, leaves the replica; a step of this one is its own
pub step_cases : (n s : ℕ) (r : ReplicaState) (e : Event) → (step_of n s r e ≡ r) ⊎ ((c : StepCall) × (a : StepReply) × (e ≡ event.Step n s c a) × (step_of n s r e ≡ after r c a))
step_cases n s r (event.Step node shard c a) = by (nat_eq node n && nat_eq shard s) refl
  where
    by : (b : Bool) → (nat_eq node n && nat_eq shard s) ≡ b
        → (cond b (after r c a) r ≡ r) ⊎ ((c' : StepCall) × (a' : StepReply) × (event.Step node shard c a ≡ event.Step n s c' a') × (cond b (after r c a) r ≡ after r c' a'))
    by true e = let parts = and_parts (nat_eq node n) (nat_eq shard s) e in inr (c, a, (λ i. event.Step (eqb-true node n parts.0 i) (eqb-true shard s parts.1 i) c a), refl)
    by false e = inl refl
step_cases n s r (event.Ask asked) = inl refl
step_cases n s r (event.Clock rules) = inl refl
step_cases n s r (event.Place placement done) = inl refl
step_cases n s r (event.Send version shard point) = inl refl
step_cases n s r (event.Ack send nodes) = inl refl
step_cases n s r (event.FetchStart version shard rules pick from to) = inl refl
step_cases n s r (event.FetchDone start nodes series) = inl refl

module _ {tells : Bool} (events : List Event) (legal : Legal tells events) where
  pub lawful_step : (i n s : ℕ) (c : StepCall) (a : StepReply) → At events i (event.Step n s c a) → LawfulStep tells (take i events) n s (replica n s (take i events)) c a
  lawful_step zero n s c a h = absurd (legal zero (event.Step n s c a) h)
  lawful_step (suc zero) n s c a h = absurd (legal 1 (event.Step n s c a) h)
  lawful_step (suc (suc i)) n s c a h = (legal (suc (suc i)) (event.Step n s c a) h).1

  pub lawful_place : (i : ℕ) (p : Placement) (done : List (ℕ × ℕ)) → At events (suc i) (event.Place p done) → IsNextPlace (take (suc i) events) p done
  lawful_place zero p done h = absurd (legal 1 (event.Place p done) h)
  lawful_place (suc i) p done h = (legal (suc (suc i)) (event.Place p done) h).1

  pub lawful_ack : (i send : ℕ) (nodes : List ℕ) → At events i (event.Ack send nodes) → AckAt (take i events) send nodes
  lawful_ack zero send nodes h = absurd (legal zero (event.Ack send nodes) h)
  lawful_ack (suc zero) send nodes h = absurd (legal 1 (event.Ack send nodes) h)
  lawful_ack (suc (suc i)) send nodes h = ack_at (take (suc (suc i)) events) send nodes (legal (suc (suc i)) (event.Ack send nodes) h)

  -- one step of a slot's replica
  pub replica_suc : (n s i : ℕ) (e : Event) → At events i e → replica n s (take (suc i) events) ≡ step_of n s (replica n s (take i events)) e
  replica_suc n s i e h = fold_suc (step_of n s) fresh events i e h

  pub replica_own : (n s i : ℕ) (c : StepCall) (a : StepReply) → At events i (event.Step n s c a) → replica n s (take (suc i) events) ≡ after (replica n s (take i events)) c a
  replica_own n s i c a h = replica_suc n s i (event.Step n s c a) h ∙ step_own n s (replica n s (take i events)) c a

  -- what each step of a slot keeps, for any fact on its replica
  pub each_step : (n s : ℕ) (P : ReplicaState → Type 0) (i : ℕ)
      → ((j : ℕ) (c : StepCall) (a : StepReply) → i ≤ j → At events j (event.Step n s c a) → P (replica n s (take j events)) → P (after (replica n s (take j events)) c a))
      → P (replica n s (take i events)) → (j : ℕ) → i ≤ j → j ≤ length events → P (replica n s (take j events))
  each_step n s P i keeps start j low high =
      along events (λ k. P (replica n s (take k events))) i start
      (λ k e le there was. subst P (sym (replica_suc n s k e there)) (elim (step_cases n s (replica n s (take k events)) e) as (λ _. P (step_of n s (replica n s (take k events)) e)) [
        | inl same ↦ subst P (sym same) was
        | inr own ↦ subst P (sym own.3) (keeps k own.0 own.1 le (there ∙ ap Some own.2) was)
      ]))
      j low high

  -- ---- the replica's fold

  pub sure_grows : (n s i j : ℕ) (p : Point) → i ≤ j → j ≤ length events → IsIn (replica n s (take i events)).sure p → IsIn (replica n s (take j events)).sure p
  sure_grows n s i j p low high h = each_step n s (λ r. IsIn r.sure p) i (λ k c a le there was. after_sure (replica n s (take k events)) c a p was) h j low high

  pub open_begun : (n s j : ℕ) → j ≤ length events → (replica n s (take j events)).standing ≡ standing.Open → (replica n s (take j events)).begun ≢ []
  open_begun n s j high =
      each_step n s (λ r. r.standing ≡ standing.Open → r.begun ≢ []) 0 (λ k c a le there was. after_open (replica n s (take k events)) c a was) (λ e. cc) j (omega arith) high

  pub lawful_fetched : (i start : ℕ) (nodes : List ℕ) (series : List Series) → At events i (event.FetchDone start nodes series) → FetchAt (take i events) start nodes series
  lawful_fetched zero start nodes series h = absurd (legal zero (event.FetchDone start nodes series) h)
  lawful_fetched (suc zero) start nodes series h = absurd (legal 1 (event.FetchDone start nodes series) h)
  lawful_fetched (suc (suc i)) start nodes series h = fetch_at (take (suc (suc i)) events) start nodes series (legal (suc (suc i)) (event.FetchDone start nodes series) h)

  pub lawful_start : (i version s : ℕ) (rules : Rules) (pick : Pick) (from to : ℕ) → At events i (event.FetchStart version s rules pick from to) → HasShard (take i events) version s × HasClock (take i events) rules
  lawful_start zero version s rules pick from to h = absurd (legal zero (event.FetchStart version s rules pick from to) h)
  lawful_start (suc zero) version s rules pick from to h = absurd (legal 1 (event.FetchStart version s rules pick from to) h)
  lawful_start (suc (suc i)) version s rules pick from to h = legal (suc (suc i)) (event.FetchStart version s rules pick from to) h

-- where the disks tell, what fences and ticks keep

module _ (events : List Event) (legal : Legal true events) where
  unbegun : (n s j : ℕ) → j ≤ length events → (replica n s (take j events)).begun ≡ [] → (replica n s (take j events)).fence ≡ 0
  unbegun n s j high =
      along events (λ k. (replica n s (take k events)).begun ≡ [] → (replica n s (take k events)).fence ≡ 0) 0 (λ e. refl)
      (λ k e le there was.
      elim (step_cases n s (replica n s (take k events)) e) as (λ _. (replica n s (take (suc k) events)).begun ≡ [] → (replica n s (take (suc k) events)).fence ≡ 0) [
        | inl same ↦ subst (λ (r : ReplicaState). r.begun ≡ [] → r.fence ≡ 0) (sym (replica_suc events legal n s k e there ∙ same)) was
        | inr own ↦ subst (λ (r : ReplicaState). r.begun ≡ [] → r.fence ≡ 0) (sym (replica_suc events legal n s k e there ∙ own.3))
            (after_unbegun (take k events) n s (replica n s (take k events)) own.0 own.1 (lawful_step events legal k n s own.0 own.1 (there ∙ ap Some own.2)) (open_begun events legal n s k (omega (arith, at_within events k e there))) was)
      ])
      j (omega arith) high

  pub fence_grows : (n s i j f : ℕ) → i ≤ j → j ≤ length events → f ≤ (replica n s (take i events)).fence → f ≤ (replica n s (take j events)).fence
  fence_grows n s i j f low high h =
      each_step events legal n s (λ r. f ≤ r.fence) i
      (λ k c a le there was. omega (arith, was, after_fence (take k events) n s (replica n s (take k events)) c a (unbegun n s k (omega (arith, at_within events k (event.Step n s c a) there))) (lawful_step events legal k n s c a there)))
      h j low high

  pub ticks_from : (n s j : ℕ) (x : Rules) → j ≤ length events → IsIn (replica n s (take j events)).ticks x → (k : ℕ) × (k < j) × At events k (event.Clock x)
  ticks_from n s j x high =
      along events (λ k. IsIn (replica n s (take k events)).ticks x → (m : ℕ) × (m < k) × At events m (event.Clock x)) 0 (λ h. absurd h)
      (λ k e le there was h.
      elim (step_cases n s (replica n s (take k events)) e) as (λ _. (m : ℕ) × (m < suc k) × At events m (event.Clock x)) [
        | inl same ↦ let w = was (subst (λ r. IsIn r.ticks x) (replica_suc events legal n s k e there ∙ same) h) in (w.0, omega (arith, w.1), w.2)
        | inr own ↦ elim (after_ticks (take k events) n s (replica n s (take k events)) own.0 own.1 x (lawful_step events legal k n s own.0 own.1 (there ∙ ap Some own.2)) (subst (λ r. IsIn r.ticks x) (replica_suc events legal n s k e there ∙ own.3) h)) as (λ _. (m : ℕ) × (m < suc k) × At events m (event.Clock x)) [
          | inl m ↦ let w = was m in (w.0, omega (arith, w.1), w.2)
          | inr clock ↦ let f = clock_at (take k events) x clock in let w = at_take events f.0 k (event.Clock x) f.1 in (f.0, omega (arith, w.1), w.0)
        ]
      ])
      j (omega arith) high

  -- a point that no Clock has expired isn't gone
  pub not_gone : (n s i j : ℕ) (p : Point) → j ≤ i → j ≤ length events → IsLiveUpTo events i p → IsGone (replica n s (take j events)) p → ⊥
  not_gone n s i j p le high live gone =
      let tick = any_at (λ rules. HasExpired rules p) (replica n s (take j events)).ticks gone in
      let t = ticks_from n s j tick.1 high (at_in (replica n s (take j events)).ticks tick.0 tick.1 tick.2) in
      live t.0 tick.1 (omega (arith, t.1)) t.2 tick.3
