-- Each point of a slot was sent, or is the opening's.
use Rattle.std.proofs.Common.{◌≡◌, ℕ, suc, ◌≤◌, List, [], ◌∷◌, ◌++◌, take, length, refl, sym, ap, ◌∙◌, subst, inl, inr, arith, true}
use Rattle.std.specs.Prelude.{◌⊎◌, ◌≢◌, Some}
use Rattle.std.proofs.lemmas.Bool.{cases_eq}
use Rattle.std.specs.List.{Any}
use Rattle.m3_model.specs.Members.{IsIn}
use Rattle.placement_core.proofs.ListLemmas.{each-from_All, IsIn-from_Any}
use Rattle.cluster_core.specs.Answers.{IsWantedUnexpired, AsksFor}
use Rattle.m3_model.proofs.MemberLemmas.{IsIn-append_cases}
use Rattle.m3_model.specs.Reads.{points_in, space_picked}
use Rattle.m3_model.specs.declared.point.Point.{Point}
use Rattle.m3_model.specs.declared.point.Page.{Page}
use Rattle.m3_model.specs.declared.point.Series.{Series}
use Rattle.m3_model.specs.declared.point.Pick.{Pick}
use Rattle.m3_model.specs.declared.rules.Rules.{Rules}
use Rattle.m3_model.specs.declared.reason.Reason.TheVariants as reason
use Rattle.cluster_core.specs.declared.event.StepCall.{StepCall}
use Rattle.cluster_core.specs.declared.event.StepCall.TheVariants as call
use Rattle.cluster_core.specs.declared.event.StepReply.{StepReply}
use Rattle.cluster_core.specs.declared.event.StepReply.TheVariants as reply
use Rattle.cluster_core.specs.declared.event.Event.{Event}
use Rattle.cluster_core.specs.declared.event.Event.TheVariants as event
use Rattle.cluster_core.specs.Lists.{At}
use Rattle.cluster_core.specs.declared.replica_state.ReplicaState.{ReplicaState}
use Rattle.cluster_core.specs.Replicas.{replica, after}
use Rattle.m3_model.specs.declared.replica.Standing.{Standing}
use Rattle.m3_model.specs.declared.replica.Standing.TheVariants as standing
use Rattle.std.proofs.Common.{drop}
use Rattle.cluster_core.specs.Earlier.{HasSend, HasPage}
use Rattle.cluster_core.specs.Legal.{Legal, EachAnswered}
use Rattle.cluster_core.specs.Rows.{LawfulStep, IsBegan}
use Rattle.cluster_core.specs.Core.{Opening, AgreesWith, WasWritten}
use Rattle.cluster_core.proofs.ListLemmas.{at_within, at_take, along}
use Rattle.cluster_core.proofs.PastLemmas.{ReadAt, FetchAt, read_at, send_at, page_at}
use Rattle.cluster_core.proofs.TraceLemmas.{lawful_step, replica_suc, step_cases}

-- sure, or in doubt
abbrev pub IsThere : ReplicaState → Point → Type 0
IsThere r q = IsIn r.sure q ⊎ IsIn r.doubt q

-- where a point of a slot may come from in one step
pub data Comes (past : List Event) (s : ℕ) (r : ReplicaState) (c : StepCall) (a : StepReply) (q : Point) : Type 0 where
  was : IsThere r q → Comes past s r c a q
  sent : (version : ℕ) → HasSend past version s q → Comes past s r c a q
  paged : (page : Page) → HasPage past s page → IsIn page.points q → Comes past s r c a q
  opened : (tenure fence : ℕ) (points : List Point) → c ≡ call.Begin tenure → a ≡ reply.Began fence points → r.begun ≡ [] → IsIn points q → Comes past s r c a q

pushed_cases : (ps : List Point) (p q : Point) → IsIn (ps ++ p ∷ []) q → IsIn ps q ⊎ (p ≡ q)
pushed_cases ps p q m = elim (IsIn-append_cases ps (p ∷ []) q m) as (λ _. IsIn ps q ⊎ (p ≡ q)) [ inl k ↦ inl k | inr k ↦ elim k as (λ _. IsIn ps q ⊎ (p ≡ q)) [ inl e ↦ inr e | inr z ↦ absurd z ] ]

none_or : (begun : List ℕ) → (begun ≡ []) ⊎ (begun ≢ [])
none_or [] = inl refl
none_or (t ∷ ts) = inr (λ e. cc)

-- past the first Began what is loaded was sure or in doubt
loaded : (st : Standing) (begun : List ℕ) (r : ReplicaState) (tenure fence : ℕ) (points : List Point) (q : Point) → IsBegan st begun r tenure fence points → begun ≢ [] → IsIn points q → IsThere r q
loaded standing.Open begun r tenure fence points q h ne m = absurd (subst (λ ps. IsIn ps q) h.0 m)
loaded standing.Down begun r tenure fence points q h ne m = absurd h
loaded standing.Boot begun r tenure fence points q h ne m = each-from_All (λ p. IsIn r.sure p ⊎ IsIn r.doubt p) points (h ne).source q m

comes_of : (past : List Event) (n s : ℕ) (r : ReplicaState) (c : StepCall) (a : StepReply) (q : Point) → LawfulStep true past n s r c a → IsThere (after r c a) q → Comes past s r c a q
comes_of past n s r (call.Begin tenure) (reply.Began fence points) q h (inl m) =
    elim (IsIn-append_cases r.sure points q m) as (λ _. Comes past s r (call.Begin tenure) (reply.Began fence points) q) [
      | inl k ↦ was (inl k)
      | inr k ↦ elim (none_or r.begun) as (λ _. Comes past s r (call.Begin tenure) (reply.Began fence points) q) [
        | inl e ↦ opened tenure fence points refl refl e k
        | inr ne ↦ was (loaded r.standing r.begun r tenure fence points q h.began ne k)
      ]
    ]
comes_of past n s r (call.Begin tenure) (reply.Began fence points) q h (inr m) = absurd m
comes_of past n s r (call.Put client number rules version point) reply.Done q h (inl m) =
    elim (pushed_cases r.sure point q m) as (λ _. Comes past s r (call.Put client number rules version point) reply.Done q) [ inr e ↦ sent version (subst (HasSend past version s) e h.sent) | inl k ↦ was (inl k) ]
comes_of past n s r (call.Put client number rules version point) reply.Done q h (inr m) = was (inr m)
comes_of past n s r (call.Merge page) (reply.Count k) q h (inl m) =
    elim (IsIn-append_cases r.sure page.points q m) as (λ _. Comes past s r (call.Merge page) (reply.Count k) q) [ inr i ↦ paged page h.1 i | inl i ↦ was (inl i) ]
comes_of past n s r (call.Merge page) (reply.Count k) q h (inr m) = was (inr m)
comes_of past n s r (call.Fence version) reply.Done q h m = was m
comes_of past n s r (call.Tick rules) (reply.Count k) q h m = was m
comes_of past n s r call.End reply.Done q h m = was m
comes_of past n s r call.Stop reply.Done q h m = was m
comes_of past n s r call.Restart reply.Done q h m = was m
comes_of past n s r (call.Begin tenure) (reply.Refused reason.Disk) q h m = was m
comes_of past n s r (call.Put client number rules version point) (reply.Refused reason.Disk) q h (inl m) = was (inl m)
comes_of past n s r (call.Put client number rules version point) (reply.Refused reason.Disk) q h (inr m) =
    elim (pushed_cases r.doubt point q m) as (λ _. Comes past s r (call.Put client number rules version point) (reply.Refused reason.Disk) q) [ inr e ↦ sent version (subst (HasSend past version s) e h.there) | inl k ↦ was (inr k) ]
comes_of past n s r (call.Merge page) (reply.Refused reason.Disk) q h (inl m) = was (inl m)
comes_of past n s r (call.Merge page) (reply.Refused reason.Disk) q h (inr m) =
    elim (IsIn-append_cases r.doubt page.points q m) as (λ _. Comes past s r (call.Merge page) (reply.Refused reason.Disk) q) [ inr i ↦ paged page h.there i | inl i ↦ was (inr i) ]
comes_of past n s r (call.Fence version) (reply.Refused reason.Disk) q h m = was m
comes_of past n s r (call.Tick rules) (reply.Refused reason.Disk) q h m = was m
comes_of past n s r (call.Tick rules) (reply.Refused (reason.Corrupt damage)) q h m = was m
comes_of past n s r _ (reply.Refused reason.Disk) q h m = was m
comes_of past n s r _ (reply.Refused (reason.Corrupt damage)) q h m = was m
comes_of past n s r _ _ q h m = was m

-- a page's points are sure ones
page_source : (past : List Event) (n s : ℕ) (r : ReplicaState) (c : StepCall) (page : Page) (q : Point) → LawfulStep true past n s r c (reply.Paged page) → IsIn page.points q → IsIn r.sure q
page_source past n s r (call.Page from) page q h m = (each-from_All (λ p. IsIn r.sure p × AsksFor (call.Page from) p) page.points (h.1).nothing_else q m).0
page_source past n s r (call.Block ns start size from) page q h m = (each-from_All (λ p. IsIn r.sure p × AsksFor (call.Block ns start size from) p) page.points (h.1).nothing_else q m).0
page_source past n s r _ page q h m = absurd h

module _ (events : List Event) (legal : Legal true events) (o : Opening) (agrees : AgreesWith events o) (s : ℕ) where
  -- sent earlier, or the opening's
  abbrev pub HasOrigin : ℕ → Point → Type 0
  HasOrigin i q = WasWritten events o i s q

  origin_later : (i j : ℕ) (q : Point) → i ≤ j → HasOrigin i q → HasOrigin j q
  origin_later i j q le h = elim h as (λ _. HasOrigin j q) [ inl x ↦ inl (x.0, x.1, omega (arith, x.2), x.3) | inr x ↦ inr x ]

  origin_step : (k n : ℕ) (c : StepCall) (a : StepReply) (q : Point) → At events k (event.Step n s c a)
      → ((i m : ℕ) (p : Point) → i ≤ k → IsThere (replica m s (take i events)) p → HasOrigin i p)
      → Comes (take k events) s (replica n s (take k events)) c a q → HasOrigin (suc k) q
  origin_step k n c a q there before (was h) = origin_later k (suc k) q (omega arith) (before k n q (omega arith) h)
  origin_step k n c a q there before (sent version h) =
      let f = send_at (take k events) version s q h in
      let t = at_take events f.0 k (event.Send version s q) f.1 in
      inl (f.0, version, omega (arith, t.1), t.0)
  origin_step k n c a q there before (paged page has m) =
      let h = page_at (take k events) s page has in
      let t = at_take events h.position k (event.Step h.node s h.page_call (reply.Paged page)) h.there in
      let sure = page_source (take h.position events) h.node s (replica h.node s (take h.position events)) h.page_call page q (lawful_step events legal h.position h.node s h.page_call (reply.Paged page) t.0) m in
      origin_later h.position (suc k) q (omega (arith, t.1)) (before h.position h.node q (omega (arith, t.1)) (inl sure))
  origin_step k n c a q there before (opened tenure fence points ec ea none m) =
      inr (n, subst (λ ps. IsIn ps q) (agrees k n s tenure fence points (there ∙ ap Some (λ i. event.Step n s (ec i) (ea i))) none) m)

  -- each point of a slot has an origin
  pub origin : (j : ℕ) → j ≤ length events → (i n : ℕ) (q : Point) → i ≤ j → IsThere (replica n s (take i events)) q → HasOrigin i q
  origin j high =
      along events (λ k. (i n : ℕ) (q : Point) → i ≤ k → IsThere (replica n s (take i events)) q → HasOrigin i q) 0
      (λ i n q le h. let e : i ≡ 0 = omega arith in elim (subst (λ m. IsThere (replica n s (take m events)) q) e h) as (λ _. HasOrigin i q) [ inl m ↦ absurd m | inr m ↦ absurd m ])
      (λ k e le there before i n q up h.
      elim (cases_eq i (suc k)) as (λ _. HasOrigin i q) [
        | inr ne ↦ before i n q (omega arith) h
        | inl is ↦
            let h' = subst (λ m. IsThere (replica n s (take m events)) q) is h in
            subst (λ m. HasOrigin m q) (sym is) (elim (step_cases n s (replica n s (take k events)) e) as (λ _. HasOrigin (suc k) q) [
              | inl same ↦ origin_later k (suc k) q (omega arith) (before k n q (omega arith) (subst (λ r. IsThere r q) (replica_suc events legal n s k e there ∙ same) h'))
              | inr own ↦
                  let there' : At events k (event.Step n s own.0 own.1) = there ∙ ap Some own.2 in
                  origin_step k n own.0 own.1 q there' before
                  (comes_of (take k events) n s (replica n s (take k events)) own.0 own.1 q (lawful_step events legal k n s own.0 own.1 there') (subst (λ r. IsThere r q) (replica_suc events legal n s k e there ∙ own.3) h'))
            ])
      ])
      j (omega arith) high

-- an answer that was read is one of some node
answer_of : (past : List Event) (start s version : ℕ) (rules : Rules) (pick : Pick) (from to : ℕ) (nodes : List ℕ) (answers : List (List Series)) (answer : List Series)
    → EachAnswered (drop (suc start) past) (event.FetchStart version s rules pick from to) nodes answers → IsIn answers answer → (n : ℕ) × ReadAt past start n s version rules pick from to answer
answer_of past start s version rules pick from to [] [] answer each h = absurd h
answer_of past start s version rules pick from to [] (b ∷ answers) answer each h = absurd each
answer_of past start s version rules pick from to (m ∷ nodes) [] answer each h = absurd h
answer_of past start s version rules pick from to (m ∷ nodes) (b ∷ answers) answer each h =
    elim h as (λ _. (n : ℕ) × ReadAt past start n s version rules pick from to answer) [
      | inl e ↦ (m, subst (ReadAt past start m s version rules pick from to) e (read_at past start m s version rules pick from to b each.0))
      | inr r ↦ answer_of past start s version rules pick from to nodes answers answer each.1 r
    ]

-- each point of a fetch has an origin
pub fetch_origin : (events : List Event) (legal : Legal true events) (o : Opening) (agrees : AgreesWith events o) (i start : ℕ) (nodes : List ℕ) (series : List Series) → i ≤ length events
    → (f : FetchAt (take i events) start nodes series) (q : Point) → IsIn (points_in (space_picked f.pick) series) q → HasOrigin events legal o agrees f.s i q
fetch_origin events legal o agrees i start nodes series high f q m =
    let any = each-from_All (λ p. Any (λ answer. IsIn (points_in (space_picked f.pick) answer) p) f.answers) (points_in (space_picked f.pick) series) (f.joined).nothing_else q m in
    let from = IsIn-from_Any (λ answer. IsIn (points_in (space_picked f.pick) answer) q) f.answers any in
    let a = answer_of (take i events) start f.s f.version f.rules f.pick f.from f.to nodes f.answers from.0 f.answered from.1 in
    let t = at_take events (a.1).position i (event.Step a.0 f.s (call.Read (a.1).client (a.1).number f.rules f.version f.pick f.from f.to) (reply.Found from.0)) (a.1).there in
    let row = lawful_step events legal (a.1).position a.0 f.s (call.Read (a.1).client (a.1).number f.rules f.version f.pick f.from f.to) (reply.Found from.0) t.0 in
    let up = origin events legal o agrees f.s (a.1).position (omega (arith, t.1)) (a.1).position a.0 q (omega arith) (inl (each-from_All (λ p. IsIn (replica a.0 f.s (take (a.1).position events)).sure p × IsWantedUnexpired f.rules f.pick f.from f.to p) (points_in (space_picked f.pick) from.0) (row.2).nothing_else q from.2).0) in
    origin_later events legal o agrees f.s (a.1).position i q (omega (arith, t.1)) up

-- each point of a page has an origin
pub page_origin : (events : List Event) (legal : Legal true events) (o : Opening) (agrees : AgreesWith events o) (i n s : ℕ) (c : StepCall) (page : Page) → At events i (event.Step n s c (reply.Paged page))
    → (q : Point) → IsIn page.points q → HasOrigin events legal o agrees s i q
page_origin events legal o agrees i n s c page there q m =
    let bound = at_within events i (event.Step n s c (reply.Paged page)) there in
    origin events legal o agrees s i (omega (arith, bound)) i n q (omega arith) (inl (page_source (take i events) n s (replica n s (take i events)) c page q (lawful_step events legal i n s c (reply.Paged page) there) m))
