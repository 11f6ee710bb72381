-- An event that is lawful after one list is lawful after each longer one in which its maker did nothing more.
use Rattle.std.proofs.Common.{◌≡◌, ℕ, zero, suc, List, [], ◌∷◌, ◌++◌, take, length, refl, sym, ap, ◌∙◌, subst, inl, inr, arith, Bool, true, false, cond}
use Rattle.std.specs.Prelude.{◌⊎◌, Option, None, fold, nat_eq, ◌&&◌}
use Rattle.std.proofs.lemmas.Bool.{and_parts, eqb-true}
use Rattle.std.proofs.lemmas.List.{take-append-le, take_at}
use Rattle.std.proofs.lemmas.List.Sums.{fold-append}
use Rattle.m3_model.specs.Members.{IsIn}
use Rattle.m3_model.specs.declared.point.Series.{Series}
use Rattle.m3_model.specs.declared.rules.Rules.{Rules}
use Rattle.m3_model.specs.declared.placement.Placement.{Placement}
use Rattle.m3_model.specs.declared.reason.Reason.TheVariants as reason
use Rattle.cluster_core.specs.declared.event.StepCall.{StepCall}
use Rattle.cluster_core.specs.declared.event.StepCall.TheVariants as call
use Rattle.cluster_core.specs.declared.event.StepReply.{StepReply}
use Rattle.cluster_core.specs.declared.event.StepReply.TheVariants as reply
use Rattle.cluster_core.specs.declared.event.Event.{Event}
use Rattle.cluster_core.specs.declared.event.Event.TheVariants as event
use Rattle.std.proofs.Common.{drop}
use Rattle.std.specs.List.{Any}
use Rattle.std.proofs.lemmas.Option.{same_Some}
use Rattle.m3_model.specs.declared.reason.Reason.{Reason}
use Rattle.placement_core.specs.Shards.{Shard}
use Rattle.placement_core.proofs.ListLemmas.{each-from_All}
use Rattle.cluster_core.specs.Answers.{PageAsked}
use Rattle.cluster_core.specs.Asks.{IsLike, WasAsked, StepWasAsked}
use Rattle.cluster_core.specs.Earlier.{IsClock, IsSend, PlacesShard, CountsNodes, GivesTenure, TookPoint, GaveAnswer, GavePage, HasClock, HasPut, last_place, place_after, last_clock, clock_after}
use Rattle.cluster_core.specs.Joins.{BeganWith, FencedAt, GaveAsked, MergedPage, GavePages, HasCover, HasStreamed, HasJoined}
use Rattle.cluster_core.specs.Rows.{TicksByClock, TakesWhatIsThere, ReplicaMayRefuse, LawfulStep}
use Rattle.cluster_core.specs.Lists.{At, AfterSome}
use Rattle.cluster_core.specs.declared.replica_state.ReplicaState.{ReplicaState}
use Rattle.cluster_core.specs.Replicas.{replica, fresh, after, step_of}
use Rattle.cluster_core.specs.Legal.{Legal, Lawful, LawfulAt, JoinedThere, JoinedAt, AcksSend, EachAnswered, EndsFetch}
use Rattle.event_book.specs.declared.view.Made.{Made}
use Rattle.cluster_core.specs.Makers.{entries, replica_seat, IsMaker, IsLawfulLog}
use Rattle.cluster_core.proofs.ListLemmas.{at_within, at_in, in_at, at_append, any_at, at_any}
use Rattle.m3_model.proofs.MemberLemmas.{IsIn-append_right}
use Rattle.m3_model.proofs.Lists.{All-from_each}

append_at : {X : Type 0} (xs ys : List X) (i : ℕ) (x : X) → At (xs ++ ys) i x → At xs i x ⊎ IsIn ys x
append_at [] ys i x e = inr (at_in ys i x e)
append_at (y ∷ xs) ys zero x e = inl e
append_at (y ∷ xs) ys (suc i) x e = append_at xs ys i x e

-- two events that one seat makes: steps of one slot, two Places, two Clocks
abbrev pub IsAkin : Event → Event → Type 0
IsAkin (event.Step n s c a) (event.Step n' s' c' a') = (n' ≡ n) × (s' ≡ s)
IsAkin (event.Place placement done) (event.Place placement' done') = Unit {0}
IsAkin (event.Clock rules) (event.Clock rules') = Unit {0}
IsAkin _ _ = ⊥

-- ---- folds over events of others

fold_same : {X S : Type 0} (f : S → X → S) (a : S) (xs : List X) → ((b : S) (x : X) → IsIn xs x → f b x ≡ b) → fold f a xs ≡ a
fold_same f a [] h = refl
fold_same f a (x ∷ xs) h = ap (λ b. fold f b xs) (h a x (inl refl)) ∙ fold_same f a xs (λ b y m. h b y (inr m))

other_step : (n s : ℕ) (r : ReplicaState) (c : StepCall) (a : StepReply) (x : Event) → (IsAkin (event.Step n s c a) x → ⊥) → step_of n s r x ≡ r
other_step n s r c a (event.Step n' s' c' a') apart = by (nat_eq n' n && nat_eq s' s) refl
  where
    by : (b : Bool) → (nat_eq n' n && nat_eq s' s) ≡ b → cond b (after r c' a') r ≡ r
    by true e = let parts = and_parts (nat_eq n' n) (nat_eq s' s) e in absurd (apart (eqb-true n' n parts.0, eqb-true s' s parts.1))
    by false e = refl
other_step n s r c a _ apart = refl

other_place : (was : Option Placement) (p : Placement) (done : List (ℕ × ℕ)) (x : Event) → (IsAkin (event.Place p done) x → ⊥) → place_after was x ≡ was
other_place was p done (event.Place p' done') apart = absurd (apart tt)
other_place was p done _ apart = refl

other_clock : (was : Option Rules) (rules : Rules) (x : Event) → (IsAkin (event.Clock rules) x → ⊥) → clock_after was x ≡ was
other_clock was rules (event.Clock rules') apart = absurd (apart tt)
other_clock was rules _ apart = refl

-- ---- what stands earlier stands still

pub any_more : {X : Type 0} (P : X → Type 0) (xs ys : List X) → Any P xs → Any P (xs ++ ys)
any_more P xs ys h = let a = any_at P xs h in at_any P (xs ++ ys) a.0 a.1 (at_append xs ys a.0 a.1 a.2) a.3

pub any_drop_more : {X : Type 0} (P : X → Type 0) (k : ℕ) (xs ys : List X) → Any P (drop k xs) → Any P (drop k (xs ++ ys))
any_drop_more P zero xs ys h = any_more P xs ys h
any_drop_more P (suc k) [] ys h = absurd (omega (arith, h.2))
any_drop_more P (suc k) (x ∷ xs) ys h = any_drop_more P k xs ys h

pub after_more : {X : Type 0} (Kind : X → Type 0) (Wanted Then : List X → Type 0) (xs ys : List X) → ((zs : List X) → Wanted zs → Then (zs ++ ys)) → AfterSome Kind Wanted xs → AfterSome Kind Then (xs ++ ys)
after_more Kind Wanted Then [] ys goes h = absurd h
after_more Kind Wanted Then (x ∷ xs) ys goes h =
    elim h as (λ _. (Kind x × Then (xs ++ ys)) ⊎ AfterSome Kind Then (xs ++ ys)) [ inl here ↦ inl (here.0, goes xs here.1) | inr later ↦ inr (after_more Kind Wanted Then xs ys goes later) ]

pages_more : (n s : ℕ) (pages : List PageAsked) (events more : List Event) → GavePages n s pages events → GavePages n s pages (events ++ more)
pages_more n s [] events more h = tt
pages_more n s (p ∷ pages) events more h = after_more (GaveAsked n s p) (GavePages n s pages) (GavePages n s pages) events more (λ rest k. pages_more n s pages rest more k) h

cover_more : (s q y : ℕ) (since later more : List Event) → HasCover s q y since later → HasCover s q y (since ++ more) (later ++ more)
cover_more s q y since later more h = record {
  pages = h.pages;
  cover = h.cover;
  given = pages_more q s h.pages later more h.given;
  merged = λ p m. any_more (MergedPage y s p.1) since more (h.merged p m);
}

streamed_more : (s y tenure q : ℕ) (past more : List Event) → HasStreamed s y tenure q past → HasStreamed s y tenure q (past ++ more)
streamed_more s y tenure q past more h =
    after_more (BeganWith y s tenure) (λ since. AfterSome (FencedAt q s tenure) (HasCover s q y since) since) (λ since. AfterSome (FencedAt q s tenure) (HasCover s q y since) since) past more
    (λ since k. after_more (FencedAt q s tenure) (HasCover s q y since) (HasCover s q y (since ++ more)) since more (λ later c. cover_more s q y since later more c) k) h

joined_more : (past more : List Event) (rf : ℕ) (shard : Shard) (s y tenure : ℕ) → HasJoined past rf shard s y tenure → HasJoined (past ++ more) rf shard s y tenure
joined_more past more rf shard s y tenure h = record { peers = h.peers; enough = h.enough; streamed = λ q m. streamed_more s y tenure q past more (h.streamed q m) }

each_more : (k : ℕ) (past more : List Event) (fetch : Event) (nodes : List ℕ) (answers : List (List Series)) → EachAnswered (drop k past) fetch nodes answers → EachAnswered (drop k (past ++ more)) fetch nodes answers
each_more k past more fetch [] [] h = h
each_more k past more fetch [] (answer ∷ answers) h = h
each_more k past more fetch (n ∷ nodes) [] h = h
each_more k past more fetch (n ∷ nodes) (answer ∷ answers) h = (any_drop_more (GaveAnswer n fetch answer) k past more h.0, each_more k past more fetch nodes answers h.1)

module _ (past more : List Event) where
  clock_more : (rules : Rules) → HasClock past rules → HasClock (past ++ more) rules
  clock_more rules h = any_more (IsClock rules) past more h

  acks_more : (nodes : List ℕ) (e : Event) → AcksSend past nodes e → AcksSend (past ++ more) nodes e
  acks_more nodes (event.Send version s point) h =
      (h.0, any_more (CountsNodes version s nodes) past more h.1, All-from_each (λ n. HasPut (past ++ more) n s version point) nodes (λ n m. any_more (TookPoint n s version point) past more (each-from_All (λ n. HasPut past n s version point) nodes h.2 n m)))
  acks_more nodes _ h = absurd h

  ends_more : (start : ℕ) (nodes : List ℕ) (series : List Series) (e : Event) → EndsFetch past (drop (suc start) past) nodes series e → EndsFetch (past ++ more) (drop (suc start) (past ++ more)) nodes series e
  ends_more start nodes series (event.FetchStart version s rules pick from to) h = (
    h.0,
    any_more (CountsNodes version s nodes) past more h.1,
    record { answers = (h.2).answers; answered = each_more (suc start) past more (event.FetchStart version s rules pick from to) nodes (h.2).answers (h.2).answered; joined = (h.2).joined },
  )
  ends_more start nodes series _ h = absurd h

  -- an Ask stays unanswered where nobody answers it
  asked_more : (e : Event) → ((x : Event) → IsIn more x → IsLike e x → ⊥) → WasAsked past e → WasAsked (past ++ more) e
  asked_more e none h = record {
    asks = h.asks;
    answered = h.answered;
    distinct = h.distinct;
    are_asks = λ i m. let a = h.are_asks i m in (a.0, at_append past more i a.0 a.1, a.2);
    are_all = λ i x low there like. elim (append_at past more i x there) as (λ _. IsIn h.answered i) [ inl was ↦ h.are_all i x low was like | inr new ↦ absurd (none x new like) ];
    more = h.more;
  }

  ticks_more : (c : StepCall) → TicksByClock past c → TicksByClock (past ++ more) c
  ticks_more (call.Tick rules) h = clock_more rules h
  ticks_more _ h = h

  there_more : (s : ℕ) (c : StepCall) → TakesWhatIsThere past s c → TakesWhatIsThere (past ++ more) s c
  there_more s (call.Put client number rules version point) h = any_more (IsSend version s point) past more h
  there_more s (call.Merge page) h = any_more (GavePage s page) past more h
  there_more s _ h = h

  refuse_more : (tells : Bool) (s : ℕ) (r : ReplicaState) (c : StepCall) (why : Reason) → ReplicaMayRefuse tells past s r c why → ReplicaMayRefuse tells (past ++ more) s r c why
  refuse_more tells s r c reason.Memory h = h
  refuse_more tells s r c reason.Cut h = h
  refuse_more tells s r c reason.NotOwned h = h
  refuse_more tells s r c reason.Disk h = record { uses = h.uses; taken = h.taken; clock = ticks_more c h.clock; there = there_more s c h.there }
  refuse_more tells s r c (reason.Corrupt damage) h = record { reads = h.reads; taken = h.taken; clock = ticks_more c h.clock }
  refuse_more tells s r c why h = h

  -- the rows of the steps, at the same replica
  step_more : (tells : Bool) (n s : ℕ) (r : ReplicaState) (c : StepCall) (a : StepReply) → LawfulStep tells past n s r c a → LawfulStep tells (past ++ more) n s r c a
  step_more tells n s r (call.Begin tenure) (reply.Began fence points) h = record { not_down = h.not_down; fence_high = h.fence_high; given = any_more (GivesTenure n s tenure) past more h.given; none_higher = h.none_higher; began = h.began }
  step_more tells n s r (call.Put client number rules version point) reply.Done h = record { serving = h.serving; in_window = h.in_window; sent = any_more (IsSend version s point) past more h.sent; clock = clock_more rules h.clock }
  step_more tells n s r (call.Read client number rules version pick from to) (reply.Found series) h = (h.0, clock_more rules h.1, h.2)
  step_more tells n s r (call.Fence version) reply.Done h = h
  step_more tells n s r (call.Page from) (reply.Paged page) h = h
  step_more tells n s r (call.Block ns start size from) (reply.Paged page) h = h
  step_more tells n s r (call.Merge page) (reply.Count count) h = (h.0, any_more (GavePage s page) past more h.1)
  step_more tells n s r (call.Tick rules) (reply.Count count) h = (h.0, clock_more rules h.1)
  step_more tells n s r (call.Flush rules) (reply.Count count) h = (h.0, clock_more rules h.1)
  step_more tells n s r call.Snapshot (reply.Count count) h = h
  step_more tells n s r (call.Digests rules) (reply.Sums digests) h = (h.0, clock_more rules h.1, h.2)
  step_more tells n s r call.Report (reply.Told report) h = h
  step_more tells n s r call.End reply.Done h = h
  step_more tells n s r call.Stop reply.Done h = h
  step_more tells n s r call.Restart reply.Done h = h
  step_more tells n s r c (reply.Refused why) h = refuse_more tells s r c why h
  step_more tells n s r _ _ h = h

  -- who makes an event makes those like it
  like_akin : (e x : Event) → IsLike e x → IsAkin e x
  like_akin (event.Step n s c a) (event.Step n' s' c' a') h = (h.0, h.1)
  like_akin (event.Place placement done) (event.Place placement' done') h = tt
  like_akin (event.Clock rules) (event.Clock rules') h = tt
  like_akin _ _ h = absurd h

  step_asked_more : (n s : ℕ) (c : StepCall) (a : StepReply) → ((x : Event) → IsIn more x → IsLike (event.Step n s c a) x → ⊥) → StepWasAsked past (event.Step n s c a) → StepWasAsked (past ++ more) (event.Step n s c a)
  step_asked_more n s call.Report a none h = h
  step_asked_more n s c a none h = asked_more (event.Step n s c a) none h

  -- row by row
  pub lawful_more : (tells : Bool) (e : Event) → ((x : Event) → IsIn more x → IsAkin e x → ⊥) → Lawful tells past e → Lawful tells (past ++ more) e
  lawful_more tells (event.Ask a) apart h = h
  lawful_more tells (event.Clock rules) apart h =
      let same : last_clock (past ++ more) ≡ last_clock past = fold-append clock_after None past more ∙ fold_same clock_after (last_clock past) more (λ was x m. other_clock was rules x (apart x m)) in (
        asked_more (event.Clock rules) (λ x m k. apart x m (like_akin (event.Clock rules) x k)) h.0,
        record { last = (h.1).last; last_is = same ∙ (h.1).last_is; not_lower = (h.1).not_lower; grows = (h.1).grows },
      )
  lawful_more tells (event.Place p done) apart h =
      let same : last_place (past ++ more) ≡ last_place past = fold-append place_after None past more ∙ fold_same place_after (last_place past) more (λ was x m. other_place was p done x (apart x m)) in (
        asked_more (event.Place p done) (λ x m k. apart x m (like_akin (event.Place p done) x k)) h.0,
        record {
          last = (h.1).last;
          last_is = same ∙ (h.1).last_is;
          step = (h.1).step;
          joined = All-from_each (λ d. JoinedAt (past ++ more) (h.1).last d.0 d.1) done
              (λ d m shard at. All-from_each (JoinedThere (past ++ more) ((h.1).last).rf shard d.0 d.1) shard
              (λ a there node is. joined_more past more ((h.1).last).rf shard d.0 d.1 a.tenure (each-from_All (JoinedThere past ((h.1).last).rf shard d.0 d.1) shard (each-from_All (λ d. JoinedAt past (h.1).last d.0 d.1) done (h.1).joined d m shard at) a there node is)));
        },
      )
  lawful_more tells (event.Send version s point) apart h = any_more (PlacesShard version s) past more h
  lawful_more tells (event.Ack send nodes) apart h = (h.0, at_append past more send h.0 h.1, acks_more nodes h.0 h.2)
  lawful_more tells (event.FetchStart version s rules pick from to) apart h = (any_more (PlacesShard version s) past more h.0, clock_more rules h.1)
  lawful_more tells (event.FetchDone start nodes series) apart h = (h.0, at_append past more start h.0 h.1, ends_more start nodes series h.0 h.2)
  lawful_more tells (event.Step n s c a) apart h =
      let same : replica n s (past ++ more) ≡ replica n s past = fold-append (step_of n s) fresh past more ∙ fold_same (step_of n s) (replica n s past) more (λ r x m. other_step n s r c a x (apart x m)) in
      (step_asked_more n s c a (λ x m k. apart x m (like_akin (event.Step n s c a) x k)) h.0, subst (λ r. LawfulStep tells (past ++ more) n s r c a) (sym same) (step_more tells n s (replica n s past) c a h.1))

-- ---- lists of events with their makers

pub at_push : {X : Type 0} (xs : List X) (y : X) (i : ℕ) (x : X) → At (xs ++ y ∷ []) i x → At xs i x ⊎ ((i ≡ length xs) × (y ≡ x))
at_push [] y zero x e = inr (refl, same_Some y x e)
at_push [] y (suc i) x e = cc
at_push (z ∷ xs) y zero x e = inl e
at_push (z ∷ xs) y (suc i) x e = elim (at_push xs y i x e) as (λ _. At xs i x ⊎ ((suc i ≡ suc (length xs)) × (y ≡ x))) [ inl h ↦ inl h | inr h ↦ inr (ap suc h.0, h.1) ]

pub at_last : {X : Type 0} (xs : List X) (y : X) → At (xs ++ y ∷ []) (length xs) y
at_last [] y = refl
at_last (z ∷ xs) y = at_last xs y

pub legal_push : (tells : Bool) (xs : List Event) (e : Event) → Legal tells xs → LawfulAt tells (length xs) xs e → Legal tells (xs ++ e ∷ [])
legal_push tells xs e legal law i x there =
    elim (at_push xs e i x there) as (λ _. LawfulAt tells i (take i (xs ++ e ∷ [])) x) [
      | inl was ↦ subst (λ past. LawfulAt tells i past x) (sym (take-append-le i xs (e ∷ []) (omega (arith, at_within xs i x was)))) (legal i x was)
      | inr last ↦
          let whole : take i (xs ++ e ∷ []) ≡ xs = take_at xs (e ∷ []) i (sym last.0) in
          subst (λ past. LawfulAt tells i past x) (sym whole) (subst (λ y. LawfulAt tells i xs y) last.1 (subst (λ k. LawfulAt tells k xs e) (sym last.0) law))
    ]

pub legal_last : (tells : Bool) (xs : List Event) (e : Event) → Legal tells (xs ++ e ∷ []) → LawfulAt tells (length xs) xs e
legal_last tells xs e legal = subst (λ past. LawfulAt tells (length xs) past e) (take_at xs (e ∷ []) (length xs) refl) (legal (length xs) e (at_last xs e))

first_akin : (tells : Bool) (past : List Event) (e x : Event) → LawfulAt tells 0 past e → LawfulAt tells 0 past x → IsAkin e x
first_akin tells past (event.Place p done) (event.Place p' done') h k = tt
first_akin tells past (event.Place p done) _ h k = absurd k
first_akin tells past _ x h k = absurd h

second_akin : (tells : Bool) (past past' : List Event) (e x : Event) → LawfulAt tells 1 past e → LawfulAt tells 1 past' x → IsAkin e x
second_akin tells past past' (event.Clock rules) (event.Clock rules') h k = tt
second_akin tells past past' (event.Clock rules) _ h k = absurd k
second_akin tells past past' _ x h k = absurd h

law_more : (tells : Bool) (past more : List Event) (e : Event) → ((x : Event) → IsIn more x → IsAkin e x → ⊥) → Legal tells (past ++ more) → LawfulAt tells (length past) past e → LawfulAt tells (length (past ++ more)) (past ++ more) e
law_more tells [] [] e apart legal h = h
law_more tells [] (x ∷ more) e apart legal h = absurd (apart x (inl refl) (first_akin tells [] e x h (legal 0 x refl)))
law_more tells (p ∷ []) [] e apart legal h = h
law_more tells (p ∷ []) (x ∷ more) e apart legal h = absurd (apart x (inl refl) (second_akin tells (p ∷ []) (p ∷ []) e x h (legal 1 x refl)))
law_more tells (p ∷ q ∷ past) more e apart legal h = lawful_more (p ∷ q ∷ past) more tells e apart h

akin_by : (e x : Event) (by by' : List ℕ) → IsMaker e by → IsMaker x by' → IsAkin e x → by' ≡ by
akin_by (event.Step n s c a) (event.Step n' s' c' a') by by' h k akin = k ∙ (λ i. replica_seat (akin.0 i) (akin.1 i) ∷ []) ∙ sym h
akin_by (event.Place p done) (event.Place p' done') by by' h k akin = k ∙ sym h
akin_by (event.Clock rules) (event.Clock rules') by by' h k akin = k ∙ sym h
akin_by _ _ by by' h k akin = absurd akin

pub entries_append : (xs ys : List (Made Event)) → entries (xs ++ ys) ≡ entries xs ++ entries ys
entries_append [] ys = refl
entries_append (x ∷ xs) ys = ap (λ es. x.entry ∷ es) (entries_append xs ys)

entries_in : (xs : List (Made Event)) (e : Event) → IsIn (entries xs) e → (x : Made Event) × IsIn xs x × (x.entry ≡ e)
entries_in [] e h = absurd h
entries_in (x ∷ xs) e h = elim h as (λ _. (y : Made Event) × ((x ≡ y) ⊎ IsIn xs y) × (y.entry ≡ e)) [ inl s ↦ (x, inl refl, s) | inr r ↦ let l = entries_in xs e r in (l.0, inr l.1, l.2) ]

-- lawful after one list, lawful after each longer one with the same events of its maker
pub extended : (tells : Bool) (log more : List (Made Event)) (m : Made Event) → IsLawfulLog tells (log ++ m ∷ []) → IsLawfulLog tells (log ++ more) → ((x : Made Event) → IsIn more x → x.by ≡ m.by → ⊥) → IsLawfulLog tells ((log ++ more) ++ m ∷ [])
extended tells log more m a b apart =
    let law : LawfulAt tells (length (entries log)) (entries log) m.entry = legal_last tells (entries log) m.entry (subst (Legal tells) (entries_append log (m ∷ [])) a.legal) in
    let mine : IsMaker m.entry m.by = a.makers (length log) m (at_last log m) in
    let legal : Legal tells (entries log ++ entries more) = subst (Legal tells) (entries_append log more) b.legal in
    let others : (x : Event) → IsIn (entries more) x → IsAkin m.entry x → ⊥ =
    λ x h akin.
    let from = entries_in more x h in
    let position = in_at (log ++ more) from.0 (IsIn-append_right log more from.0 from.1) in
    apart from.0 from.1 (akin_by m.entry (from.0).entry m.by (from.0).by mine (b.makers position.0 from.0 position.1) (subst (IsAkin m.entry) (sym from.2) akin)) in
    let next : Legal tells ((entries log ++ entries more) ++ m.entry ∷ []) = legal_push tells (entries log ++ entries more) m.entry legal (law_more tells (entries log) (entries more) m.entry others legal law) in
    record {
      legal = subst (Legal tells) (sym (entries_append (log ++ more) (m ∷ []) ∙ ap (λ es. es ++ m.entry ∷ []) (entries_append log more))) next;
      makers = λ i x there. elim (at_push (log ++ more) m i x there) as (λ _. IsMaker x.entry x.by) [ inl was ↦ b.makers i x was | inr last ↦ subst (λ y. IsMaker y.entry y.by) last.1 mine ];
    }
