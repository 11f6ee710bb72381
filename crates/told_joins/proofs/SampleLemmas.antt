-- The sample of a bootstrap that ends a move, and the broken ones.
use Rattle.std.proofs.Common.{◌≡◌, ◌≤◌, ◌<◌, ◌∙◌, ℕ, zero, suc, List, [], ◌∷◌, ◌++◌, length, take, drop, Some, None, refl, sym, ap, subst, inl, inr, arith}
use Rattle.std.specs.Prelude.{◌⊎◌, IsTrue, slice_get}
use Rattle.m3_model.specs.Members.{IsIn}
use Rattle.m3_model.specs.declared.placement.Placement.{Placement}
use Rattle.m3_model.proofs.MemberLemmas.{IsIn-append_cases}
use Rattle.placement_core.specs.Shards.{Shard, nodes_of, shard_at}
use Rattle.placement_plan.specs.Plans.{EndsAsNamed, IsAvailable}
use Rattle.cluster_core.specs.Joins.{BeganWith, FencedAt, GaveAsked, GavePages, HasCover, HasFenced, HasStreamed}
use Rattle.cluster_core.specs.Answers.{IsCover, PageAsked}
use Rattle.cluster_core.specs.Lists.{AfterSome, At}
use Rattle.cluster_core.specs.declared.event.Asked.TheVariants as asked
use Rattle.cluster_core.specs.declared.event.Event.{Event}
use Rattle.cluster_core.specs.declared.event.Event.TheVariants as event
use Rattle.cluster_core.specs.declared.event.StepReply.TheVariants as reply
use Rattle.transcripts.specs.Waiting.{is_covering}
use Rattle.peer_streams.specs.Joins.{AreAsked, AskedPeer, HasAnswered, HasJoinedBy, IsOpened, Opened, streamed_of}
use Rattle.told_by.specs.Broken.{joined_by, moved, moving}
use Rattle.told_by.proofs.SampleLemmas.{each_at}
use Rattle.told_runs.proofs.BesideLegalLemmas.{ends_move, lawful_moved, lawful_moving, one, under_way}
use Rattle.told_joins.specs.Laws.{IsWholeJoin}
use Rattle.told_joins.specs.Lines.{AddsJoins, AreOpened, added_by, joined_of, marks}
use Rattle.told_joins.specs.Sample.{EndedEarly, EndsNothing, FencedLate, IsNoJoin, JoinIsAdded, NoPeerIsTooFew, Unfenced, Unstreamed, begun, ended, fenced, gave, page, placed, taken_over, took}
use Rattle.told_joins.proofs.AskLemmas.{all_happen}
use Rattle.told_joins.proofs.WholeLemmas.{joins_whole}

-- ---- it can be met

available : IsAvailable moving ((0, 1) ∷ []) moved
available = record { follows = record { version = refl; version_fits = omega arith; rf = refl; shards = record { count = refl; each = each_shard } }; instances = refl }
  where
    each_shard : (k : ℕ) (a b : Shard) → slice_get moving.shards k ≡ Some a → slice_get moved.shards k ≡ Some b → EndsAsNamed ((0, 1) ∷ []) k a b
    each_shard zero a b old next = ends_move.each 0 a b old next
    each_shard (suc k) a b old next = cc

abbrev leaving_peer : AskedPeer
leaving_peer = record { node = 0; why = None; added = fenced ++ (gave ++ took) }

asked_leaving : AreAsked moving 0 under_way 1 2 (leaving_peer ∷ []) []
asked_leaving = record {
  by_name = (λ n none. absurd none, tt);
  are_former = λ q. (λ m. m, λ m. m);
  each = one (λ (x : AskedPeer). HasAnswered 0 1 2 x) leaving_peer (record { pages = record { from = None; page = page; count = 0 } ∷ []; cover = (refl, refl); are = refl });
  no_more = fewer;
}
  where
    fewer : (before after : List AskedPeer) (p : AskedPeer) → leaving_peer ∷ [] ≡ before ++ p ∷ after → length (streamed_of before) < 1
    fewer [] after p e = omega arith
    fewer (x ∷ []) after p e = cc
    fewer (x ∷ y ∷ before) after p e = cc

was_joined : HasJoinedBy moving 0 1 (record { source = 0; peers = 0 ∷ [] }) taken_over.added
was_joined = record {
  joining = joined_by;
  given = record { shard = under_way; there = refl; among = inr (inl refl); to_node = refl };
  joins = (refl, refl);
  fence = 2;
  points = [];
  peers = leaving_peer ∷ [];
  left = [];
  asked = asked_leaving;
  enough = omega arith;
  names = refl;
  are = refl;
}

all_opened : AreOpened moving 1 None (taken_over ∷ []) []
all_opened = record {
  by_number = (λ n none. absurd none, tt);
  are = λ s. (there s, back s);
  each = one (λ (x : Opened). IsOpened moving 1 x) taken_over was_joined;
}
  where
    no_shard : (s : ℕ) → shard_at moving (suc s) ≡ []
    no_shard zero = refl
    no_shard (suc s) = refl

    there : (s : ℕ) → (0 ≡ s) ⊎ ⊥ → IsTrue (is_covering s None) × IsIn (nodes_of (shard_at moving s)) 1
    there s (inl is) = subst (λ k. IsTrue (is_covering k None) × IsIn (nodes_of (shard_at moving k)) 1) is (refl, inr (inl refl))
    there s (inr none) = absurd none

    back : (s : ℕ) → IsTrue (is_covering s None) × IsIn (nodes_of (shard_at moving s)) 1 → (0 ≡ s) ⊎ ⊥
    back zero h = inl refl
    back (suc s) h = absurd (subst (λ xs. IsIn (nodes_of xs) 1) (no_shard s) h.1)

pub join_added : JoinIsAdded
join_added = record { all = all_opened; leaves = (available, lawful_moved); adds = refl }

-- ---- broken ones

-- what such a line says of the shard, where it has a Place
record SaysOf (next : Placement) (more : List Event) : Type 0 where
  x : ℕ × List ℕ
  whole : IsWholeJoin moving 1 next more x

says_of : (opened : List Opened) (next : Placement) (more : List Event) → AddsJoins moving 1 None opened next more → (p : Placement) (done : List (ℕ × ℕ)) → IsIn more (event.Place p done) → SaysOf next more
says_of opened next more adds p done m = by (joined_of opened) refl
  where
    by : (xs : List (ℕ × List ℕ)) → joined_of opened ≡ xs → SaysOf next more
    by [] none =
        let shape = adds.adds ∙ ap (λ xs. added_by opened ++ marks 1 opened xs next) none in
        absurd (elim (IsIn-append_cases (added_by opened) [] (event.Place p done) (subst (λ xs. IsIn xs (event.Place p done)) shape m)) as (λ _. ⊥) [ inl here ↦ all_happen moving 1 None opened [] adds.all (event.Place p done) here | inr nothing ↦ nothing ])
    by (x ∷ rest) is = record { x = x; whole = joins_whole moving lawful_moving 1 None opened next more adds x (subst (λ xs. IsIn xs x) (sym is) (inl refl)) }

-- its shard is the one that there is
shard_zero : (next : Placement) (more : List Event) (h : SaysOf next more) → (h.x).0 ≡ 0
shard_zero next more h = by (h.x).0 (h.whole).shard (h.whole).there
  where
    by : (s : ℕ) (shard : Shard) → At moving.shards s shard → s ≡ 0
    by zero shard at = refl
    by (suc s) shard at = cc

-- it names a peer
some_name : (names : List ℕ) → 1 ≤ length names → (q : ℕ) × IsIn names q
some_name [] h = absurd (omega arith)
some_name (q ∷ names) h = (q, inl refl)

-- no line is such a one where its only Place stands at a position up to which nobody was streamed
never_joined : (more : List Event) (k : ℕ) → ((j : ℕ) (p : Placement) (done : List (ℕ × ℕ)) → At more j (event.Place p done) → j ≡ k) → ((q tenure : ℕ) → HasStreamed 0 1 tenure q (take k more) → ⊥)
    → (p : Placement) (done : List (ℕ × ℕ)) → IsIn more (event.Place p done) → IsNoJoin more
never_joined more k at none p done m opened next adds =
    let h = says_of opened next more adds p done m in
    let w = h.whole in
    let q = some_name (h.x).1 (omega (arith, (w.enough).enough)) in
    none q.0 (w.joining).tenure (subst (λ n. HasStreamed 0 1 (w.joining).tenure q.0 (take n more)) (at w.place_at next w.done w.placed) (subst (λ s. HasStreamed s 1 (w.joining).tenure q.0 (take w.place_at more)) (shard_zero next more h) (w.streamed q.0 q.1)))

-- a fact of each element
abbrev EachOf : {X : Type 0} → (X → Type 0) → List X → Type 0
EachOf P [] = Unit {0}
EachOf P (x ∷ xs) = P x × EachOf P xs

never_after : {X : Type 0} (Kind : X → Type 0) (Wanted : List X → Type 0) (xs : List X) → EachOf (λ x. Kind x → ⊥) xs → AfterSome Kind Wanted xs → ⊥
never_after Kind Wanted [] none h = h
never_after Kind Wanted (x ∷ xs) none (inl here) = none.0 here.0
never_after Kind Wanted (x ∷ xs) none (inr later) = never_after Kind Wanted xs none.1 later

-- behind the one begin
began_once : (q tenure : ℕ) (rest : List Event) → EachOf (λ e. BeganWith 1 0 tenure e → ⊥) rest → HasStreamed 0 1 tenure q (begun ++ rest) → HasFenced 0 q 1 tenure rest
began_once q tenure rest none (inl h) = absurd h.0
began_once q tenure rest none (inr (inl h)) = h.1
began_once q tenure rest none (inr (inr later)) = absurd (never_after (BeganWith 1 0 tenure) (HasFenced 0 q 1 tenure) rest none later)

-- no page is given in the later events
no_cover : (q : ℕ) (since later : List Event) → ((p : PageAsked) → EachOf (λ e. GaveAsked q 0 p e → ⊥) later) → HasCover 0 q 1 since later → ⊥
no_cover q since later none h = by h.pages h.cover h.given
  where
    by : (pages : List PageAsked) → IsCover pages → GavePages q 0 pages later → ⊥
    by [] cover given = cover
    by (p ∷ pages) cover given = never_after (GaveAsked q 0 p) (GavePages q 0 pages) later (none p) given

module _ (q tenure : ℕ) where
  no : ⊥ → ⊥
  no h = h

  unfenced_none : HasStreamed 0 1 tenure q (take 7 ((begun ++ (gave ++ took)) ++ (placed ++ ended))) → ⊥
  unfenced_none h =
      never_after (FencedAt q 0 tenure) (HasCover 0 q 1 (drop 2 (take 7 ((begun ++ (gave ++ took)) ++ (placed ++ ended))))) (drop 2 (take 7 ((begun ++ (gave ++ took)) ++ (placed ++ ended)))) (no, (no, (no, (no, (no, tt)))))
      (began_once q tenure (drop 2 (take 7 ((begun ++ (gave ++ took)) ++ (placed ++ ended)))) (no, (no, (no, (no, (no, tt))))) h)

  fenced_late_none : HasStreamed 0 1 tenure q (take 9 ((begun ++ (gave ++ (fenced ++ took))) ++ (placed ++ ended))) → ⊥
  fenced_late_none h = by (began_once q tenure (drop 2 (take 9 ((begun ++ (gave ++ (fenced ++ took))) ++ (placed ++ ended)))) (no, (no, (no, (no, (no, (no, (no, tt))))))) h)
    where
      by : HasFenced 0 q 1 tenure (drop 2 (take 9 ((begun ++ (gave ++ (fenced ++ took))) ++ (placed ++ ended)))) → ⊥
      by (inl h) = h.0
      by (inr (inl h)) = h.0
      by (inr (inr (inl h))) = h.0
      by (inr (inr (inr (inl h)))) = no_cover q (drop 2 (take 9 ((begun ++ (gave ++ (fenced ++ took))) ++ (placed ++ ended)))) (drop 6 (take 9 ((begun ++ (gave ++ (fenced ++ took))) ++ (placed ++ ended)))) (λ p. (no, (no, (no, tt)))) h.1
      by (inr (inr (inr (inr later)))) = never_after (FencedAt q 0 tenure) (HasCover 0 q 1 (drop 2 (take 9 ((begun ++ (gave ++ (fenced ++ took))) ++ (placed ++ ended))))) (drop 6 (take 9 ((begun ++ (gave ++ (fenced ++ took))) ++ (placed ++ ended)))) (no, (no, (no, tt))) later

  unstreamed_none : HasStreamed 0 1 tenure q (take 5 ((begun ++ fenced) ++ (placed ++ ended))) → ⊥
  unstreamed_none h = by (began_once q tenure (drop 2 (take 5 ((begun ++ fenced) ++ (placed ++ ended)))) (no, (no, (no, tt))) h)
    where
      by : HasFenced 0 q 1 tenure (drop 2 (take 5 ((begun ++ fenced) ++ (placed ++ ended)))) → ⊥
      by (inl h) = h.0
      by (inr (inl h)) = no_cover q (drop 2 (take 5 ((begun ++ fenced) ++ (placed ++ ended)))) (drop 4 (take 5 ((begun ++ fenced) ++ (placed ++ ended)))) (λ p. (no, tt)) h.1
      by (inr (inr (inl h))) = h.0
      by (inr (inr (inr h))) = h

pub unfenced : Unfenced
unfenced = never_joined ((begun ++ (gave ++ took)) ++ (placed ++ ended)) 7
    (λ j p done at. omega (arith, each_at (λ i x. x ≡ event.Place p done → i ≡ 7) 0 ((begun ++ (gave ++ took)) ++ (placed ++ ended)) ((λ e. absurd (cc)), ((λ e. absurd (cc)), ((λ e. absurd (cc)), ((λ e. absurd (cc)), ((λ e. absurd (cc)), ((λ e. absurd (cc)), ((λ e. absurd (cc)), ((λ e. refl), ((λ e. absurd (cc)), ((λ e. absurd (cc)), tt)))))))))) j (event.Place p done) at refl))
    unfenced_none moved ((0, 1) ∷ []) (inr (inr (inr (inr (inr (inr (inr (inl refl))))))))

pub fenced_late : FencedLate
fenced_late = never_joined ((begun ++ (gave ++ (fenced ++ took))) ++ (placed ++ ended)) 9
    (λ j p done at. omega (arith, each_at (λ i x. x ≡ event.Place p done → i ≡ 9) 0 ((begun ++ (gave ++ (fenced ++ took))) ++ (placed ++ ended)) ((λ e. absurd (cc)), ((λ e. absurd (cc)), ((λ e. absurd (cc)), ((λ e. absurd (cc)), ((λ e. absurd (cc)), ((λ e. absurd (cc)), ((λ e. absurd (cc)), ((λ e. absurd (cc)), ((λ e. absurd (cc)), ((λ e. refl), ((λ e. absurd (cc)), ((λ e. absurd (cc)), tt)))))))))))) j (event.Place p done) at refl))
    fenced_late_none moved ((0, 1) ∷ []) (inr (inr (inr (inr (inr (inr (inr (inr (inr (inl refl))))))))))

pub unstreamed : Unstreamed
unstreamed = never_joined ((begun ++ fenced) ++ (placed ++ ended)) 5
    (λ j p done at. omega (arith, each_at (λ i x. x ≡ event.Place p done → i ≡ 5) 0 ((begun ++ fenced) ++ (placed ++ ended)) ((λ e. absurd (cc)), ((λ e. absurd (cc)), ((λ e. absurd (cc)), ((λ e. absurd (cc)), ((λ e. absurd (cc)), ((λ e. refl), ((λ e. absurd (cc)), ((λ e. absurd (cc)), tt)))))))) j (event.Place p done) at refl))
    unstreamed_none moved ((0, 1) ∷ []) (inr (inr (inr (inr (inr (inl refl))))))

pub ended_early : EndedEarly
ended_early opened next adds =
    let more : List Event = ((begun ++ (fenced ++ (gave ++ took))) ++ ended) ++ placed in
    let h = says_of opened next more adds moved ((0, 1) ∷ []) (inr (inr (inr (inr (inr (inr (inr (inr (inr (inr (inr (inl refl)))))))))))) in
    let w = h.whole in
    let at : w.place_at ≡ 11 = omega (arith, each_at (λ i x. x ≡ event.Place next w.done → i ≡ 11) 0 (((begun ++ (fenced ++ (gave ++ took))) ++ ended) ++ placed) ((λ e. absurd (cc)), ((λ e. absurd (cc)), ((λ e. absurd (cc)), ((λ e. absurd (cc)), ((λ e. absurd (cc)), ((λ e. absurd (cc)), ((λ e. absurd (cc)), ((λ e. absurd (cc)), ((λ e. absurd (cc)), ((λ e. absurd (cc)), ((λ e. absurd (cc)), ((λ e. refl), tt)))))))))))) w.place_at (event.Place next w.done) w.placed refl) in
    let behind : w.place_at < 9 = w.ends_behind 9 0 0 reply.Done refl in
    omega (arith, at, behind)

pub ends_nothing : EndsNothing
ends_nothing opened next adds =
    let more : List Event = (begun ++ (fenced ++ (gave ++ took))) ++ (event.Ask (asked.Place moved []) ∷ event.Place moved [] ∷ ended) in
    let h = says_of opened next more adds moved [] (inr (inr (inr (inr (inr (inr (inr (inr (inr (inl refl)))))))))) in
    let w = h.whole in
    let none : w.done ≡ [] = each_at (λ i x. x ≡ event.Place next w.done → w.done ≡ []) 0 ((begun ++ (fenced ++ (gave ++ took))) ++ (event.Ask (asked.Place moved []) ∷ event.Place moved [] ∷ ended)) ((λ e. absurd (cc)), ((λ e. absurd (cc)), ((λ e. absurd (cc)), ((λ e. absurd (cc)), ((λ e. absurd (cc)), ((λ e. absurd (cc)), ((λ e. absurd (cc)), ((λ e. absurd (cc)), ((λ e. absurd (cc)), ((λ e. cc), ((λ e. absurd (cc)), ((λ e. absurd (cc)), tt)))))))))))) w.place_at (event.Place next w.done) w.placed refl in
    subst (λ ds. IsIn ds ((h.x).0, 1)) none w.ended

pub no_peer : NoPeerIsTooFew
no_peer opened next more adds s m = let w = joins_whole moving lawful_moving 1 None opened next more adds (s, []) m in omega (arith, (w.enough).enough)
