-- The nodes of a shard are asked, one after the other, and their answers joined.
use Rattle.std.proofs.Common.{◌≡◌, ℕ, ◌+◌, ◌<◌, List, [], ◌∷◌, ◌++◌, length, take, get_or, refl, sym, ap, ◌∙◌, subst, inl, inr, arith, length-append}
use Rattle.std.specs.Prelude.{◌⊎◌, Some, Result, Ok, Err, OnErr, IsErrOf}
use Rattle.std.specs.List.{filter_map}
use Rattle.std.specs.Result.{result_ok}
use Rattle.std.proofs.lemmas.List.{take_more}
use Rattle.m3_model.specs.Answers.{HasPoint}
use Rattle.m3_model.specs.Contents.{Holds, content_of}
use Rattle.m3_model.specs.Members.{IsIn}
use Rattle.m3_model.specs.Reads.{IsOrdered, points_in}
use Rattle.m3_model.specs.declared.act.Fate.{Fate}
use Rattle.m3_model.specs.declared.point.Point.{Point}
use Rattle.m3_model.specs.declared.point.Series.{Series}
use Rattle.m3_model.specs.declared.reason.Damage.{Damage}
use Rattle.m3_model.specs.declared.reason.Reason.{Reason}
use Rattle.m3_model.specs.declared.reason.Reason.TheVariants as reason
use Rattle.session_net.specs.replica_exchange.Damages.{IsFileDamage}
use Rattle.session_net.specs.Reads.{AreForms}
use Rattle.m3_model.proofs.MemberLemmas.{IsIn-append_left, IsIn-append_right, IsIn-append_cases, IsIn-filter_map, filter_map-IsIn}
use Rattle.m3_outside.specs.DiskState.{DiskState}
use Rattle.series_merge.specs.Merges.{IsMergeOf}
use Rattle.series_merge.proofs.JoinLemmas.{joined_stays, joined_has, joined_from, nothing_held}
use Rattle.series_merge.proofs.OrderLemmas.{merge_joins}
use Rattle.session_net.specs.cluster_core.declared.event.StepCall.{StepCall}
use Rattle.session_net.specs.cluster_core.declared.event.StepReply.TheVariants as reply
use Rattle.session_net.specs.net_plan.Fates.{FateMap}
use Rattle.session_net.specs.replica_exchange.declared.call_id.CallId.{CallId}
use Rattle.session_net.specs.Calls.{Tracked}
use Rattle.session_net.specs.Brought.{Brought}
use Rattle.session_net.specs.Messages.{IsHeard, Heard, fate_to}
use Rattle.session_net.proofs.DeliveryLemmas.{heard_more}
use Rattle.session_net.proofs.RunLemmas.{ran_nothing, ran_then}
use Rattle.session_reads.specs.Gathering.{TakesIn, IsContentOf, WereAsked}

-- ---- answers

abbrev pub answers_of : List (Heard (List Series)) → List (List Series)
answers_of heard = filter_map (λ x. result_ok x.1) heard

-- an answer among those with one more node is an earlier one, or that node's
answer_cases : (heard : List (Heard (List Series))) (n : ℕ) (said : Result (List Series) Reason) (answer : List Series) → IsIn (answers_of (heard ++ (n, said) ∷ [])) answer → IsIn (answers_of heard) answer ⊎ (said ≡ Ok answer)
answer_cases heard n said answer m =
    let from = IsIn-filter_map (λ (x : Heard (List Series)). result_ok x.1) (heard ++ (n, said) ∷ []) answer m in
    elim (IsIn-append_cases heard ((n, said) ∷ []) from.0 from.1) as (λ _. IsIn (answers_of heard) answer ⊎ (said ≡ Ok answer)) [
      | inl before ↦ inl (filter_map-IsIn (λ (x : Heard (List Series)). result_ok x.1) heard from.0 answer before from.2)
      | inr (inl last) ↦ inr (said_ok said (subst (λ (x : Heard (List Series)). result_ok x.1 ≡ Some answer) (sym last) from.2))
      | inr (inr none) ↦ absurd none
    ]
  where
    said_ok : (said : Result (List Series) Reason) → result_ok said ≡ Some answer → said ≡ Ok answer
    said_ok (Ok series) e = let same : series ≡ answer = cc in ap Ok same
    said_ok (Err why) e = cc

answer_stays : (heard : List (Heard (List Series))) (x : Heard (List Series)) (answer : List Series) → IsIn (answers_of heard) answer → IsIn (answers_of (heard ++ x ∷ [])) answer
answer_stays heard x answer m =
    let from = IsIn-filter_map (λ (x : Heard (List Series)). result_ok x.1) heard answer m in
    filter_map-IsIn (λ (x : Heard (List Series)). result_ok x.1) (heard ++ x ∷ []) from.0 answer (IsIn-append_left heard (x ∷ []) from.0 from.1) from.2

answer_last : (heard : List (Heard (List Series))) (n : ℕ) (answer : List Series) → IsIn (answers_of (heard ++ (n, Ok answer) ∷ [])) answer
answer_last heard n answer = filter_map-IsIn (λ (x : Heard (List Series)). result_ok x.1) (heard ++ (n, Ok answer) ∷ []) (n, Ok answer) answer (IsIn-append_right heard ((n, Ok answer) ∷ []) (n, Ok answer) (inl refl)) refl

-- ---- what was heard, joined

-- nothing was joined
pub content_none : (ns : ℕ) (series : List Series) → series ≡ [] → IsContentOf ns [] (content_of (points_in ns series))
content_none ns series is = record {
  covers = λ answer m p here. absurd m;
  nothing_else = λ p here. absurd (nothing_held (content_of (points_in ns series)) (ap (λ xs. content_of (points_in ns xs)) is) p here);
}

pub ordered_none : (series : List Series) → series ≡ [] → IsOrdered series
ordered_none series is = subst IsOrdered (sym is) (record { ids = tt; times = λ s m. absurd m; none_empty = λ s m. absurd m })

pub forms_none : AreForms []
forms_none x m = absurd m

-- the series have at least what they had
joined_keeps : (ns : ℕ) (old new : List Series) (said : Result (List Series) Reason) (p : Point) → TakesIn old said new → Holds (content_of (points_in ns old)) p → Holds (content_of (points_in ns new)) p
joined_keeps ns old new (Ok answer) p takes h = subst (λ c. Holds c p) (sym (merge_joins ns old answer new takes)) (joined_stays (points_in ns answer) (content_of (points_in ns old)) p h)
joined_keeps ns old new (Err why) p same h = subst (λ xs. Holds (content_of (points_in ns xs)) p) (sym same) h

-- and all of the answer
joined_takes : (ns : ℕ) (old new answer : List Series) (said : Result (List Series) Reason) (p : Point) → said ≡ Ok answer → TakesIn old said new → IsIn (points_in ns answer) p → Holds (content_of (points_in ns new)) p
joined_takes ns old new answer said p is takes m =
    let merge : IsMergeOf old answer new = subst (λ r. TakesIn old r new) is takes in
    subst (λ c. Holds c p) (sym (merge_joins ns old answer new merge)) (joined_has (points_in ns answer) (content_of (points_in ns old)) p m)

-- a point of one of these answers
abbrev IsOfOne : ℕ → List (List Series) → Point → Type 0
IsOfOne ns answers p = (answer : List Series) × IsIn answers answer × IsIn (points_in ns answer) p

-- what one more node said was joined
pub content_more : (ns n : ℕ) (heard : List (Heard (List Series))) (said : Result (List Series) Reason) (old new : List Series) → IsContentOf ns (answers_of heard) (content_of (points_in ns old)) → TakesIn old said new
    → IsContentOf ns (answers_of (heard ++ (n, said) ∷ [])) (content_of (points_in ns new))
content_more ns n heard said old new was takes = record {
  covers = λ answer m p here. elim (answer_cases heard n said answer m) as (λ _. Holds (content_of (points_in ns new)) p) [
    | inl before ↦ joined_keeps ns old new said p takes (was.covers answer before p here)
    | inr last ↦ joined_takes ns old new answer said p last takes here
  ];
  nothing_else = λ p here. from said refl takes p here;
}
  where
    earlier : (p : Point) → HasPoint (content_of (points_in ns old)) p → IsOfOne ns (answers_of (heard ++ (n, said) ∷ [])) p
    earlier p here = let found = was.nothing_else p here in (found.0, answer_stays heard (n, said) found.0 found.1, found.2)

    from : (r : Result (List Series) Reason) → said ≡ r → TakesIn old r new → (p : Point) → HasPoint (content_of (points_in ns new)) p → IsOfOne ns (answers_of (heard ++ (n, said) ∷ [])) p
    from (Ok answer) e merge p here =
        elim (joined_from (points_in ns answer) (content_of (points_in ns old)) p (subst (λ c. HasPoint c p) (merge_joins ns old answer new merge) here)) as (λ _. IsOfOne ns (answers_of (heard ++ (n, said) ∷ [])) p) [
          | inl before ↦ earlier p before
          | inr given ↦ (answer, subst (λ r. IsIn (answers_of (heard ++ (n, r) ∷ [])) answer) (sym e) (answer_last heard n answer), given)
        ]
    from (Err why) e same p here = earlier p (subst (λ xs. HasPoint (content_of (points_in ns xs)) p) same here)

-- it stays in order
pub ordered_more : (old new : List Series) (said : Result (List Series) Reason) → IsOrdered old → TakesIn old said new → IsOrdered new
ordered_more old new (Ok answer) was merge = merge.ordered
ordered_more old new (Err why) was same = subst IsOrdered (sym same) was

-- each damage is of a form
pub forms_more : (n : ℕ) (heard : List (Heard (List Series))) (said : Result (List Series) Reason) → AreForms heard → ((damage : Damage) → IsErrOf said (reason.Corrupt damage) → IsFileDamage damage) → AreForms (heard ++ (n, said) ∷ [])
forms_more n heard said was last x m damage is = elim (IsIn-append_cases heard ((n, said) ∷ []) x m) as (λ _. IsFileDamage damage) [
  | inl before ↦ was x before damage is
  | inr (inl e) ↦ last damage (subst (λ (y : Heard (List Series)). IsErrOf y.1 (reason.Corrupt damage)) (sym e) is)
  | inr (inr none) ↦ absurd none
]

-- ---- messages

module _ {D : Type 0} (disk : D → DiskState) (fates : FateMap) (id : CallId) (s : ℕ) (c : StepCall) where
  pub asked_none : (now : Tracked D) → WereAsked disk fates id s c [] [] now now
  asked_none now = record { reads = []; are = refl; ran = ran_nothing disk now; few = omega arith }

  -- one more node was asked
  pub asked_more : (nodes : List ℕ) (i : ℕ) (heard : List (Heard (List Series))) (f : Fate) (said : Result (List Series) Reason) (old mid new : Tracked D) → i < length nodes → f ≡ fate_to fates id (get_or nodes i 0)
      → WereAsked disk fates id s c (take i nodes) heard old mid → Brought disk (λ x. reply.Found x) f (get_or nodes i 0) s c said mid new
      → WereAsked disk fates id s c (take (i + 1) nodes) (heard ++ (get_or nodes i 0, said) ∷ []) old new
  asked_more nodes i heard f said old mid new below fate was next = record {
    reads = was.reads ++ next.more;
    are = heard_more (λ x. reply.Found x) fates id s c nodes i heard was.reads said next.more below was.are (subst (λ f. IsHeard (λ x. reply.Found x) f (get_or nodes i 0) s c said next.more) fate next.is);
    ran = ran_then disk was.reads next.more old mid new was.ran next.ran;
    few =
        let sum = length-append was.reads next.more in
        let low = was.few in
        let high = next.few in
        let long : length (take (i + 1) nodes) ≡ length (take i nodes) + 1 = ap length (take_more nodes i 0 below) ∙ length-append (take i nodes) (get_or nodes i 0 ∷ []) in
        omega (arith, sum, low, high, long);
  }

-- what holds anyway
pub always_err : {X Y P : Type 0} (r : Result X Y) → P → OnErr r P
always_err (Ok x) p = tt
always_err (Err y) p = p
