-- What is so of each shard that a bootstrap prints as turned available.
use Rattle.std.proofs.Common.{◌≡◌, ◌≤◌, ◌<◌, ◌+◌, ◌∙◌, ℕ, zero, suc, List, [], ◌∷◌, ◌++◌, length, take, Option, None, refl, sym, ap, subst, inl, inr, arith}
use Rattle.std.proofs.lemmas.Bool.{cases_lt}
use Rattle.m3_model.specs.Members.{IsIn}
use Rattle.m3_model.specs.declared.act.Act.TheVariants as act
use Rattle.m3_model.specs.declared.answer.Answer.TheVariants as answer
use Rattle.m3_model.specs.declared.placement.Placement.{Placement}
use Rattle.m3_model.proofs.MemberLemmas.{map-IsIn}
use Rattle.placement_core.specs.Lawful.{IsLawful}
use Rattle.cluster_core.specs.Joins.{HasStreamed}
use Rattle.cluster_core.specs.Lists.{At}
use Rattle.cluster_core.specs.declared.event.Asked.TheVariants as asked
use Rattle.cluster_core.specs.declared.event.Event.{Event}
use Rattle.cluster_core.specs.declared.event.Event.TheVariants as event
use Rattle.cluster_core.specs.declared.event.StepCall.TheVariants as call
use Rattle.cluster_core.specs.declared.event.StepReply.{StepReply}
use Rattle.cluster_core.proofs.ListLemmas.{at_in}
use Rattle.told_by.proofs.KindLemmas.{taken}
use Rattle.told_by.proofs.LineLemmas.{at_front}
use Rattle.told_by.proofs.OneLemmas.{at_back, back_at}
use Rattle.peer_streams.specs.Joins.{Opened}
use Rattle.told_joins.specs.Laws.{IsWholeJoin, JoinsAreWhole}
use Rattle.told_joins.specs.Lines.{AreOpened, added_by, done_by, ends_by, joined_of}
use Rattle.told_joins.proofs.AskLemmas.{all_happen}
use Rattle.told_joins.proofs.JoinLemmas.{marks_are}
use Rattle.told_joins.proofs.MarkLemmas.{are_enough, how, joined_in, streamed_each}

module _ (place : Placement) (lawful : IsLawful place) (y : ℕ) (only : Option ℕ) (opened : List Opened) (next : Placement) (all : AreOpened place y only opened []) where
  abbrev front : List Event
  front = added_by opened

  abbrev done : List (ℕ × ℕ)
  done = done_by y (joined_of opened)

  abbrev asking : Event
  asking = event.Ask (asked.Place next done)

  abbrev whole : List Event
  whole = front ++ (asking ∷ event.Place next done ∷ ends_by opened)

  -- the Place stands behind its Ask
  abbrev place_at : ℕ
  place_at = length front + 1

  placed : At whole place_at (event.Place next done)
  placed = back_at front (asking ∷ event.Place next done ∷ ends_by opened) 1 (event.Place next done) refl

  upto : take place_at whole ≡ front ++ asking ∷ []
  upto = taken None [] front act.Deliver answer.Memory (asking ∷ event.Place next done ∷ ends_by opened) 1

  behind : (i n s : ℕ) (a : StepReply) → At whole i (event.Step n s call.End a) → place_at < i
  behind i n s a at = elim (cases_lt i (length front)) as (λ _. place_at < i) [
    | inl lt ↦ absurd (all_happen place y only opened [] all (event.Step n s call.End a) (at_in front i (event.Step n s call.End a) (at_front front _ i (event.Step n s call.End a) at lt)))
    | inr ge ↦ (let k = at_back front (asking ∷ event.Place next done ∷ ends_by opened) i (event.Step n s call.End a) at ge in let low = above_one k.0 k.2 in omega (arith, k.1, low))
  ]
    where
      above_one : (k : ℕ) → At (asking ∷ event.Place next done ∷ ends_by opened) k (event.Step n s call.End a) → 2 ≤ k
      above_one zero at = cc
      above_one (suc zero) at = cc
      above_one (suc (suc k)) at = omega arith

  whole_join : (x : ℕ × List ℕ) → IsIn (joined_of opened) x → IsWholeJoin place y next whole x
  whole_join x m =
      let w = joined_in opened x m in
      let h = how place lawful y only opened [] all w.one w.join w.among w.joined in
      let was : IsIn (joined_of opened) ((w.one).shard, (w.join).peers) = subst (IsIn (joined_of opened)) (sym w.is) m in
      subst (IsWholeJoin place y next whole) w.is (record {
        shard = (h.given).shard;
        there = (h.given).there;
        joining = h.joining;
        joins = (h.given).among;
        to_node = (h.given).to_node;
        is_joining = (h.joins).0;
        enough = are_enough place lawful y only opened [] all w.one w.join h;
        place_at = place_at;
        done = done;
        placed = placed;
        ended = map-IsIn (λ (z : ℕ × List ℕ). (z.0, y)) (joined_of opened) ((w.one).shard, (w.join).peers) was;
        streamed = λ q among. subst (HasStreamed (w.one).shard y (h.joining).tenure q) (sym upto) (streamed_each place lawful y only opened [] all w.one w.join w.among h [] (asking ∷ []) q among);
        ends_behind = behind;
      })

pub joins_whole : JoinsAreWhole
joins_whole place lawful y only opened next more adds x m = by (joined_of opened) refl
  where
    by : (xs : List (ℕ × List ℕ)) → joined_of opened ≡ xs → IsWholeJoin place y next more x
    by [] none = absurd (subst (λ xs. IsIn xs x) none m)
    by (z ∷ rest) is =
        let shape = adds.adds ∙ ap (λ es. added_by opened ++ es) (marks_are y opened next (joined_of opened) z rest is) in
        subst (λ es. IsWholeJoin place y next es x) (sym shape) (whole_join place lawful y only opened next adds.all x m)
