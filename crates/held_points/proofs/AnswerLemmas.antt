-- When series are the answer to a match.
use Rattle.std.proofs.Common.{◌≡◌, ℕ, List, refl, sym, ap, ◌∙◌, subst, Bool, true, false, ◌↔◌}
use Rattle.std.specs.Prelude.{Some}
use Rattle.m3_model.specs.declared.point.Matcher.{Matcher}
use Rattle.m3_model.specs.declared.point.Pick.TheVariants as pick
use Rattle.m3_model.specs.declared.point.Series.{Series}
use Rattle.m3_model.specs.Ascends.{Ascends}
use Rattle.m3_model.specs.Members.{IsIn}
use Rattle.m3_model.specs.Tags.{IsBelow, HasTags, MatcherHolds}
use Rattle.m3_model.specs.Contents.{Contents, key_of}
use Rattle.m3_model.specs.Reads.{IsOrdered}
use Rattle.m3_model.specs.Answers.{IsAnswer}
use Rattle.series_id.proofs.Excluded.{same_tags_of}
use Rattle.tag_index.specs.declared.entry.Entry.{Entry}
use Rattle.tag_index.specs.Listed.{Listed, IsAt}
use Rattle.series_slots.specs.Ranges.{IsRangeOf}
use Rattle.series_slots.proofs.AnswerLemmas.{point_in, in_points}
use Rattle.held_points.specs.Matched.{IsMatched, MeetsUnequal, MeetsEqual, HasNoEqual, AreCandidates, IsMatchedBy}
use Rattle.held_points.specs.Selected.{IsSelection}
use Rattle.held_points.specs.Indexed.{IsIndexed}
use Rattle.held_points.proofs.IndexLemmas.{at_entry}
use Rattle.held_points.proofs.TagLemmas.{equal_holds, holds_equal}

-- series of an ordered list are ordered, where they ascend
pub some_ordered : (found kept : List Series) → Ascends (λ (a b : Series). IsBelow a.id b.id) kept → ((s : Series) → IsIn kept s → IsIn found s) → IsOrdered found → IsOrdered kept
some_ordered found kept ascend inside h = record {
  ids = ascend;
  times = λ s m. h.times s (inside s m);
  none_empty = λ s m. h.none_empty s (inside s m);
}

-- the series of a namespace that no matcher rules out, where none is of equality
pub unequal_answer : (c : Contents) (ns from to : ℕ) (wanted : List Matcher) (found kept : List Series) → HasNoEqual wanted → IsRangeOf c (pick.Match ns wanted) from to found
    → (IsOrdered found → IsOrdered kept) → ((s : Series) → IsIn kept s ↔ (IsIn found s × MeetsUnequal wanted s.id)) → IsAnswer c (pick.Match ns wanted) from to kept
unequal_answer c ns from to wanted found kept none range ordered exact = record {
  ordered = ordered range.ordered;
  nothing_else = λ p m.
      let at = point_in ns kept p m in
      let was = (exact at.0).0 at.1 in
      let stands = range.nothing_else p (in_points ns found at.0 p was.0 at.2 at.3 at.4) in
      let matched : IsMatched wanted at.0.id = λ tags has m in_wanted. was.1 tags has m in_wanted (none m in_wanted) in
      record { stands = stands.0; matches = (at.2, subst (IsMatched wanted) (sym at.3) matched); in_range = stands.2 };
  whole = λ p w.
      let at = point_in ns found p (range.whole p w.stands w.matches.0 w.in_range) in
      let met : MeetsUnequal wanted p.id = λ tags has m in_wanted e. w.matches.1 tags has m in_wanted in
      in_points ns kept at.0 p ((exact at.0).1 (at.1, subst (MeetsUnequal wanted) at.3 met)) at.2 at.3 at.4;
}

-- every matcher holds for the identifier of a candidate that no matcher rules out
named_matched : (c : Contents) (index : Listed) (wanted : List Matcher) (ordinals : List ℕ) (id : List ℕ) → IsIndexed c index → AreCandidates index wanted ordinals
    → IsMatchedBy index wanted ordinals id → IsMatched wanted id
named_matched c index wanted ordinals id h candidates is tags has m in_wanted = by_kind m.equal refl
  where
    by_kind : (b : Bool) → m.equal ≡ b → MatcherHolds tags m
    by_kind true e =
        let there = (candidates.exact is.0).0 is.1 m in_wanted e in
        let entry = at_entry index is.0 id is.2 in
        let same : there.0 ≡ entry.0 = let twice : Some there.0 ≡ Some entry.0 = sym there.1 ∙ entry.1 in cc in
        let own : HasTags id entry.0.tags = subst (λ x. HasTags x entry.0.tags) entry.2 (h.tagged is.0 entry.0 entry.1) in
        let tags_are : there.0.tags ≡ tags = ap (λ (x : Entry). x.tags) same ∙ same_tags_of id entry.0.tags tags own has in
        equal_holds tags m e (subst (λ ts. IsIn ts (m.name, m.value)) tags_are there.2)
    by_kind false e = is.3 tags has m in_wanted e

-- and one that has a point and for which every matcher holds is the identifier of such a candidate
matched_named : (c : Contents) (index : Listed) (wanted : List Matcher) (ordinals : List ℕ) (id : List ℕ) (o : ℕ) → IsIndexed c index → AreCandidates index wanted ordinals
    → IsAt index o id → IsMatched wanted id → IsMatchedBy index wanted ordinals id
matched_named c index wanted ordinals id o h candidates at matched =
    let entry = at_entry index o id at in
    let own : HasTags id entry.0.tags = subst (λ x. HasTags x entry.0.tags) entry.2 (h.tagged o entry.0 entry.1) in
    let met : MeetsEqual index wanted o = λ m in_wanted e. (entry.0, entry.1, holds_equal entry.0.tags m e (matched entry.0.tags own m in_wanted)) in
    (o, (candidates.exact o).1 met, at, λ tags has m in_wanted e. matched tags has m in_wanted)

-- the series of a namespace whose identifiers are those of the candidates that no matcher rules out
pub named_answer : (c : Contents) (index : Listed) (ns from to : ℕ) (wanted : List Matcher) (ordinals : List ℕ) (ids : List (List ℕ)) (series : List Series) → IsIndexed c index → AreCandidates index wanted ordinals
    → ((id : List ℕ) → IsIn ids id ↔ IsMatchedBy index wanted ordinals id) → IsSelection c ns (IsIn ids) from to series → IsAnswer c (pick.Match ns wanted) from to series
named_answer c index ns from to wanted ordinals ids series h candidates named is = record {
  ordered = is.ordered;
  nothing_else = λ p m.
      let one = is.nothing_else p m in
      record { stands = one.stands; matches = (one.in_space, named_matched c index wanted ordinals p.id h candidates ((named p.id).0 one.named)); in_range = one.in_range };
  whole = λ p w.
      let there = h.listed (key_of p) p.v w.stands in
      is.whole p (record {
        stands = w.stands;
        in_space = w.matches.0;
        named = (named p.id).1 (matched_named c index wanted ordinals p.id there.0 h candidates there.1 w.matches.1);
        in_range = w.in_range;
      });
}
