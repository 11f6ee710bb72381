-- Why the broken transcripts are not kept.
use Rattle.std.proofs.Common.{◌≡◌, ◌≢◌, ◌<◌, ◌+◌, ◌≤ℤ◌, ℕ, ℤ, [], ◌∷◌, refl, ap, subst, inl, inr, arith}
use Rattle.std.specs.Prelude.{Some, None, true, false, pos, codes, ◌<ℤ◌}
use Rattle.std.proofs.lemmas.Int.{ints}
use Rattle.transcripts.specs.Kept.{Kept}
use Rattle.m3_model.specs.Members.{IsIn}
use Rattle.transcripts.specs.Rules.{rules_at}
use Rattle.transcripts.specs.Points.{sent_at}
use Rattle.m3_model.specs.Reads.{Covers, Matches, read_of}
use Rattle.m3_model.specs.declared.answer.Answer.{Answer}
use Rattle.m3_model.specs.declared.point.Series.{Series}
use Rattle.m3_model.specs.declared.act.Act.TheVariants as act
use Rattle.m3_model.specs.declared.act.WriteLevel.TheVariants as write_level
use Rattle.model_laws.specs.Building.{zone_is, begun, fetch_in, moved, wrote, read, line, write, fetch, acks, found, series_of, life_of}
use Rattle.model_laws.specs.Refused.{without_the_point, with_lower_value, with_other_point, with_higher_value, with_later_first, with_point_twice, with_empty_series, without_kept_point, with_expired_point, with_point_at_end, with_other_series, without_untagged, with_other_tags, with_unknown_namespace, with_point_answered, own_write, own_later_write}
use Rattle.model_laws.proofs.PositionLemmas.{position_after, position_after-stands, position_in, points_kept}
use Rattle.transcripts.specs.Record.{TurnPosition, IsTurnPosition}
use Rattle.m3_model.specs.declared.turn.Request.TheVariants as request
use Rattle.m3_model.specs.declared.turn.Reply.TheVariants as reply
use Rattle.model_laws.proofs.EachLemmas.{not_in_each, texts_differ}
use Rattle.model_laws.proofs.SampleLemmas.{hello, reading, whole, sought, sought-live, last_keeps, last_matches}
use Rattle.model_laws.proofs.TagLemmas.{hello_has_none, hello_without_tags}
use Rattle.m3_model.specs.declared.point.Matcher.{Matcher}
use Rattle.m3_model.specs.declared.point.Pick.TheVariants as pick
use Rattle.m3_model.specs.Tags.{MatcherHolds}

pub without_the_point-refused : ¬ Kept (life_of without_the_point)
without_the_point-refused kept =
    let keeps = last_keeps (begun 100 (wrote 100 (pos 5) ∷ [])) 0 200 [] [] kept refl in
    (keeps.acknowledged refl (hello 100 (pos 5)) (inl refl) (sought 100 0 200 100 (pos 5) (omega arith) (omega arith) (omega arith))).stands

-- a point of a lower value covers nothing
not_covered : (v w : ℤ) → v <ℤ w → Covers (hello 100 v ∷ []) (hello 100 w) → ⊥
not_covered v w lower covered =
    elim covered.stands as (λ _. ⊥) [
      | inl e ↦ (let same : v ≡ covered.value = ap (λ p. p.v) e in let least : w ≤ℤ covered.value = covered.at_least in omega (arith, ints))
      | inr none ↦ none
    ]

pub with_lower_value-refused : ¬ Kept (life_of with_lower_value)
with_lower_value-refused kept =
    let keeps = last_keeps (begun 100 (wrote 100 (pos 4) ∷ wrote 100 (pos 9) ∷ [])) 0 200 (series_of ((100, pos 4) ∷ [])) [] kept refl in
    not_covered (pos 4) (pos 9) (omega (arith, ints)) (keeps.acknowledged refl (hello 100 (pos 9)) (inr (inl refl)) (sought 100 0 200 100 (pos 9) (omega arith) (omega arith) (omega arith)))

-- points at two times
times_differ : (t u : ℕ) (v w : ℤ) → t ≢ u → hello t v ≢ hello u w
times_differ t u v w differ e = differ (ap (λ p. p.t) e)

-- points of two values
values_differ : (t : ℕ) (v w : ℤ) → v ≢ w → hello t v ≢ hello t w
values_differ t v w differ e = differ (ap (λ p. p.v) e)

pub with_other_point-refused : ¬ Kept (life_of with_other_point)
with_other_point-refused kept =
    let keeps = last_keeps (begun 100 (wrote 100 (pos 5) ∷ [])) 0 200 (series_of ((100, pos 5) ∷ (120, pos 7) ∷ [])) [] kept refl in
    not_in_each (hello 100 (pos 5) ∷ []) (hello 120 (pos 7)) (times_differ 100 120 (pos 5) (pos 7) (omega arith), tt) (keeps.nothing_else (hello 120 (pos 7)) (inr (inl refl))).0

pub with_higher_value-refused : ¬ Kept (life_of with_higher_value)
with_higher_value-refused kept =
    let keeps = last_keeps (begun 100 (wrote 100 (pos 5) ∷ [])) 0 200 (series_of ((100, pos 9) ∷ [])) [] kept refl in
    not_in_each (hello 100 (pos 5) ∷ []) (hello 100 (pos 9)) (values_differ 100 (pos 5) (pos 9) (λ e. omega (arith, ints)), tt) (keeps.nothing_else (hello 100 (pos 9)) (inl refl)).0

pub with_later_first-refused : ¬ Kept (life_of with_later_first)
with_later_first-refused kept =
    let keeps = last_keeps (begun 100 (wrote 100 (pos 1) ∷ wrote 120 (pos 2) ∷ [])) 0 200 (series_of ((120, pos 2) ∷ (100, pos 1) ∷ [])) [] kept refl in
    let ascend : 120 < 100 = (keeps.ordered.times (record { id = codes "hello"; points = (120, pos 2) ∷ (100, pos 1) ∷ [] }) (inl refl)).0 (100, pos 1) (inl refl) in
    omega arith

pub with_point_twice-refused : ¬ Kept (life_of with_point_twice)
with_point_twice-refused kept =
    let keeps = last_keeps (begun 100 (wrote 100 (pos 5) ∷ [])) 0 200 (series_of ((100, pos 5) ∷ (100, pos 5) ∷ [])) [] kept refl in
    let ascend : 100 < 100 = (keeps.ordered.times (record { id = codes "hello"; points = (100, pos 5) ∷ (100, pos 5) ∷ [] }) (inl refl)).0 (100, pos 5) (inl refl) in
    omega arith

pub with_empty_series-refused : ¬ Kept (life_of with_empty_series)
with_empty_series-refused kept =
    let empty : Series = record { id = codes "hello"; points = [] } in
    let keeps = last_keeps (begun 100 []) 0 200 (empty ∷ []) [] kept refl in
    let some : 0 < 0 = keeps.ordered.none_empty empty (inl refl) in
    omega arith

pub without_kept_point-refused : ¬ Kept (life_of without_kept_point)
without_kept_point-refused kept =
    let keeps = last_keeps (begun 1000 (wrote 1000 (pos 7) ∷ moved 1499 ∷ [])) 0 2000 [] [] kept refl in
    (keeps.acknowledged refl (hello 1000 (pos 7)) (inl refl) (sought 1499 0 2000 1000 (pos 7) (omega arith) (omega arith) (omega arith))).stands

pub with_expired_point-refused : ¬ Kept (life_of with_expired_point)
with_expired_point-refused kept =
    let keeps = last_keeps (begun 1000 (wrote 1000 (pos 7) ∷ moved 1499 ∷ read 0 2000 ((1000, pos 7) ∷ []) ∷ moved 1500 ∷ [])) 0 2000 (series_of ((1000, pos 7) ∷ [])) [] kept refl in
    let live : 1500 < 1000 + 500 = sought-live 1500 0 2000 1000 (pos 7) (keeps.nothing_else (hello 1000 (pos 7)) (inl refl)).1 in
    omega arith

pub with_point_at_end-refused : ¬ Kept (life_of with_point_at_end)
with_point_at_end-refused kept =
    let keeps = last_keeps (begun 100 (wrote 100 (pos 1) ∷ wrote 120 (pos 2) ∷ [])) 100 120 (series_of ((100, pos 1) ∷ (120, pos 2) ∷ [])) [] kept refl in
    let below : 120 < 120 = (keeps.nothing_else (hello 120 (pos 2)) (inr (inl refl))).1.in_range.1 in
    omega arith

pub with_other_series-refused : ¬ Kept (life_of with_other_series)
with_other_series-refused kept =
    let lines = begun 100 (line (act.Write (codes "m") (codes "world") 100 (pos 5) write_level.Majority None) (acks (0 ∷ 1 ∷ 2 ∷ [])) ∷ []) in
    let keeps = last_keeps lines 0 200 (record { id = codes "world"; points = (100, pos 5) ∷ [] } ∷ []) [] kept refl in
    texts_differ (codes "world") (codes "hello") refl refl (keeps.nothing_else (record { ns = 0; id = codes "world"; t = 100; v = pos 5 }) (inl refl)).1.matches.1

pub without_untagged-refused : ¬ Kept (life_of without_untagged)
without_untagged-refused kept =
    let keeps = last_matches (begun 100 (wrote 100 (pos 5) ∷ [])) (zone_is false) 0 200 [] kept refl in
    let same = sought 100 0 200 100 (pos 5) (omega arith) (omega arith) (omega arith) in
    let matches : Matches (pick.Match 0 (zone_is false)) (hello 100 (pos 5)) = (
      refl,
      λ tags has m among.
          elim among as (λ _. MatcherHolds tags m) [
            | inl one ↦ subst (λ (x : Matcher). MatcherHolds tags x) one (λ there. subst (λ ts. IsIn ts (codes "zone", codes "q")) (hello_has_none tags has) there)
            | inr none ↦ absurd none
          ],
    ) in
    (keeps.acknowledged refl (hello 100 (pos 5)) (inl refl) (record { matches = matches; in_range = same.in_range; live = same.live })).stands

pub with_other_tags-refused : ¬ Kept (life_of with_other_tags)
with_other_tags-refused kept =
    let keeps = last_matches (begun 100 (wrote 100 (pos 5) ∷ [])) (zone_is true) 0 200 (series_of ((100, pos 5) ∷ [])) kept refl in
    (keeps.nothing_else (hello 100 (pos 5)) (inl refl)).1.matches.1 [] hello_without_tags (record { name = codes "zone"; equal = true; value = codes "q" }) (inl refl)

pub with_unknown_namespace-refused : ¬ Kept (life_of with_unknown_namespace)
with_unknown_namespace-refused kept =
    let fetch_of = fetch_in (codes "n") 0 200 in
    let read = kept (position_after (begun 100 []) fetch_of (found [])) (position_after-stands (begun 100 []) fetch_of (found []) []) (whole []) refl in
    let asked : None ≡ Some read.read = read.asked in
    cc

-- a fetch finds a point that was not sent
pub with_point-refused : (b : Answer) → sent_at [] None (position_after (begun 100 (line (write 100 (pos 5)) b ∷ [])) (fetch 0 200) (found (series_of ((100, pos 5) ∷ [])))) ≡ []
    → read_of (rules_at None (position_after (begun 100 (line (write 100 (pos 5)) b ∷ [])) (fetch 0 200) (found (series_of ((100, pos 5) ∷ []))))).spaces (fetch 0 200) ≡ Some (reading 0 200)
    → ¬ Kept (life_of (with_point_answered b))
with_point-refused b none asked kept =
    let keeps = last_keeps (begun 100 (line (write 100 (pos 5)) b ∷ [])) 0 200 (series_of ((100, pos 5) ∷ [])) [] kept asked in
    subst (λ sent. IsIn sent (hello 100 (pos 5))) none (keeps.nothing_else (hello 100 (pos 5)) (inl refl)).0

-- where the client's fetch stands after its write, and before it
abbrev after_own : TurnPosition
after_own = position_in (begun 100 []) (record { request = request.Par ((write 100 (pos 5) ∷ fetch 0 200 ∷ []) ∷ []) []; reply = reply.Par ((acks (0 ∷ 1 ∷ 2 ∷ []) ∷ found [] ∷ []) ∷ []) [] }) [] [] (record { act = write 100 (pos 5); answer = acks (0 ∷ 1 ∷ 2 ∷ []) } ∷ []) (record { act = fetch 0 200; answer = found [] })

abbrev before_own : TurnPosition
before_own = position_in (begun 100 []) (record { request = request.Par ((fetch 0 200 ∷ write 100 (pos 5) ∷ []) ∷ []) []; reply = reply.Par ((found (series_of ((100, pos 5) ∷ [])) ∷ acks (0 ∷ 1 ∷ 2 ∷ []) ∷ []) ∷ []) [] }) [] [] [] (record { act = fetch 0 200; answer = found (series_of ((100, pos 5) ∷ [])) })

pub own_write-refused : ¬ Kept (life_of (own_write []))
own_write-refused kept =
    let stands : IsTurnPosition (own_write []) after_own = record { after = []; in_run = refl; stands = record { front = []; later = []; back = []; in_line = refl; others = refl; client_is = refl } } in
    let keeps = points_kept [] None after_own (reading 0 200) (whole []) (kept after_own stands) refl refl in
    (keeps.acknowledged refl (hello 100 (pos 5)) (inl refl) (sought 100 0 200 100 (pos 5) (omega arith) (omega arith) (omega arith))).stands

pub own_later_write-refused : ¬ Kept (life_of (own_later_write ((100, pos 5) ∷ [])))
own_later_write-refused kept =
    let stands : IsTurnPosition (own_later_write ((100, pos 5) ∷ [])) before_own = record { after = []; in_run = refl; stands = record { front = []; later = _; back = []; in_line = refl; others = refl; client_is = refl } } in
    let keeps = points_kept [] None before_own (reading 0 200) (whole (series_of ((100, pos 5) ∷ []))) (kept before_own stands) refl refl in
    (keeps.nothing_else (hello 100 (pos 5)) (inl refl)).0
