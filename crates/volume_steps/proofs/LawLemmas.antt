-- What follows of points that are there.
use Rattle.std.proofs.Common.{◌≡◌, ◌⊎◌, inl, inr, ⊎_elim, ℤ, List, [], ◌∷◌, subst, ◌∙◌, Some}
use Rattle.std.specs.Prelude.{fold}
use Rattle.std.specs.FinMap as finite
use Rattle.m3_model.specs.Answers.{HasPoint}
use Rattle.m3_model.specs.Contents.{Contents, raised, key_of, point_at}
use Rattle.m3_model.specs.Members.{IsIn}
use Rattle.m3_model.specs.Reads.{Covers}
use Rattle.m3_model.specs.declared.point.Key.{Key}
use Rattle.m3_model.specs.declared.point.Point.{Point}
use Rattle.m3_model.proofs.JoinLemmas.{raised_source}
use Rattle.shard_files.proofs.ContentLemmas.{content_holds, same_content}
use Rattle.shard_files.proofs.GainLemmas.{covers_itself}
use Rattle.shard_files.specs.FilesHold.{volume_points}
use Rattle.volume_steps.specs.Laws.{JoinIsThere, ShedsMakeUp}

-- a point of a content that was raised is one of the points or was there
pub raised_from : (ps : List Point) (c : Contents) (k : Key) (v : ℤ) → finite.get (fold raised c ps) k ≡ Some v → IsIn ps (point_at k v) ⊎ (finite.get c k ≡ Some v)
raised_from [] c k v e = inr e
raised_from (q ∷ ps) c k v e =
    ⊎_elim (λ (m : IsIn ps (point_at k v)). inl (inr m)) (λ (was : finite.get (raised c q) k ≡ Some v). ⊎_elim (λ (here : q ≡ point_at k v). inl (inl here)) (λ (before : finite.get c k ≡ Some v). inr before) (raised_source c q k v was)) (raised_from ps (raised c q) k v e)

pub join_is_there : JoinIsThere
join_is_there memory known p m = ⊎_elim (λ vol. inr vol) (λ here. inl here) (raised_from (volume_points known) memory (key_of p) p.v m)

pub sheds_make_up : ShedsMakeUp
sheds_make_up content before points is sheds = same_content points before (λ p m. covers_itself before p (sheds.nothing_else p m)) (λ p m.
    let high = content_holds before p (covers_itself before p m) in
    let top : Point = record p { v = high.value } in
    let there : HasPoint content top = subst (λ (c : Contents). finite.get c (key_of p) ≡ Some high.value) is high.stands in
    let covers : Covers points p = record { value = high.value; at_least = high.at_least; stands = sheds.whole top there } in
    covers) ∙ is
