-- Who is named by an acknowledgement counts.
use Rattle.std.proofs.Common.{◌≡◌, ℕ, suc, ◌<◌, List, [], take, length, sym, ◌∙◌, subst, inl, inr, arith, Bool}
use Rattle.std.specs.Prelude.{Option}
use Rattle.std.proofs.lemmas.Bool.{cases_lt}
use Rattle.m3_model.specs.Members.{IsIn}
use Rattle.transcripts.specs.Placements.{IsCounted}
use Rattle.transcripts.specs.Record.{TurnPosition, IsTurnPosition}
use Rattle.m3_model.specs.declared.answer.Answer.TheVariants as answer
use Rattle.m3_model.specs.declared.placement.Placement.{Placement}
use Rattle.m3_model.specs.declared.point.Point.{Point}
use Rattle.m3_model.specs.declared.rules.MetaState.{MetaState}
use Rattle.m3_model.specs.declared.turn.Turn.{Turn}
use Rattle.placement_core.specs.Shards.{Shard, counted, shard_at}
use Rattle.placement_core.proofs.LawLemmas.{shard_stands}
use Rattle.cluster_core.specs.Legal.{Legal}
use Rattle.cluster_core.specs.Lists.{At, IsDistinct}
use Rattle.cluster_core.specs.declared.event.Event.{Event}
use Rattle.cluster_core.specs.declared.event.Event.TheVariants as event
use Rattle.cluster_core.proofs.ListLemmas.{at_same, at_take, at_within}
use Rattle.cluster_core.proofs.PastLemmas.{CountedAt, counted_at}
use Rattle.cluster_core.proofs.PlaceLemmas.{IsAt, at_place, at_version}
use Rattle.cluster_core.proofs.TraceLemmas.{lawful_ack}
use Rattle.told_by.specs.Acks.{AreAckersCounted}
use Rattle.told_by.specs.Told.{ToldBy}
use Rattle.told_by.specs.Writes.{IsSendOf}
use Rattle.told_by.proofs.OpeningLemmas.{first_event, place_fine}

same_send : (v s w t : ℕ) (p q : Point) → event.Send v s p ≡ event.Send w t q → (v ≡ w) × (s ≡ t)
same_send v s w t p q e = let a : v ≡ w = cc in let b : s ≡ t = cc in (a, b)

same_shard : {tells : Bool} → (events : List Event) (legal : Legal tells events) (first : Placement) (there : At events 0 (event.Place first [])) (s i j : ℕ) (p q : Placement) (ds es : List (ℕ × ℕ)) (x y : Shard)
    → At events i (event.Place p ds) → At events j (event.Place q es) → p.version ≡ q.version → At p.shards s x → At q.shards s y → x ≡ y
same_shard events legal first there s i j p q ds es x y hp hq version hx hy =
    let bi = at_within events i (event.Place p ds) hp in
    let bj = at_within events j (event.Place q es) hq in
    let ap_ = at_place events legal first [] there i s p ds x hp hx in
    let aq = at_place events legal first [] there j s q es y hq hy in
    elim (cases_lt j i) as (λ _. x ≡ y) [
      | inl lt ↦ sym (at_version events legal first [] there s (suc j) (suc i) q.version y x (omega arith) aq (omega arith) (omega arith) (subst (λ v. IsAt events s (suc i) v x) version ap_))
      | inr le ↦ at_version events legal first [] there s (suc i) (suc j) p.version x y (omega arith) ap_ (omega arith) (omega arith) (subst (λ v. IsAt events s (suc j) v y) (sym version) aq)
    ]

-- the counted nodes of a Place of the version are those of the placement that the write used
counted_in : {tells : Bool} → (events : List Event) (legal : Legal tells events) (place : Placement) (at : ℕ) (done : List (ℕ × ℕ)) → At events at (event.Place place done) → (s version : ℕ) → version ≡ place.version → (before : ℕ) (nodes : List ℕ)
    → CountedAt (take before events) version s nodes → (node : ℕ) → IsIn nodes node → IsCounted place s node
counted_in events legal place at done there s version is before nodes c node m =
    let other = at_take events c.position before (event.Place c.placement c.done) c.there in
    let first = first_event events legal at (event.Place place done) there in
    let fine = place_fine events legal first.place first.there at place done there in
    let fine_other = place_fine events legal first.place first.there c.position c.placement c.done other.0 in
    let low : s < length place.shards = omega (arith, at_within (c.placement).shards s c.shard c.shard_is, fine.count, fine_other.count) in
    let same : c.shard ≡ shard_at place s = same_shard events legal first.place first.there s c.position at c.placement place c.done done c.shard (shard_at place s) other.0 there (c.version_is ∙ is) c.shard_is (shard_stands place s low) in
    subst (λ (x : Shard). IsIn (counted x) node) same (c.within node m)

-- the nodes of an Ack of a Send of this version and shard
record AckedAs (place : Placement) (s : ℕ) (nodes : List ℕ) : Type 0 where
  distinct : IsDistinct nodes
  counted : (node : ℕ) → IsIn nodes node → IsCounted place s node

acked_as : {tells : Bool} → (start : Option MetaState) (events : List Event) → Legal tells events → (p : TurnPosition) (ack send version s : ℕ) (point : Point) (nodes : List ℕ) → At events ack (event.Ack send nodes) → At events send (event.Send version s point)
    → (own : IsSendOf start events p version s point) → AckedAs own.place s nodes
acked_as start events legal p ack send version s point nodes acked there own =
    let law = lawful_ack events legal ack send nodes acked in
    let sent = at_take events send ack (event.Send law.version law.s law.point) law.sent in
    let same = same_send law.version law.s version s law.point point (at_same events send (event.Send law.version law.s law.point) (event.Send version s point) sent.0 there) in
    record {
      distinct = law.distinct;
      counted = λ node m. subst (λ k. IsCounted own.place k node) same.1
          (counted_in events legal own.place (own.uses).place_at (own.uses).done (own.uses).there law.s law.version (same.0 ∙ own.version_is) ack nodes (counted_at (take ack events) law.version law.s nodes law.counted) node m);
    }

pub acks_counted : {tells : Bool} → (start : Option MetaState) (turns : List Turn) (events : List Event) → Legal tells events → ToldBy start turns events → (p : TurnPosition) → IsTurnPosition turns p → (nodes : List ℕ) → p.turn.answer ≡ answer.Acks nodes → AreAckersCounted start p nodes
acks_counted start turns events legal told p in_run nodes answered =
    let ack = (told.tells).writes.acked p in_run nodes answered in
    let send = ack.sent in
    let own = subst (λ x. IsSendOf start events x send.version send.s send.point) send.own ((told.tells).writes.each_send ack.send send.version send.s send.point send.mine send.there) in
    let as_ = acked_as start events legal p ack.ack ack.send send.version send.s send.point nodes ack.acked send.there own in
    record {
      call = own.call;
      of_act = own.of_act;
      point = send.point;
      of_point = own.of_point;
      place = own.place;
      may_use = (own.uses).may_use;
      distinct = as_.distinct;
      counted = λ node m. subst (λ s. IsCounted own.place s node) own.shard_is (as_.counted node m);
    }
