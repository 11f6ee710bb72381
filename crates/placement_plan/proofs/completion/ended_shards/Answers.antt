use Rattle.std.proofs.Common.{◌≡◌, ap, sym, ◌∙◌, ℕ, List, [], ◌∷◌, Option, Some, None, IfSome, MatchOption, nat_eq, cond, Bool, true, false, inl, inr, slice_get, refl, subst}
use Rattle.std.proofs.lemmas.Bool.{eqb-true}
use Rattle.placement_core.specs.m3_model.Members.{IsIn}
use Rattle.placement_core.specs.Shards.{Shard}
use Rattle.placement_core.specs.Steps.{Ends, done_at}
use Rattle.placement_core.proofs.ListLemmas.{at_index, same_at}
use Rattle.placement_plan.specs.Plans.{AreJoining, IsJoining, EndsAsNamed}
use Rattle.placement_plan.proofs.PlaceLemmas.{made_push}
use Rattle.placement_plan.proofs.completion.ended_shards.Goals as goal

-- what a done list names is one of its pairs
named_by : (s : ℕ) (d : ℕ × ℕ) (ds : List (ℕ × ℕ)) (node : ℕ) (b : Bool) → nat_eq d.0 s ≡ b → (done_at s ds ≡ Some node → (e : ℕ × ℕ) × IsIn ds e × (e.0 ≡ s) × (e.1 ≡ node)) → cond b (Some d.1) (done_at s ds) ≡ Some node
    → (e : ℕ × ℕ) × IsIn (d ∷ ds) e × (e.0 ≡ s) × (e.1 ≡ node)
named_by s d ds node true is later e = (d, inl refl, eqb-true d.0 s is, cc)
named_by s d ds node false is later e = let r = later e in (r.0, inr r.1, r.2, r.3)

named_is : (s : ℕ) (ds : List (ℕ × ℕ)) (node : ℕ) → done_at s ds ≡ Some node → (e : ℕ × ℕ) × IsIn ds e × (e.0 ≡ s) × (e.1 ≡ node)
named_is s [] node e = cc
named_is s (d ∷ ds) node e = named_by s d ds node (nat_eq d.0 s) refl (named_is s ds node) e

joins_by : (shards : List Shard) (done : List (ℕ × ℕ)) (s : ℕ) (shard : Shard) (named : Option ℕ) → AreJoining shards done → slice_get shards s ≡ Some shard → named ≡ done_at s done → IfSome named (λ node. IsJoining node shard)
joins_by shards done s shard None all at is = tt
joins_by shards done s shard (Some node) all at is =
    let d = named_is s done node (sym is) in
    let j = all d.0 d.1 in
    let same : j.shard ≡ shard = same_at shards s j.shard shard (ap (slice_get shards) (sym d.2) ∙ j.stands) at in
    subst (λ n. IsJoining n shard) d.3 (subst (IsJoining (d.0).1) same j.joins)

pub ended_shard-requires : goal.ended_shard-requires
ended_shard-requires c =
    joins_by c.args.shards.now c.args.done.now c.loop-number.number c.index-shards-number.result c.named_in.result c.requires
    (at_index c.args.shards.now c.loop-number.number c.index-shards-number.result c.loop-number-test.true c.index-shards-number.is) c.named_in.ensures

pub loop-number-preserved : goal.loop-number-preserved
loop-number-preserved c =
    made_push (EndsAsNamed c.args.done.now) c.args.shards.now c.loop-number.next.items c.push.new.self.items c.loop-number.number c.index-shards-number.result c.in_ok-ended_shard.field-0
    c.in_ok-push.ensures.items c.loop-number-test.true c.index-shards-number.is
    (subst (λ o. MatchOption o (c.in_ok-ended_shard.field-0 ≡ c.index-shards-number.result) (λ node. Ends c.index-shards-number.result c.in_ok-ended_shard.field-0 node)) c.named_in.ensures c.in_ok-ended_shard.ensures) c.loop-number.invariant
