-- Points, each once and in their order.
use Rattle.std.proofs.Common.{◌≡◌, List, sym, ap, subst, ◌∙◌}
use Rattle.std.specs.Cmp.{IsTotalOrder, int_cmp_total}
use Rattle.std.specs.Ordering.{ordering_reverse}
use Rattle.std.specs.declared.cmp.Ordering.TheVariants.{Less, Greater}
use Rattle.std.proofs.lemmas.Cmp.{then_total, on_total}
use Rattle.commit_log.specs.m3_model.Contents.{key_of}
use Rattle.commit_log.specs.m3_model.Keys.{key_cmp_total}
use Rattle.commit_log.specs.m3_model.Members.{IsIn}
use Rattle.commit_log.specs.m3_model.declared.point.Point.{Point}
use Rattle.commit_log.proofs.Numbers.{ascending_is_one}
use Rattle.shard_files.specs.Once.{point_cmp, IsBefore, OnceIsOne, OnceHasContent, HeldOnceIsOne}
use Rattle.shard_files.proofs.ContentLemmas.{same_content}
use Rattle.shard_files.proofs.GainLemmas.{covers_itself}
use Rattle.shard_files.proofs.FilesHoldLemmas.{files_hold_one}

point_cmp_total : IsTotalOrder point_cmp
point_cmp_total = then_total (on_total key_of key_cmp_total) (on_total (λ p. p.v) int_cmp_total)

-- of no two points each is before the other
apart : (p q : Point) → IsBefore p q → IsBefore q p → ⊥
apart p q h g = let clash : Less ≡ Greater = sym h ∙ point_cmp_total.antisymm p q ∙ ap ordering_reverse g in cc

pub once_is_one : OnceIsOne
once_is_one all others ps qs alike a b =
    ascending_is_one IsBefore apart ps qs a.ascending b.ascending (λ p m. (b.same p).1 ((alike p).0 ((a.same p).0 m))) (λ p m. (a.same p).1 ((alike p).1 ((b.same p).0 m)))

pub once_has_content : OnceHasContent
once_has_content all points once = same_content points all (λ p m. covers_itself all p ((once.same p).0 m)) (λ p m. covers_itself points p ((once.same p).1 m))

pub held_once_is_one : HeldOnceIsOne
held_once_is_one ps qs t u f g files a b =
    let one = files_hold_one a.all b.all t u f g files a.held b.held in
    (once_is_one a.all b.all ps qs (λ p. (λ m. subst (λ (l : List Point). IsIn l p) one.0 m, λ m. subst (λ (l : List Point). IsIn l p) (sym one.0) m)) a.once b.once, one.1, one.2)
