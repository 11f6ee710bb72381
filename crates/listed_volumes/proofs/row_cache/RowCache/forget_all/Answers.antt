use Rattle.std.proofs.Common.{List, get_or, take, sym, subst}
use Rattle.std.proofs.lemmas.List.{take_all, take_more}
use Rattle.volume_points.specs.volume_bytes.declared.heads.Head.{Head}
use Rattle.listed_volumes.specs.Cached.{HasForgotten}
use Rattle.listed_volumes.proofs.CachedLemmas.{forgot_more, forgot_none}
use Rattle.listed_volumes.proofs.row_cache.RowCache.forget_all.Goals as goal

pub loop-head-init : goal.loop-head-init
loop-head-init c = forgot_none c.args.self.now

pub loop-head-preserved : goal.loop-head-preserved
loop-head-preserved c =
    let heads = c.args.heads.now in
    let i = c.loop-head.head-index in
    let none : Head = record { ns = 0; start = 0; size = 0; number = 0 } in
    subst (λ (l : List Head). HasForgotten l c.args.self.now c.forget.new.self) (sym (take_more heads i none c.loop-head-test.true))
    (forgot_more (take i heads) (get_or heads i none) c.args.self.now c.loop-head.self c.forget.new.self c.loop-head.invariant c.forget.ensures)

pub returns : goal.returns
returns c = subst (λ (l : List Head). HasForgotten l c.args.self.now c.loop-head.self) (take_all c.loop-head.head-index c.args.heads.now c.loop-head-test.false) c.loop-head.invariant
