use Rattle.std.proofs.Common.{◌↔◌, ◌∙◌, ℕ, List, [], subst, sym, IsTrue}
use Rattle.m3_model.specs.Reads.{points_in}
use Rattle.m3_model.specs.declared.point.Point.{Point}
use Rattle.placement_core.proofs.StepLemmas.{no_true}
use Rattle.legal_events.specs.Fetches.{CanJoin}
use Rattle.legal_events.proofs.LegalLemmas.{join_decided}
use Rattle.legal_events.proofs.legal.is_joined.Goals as goal
use Rattle.legal_events.proofs.legal.is_joined.Goals.{then-can, else-can}

pub returns : goal.returns
returns c =
    let since = c.args.since.now in
    let fetch = c.args.fetch.now in
    let nodes = c.args.nodes.now in
    let series = c.args.series.now in
    let can = c.in_ok-can.can in
    let ns = c.space_picked-ns.result in
    let none = subst (λ (ps : List Point). IsTrue can ↔ CanJoin since fetch ns nodes ps c.deref-2.result.now) (c.deref.ensures.value ∙ c.new-none.ensures.items) c.in_ok-can.ensures in
    let both = subst (λ (ps : List Point). IsTrue can ↔ CanJoin since fetch ns nodes [] ps) (c.deref-2.ensures.value ∙ c.in_ok-joined.ensures) none in
    let told = subst (λ (n : ℕ). IsTrue can ↔ CanJoin since fetch n nodes [] (points_in n series)) c.space_picked-ns.ensures both in
    let is = join_decided since fetch c.args.pick.now nodes series in
    elim c.if-can.branch [
      | then-can w ↦ (
        λ t. is.0 (told.0 w.if-can.true, w.is_ordered.ensures.0 (subst IsTrue w.result-is t)),
        λ h. subst IsTrue (sym w.result-is) (w.is_ordered.ensures.1 (is.1 h).1),
      )
      | else-can w ↦ (λ t. absurd (no_true c.if-can.result (w.result-is ∙ w.if-can.false) t), λ h. absurd (no_true can w.if-can.false (told.1 (is.1 h).0)))
    ]
