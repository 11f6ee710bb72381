use Rattle.std.proofs.Common.{◌≡◌, ◌+◌, ◌/◌, ◌∙◌, ℕ, List, None, ap, sym, subst, length, get_or, not, arith}
use Rattle.std.proofs.lemmas.Bool.{not-true, ltb-true}
use Rattle.std.proofs.lemmas.Option.{slice_get-get_or}
use Rattle.m3_model.specs.declared.placement.Assignment.{Assignment}
use Rattle.m3_model.specs.declared.placement.ShardState.TheVariants.{Initializing}
use Rattle.placement_core.proofs.StepLemmas.{no_true}
use Rattle.past_events.specs.Joining.{IsNewPeer}
use Rattle.past_events.proofs.PeerLemmas.{ArePeers, next_peer, no_next_peer, joined_decided}
use Rattle.past_events.proofs.joins.has_joined.Goals as goal
use Rattle.past_events.proofs.joins.has_joined.Goals.{then-branch+in_ok-push, else-branch, then-many, else-many}

-- the assignment of zeros, which stands where a list has ended
abbrev blank : Assignment
blank = record { node = 0; tenure = 0; state = Initializing; source = None }

pub loop-former-preserved : goal.loop-former-preserved
loop-former-preserved c =
    let shard = c.args.assignments.now in
    let past = c.args.past.now in
    let i = c.loop-former.former-index in
    let peers = c.loop-former.peers.items in
    let a = get_or shard i blank in
    let at = slice_get-get_or shard i blank c.loop-former-test.true in
    let told = c.in_ok-is_new_peer.ensures in
    let Goal : List ℕ → Type 0 = λ ps. ArePeers past shard c.args.shard c.args.node c.args.tenure (i + 1) ps in
    let peers_are = c.deref.ensures.value in
    elim c.if-branch.branch as (λ _. Goal c.if-branch.peers.items) [
      | then-branch+in_ok-push w ↦
          let is = subst (λ (ps : List ℕ). IsNewPeer past c.args.shard c.args.node c.args.tenure a ps) peers_are (told.0 w.if-branch.true) in
          subst Goal (sym (ap (λ v. v.items) w.peers-is ∙ w.in_ok-push.ensures.items)) (next_peer past shard c.args.shard c.args.node c.args.tenure i a peers at is c.loop-former.invariant)
      | else-branch w ↦
          let isnt : ¬ IsNewPeer past c.args.shard c.args.node c.args.tenure a peers =
          λ h. no_true c.in_ok-is_new_peer.field-0 w.if-branch.false (told.1 (subst (λ (ps : List ℕ). IsNewPeer past c.args.shard c.args.node c.args.tenure a ps) (sym peers_are) h)) in
          subst Goal (sym (ap (λ v. v.items) w.peers-is)) (no_next_peer past shard c.args.shard c.args.node c.args.tenure i a peers at isnt c.loop-former.invariant)
    ]

pub returns : goal.returns
returns c =
    let shard = c.args.assignments.now in
    let past = c.args.past.now in
    let peers = c.loop-former.peers.items in
    let whole : c.loop-former.former-index ≡ length shard = omega (arith, c.loop-former-test.false, c.loop-former.auto.former-index-end) in
    let are = subst (λ (n : ℕ). ArePeers past shard c.args.shard c.args.node c.args.tenure n peers) whole c.loop-former.invariant in
    let told = joined_decided past shard c.args.shard c.args.node c.args.tenure c.args.rf peers are in
    let size = c.len-count.ensures in
    elim c.if-many.branch [
      | then-many w ↦ (
        λ t. told.0 (omega (arith, w.if-many.true, size), sym w.is_steady.ensures ∙ not-true w.is_steady.result (sym w.result-is ∙ t)),
        λ h. w.result-is ∙ ap not (w.is_steady.ensures ∙ (told.1 h).1),
      )
      | else-many w ↦ (λ t. absurd (omega (arith, ltb-true (c.args.rf / 2) c.len-count.result (sym w.result-is ∙ t), w.if-many.false)), λ h. absurd (omega (arith, w.if-many.false, size, (told.1 h).0)))
    ]
