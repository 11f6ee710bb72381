-- Acts whose answers have their causes are done, or something keeps them from it.
use Rattle.std.proofs.Common.{◌≡◌, ℕ, List, refl, sym, ap, ◌∙◌, inl, inr, Some, None, true, false}
use Rattle.std.specs.Prelude.{◌⊎◌, Option, Bool}
use Rattle.m3_model.specs.Members.{IsIn}
use Rattle.m3_model.specs.declared.act.Act.{Act}
use Rattle.m3_model.specs.declared.act.Act.TheVariants as act
use Rattle.m3_model.specs.declared.answer.Answer.{Answer}
use Rattle.m3_model.specs.declared.answer.Answer.TheVariants as answer
use Rattle.m3_model.specs.declared.placement.Placement.{Placement}
use Rattle.m3_model.specs.declared.rules.MetaState.{MetaState}
use Rattle.placement_acts.specs.Acts.{IsInTheWay}
use Rattle.transcripts.specs.Caused.{CausedAt, IsDueBy, IsOwn, IsStepOf, refusal_after}
use Rattle.transcripts.specs.Deliveries.{LateMessage}
use Rattle.transcripts.specs.Faults.{Fault}
use Rattle.transcripts.specs.Placements.{placement_at}
use Rattle.transcripts.specs.Record.{InnerTurn, IsAfter, Record, TurnPosition}
use Rattle.fault_laws.specs.Served.{IsDone, IsDoneOr, PlainActsAreDone, is_plain}

module _ (tells : Bool) (faults : List Fault) (past : List Record) (start : Option MetaState) (messages : List LateMessage) (p : TurnPosition) where
  -- something is in the way of a plan
  in_way : (place : Option Placement) (a : Act) (b : Answer) → IsInTheWay place a b → IsDoneOr tells faults past start p a b
  in_way place a b h = inr (inr (inl (place, h)))

  -- a fault is listed
  failed : (fault : Fault) (a : Act) (b : Answer) → IsIn faults fault → IsDoneOr tells faults past start p a b
  failed fault a b among = inr (inr (inr (inl (fault, among))))

  -- an act that makes a placement
  step : (a : Act) (b : Answer) → ((place : Placement) (version : ℕ) → IsDone a (answer.Placed place version)) → IsStepOf faults start p a b → IsDoneOr tells faults past start p a b
  step a (answer.Placed next version) done h = inl (done next version)
  step a (answer.Busy name shard) done h = in_way (placement_at start p) a (answer.Busy name shard) h
  step a (answer.Group shard) done h = in_way (placement_at start p) a (answer.Group shard) h
  step a (answer.Disk name shard) done h = failed _ a (answer.Disk name shard) (h.2).untaken
  step a _ done h = absurd h

  -- an answer that is the act's own
  own : (a : Act) (b : Answer) → is_plain a ≡ true → IsOwn tells faults start messages p a b → IsDoneOr tells faults past start p a b
  own (act.Write ns id t v level version) b plain h = cc
  own (act.Fetch ns id from to level version) b plain h = cc
  own (act.Match ns wanted from to level version) b plain h = cc
  own (act.Bootstrap node shard) b plain h = cc
  own act.Repair b plain h = cc
  own (act.Init rf shards seed nodes) (answer.Placed place version) plain h = inl tt
  own (act.Init rf shards seed nodes) (answer.Group shard) plain h = in_way None (act.Init rf shards seed nodes) (answer.Group shard) h
  own (act.Init rf shards seed nodes) (answer.Disk name shard) plain h = failed _ (act.Init rf shards seed nodes) (answer.Disk name shard) (h.2).untaken
  own (act.Namespace name block before future retention) answer.Done plain h = inl tt
  own (act.Now now) answer.Done plain h = inl tt
  own (act.Fates list) answer.Done plain h = inl tt
  own act.Deliver (answer.Outcomes outcomes) plain h = inl tt
  own (act.Stop node) answer.Done plain h = inl tt
  own (act.Restart node pick) answer.Done plain h = inl tt
  own (act.Restart node pick) (answer.Disk name shard) plain h = failed _ (act.Restart node pick) (answer.Disk name shard) h.1.3
  own (act.Add node group) b plain h = step (act.Add node group) b (λ place version. tt) h
  own (act.Drain node) b plain h = step (act.Drain node) b (λ place version. tt) h
  own (act.Cancel node) b plain h = step (act.Cancel node) b (λ place version. tt) h
  own (act.Remove node) b plain h = step (act.Remove node) b (λ place version. tt) h
  own (act.Replace node by_ group) b plain h = step (act.Replace node by_ group) b (λ place version. tt) h
  own act.Tick (answer.Swept done refused) plain h = inl tt
  own act.Flush (answer.Swept done refused) plain h = inl tt
  own act.Snapshot (answer.Swept done refused) plain h = inl tt
  own act.Status (answer.Status now lines version) plain h = inl tt
  own _ _ plain h = absurd h

  -- an answer that is due
  due : (turns : List InnerTurn) → IsAfter p turns → (o : Option Answer) → refusal_after start p turns ≡ o → IsDueBy tells faults start messages p o → is_plain p.turn.act ≡ true → IsDoneOr tells faults past start p p.turn.act p.turn.answer
  due turns after (Some refusal) is h plain = inr (inl (turns, after, is ∙ ap Some (sym h)))
  due turns after None is h plain = own p.turn.act p.turn.answer plain h

pub plain_done : PlainActsAreDone
plain_done tells faults past start messages p (inl memory) plain = inr (inr (inr (inr (inl memory))))
plain_done tells faults past start messages p (inr (inl full)) plain = inr (inr (inr (inr (inr full))))
plain_done tells faults past start messages p (inr (inr h)) plain = due tells faults past start messages p h.0 h.1 (refusal_after start p h.0) refl h.2 plain
