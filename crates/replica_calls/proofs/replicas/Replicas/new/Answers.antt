use Rattle.std.proofs.Common.{ap, ◌∙◌}
use Rattle.std.specs.FinMap.{from_sorted}
use Rattle.replica_exchange.proofs.m3_model_proofs.RaiseLemmas.{from_sorted-empty}
use Rattle.replica_calls.specs.Slots.{slot_cmp}
use Rattle.replica_calls.proofs.TrackLemmas.{tracked_new}
use Rattle.replica_calls.proofs.replicas.Replicas.new.Goals as goal

pub invariant_of-result : goal.invariant_of-result
invariant_of-result g c = tracked_new g.D.Disk.state c.new.result c.args.trail c.new.ensures.empty c.requires

pub returns : goal.returns
returns g c = ap (λ xs. record { members = from_sorted {R = slot_cmp} xs; events = c.args.trail }) c.new.ensures.empty ∙ ap (λ members. record { members = members; events = c.args.trail }) (from_sorted-empty slot_cmp)
