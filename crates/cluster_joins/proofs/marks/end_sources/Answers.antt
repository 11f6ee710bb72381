use Rattle.std.proofs.Common.{◌*◌, length, ap, refl, sym, subst}
use Rattle.std.specs.List.{flat_map}
use Rattle.m3_model.specs.Members.{IsIn}
use Rattle.node_calls.specs.replica_exchange.MachineCalls.{HasRoom}
use Rattle.node_calls.specs.session_net.Runs.{Ran}
use Rattle.cluster_placements.specs.Steps.{end_at}
use Rattle.cluster_joins.specs.Marks.{HasEnded}
use Rattle.cluster_joins.proofs.BootLemmas.{end_booted}
use Rattle.cluster_joins.proofs.StillLemmas.{ends_quiet, still_on}
use Rattle.cluster_joins.proofs.marks.end_sources.Goals as goal

pub end_all-requires-clause-there : goal.end_all-requires-clause-there
end_all-requires-clause-there g c s i = c.requires.there s (subst (λ xs. IsIn xs s) c.as_slice.ensures.value i)

pub end_all-requires-clause-room : goal.end_all-requires-clause-room
end_all-requires-clause-room g c = subst (λ xs. HasRoom (2 * length xs) (((c.args.members.now).net).replicas).events) (sym c.as_slice.ensures.value) c.requires.room

pub returns-clause-ended : goal.returns-clause-ended
returns-clause-ended g c = record {
  answer_is = refl;
  ran = subst (λ xs. Ran g.D.Disk.state ((c.args.members.now).net).replicas (flat_map end_at xs) c.end_all.new.replicas) c.as_slice.ensures.value c.end_all.ensures;
  keeps = record { keeps = record { state = refl; fates = refl; bag = refl; slots = refl; past = refl }; stopped = refl };
}

pub returns-clause-booted : goal.returns-clause-booted
returns-clause-booted g c first was name asked marking to m = end_booted g.D.Disk.state first was c.args.members.now _ name asked marking c.args.marked _ to m (record {
  answer_is = refl;
  ran = subst (λ xs. Ran g.D.Disk.state ((c.args.members.now).net).replicas (flat_map end_at xs) c.end_all.new.replicas) c.as_slice.ensures.value c.end_all.ensures;
  keeps = record { keeps = record { state = refl; fates = refl; bag = refl; slots = refl; past = refl }; stopped = refl };
})

pub returns-clause-still : goal.returns-clause-still
returns-clause-still g c held may =
    let sources = c.as_slice.result.now in
    still_on g.D.Disk.state c.args.members.now _ (flat_map end_at sources) c.end_all.ensures (ends_quiet sources) (record { keeps = record { state = refl; fates = refl; bag = refl; slots = refl; past = refl }; stopped = refl }) held may
