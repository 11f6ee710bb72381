use Rattle.std.proofs.Common.{refl}
use Rattle.node_calls.proofs.session_net_proofs.ReadyLemmas.{may_call}
use Rattle.cluster_joins.proofs.BootLemmas.{err_ready, err_still, joined_few, joining_done, not_all, ok_booting, ok_left, ok_past, ok_ready, ok_state, ok_still}
use Rattle.cluster_joins.proofs.boots.open_running.Goals as goal

pub open_all-requires-clause-placed : goal.open_all-requires-clause-placed
open_all-requires-clause-placed g c = let net = (c.args.members.now).net in (may_call net.state net.replicas net.bag c.requires.ready).place

pub to_mark-requires-clause-joining : goal.to_mark-requires-clause-joining
to_mark-requires-clause-joining g c = joining_done g.D.Disk.state c.args.members.now c.args.name c.args.asked c.args.node c.requires.runs c.requires.ready c.open_all.new.replicas c.in-Ok.joined c.in-Ok.ensures.tried

pub to_mark-requires-clause-few : goal.to_mark-requires-clause-few
to_mark-requires-clause-few g c = joined_few g.D.Disk.state c.args.members.now c.args.name c.args.asked c.args.node c.requires.runs c.requires.ready c.open_all.new.replicas c.in-Ok.joined c.in-Ok.ensures.tried

pub returns-in-Ok-clause-booting : goal.returns-in-Ok-clause-booting
returns-in-Ok-clause-booting g c =
    ok_booting g.D.Disk.state c.args.members.now c.args.name c.args.asked c.args.node c.requires.runs c.requires.ready _ c.in-Ok.joined c.in-Ok.ensures.tried c.to_mark.new.members c.open_all.ensures.unowned
    (record { keeps = record { state = refl; fates = refl; bag = refl; slots = refl; past = refl }; stopped = refl }) c.requires.serves c.to_mark.result c.to_mark.ensures

pub returns-in-Ok-clause-unmarked : goal.returns-in-Ok-clause-unmarked
returns-in-Ok-clause-unmarked g c =
    ok_left g.D.Disk.state c.args.members.now c.args.name c.args.asked c.args.node c.requires.runs c.requires.ready _ c.in-Ok.joined c.in-Ok.ensures.tried c.to_mark.new.members c.open_all.ensures.unowned
    (record { keeps = record { state = refl; fates = refl; bag = refl; slots = refl; past = refl }; stopped = refl }) c.requires.serves c.to_mark.result c.to_mark.ensures

pub returns-in-Ok-clause-state : goal.returns-in-Ok-clause-state
returns-in-Ok-clause-state g c =
    ok_state g.D.Disk.state c.args.members.now c.args.name c.args.asked c.args.node c.requires.runs c.requires.ready _ c.in-Ok.joined c.in-Ok.ensures.tried c.to_mark.new.members c.open_all.ensures.unowned
    (record { keeps = record { state = refl; fates = refl; bag = refl; slots = refl; past = refl }; stopped = refl }) c.requires.serves c.to_mark.result c.to_mark.ensures

pub returns-in-Ok-clause-past : goal.returns-in-Ok-clause-past
returns-in-Ok-clause-past g c =
    ok_past g.D.Disk.state c.args.members.now c.args.name c.args.asked c.args.node c.requires.runs c.requires.ready _ c.in-Ok.joined c.in-Ok.ensures.tried c.to_mark.new.members c.open_all.ensures.unowned
    (record { keeps = record { state = refl; fates = refl; bag = refl; slots = refl; past = refl }; stopped = refl }) c.requires.serves c.to_mark.result c.to_mark.ensures

pub returns-in-Ok-clause-ready : goal.returns-in-Ok-clause-ready
returns-in-Ok-clause-ready g c =
    ok_ready g.D.Disk.state c.args.members.now c.args.name c.args.asked c.args.node c.requires.runs c.requires.ready _ c.in-Ok.joined c.in-Ok.ensures.tried c.to_mark.new.members c.open_all.ensures.unowned
    (record { keeps = record { state = refl; fates = refl; bag = refl; slots = refl; past = refl }; stopped = refl }) c.requires.serves c.to_mark.result c.to_mark.ensures

pub returns-in-Ok-clause-still : goal.returns-in-Ok-clause-still
returns-in-Ok-clause-still g c =
    ok_still g.D.Disk.state c.args.members.now c.args.name c.args.asked c.args.node c.requires.runs c.requires.ready _ c.in-Ok.joined c.in-Ok.ensures.tried c.to_mark.new.members c.open_all.ensures.unowned
    (record { keeps = record { state = refl; fates = refl; bag = refl; slots = refl; past = refl }; stopped = refl }) c.requires.serves c.to_mark.result c.to_mark.ensures

pub returns-in-Err-clause-booting : goal.returns-in-Err-clause-booting
returns-in-Err-clause-booting g c =
    not_all g.D.Disk.state c.args.members.now c.args.name c.args.asked c.args.node c.requires.runs c.requires.ready _ (record { keeps = record { state = refl; fates = refl; bag = refl; slots = refl; past = refl }; stopped = refl }) c.open_all.ensures.unowned c.in-Err.why
    c.in-Err.ensures.tried c.ended.result c.ended.ensures

pub returns-in-Err-clause-ready : goal.returns-in-Err-clause-ready
returns-in-Err-clause-ready g c = err_ready g.D.Disk.state c.args.members.now c.args.name c.args.asked c.args.node c.requires.runs c.requires.ready c.open_all.new.replicas c.in-Err.why c.in-Err.ensures.tried

pub returns-in-Err-clause-still : goal.returns-in-Err-clause-still
returns-in-Err-clause-still g c held may =
    err_still g.D.Disk.state c.args.members.now c.args.name c.args.asked c.args.node c.requires.runs c.requires.ready _ (record { keeps = record { state = refl; fates = refl; bag = refl; slots = refl; past = refl }; stopped = refl }) c.open_all.ensures.unowned c.in-Err.why
    c.in-Err.ensures.tried held may
