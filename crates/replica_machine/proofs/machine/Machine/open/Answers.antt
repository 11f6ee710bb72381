use Rattle.std.proofs.Common.{◌≡◌, ap, ◌∙◌, sym, subst, refl, true, map}
use Rattle.m3_model.specs.Contents.{content_of}
use Rattle.cluster_core.specs.Refusals.{closed}
use Rattle.m3_outside.specs.DiskState.{Told, EachImage}
use Rattle.shard_store.specs.shard_files.Once.{HeldOnce}
use Rattle.shard_store.specs.commit_log.LogEnd.{NoneFrom}
use Rattle.m3_outside.specs.Files.{Files}
use Rattle.shard_store.specs.Loads.{known_of, AreOpened}
use Rattle.shard_store.specs.Loaded.{Loaded}
use Rattle.shard_store.specs.Openings.{beside_volumes}
use Rattle.replica_machine.specs.Boots.{AreBesideVolumes}
use Rattle.replica_machine.specs.declared.machine.Began.{Began}
use Rattle.replica_machine.proofs.BootLemmas.{BeginLeft, begin_left_of, open_done}
use Rattle.replica_machine.proofs.PartLemmas.{store_closed, store_shut, closed_moved}
use Rattle.replica_machine.proofs.machine.Machine.open.Given.{Over}
use Rattle.replica_machine.proofs.machine.Machine.open.Goals as goal

failed : (g : Over) (c : goal.After-drop-loaded-in-Err-6 g) → BeginLeft g.D.Disk.state c.args.self.now c.args.tenure c.refused.result c.refused.new.self
failed g c =
    let inside = c.self.inside in
    let is_boot = ap (λ m. m.standing) c.self.view_is ∙ c.requires.boot in
    begin_left_of g.D.Disk.state inside.standing inside.tenure inside.begun inside.work c.args.self.now inside.store c.open_store.new.store c.self.view_is c.args.tenure (ap closed c.requires.boot) c.requires.high c.in-Err.why c.refused.result c.refused.new.self
    (closed_moved inside.store c.open_store.new.store (store_closed inside.standing inside.store c.self.invariant is_boot) c.in-Err.ensures.err) c.refused.ensures.why c.refused.ensures.left c.in-Err.ensures.disk

pub open_store-requires-clause-closed : goal.open_store-requires-clause-closed
open_store-requires-clause-closed g c = store_closed c.self.inside.standing c.self.inside.store c.self.invariant (ap (λ m. m.standing) c.self.view_is ∙ c.requires.boot)

pub open_store-requires-clause-held : goal.open_store-requires-clause-held
open_store-requires-clause-held g c = subst (λ d. Told (g.D.Disk.state d) (HeldOnce c.args.loaded.points c.args.loaded.tenure c.args.loaded.fence)) (sym (ap (λ m. m.disk) c.self.view_is)) c.requires.held

pub open_store-requires-clause-only : goal.open_store-requires-clause-only
open_store-requires-clause-only g c = subst (λ d. EachImage (g.D.Disk.state d) (λ x. x ≡ (g.D.Disk.state d).files)) (sym (ap (λ m. m.disk) c.self.view_is)) c.requires.only

pub open_store-requires-clause-fresh : goal.open_store-requires-clause-fresh
open_store-requires-clause-fresh g c = subst (λ d. Told (g.D.Disk.state d) (NoneFrom c.args.loaded.next_segment)) (sym (ap (λ m. m.disk) c.self.view_is)) c.requires.fresh

pub invariant_of-self : goal.invariant_of-self
invariant_of-self g c = store_shut c.self.inside.standing c.open_store.new.store (ap (λ m. m.standing) c.self.view_is ∙ c.requires.boot) c.in-Err.ensures.err

pub returns-in-Err-clause-began : goal.returns-in-Err-clause-began
returns-in-Err-clause-began g c = tt

pub returns-in-Err-clause-err : goal.returns-in-Err-clause-err
returns-in-Err-clause-err g c = (failed g c).err

pub returns-in-Err-clause-own : goal.returns-in-Err-clause-own
returns-in-Err-clause-own g c = (failed g c).own

pub returns-in-Err-clause-disk : goal.returns-in-Err-clause-disk
returns-in-Err-clause-disk g c = (failed g c).disk

pub returns-in-Err-clause-step : goal.returns-in-Err-clause-step
returns-in-Err-clause-step g c = (failed g c).step

pub invariant_of-self-2 : goal.invariant_of-self-2
invariant_of-self-2 g c = ap (λ s. s.open_) c.in_default.ensures.ok

-- of what was loaded, what no volume has is in memory
beside : (loaded : Loaded) (files : Files) → AreOpened loaded.volumes files → AreBesideVolumes loaded.points (beside_volumes loaded) files
beside loaded files are = record { known = map known_of loaded.volumes; are = are; is = refl }

pub returns-clause-began : goal.returns-clause-began
returns-clause-began g c =
    let inside = c.self.inside in
    let loaded = c.args.loaded in
    let began : Began = record { fence = c.present_fence-fence.result; points = loaded.points } in
    let image = (g.met.D.Disk.lawful c.args.self.now.disk).read_is_image in
    let done =
    open_done g.D.Disk.state inside.standing inside.tenure inside.begun inside.work c.args.self.now inside.store c.open_store.new.store c.self.view_is c.args.tenure began tt c.requires.boot c.requires.high loaded.points loaded.tenure loaded.fence c.requires.not_higher
    c.requires.held c.requires.only image (beside_volumes loaded) c.in_default.ensures.ok (subst (λ d. (g.D.Disk.state d).tells ≡ true → c.open_store.new.store.content ≡ content_of loaded.points) (ap (λ m. m.disk) c.self.view_is) c.in_default.ensures.content) (λ told. beside loaded (g.D.Disk.state c.args.self.now.disk).files (c.requires.volumes told)) c.in_default.ensures.disk c.present_fence-fence.ensures refl in
    done.from

pub returns-clause-disk : goal.returns-clause-disk
returns-clause-disk g c =
    let inside = c.self.inside in
    let loaded = c.args.loaded in
    let began : Began = record { fence = c.present_fence-fence.result; points = loaded.points } in
    let image = (g.met.D.Disk.lawful c.args.self.now.disk).read_is_image in
    let done =
    open_done g.D.Disk.state inside.standing inside.tenure inside.begun inside.work c.args.self.now inside.store c.open_store.new.store c.self.view_is c.args.tenure began tt c.requires.boot c.requires.high loaded.points loaded.tenure loaded.fence c.requires.not_higher
    c.requires.held c.requires.only image (beside_volumes loaded) c.in_default.ensures.ok (subst (λ d. (g.D.Disk.state d).tells ≡ true → c.open_store.new.store.content ≡ content_of loaded.points) (ap (λ m. m.disk) c.self.view_is) c.in_default.ensures.content) (λ told. beside loaded (g.D.Disk.state c.args.self.now.disk).files (c.requires.volumes told)) c.in_default.ensures.disk c.present_fence-fence.ensures refl in
    done.disk

pub returns-clause-step : goal.returns-clause-step
returns-clause-step g c =
    let inside = c.self.inside in
    let loaded = c.args.loaded in
    let began : Began = record { fence = c.present_fence-fence.result; points = loaded.points } in
    let image = (g.met.D.Disk.lawful c.args.self.now.disk).read_is_image in
    let done =
    open_done g.D.Disk.state inside.standing inside.tenure inside.begun inside.work c.args.self.now inside.store c.open_store.new.store c.self.view_is c.args.tenure began tt c.requires.boot c.requires.high loaded.points loaded.tenure loaded.fence c.requires.not_higher
    c.requires.held c.requires.only image (beside_volumes loaded) c.in_default.ensures.ok (subst (λ d. (g.D.Disk.state d).tells ≡ true → c.open_store.new.store.content ≡ content_of loaded.points) (ap (λ m. m.disk) c.self.view_is) c.in_default.ensures.content) (λ told. beside loaded (g.D.Disk.state c.args.self.now.disk).files (c.requires.volumes told)) c.in_default.ensures.disk c.present_fence-fence.ensures refl in
    done.step
