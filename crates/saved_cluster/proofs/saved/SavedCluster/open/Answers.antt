use Rattle.std.proofs.Common.{refl, sym, ap, ◌∙◌, inl}
use Rattle.std.specs.Prelude.{Err}
use Rattle.saved_cluster.specs.Openings.{HasMetaDisk, IsMetaDisk}
use Rattle.saved_cluster.proofs.OpenLemmas.{back_none_out, given_back, not_opened_so, not_taken, opens_out}
use Rattle.saved_cluster.proofs.OutLemmas.{left_out, meta_at}
use Rattle.saved_cluster.proofs.saved.SavedCluster.open.Goals as goal

-- The meta disk couldn't be taken.
pub returns-in-Err-Failed : goal.returns-in-Err-Failed
returns-in-Err-Failed g c =
    let before = g.X.Disks.depot c.args.disks.now in
    let after = g.X.Disks.depot c.take.new.self in
    let take = c.take.ensures in
    let back = not_taken g.D.Disk.state before after c.in-Err-Failed.ensures.refused take.others take.counted take.cause.later in
    record { opened = tt; may = tt; stands = tt; none_out = back_none_out g.D.Disk.state before after back c.requires.none_out; returned = back; cause = inl (c.in-Err-Failed.ensures.cause.rose (ap Err c.in-Err-Failed.field-0-is)) }

pub returns-in-Err-Memory : goal.returns-in-Err-Memory
returns-in-Err-Memory g c =
    let before = g.X.Disks.depot c.args.disks.now in
    let after = g.X.Disks.depot c.take.new.self in
    let take = c.take.ensures in
    let back = not_taken g.D.Disk.state before after c.in-Err-Memory.ensures.refused take.others take.counted take.cause.later in
    record { opened = tt; may = tt; stands = tt; none_out = back_none_out g.D.Disk.state before after back c.requires.none_out; returned = back; cause = tt }

-- Those of nodes are where they were.
pub opened_over-requires : goal.opened_over-requires
opened_over-requires g c = record { free = λ disk_slot other out. c.requires.none_out disk_slot (sym (c.take.ensures.others disk_slot other) ∙ out) }

-- It is opened.
pub returns-in-Ok-opened_over : goal.returns-in-Ok-opened_over
returns-in-Ok-opened_over g c =
    let mid = g.X.Disks.depot c.take.new.self in
    let new = g.X.Disks.depot c.opened_over.new.disks in
    let take = c.take.ensures in
    let over = c.in-Ok-opened_over.ensures in
    record {
      opened = record {
        disk = c.in-Ok.meta;
        is_meta = record { given = c.in-Ok.ensures.disk; counted = c.in-Ok.ensures.disk_faults };
        read = c.opened_over.ensures.read;
        mid = mid;
        has = record { held = c.in-Ok.ensures.out; others = take.others; counted = take.counted; later = take.cause.later };
        last = over.last;
        opens = over.opened;
        calls = over.calls;
        tracks = over.tracks;
      };
      may = record { cluster = over.may; meta_out = opens_out g.D.Disk.state _ mid new c.in-Ok-opened_over.cluster.members over.opened c.in-Ok.ensures.out; log = over.log; state = over.state; saved = over.saved };
      stands = over.stands;
      none_out = tt;
      returned = tt;
      cause = tt;
    }

-- It couldn't be: the meta disk is given back behind those of nodes.
pub give-requires : goal.give-requires
give-requires g c =
    left_out g.D.Disk.state (g.X.Disks.depot c.take.new.self) (g.X.Disks.depot c.opened_over.new.disks) (c.in-Err.ensures.returned.each meta_at) c.in-Ok.ensures.out

pub returns-in-Err : goal.returns-in-Err
returns-in-Err g c =
    let before = g.X.Disks.depot c.args.disks.now in
    let mid = g.X.Disks.depot c.take.new.self in
    let after = g.X.Disks.depot c.opened_over.new.disks in
    let new = g.X.Disks.depot c.give.new.self in
    let take = c.take.ensures in
    let give = c.give.ensures in
    let disk = c.in-Ok.meta in
    let read = c.opened_over.new.meta in
    let is_meta : IsMetaDisk g.D.Disk.state before disk = record { given = c.in-Ok.ensures.disk; counted = c.in-Ok.ensures.disk_faults } in
    let has : HasMetaDisk before mid = record { held = c.in-Ok.ensures.out; others = take.others; counted = take.counted; later = take.cause.later } in
    let back = given_back g.D.Disk.state before mid after new disk read is_meta has c.in-Err.ensures.returned c.opened_over.ensures.read give.here give.counted give.others give.counted_others give.cause.later in
    record {
      opened = tt;
      may = tt;
      stands = tt;
      none_out = back_none_out g.D.Disk.state before new back c.requires.none_out;
      returned = back;
      cause = not_opened_so g.D.Disk.state before mid after new disk read c.in-Err.why is_meta take.cause.later give.cause.later give.counted c.in-Err.ensures.cause;
    }
