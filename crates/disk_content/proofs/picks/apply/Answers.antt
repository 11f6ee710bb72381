use Rattle.std.proofs.Common.{◌≡◌, ◌+◌, ◌%◌, ap, ◌∙◌, drop, map, get_or, arith, ◌∷◌}
use Rattle.std.proofs.lemmas.List.{drop-set-lt}
use Rattle.disk_content.specs.declared.undo_log.UndoEntry.{UndoEntry}
use Rattle.disk_content.specs.Undo.{as_write}
use Rattle.disk_content.proofs.PickLemmas.{left_inside, stepped}
use Rattle.disk_content.proofs.UndoLemmas.{first_here, from_here}
use Rattle.disk_content.proofs.picks.apply.Goals as goal

pub write-requires : goal.write-requires
write-requires c =
    let e : UndoEntry = get_or c.loop-entry.entries c.loop-entry.entry-index c.entry-item.result in
    let here : map as_write (drop c.loop-entry.entry-index c.args.entries.now) ≡ as_write e ∷ map as_write (drop (c.loop-entry.entry-index + 1) c.args.entries.now)
    = ap (map as_write) (first_here c.loop-entry.entries c.args.entries.now c.loop-entry.entry-index c.entry-item.result (omega arith) c.loop-entry.invariant.rest) in
    left_inside _ _ (as_write e) c.loop-entry.files (c.loop-entry.digits % 4) c.picked_bytes-left.result.now here c.loop-entry.invariant.fit c.picked_bytes-left.ensures

pub loop-entry-preserved : goal.loop-entry-preserved
loop-entry-preserved c =
    let i = c.loop-entry.entry-index in
    let now = c.loop-entry.entries in
    let e : UndoEntry = get_or now i c.entry-item.result in
    let here : map as_write (drop i c.args.entries.now) ≡ as_write e ∷ map as_write (drop (i + 1) c.args.entries.now)
    = ap (map as_write) (first_here now c.args.entries.now i c.entry-item.result (omega arith) c.loop-entry.invariant.rest) in
    let step = stepped _ _ (as_write e) c.loop-entry.files c.write.new.self c.loop-entry.digits c.picked_bytes-left.result.now here c.loop-entry.invariant.fit c.picked_bytes-left.ensures c.write.ensures in
    record {
      rest = drop-set-lt (i + 1) now i _ (omega arith) ∙ from_here now c.args.entries.now i c.entry-item.result (omega arith) c.loop-entry.invariant.rest;
      fit = step.fit;
      same = step.same ∙ c.loop-entry.invariant.same;
    }
