use Rattle.std.proofs.Common.{◌≡◌, ◌+◌, ◌≤◌, ◌∙◌, List, ℕ, length, sym, subst}
use Rattle.std.specs.Prelude.{OnOk}
use Rattle.m3_model.specs.declared.limits.TheConstants.{SEGMENT_BYTES}
use Rattle.joined_reads.specs.listed_volumes.wire_bytes.Entries.{points_entry}
use Rattle.joined_reads.specs.held_pages.Rises.{points_of}
use Rattle.store_log.proofs.EntryLengths.{entry_fits}
use Rattle.store_log.proofs.LogStepLemmas.{on_ok_as}
use Rattle.store_log.proofs.taking.spell.Goals as goal

-- the bytes are the entry's
spelled : (c : goal.After-drop-points) → OnOk c.put_points.result (c.put_points.new.out.items ≡ points_entry (points_of c.args.rises.now))
spelled c =
    on_ok_as c.put_points.result (λ is.
    let empty = c.clear.ensures in
    let lent = c.as_slice.ensures in
    let points = c.in_ok-points.ensures in
    cc) c.put_points.ensures.ok

pub returns-clause-ok : goal.returns-clause-ok
returns-clause-ok c = spelled c

pub returns-clause-short : goal.returns-clause-short
returns-clause-short c = on_ok_as c.put_points.result (λ is. subst (λ (l : List ℕ). 5 + length l ≤ SEGMENT_BYTES) (sym is) (entry_fits (points_of c.args.rises.now) c.requires)) (spelled c)
