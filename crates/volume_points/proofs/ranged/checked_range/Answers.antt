use Rattle.std.proofs.Common.{sym, subst, true≢false}
use Rattle.fileset_check.specs.volume_bytes.Heads.{head_of}
use Rattle.volume_points.specs.Candidates.{MayStand}
use Rattle.volume_points.proofs.VolumeLemmas.{range_stands}
use Rattle.volume_points.proofs.ranged.checked_range.Goals as goal

pub returns-then-not-may_stand-clause-sound : goal.returns-then-not-may_stand-clause-sound
returns-then-not-may_stand-clause-sound g c = λ t.
    let v = head_of c.args.head.now in
    let there = c.requires.there t in
    let found = c.in_ok-found.found in
    let stand = range_stands v _ _ _ there.rows found there.holds.values (c.in_ok-found.ensures.ok t there.rows there.holds) in
    true≢false (sym (c.if-not-may_stand.ensures.1 (subst (MayStand v) (sym c.as_slice.ensures) stand)))
