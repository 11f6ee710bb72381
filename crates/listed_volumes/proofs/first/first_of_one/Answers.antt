use Rattle.std.proofs.Common.{List, [], ◌∷◌, Option, sym, subst}
use Rattle.std.specs.Prelude.{IfSome}
use Rattle.std.specs.Option.{option_copied}
use Rattle.m3_model.specs.Contents.{content_of}
use Rattle.m3_model.specs.declared.point.Point.{Point}
use Rattle.m3_model.specs.declared.point.Series.{Series}
use Rattle.volume_points.specs.wire_bytes.Volumes.{points_of_rows}
use Rattle.first_points.specs.Bounds.{points_up_to}
use Rattle.first_points.specs.Firsts.{AreFirst}
use Rattle.volume_points.proofs.commit_log_proofs.Leaves.{leaves_none}
use Rattle.volume_points.specs.volume_bytes.Heads.{head_of}
use Rattle.listed_volumes.specs.Cached.{cache_key}
use Rattle.listed_volumes.specs.FirstListed.{AreFirstInRows}
use Rattle.listed_volumes.specs.Listed.{known_as}
use Rattle.listed_volumes.proofs.CachedLemmas.{listed_got, right_got, right_rows}
use Rattle.listed_volumes.proofs.TimeLemmas.{first_apart}
use Rattle.listed_volumes.proofs.first.first_of_one.Goals as goal

pub returns-then-is_apart-clause-leaves : goal.returns-then-is_apart-clause-leaves
returns-then-is_apart-clause-leaves g c = leaves_none _ (g.D.Disk.state c.args.disk.now) (λ f. absurd (cc))

pub returns-then-is_apart-clause-first : goal.returns-then-is_apart-clause-first
returns-then-is_apart-clause-first g c = λ tells.
    let v = head_of c.args.volume.now.head in
    let after = option_copied c.args.after in
    let last = option_copied c.args.last in
    subst (AreFirst (content_of (points_up_to last (points_of_rows v.ns c.args.volume.now.rows.value))) after c.args.limit) (sym c.new.ensures)
    (first_apart after last c.args.limit v c.args.volume.now.rows.value (c.requires.there tells).values (c.is_apart.ensures c.if-is_apart.true))

-- ---- the rows are kept

pub returns-in-Ok-Some-clause-leaves : goal.returns-in-Ok-Some-clause-leaves
returns-in-Ok-Some-clause-leaves g c = leaves_none _ (g.D.Disk.state c.args.disk.now) (λ f. absurd (cc))

pub returns-in-Ok-Some-clause-first : goal.returns-in-Ok-Some-clause-first
returns-in-Ok-Some-clause-first g c = λ tells.
    let v = head_of c.args.volume.now.head in
    let rows = c.args.volume.now.rows.value in
    let after = option_copied c.args.after in
    let last = option_copied c.args.last in
    let found = subst (λ (o : Option (List Point)). IfSome o (AreFirstInRows (cache_key v) c.args.kept.now after last c.args.limit)) c.in-Ok-Some.field-0-is c.in-Ok-Some.ensures.first in
    let same = right_rows (known_as c.args.volume.now) c.args.kept.now found.rows (c.requires.right tells) found.kept in
    subst (λ (l : List Series). AreFirst (content_of (points_up_to last (points_of_rows v.ns l))) after c.args.limit c.in-Ok-Some.points) same found.first

pub returns-in-Ok-Some-clause-kept : goal.returns-in-Ok-Some-clause-kept
returns-in-Ok-Some-clause-kept g c = listed_got (known_as c.args.volume.now ∷ []) (cache_key (head_of c.args.volume.now.head)) c.args.kept.now c.first.new.self c.first.ensures.used

pub returns-in-Ok-Some-clause-right : goal.returns-in-Ok-Some-clause-right
returns-in-Ok-Some-clause-right g c = λ tells. right_got (g.D.Disk.state c.args.disk.now).files (cache_key (head_of c.args.volume.now.head)) c.args.kept.now c.first.new.self c.first.ensures.used

-- ---- they are read

pub returns-in-Ok-None-clause-kept : goal.returns-in-Ok-None-clause-kept
returns-in-Ok-None-clause-kept g c = λ known among listed. c.first_unkept.ensures.kept known among (listed_got (known_as c.args.volume.now ∷ []) (cache_key (head_of c.args.volume.now.head)) c.args.kept.now c.first.new.self c.first.ensures.used known among listed)

pub returns-in-Ok-None-clause-right : goal.returns-in-Ok-None-clause-right
returns-in-Ok-None-clause-right g c = λ tells known held right. c.first_unkept.ensures.right tells known held (right_got (g.D.Disk.state c.args.disk.now).files (cache_key (head_of c.args.volume.now.head)) c.args.kept.now c.first.new.self c.first.ensures.used known held right)

-- ---- no memory for what is found

pub returns-in-Err-clause-leaves : goal.returns-in-Err-clause-leaves
returns-in-Err-clause-leaves g c = leaves_none _ (g.D.Disk.state c.args.disk.now) (λ f. absurd (let bad = f in cc))

pub returns-in-Err-clause-kept : goal.returns-in-Err-clause-kept
returns-in-Err-clause-kept g c = listed_got (known_as c.args.volume.now ∷ []) (cache_key (head_of c.args.volume.now.head)) c.args.kept.now c.first.new.self c.first.ensures.used

pub returns-in-Err-clause-right : goal.returns-in-Err-clause-right
returns-in-Err-clause-right g c = λ tells. right_got (g.D.Disk.state c.args.disk.now).files (cache_key (head_of c.args.volume.now.head)) c.args.kept.now c.first.new.self c.first.ensures.used
