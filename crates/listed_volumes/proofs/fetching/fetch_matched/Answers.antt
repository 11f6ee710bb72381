use Rattle.std.proofs.Common.{List, [], ◌∷◌, Option, subst}
use Rattle.std.specs.Prelude.{IfSome}
use Rattle.m3_model.specs.Reads.{IsOrdered}
use Rattle.m3_model.specs.declared.point.Series.{Series}
use Rattle.volume_points.proofs.commit_log_proofs.Leaves.{leaves_none}
use Rattle.volume_points.specs.volume_bytes.Heads.{head_of}
use Rattle.volume_points.proofs.VolumeLemmas.{answer_of_one}
use Rattle.listed_volumes.specs.Cached.{IsFoundInRows, cache_key}
use Rattle.listed_volumes.specs.Listed.{known_as}
use Rattle.listed_volumes.proofs.CachedLemmas.{listed_got, matched_all, right_got, right_rows}
use Rattle.listed_volumes.proofs.fetching.fetch_matched.Goals as goal

pub returns-then-not-may_meet-clause-leaves : goal.returns-then-not-may_meet-clause-leaves
returns-then-not-may_meet-clause-leaves g c = leaves_none _ (g.D.Disk.state c.args.disk.now) (λ f. absurd (cc))

-- ---- the rows are kept

pub returns-in-Ok-Some-clause-leaves : goal.returns-in-Ok-Some-clause-leaves
returns-in-Ok-Some-clause-leaves g c = leaves_none _ (g.D.Disk.state c.args.disk.now) (λ f. absurd (cc))

pub returns-in-Ok-Some-clause-answer : goal.returns-in-Ok-Some-clause-answer
returns-in-Ok-Some-clause-answer g c = λ tells.
    let v = head_of c.args.volume.now.head in
    let rows = c.args.volume.now.rows.value in
    let found = subst (λ (o : Option (List Series)). IfSome o (IsFoundInRows (cache_key v) c.args.kept.now c.args.pick.now c.args.from c.args.to)) c.in-Ok-Some.field-0-is c.in-Ok-Some.ensures.found in
    let ordered = subst (λ (o : Option (List Series)). IfSome o IsOrdered) c.in-Ok-Some.field-0-is c.in-Ok-Some.ensures.ordered in
    let same = right_rows (known_as c.args.volume.now) c.args.kept.now found.0 (c.requires.right tells) found.1 in
    answer_of_one v rows (c.requires.there tells).values c.args.pick.now c.args.from c.args.to found.0 c.in-Ok-Some.series (c.may_meet.ensures.space c.if-not-may_meet.false)
    (matched_all c.args.pick.now rows found.0 c.requires.matched same) ordered found.2

pub returns-in-Ok-Some-clause-kept : goal.returns-in-Ok-Some-clause-kept
returns-in-Ok-Some-clause-kept g c = listed_got (known_as c.args.volume.now ∷ []) (cache_key (head_of c.args.volume.now.head)) c.args.kept.now c.find.new.self c.find.ensures.used

pub returns-in-Ok-Some-clause-right : goal.returns-in-Ok-Some-clause-right
returns-in-Ok-Some-clause-right g c = λ tells. right_got (g.D.Disk.state c.args.disk.now).files (cache_key (head_of c.args.volume.now.head)) c.args.kept.now c.find.new.self c.find.ensures.used

-- ---- they are read

pub returns-in-Ok-None-clause-kept : goal.returns-in-Ok-None-clause-kept
returns-in-Ok-None-clause-kept g c = λ known among listed. c.read_matched.ensures.kept known among (listed_got (known_as c.args.volume.now ∷ []) (cache_key (head_of c.args.volume.now.head)) c.args.kept.now c.find.new.self c.find.ensures.used known among listed)

pub returns-in-Ok-None-clause-right : goal.returns-in-Ok-None-clause-right
returns-in-Ok-None-clause-right g c = λ tells known held right. c.read_matched.ensures.right tells known held (right_got (g.D.Disk.state c.args.disk.now).files (cache_key (head_of c.args.volume.now.head)) c.args.kept.now c.find.new.self c.find.ensures.used known held right)

-- ---- no memory for what is found

pub returns-in-Err-clause-leaves : goal.returns-in-Err-clause-leaves
returns-in-Err-clause-leaves g c = leaves_none _ (g.D.Disk.state c.args.disk.now) (λ f. absurd (let bad = f in cc))

pub returns-in-Err-clause-kept : goal.returns-in-Err-clause-kept
returns-in-Err-clause-kept g c = listed_got (known_as c.args.volume.now ∷ []) (cache_key (head_of c.args.volume.now.head)) c.args.kept.now c.find.new.self c.find.ensures.used

pub returns-in-Err-clause-right : goal.returns-in-Err-clause-right
returns-in-Err-clause-right g c = λ tells. right_got (g.D.Disk.state c.args.disk.now).files (cache_key (head_of c.args.volume.now.head)) c.args.kept.now c.find.new.self c.find.ensures.used
