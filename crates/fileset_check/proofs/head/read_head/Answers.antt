use Rattle.std.proofs.Common.{◌≡◌, inl, inr, List, ℕ, refl, sym, subst, arith, rules}
use Rattle.fileset_read.specs.wire_bytes.Volumes.{VolumeHead}
use Rattle.fileset_read.specs.shard_files.Damage.{IsInfo}
use Rattle.fileset_check.proofs.HeadLemmas.{size_stands, same_head}
use Rattle.fileset_check.proofs.head.read_head.Goals as goal

pub returns-then-not-is_inside-clause-err : goal.returns-then-not-is_inside-clause-err
returns-then-not-is_inside-clause-err c = inr ((λ i. let is = c.is_inside.ensures.1 i in absurd (cc)), refl)

pub returns-in-Some-clause-err : goal.returns-in-Some-clause-err
returns-in-Some-clause-err c = inl c.in-Some.ensures.some

pub returns-in-None-clause-ok : goal.returns-in-None-clause-ok
returns-in-None-clause-ok c =
    let of = c.args.of in
    let bytes = c.args.bytes.now in
    let x = c.in-None.ensures.none in
    let v = x.head in
    let low = x.info.values.size_high in
    let read = c.get_number.ensures.whole v.size (omega (arith, low)) (size_stands v x.info.series x.info.points bytes x.info.is) in
    let size : c.unwrap_or.result ≡ v.size = search rules in
    subst (λ (w : VolumeHead). IsInfo of.ns of.block of.number w bytes) (same_head of.ns of.block of.number c.unwrap_or.result v bytes x.info size) x.info
