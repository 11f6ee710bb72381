use Rattle.std.proofs.Common.{◌≡◌, List, ℕ, sym, subst}
use Rattle.std.proofs.lemmas.Option.{IfSome_then}
use Rattle.fileset_read.specs.wire_bytes.Fields.{StopsAt}
use Rattle.fileset_read.specs.shard_files.Damage.{IsSomeInfo}
use Rattle.fileset_check.specs.Numbers.{AreFields, AreNumbers, info_fields}
use Rattle.fileset_check.specs.declared.numbers.Field.{Field}
use Rattle.fileset_check.proofs.HeadLemmas.{info_fit, info_from, info_stops}
use Rattle.fileset_check.proofs.OptionLemmas.{none_as}
use Rattle.fileset_check.proofs.head.info_stop.Goals as goal

pub number_stop-requires : goal.number_stop-requires
number_stop-requires c = subst AreFields (sym c.info_fields.ensures) (info_fit c.args.of.ns c.args.of.block c.args.of.number c.requires)

pub returns-clause-none : goal.returns-clause-none
returns-clause-none c =
    let of = c.args.of in
    none_as c.number_stop.result (AreNumbers c.info_fields.result c.args.bytes.now) (IsSomeInfo of.ns of.block of.number c.args.bytes.now)
    (λ x. info_from of.ns of.block of.number c.args.bytes.now c.requires (subst (λ (l : List Field). AreNumbers l c.args.bytes.now) c.info_fields.ensures x)) c.number_stop.ensures.none

pub returns-clause-some : goal.returns-clause-some
returns-clause-some c =
    let of = c.args.of in
    IfSome_then c.number_stop.result c.number_stop.ensures.some
    (λ at s. info_stops of.ns of.block of.number c.args.bytes.now at c.requires (subst (λ (l : List Field). StopsAt (AreNumbers l) c.args.bytes.now at) c.info_fields.ensures s))
