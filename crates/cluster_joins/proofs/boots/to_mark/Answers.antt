use Rattle.std.proofs.Common.{refl, sym, ◌∙◌, arith}
use Rattle.cluster_joins.proofs.PartLemmas.{few_sources, none_of, prepared_so, some_of, unmoved_so}
use Rattle.cluster_joins.proofs.boots.to_mark.Goals as goal

pub prepared-requires : goal.prepared-requires
prepared-requires g c = record { few = few_sources c.args.node c.args.joined c.in-Ok.marking c.in-Ok.ensures.parts c.requires.few }

pub returns-in-Ok : goal.returns-in-Ok
returns-in-Ok g c =
    prepared_so c.args.members.now c.prepared.new.members c.args.node c.args.joined c.in-Ok.marking c.prepared.result (some_of c.args.joined (λ none. c.if-len-eq0.false (c.len.ensures ∙ none))) (omega arith) c.in-Ok.ensures.next c.in-Ok.ensures.lawful c.in-Ok.ensures.step c.in-Ok.ensures.parts c.prepared.ensures
