use Rattle.std.proofs.Common.{◌+◌, take, drop, ap, ◌∙◌, to_z, of_z, w64}
use Rattle.std.proofs.lemmas.Int.{of_z-to_z}
use Rattle.wire_bytes.specs.Fields.{IsFault}
use Rattle.wire_bytes.specs.Points.{APoint}
use Rattle.wire_bytes.proofs.PointLemmas.{fault_ns, fault_len, fault_id, fault_time, fault_value, point_stands, exit_err}
use Rattle.wire_bytes.proofs.points.read_point.Goals as goal

pub returns-in_err-ns-clause-err : goal.returns-in_err-ns-clause-err
returns-in_err-ns-clause-err c = exit_err c.from_residual.result c.in_err-ns.field-0.0 (IsFault APoint c.args.bytes.now c.args.at) c.from_residual.ensures.1
    (fault_ns c.args.bytes.now c.args.at c.in_err-ns.field-0.0 c.in_err-ns.ensures.err)

pub returns-in_err-len-clause-err : goal.returns-in_err-len-clause-err
returns-in_err-len-clause-err c = exit_err c.from_residual-in_err-len.result c.in_err-len.field-0.0 (IsFault APoint c.args.bytes.now c.args.at) c.from_residual-in_err-len.ensures.1
    (fault_len c.args.bytes.now c.args.at c.in_ok-ns.ns c.in_ok-ns.ensures.within.1 c.in_ok-ns.ensures.ok c.in_err-len.field-0.0 c.in_err-len.ensures.err)

pub returns-in_err-find_text-clause-err : goal.returns-in_err-find_text-clause-err
returns-in_err-find_text-clause-err c = exit_err c.from_residual-in_err-find_text.result c.in_err-find_text.field-0.0 (IsFault APoint c.args.bytes.now c.args.at) c.from_residual-in_err-find_text.ensures.1
    (fault_id c.args.bytes.now c.args.at c.in_ok-ns.ns c.in_ok-ns.ensures.within.1 c.in_ok-ns.ensures.ok
    c.in_ok-len.len c.in_ok-len.ensures.within.0 c.in_ok-len.ensures.within.1 c.in_ok-len.ensures.ok c.in_err-find_text.field-0.0 c.in_err-find_text.ensures.err)

pub returns-in_err-t-clause-err : goal.returns-in_err-t-clause-err
returns-in_err-t-clause-err c = exit_err c.from_residual-in_err-t.result c.in_err-t.field-0.0 (IsFault APoint c.args.bytes.now c.args.at) c.from_residual-in_err-t.ensures.1
    (fault_time c.args.bytes.now c.args.at c.in_ok-ns.ns c.in_ok-ns.ensures.within.1 c.in_ok-ns.ensures.ok
    c.in_ok-len.len c.in_ok-len.ensures.within.0 c.in_ok-len.ensures.within.1 c.in_ok-len.ensures.ok
    (take c.in_ok-len.len (drop (c.args.at + 3) c.args.bytes.now)) c.in_ok-find_text.ensures.text c.in_ok-find_text.ensures.ok c.in_err-t.field-0.0 c.in_err-t.ensures.err)

pub returns-in_err-v-clause-err : goal.returns-in_err-v-clause-err
returns-in_err-v-clause-err c = exit_err c.from_residual-in_err-v.result c.in_err-v.field-0.0 (IsFault APoint c.args.bytes.now c.args.at) c.from_residual-in_err-v.ensures.1
    (fault_value c.args.bytes.now c.args.at c.in_ok-ns.ns c.in_ok-ns.ensures.within.1 c.in_ok-ns.ensures.ok
    c.in_ok-len.len c.in_ok-len.ensures.within.0 c.in_ok-len.ensures.within.1 c.in_ok-len.ensures.ok
    (take c.in_ok-len.len (drop (c.args.at + 3) c.args.bytes.now)) c.in_ok-find_text.ensures.text c.in_ok-find_text.ensures.ok
    c.in_ok-t.t c.in_ok-t.ensures.within.1 c.in_ok-t.ensures.ok c.in_err-v.field-0.0 c.in_err-v.ensures.err)

pub returns-clause-ok : goal.returns-clause-ok
returns-clause-ok c =
    point_stands c.args.bytes.now c.args.at c.in_ok-ns.ns c.in_ok-ns.ensures.within.1 c.in_ok-ns.ensures.ok
    c.in_ok-len.len c.in_ok-len.ensures.within.0 c.in_ok-len.ensures.within.1 c.in_ok-len.ensures.ok
    (take c.in_ok-len.len (drop (c.args.at + 3) c.args.bytes.now)) c.in_ok-find_text.ensures.text c.in_ok-find_text.ensures.ok
    c.in_ok-t.t c.in_ok-t.ensures.within.1 c.in_ok-t.ensures.ok
    c.in_ok-v.v (to_z w64 (of_z w64 c.cast_signed.result)) c.in_ok-v.ensures.fits
    (ap (λ z. to_z w64 (of_z w64 z)) c.cast_signed.ensures ∙ ap (to_z w64) (of_z-to_z w64 c.in_ok-v.v c.in_ok-v.ensures.fits)) c.in_ok-v.ensures.ok
