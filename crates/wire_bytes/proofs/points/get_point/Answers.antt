use Rattle.wire_bytes.proofs.PointLemmas.{whole_answer, fault_answer}
use Rattle.wire_bytes.proofs.points.get_point.Goals as goal

pub returns-clause-whole : goal.returns-clause-whole
returns-clause-whole c = whole_answer c.read_point.result c.args.bytes.now c.args.at c.read_point.ensures.ok c.read_point.ensures.err

pub returns-clause-fault : goal.returns-clause-fault
returns-clause-fault c = fault_answer c.read_point.result c.args.bytes.now c.args.at c.read_point.ensures.ok c.read_point.ensures.err
