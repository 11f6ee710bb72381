use Rattle.std.proofs.lemmas.Result.{on_ok_weaker}
use Rattle.byteorder.specs.Endian.{big_bytes}
use Rattle.wire_bytes.proofs.PointLemmas.{pushed}
use Rattle.meta_bytes.specs.States.{name_bytes}
use Rattle.meta_bytes.proofs.spaces.SpaceSpelled.put.Goals as goal

pub returns : goal.returns
returns c =
    let s = c.args.self.now in
    on_ok_weaker c.put_number-4.result
    (λ last. pushed c.args.out.now.items c.put_name.new.out.items c.put_number.new.out.items c.put_number-2.new.out.items c.put_number-3.new.out.items c.put_number-4.new.out.items
    (name_bytes s.name) (big_bytes 8 s.block) (big_bytes 8 s.past) (big_bytes 8 s.future) (big_bytes 8 s.retention)
    c.in_ok-put_name.ensures c.in_ok-put_number.ensures.ok c.in_ok-put_number-2.ensures.ok c.in_ok-put_number-3.ensures.ok last)
    c.put_number-4.ensures.ok
