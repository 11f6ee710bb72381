use Rattle.std.proofs.Common.{ℕ, List, ◌++◌, ap, ◌∙◌}
use Rattle.std.proofs.lemmas.Result.{on_ok_weaker}
use Rattle.byteorder.specs.Endian.{big_bytes}
use Rattle.m3_model.specs.declared.placement.Assignment.{Assignment}
use Rattle.m3_model.specs.declared.placement.Instance.{Instance}
use Rattle.m3_model.specs.declared.rules.Space.{Space}
use Rattle.meta_bytes.specs.States.{counted_bytes, instance_bytes, shard_bytes, space_bytes}
use Rattle.meta_bytes.proofs.ListLemmas.{then_put}
use Rattle.meta_bytes.proofs.state.put_state.Goals as goal

pub returns : goal.returns
returns c =
    let s = c.args.state.now in
    let o = c.args.out.now.items in
    let p1 = c.put_number.new.out.items in
    let p2 = c.put_number-2.new.out.items in
    let p3 = c.put_number-3.new.out.items in
    let p4 = c.put_number-4.new.out.items in
    let p5 = c.put_number-5.new.out.items in
    let p6 = c.put_all.new.out.items in
    let p7 = c.put_all-2.new.out.items in
    let p8 = c.put_all-3.new.out.items in
    let seven = counted_bytes shard_bytes s.place.shards in
    let eight = counted_bytes space_bytes s.rules.spaces in
    let six = counted_bytes instance_bytes s.place.instances in
    let e3 = c.in_ok-put_number-3.ensures.ok ∙ ap (λ (n : ℕ). p2 ++ big_bytes 4 n) c.from.ensures in
    let e4 = c.in_ok-put_number-4.ensures.ok ∙ ap (λ (n : ℕ). p3 ++ big_bytes 1 n) c.from-2.ensures in
    let e6 = c.in_ok-put_all.ensures ∙ ap (λ (l : List Instance). p5 ++ counted_bytes instance_bytes l) c.as_slice.ensures in
    let e7 = c.in_ok-put_all-2.ensures ∙ ap (λ (l : List (List Assignment)). p6 ++ counted_bytes shard_bytes l) c.as_slice-2.ensures in
    on_ok_weaker c.put_all-3.result
    (λ last.
    then_put o p1 p8 (big_bytes 1 1) _ c.in_ok-put_number.ensures.ok
    (then_put p1 p2 p8 (big_bytes 8 s.rules.now) _ c.in_ok-put_number-2.ensures.ok
    (then_put p2 p3 p8 (big_bytes 4 s.seed) _ e3
    (then_put p3 p4 p8 (big_bytes 1 s.place.rf) _ e4
    (then_put p4 p5 p8 (big_bytes 8 s.place.version) (six ++ (seven ++ eight)) c.in_ok-put_number-5.ensures.ok
    (then_put p5 p6 p8 six (seven ++ eight) e6
    (then_put p6 p7 p8 seven eight e7 (last ∙ ap (λ (l : List Space). p7 ++ counted_bytes space_bytes l) c.as_slice-3.ensures))))))))
    c.put_all-3.ensures
