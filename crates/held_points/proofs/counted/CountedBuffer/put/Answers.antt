use Rattle.std.proofs.Common.{◌≡◌, ◌+◌, Some, ap, sym, ◌∙◌, Bool, cond}
use Rattle.m3_model.specs.Contents.{key_of}
use Rattle.block_buffer.specs.Held.{InMemory}
use Rattle.held_points.proofs.CountLemmas.{counted_more}
use Rattle.held_points.proofs.counted.CountedBuffer.put.Goals as goal
use Rattle.held_points.proofs.counted.CountedBuffer.put.Goals.{then-self, else-self}

pub invariant_of-self : goal.invariant_of-self
invariant_of-self c =
    let inside = c.self.inside in
    let room : inside.buffer.room ≡ Some (key_of c.args.point.now) = ap (λ (h : InMemory). h.room) c.self.view_is ∙ c.requires in
    elim c.if-self.branch [
      | then-self w ↦
          let joined = rw w.self-inside-is at c.put.ensures.joined in
          rw w.self-inside-is
          (counted_more inside.count (inside.count + 1) inside.adds inside.buffer c.put.new.self c.args.point.now room joined (sym (ap (λ (b : Bool). cond b (inside.count + 1) inside.count) w.if-self.true)) c.self.invariant)
      | else-self w ↦
          let joined = rw w.self-inside-is at c.put.ensures.joined in
          rw w.self-inside-is (counted_more inside.count inside.count inside.adds inside.buffer c.put.new.self c.args.point.now room joined (sym (ap (λ (b : Bool). cond b (inside.count + 1) inside.count) w.if-self.false)) c.self.invariant)
    ]
