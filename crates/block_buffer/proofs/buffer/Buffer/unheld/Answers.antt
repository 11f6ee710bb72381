use Rattle.std.proofs.Common.{◌≡◌, false, true, inl, inr, ap, sym, ◌∙◌, arith}
use Rattle.std.specs.Prelude.{is_some}
use Rattle.std.specs.FinMap as finite
use Rattle.m3_model.specs.declared.point.Key.{Key}
use Rattle.block_buffer.proofs.PositionLemmas.{eq_or_not}
use Rattle.series_slots.specs.Points.{slot_at}
use Rattle.series_slots.specs.SeriesEntries.{slots_of}
use Rattle.series_slots.proofs.PointLemmas.{get-points}
use Rattle.block_buffer.specs.Held.{InMemory}
use Rattle.block_buffer.proofs.ContentLemmas.{value_some, slot_valued}
use Rattle.block_buffer.proofs.RoomLemmas.{only_of}
use Rattle.block_buffer.proofs.TakenLemmas.{value_in}
use Rattle.block_buffer.proofs.buffer.Buffer.unheld.Goals as goal

pub returns-then-has : goal.returns-then-has
returns-then-has c =
    let only = only_of c.self.inside.sought c.self.inside.room c.self.inside.all (ap (λ (h : InMemory). h.room) c.self.view_is ∙ c.requires) c.self.invariant.1 in
    let there = c.has.ensures.some c.if-has.true in
    let key : Key = record { ns = c.loop-space.space; id = c.loop-space.series.id; t = there.0 } in
    let value = slot_valued c.self.inside.all key only there.1 in
    record {
      key = key;
      v = value.0;
      stands = ap (λ (h : InMemory). finite.get h.points key) (sym c.self.view_is) ∙ get-points (slots_of c.self.inside.all) key ∙ value.1;
      named = c.loop-space.invariant.named;
    }

pub loop-space-preserved : goal.loop-space-preserved
loop-space-preserved c = record {
  named = c.loop-space.invariant.named;
  none = λ k v stands named low. elim (eq_or_not k.ns c.loop-space.space) as (λ _. ⊥) [
    | inl is ↦
        let here = value_in c.self.inside.all k v (ap (λ (h : InMemory). finite.get h.points k) c.self.view_is ∙ stands) in
        let some = value_some (slot_at (slots_of c.self.inside.all) k) v here in
        let same : k ≡ record { ns = c.loop-space.space; id = c.loop-space.series.id; t = k.t } = λ i. record { ns = is i; id = (named ∙ sym c.loop-space.invariant.named) i; t = k.t } in
        let wrong : false ≡ true = sym (ap is_some (ap (slot_at (slots_of c.self.inside.all)) same ∙ c.has.ensures.none c.if-has.false k.t)) ∙ some in
        cc
    | inr apart ↦ c.loop-space.invariant.none k v stands named (omega (arith, low, apart))
  ];
}

pub returns : goal.returns
returns c = (
  c.loop-space.invariant.named,
  λ h.
      let here = value_in c.self.inside.all h.key h.v (ap (λ (m : InMemory). finite.get m.points h.key) c.self.view_is ∙ h.stands) in
      let below = c.spaces-space-end.ensures.below h.key (value_some (slot_at (slots_of c.self.inside.all) h.key) h.v here) in
      let end = c.loop-space-test.false in
      c.loop-space.invariant.none h.key h.v h.stands h.named (omega (arith, below, end)),
)
