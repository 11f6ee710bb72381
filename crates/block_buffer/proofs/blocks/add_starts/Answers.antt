use Rattle.std.proofs.Common.{◌≡◌, inl, inr, true, arith}
use Rattle.std.specs.Prelude.{◌⊎◌}
use Rattle.std.proofs.lemmas.Bool.{cases_lt}
use Rattle.std.specs.BTreeSet.{contains}
use Rattle.series_slots.specs.Points.{slot_at}
use Rattle.series_slots.specs.SeriesEntries.{slots_of}
use Rattle.block_buffer.specs.Blocks.{block_cmp, HasStartsAt, IsStartOf}
use Rattle.block_buffer.specs.Spots.{group_of}
use Rattle.block_buffer.proofs.PositionLemmas.{eq_or_not}
use Rattle.block_buffer.proofs.ContentLemmas.{value_some}
use Rattle.block_buffer.proofs.BlockLemmas.{still_starts, late_starts, all_starts}
use Rattle.block_buffer.proofs.blocks.add_starts.Goals as goal

pub loop-group-preserved : goal.loop-group-preserved
loop-group-preserved c =
    let was = c.loop-group.invariant in
    let more = c.in_ok-add_group.ensures in
    let late = c.in-Some.ensures.some.1 in
    record {
      kept = λ q h. more.kept q (was.kept q h);
      held = λ q h. elim (more.held q h) as (λ _. (contains block_cmp c.args.starts.now q ≡ true) ⊎ IsStartOf c.args.all.now c.args.ns c.args.size c.args.last q) [ inl before ↦ was.held q before | inr new ↦ inr new ];
      done = λ p below. elim (cases_lt (group_of p) c.loop-group.next) as (λ _. HasStartsAt c.args.all.now c.args.ns c.args.size c.args.last (contains block_cmp c.add_group.new.starts) p) [
        | inl before ↦ still_starts c.args.all.now c.args.ns c.args.size c.args.last p (contains block_cmp c.loop-group.starts) (contains block_cmp c.add_group.new.starts) more.kept (was.done p before)
        | inr after ↦ elim (eq_or_not (group_of p) c.in-Some.group) as (λ _. HasStartsAt c.args.all.now c.args.ns c.args.size c.args.last (contains block_cmp c.add_group.new.starts) p) [
          | inl is ↦ more.whole p is
          | inr apart ↦ late_starts c.args.all.now c.args.ns c.args.size c.args.last p (contains block_cmp c.add_group.new.starts) (late p after (omega (arith, below, apart)))
        ]
      ];
    }

pub returns-clause-whole : goal.returns-clause-whole
returns-clause-whole c = all_starts c.args.all.now c.args.ns c.args.size c.args.last (contains block_cmp c.loop-group.starts) (λ p. elim (cases_lt (group_of p) c.loop-group.next) as (λ _. HasStartsAt c.args.all.now c.args.ns c.args.size c.args.last (contains block_cmp c.loop-group.starts) p) [
  | inl before ↦ c.loop-group.invariant.done p before
  | inr after ↦ late_starts c.args.all.now c.args.ns c.args.size c.args.last p (contains block_cmp c.loop-group.starts) (c.next_group.ensures.none c.in_default.is p after)
])

pub returns-clause-times : goal.returns-clause-times
returns-clause-times c k v e = c.next_group.ensures.times k (value_some (slot_at (slots_of c.args.all.now) k) v e)
