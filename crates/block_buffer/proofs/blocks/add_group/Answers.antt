use Rattle.std.proofs.Common.{◌≡◌, sym, subst, inl, inr, true, arith}
use Rattle.std.specs.Prelude.{◌⊎◌}
use Rattle.std.specs.BTreeSet.{contains}
use Rattle.block_buffer.specs.Blocks.{block_cmp, HasStartsAt, IsStartOf}
use Rattle.block_buffer.proofs.PositionLemmas.{eq_or_not}
use Rattle.block_buffer.proofs.EntryLemmas.{entry_at}
use Rattle.block_buffer.proofs.GroupLemmas.{end_within}
use Rattle.block_buffer.proofs.BlockLemmas.{still_starts, group_starts}
use Rattle.block_buffer.proofs.blocks.add_group.Goals as goal

pub add_series-requires-clause-at : goal.add_series-requires-clause-at
add_series-requires-clause-at c =
    let at = entry_at c.args.all.now c.loop-position.position (end_within c.args.group c.positions_of-first.result.1 _ c.loop-position.position c.positions_of-first.ensures.end c.loop-position-test.true) in
    (at.0, record { slots = at.1; entry = at.2 })

pub loop-position-preserved : goal.loop-position-preserved
loop-position-preserved c =
    let was = c.loop-position.invariant in
    let more = c.in_ok-add_series.ensures in
    record {
      kept = λ q h. more.kept q (was.kept q h);
      held = λ q h. elim (more.held q h) as (λ _. (contains block_cmp c.args.starts.now q ≡ true) ⊎ IsStartOf c.args.all.now c.args.ns c.args.size c.args.last q) [ inl before ↦ was.held q before | inr new ↦ inr new ];
      done = λ p low high. elim (eq_or_not p c.loop-position.position) as (λ _. HasStartsAt c.args.all.now c.args.ns c.args.size c.args.last (contains block_cmp c.add_series.new.starts) p) [
        | inl is ↦ subst (HasStartsAt c.args.all.now c.args.ns c.args.size c.args.last (contains block_cmp c.add_series.new.starts)) (sym is) more.whole
        | inr apart ↦
            still_starts c.args.all.now c.args.ns c.args.size c.args.last p (contains block_cmp c.loop-position.starts) (contains block_cmp c.add_series.new.starts) more.kept (was.done p low (omega (arith, high, apart)))
      ];
    }

pub returns-clause-whole : goal.returns-clause-whole
returns-clause-whole c =
    let past = c.loop-position-test.false in
    group_starts c.args.all.now c.args.ns c.args.size c.args.last (contains block_cmp c.loop-position.starts) c.positions_of-first.result.0 c.positions_of-first.result.1 c.args.group c.positions_of-first.ensures.first c.positions_of-first.ensures.end
    c.positions_of-first.ensures.fits (λ p low high. c.loop-position.invariant.done p low (omega (arith, past, high)))
