use Rattle.std.proofs.Common.{rules, sym, subst}
use Rattle.fileset_check.specs.m3_model.Ascends.{Ascends}
use Rattle.snapshot_files.specs.Snaps.{IsBefore}
use Rattle.snapshot_files.proofs.lawful.is_snapshot.Goals as goal

pub returns-then-are_bounded : goal.returns-then-are_bounded
returns-then-are_bounded c = (
  λ t. record {
    number = search rules;
    tenure = search rules;
    fence = search rules;
    first_segment = search rules;
    counted = search rules;
    bounded = search rules;
    ascending = search rules;
  },
  λ s. c.is_ascending.ensures.1 (subst (Ascends IsBefore) (sym c.as_slice-points.ensures) s.ascending),
)
