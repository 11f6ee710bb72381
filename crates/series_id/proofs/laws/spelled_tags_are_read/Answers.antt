use Rattle.std.proofs.Common.{sym, inl, inr}
use Rattle.series_id.proofs.Excluded.{same_tags_of}
use Rattle.series_id.proofs.laws.spelled_tags_are_read.Goals as goal

pub returns-clause-identifier : goal.returns-clause-identifier
returns-clause-identifier c = λ id tags s. inr (tags, s)

pub returns-clause-same : goal.returns-clause-same
returns-clause-same c = λ id tags others s h. sym (same_tags_of id tags others (inl s) h)
