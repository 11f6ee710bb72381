use Rattle.std.proofs.Common.{drop}
use Rattle.m3_model.specs.Members.{IsIn}
use Rattle.tag_query.proofs.matchers.has_tag.Given as goal

abbrev pub invariant-loop-tag : goal.invariant-loop-tag
invariant-loop-tag l = IsIn l.tags (l.name, l.value) → IsIn (drop l.tag-index l.tags) (l.name, l.value)
