use Rattle.std.proofs.Common.{sym, subst, Bool}
use Rattle.std.specs.Prelude.{MatchBool}
use Rattle.tag_index.specs.Listed.{IsAt}
use Rattle.held_points.specs.Indexed.{IsNewlyListed, WasListed}
use Rattle.held_points.proofs.IndexLemmas.{unlisted}
use Rattle.held_points.proofs.listing.unlist.Goals as goal

pub returns-then-newly : goal.returns-then-newly
returns-then-newly c = λ before listed.
    let index = c.args.index.now in
    let id = c.args.id.now in
    let newly : IsNewlyListed before index id = subst (λ (b : Bool). MatchBool b (IsNewlyListed before index id) (WasListed before index id)) c.if-newly.true listed in
    unlisted before index c.remove.new.self id newly (λ o at. c.remove.ensures.removed o (subst (IsAt index o) (sym c.as_str.ensures) at))
