-- The laws over what a buffer's contracts say.
use Rattle.std.proofs.Common.{◌≡◌, ◌+◌, List, refl, ap, ◌∙◌, subst, true}
use Rattle.std.specs.Prelude.{Option, Some, None, slice_get}
use Rattle.std.proofs.lemmas.Bool.{leb-true, le-leb}
use Rattle.m3_model.specs.declared.point.Point.{Point}
use Rattle.m3_model.specs.declared.point.Matcher.{Matcher}
use Rattle.m3_model.specs.declared.point.Pick.TheVariants as pick
use Rattle.m3_model.specs.declared.rules.Rules.{Rules}
use Rattle.m3_model.specs.declared.rules.Space.{Space}
use Rattle.m3_model.specs.Members.{IsIn}
use Rattle.m3_model.specs.Rules.{HasExpired}
use Rattle.block_buffer.specs.Held.{has_ended}
use Rattle.block_buffer.specs.Laws.{NamesAllMatched, ExpiresAsRulesSay}

pub all_matched : NamesAllMatched
all_matched (pick.One ns id) none p = ((λ h. h), (λ h. h))
all_matched (pick.Match ns wanted) none p = ((λ h. h.0), (λ h. (h, λ tags has m i. absurd (subst (λ (w : List Matcher). IsIn w m) none i))))

expired_by : (rules : Rules) (p : Point) (o : Option Space) → slice_get rules.spaces p.ns ≡ o → has_ended o rules.now p.t ≡ true → HasExpired rules p
expired_by rules p None e h = cc
expired_by rules p (Some space) e h = record { space = space; stands = e; ended = leb-true (p.t + space.retention) rules.now h }

pub expires : ExpiresAsRulesSay
expires rules p = (
  (λ h. expired_by rules p (slice_get rules.spaces p.ns) refl h),
  (λ h. ap (λ o. has_ended o rules.now p.t) h.stands ∙ le-leb (p.t + h.space.retention) rules.now h.ended),
)
