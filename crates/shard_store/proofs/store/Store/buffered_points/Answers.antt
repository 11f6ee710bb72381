use Rattle.std.proofs.Common.{◌≡◌, ap, sym, ◌∙◌}
use Rattle.std.specs.Prelude.{ℤ, Option, None}
use Rattle.std.specs.FinMap as finite
use Rattle.std.specs.FinMap.{len-empty}
use Rattle.m3_model.specs.Keys.{key_cmp}
use Rattle.shard_store.specs.declared.opened.Opened.{Opened}
use Rattle.shard_store.specs.StoreParts.{buffered_in}
use Rattle.shard_store.proofs.store.Store.buffered_points.Goals as goal

pub returns-in-None-clause-counted : goal.returns-in-None-clause-counted
returns-in-None-clause-counted g c =
    let closed : c.self.inside.opened ≡ None = c.in-None.is in
    sym (ap (λ s. finite.len s.buffered) (sym c.self.view_is) ∙ ap (λ (o : Option Opened). finite.len (buffered_in o)) closed ∙ len-empty key_cmp ℤ)
