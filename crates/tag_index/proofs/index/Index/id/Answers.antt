use Rattle.std.proofs.Common.{◌∙◌, sym, ap}
use Rattle.std.specs.Prelude.{option_map}
use Rattle.tag_index.specs.declared.entry.Entry.{Entry}
use Rattle.tag_index.proofs.IndexLemmas.{slot_at}
use Rattle.tag_index.proofs.index.Index.id.Goals as goal

pub returns-in_err-entry : goal.returns-in_err-entry
returns-in_err-entry c =
    ap (option_map (λ t. t.now)) c.from_residual.ensures
    ∙ ap (option_map (λ (e : Entry). e.id)) (c.in_err-entry.ensures ∙ sym (slot_at _ c.self.inside.slots _ c.args.self.now c.self.view_is c.self.invariant c.args.ordinal))

pub returns : goal.returns
returns c = ap (option_map (λ (e : Entry). e.id)) (c.in_ok-entry.ensures ∙ sym (slot_at _ c.self.inside.slots _ c.args.self.now c.self.view_is c.self.invariant c.args.ordinal))
