use Rattle.std.proofs.Common.{◌∙◌, ◌∷◌, ◌++◌, [], ◌<◌, ◌^◌, map, ℕ, ap, sym, subst, refl, inl, inr, rules}
use Rattle.std.proofs.lemmas.List.{append_assoc}
use Rattle.m3_model.specs.Members.{IsIn}
use Rattle.tag_index.specs.declared.entry.Entry.{Entry}
use Rattle.tag_index.proofs.index.ordinals_of.Goals as goal

pub overflow_cast-key : goal.overflow_cast-key
overflow_cast-key c =
    let first : IsIn c.loop-key.key-iterator (c.in-Some.key, c.in-Some.field-0-1.now) = subst (λ es. IsIn es (c.in-Some.key, c.in-Some.field-0-1.now)) (sym c.in-Some.ensures.steps) (inl refl) in
    let small : c.in-Some.key < 2 ^ 32 = c.loop-key.invariant.small (c.in-Some.key, c.in-Some.field-0-1.now) first in
    search rules

pub loop-key-preserved : goal.loop-key-preserved
loop-key-preserved c = record {
  made =
      ap (λ os. os ++ map (λ (e : ℕ × Entry). e.0) c.next.new.self) c.in_ok-push.ensures.items
      ∙ append_assoc c.loop-key.ordinals.items (c.in-Some.key ∷ []) (map (λ (e : ℕ × Entry). e.0) c.next.new.self)
      ∙ ap (λ es. c.loop-key.ordinals.items ++ map (λ (e : ℕ × Entry). e.0) es) (sym c.in-Some.ensures.steps)
      ∙ c.loop-key.invariant.made;
  small = λ x h. c.loop-key.invariant.small x (subst (λ es. IsIn es x) (sym c.in-Some.ensures.steps) (inr h));
}
