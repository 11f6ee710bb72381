-- What is taken of a slot: a disk that was made for it, or the one that lies there.
use Rattle.std.proofs.Common.{◌≡◌, sym, subst, ◌∙◌, Option, Some, None}
use Rattle.m3_outside.specs.Slots.{Held, Unused, Here, Out, MayGive}
use Rattle.disk_slots.specs.SlotStates.{disk_in}

module _ {D : Type 0} (empty : D → Type 0) where
  pub fresh_given : (h : Held D) (disk : D) → h ≡ Unused → empty disk → MayGive empty h disk
  fresh_given h disk unused is = subst (λ (k : Held D). MayGive empty k disk) (sym unused) is

  pub held_given : (h : Held D) (lent : Option D) (disk : D) → lent ≡ disk_in h → lent ≡ Some disk → MayGive empty h disk
  held_given Unused lent disk from is = absurd (cc)
  held_given (Here there) lent disk from is = let same : Some disk ≡ Some there = sym is ∙ from in cc
  held_given Out lent disk from is = absurd (cc)

  -- there is one
  pub one_given : (h : Held D) (lent : Option D) → (h ≡ Unused → ⊥) → (h ≡ Out → ⊥) → lent ≡ disk_in h → lent ≡ None → ⊥
  one_given Unused lent used here from none = used (λ i. Unused)
  one_given (Here there) lent used here from none = absurd (cc)
  one_given Out lent used here from none = here (λ i. Out)
