-- How the parts of an index agree.
use Rattle.std.specs.Prelude.{◌≡◌, ℕ, ◌<◌, ◌^◌, List, Option, Some, option_map, Bool}
use Rattle.std.specs.FinMap as finite
use Rattle.slab.specs.Slab.{Slab, entries}
use Rattle.tag_index.specs.declared.entry.Entry.{Entry}
use Rattle.tag_index.specs.Listed.{Listed}
use Rattle.tag_index.specs.Links.{Link, is_linked}

-- the series of the slots
abbrev pub listed : Slab Entry → Listed
listed slots = finite.from_sorted (entries slots)

-- each identifier's number is the slot that has it, each number fits, and exactly the tags of the slots are linked
pub record IsSound (number : List ℕ → Option ℕ) (slot : ℕ → Option Entry) (linked : Link → Bool) : Type 0 where
  pub named : (id : List ℕ) (o : ℕ) → number id ≡ Some o → option_map (λ e. e.id) (slot o) ≡ Some id
  pub numbered : (o : ℕ) (e : Entry) → slot o ≡ Some e → number e.id ≡ Some o
  pub small : (o : ℕ) (e : Entry) → slot o ≡ Some e → o < 2 ^ 32
  pub links : (q : Link) → linked q ≡ is_linked (slot q.ordinal) q
