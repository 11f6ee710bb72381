use Rattle.std.proofs.Common.{List, ℕ, ap, ◌∙◌, sym}
use Rattle.std.specs.Prelude.{option_map}
use Rattle.tag_index.specs.declared.entry.Entry.{Entry}
use Rattle.tag_index.specs.Listed.{Listed}
use Rattle.tag_index.specs.Laws.{ListsEntry, IsPosted}
use Rattle.tag_index.proofs.laws.postings_agree.Goals as goal

one_way : (m n : Listed) → ((e : Entry) → ListsEntry m e → ListsEntry n e) → (name value id : List ℕ) → IsPosted m name value id → IsPosted n name value id
one_way m n same name value id h =
    let found = same h.1.0 (h.0, h.1.1) in
    (found.0, (h.1.0, found.1, h.1.2), ap (option_map (λ (e : Entry). e.id)) (found.1 ∙ sym h.1.1) ∙ h.2)

pub returns : goal.returns
returns c m n same name value id = (one_way m n (λ e. (same e).0) name value id, one_way n m (λ e. (same e).1) name value id)
