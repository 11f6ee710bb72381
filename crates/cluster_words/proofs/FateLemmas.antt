-- Lists of fates, each within its limits.
use Rattle.std.proofs.Common.{ℕ, List, [], ◌∷◌, ◌++◌, inl, inr, subst}
use Rattle.m3_model.specs.Limits.{IsFate}
use Rattle.m3_model.specs.Members.{IsIn}
use Rattle.m3_model.specs.declared.act.Fate.{Fate}
use Rattle.m3_model.proofs.MemberLemmas.{IsIn-append_cases}

abbrev pub Entry : Type 0
Entry = ℕ × ℕ × List ℕ × Fate

-- of fates within their limits and one more all are
pub all_pushed : (fates : List Entry) (one : Entry) → ((x : Entry) → IsIn fates x → IsFate x) → IsFate one → (x : Entry) → IsIn (fates ++ one ∷ []) x → IsFate x
all_pushed fates one before fine x m =
    elim (IsIn-append_cases fates (one ∷ []) x m) as (λ _. IsFate x) [
      | inl there ↦ before x there
      | inr last ↦ elim last as (λ _. IsFate x) [ inl same ↦ subst IsFate same fine | inr none ↦ absurd none ]
    ]
