-- A trail stays one with each lawful event.
use Rattle.std.proofs.Common.{◌≡◌, ℕ, ◌+◌, ◌<◌, ◌≤◌, List, [], ◌∷◌, ◌++◌, length, refl, sym, ap, ◌∙◌, subst, arith, length-append}
use Rattle.std.proofs.lemmas.Bool.{ltb-true}
use Rattle.m3_outside.specs.DiskState.{DiskState}
use Rattle.event_book.specs.Lists.{most_entries}
use Rattle.cluster_core.specs.Legal.{LawfulAt, IsOpeningPlace, IsSecond}
use Rattle.cluster_core.specs.declared.event.Event.{Event}
use Rattle.cluster_core.proofs.ExtendLemmas.{legal_push}
use Rattle.cluster_core.proofs.ListLemmas.{at_within}
use Rattle.event_trail.specs.Trails.{IsTrail, IsLawfulOver}

zero_le : (n : ℕ) → 0 ≤ n
zero_le n = omega arith

next_le : (most before after : ℕ) → before < most → after ≡ before + 1 → after ≤ most
next_le most before after low next = omega (arith, low, next)

zero_low : 0 < most_entries
zero_low = ltb-true 0 most_entries refl

one_low : 1 < most_entries
one_low = ltb-true 1 most_entries refl

module _ {D : Type 0} (state : D → DiskState) where
  empty_trail : IsTrail state 0 []
  empty_trail = record { len_is = refl; short = zero_le most_entries; legal = λ tells all i e there. let low = at_within [] i e there in absurd (omega (arith, low)) }

  pub longer_trail : (len : ℕ) (inside past more : List Event) (e : Event) → inside ≡ past → more ≡ inside ++ e ∷ [] → IsTrail state len inside → IsLawfulOver state past e → length past < most_entries → IsTrail state (len + 1) more
  longer_trail len inside past more e view grew trail lawful room =
      let is = trail.len_is in
      let long = length-append inside (e ∷ []) in
      let same = ap length view in
      subst (λ l. IsTrail state (len + 1) l) (sym grew)
      record {
        len_is = omega (arith, is, long);
        short = next_le most_entries (length past) (length (inside ++ e ∷ [])) room (long ∙ ap (λ n. n + 1) same);
        legal = λ tells all. legal_push tells inside e (trail.legal tells all) (subst (λ l. LawfulAt tells (length l) l e) (sym view) (lawful tells all));
      }

  -- a run opens with a lawful placement, and then with rules
  pub opened_trail : (past : List Event) (place clock : Event) → past ≡ place ∷ clock ∷ [] → IsOpeningPlace place → IsSecond clock → IsTrail state 2 past
  opened_trail past place clock opens first second =
      let one = longer_trail 0 [] [] (place ∷ []) place refl refl empty_trail (λ tells all. first) zero_low in
      let two = longer_trail 1 (place ∷ []) (place ∷ []) (place ∷ clock ∷ []) clock refl refl one (λ tells all. second) one_low in
      subst (λ l. IsTrail state 2 l) (sym opens) two
