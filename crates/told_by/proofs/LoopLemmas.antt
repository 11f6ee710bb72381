-- Fetches one after the other, and placements that are printed.
use Rattle.told_by.proofs.PrintedLemmas.{greatest_so_far}
use Rattle.std.proofs.Common.{◌≡◌, ℕ, suc, ◌≤◌, ◌+◌, List, [], ◌∷◌, ◌++◌, length, refl, sym, ap, ◌∙◌, subst, inl, inr, arith, append_assoc, length-append, Bool}
use Rattle.std.specs.Prelude.{◌⊎◌, Option, Some}
use Rattle.m3_model.specs.Members.{IsIn}
use Rattle.transcripts.specs.Placements.{printed}
use Rattle.transcripts.specs.Record.{TurnPosition}
use Rattle.m3_model.specs.declared.answer.Answer.{Answer}
use Rattle.m3_model.specs.declared.placement.Placement.{Placement}
use Rattle.m3_model.specs.declared.rules.MetaState.{MetaState}
use Rattle.m3_model.specs.declared.turn.Turn.{Turn}
use Rattle.m3_model.proofs.Lists.{take_whole}
use Rattle.cluster_core.specs.Earlier.{last_place}
use Rattle.cluster_core.specs.Legal.{Legal}
use Rattle.cluster_core.specs.Lists.{At}
use Rattle.cluster_core.specs.declared.event.Event.{Event}
use Rattle.cluster_core.specs.declared.event.Event.TheVariants as event
use Rattle.cluster_core.proofs.ListLemmas.{at_append, at_within}
use Rattle.told_by.specs.Lines.{AreFetched, AreSteps, AreWhole, IsCutShort, IsShardFetched, PrintsPlace, start_of}
use Rattle.told_by.specs.Reads.{Asking, Fetched}
use Rattle.told_by.specs.Told.{ToldBy}
use Rattle.told_by.proofs.LeaveLemmas.{place_there}

module _ (start : Option MetaState) (p : TurnPosition) (a : Asking) where
  -- a fetch with more behind it
  behind : (position s : ℕ) (f : Fetched) (more rest own : List Event) → IsShardFetched start p a position s f more rest → IsShardFetched start p a position s f (more ++ own) (rest ++ own)
  behind position s f more rest own h = record {
    asked = h.asked;
    reads = h.reads;
    steps = h.steps;
    adds = ap (λ es. es ++ own) h.adds ∙ ap (λ es. start_of start p a s ∷ es) (append_assoc h.reads (event.FetchDone position f.nodes f.series ∷ rest) own);
    began_is = h.began_is;
    ended_is = h.ended_is;
  }

  -- the next fetch begins where this one, with what follows, ends
  size : (position s : ℕ) (f : Fetched) (more rest : List Event) → IsShardFetched start p a position s f more rest → suc f.ended + length rest ≡ position + length more
  size position s f more rest h = omega (arith, h.ended_is, ap length h.adds, length-append h.reads (event.FetchDone position f.nodes f.series ∷ rest))

  pub fetches_add : (fetches : ℕ → Fetched) (position : ℕ) (shards : List ℕ) (so_far : List Event) (s : ℕ) (own : List Event)
      → AreWhole start p a fetches position shards so_far → IsShardFetched start p a (position + length so_far) s (fetches s) own [] → AreWhole start p a fetches position (shards ++ s ∷ []) (so_far ++ own)
  fetches_add fetches position [] so_far s own h f =
      let here : position + length so_far ≡ position = omega (arith, ap length h) in
      let one : IsShardFetched start p a position s (fetches s) own [] = subst (λ n. IsShardFetched start p a n s (fetches s) own []) here f in
      ([], subst (λ es. IsShardFetched start p a position s (fetches s) (es ++ own) []) (sym h) one, refl)
  fetches_add fetches position (t ∷ shards) so_far s own h f = (
    h.0 ++ own,
    behind position t (fetches t) so_far h.0 own h.1,
    fetches_add fetches (suc (fetches t).ended) shards h.0 s own h.2 (subst (λ n. IsShardFetched start p a n s (fetches s) own []) (sym (size position t (fetches t) so_far h.0 h.1)) f),
  )

  pub fetches_end : (fetches : ℕ → Fetched) (position : ℕ) (shards : List ℕ) (so_far own : List Event)
      → AreWhole start p a fetches position shards so_far → AreSteps own ⊎ IsCutShort start p a own → AreFetched start p a fetches position shards (so_far ++ own)
  fetches_end fetches position [] so_far own h rest = subst (λ es. AreSteps (es ++ own) ⊎ IsCutShort start p a (es ++ own)) (sym h) rest
  fetches_end fetches position (t ∷ shards) so_far own h rest = (h.0 ++ own, behind position t (fetches t) so_far h.0 own h.1, fetches_end fetches (suc (fetches t).ended) shards h.0 own h.2 rest)

  pub fetches_stay : (fetches others : ℕ → Fetched) (position : ℕ) (shards : List ℕ) (so_far : List Event)
      → ((s : ℕ) → IsIn shards s → fetches s ≡ others s) → AreWhole start p a fetches position shards so_far → AreWhole start p a others position shards so_far
  fetches_stay fetches others position [] so_far same h = h
  fetches_stay fetches others position (t ∷ shards) so_far same h = (
    h.0,
    subst (λ f. IsShardFetched start p a position t f so_far h.0) (same t (inl refl)) h.1,
    subst (λ (f : Fetched). AreWhole start p a others (suc f.ended) shards h.0) (same t (inl refl)) (fetches_stay fetches others (suc (fetches t).ended) shards h.0 (λ s m. same s (inr m)) h.2),
  )

-- the last Place has the greatest version
last_greatest : {tells : Bool} → (events : List Event) → Legal tells events → (i : ℕ) (p last : Placement) (done : List (ℕ × ℕ)) → At events i (event.Place p done) → last_place events ≡ Some last → p.version ≤ last.version
last_greatest events legal i p last done there is = greatest_so_far events legal i (length events) p last done there (at_within events i (event.Place p done) there) (omega arith) (ap last_place (take_whole events) ∙ is)

pub last_prints : {tells : Bool} → (start : Option MetaState) (turns : List Turn) (events : List Event) (b : Answer) (more : List Event) → Legal tells (events ++ more) → ToldBy start turns events
    → ((place : Placement) → printed b ≡ Some place → last_place (events ++ more) ≡ Some place) → PrintsPlace turns (events ++ more) b
last_prints start turns events b more legal told is_last = record {
  is_place = λ place is. let l = place_there (events ++ more) place (is_last place is) in record { place_at = l.0; done = l.1; there = l.2; in_time = at_within (events ++ more) l.0 (event.Place place l.1) l.2 };
  not_earlier = λ p h was is of_was of_is.
      let q = (told.tells).placements.is_place p h was of_was in
      last_greatest (events ++ more) legal q.place_at was is q.done (at_append events more q.place_at (event.Place was q.done) q.there) (is_last is of_is);
}
