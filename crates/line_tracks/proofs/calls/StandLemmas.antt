-- Where the reads of shards stand in the list.
use Rattle.std.proofs.Common.{◌≡◌, ℕ, zero, suc, ◌+◌, ◌≤◌, List, [], ◌∷◌, ◌++◌, length, refl, sym, ap, subst, ◌∙◌, inl, inr, arith, append_assoc, length-append}
use Rattle.std.specs.Prelude.{◌⊎◌}
use Rattle.std.proofs.lemmas.Bool.{cases_lt}
use Rattle.m3_model.specs.Members.{IsIn}
use Rattle.m3_model.specs.declared.rules.MetaState.{MetaState}
use Rattle.cluster_core.specs.Lists.{At}
use Rattle.cluster_core.specs.declared.event.Event.{Event}
use Rattle.cluster_core.proofs.ListLemmas.{at_append, some_same}
use Rattle.net_plan.specs.Fates.{FateMap}
use Rattle.session_net.specs.replica_exchange.declared.call_id.CallId.{CallId}
use Rattle.session_net.specs.Outcomes.{answering}
use Rattle.session_net.specs.Reads.{AreRead, IsAsked, ShardRead, Wish, done_of, ended_of, start_of, told_in}
use Rattle.told_runs.proofs.told_by_proofs.LineLemmas.{at_front}
use Rattle.told_runs.proofs.told_by_proofs.OneLemmas.{at_back, back_at}

-- ---- shards one after the other, where they stand in the whole list

module _ (state : MetaState) (fates : FateMap) (id : CallId) (w : Wish) (needed : ℕ) (reads : ℕ → ShardRead) (all : List Event) where
  -- the read of a shard stands in the list, not before this position
  pub record StandsIn (low s : ℕ) : Type 0 where
    pub asked : IsAsked state fates id w s (reads s)
    pub enough : needed ≤ length (answering (told_in (reads s)))
    pub not_before : low ≤ (reads s).begun
    pub started : At all (reads s).begun (start_of state w s)
    pub each : (k : ℕ) (e : Event) → At (reads s).reads k e → At all ((reads s).begun + suc k) e
    pub ended : At all (ended_of (reads s)) (done_of (reads s))

  -- an event is one of the read of a shard
  pub record IsOfRead (shards : List ℕ) (i : ℕ) (e : Event) : Type 0 where
    pub s : ℕ
    pub among : IsIn shards s
    pub is : (e ≡ start_of state w s) ⊎ (((k : ℕ) × (i ≡ (reads s).begun + suc k) × At (reads s).reads k e) ⊎ ((i ≡ ended_of (reads s)) × (e ≡ done_of (reads s))))

  -- the list, split at the end of the first shard's read
  split_all : (front tail rest events : List Event) (first : Event) (own : List Event) (last : Event) → events ≡ first ∷ (own ++ last ∷ rest) → all ≡ front ++ (events ++ tail) → all ≡ (front ++ (first ∷ (own ++ last ∷ []))) ++ (rest ++ tail)
  split_all front tail rest events first own last is e =
      e ∙ ap (λ es. front ++ (es ++ tail)) (is ∙ ap (λ es. first ∷ es) (sym (append_assoc own (last ∷ []) rest))) ∙ ap (λ es. front ++ es) (append_assoc (first ∷ (own ++ last ∷ [])) rest tail) ∙ sym (append_assoc front (first ∷ (own ++ last ∷ [])) (rest ++ tail))

  long_front : (front own : List Event) (first last : Event) → length (front ++ (first ∷ (own ++ last ∷ []))) ≡ suc (length front + (1 + length own))
  long_front front own first last = let a = length-append front (first ∷ (own ++ last ∷ [])) in let b = length-append own (last ∷ []) in omega (arith, a, b)

  -- the first shard's read stands in the list
  stands_first : (front tail rest : List Event) (position s : ℕ) → length front ≡ position → all ≡ (front ++ (start_of state w s ∷ ((reads s).reads ++ done_of (reads s) ∷ []))) ++ (rest ++ tail) → IsAsked state fates id w s (reads s) → (reads s).begun ≡ position → needed ≤ length (answering (told_in (reads s))) → StandsIn position s
  stands_first front tail rest position s long e asked begun enough =
      let mid : List Event = start_of state w s ∷ ((reads s).reads ++ done_of (reads s) ∷ []) in
      let at_begun : length front ≡ (reads s).begun = long ∙ sym begun in
      let there : (k : ℕ) (x : Event) → At mid k x → At all ((reads s).begun + k) x = λ k x at. subst (λ j. At all (j + k) x) at_begun (subst (λ es. At es (length front + k) x) (sym e) (at_append (front ++ mid) (rest ++ tail) (length front + k) x (back_at front mid k x at))) in
      record {
        asked = asked;
        enough = enough;
        not_before = omega (arith, begun);
        started = (let none : (reads s).begun + 0 ≡ (reads s).begun = omega arith in subst (λ j. At all j (start_of state w s)) none (there 0 (start_of state w s) refl));
        each = λ k x at. there (suc k) x (at_append (reads s).reads (done_of (reads s) ∷ []) k x at);
        ended = (let last : length (reads s).reads + 0 ≡ length (reads s).reads = omega arith in
            let end : (reads s).begun + suc (length (reads s).reads) ≡ ended_of (reads s) = omega arith in
            subst (λ j. At all j (done_of (reads s))) end
            (there (suc (length (reads s).reads)) (done_of (reads s)) (subst (λ j. At ((reads s).reads ++ done_of (reads s) ∷ []) j (done_of (reads s))) last (back_at (reads s).reads (done_of (reads s) ∷ []) 0 (done_of (reads s)) refl))));
      }

  pub stand : (shards : List ℕ) (position : ℕ) (events front tail : List Event) → AreRead state fates id w needed position shards reads events → length front ≡ position → all ≡ front ++ (events ++ tail) → (s : ℕ) → IsIn shards s → StandsIn position s
  stand [] position events front tail h long e s m = absurd m
  stand (t ∷ shards) position events front tail h long e s m =
      let whole = split_all front tail h.2 events (start_of state w t) (reads t).reads (done_of (reads t)) h.3 e in
      elim m as (λ _. StandsIn position s) [
        | inl same ↦ subst (StandsIn position) same (stands_first front tail h.2 position t long whole h.0 (h.1).begun (h.1).enough)
        | inr rest ↦
            let begun = (h.1).begun in
            let next : length (front ++ (start_of state w t ∷ ((reads t).reads ++ done_of (reads t) ∷ []))) ≡ suc (ended_of (reads t)) = (let many = long_front front (reads t).reads (start_of state w t) (done_of (reads t)) in omega (arith, many, begun, long)) in
            let later = stand shards (suc (ended_of (reads t))) h.2 (front ++ (start_of state w t ∷ ((reads t).reads ++ done_of (reads t) ∷ []))) tail h.4 next whole s rest in
            record { asked = later.asked; enough = later.enough; not_before = (let low = later.not_before in omega (arith, low, begun)); started = later.started; each = later.each; ended = later.ended }
      ]

  pub locate : (shards : List ℕ) (position : ℕ) (events front tail : List Event) → AreRead state fates id w needed position shards reads events → length front ≡ position → all ≡ front ++ (events ++ tail) → (i : ℕ) (e : Event) → position ≤ i → At all i e
      → IsOfRead shards i e ⊎ ((j : ℕ) × (i ≡ (position + length events) + j) × At tail j e)
  locate [] position events front tail h long e i x le at =
      let back = at_back front tail i x (subst (λ es. At es i x) (e ∙ ap (λ es. front ++ (es ++ tail)) h) at) (omega (arith, le, long)) in
      let none : length events ≡ 0 = ap length h in
      let is = back.1 in
      inr (back.0, omega (arith, is, none, long), back.2)
  locate (s ∷ shards) position events front tail h long e i x le at =
      let mid : List Event = start_of state w s ∷ ((reads s).reads ++ done_of (reads s) ∷ []) in
      let whole = split_all front tail h.2 events (start_of state w s) (reads s).reads (done_of (reads s)) h.3 e in
      let begun = (h.1).begun in
      let many = long_front front (reads s).reads (start_of state w s) (done_of (reads s)) in
      let next : length (front ++ mid) ≡ suc (ended_of (reads s)) = omega (arith, many, begun, long) in
      let there : At ((front ++ mid) ++ (h.2 ++ tail)) i x = subst (λ es. At es i x) whole at in
      let sum : length events ≡ suc (suc (length (reads s).reads) + length h.2) = (let a : length events ≡ length (start_of state w s ∷ ((reads s).reads ++ done_of (reads s) ∷ h.2)) = ap length h.3 in let b = length-append (reads s).reads (done_of (reads s) ∷ h.2) in omega (arith, a, b)) in
      elim (cases_lt i (length (front ++ mid))) as (λ _. IsOfRead (s ∷ shards) i x ⊎ ((j : ℕ) × (i ≡ (position + length events) + j) × At tail j x)) [
        | inl lt ↦ let back = at_back front mid i x (at_front (front ++ mid) (h.2 ++ tail) i x there lt) (omega (arith, le, long)) in inl (of_first s shards position i x back.0 (let is = back.1 in omega (arith, is, long)) begun back.2)
        | inr ge ↦ elim (locate shards (suc (ended_of (reads s))) h.2 (front ++ mid) tail h.4 next whole i x (omega (arith, ge, next)) at) as (λ _. IsOfRead (s ∷ shards) i x ⊎ ((j : ℕ) × (i ≡ (position + length events) + j) × At tail j x)) [
          | inl found ↦ inl (record { s = found.s; among = inr found.among; is = found.is })
          | inr left ↦ (let is = left.1 in inr (left.0, omega (arith, is, sum, begun), left.2))
        ]
      ]
    where
      of_first : (s : ℕ) (shards : List ℕ) (position i : ℕ) (x : Event) (j : ℕ) → i ≡ position + j → (reads s).begun ≡ position → At (start_of state w s ∷ ((reads s).reads ++ done_of (reads s) ∷ [])) j x → IsOfRead (s ∷ shards) i x
      of_first s shards position i x zero is begun at = record { s = s; among = inl refl; is = inl (sym (some_same (start_of state w s) x at)) }
      of_first s shards position i x (suc k) is begun at = record {
        s = s;
        among = inl refl;
        is = inr (elim (cases_lt k (length (reads s).reads)) as (λ _. ((k : ℕ) × (i ≡ (reads s).begun + suc k) × At (reads s).reads k x) ⊎ ((i ≡ ended_of (reads s)) × (x ≡ done_of (reads s)))) [
          | inl lt ↦ inl (k, omega (arith, is, begun), at_front (reads s).reads (done_of (reads s) ∷ []) k x at lt)
          | inr ge ↦ (let back = at_back (reads s).reads (done_of (reads s) ∷ []) k x at ge in inr (last back.0 back.1 back.2))
        ]);
      }
        where
          last : (m : ℕ) → k ≡ length (reads s).reads + m → At (done_of (reads s) ∷ []) m x → (i ≡ ended_of (reads s)) × (x ≡ done_of (reads s))
          last zero same there = (omega (arith, is, begun, same), sym (some_same (done_of (reads s)) x there))
          last (suc m) same there = cc
