-- A slot's replica is the fold of the events that its own seat made.
use Rattle.std.proofs.Common.{◌++◌, length, length-append, arith, ◌≡◌, ℕ, zero, suc, ◌+◌, List, [], ◌∷◌, refl, sym, ap, ◌∙◌, subst, inl, inr, Bool, true, false, cond}
use Rattle.std.specs.Prelude.{◌⊎◌, ◌≤◌, fold}
use Rattle.std.specs.Cmp.Lexicographic.{bytes_decides}
use Rattle.m3_model.specs.Members.{IsIn}
use Rattle.cluster_core.specs.declared.event.Event.{Event}
use Rattle.cluster_core.specs.declared.replica_state.ReplicaState.{ReplicaState}
use Rattle.cluster_core.specs.Replicas.{fresh, step_of}
use Rattle.event_book.specs.Names.{same_name}
use Rattle.event_book.specs.Lists.{made_by}
use Rattle.event_book.specs.declared.view.Made.{Made}
use Rattle.event_book.proofs.Naming.{made_by_append}
use Rattle.cluster_core.specs.Legal.{Legal, Lawful, LawfulAt}
use Rattle.cluster_core.specs.Makers.{entries, replica_seat, IsMaker, IsLawfulLog, StaysLawful, FollowsFromItsSeat, AddsWhatIsLawful}
use Rattle.cluster_core.proofs.TraceLemmas.{step_cases}
use Rattle.cluster_core.proofs.ExtendLemmas.{extended, legal_push, at_push, entries_append}
use Rattle.cluster_core.proofs.ListLemmas.{in_at}

own_step : (n s : ℕ) (r : ReplicaState) (e : Event) (by : List ℕ) → IsMaker e by → (step_of n s r e ≡ r) ⊎ (by ≡ replica_seat n s ∷ [])
own_step n s r e by h =
    elim (step_cases n s r e) as (λ _. (step_of n s r e ≡ r) ⊎ (by ≡ replica_seat n s ∷ [])) [
      | inl same ↦ inl same
      | inr own ↦ inr (subst (λ x. IsMaker x by) own.2 h)
    ]

fold_own : (n s : ℕ) (r : ReplicaState) (log : List (Made Event)) → ((m : Made Event) → IsIn log m → IsMaker m.entry m.by) → fold (step_of n s) r (entries log) ≡ fold (step_of n s) r (made_by (replica_seat n s ∷ []) log)
fold_own n s r [] h = refl
fold_own n s r (m ∷ log) h = by (same_name (replica_seat n s ∷ []) m.by) refl (λ q. fold_own n s q log (λ x k. h x (inr k)))
  where
    name : List ℕ
    name = replica_seat n s ∷ []

    by : (b : Bool) → same_name name m.by ≡ b → ((q : ReplicaState) → fold (step_of n s) q (entries log) ≡ fold (step_of n s) q (made_by (replica_seat n s ∷ []) log))
        → fold (step_of n s) (step_of n s r m.entry) (entries log) ≡ fold (step_of n s) r (cond b (m.entry ∷ made_by (replica_seat n s ∷ []) log) (made_by (replica_seat n s ∷ []) log))
    by true e later = later (step_of n s r m.entry)
    by false e later =
        let same : step_of n s r m.entry ≡ r = elim (own_step n s r m.entry m.by (h m (inl refl))) as (λ _. step_of n s r m.entry ≡ r) [
          | inl k ↦ k
          | inr own ↦ let clash : false ≡ true = sym e ∙ (bytes_decides name m.by).1 (sym own) in cc
        ] in
        ap (λ q. fold (step_of n s) q (entries log)) same ∙ later r

-- in a lawful book the replica of a slot is the fold of what its seat made
pub replica_own_seat : FollowsFromItsSeat
replica_own_seat tells n s log b = fold_own n s fresh log (λ m k. let p = in_at log m k in b.makers p.0 m p.1)

-- ---- what a caller of `append` shows

none_made : (name : List ℕ) (xs : List (Made Event)) (x : Made Event) → length (made_by name xs) ≡ 0 → IsIn xs x → same_name name x.by ≡ true → ⊥
none_made name [] x e h t = h
none_made name (y ∷ xs) x e h t = by (same_name name y.by) refl e (none_made name xs x)
  where
    by : (b : Bool) → same_name name y.by ≡ b → length (cond b (y.entry ∷ made_by name xs) (made_by name xs)) ≡ 0 → (length (made_by name xs) ≡ 0 → IsIn xs x → same_name name x.by ≡ true → ⊥) → ⊥
    by true is z later = omega (arith, z)
    by false is z later = elim h as (λ _. ⊥) [ inl same ↦ (let clash : false ≡ true = sym is ∙ ap (λ (m : Made Event). same_name name m.by) same ∙ t in cc) | inr r ↦ later z r t ]

-- lawful after what the seat has seen is lawful after each lawful list that begins with it and has the same events of the seat
pub stays_lawful : StaysLawful
stays_lawful tells seen more m a b own =
    extended tells seen more m a b
    (λ x h e.
    let parts : length (made_by m.by (seen ++ more)) ≡ length (made_by m.by seen) + length (made_by m.by more) = ap length (made_by_append m.by seen more) ∙ length-append (made_by m.by seen) (made_by m.by more) in
    let same : length (made_by m.by (seen ++ more)) ≡ length (made_by m.by seen) = ap length own in
    none_made m.by more x (omega (arith, parts, same)) h ((bytes_decides m.by x.by).1 (sym e)))

-- a lawful list with one more event
pub pushed : (tells : Bool) (log : List (Made Event)) (m : Made Event) → IsLawfulLog tells log → LawfulAt tells (length (entries log)) (entries log) m.entry → IsMaker m.entry m.by → IsLawfulLog tells (log ++ m ∷ [])
pushed tells log m b law maker = record {
  legal = subst (Legal tells) (sym (entries_append log (m ∷ []))) (legal_push tells (entries log) m.entry b.legal law);
  makers = λ i x there. elim (at_push log m i x there) as (λ _. IsMaker x.entry x.by) [ inl was ↦ b.makers i x was | inr last ↦ subst (λ (y : Made Event). IsMaker y.entry y.by) last.1 maker ];
}

-- what is lawful after what a seat has seen may be added by it
pub may_add : AddsWhatIsLawful
may_add tells s e law maker sound log legal begins made =
    let m : Made Event = record { by = s.name; entry = e } in
    let first : IsLawfulLog tells (s.seen ++ m ∷ []) = pushed tells s.seen m sound.legal law maker in
    subst (λ l. IsLawfulLog tells (l ++ m ∷ [])) begins.1
    (stays_lawful tells s.seen begins.0 m first (subst (IsLawfulLog tells) (sym begins.1) legal) (ap (λ l. made_by s.name l) begins.1 ∙ made ∙ sym sound.made))

-- past the opening an event that is lawful after a list is lawful at its end
pub lawful_later : (tells : Bool) (k : ℕ) (past : List Event) (e : Event) → 2 ≤ k → Lawful tells past e → LawfulAt tells k past e
lawful_later tells zero past e two h = absurd (let bad : 2 ≤ 0 = two in omega (arith, bad))
lawful_later tells (suc zero) past e two h = absurd (let bad : 2 ≤ 1 = two in omega (arith, bad))
lawful_later tells (suc (suc k)) past e two h = h
