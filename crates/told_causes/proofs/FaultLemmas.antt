-- The faults of a list are different, each is told by a step, each step's is there, and they are few.
use Rattle.std.proofs.Common.{◌≡◌, ℕ, zero, suc, ◌<◌, ◌≤◌, ◌+◌, ◌-◌, List, [], ◌∷◌, ◌++◌, take, drop, refl, sym, ap, ◌∙◌, subst, inl, inr, arith, Bool, true, false}
use Rattle.std.specs.Prelude.{◌⊎◌, Option, Some, None, ◌&&◌, ◌||◌, if◌then◌else◌, nat_eq, count_by, cond}
use Rattle.std.specs.List.{list_any}
use Rattle.std.specs.Option.{option_map_or}
use Rattle.std.proofs.lemmas.List.Sums.{sum_by-append}
use Rattle.std.proofs.lemmas.Bool.{cases_eq, eq-eqb, eqb-true, or_right, and_parts, and_from}
use Rattle.m3_model.specs.Members.{IsIn}
use Rattle.cluster_core.specs.Lists.{At}
use Rattle.cluster_core.specs.declared.event.Event.{Event}
use Rattle.cluster_core.specs.declared.event.Event.TheVariants as event
use Rattle.cluster_core.specs.declared.event.StepReply.TheVariants as reply
use Rattle.m3_model.specs.declared.reason.Reason.TheVariants as reason
use Rattle.cluster_core.proofs.ListLemmas.{in_at, at_in, at_take, take_at, drop_at}
use Rattle.transcripts.specs.Faults.{AreDifferent, Fault, FaultKind, Taking, Failing, Damaged}
use Rattle.told_causes.specs.Faults.{FaultsAreDifferent, FaultsAreFew, FaultsAreSteps, IsToldOf, StepsAreFaults, fault_of, at_first_line, faults_told, is_same_fault, is_same_kind, line_events, with_fault, with_line, tells_of}

-- ---- equal faults

kind_self : (k : FaultKind) → is_same_kind k k ≡ true
kind_self Taking = refl
kind_self Failing = refl
kind_self Damaged = refl

kind_is : (a b : FaultKind) → is_same_kind a b ≡ true → a ≡ b
kind_is Taking Taking e = refl
kind_is Failing Failing e = refl
kind_is Damaged Damaged e = refl
kind_is _ _ e = cc

fault_self : (f : Fault) → is_same_fault f f ≡ true
fault_self f = and_from (nat_eq f.line f.line && nat_eq f.node f.node) (nat_eq f.shard f.shard && is_same_kind f.kind f.kind) (and_from (nat_eq f.line f.line) (nat_eq f.node f.node) (eq-eqb f.line f.line refl) (eq-eqb f.node f.node refl)) (and_from (nat_eq f.shard f.shard) (is_same_kind f.kind f.kind) (eq-eqb f.shard f.shard refl) (kind_self f.kind))

fault_is : (f g : Fault) → is_same_fault f g ≡ true → f ≡ g
fault_is f g e =
    let halves = and_parts (nat_eq f.line g.line && nat_eq f.node g.node) (nat_eq f.shard g.shard && is_same_kind f.kind g.kind) e in
    let first = and_parts (nat_eq f.line g.line) (nat_eq f.node g.node) halves.0 in
    let second = and_parts (nat_eq f.shard g.shard) (is_same_kind f.kind g.kind) halves.1 in
    let line : f.line ≡ g.line = eqb-true f.line g.line first.0 in
    let node : f.node ≡ g.node = eqb-true f.node g.node first.1 in
    let shard : f.shard ≡ g.shard = eqb-true f.shard g.shard second.0 in
    let kind : f.kind ≡ g.kind = kind_is f.kind g.kind second.1 in
    λ i. record { line = line i; node = node i; shard = shard i; kind = kind i }

among_any : (f : Fault) (faults : List Fault) → IsIn faults f → list_any (is_same_fault f) faults ≡ true
among_any f [] h = absurd h
among_any f (g ∷ faults) h =
    elim h as (λ _. list_any (is_same_fault f) (g ∷ faults) ≡ true) [
      | inl same ↦ ap (λ b. b || list_any (is_same_fault f) faults) (ap (is_same_fault f) same ∙ fault_self f)
      | inr later ↦ or_right (is_same_fault f g) (list_any (is_same_fault f) faults) (among_any f faults later)
    ]

any_among : (f : Fault) (faults : List Fault) → list_any (is_same_fault f) faults ≡ true → IsIn faults f
any_among f [] e = cc
any_among f (g ∷ faults) e = by (is_same_fault f g) refl (any_among f faults)
  where
    by : (b : Bool) → is_same_fault f g ≡ b → (list_any (is_same_fault f) faults ≡ true → IsIn faults f) → IsIn (g ∷ faults) f
    by true is later = inl (sym (fault_is f g is))
    by false is later = inr (later (sym (ap (λ b. b || list_any (is_same_fault f) faults) is) ∙ e))

-- ---- one more

with_different : (o : Option Fault) (faults : List Fault) → AreDifferent faults → AreDifferent (with_fault o faults)
with_different None faults h = h
with_different (Some f) faults h = by (list_any (is_same_fault f) faults) refl
  where
    by : (b : Bool) → list_any (is_same_fault f) faults ≡ b → AreDifferent (if b then faults else f ∷ faults)
    by true e = h
    by false e = (λ among. let bad : true ≡ false = sym (among_any f faults among) ∙ e in cc, h)

with_stays : (o : Option Fault) (faults : List Fault) (g : Fault) → IsIn faults g → IsIn (with_fault o faults) g
with_stays None faults g h = h
with_stays (Some f) faults g h = by (list_any (is_same_fault f) faults)
  where
    by : (b : Bool) → IsIn (if b then faults else f ∷ faults) g
    by true = h
    by false = inr h

with_own : (f : Fault) (faults : List Fault) → IsIn (with_fault (Some f) faults) f
with_own f faults = by (list_any (is_same_fault f) faults) refl
  where
    by : (b : Bool) → list_any (is_same_fault f) faults ≡ b → IsIn (if b then faults else f ∷ faults) f
    by true e = any_among f faults e
    by false e = inl refl

with_source : (o : Option Fault) (faults : List Fault) (g : Fault) → IsIn (with_fault o faults) g → IsIn faults g ⊎ (o ≡ Some g)
with_source None faults g = λ h. inl h
with_source (Some f) faults g = λ h. by (list_any (is_same_fault f) faults) h
  where
    by : (b : Bool) → IsIn (if b then faults else f ∷ faults) g → IsIn faults g ⊎ (Some f ≡ Some g)
    by true h = inl h
    by false h = elim h as (λ _. IsIn faults g ⊎ (Some f ≡ Some g)) [ inl same ↦ inr (ap Some same) | inr later ↦ inl later ]

-- ---- a line

line_different : (k : ℕ) (events : List Event) (faults : List Fault) → AreDifferent faults → AreDifferent (with_line k events faults)
line_different k [] faults h = h
line_different k (e ∷ events) faults h = line_different k events (with_fault (fault_of k e) faults) (with_different (fault_of k e) faults h)

line_stays : (k : ℕ) (events : List Event) (faults : List Fault) (g : Fault) → IsIn faults g → IsIn (with_line k events faults) g
line_stays k [] faults g h = h
line_stays k (e ∷ events) faults g h = line_stays k events (with_fault (fault_of k e) faults) g (with_stays (fault_of k e) faults g h)

line_own : (k : ℕ) (events : List Event) (faults : List Fault) (g : Fault) (e : Event) → IsIn events e → fault_of k e ≡ Some g → IsIn (with_line k events faults) g
line_own k [] faults g e h is = absurd h
line_own k (x ∷ events) faults g e h is =
    elim h as (λ _. IsIn (with_line k (x ∷ events) faults) g) [
      | inl same ↦ line_stays k events (with_fault (fault_of k x) faults) g (subst (λ o. IsIn (with_fault o faults) g) (sym (ap (fault_of k) same ∙ is)) (with_own g faults))
      | inr later ↦ line_own k events (with_fault (fault_of k x) faults) g e later is
    ]

line_source : (k : ℕ) (events : List Event) (faults : List Fault) (g : Fault) → IsIn (with_line k events faults) g → IsIn faults g ⊎ ((e : Event) × IsIn events e × (fault_of k e ≡ Some g))
line_source k [] faults g h = inl h
line_source k (x ∷ events) faults g h =
    elim (line_source k events (with_fault (fault_of k x) faults) g h) as (λ _. IsIn faults g ⊎ ((e : Event) × IsIn (x ∷ events) e × (fault_of k e ≡ Some g))) [
      | inr later ↦ inr (later.0, inr later.1, later.2)
      | inl before ↦ elim (with_source (fault_of k x) faults g before) as (λ _. IsIn faults g ⊎ ((e : Event) × IsIn (x ∷ events) e × (fault_of k e ≡ Some g))) [
        | inl old ↦ inl old
        | inr is ↦ inr (x, inl refl, is)
      ]
    ]

-- ---- all lines

pub faults_different : FaultsAreDifferent
faults_different ends events zero = tt
faults_different ends events (suc k) = line_different k (line_events ends events k) (faults_told ends events k) (faults_different ends events k)

fault_line : (k : ℕ) (e : Event) (g : Fault) → fault_of k e ≡ Some g → g.line ≡ k
fault_line k (event.Step n s c (reply.Refused reason.Disk)) g is = let same : record { line = k; node = n; shard = s; kind = Failing } ≡ g = cc in sym (ap (λ (f : Fault). f.line) same)
fault_line k (event.Step n s c (reply.Refused (reason.Corrupt damage))) g is = let same : record { line = k; node = n; shard = s; kind = Damaged } ≡ g = cc in sym (ap (λ (f : Fault). f.line) same)
fault_line k _ g is = cc

-- an event of a line stands among those of the list
line_at : (ends : ℕ → ℕ) (events : List Event) (k : ℕ) (e : Event) → IsIn (line_events ends events k) e → (i : ℕ) × (ends k ≤ i) × (i < ends (suc k)) × At events i e
line_at ends events k e h =
    let there = in_at (line_events ends events k) e h in
    let dropped = drop_at (take (ends (suc k)) events) (ends k) there.0 e there.1 in
    let taken = at_take events (ends k + there.0) (ends (suc k)) e dropped in
    (ends k + there.0, omega arith, taken.1, taken.0)

at_line : (ends : ℕ → ℕ) (events : List Event) (k i : ℕ) (e : Event) → ends k ≤ i → i < ends (suc k) → At events i e → IsIn (line_events ends events k) e
at_line ends events k i e low high there =
    let taken = take_at events i (ends (suc k)) e there high in
    let whole : ends k + (i - ends k) ≡ i = omega (arith, low) in
    at_in (line_events ends events k) (i - ends k) e (at_drop (take (ends (suc k)) events) (ends k) (i - ends k) e (subst (λ n. At (take (ends (suc k)) events) n e) (sym whole) taken))
  where
    at_drop : {X : Type 0} (xs : List X) (k j : ℕ) (x : X) → At xs (k + j) x → At (drop k xs) j x
    at_drop xs zero j x h = let same : 0 + j ≡ j = omega arith in subst (λ n. At xs n x) same h
    at_drop [] (suc k) j x h = cc
    at_drop (y ∷ xs) (suc k) j x h = let same : suc k + j ≡ suc (k + j) = omega arith in at_drop xs k j x (subst (λ n. At (y ∷ xs) n x) same h)

pub faults_steps : FaultsAreSteps
faults_steps ends events zero fault h = absurd h
faults_steps ends events (suc k) fault h =
    elim (line_source k (line_events ends events k) (faults_told ends events k) fault h) as (λ _. IsToldOf ends events (suc k) fault) [
      | inl before ↦ let old = faults_steps ends events k fault before in record { early = omega (arith, old.early); position = old.position; low = old.low; high = old.high; e = old.e; there = old.there; tells = old.tells }
      | inr new ↦
          let position = line_at ends events k new.0 new.1 in
          let line = fault_line k new.0 fault new.2 in
          record {
            early = omega (arith, line);
            position = position.0;
            low = subst (λ n. ends n ≤ position.0) (sym line) position.1;
            high = subst (λ n. position.0 < ends (suc n)) (sym line) position.2;
            e = new.0;
            there = position.3;
            tells = subst (λ n. fault_of n new.0 ≡ Some fault) (sym line) new.2;
          }
    ]

pub steps_faults : StepsAreFaults
steps_faults ends events zero fault h = absurd (omega (arith, h.early))
steps_faults ends events (suc k) fault h =
    elim (cases_eq fault.line k) as (λ _. IsIn (faults_told ends events (suc k)) fault) [
      | inl now ↦
          line_own k (line_events ends events k) (faults_told ends events k) fault h.e
          (at_line ends events k h.position h.e (subst (λ n. ends n ≤ h.position) now h.low) (subst (λ n. h.position < ends (suc n)) now h.high) h.there)
          (subst (λ n. fault_of n h.e ≡ Some fault) now h.tells)
      | inr other ↦
          line_stays k (line_events ends events k) (faults_told ends events k) fault
          (steps_faults ends events k fault (record { early = omega (arith, other, h.early); position = h.position; low = h.low; high = h.high; e = h.e; there = h.there; tells = h.tells }))
    ]

-- ---- how many

pub count_append : {X : Type 0} (p : X → Bool) (xs ys : List X) → count_by p (xs ++ ys) ≡ count_by p xs + count_by p ys
count_append p xs ys = sum_by-append (λ x. cond (p x) 1 0) xs ys

module _ (test : Fault → Bool) (blind : (fault : Fault) → test fault ≡ test (at_first_line fault)) where
  tells_so : (k : ℕ) (e : Event) → option_map_or test (fault_of k e) false ≡ tells_of test e
  tells_so k (event.Step n s c (reply.Refused reason.Disk)) = blind (record { line = k; node = n; shard = s; kind = Failing })
  tells_so k (event.Step n s c (reply.Refused (reason.Corrupt damage))) = blind (record { line = k; node = n; shard = s; kind = Damaged })
  tells_so k _ = refl

  -- one more fault where the event tells of one, and else none
  with_few : (o : Option Fault) (faults : List Fault) → count_by test (with_fault o faults) ≤ cond (option_map_or test o false) 1 0 + count_by test faults
  with_few None faults = omega arith
  with_few (Some f) faults = by (list_any (is_same_fault f) faults)
    where
      by : (b : Bool) → count_by test (if b then faults else f ∷ faults) ≤ cond (test f) 1 0 + count_by test faults
      by true = omega arith
      by false = omega (arith, count_append test (f ∷ []) faults)

  line_few : (k : ℕ) (events : List Event) (faults : List Fault) → count_by test (with_line k events faults) ≤ count_by (tells_of test) events + count_by test faults
  line_few k [] faults = omega arith
  line_few k (e ∷ events) faults =
      let rest = line_few k events (with_fault (fault_of k e) faults) in
      let one = subst (λ b. count_by test (with_fault (fault_of k e) faults) ≤ cond b 1 0 + count_by test faults) (tells_so k e) (with_few (fault_of k e) faults) in
      let whole = count_append (tells_of test) (e ∷ []) events in
      omega (arith, rest, one, whole)

take_on : {X : Type 0} (xs : List X) (n m : ℕ) → n ≤ m → take m xs ≡ take n xs ++ drop n (take m xs)
take_on xs zero m le = refl
take_on [] (suc n) zero le = refl
take_on [] (suc n) (suc m) le = refl
take_on (x ∷ xs) (suc n) zero le = absurd (omega arith)
take_on (x ∷ xs) (suc n) (suc m) le = ap (λ ys. x ∷ ys) (take_on xs n m (omega arith))

pub faults_few : FaultsAreFew
faults_few test blind ends events zero ascends = omega arith
faults_few test blind ends events (suc k) ascends =
    let before = faults_few test blind ends events k (λ j lt. ascends j (omega arith)) in
    let line = line_few test blind k (line_events ends events k) (faults_told ends events k) in
    let split = ap (count_by (tells_of test)) (take_on events (ends k) (ends (suc k)) (ascends k (omega arith))) ∙ count_append (tells_of test) (take (ends k) events) (line_events ends events k) in
    omega (arith, before, line, split)
