-- The assignments of one shard along a legal list.
use Rattle.std.proofs.Common.{◌≡◌, ℕ, zero, suc, ◌<◌, ◌≤◌, List, [], ◌∷◌, take, length, refl, sym, ap, ◌∙◌, subst, inl, inr, arith, Bool, true, false, cond}
use Rattle.std.specs.Prelude.{◌⊎◌, Option, Some, None, nat_eq}
use Rattle.std.proofs.lemmas.Bool.{cases_lt, eqb-true}
use Rattle.std.proofs.lemmas.Option.{same_Some}
use Rattle.m3_model.specs.Members.{IsIn}
use Rattle.m3_model.specs.declared.placement.Placement.{Placement}
use Rattle.cluster_core.specs.declared.event.Event.{Event}
use Rattle.cluster_core.specs.declared.event.Event.TheVariants as event
use Rattle.cluster_core.specs.Lists.{At}
use Rattle.m3_model.specs.declared.placement.Assignment.{Assignment}
use Rattle.m3_model.specs.declared.placement.ShardState.TheVariants.{Initializing}
use Rattle.placement_core.specs.Lawful.{IsShard}
use Rattle.placement_core.specs.Shards.{Shard}
use Rattle.placement_core.specs.Steps.{done_at, IsShardStep, IsStep}
use Rattle.placement_core.proofs.ChangeLemmas.{step_shard}
use Rattle.cluster_core.specs.Earlier.{last_place, place_after}
use Rattle.cluster_core.specs.Joins.{HasJoined}
use Rattle.placement_core.proofs.ListLemmas.{each-from_All}
use Rattle.cluster_core.specs.Legal.{Legal, JoinedThere, JoinedAt}
use Rattle.cluster_core.proofs.ListLemmas.{at_within, at_some, at_same, at_in, at_take, fold_suc, along}
use Rattle.cluster_core.proofs.PastLemmas.{ShardAt, CountedAt, TenureAt}
use Rattle.cluster_core.proofs.ShardLemmas.{step_joining}
use Rattle.cluster_core.proofs.TraceLemmas.{lawful_place}

-- the shard's assignments after the first j events, and the version then
pub record IsAt (events : List Event) (s j version : ℕ) (shard : Shard) : Type 0 where
  pub place : Placement
  pub last : last_place (take j events) ≡ Some place
  pub version_is : place.version ≡ version
  pub shard_is : At place.shards s shard

-- what each placement of a legal list keeps
pub record Fine (first p : Placement) : Type 0 where
  pub rf : p.rf ≡ first.rf
  pub count : length p.shards ≡ length first.shards
  pub sound : (s : ℕ) (shard : Shard) → At p.shards s shard → IsShard first.rf p.version shard

-- one event's change of the shard
pub record Change (events : List Event) (rf s k version : ℕ) (shard : Shard) : Type 0 where
  pub next : Shard
  pub to : Option ℕ
  pub is : IsAt events s (suc k) (suc version) next
  pub step : IsShardStep (suc version) shard next to
  pub joined : (y : ℕ) → to ≡ Some y → (a : Assignment) → IsIn shard a → a.node ≡ y → a.state ≡ Initializing → HasJoined (take k events) rf shard s y a.tenure

done_in : (s y : ℕ) (done : List (ℕ × ℕ)) → done_at s done ≡ Some y → IsIn done (s, y)
done_in s y [] e = cc
done_in s y (d ∷ ds) e = by (nat_eq d.0 s) refl (done_in s y ds) e
  where
    by : (b : Bool) → nat_eq d.0 s ≡ b → (done_at s ds ≡ Some y → IsIn ds (s, y)) → cond b (Some d.1) (done_at s ds) ≡ Some y → (d ≡ (s, y)) ⊎ IsIn ds (s, y)
    by true is later f = inl (λ i. (eqb-true d.0 s is i, same_Some d.1 y f i))
    by false is later f = inr (later f)

pub place_cases : (was : Option Placement) (e : Event) → (place_after was e ≡ was) ⊎ ((p : Placement) × (done : List (ℕ × ℕ)) × (e ≡ event.Place p done) × (place_after was e ≡ Some p))
place_cases was (event.Place p done) = inr (p, done, refl, refl)
place_cases was (event.Ask asked) = inl refl
place_cases was (event.Clock rules) = inl refl
place_cases was (event.Send version shard point) = inl refl
place_cases was (event.Ack send nodes) = inl refl
place_cases was (event.FetchStart version shard rules pick from to) = inl refl
place_cases was (event.FetchDone start nodes series) = inl refl
place_cases was (event.Step n s c a) = inl refl

step_at : (old new : Placement) (done : List (ℕ × ℕ)) (s : ℕ) (a b : Shard) → IsStep old new done → At old.shards s a → At new.shards s b → IsShardStep (suc old.version) a b (done_at s done)
step_at old new done s a b step ha hb = subst (λ v. IsShardStep v a b (done_at s done)) step.version (step.each s a b ha hb)

module _ {tells : Bool} (events : List Event) (legal : Legal tells events) (first : Placement) (done0 : List (ℕ × ℕ)) (there0 : At events 0 (event.Place first done0)) where
  first_last : last_place (take 1 events) ≡ Some first
  first_last = fold_suc place_after None events 0 (event.Place first done0) there0

  fine_step : (old new : Placement) (done : List (ℕ × ℕ)) → Fine first old → IsStep old new done → Fine first new
  fine_step old new done f step = record {
    rf = step.rf ∙ f.rf;
    count = step.count ∙ f.count;
    sound = λ s shard h.
        let was = at_some old.shards s (omega (arith, at_within new.shards s shard h, step.count)) in
        subst (λ v. IsShard first.rf v shard) (sym step.version) (step_shard first.rf old.version was.0 shard (done_at s done) (f.sound s was.0 was.1) (step_at old new done s was.0 shard step was.1 h));
  }

  placed_next : (k : ℕ) (e : Event) → 1 ≤ k → At events k e → (p : Placement) → last_place (take k events) ≡ Some p
      → (last_place (take (suc k) events) ≡ Some p) ⊎ ((q : Placement) × (done : List (ℕ × ℕ)) × (last_place (take (suc k) events) ≡ Some q) × IsStep p q done
      × ((s y : ℕ) → IsIn done (s, y) → (shard : Shard) → At p.shards s shard → (a : Assignment) → IsIn shard a → a.node ≡ y → a.state ≡ Initializing → HasJoined (take k events) p.rf shard s y a.tenure))
  placed_next zero e low there p is = absurd (omega arith)
  placed_next (suc k) e low there p is =
      elim (place_cases (last_place (take (suc k) events)) e) as (λ _. (last_place (take (suc (suc k)) events) ≡ Some p) ⊎ ((q : Placement) × (done : List (ℕ × ℕ)) × (last_place (take (suc (suc k)) events) ≡ Some q) × IsStep p q done
      × ((s y : ℕ) → IsIn done (s, y) → (shard : Shard) → At p.shards s shard → (a : Assignment) → IsIn shard a → a.node ≡ y → a.state ≡ Initializing → HasJoined (take (suc k) events) p.rf shard s y a.tenure))) [
        | inl same ↦ inl (fold_suc place_after None events (suc k) e there ∙ same ∙ is)
        | inr placed ↦
            let law = lawful_place events legal k placed.0 placed.1 (there ∙ ap Some placed.2) in
            let old : law.last ≡ p = same_Some law.last p (sym law.last_is ∙ is) in
            inr (
              placed.0,
              placed.1,
              fold_suc place_after None events (suc k) e there ∙ placed.3,
              subst (λ x. IsStep x placed.0 placed.1) old law.step,
              subst (λ x. (s y : ℕ) → IsIn placed.1 (s, y) → (shard : Shard) → At x.shards s shard → (a : Assignment) → IsIn shard a → a.node ≡ y → a.state ≡ Initializing → HasJoined (take (suc k) events) x.rf shard s y a.tenure) old (λ s y m shard at a there node is. each-from_All (JoinedThere (take (suc k) events) (law.last).rf shard s y) shard (each-from_All (λ d. JoinedAt (take (suc k) events) law.last d.0 d.1) placed.1 law.joined (s, y) m shard at) a there node is),
            )
      ]

  pub placed_at : (j : ℕ) → 1 ≤ j → j ≤ length events → (p : Placement) × (last_place (take j events) ≡ Some p) × Fine first p
  placed_at j low high =
      along events (λ k. (p : Placement) × (last_place (take k events) ≡ Some p) × Fine first p) 1
      (first, first_last, record { rf = refl; count = refl; sound = λ s shard h. ((legal 0 (event.Place first done0) there0).0).shards shard (at_in first.shards s shard h) })
      (λ k e le there was. elim (placed_next k e le there was.0 was.1) as (λ _. (p : Placement) × (last_place (take (suc k) events) ≡ Some p) × Fine first p) [
        | inl same ↦ (was.0, same, was.2)
        | inr next ↦ (next.0, next.2, fine_step was.0 next.0 next.1 was.2 next.3)
      ])
      j low high

  pub at_unique : (s j v w : ℕ) (a b : Shard) → IsAt events s j v a → IsAt events s j w b → (v ≡ w) × (a ≡ b)
  at_unique s j v w a b x y =
      let same : x.place ≡ y.place = same_Some x.place y.place (sym x.last ∙ y.last) in
      (sym x.version_is ∙ ap (λ p. p.version) same ∙ y.version_is, at_same (y.place).shards s a b (subst (λ p. At p.shards s a) same x.shard_is) y.shard_is)

  pub at_fine : (s j v : ℕ) (a : Shard) → 1 ≤ j → j ≤ length events → (x : IsAt events s j v a) → Fine first x.place
  at_fine s j v a low high x = let p = placed_at j low high in subst (Fine first) (same_Some p.0 x.place (sym p.1 ∙ x.last)) p.2

  pub at_sound : (s j v : ℕ) (a : Shard) → 1 ≤ j → j ≤ length events → IsAt events s j v a → IsShard first.rf v a
  at_sound s j v a low high x = subst (λ w. IsShard first.rf w a) x.version_is ((at_fine s j v a low high x).sound s a x.shard_is)

  -- one event leaves the shard, or changes it by a step
  pub at_step : (s k v : ℕ) (a : Shard) (e : Event) → 1 ≤ k → At events k e → IsAt events s k v a → IsAt events s (suc k) v a ⊎ Change events first.rf s k v a
  at_step s k v a e low there x =
      let fine = at_fine s k v a low (omega (arith, at_within events k e there)) x in
      elim (placed_next k e low there x.place x.last) as (λ _. IsAt events s (suc k) v a ⊎ Change events first.rf s k v a) [
        | inl same ↦ inl (record { place = x.place; last = same; version_is = x.version_is; shard_is = x.shard_is })
        | inr next ↦
            let there_too = at_some (next.0).shards s (omega (arith, at_within (x.place).shards s a x.shard_is, (next.3).count)) in
            inr (record {
              next = there_too.0;
              to = done_at s next.1;
              is = record { place = next.0; last = next.2; version_is = (next.3).version ∙ ap suc x.version_is; shard_is = there_too.1 };
              step = subst (λ w. IsShardStep (suc w) a there_too.0 (done_at s next.1)) x.version_is (step_at x.place next.0 next.1 s a there_too.0 next.3 x.shard_is there_too.1);
              joined = λ y is b m node joins. subst (λ r. HasJoined (take k events) r a s y b.tenure) fine.rf (next.4 s y (done_in s y next.1 is) a x.shard_is b m node joins);
            })
      ]

  -- the shard is there ever after, and versions never fall
  pub at_later : (s i j v : ℕ) (a : Shard) → 1 ≤ i → IsAt events s i v a → i ≤ j → j ≤ length events → (w : ℕ) × (b : Shard) × IsAt events s j w b × (v ≤ w)
  at_later s i j v a one x low high =
      along events (λ k. (w : ℕ) × (b : Shard) × IsAt events s k w b × (v ≤ w)) i (v, a, x, omega arith)
      (λ k e le there was. elim (at_step s k was.0 was.1 e (omega arith) there was.2) as (λ _. (w : ℕ) × (b : Shard) × IsAt events s (suc k) w b × (v ≤ w)) [
        | inl same ↦ (was.0, was.1, same, was.3)
        | inr c ↦ (suc was.0, c.next, c.is, omega (arith, was.3))
      ])
      j low high

  pub at_grows : (s i j v w : ℕ) (a b : Shard) → 1 ≤ i → IsAt events s i v a → i ≤ j → j ≤ length events → IsAt events s j w b → v ≤ w
  at_grows s i j v w a b one x low high y = let l = at_later s i j v a one x low high in omega (arith, l.3, (at_unique s j l.0 w l.1 b l.2 y).0)

  -- at one version the shard is one
  pub at_version : (s i j v : ℕ) (a b : Shard) → 1 ≤ i → IsAt events s i v a → i ≤ j → j ≤ length events → IsAt events s j v b → a ≡ b
  at_version s i j v a b one x low high =
      along events (λ k. (c : Shard) → IsAt events s k v c → a ≡ c) i (λ c y. (at_unique s i v v a c x y).1)
      (λ k e le there was c y.
      let bound : k ≤ length events = omega (arith, at_within events k e there) in
      let l = at_later s i k v a one x le bound in
      elim (at_step s k l.0 l.1 e (omega arith) there l.2) as (λ _. a ≡ c) [
        | inl same ↦ let u = at_unique s (suc k) l.0 v l.1 c same y in was c (subst (λ z. IsAt events s k v z) u.1 (subst (λ w. IsAt events s k w l.1) u.0 l.2))
        | inr d ↦ let u = at_unique s (suc k) (suc l.0) v d.next c d.is y in absurd (omega (arith, u.0, l.3))
      ])
      j low high b

  -- while a move goes on the shard stays as it was when it began
  pub span : (s i j v w : ℕ) (a b : Shard) (joining : Assignment) → 1 ≤ i → IsAt events s i v a → i ≤ j → j ≤ length events → joining.tenure ≤ v → IsAt events s j w b → IsIn b joining → joining.state ≡ Initializing → a ≡ b
  span s i j v w a b joining one x low high m y h is =
      along events (λ k. (u : ℕ) (c : Shard) → IsAt events s k u c → IsIn c joining → a ≡ c) i (λ u c z k. (at_unique s i v u a c x z).1)
      (λ k e le there was u c z h.
      let bound : k ≤ length events = omega (arith, at_within events k e there) in
      let l = at_later s i k v a one x le bound in
      elim (at_step s k l.0 l.1 e (omega arith) there l.2) as (λ _. a ≡ c) [
        | inl same ↦ let q = (at_unique s (suc k) l.0 u l.1 c same z).1 in was l.0 l.1 l.2 (subst (λ r. IsIn r joining) (sym q) h) ∙ q
        | inr d ↦
            let q = (at_unique s (suc k) (suc l.0) u d.next c d.is z).1 in
            let h' = subst (λ r. IsIn r joining) (sym q) h in
            elim (step_joining first.rf l.0 l.1 d.next d.to joining (at_sound s k l.0 l.1 (omega arith) bound l.2) d.step h' is) as (λ _. a ≡ c) [
              | inl same ↦ was l.0 l.1 l.2 (subst (λ r. IsIn r joining) same h') ∙ sym same ∙ q
              | inr new ↦ absurd (omega (arith, new, l.3))
            ]
      ])
      j low high w b y h

  -- what stands after a Place
  pub at_place : (z s : ℕ) (p : Placement) (done : List (ℕ × ℕ)) (shard : Shard) → At events z (event.Place p done) → At p.shards s shard → IsAt events s (suc z) p.version shard
  at_place z s p done shard there h = record { place = p; last = fold_suc place_after None events z (event.Place p done) there; version_is = refl; shard_is = h }

  pub at_shard : (i s version : ℕ) → (h : ShardAt (take i events) version s) → IsAt events s (suc h.position) version h.shard × (h.position < i)
  at_shard i s version h =
      let t = at_take events h.position i (event.Place h.placement h.done) h.there in
      (subst (λ v. IsAt events s (suc h.position) v h.shard) h.version_is (at_place h.position s h.placement h.done h.shard t.0 h.shard_is), t.1)

  pub at_counted : (i s version : ℕ) (nodes : List ℕ) → (h : CountedAt (take i events) version s nodes) → IsAt events s (suc h.position) version h.shard × (h.position < i)
  at_counted i s version nodes h =
      let t = at_take events h.position i (event.Place h.placement h.done) h.there in
      (subst (λ v. IsAt events s (suc h.position) v h.shard) h.version_is (at_place h.position s h.placement h.done h.shard t.0 h.shard_is), t.1)

  pub at_tenure : (i s tenure : ℕ) → (h : TenureAt (take i events) s tenure) → IsAt events s (suc h.position) (h.placement).version h.shard × (h.position < i)
  at_tenure i s tenure h =
      let t = at_take events h.position i (event.Place h.placement h.done) h.there in
      (at_place h.position s h.placement h.done h.shard t.0 h.shard_is, t.1)

  -- the last position below a version, before it is reached
  pub first_above : (s i j v w m : ℕ) (a b : Shard) → 1 ≤ i → IsAt events s i v a → v < m → i ≤ j → j ≤ length events → IsAt events s j w b → m ≤ w
      → (t : ℕ) × (u : ℕ) × (c : Shard) × (i ≤ t) × (t < j) × IsAt events s t u c × (u < m) × ((u' : ℕ) (c' : Shard) → IsAt events s (suc t) u' c' → m ≤ u')
  first_above s i j v w m a b one x below low high =
      along events (λ k. (w : ℕ) (b : Shard) → IsAt events s k w b → m ≤ w → (t : ℕ) × (u : ℕ) × (c : Shard) × (i ≤ t) × (t < k) × IsAt events s t u c × (u < m) × ((u' : ℕ) (c' : Shard) → IsAt events s (suc t) u' c' → m ≤ u')) i
      (λ w b y le. absurd (omega (arith, (at_unique s i v w a b x y).0)))
      (λ k e le there was w b y up.
      let bound : k ≤ length events = omega (arith, at_within events k e there) in
      let l = at_later s i k v a one x le bound in
      elim (cases_lt l.0 m) as (λ _. (t : ℕ) × (u : ℕ) × (c : Shard) × (i ≤ t) × (t < suc k) × IsAt events s t u c × (u < m) × ((u' : ℕ) (c' : Shard) → IsAt events s (suc t) u' c' → m ≤ u')) [
        | inl lt ↦ (k, l.0, l.1, le, omega arith, l.2, lt, λ u' c' z. omega (arith, (at_unique s (suc k) u' w c' b z y).0))
        | inr ge ↦ let r = was l.0 l.1 l.2 ge in (r.0, r.1, r.2, r.3, omega (arith, r.4), r.5, r.6, r.7)
      ])
      j low high w b
