-- What a slot holds: it only grows, a Put and a Merge add to it, pages and reads show it.
use Rattle.std.proofs.Common.{◌≡◌, ℕ, suc, ◌<◌, ◌≤◌, List, [], ◌∷◌, ◌++◌, take, length, refl, sym, ap, ◌∙◌, subst, inl, inr, arith, true}
use Rattle.std.specs.Prelude.{◌⊎◌, ◌≢◌, Option, Some, None, MatchOption, ℤ, ◌≤ℤ◌}
use Rattle.std.specs.Int.Signed.{≤ℤ_refl, <ℤ-≤ℤ_trans, <ℤ_irrefl}
use Rattle.std.proofs.lemmas.Int.{by_lt_z}
use Rattle.std.specs.declared.cmp.Ordering.{Ordering}
use Rattle.std.specs.declared.cmp.Ordering.TheVariants.{Less, Equal, Greater}
use Rattle.std.proofs.lemmas.Bool.{cases_lt}
use Rattle.m3_model.specs.Members.{IsIn}
use Rattle.placement_core.proofs.ListLemmas.{each-from_All}
use Rattle.m3_model.proofs.MemberLemmas.{IsIn-append_left, IsIn-append_right}
use Rattle.m3_model.specs.Keys.{key_cmp}
use Rattle.m3_model.specs.Contents.{key_of}
use Rattle.m3_model.specs.Reads.{Covers, Matches, points_in, space_picked}
use Rattle.m3_model.specs.declared.point.Point.{Point}
use Rattle.m3_model.specs.declared.point.Key.{Key}
use Rattle.m3_model.specs.declared.point.Page.{Page}
use Rattle.m3_model.specs.declared.point.Pick.{Pick}
use Rattle.m3_model.specs.declared.point.Pick.TheVariants as pick
use Rattle.m3_model.specs.declared.point.Series.{Series}
use Rattle.m3_model.specs.declared.rules.Rules.{Rules}
use Rattle.m3_model.specs.declared.replica.Standing.TheVariants as standing
use Rattle.cluster_core.specs.declared.event.StepCall.{StepCall}
use Rattle.cluster_core.specs.declared.event.StepCall.TheVariants as call
use Rattle.cluster_core.specs.declared.event.StepReply.{StepReply}
use Rattle.cluster_core.specs.declared.event.StepReply.TheVariants as reply
use Rattle.cluster_core.specs.declared.event.Event.{Event}
use Rattle.cluster_core.specs.declared.event.Event.TheVariants as event
use Rattle.cluster_core.specs.Lists.{At}
use Rattle.cluster_core.specs.declared.replica_state.ReplicaState.{ReplicaState}
use Rattle.cluster_core.specs.Replicas.{replica, after, IsGone}
use Rattle.cluster_core.specs.Answers.{PageAsked, IsWantedUnexpired, IsFoundBy, IsPage, IsKeyBelow, IsPastKey, IsUpTo, AsksFor, IsCoverFrom}
use Rattle.cluster_core.specs.Legal.{Legal}
use Rattle.cluster_core.specs.Core.{Opening, AgreesWith, held, held_by}
use Rattle.m3_model.specs.Rules.{HasExpired}
use Rattle.cluster_core.proofs.ListLemmas.{at_within, any_at, at_any}
use Rattle.cluster_core.proofs.ReplicaLemmas.{after_sure, after_begun, greater_right, some_there}
use Rattle.cluster_core.proofs.TraceLemmas.{lawful_step, replica_own, each_step, fence_grows, open_begun}

-- ---- covering

≤ℤ_trans : {a b c : ℤ} → a ≤ℤ b → b ≤ℤ c → a ≤ℤ c
≤ℤ_trans {a} {b} {c} h k = by_lt_z c a (λ lt. absurd (<ℤ_irrefl (<ℤ-≤ℤ_trans (<ℤ-≤ℤ_trans lt h) k))) (λ le. le)

pub covers_sub : (xs ys : List Point) (p : Point) → ((q : Point) → IsIn xs q → IsIn ys q) → Covers xs p → Covers ys p
covers_sub xs ys p sub c = record { value = c.value; at_least = c.at_least; stands = sub (record p { v = c.value }) c.stands }

pub covers_here : (p : Point) (ps : List Point) → IsIn ps p → Covers ps p
covers_here p ps h = record { value = p.v; at_least = ≤ℤ_refl p.v; stands = h }

-- what covers a higher value covers the point
pub covers_lower : (ps : List Point) (p : Point) (w : ℤ) → p.v ≤ℤ w → Covers ps (record p { v = w }) → Covers ps p
covers_lower ps p w le c = record { value = c.value; at_least = ≤ℤ_trans le c.at_least; stands = c.stands }

matches_value : (pick : Pick) (p : Point) (w : ℤ) → Matches pick p → Matches pick (record p { v = w })
matches_value (pick.One ns id) p w h = h
matches_value (pick.Match ns wanted) p w h = h

pub wanted_value : (rules : Rules) (pick : Pick) (from to : ℕ) (p : Point) (w : ℤ) → IsWantedUnexpired rules pick from to p → IsWantedUnexpired rules pick from to (record p { v = w })
wanted_value rules pick from to p w h = record { matches = matches_value pick p w h.matches; in_range = h.in_range; unexpired = λ x. h.unexpired (record { space = x.space; stands = x.stands; ended = x.ended }) }

-- whether a key is gone doesn't depend on the value
pub gone_value : (r : ReplicaState) (p : Point) (w : ℤ) → ¬ IsGone r p → ¬ IsGone r (record p { v = w })
gone_value r p w stays gone =
    let tick = any_at (λ rules. HasExpired rules (record p { v = w })) r.ticks gone in
    stays (at_any (λ rules. HasExpired rules p) r.ticks tick.0 tick.1 tick.2 (record { space = (tick.3).space; stands = (tick.3).stands; ended = (tick.3).ended }))

-- a read shows what is held, wanted and not gone
pub found_covers : (r : ReplicaState) (rules : Rules) (pick : Pick) (from to : ℕ) (series : List Series) (p : Point)
    → IsFoundBy r rules pick from to series → Covers r.sure p → ¬ IsGone r p → IsWantedUnexpired rules pick from to p → Covers (points_in (space_picked pick) series) p
found_covers r rules pick from to series p found c stays wanted =
    covers_lower (points_in (space_picked pick) series) p c.value c.at_least
    (each-from_All (λ q. ¬ IsGone r q → IsWantedUnexpired rules pick from to q → Covers (points_in (space_picked pick) series) q) r.sure found.all_there (record p { v = c.value }) c.stands (gone_value r p c.value stays) (wanted_value rules pick from to p c.value wanted))

-- a page shows what is held and not gone, up to where it says that more follows
pub page_covers : (r : ReplicaState) (from : Option Key) (page : Page) (p : Point)
    → IsPage r (call.Page from) page → Covers r.sure p → ¬ IsGone r p → IsPastKey from (key_of p) → IsUpTo page.next (key_of p) → Covers page.points p
page_covers r from page p shown c stays past up =
    covers_lower page.points p c.value c.at_least (each-from_All (λ q. ¬ IsGone r q → AsksFor (call.Page from) q → IsUpTo page.next (key_of q) → Covers page.points q) r.sure shown.all_there (record p { v = c.value }) c.stands (gone_value r p c.value stays) past up)

dec_below : (a b : Key) → IsKeyBelow a b ⊎ (IsKeyBelow a b → ⊥)
dec_below a b = by (key_cmp a b)
  where
    by : (o : Ordering) → (o ≡ Less) ⊎ (o ≡ Less → ⊥)
    by Less = inl refl
    by Equal = inr (λ e. cc)
    by Greater = inr (λ e. cc)

-- some page of a cover holds each point above its first key
pub cover_finds : (from : Option Key) (pages : List PageAsked) (p : Point) → IsCoverFrom from pages → IsPastKey from (key_of p)
    → ((x : PageAsked) → IsIn pages x → IsPastKey x.0 (key_of p) → IsUpTo x.1.next (key_of p) → Covers x.1.points p)
    → (x : PageAsked) × IsIn pages x × Covers x.1.points p
cover_finds from [] p cover past each = absurd cover
cover_finds from (x ∷ xs) p cover past each =
    by x.1.next refl cover.1 (λ k c past. cover_finds (Some k) xs p c past (λ y h. each y (inr h)))
  where
    here : IsPastKey x.0 (key_of p)
    here = subst (λ f. IsPastKey f (key_of p)) (sym cover.0) past

    by : (next : Option Key) → x.1.next ≡ next → MatchOption next (xs ≡ []) (λ k. IsCoverFrom (Some k) xs)
        → ((k : Key) → IsCoverFrom (Some k) xs → IsKeyBelow k (key_of p) → (y : PageAsked) × IsIn xs y × Covers y.1.points p)
        → (y : PageAsked) × ((x ≡ y) ⊎ IsIn xs y) × Covers y.1.points p
    by None is goes later = (x, inl refl, each x (inl refl) here (subst (λ n. IsUpTo n (key_of p)) (sym is) tt))
    by (Some k) is goes later =
        elim (dec_below k (key_of p)) as (λ _. (y : PageAsked) × ((x ≡ y) ⊎ IsIn xs y) × Covers y.1.points p) [
          | inl b ↦ let l = later k goes b in (l.0, inr l.1, l.2)
          | inr nb ↦ (x, inl refl, each x (inl refl) here (subst (λ n. IsUpTo n (key_of p)) (sym is) nb))
        ]

-- ---- a slot's points

held_sub : (opening : List Point) (r r' : ReplicaState) (begun : List ℕ) (q : Point) → ((p : Point) → IsIn r.sure p → IsIn r'.sure p) → IsIn (held_by opening r begun) q → IsIn (held_by opening r' begun) q
held_sub opening r r' [] q sub h = h
held_sub opening r r' (t ∷ ts) q sub h = sub q h

held_sure : (opening : List Point) (r : ReplicaState) (begun : List ℕ) → begun ≢ [] → held_by opening r begun ≡ r.sure
held_sure opening r [] ne = absurd (ne refl)
held_sure opening r (t ∷ ts) ne = refl

module _ (events : List Event) (legal : Legal true events) (o : Opening) (agrees : AgreesWith events o) where
  -- the slot holds the point after the first i events
  abbrev pub HoldsBy : ℕ → ℕ → ℕ → Point → Type 0
  HoldsBy s i n p = Covers (held o (take i events) n s) p

  held_begin : (n s j tenure fence : ℕ) (points : List Point) (q : Point) → At events j (event.Step n s (call.Begin tenure) (reply.Began fence points))
      → (begun : List ℕ) → (replica n s (take j events)).begun ≡ begun → IsIn (held_by (o n s) (replica n s (take j events)) begun) q → IsIn ((replica n s (take j events)).sure ++ points) q
  held_begin n s j tenure fence points q there [] is h = IsIn-append_right (replica n s (take j events)).sure points q (subst (λ ps. IsIn ps q) (sym (agrees j n s tenure fence points there is)) h)
  held_begin n s j tenure fence points q there (t ∷ ts) is h = IsIn-append_left (replica n s (take j events)).sure points q h

  held_step : (n s j : ℕ) (c : StepCall) (a : StepReply) (q : Point) → At events j (event.Step n s c a)
      → IsIn (held_by (o n s) (replica n s (take j events)) (replica n s (take j events)).begun) q
      → IsIn (held_by (o n s) (after (replica n s (take j events)) c a) (after (replica n s (take j events)) c a).begun) q
  held_step n s j c a q there h =
      let r = replica n s (take j events) in
      elim (after_begun r c a) as (λ _. IsIn (held_by (o n s) (after r c a) (after r c a).begun) q) [
        | inl same ↦ subst (λ b. IsIn (held_by (o n s) (after r c a) b) q) (sym same) (held_sub (o n s) r (after r c a) r.begun q (after_sure r c a) h)
        | inr b ↦
            subst (λ x. IsIn (held_by (o n s) (after r x a) (after r x a).begun) q) (sym b.3)
            (subst (λ x. IsIn (held_by (o n s) (after r (call.Begin b.0) x) (after r (call.Begin b.0) x).begun) q) (sym b.4)
            (subst (λ ps. IsIn ps q) (sym (held_sure (o n s) (after r (call.Begin b.0) (reply.Began b.1 b.2)) (r.begun ++ b.0 ∷ []) (some_there r.begun b.0)))
            (held_begin n s j b.0 b.1 b.2 q (there ∙ ap Some (λ i. event.Step n s (b.3 i) (b.4 i))) r.begun refl h)))
      ]

  pub holds_grows : (n s i j : ℕ) (p : Point) → i ≤ j → j ≤ length events → HoldsBy s i n p → HoldsBy s j n p
  holds_grows n s i j p low high h =
      covers_sub (held o (take i events) n s) (held o (take j events) n s) p
      (λ q m. each_step events legal n s (λ r. IsIn (held_by (o n s) r r.begun) q) i (λ k c a le there was. held_step n s k c a q there was) m j low high) h

  -- an Open slot holds its sure points
  pub holds_sure : (n s j : ℕ) (p : Point) → j ≤ length events → (replica n s (take j events)).standing ≡ standing.Open → HoldsBy s j n p → Covers (replica n s (take j events)).sure p
  holds_sure n s j p high is h =
      let r = replica n s (take j events) in
      subst (λ ps. Covers ps p) (held_sure (o n s) r r.begun (open_begun events legal n s j high is)) h

  sure_held : (n s j : ℕ) (r : ReplicaState) (p : Point) → replica n s (take j events) ≡ r → r.begun ≢ [] → Covers r.sure p → HoldsBy s j n p
  sure_held n s j r p is ne c =
      subst (λ x. Covers (held_by (o n s) x x.begun) p) (sym is) (subst (λ ps. Covers ps p) (sym (held_sure (o n s) r r.begun ne)) c)

  pub put_holds : (n s i client number version : ℕ) (rules : Rules) (p : Point) → At events i (event.Step n s (call.Put client number rules version p) reply.Done) → HoldsBy s (suc i) n p
  put_holds n s i client number version rules p there =
      let law = lawful_step events legal i n s (call.Put client number rules version p) reply.Done there in
      let high = at_within events i (event.Step n s (call.Put client number rules version p) reply.Done) there in
      let r = replica n s (take i events) in
      sure_held n s (suc i) (after r (call.Put client number rules version p) reply.Done) p (replica_own events legal n s i (call.Put client number rules version p) reply.Done there)
      (open_begun events legal n s i (omega (arith, high)) ((law.serving).owner).open_) (covers_here p (r.sure ++ p ∷ []) (IsIn-append_right r.sure (p ∷ []) p (inl refl)))

  pub merge_holds : (n s i count : ℕ) (page : Page) (p : Point) → At events i (event.Step n s (call.Merge page) (reply.Count count)) → Covers page.points p → HoldsBy s (suc i) n p
  merge_holds n s i count page p there c =
      let law = lawful_step events legal i n s (call.Merge page) (reply.Count count) there in
      let high = at_within events i (event.Step n s (call.Merge page) (reply.Count count)) there in
      let r = replica n s (take i events) in
      sure_held n s (suc i) (after r (call.Merge page) (reply.Count count)) p (replica_own events legal n s i (call.Merge page) (reply.Count count) there)
      (open_begun events legal n s i (omega (arith, high)) (law.0).open_) (covers_sub page.points (r.sure ++ page.points) p (λ q h. IsIn-append_right r.sure page.points q h) c)

  -- ---- fences

  pub fenced_at : (n s i version : ℕ) → At events i (event.Step n s (call.Fence version) reply.Done) → version ≤ (replica n s (take (suc i) events)).fence
  fenced_at n s i version there =
      subst (λ r. version ≤ r.fence) (sym (replica_own events legal n s i (call.Fence version) reply.Done there)) (greater_right (replica n s (take i events)).fence version)

  -- a point was taken at a version before the fence went above it
  pub put_before : (n s i j client number version f : ℕ) (rules : Rules) (p : Point) → At events i (event.Step n s (call.Put client number rules version p) reply.Done)
      → version < f → f ≤ (replica n s (take j events)).fence → j ≤ length events → i < j
  put_before n s i j client number version f rules p there low high bound =
      elim (cases_lt i j) as (λ _. i < j) [
        | inl lt ↦ lt
        | inr le ↦
            let law = lawful_step events legal i n s (call.Put client number rules version p) reply.Done there in
            let within = at_within events i (event.Step n s (call.Put client number rules version p) reply.Done) there in
            absurd (omega (arith, fence_grows events legal n s j i f le (omega (arith, within)) high, (law.serving).fence_low))
      ]
