-- What a replica may answer to a read is what some content answers that shows it.
use Rattle.std.proofs.Common.{◌≡◌, ℕ, ℤ, ◌<◌, ◌≤ℤ◌, List, [], ◌∷◌, ◌++◌, map, refl, sym, ap, ◌∙◌, subst, inl, inr, arith}
use Rattle.std.specs.Prelude.{◌⊎◌}
use Rattle.std.specs.Cmp.{tied_itself}
use Rattle.std.specs.Cmp.Lexicographic.{slice_cmp, nat_list_cmp_total}
use Rattle.std.specs.Ordering.{nat_cmp}
use Rattle.std.specs.declared.cmp.Ordering.TheVariants.{Less, Equal}
use Rattle.std.proofs.lemmas.Int.{ints}
use Rattle.m3_model.specs.Ascends.{Ascends}
use Rattle.m3_model.specs.Contents.{Holds, key_of, point_at}
use Rattle.m3_model.specs.Members.{IsIn}
use Rattle.m3_model.specs.Reads.{Covers, points_in, space_picked}
use Rattle.m3_model.specs.Tags.{IsBelow}
use Rattle.m3_model.specs.declared.point.Key.{Key}
use Rattle.m3_model.specs.declared.point.Pick.{Pick}
use Rattle.m3_model.specs.declared.point.Point.{Point}
use Rattle.m3_model.specs.declared.point.Series.{Series}
use Rattle.m3_model.specs.declared.rules.Rules.{Rules}
use Rattle.m3_model.proofs.MemberLemmas.{IsIn-append_cases, IsIn-append_left, IsIn-append_right, IsIn-map}
use Rattle.m3_model.proofs.Lists.{IsIn-flat_map}
use Rattle.placement_core.proofs.ListLemmas.{each-from_All}
use Rattle.cluster_core.specs.Answers.{IsFoundBy, IsWantedUnexpired}
use Rattle.cluster_core.specs.Replicas.{IsGone, Shows}
use Rattle.cluster_core.specs.Shown.{IsFoundIn}
use Rattle.cluster_core.specs.declared.replica_state.ReplicaState.{ReplicaState}
use Rattle.cluster_core.proofs.HeldLemmas.{wanted_value}
use Rattle.told_by.specs.Shown.{FoundIsShown}
use Rattle.told_by.proofs.ContentLemmas.{Goes, Parted, Stays, by_key, content_by, exact_by, holds_by, left, source_by}

-- ---- one value a key

abbrev point_in : ℕ → Series → ℕ × ℤ → Point
point_in ns s x = record { ns = ns; id = s.id; t = x.0; v = x.1 }

abbrev points_of : ℕ → Series → List Point
points_of ns s = map (point_in ns s) s.points

-- of one time a series has one value
one_value : (xs : List (ℕ × ℤ)) → Ascends (λ a b. a.0 < b.0) xs → (x y : ℕ × ℤ) → IsIn xs x → IsIn xs y → x.0 ≡ y.0 → x.1 ≡ y.1
one_value [] a x y hx hy same = absurd hx
one_value (z ∷ zs) a x y (inl e) (inl f) same = ap (λ (w : ℕ × ℤ). w.1) (sym e ∙ f)
one_value (z ∷ zs) a x y (inl e) (inr k) same = absurd (omega (arith, a.0 y k, ap (λ (w : ℕ × ℤ). w.0) e, same))
one_value (z ∷ zs) a x y (inr k) (inl f) same = absurd (omega (arith, a.0 x k, ap (λ (w : ℕ × ℤ). w.0) f, same))
one_value (z ∷ zs) a x y (inr k) (inr l) same = one_value zs a.1 x y k l same

-- a point of an answer is of the identifier of one of its series
id_of : (ns : ℕ) (series : List Series) (p : Point) → IsIn (points_in ns series) p → (s : Series) × IsIn series s × (s.id ≡ p.id)
id_of ns series p m = let s = IsIn-flat_map (points_of ns) series p m in let x = IsIn-map (point_in ns s.0) (s.0).points p s.2 in (s.0, s.1, ap (λ (q : Point). q.id) x.2)

not_below : (a b : List ℕ) → IsBelow a b → a ≡ b → ⊥
not_below a b below same = let tied : slice_cmp nat_cmp a a ≡ Equal = tied_itself nat_list_cmp_total a in let bad : Less ≡ Equal = sym below ∙ ap (slice_cmp nat_cmp a) (sym same) ∙ tied in cc

-- of one key an answer in order has one value
one_point : (ns : ℕ) (series : List Series) → Ascends (λ a b. IsBelow a.id b.id) series → ((s : Series) → IsIn series s → Ascends (λ a b. a.0 < b.0) s.points)
    → (p q : Point) → IsIn (points_in ns series) p → IsIn (points_in ns series) q → key_of p ≡ key_of q → p.v ≡ q.v
one_point ns [] ids times p q hp hq same = absurd hp
one_point ns (s ∷ series) ids times p q hp hq same =
    by (IsIn-append_cases (points_of ns s) (points_in ns series) p hp) (IsIn-append_cases (points_of ns s) (points_in ns series) q hq) (λ mp mq. one_point ns series ids.1 (λ x m. times x (inr m)) p q mp mq same)
  where
    here : (x : Point) → IsIn (points_of ns s) x → s.id ≡ x.id
    here x m = ap (λ (y : Point). y.id) (IsIn-map (point_in ns s) s.points x m).2

    apart : (x y : Point) → IsIn (points_of ns s) x → IsIn (points_in ns series) y → x.id ≡ y.id → ⊥
    apart x y mx my e = let other = id_of ns series y my in not_below s.id (other.0).id (ids.0 other.0 other.1) (here x mx ∙ e ∙ sym other.2)

    by : IsIn (points_of ns s) p ⊎ IsIn (points_in ns series) p → IsIn (points_of ns s) q ⊎ IsIn (points_in ns series) q → (IsIn (points_in ns series) p → IsIn (points_in ns series) q → p.v ≡ q.v) → p.v ≡ q.v
    by (inl mp) (inl mq) later =
        let x = IsIn-map (point_in ns s) s.points p mp in
        let y = IsIn-map (point_in ns s) s.points q mq in
        let time : (x.0).0 ≡ (y.0).0 = ap (λ (z : Point). z.t) x.2 ∙ ap (λ (k : Key). k.t) same ∙ ap (λ (z : Point). z.t) (sym y.2) in
        sym (ap (λ (z : Point). z.v) x.2) ∙ one_value s.points (times s (inl refl)) x.0 y.0 x.1 y.1 time ∙ ap (λ (z : Point). z.v) y.2
    by (inl mp) (inr mq) later = absurd (apart p q mp mq (ap (λ (k : Key). k.id) same))
    by (inr mp) (inl mq) later = absurd (apart q p mq mp (ap (λ (k : Key). k.id) (sym same)))
    by (inr mp) (inr mq) later = later mp mq

-- ---- reads

module _ (r : ReplicaState) (rules : Rules) (pick : Pick) (from to : ℕ) (series : List Series) (found : IsFoundBy r rules pick from to series) where
  abbrev answered : List Point
  answered = points_in (space_picked pick) series

  abbrev rest : Parted (Stays r answered) (Goes r answered) by_key r.sure
  rest = left r answered

  -- the answer's points, and of all other keys the sure points that aren't gone
  abbrev shown : List Point
  shown = answered ++ rest.kept

  wanted_at : (p : Point) → IsIn answered p → IsIn r.sure p × IsWantedUnexpired rules pick from to p
  wanted_at p m = each-from_All (λ q. IsIn r.sure q × IsWantedUnexpired rules pick from to q) answered found.nothing_else p m

  covered : (p : Point) → IsIn r.sure p → ¬ IsGone r p → IsWantedUnexpired rules pick from to p → Covers answered p
  covered p m stays wanted = each-from_All (λ q. ¬ IsGone r q → IsWantedUnexpired rules pick from to q → Covers answered q) r.sure found.all_there p m stays wanted

  covered_holds : (p : Point) → Covers answered p → Holds (content_by shown) p
  covered_holds p c =
      let h = holds_by shown (record p { v = c.value }) (IsIn-append_left answered rest.kept (record p { v = c.value }) c.stands) in
      let low : p.v ≤ℤ c.value = c.at_least in
      let high : c.value ≤ℤ h.value = h.at_least in
      record { value = h.value; at_least = grind (arith, ints); stands = h.stands }

  shows : Shows r (content_by shown)
  shows = record {
    sure = λ k v e. elim (IsIn-append_cases answered rest.kept (point_at k v) (source_by shown k v e)) as (λ _. IsIn r.sure (point_at k v)) [
      | inl front ↦ (wanted_at (point_at k v) front).0
      | inr back ↦ (rest.sound (point_at k v) back).0
    ];
    all = λ p m stays. elim (rest.all p m) as (λ _. Holds (content_by shown) p) [
      | inl kept ↦ holds_by shown p (IsIn-append_right answered rest.kept p kept)
      | inr goes ↦ elim goes as (λ _. Holds (content_by shown) p) [
        | inl g ↦ absurd (stays g)
        | inr q ↦
            let same : record q.0 { v = p.v } ≡ p = ap (λ (k : Key). point_at k p.v) q.2 in
            covered_holds p (covered p m stays (subst (IsWantedUnexpired rules pick from to) same (wanted_value rules pick from to q.0 p.v (wanted_at q.0 q.1).1)))
      ]
    ];
  }

  one_at : (p : Point) → IsIn answered p → (q : Point) → IsIn shown q → key_of q ≡ key_of p → q.v ≡ p.v
  one_at p m q k same =
      elim (IsIn-append_cases answered rest.kept q k) as (λ _. q.v ≡ p.v) [
        | inl front ↦ one_point (space_picked pick) series (found.ordered).ids (found.ordered).times q p front m same
        | inr back ↦ absurd (((rest.sound q back).1).1 p m (sym same))
      ]

  found_in : IsFoundIn (content_by shown) rules pick from to series
  found_in = record {
    sound = λ p m. (exact_by shown p (IsIn-append_left answered rest.kept p m) (one_at p m), (wanted_at p m).1);
    all = λ k v e wanted. elim (IsIn-append_cases answered rest.kept (point_at k v) (source_by shown k v e)) as (λ _. IsIn answered (point_at k v)) [
      | inl front ↦ front
      | inr back ↦
          let s = rest.sound (point_at k v) back in
          let c = covered (point_at k v) s.0 (s.1).0 wanted in
          absurd ((s.1).1 (point_at k c.value) c.stands refl)
    ];
    ordered = found.ordered;
  }

pub found_is_shown : FoundIsShown
found_is_shown r rules pick from to series found = (content_by (shown r rules pick from to series found), shows r rules pick from to series found, found_in r rules pick from to series found)
