-- A snapshot that is saved, and older ones that are taken away.
use Rattle.std.proofs.Common.{◌≡◌, ◌⊎◌, rules, inl, inr, ⊎_elim, ℕ, ◌<◌, ◌≤◌, List, [], ◌∷◌, ◌++◌, refl, sym, ap, subst, ◌∙◌, arith, true, false, cond, ◌&&◌, Some, None, Option}
use Rattle.std.specs.Prelude.{filter, nat_lt, ◌==◌}
use Rattle.std.specs.Cmp.{nat_cmp_is}
use Rattle.std.proofs.lemmas.Bool.{eqb-true, ltb-true, and_parts}
use Rattle.std.proofs.lemmas.List.Elements.{filter-append}
use Rattle.std.specs.declared.cmp.Ordering.TheVariants.{Less}
use Rattle.std.specs.FinMap.{get, keys}
use Rattle.commit_log.specs.m3_model.Ascends.{Ascends}
use Rattle.commit_log.specs.m3_model.Contents.{Contents}
use Rattle.commit_log.specs.m3_model.Members.{IsIn}
use Rattle.commit_log.specs.m3_model.declared.point.Point.{Point}
use Rattle.commit_log.proofs.m3_model_proofs.MemberLemmas.{IsIn-append_left, IsIn-append_right, IsIn-append_cases, IsIn-push}
use Rattle.commit_log.proofs.m3_model_proofs.Lists.{IsIn-filter, IsIn-filter_passes, filter-IsIn}
use Rattle.commit_log.proofs.m3_model_proofs.Ascending.{Ascends-filter}
use Rattle.commit_log.specs.m3_outside.declared.file_name.FileName.{FileName}
use Rattle.commit_log.specs.m3_outside.Files.{Files}
use Rattle.commit_log.specs.m3_outside.Removal.{MayTakeAway}
use Rattle.commit_log.proofs.m3_outside_proofs.Names.{name_is}
use Rattle.commit_log.proofs.m3_outside_proofs.Removal.{gone_none, left_same}
use Rattle.commit_log.specs.wire_bytes.Snapshots.{Snapshot}
use Rattle.shard_files.specs.HeldEntries.{points_of}
use Rattle.shard_files.specs.Parts.{is_open, snapshot_data, snapshot_checkpoint, SnapshotHolds, is_snapshot_checkpoint, counted_snapshots, IsNewest, NewestIs, IsWhole, AreWhole}
use Rattle.shard_files.specs.FilesHold.{volume_points, points_in_newest, FilesHold}
use Rattle.shard_files.specs.Keeps.{HoldsKept, Keeps}
use Rattle.shard_files.specs.Steps.{IsOfSnapshot, MaySave, is_snapshot_file, is_older, snapshots_below}
use Rattle.shard_files.specs.FileLaws.{SameKinds}
use Rattle.shard_files.specs.StepLaws.{MayBeSaved, SaveKeeps, MayBeCleared, ClearKeeps}
use Rattle.shard_files.proofs.CountedLemmas.{Before, counted_asked, counted_open, is_counted, counted_ascend, same_names, there_key}
use Rattle.shard_files.proofs.FilesHoldLemmas.{files_hold_ordered}
use Rattle.shard_files.proofs.PartLemmas.{snapshot_named, volumes_as, log_as, one_newest}

-- checkpoints ascend by number
less_name : (a b : ℕ) → a < b → Before (snapshot_checkpoint a) (snapshot_checkpoint b)
less_name a b lt = sym (nat_cmp_is a b Less lt)

ascends_push : (xs : List FileName) (n : FileName) → Ascends Before xs → ((m : FileName) → IsIn xs m → Before m n) → Ascends Before (xs ++ n ∷ [])
ascends_push [] n up below = ((λ m none. absurd none), tt)
ascends_push (x ∷ xs) n up below = (
  (λ m listed. ⊎_elim (λ (old : IsIn xs m). up.0 m old) (λ (new : (n ≡ m) ⊎ ⊥). ⊎_elim (λ (e : n ≡ m). subst (Before x) e (below x (inl refl))) (λ (none : ⊥). absurd none) new) (IsIn-append_cases xs (n ∷ []) m listed)),
  ascends_push xs n up.1 (λ m listed. below m (inr listed)),
)

is_checkpoint : (number : ℕ) → is_snapshot_checkpoint (snapshot_checkpoint number) ≡ true
is_checkpoint number = refl

-- ---- a snapshot that is saved

module _ (kept : Contents) (s : Snapshot) (x y : Files) (may : MayBeSaved kept s x) (saved : MaySave s x y) where
  own_kind : (q : FileName) → IsOfSnapshot s.number q → 8 ≤ q.kind
  own_kind q (inl e) = let k = ap (λ (n : FileName). n.kind) e in omega (arith, k)
  own_kind q (inr e) = let k = ap (λ (n : FileName). n.kind) e in omega (arith, k)

  same_volumes : SameKinds 1 7 x y
  same_volumes q low high = saved.others q (λ own. let k = own_kind q own in omega (arith, k, high))

  same_log : SameKinds 0 0 x y
  same_log q low high = saved.others q (λ own. let k = own_kind q own in omega (arith, k, high))

  -- another snapshot stays, and so does whether it counts
  other_snapshot : (t : Snapshot) → SnapshotHolds t x → SnapshotHolds t y
  other_snapshot t h = record {
    values = h.values;
    body = saved.others (snapshot_data t.number) (λ own. let gone = may.absent (snapshot_data t.number) own in let there = h.body in cc) ∙ h.body;
    checkpoint = saved.others (snapshot_checkpoint t.number) (λ own. let gone = may.absent (snapshot_checkpoint t.number) own in let there = h.checkpoint in cc) ∙ h.checkpoint;
  }

  other_checkpoint : (n : FileName) → is_snapshot_checkpoint n ≡ true → (n ≡ snapshot_checkpoint s.number → ⊥) → get y n ≡ get x n
  other_checkpoint n asked apart = saved.others n (λ own. ⊎_elim (λ (e : n ≡ snapshot_data s.number).
      let nine = ap (λ (q : FileName). q.kind) (snapshot_named n asked) in
      let eight = ap (λ (q : FileName). q.kind) e in
      omega (arith, nine, eight)) (λ (e : n ≡ snapshot_checkpoint s.number). apart e) own)

  not_own : (n : FileName) → IsIn (counted_snapshots x) n → n ≡ snapshot_checkpoint s.number → ⊥
  not_own n m e =
      let open_ = counted_open is_snapshot_checkpoint x n m in
      let gone : get x n ≡ None = may.absent n (inr e) in
      let never : is_open None ≡ true = ap is_open (sym gone) ∙ open_ in
      cc

  still : (n : FileName) → IsIn (counted_snapshots x) n → IsIn (counted_snapshots y) n
  still n m = let a = counted_asked is_snapshot_checkpoint x n m in is_counted is_snapshot_checkpoint y n a (ap is_open (other_checkpoint n a (not_own n m)) ∙ counted_open is_snapshot_checkpoint x n m)

  was : (n : FileName) → IsIn (counted_snapshots y) n → (n ≡ snapshot_checkpoint s.number → ⊥) → IsIn (counted_snapshots x) n
  was n m apart = let a = counted_asked is_snapshot_checkpoint y n m in is_counted is_snapshot_checkpoint x n a (ap is_open (sym (other_checkpoint n a apart)) ∙ counted_open is_snapshot_checkpoint y n m)

  old_whole : AreWhole x → (n : FileName) → IsIn (counted_snapshots x) n → IsWhole y n
  old_whole all n m = let w = all n m in record { snapshot = w.snapshot; named = w.named; holds = other_snapshot w.snapshot w.holds }

  -- it is none of those that count where it doesn't
  not_closed : is_open (get y (snapshot_checkpoint s.number)) ≡ false → (n : FileName) → IsIn (counted_snapshots y) n → n ≡ snapshot_checkpoint s.number → ⊥
  not_closed closed n m e =
      let open_ = counted_open is_snapshot_checkpoint y n m in
      let never : false ≡ true = sym closed ∙ ap (λ q. is_open (get y q)) (sym e) ∙ open_ in
      cc

  each_whole : (is_open (get y (snapshot_checkpoint s.number)) ≡ false) ⊎ SnapshotHolds s y → AreWhole x → AreWhole y
  each_whole (inl closed) all n m = old_whole all n (was n m (not_closed closed n m))
  each_whole (inr holds) all n m =
      ⊎_elim (λ (e : n ≡ snapshot_checkpoint s.number). let w : IsWhole y n = record { snapshot = s; named = e; holds = holds } in w)
      (λ (apart : n ≡ snapshot_checkpoint s.number → ⊥). old_whole all n (was n m apart)) (name_is n (snapshot_checkpoint s.number))

  module _ (before : List Point) (tenure fence : ℕ) (held : FilesHold before tenure fence x) where
    abbrev vs : List Point
    vs = volume_points held.parts.volumes

    abbrev es : List Point
    es = points_of held.parts.entries

    -- it doesn't count
    closed_keeps : is_open (get y (snapshot_checkpoint s.number)) ≡ false → HoldsKept kept before tenure fence y
    closed_keeps closed =
        let names : counted_snapshots y ≡ counted_snapshots x = same_names (counted_snapshots y) (counted_snapshots x) (counted_ascend is_snapshot_checkpoint y) (counted_ascend is_snapshot_checkpoint x) (λ n m. was n m (not_closed closed n m)) still in
        record {
          points = before;
          held = record {
            parts = held.parts;
            holds = record {
              volumes = volumes_as x y same_volumes held.parts.volumes held.holds.volumes;
              newest = newest_closed names held.parts.newest held.holds.newest;
              log = log_as x y same_log held.parts.entries held.holds.log;
            };
            points_are = held.points_are;
            tenure_is = held.tenure_is;
            fence_is = held.fence_is;
          };
          sheds = record { nothing_else = λ p m. m; whole = λ p has. may.whole p has before tenure fence held };
        }
      where
        newest_closed : counted_snapshots y ≡ counted_snapshots x → (o : Option Snapshot) → NewestIs o x → NewestIs o y
        newest_closed names None is = names ∙ is
        newest_closed names (Some t) is = record { older = is.older; last = names ∙ is.last; holds = other_snapshot t is.holds }

    -- it counts, as the last
    open_keeps : SnapshotHolds s y → HoldsKept kept before tenure fence y
    open_keeps holds =
        let own = snapshot_checkpoint s.number in
        let own_counted : IsIn (counted_snapshots y) own = is_counted is_snapshot_checkpoint y own (is_checkpoint s.number) (ap is_open holds.checkpoint) in
        let below : (m : FileName) → IsIn (counted_snapshots x) m → Before m own = λ m listed.
        let named = snapshot_named m (counted_asked is_snapshot_checkpoint x m listed) in
        subst (λ q. Before q own) (sym named) (less_name m.number s.number (may.above m listed)) in
        let names : counted_snapshots y ≡ counted_snapshots x ++ own ∷ [] =
        same_names (counted_snapshots y) (counted_snapshots x ++ own ∷ []) (counted_ascend is_snapshot_checkpoint y) (ascends_push (counted_snapshots x) own (counted_ascend is_snapshot_checkpoint x) below)
        (λ n m. ⊎_elim (λ (e : n ≡ own). subst (IsIn (counted_snapshots x ++ own ∷ [])) (sym e) (IsIn-push (counted_snapshots x) own)) (λ (apart : n ≡ own → ⊥). IsIn-append_left (counted_snapshots x) (own ∷ []) n (was n m apart)) (name_is n own))
        (λ n m.
        ⊎_elim (λ (old : IsIn (counted_snapshots x) n). still n old) (λ (new : (own ≡ n) ⊎ ⊥). ⊎_elim (λ (e : own ≡ n). subst (IsIn (counted_snapshots y)) e own_counted) (λ (none : ⊥). absurd none) new)
        (IsIn-append_cases (counted_snapshots x) (own ∷ []) n m)) in
        let same = may.numbers before tenure fence held in
        let t_is = same.0 in
        let f_is = same.1 in
        let order = files_hold_ordered before tenure fence x held in
        let newest : IsNewest s y = record { older = counted_snapshots x; last = names; holds = holds } in
        record {
          points = vs ++ (s.points ++ es);
          held = record {
            parts = record { volumes = held.parts.volumes; newest = Some s; entries = held.parts.entries };
            holds = record { volumes = volumes_as x y same_volumes held.parts.volumes held.holds.volumes; newest = newest; log = log_as x y same_log held.parts.entries held.holds.log };
            points_are = refl;
            tenure_is = omega (arith, held.tenure_is, t_is);
            fence_is = omega (arith, held.fence_is, t_is, f_is, order);
          };
          sheds = record {
            nothing_else = λ p m. ⊎_elim (λ (vol : IsIn vs p). back p (IsIn-append_left vs (points_in_newest held.parts.newest ++ es) p vol))
                (λ (rest : IsIn (s.points ++ es) p).
                ⊎_elim (λ (new : IsIn s.points p). may.points p new before tenure fence held)
                (λ (log : IsIn es p). back p (IsIn-append_right vs (points_in_newest held.parts.newest ++ es) p (IsIn-append_right (points_in_newest held.parts.newest) es p log))) (IsIn-append_cases s.points es p rest))
                (IsIn-append_cases vs (s.points ++ es) p m);
            whole = λ p has. may.without_older held.parts held.holds p has;
          };
        }
      where
        back : (p : Point) → IsIn (vs ++ (points_in_newest held.parts.newest ++ es)) p → IsIn before p
        back p m = subst (λ l. IsIn l p) (sym held.points_are) m

pub save_keeps : SaveKeeps
save_keeps kept s x y may saved = record {
  held = λ before tenure fence held. ⊎_elim (closed_keeps kept s x y may saved before tenure fence held) (open_keeps kept s x y may saved before tenure fence held) saved.either;
  snapshots = each_whole kept s x y may saved saved.either;
}

-- ---- older snapshots that are taken away

-- where a list goes front first, what stands in its first part is gone once something of its second part is
first_part : (front bs gone left : List FileName) (q : FileName) → front ++ bs ≡ gone ++ left → IsIn gone q → (IsIn front q → ⊥) → (a : FileName) → IsIn front a → IsIn gone a
first_part [] bs gone left q split g out a m = absurd m
first_part (c ∷ cs) bs [] left q split g out a m = absurd g
first_part (c ∷ cs) bs (d ∷ gone) left q split g out a m =
    let head : c ≡ d = heads c d _ _ split in
    let rest : cs ++ bs ≡ gone ++ left = tails c d _ _ split in
    let later : IsIn gone q = ⊎_elim (λ (e : d ≡ q). absurd (out (inl (head ∙ e)))) (λ (r : IsIn gone q). r) g in
    ⊎_elim (λ (e : c ≡ a). inl (sym head ∙ e)) (λ (r : IsIn cs a). inr (first_part cs bs gone left q rest later (λ n. out (inr n)) a r)) m
  where
    heads : (a b : FileName) (c d : List FileName) → a ∷ c ≡ b ∷ d → a ≡ b
    heads a b c d e = cc

    tails : (a b : FileName) (c d : List FileName) → a ∷ c ≡ b ∷ d → c ≡ d
    tails a b c d e = cc

module _ (kept : Contents) (number : ℕ) (x y : Files) (may : MayBeCleared kept number x) (takes : MayTakeAway (snapshots_below number x) x y) where
  abbrev checkpoints : List FileName
  checkpoints = filter (is_older 9 number) (keys x)

  abbrev bodies : List FileName
  bodies = filter (is_older 8 number) (keys x)

  -- what is gone is a file of an older snapshot
  gone_is : (q : FileName) → IsIn takes.gone q → (is_older 9 number q ≡ true) ⊎ (is_older 8 number q ≡ true)
  gone_is q g =
      let listed : IsIn (checkpoints ++ bodies) q = subst (λ l. IsIn l q) (sym takes.split) (IsIn-append_left takes.gone takes.left q g) in
      ⊎_elim (λ (c : IsIn checkpoints q). inl (IsIn-filter_passes (is_older 9 number) (keys x) q c)) (λ (b : IsIn bodies q). inr (IsIn-filter_passes (is_older 8 number) (keys x) q b)) (IsIn-append_cases checkpoints bodies q listed)

  older_kind : (kind : ℕ) (q : FileName) → is_older kind number q ≡ true → (q.kind ≡ kind) × (q.number < number)
  older_kind kind q e =
      let first = and_parts (is_snapshot_file kind q) (nat_lt q.number number) e in
      let second = and_parts (q.kind == kind) ((q.ns == 0) && (q.block == 0)) first.0 in (
        eqb-true q.kind kind second.0,
        ltb-true q.number number first.1,
      )

  gone_kind : (q : FileName) → IsIn takes.gone q → (8 ≤ q.kind) × (q.number < number)
  gone_kind q g = ⊎_elim (λ (e : is_older 9 number q ≡ true). let k = older_kind 9 q e in let kind = k.0 in (omega (arith, kind), k.1)) (λ (e : is_older 8 number q ≡ true). let k = older_kind 8 q e in let kind = k.0 in (omega (arith, kind), k.1)) (gone_is q g)

  stays : (q : FileName) → (IsIn takes.gone q → ⊥) → get y q ≡ get x q
  stays q out = ap (λ (f : Files). get f q) takes.taken ∙ left_same takes.gone x q out

  goes : (q : FileName) → IsIn takes.gone q → get y q ≡ None
  goes q g = ap (λ (f : Files). get f q) takes.taken ∙ gone_none takes.gone x q g

  small_stays : (q : FileName) → q.kind ≤ 7 → get y q ≡ get x q
  small_stays q low = stays q (λ g. let k = (gone_kind q g).0 in omega (arith, k, low))

  high_stays : (q : FileName) → number ≤ q.number → get y q ≡ get x q
  high_stays q high = stays q (λ g. let k = (gone_kind q g).1 in omega (arith, k, high))

  -- a file with an open gate is there as it was
  open_stays : (q : FileName) → is_open (get y q) ≡ true → get y q ≡ get x q
  open_stays q open_ = stays q (λ g. let gone = goes q g in let never : is_open None ≡ true = ap is_open (sym gone) ∙ open_ in cc)

  -- a snapshot whose checkpoint is there has its data
  data_stays : (t : Snapshot) → SnapshotHolds t x → is_open (get y (snapshot_checkpoint t.number)) ≡ true → get y (snapshot_data t.number) ≡ get x (snapshot_data t.number)
  data_stays t h open_ = stays (snapshot_data t.number) (λ g.
      let lt = (gone_kind (snapshot_data t.number) g).1 in
      let own = snapshot_checkpoint t.number in
      let test : is_older 9 number own ≡ true = ltb_of t.number number lt in
      let listed : IsIn checkpoints own = filter-IsIn (is_older 9 number) (keys x) own (there_key x own _ h.checkpoint) test in
      let not_there : IsIn checkpoints (snapshot_data t.number) → ⊥ = λ m. let k = (older_kind 9 (snapshot_data t.number) (IsIn-filter_passes (is_older 9 number) (keys x) (snapshot_data t.number) m)).0 in omega (arith, k) in
      let gone = goes own (first_part checkpoints bodies takes.gone takes.left (snapshot_data t.number) takes.split g not_there own listed) in
      let never : is_open None ≡ true = ap is_open (sym gone) ∙ open_ in
      cc)
    where
      ltb_of : (a b : ℕ) → a < b → nat_lt a b ≡ true
      ltb_of a b lt = search (rules, lt)

  snapshot_stays : (t : Snapshot) → SnapshotHolds t x → is_open (get y (snapshot_checkpoint t.number)) ≡ true → SnapshotHolds t y
  snapshot_stays t h open_ = record { values = h.values; body = data_stays t h open_ ∙ h.body; checkpoint = open_stays (snapshot_checkpoint t.number) open_ ∙ h.checkpoint }

  was_there : (n : FileName) → IsIn (counted_snapshots y) n → IsIn (counted_snapshots x) n
  was_there n m = let open_ = counted_open is_snapshot_checkpoint y n m in is_counted is_snapshot_checkpoint x n (counted_asked is_snapshot_checkpoint y n m) (ap is_open (sym (open_stays n open_)) ∙ open_)

  -- the newest is still the last
  own_open : is_open (get y (snapshot_checkpoint may.snapshot.number)) ≡ true
  own_open = ap is_open (high_stays (snapshot_checkpoint may.snapshot.number) may.not_below ∙ may.newest.holds.checkpoint)

  newest_stays : IsNewest may.snapshot y
  newest_stays = record {
    older = filter (λ n. is_open (get y n)) may.newest.older;
    last = names ∙ ap (filter (λ n. is_open (get y n))) may.newest.last ∙ filter-append (λ n. is_open (get y n)) may.newest.older (own ∷ []) ∙ ap (λ l. filter (λ n. is_open (get y n)) may.newest.older ++ l) (ap (λ b. cond b (own ∷ []) []) own_open);
    holds = snapshot_stays may.snapshot may.newest.holds own_open;
  }
    where
      own : FileName
      own = snapshot_checkpoint may.snapshot.number

      names : counted_snapshots y ≡ filter (λ n. is_open (get y n)) (counted_snapshots x)
      names = same_names (counted_snapshots y) (filter (λ n. is_open (get y n)) (counted_snapshots x)) (counted_ascend is_snapshot_checkpoint y) (Ascends-filter Before (λ n. is_open (get y n)) (counted_snapshots x) (counted_ascend is_snapshot_checkpoint x))
          (λ n m. filter-IsIn (λ n. is_open (get y n)) (counted_snapshots x) n (was_there n m) (counted_open is_snapshot_checkpoint y n m))
          (λ n m. is_counted is_snapshot_checkpoint y n (counted_asked is_snapshot_checkpoint x n (IsIn-filter (λ n. is_open (get y n)) (counted_snapshots x) n m)) (IsIn-filter_passes (λ n. is_open (get y n)) (counted_snapshots x) n m))

  pub keeps_cleared : Keeps kept x y
  keeps_cleared = record {
    held = λ before tenure fence was. record {
      points = before;
      held = record {
        parts = was.parts;
        holds = record {
          volumes = volumes_as x y (λ q low high. small_stays q high) was.parts.volumes was.holds.volumes;
          newest = subst (λ o. NewestIs o y) (one_newest x (Some may.snapshot) was.parts.newest may.newest was.holds.newest) newest_stays;
          log = log_as x y (λ q low high. small_stays q (omega (arith, high))) was.parts.entries was.holds.log;
        };
        points_are = was.points_are;
        tenure_is = was.tenure_is;
        fence_is = was.fence_is;
      };
      sheds = record { nothing_else = λ p m. m; whole = λ p has. may.whole p has before tenure fence was };
    };
    snapshots = λ all n m.
        let w = all n (was_there n m) in
        record { snapshot = w.snapshot; named = w.named; holds = snapshot_stays w.snapshot w.holds (ap (λ q. is_open (get y q)) (sym w.named) ∙ counted_open is_snapshot_checkpoint y n m) };
  }

pub clear_keeps : ClearKeeps
clear_keeps kept number x y may takes = keeps_cleared kept number x y may takes
