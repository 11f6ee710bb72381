-- The reads of shards, one after the other, and what they give together.
use Rattle.std.proofs.Common.{◌≡◌, ℕ, zero, suc, ◌+◌, ◌<◌, ◌≤◌, List, [], ◌∷◌, ◌++◌, fold, length, Bool, true, false, cond, eqb, refl, sym, ap, ◌∙◌, subst, inl, inr, arith, append_assoc, length-append}
use Rattle.std.specs.Prelude.{◌⊎◌, ◌&&◌, Result, Ok, Err, IfOk, IfErr}
use Rattle.std.specs.FinMap.{empty}
use Rattle.std.proofs.lemmas.Bool.{eqb-true, eq-eqb}
use Rattle.std.proofs.lemmas.Int.{ints}
use Rattle.m3_model.specs.Answers.{HasPoint}
use Rattle.m3_model.specs.Contents.{Contents, Holds, content_of, raised}
use Rattle.m3_model.specs.Members.{IsIn}
use Rattle.m3_model.specs.Reads.{IsOrdered, points_in, space_picked}
use Rattle.m3_model.specs.declared.point.Point.{Point}
use Rattle.m3_model.specs.declared.point.Series.{Series}
use Rattle.m3_model.specs.declared.rules.MetaState.{MetaState}
use Rattle.m3_model.proofs.MemberLemmas.{IsIn-append_left, IsIn-append_cases, IsIn-push}
use Rattle.m3_model.proofs.RangeLemmas.{both_true}
use Rattle.m3_outside.specs.DiskState.{DiskState}
use Rattle.session_net.specs.cluster_core.declared.event.Event.{Event}
use Rattle.session_net.specs.net_plan.Fates.{FateMap}
use Rattle.session_net.specs.replica_exchange.MachineCalls.{HasRoom}
use Rattle.session_net.specs.replica_exchange.declared.call_id.CallId.{CallId}
use Rattle.session_net.specs.Calls.{Tracked}
use Rattle.session_net.specs.Outcomes.{answering}
use Rattle.session_net.specs.Reads.{Wish, ShardRead, told_in, IsAsked, IsEnded, start_of, done_of, ended_of, count_from, asked_shards, AreRead, IsUnfound, most_added}
use Rattle.session_net.specs.Runs.{Ran}
use Rattle.session_net.specs.declared.session_err.SessionErr.{SessionErr}
use Rattle.session_net.specs.declared.session_err.SessionErr.TheVariants as err
use Rattle.session_net.proofs.RunLemmas.{ran_nothing, ran_then}
use Rattle.series_merge.proofs.JoinLemmas.{joined_stays, joined_has, joined_from, nothing_held}
use Rattle.series_merge.proofs.OrderLemmas.{ordered_has}
use Rattle.session_reads.specs.Gathering.{IsShardRead, IsUnread, IsGathered}
use Rattle.session_reads.specs.declared.shard.Gave.{Gave}
use Rattle.session_reads.proofs.ShardLemmas.{held_covered}

-- ---- numbers of shards

pub count_in : (a n j : ℕ) → IsIn (count_from a n) j → (a ≤ j) × (j < a + n)
count_in a zero j h = absurd h
count_in a (suc n) j h = elim h as (λ _. (a ≤ j) × (j < a + suc n)) [
  | inl e ↦ (omega (arith, e), omega (arith, e))
  | inr m ↦ let later = count_in (suc a) n j m in (let low = later.0 in omega (arith, low), let high = later.1 in omega (arith, high))
]

count_split : (a k m : ℕ) → count_from a (k + m) ≡ count_from a k ++ count_from (a + k) m
count_split a zero m =
    let none : zero + m ≡ m = omega arith in
    let here : a ≡ a + zero = omega arith in ap (λ n. count_from a n) none ∙ ap (λ b. count_from b m) here
count_split a (suc k) m =
    let size : suc k + m ≡ suc (k + m) = omega arith in
    let same : suc a + k ≡ a + suc k = omega arith in ap (λ n. count_from a n) size ∙ ap (λ xs. a ∷ xs) (count_split (suc a) k m) ∙ ap (λ b. (a ∷ count_from (suc a) k) ++ count_from b m) same

pub count_more : (i : ℕ) → count_from 0 (i + 1) ≡ count_from 0 i ++ i ∷ []
count_more i = let same : 0 + i ≡ i = omega arith in count_split 0 i 1 ∙ ap (λ k. count_from 0 i ++ k ∷ []) same

-- how many are between two
abbrev pub gap : ℕ → ℕ → ℕ
gap zero zero = zero
gap zero (suc n) = n
gap (suc i) zero = zero
gap (suc i) (suc n) = gap i n

gap_is : (i n : ℕ) → i < n → n ≡ i + suc (gap i n)
gap_is zero zero below = absurd (omega (arith, below))
gap_is zero (suc n) below = omega arith
gap_is (suc i) zero below = absurd (omega (arith, below))
gap_is (suc i) (suc n) below = let rest = gap_is i n (omega (arith, below)) in omega (arith, rest)

-- those from one on are left
pub count_rest : (i n : ℕ) → i < n → count_from 0 n ≡ count_from 0 i ++ i ∷ count_from (suc i) (gap i n)
count_rest i n below =
    let size : n ≡ i + suc (gap i n) = gap_is i n below in
    let same : 0 + i ≡ i = omega arith in ap (λ k. count_from 0 k) size ∙ count_split 0 i (suc (gap i n)) ∙ ap (λ k. count_from 0 i ++ k ∷ count_from (suc k) (gap i n)) same

-- ---- one more read

-- the reads with that of one more shard
pub with_read : (ℕ → ShardRead) → ℕ → ShardRead → ℕ → ShardRead
with_read reads s r j = cond (eqb j s) r (reads j)

read_here : (reads : ℕ → ShardRead) (s : ℕ) (r : ShardRead) → with_read reads s r s ≡ r
unfolding with_read
read_here reads s r = ap (λ b. cond b r (reads s)) (eq-eqb s s refl)

read_there : (reads : ℕ → ShardRead) (s : ℕ) (r : ShardRead) (shards : List ℕ) → (IsIn shards s → ⊥) → (j : ℕ) → IsIn shards j → with_read reads s r j ≡ reads j
unfolding with_read
read_there reads s r shards fresh j m = by (eqb j s) refl
  where
    by : (b : Bool) → eqb j s ≡ b → cond (eqb j s) r (reads j) ≡ reads j
    by true t = absurd (fresh (subst (IsIn shards) (eqb-true j s t) m))
    by false t = ap (λ b. cond b r (reads j)) t

-- a fact of each of the shards and of one more
each_more : (P : ℕ → ShardRead → Type 0) (reads : ℕ → ShardRead) (s : ℕ) (r : ShardRead) (shards : List ℕ) → (IsIn shards s → ⊥) → ((j : ℕ) → IsIn shards j → P j (reads j)) → P s r → (j : ℕ) → IsIn (shards ++ s ∷ []) j → P j (with_read reads s r j)
each_more P reads s r shards fresh each here j m = elim (IsIn-append_cases shards (s ∷ []) j m) as (λ _. P j (with_read reads s r j)) [
  | inl before ↦ subst (P j) (sym (read_there reads s r shards fresh j before)) (each j before)
  | inr (inl e) ↦ subst (λ k. P k (with_read reads s r k)) e (subst (P s) (sym (read_here reads s r)) here)
  | inr (inr none) ↦ absurd none
]

module _ (state : MetaState) (fates : FateMap) (id : CallId) (w : Wish) (needed : ℕ) where
  are_same : (position : ℕ) (shards : List ℕ) (was now : ℕ → ShardRead) (events : List Event) → ((j : ℕ) → IsIn shards j → now j ≡ was j) → AreRead state fates id w needed position shards was events → AreRead state fates id w needed position shards now events
  are_same position [] was now events same h = h
  are_same position (s ∷ shards) was now events same h =
      subst
      (λ (r : ShardRead). IsAsked state fates id w s r × IsEnded w needed position r × (rest : List Event) × (events ≡ start_of state w s ∷ (r.reads ++ done_of r ∷ rest)) × AreRead state fates id w needed (suc (ended_of r)) shards now rest)
      (sym (same s (inl refl))) (h.0, h.1, h.2, h.3, are_same (suc (ended_of (was s))) shards was now h.2 (λ j m. same j (inr m)) h.4)

  abbrev whole_read : ℕ → ShardRead → List Event
  whole_read s r = start_of state w s ∷ (r.reads ++ done_of r ∷ [])

  are_last : (position : ℕ) (shards : List ℕ) (reads : ℕ → ShardRead) (events : List Event) (s : ℕ) → AreRead state fates id w needed position shards reads events → IsAsked state fates id w s (reads s) → IsEnded w needed (position + length events) (reads s)
      → AreRead state fates id w needed position (shards ++ s ∷ []) reads (events ++ whole_read s (reads s))
  are_last position [] reads events s h asked ended =
      let same : position + length events ≡ position = let none : length events ≡ 0 = ap length h in omega (arith, none) in
      (asked, subst (λ k. IsEnded w needed k (reads s)) same ended, [], ap (λ es. es ++ whole_read s (reads s)) h, refl)
  are_last position (t ∷ shards) reads events s h asked ended =
      let long : length events ≡ length (start_of state w t ∷ ((reads t).reads ++ done_of (reads t) ∷ h.2)) = ap length h.3 in
      let sum = length-append (reads t).reads (done_of (reads t) ∷ h.2) in
      let at = h.1.begun in
      let size : position + length events ≡ suc ((reads t).begun + (1 + length (reads t).reads)) + length h.2 = omega (arith, long, sum, at) in
      let last = whole_read s (reads s) in (
        h.0,
        h.1,
        h.2 ++ last,
        ap (λ es. es ++ last) h.3 ∙ ap (λ es. start_of state w t ∷ es) (append_assoc (reads t).reads (done_of (reads t) ∷ h.2) last),
        are_last (suc (ended_of (reads t))) shards reads h.2 s h.4 asked (subst (λ k. IsEnded w needed k (reads s)) size ended),
      )

-- ---- several shards

-- no series stand for no point
pub nothing_there : (ns : ℕ) (series : List Series) → series ≡ [] → (p : Point) → HasPoint (content_of (points_in ns series)) p → ⊥
nothing_there ns series is p h = nothing_held (content_of (points_in ns series)) (ap (λ xs. content_of (points_in ns xs)) is) p h

-- these shards were read, and this is the content of their series
pub record SoFar {D : Type 0} (disk : D → DiskState) (state : MetaState) (fates : FateMap) (id : CallId) (w : Wish) (needed most : ℕ) (old now : Tracked D) (shards : List ℕ) (whole : Bool) (c : Contents) : Type 0 where
  pub reads : ℕ → ShardRead
  pub events : List Event
  pub are : AreRead state fates id w needed (length old.events) shards reads events
  pub ran : Ran disk old events now
  pub covers : (s : ℕ) → IsIn shards s → (p : Point) → IsIn (points_in (space_picked w.pick) (reads s).series) p → Holds c p
  pub nothing_else : (p : Point) → HasPoint c p → (s : ℕ) × IsIn shards s × IsIn (points_in (space_picked w.pick) (reads s).series) p
  pub all_whole : whole ≡ true → (s : ℕ) → IsIn shards s → most ≤ length (answering (told_in (reads s)))
  pub some_short : whole ≡ false → (s : ℕ) × IsIn shards s × (length (answering (told_in (reads s))) < most)

not_both : (a b : Bool) → (a && b) ≡ false → (a ≡ false) ⊎ (b ≡ false)
not_both true b e = inr e
not_both false b e = inl refl

module _ {D : Type 0} (disk : D → DiskState) (state : MetaState) (fates : FateMap) (id : CallId) (w : Wish) (needed most : ℕ) (old : Tracked D) where
  no_read : ℕ → ShardRead
  no_read s = record { begun = 0; nodes = []; heard = []; reads = []; series = [] }

  -- none was
  pub so_far_none : (c : Contents) → ((p : Point) → HasPoint c p → ⊥) → SoFar disk state fates id w needed most old old [] true c
  so_far_none c none = record {
    reads = no_read;
    events = [];
    are = refl;
    ran = ran_nothing disk old;
    covers = λ s m. absurd m;
    nothing_else = λ p h. absurd (none p h);
    all_whole = λ e s m. absurd m;
    some_short = λ e. cc;
  }

  module _ (mid new : Tracked D) (shards : List ℕ) (whole test : Bool) (c : Contents) (s : ℕ) (series : List Series) (fresh : IsIn shards s → ⊥) (was : SoFar disk state fates id w needed most old mid shards whole c)
      (next : IsShardRead disk state fates id w s needed most series test mid new) where
    are_more : AreRead state fates id w needed (length old.events) (shards ++ s ∷ []) (with_read was.reads s next.read) (was.events ++ whole_read state fates id w needed s next.read)
    are_more =
        let here = read_here was.reads s next.read in
        let long : length mid.events ≡ length old.events + length was.events = ap length was.ran.grew ∙ length-append old.events was.events in
        subst
        (λ (r : ShardRead). AreRead state fates id w needed (length old.events) (shards ++ s ∷ []) (with_read was.reads s next.read) (was.events ++ whole_read state fates id w needed s r)) here
        (are_last state fates id w needed (length old.events) shards (with_read was.reads s next.read) was.events s
        (are_same state fates id w needed (length old.events) shards was.reads (with_read was.reads s next.read) was.events (read_there was.reads s next.read shards fresh) was.are) (subst (IsAsked state fates id w s) (sym here) next.asked)
        (subst (IsEnded w needed (length old.events + length was.events)) (sym here) (subst (λ k. IsEnded w needed k next.read) long next.ended)))

    ran_more : Ran disk old (was.events ++ whole_read state fates id w needed s next.read) new
    ran_more = ran_then disk was.events (whole_read state fates id w needed s next.read) old mid new was.ran next.ran

    -- one more was
    pub so_far_more : (then_has : Contents) → then_has ≡ fold raised c (points_in (space_picked w.pick) series) → SoFar disk state fates id w needed most old new (shards ++ s ∷ []) (whole && test) then_has
    so_far_more then_has is =
        let ns = space_picked w.pick in
        let points = points_in ns series in
        record {
          reads = with_read was.reads s next.read;
          events = was.events ++ whole_read state fates id w needed s next.read;
          are = are_more;
          ran = ran_more;
          covers = each_more (λ j r. (p : Point) → IsIn (points_in ns r.series) p → Holds then_has p) was.reads s next.read shards fresh (λ j m p here. subst (λ k. Holds k p) (sym is) (joined_stays points c p (was.covers j m p here)))
              (λ p here. subst (λ k. Holds k p) (sym is) (joined_has points c p (subst (λ xs. IsIn (points_in ns xs) p) (sym next.series_are) here)));
          nothing_else = λ p h. elim (joined_from points c p (subst (λ k. HasPoint k p) is h)) as (λ _. (j : ℕ) × IsIn (shards ++ s ∷ []) j × IsIn (points_in ns (with_read was.reads s next.read j).series) p) [
            | inl earlier ↦
                let found = was.nothing_else p earlier in
                (found.0, IsIn-append_left shards (s ∷ []) found.0 found.1, subst (λ (r : ShardRead). IsIn (points_in ns r.series) p) (sym (read_there was.reads s next.read shards fresh found.0 found.1)) found.2)
            | inr given ↦
                (s, IsIn-push shards s, subst (λ (r : ShardRead). IsIn (points_in ns r.series) p) (sym (read_here was.reads s next.read)) (subst (λ xs. IsIn (points_in ns xs) p) next.series_are given))
          ];
          all_whole = λ e. let both = both_true whole test e in each_more (λ j r. most ≤ length (answering (told_in r))) was.reads s next.read shards fresh (was.all_whole both.0) (next.all_whole both.1);
          some_short = λ e. elim (not_both whole test e) as (λ _. (j : ℕ) × IsIn (shards ++ s ∷ []) j × (length (answering (told_in (with_read was.reads s next.read j))) < most)) [
            | inl earlier ↦
                let found = was.some_short earlier in
                (found.0, IsIn-append_left shards (s ∷ []) found.0 found.1, subst (λ (r : ShardRead). length (answering (told_in r)) < most) (sym (read_there was.reads s next.read shards fresh found.0 found.1)) found.2)
            | inr here ↦ (s, IsIn-push shards s, subst (λ (r : ShardRead). length (answering (told_in r)) < most) (sym (read_here was.reads s next.read)) (next.fewer here))
          ];
        }

    -- it stops past it
    pub stopped_past : (after : List ℕ) → asked_shards state w.pick ≡ shards ++ s ∷ after → IsUnfound disk state fates id w needed old new err.Memory
    stopped_past after asked = inl (record {
      before = shards ++ s ∷ [];
      after = after;
      reads = with_read was.reads s next.read;
      events = was.events ++ whole_read state fates id w needed s next.read;
      were = record { asked = asked ∙ sym (append_assoc shards (s ∷ []) after); are = are_more };
      ran = ran_more;
    })

  -- the next one wasn't read to its end
  pub unread : (mid new : Tracked D) (shards after : List ℕ) (whole : Bool) (c : Contents) (s : ℕ) (e : SessionErr) → asked_shards state w.pick ≡ shards ++ s ∷ after → SoFar disk state fates id w needed most old mid shards whole c
      → IsUnread disk state fates id w s needed mid new e → IsUnfound disk state fates id w needed old new e
  unread mid new shards after whole c s (err.Consistency shard due got reasons) asked was h = record {
    before = shards;
    here = s;
    after = after;
    reads = was.reads;
    events = was.events;
    were = record { asked = asked; are = was.are };
    last = h.read;
    asked = h.is;
    too_few = h.too_few;
    ran = ran_then disk was.events (start_of state w s ∷ (h.read).reads) old mid new was.ran h.ran;
  }
  unread mid new shards after whole c s err.Memory asked was (inl same) = inl (record {
    before = shards;
    after = s ∷ after;
    reads = was.reads;
    events = was.events;
    were = record { asked = asked; are = was.are };
    ran = subst (λ t. Ran disk old was.events t) (sym same) was.ran;
  })
  unread mid new shards after whole c s err.Memory asked was (inr h) = inr (record {
    before = shards;
    here = s;
    after = after;
    reads = was.reads;
    events = was.events;
    were = record { asked = asked; are = was.are };
    last = h.read;
    k = h.k;
    asked = h.is;
    ran = ran_then disk was.events (start_of state w s ∷ (h.read).reads) old mid new was.ran h.ran;
  })
  unread mid new shards after whole c s err.Full asked was h = record {
    before = shards;
    here = s;
    after = after;
    reads = was.reads;
    events = was.events;
    were = record { asked = asked; are = was.are };
    ran = subst (λ t. Ran disk old was.events t) (sym h.0) was.ran;
    nodes = h.1.0;
    counted = h.1.1;
    no_room = λ room. h.1.2 (subst (λ (t : Tracked D). HasRoom (most_added h.1.0) t.events) h.0 room);
  }

  -- ---- together

  -- all were read
  pub gathered_all : (new : Tracked D) (shards : List ℕ) (whole : Bool) (series : List Series) → SoFar disk state fates id w needed most old new shards whole (content_of (points_in (space_picked w.pick) series)) → IsOrdered series
      → IsGathered disk state fates id w needed most shards series whole old new
  gathered_all new shards whole series was ordered = record {
    reads = was.reads;
    events = was.events;
    are = was.are;
    ran = was.ran;
    together = record {
      nothing_else = λ p m. was.nothing_else p (ordered_has (space_picked w.pick) series p ordered m);
      all_there = λ s m p here. held_covered (space_picked w.pick) series p (was.covers s m p here);
      ordered = ordered;
    };
    all_whole = was.all_whole;
    some_short = was.some_short;
  }

  -- the series of a shard are in order
  pub shard_ordered : (mid new : Tracked D) (s : ℕ) (series : List Series) (whole : Bool) → IsShardRead disk state fates id w s needed most series whole mid new → IsOrdered series
  shard_ordered mid new s series whole h = subst IsOrdered (sym h.series_are) h.ended.joined.ordered

  -- one was, and its series are all
  pub gathered_one : (new : Tracked D) (s : ℕ) (series : List Series) (whole : Bool) → IsShardRead disk state fates id w s needed most series whole old new → IsGathered disk state fates id w needed most (s ∷ []) series whole old new
  gathered_one new s series whole h = record {
    reads = λ j. h.read;
    events = start_of state w s ∷ ((h.read).reads ++ done_of h.read ∷ []);
    are = (h.asked, h.ended, [], refl, refl);
    ran = h.ran;
    together = record {
      nothing_else = λ p m. (s, inl refl, subst (λ xs. IsIn (points_in (space_picked w.pick) xs) p) h.series_are m);
      all_there = λ j m p here. record { value = p.v; at_least = grind (arith, ints); stands = subst (λ xs. IsIn (points_in (space_picked w.pick) xs) p) (sym h.series_are) here };
      ordered = shard_ordered old new s series whole h;
    };
    all_whole = λ e j m. h.all_whole e;
    some_short = λ e. (s, inl refl, h.fewer e);
  }

  module _ (new : Tracked D) (s : ℕ) (asked : asked_shards state w.pick ≡ s ∷ []) where
    -- one was asked
    pub gathered_if : (result : Result Gave SessionErr) → IfOk result (λ gave. IsShardRead disk state fates id w s needed most gave.series gave.whole old new)
        → IfOk result (λ gave. IsGathered disk state fates id w needed most (asked_shards state w.pick) gave.series gave.whole old new)
    gathered_if (Ok gave) h = subst (λ shards. IsGathered disk state fates id w needed most shards gave.series gave.whole old new) (sym asked) (gathered_one new s gave.series gave.whole h)
    gathered_if (Err e) h = h

    pub unread_if : (result : Result Gave SessionErr) → IfErr result (IsUnread disk state fates id w s needed old new) → IfErr result (IsUnfound disk state fates id w needed old new)
    unread_if (Ok gave) h = h
    unread_if (Err e) h = unread old new [] [] true empty s e asked (so_far_none empty (nothing_held empty refl)) h
