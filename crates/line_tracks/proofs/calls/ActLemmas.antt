-- Acts that read, what they ask for, and why they are refused.
use Rattle.std.proofs.Common.{◌≡◌, ℕ, zero, suc, ◌+◌, ◌<◌, ◌≤◌, List, [], ◌∷◌, ◌++◌, length, refl, sym, ap, subst, ◌∙◌, inl, inr, arith, Bool, true, false}
use Rattle.std.specs.Prelude.{◌⊎◌, Option, Some, None, option_map}
use Rattle.std.proofs.lemmas.Bool.{cases_lt}
use Rattle.m3_model.specs.Ascends.{Ascends}
use Rattle.m3_model.specs.Calls.{is_call}
use Rattle.m3_model.specs.Hash.{shard_of}
use Rattle.m3_model.specs.Levels.{needed_read}
use Rattle.m3_model.specs.Members.{IsIn}
use Rattle.m3_model.specs.Reads.{Read, read_of}
use Rattle.m3_model.specs.Rules.{namespace_position}
use Rattle.m3_model.specs.declared.act.Act.{Act}
use Rattle.m3_model.specs.declared.act.Act.TheVariants as act
use Rattle.m3_model.specs.declared.act.ReadLevel.{ReadLevel}
use Rattle.m3_model.specs.declared.act.ReadLevel.TheVariants as reading
use Rattle.m3_model.specs.declared.answer.Answer.{Answer}
use Rattle.m3_model.specs.declared.answer.Answer.TheVariants as answer
use Rattle.m3_model.specs.declared.point.Matcher.{Matcher}
use Rattle.m3_model.specs.declared.placement.Placement.{Placement}
use Rattle.m3_model.specs.declared.point.Pick.{Pick}
use Rattle.m3_model.specs.declared.point.Pick.TheVariants as pick
use Rattle.m3_model.specs.declared.reason.Damage.{Damage}
use Rattle.m3_model.specs.declared.reason.Damage.TheVariants as wrong
use Rattle.m3_model.specs.declared.reason.Reason.{Reason}
use Rattle.m3_model.specs.declared.reason.Reason.TheVariants as reason
use Rattle.m3_model.specs.declared.rules.MetaState.{MetaState}
use Rattle.m3_model.specs.declared.rules.Rules.{Rules}
use Rattle.m3_model.specs.declared.rules.Space.{Space}
use Rattle.cluster_core.specs.Lists.{IsDistinct}
use Rattle.cluster_core.specs.Rows.{ReplicaMayRefuse}
use Rattle.cluster_core.specs.declared.event.Asked.TheVariants as asking
use Rattle.cluster_core.specs.declared.event.Event.{Event}
use Rattle.cluster_core.specs.declared.event.Event.TheVariants as event
use Rattle.cluster_core.specs.declared.event.StepCall.{StepCall}
use Rattle.cluster_core.specs.declared.event.StepCall.TheVariants as call
use Rattle.cluster_core.specs.declared.replica_state.ReplicaState.{ReplicaState}
use Rattle.cluster_core.proofs.ListLemmas.{some_same}
use Rattle.placement_core.specs.NodeNames.{IsNamedBelow}
use Rattle.session_net.specs.Reads.{asked_shards, count_from}
use Rattle.session_net.specs.replica_exchange.Damages.{IsFileDamage}
use Rattle.told_runs.specs.told_by.Clocks.{sets_rules}
use Rattle.told_runs.specs.told_by.Openings.{sets_seed}
use Rattle.told_runs.specs.told_by.Writes.{IsUnmetWrite}
use Rattle.told_runs.specs.transcripts.Reasons.{IsShown}
use Rattle.told_runs.specs.Answers.{IsOfKind}
use Rattle.told_runs.specs.told_by.Hears.{is_unstrict}
use Rattle.told_runs.specs.told_by.Makes.{MayAsk, MayRead}
use Rattle.told_runs.specs.transcripts.Calls.{IsAskedOf, Call, call_of}
use Rattle.told_runs.specs.transcripts.Caused.{is_write}
use Rattle.told_runs.specs.transcripts.Record.{TurnPosition}
use Rattle.told_joins.proofs.ListLemmas.{below_differs}
use Rattle.line_tracks.proofs.calls.ShardLemmas.{MaySay}

-- ---- acts that read

pub is_call_of : (a : Act) (spaces : List Space) (r : Read) → read_of spaces a ≡ Some r → is_call a ≡ true
is_call_of (act.Fetch ns id from to level version) spaces r e = refl
is_call_of (act.Match ns wanted from to level version) spaces r e = refl
is_call_of _ spaces r e = cc

pub never_writes : (a : Act) (spaces : List Space) (r : Read) → read_of spaces a ≡ Some r → is_write a ≡ false
never_writes (act.Fetch ns id from to level version) spaces r e = refl
never_writes (act.Match ns wanted from to level version) spaces r e = refl
never_writes _ spaces r e = cc

pub read_sets_none : (a : Act) (b : Answer) (spaces : List Space) (r : Read) → read_of spaces a ≡ Some r → sets_rules a b ≡ false
read_sets_none (act.Fetch ns id from to level version) b spaces r e = refl
read_sets_none (act.Match ns wanted from to level version) b spaces r e = refl
read_sets_none _ b spaces r e = cc

pub read_seeds_none : (a : Act) (b : Answer) (spaces : List Space) (r : Read) → read_of spaces a ≡ Some r → sets_seed a b ≡ false
read_seeds_none (act.Fetch ns id from to level version) b spaces r e = refl
read_seeds_none (act.Match ns wanted from to level version) b spaces r e = refl
read_seeds_none _ b spaces r e = cc

pub read_not_unmet : (a : Act) (b : Answer) (spaces : List Space) (r : Read) → read_of spaces a ≡ Some r → ¬ IsUnmetWrite a b
read_not_unmet (act.Fetch ns id from to level version) b spaces r e h = h
read_not_unmet (act.Match ns wanted from to level version) b spaces r e h = h
read_not_unmet _ b spaces r e h = cc

-- a read asks replicas to read
pub read_asks : (start : Option MetaState) (past : List Event) (p : TurnPosition) (a : Act) (spaces : List Space) (r : Read) → read_of spaces a ≡ Some r → (n s client number : ℕ) (rules : Rules) (version : ℕ) (chosen : Pick) (from to : ℕ)
    → MayRead start past p n s client number rules version chosen from to → MayAsk start past p a (asking.Step n s (call.Read client number rules version chosen from to))
read_asks start past p (act.Fetch ns id least end level at_version) spaces r e n s client number rules version chosen from to h = h
read_asks start past p (act.Match ns wanted least end level at_version) spaces r e n s client number rules version chosen from to h = h
read_asks start past p _ spaces r e n s client number rules version chosen from to h = cc

-- the level of a read
abbrev pub level_in : Act → Option ReadLevel
level_in (act.Fetch ns id from to level version) = Some level
level_in (act.Match ns wanted from to level version) = Some level
level_in _ = None

in_option : (o : Option ℕ) (make : ℕ → Read) (l : ReadLevel) (r : Read) → ((k : ℕ) → (make k).level ≡ l) → option_map make o ≡ Some r → r.level ≡ l
in_option None make l r of_level e = cc
in_option (Some k) make l r of_level e = sym (ap (λ (x : Read). x.level) (some_same (make k) r e)) ∙ of_level k

pub level_of : (a : Act) (spaces : List Space) (r : Read) → read_of spaces a ≡ Some r → level_in a ≡ Some r.level
level_of (act.Fetch ns id from to level version) spaces r e = ap Some (sym (in_option (namespace_position ns spaces) (λ k. record { pick = pick.One k id; from = from; to = to; level = level }) level r (λ k. refl) e))
level_of (act.Match ns wanted from to level version) spaces r e = ap Some (sym (in_option (namespace_position ns spaces) (λ k. record { pick = pick.Match k wanted; from = from; to = to; level = level }) level r (λ k. refl) e))
level_of _ spaces r e = cc

-- whether it says that it was short
pub is_it : (a : Act) (level : ReadLevel) → level_in a ≡ Some level → level ≡ reading.Unstrict → is_unstrict a ≡ true
is_it (act.Fetch ns id from to own version) level e u = by own (some_same own level e ∙ u)
  where
    by : (l : ReadLevel) → l ≡ reading.Unstrict → is_unstrict (act.Fetch ns id from to l version) ≡ true
    by reading.Unstrict e = refl
    by _ e = cc
is_it (act.Match ns wanted from to own version) level e u = by own (some_same own level e ∙ u)
  where
    by : (l : ReadLevel) → l ≡ reading.Unstrict → is_unstrict (act.Match ns wanted from to l version) ≡ true
    by reading.Unstrict e = refl
    by _ e = cc
is_it _ level e u = cc

pub it_is : (a : Act) (level : ReadLevel) → level_in a ≡ Some level → is_unstrict a ≡ true → level ≡ reading.Unstrict
it_is (act.Fetch ns id from to reading.Unstrict version) level e u = sym (some_same reading.Unstrict level e)
it_is (act.Match ns wanted from to reading.Unstrict version) level e u = sym (some_same reading.Unstrict level e)
it_is (act.Fetch ns id from to reading.One version) level e u = cc
it_is (act.Fetch ns id from to reading.Majority version) level e u = cc
it_is (act.Fetch ns id from to reading.All version) level e u = cc
it_is (act.Match ns wanted from to reading.One version) level e u = cc
it_is (act.Match ns wanted from to reading.Majority version) level e u = cc
it_is (act.Match ns wanted from to reading.All version) level e u = cc
it_is _ level e u = cc

-- ---- the shards that are asked

in_count : (first n s : ℕ) → first ≤ s → s < first + n → IsIn (count_from first n) s
in_count first zero s low high = absurd (omega (arith, low, high))
in_count first (suc n) s low high = elim (cases_lt first s) as (λ _. (first ≡ s) ⊎ IsIn (count_from (suc first) n) s) [ inl lt ↦ inr (in_count (suc first) n s (omega (arith, lt)) (omega (arith, high))) | inr ge ↦ inl (omega (arith, low, ge)) ]

count_in : (first n s : ℕ) → IsIn (count_from first n) s → (first ≤ s) × (s < first + n)
count_in first zero s m = absurd m
count_in first (suc n) s m = elim m as (λ _. (first ≤ s) × (s < first + suc n)) [ inl same ↦ (omega (arith, same), omega (arith, same)) | inr rest ↦ (let r = count_in (suc first) n s rest in let low = r.0 in let high = r.1 in (omega (arith, low), omega (arith, high))) ]

-- what the pick is by the call's identifier
abbrev pub PicksBy : Option (List ℕ) → Pick → Type 0
PicksBy (Some id) chosen = (k : ℕ) × (chosen ≡ pick.One k id)
PicksBy None chosen = (k : ℕ) × (wanted : List Matcher) × (chosen ≡ pick.Match k wanted)

pub pick_by : (a : Act) (spaces : List Space) (r : Read) (c : Call) → read_of spaces a ≡ Some r → call_of a ≡ Some c → PicksBy c.id r.pick
pick_by (act.Fetch ns id from to level version) spaces r c e f = subst (λ i. PicksBy i r.pick) (ap (λ (x : Call). x.id) (some_same (record { id = Some id; version = version; needed = needed_read level }) c f)) (one (namespace_position ns spaces) e)
  where
    one : (o : Option ℕ) → option_map (λ k. record { pick = pick.One k id; from = from; to = to; level = level }) o ≡ Some r → (k : ℕ) × (r.pick ≡ pick.One k id)
    one None e = cc
    one (Some k) e = (k, sym (ap (λ (x : Read). x.pick) (some_same (record { pick = pick.One k id; from = from; to = to; level = level }) r e)))
pick_by (act.Match ns wanted from to level version) spaces r c e f = subst (λ i. PicksBy i r.pick) (ap (λ (x : Call). x.id) (some_same (record { id = None; version = version; needed = needed_read level }) c f)) (all (namespace_position ns spaces) e)
  where
    all : (o : Option ℕ) → option_map (λ k. record { pick = pick.Match k wanted; from = from; to = to; level = level }) o ≡ Some r → (k : ℕ) × (wanted : List Matcher) × (r.pick ≡ pick.Match k wanted)
    all None e = cc
    all (Some k) e = (k, wanted, sym (ap (λ (x : Read). x.pick) (some_same (record { pick = pick.Match k wanted; from = from; to = to; level = level }) r e)))
pick_by _ spaces r c e f = cc

pub asked_is : (name : Option (List ℕ)) (chosen : Pick) (state : MetaState) → PicksBy name chosen → (s : ℕ) → IsAskedOf name state.seed (length state.place.shards) s → IsIn (asked_shards state chosen) s
asked_is (Some id) chosen state h s asks = subst (λ c. IsIn (asked_shards state c) s) (sym h.1) (inl (sym asks))
asked_is None chosen state h s asks = subst (λ c. IsIn (asked_shards state c) s) (sym h.2) (in_count 0 (length state.place.shards) s (omega arith) (omega (arith, asks)))

pub is_asked : (name : Option (List ℕ)) (chosen : Pick) (state : MetaState) → PicksBy name chosen → (s : ℕ) → IsIn (asked_shards state chosen) s → IsAskedOf name state.seed (length state.place.shards) s
is_asked (Some id) chosen state h s m = elim (subst (λ c. IsIn (asked_shards state c) s) h.1 m) as (λ _. s ≡ shard_of id state.seed (length state.place.shards)) [ inl same ↦ sym same | inr none ↦ absurd none ]
is_asked None chosen state h s m = let high = (count_in 0 (length state.place.shards) s (subst (λ c. IsIn (asked_shards state c) s) h.2 m)).1 in omega (arith, high)

pub start_shard : (x y : ℕ) {v v' : ℕ} {rules rules' : Rules} {p q : Pick} {f f' t t' : ℕ} → event.FetchStart v x rules p f t ≡ event.FetchStart v' y rules' q f' t' → x ≡ y
start_shard x y e = cc

pub start_version : (x y : ℕ) {s s' : ℕ} {rules rules' : Rules} {p q : Pick} {f f' t t' : ℕ} → event.FetchStart x s rules p f t ≡ event.FetchStart y s' rules' q f' t' → x ≡ y
start_version x y e = cc

pub start_pick : (x y : Pick) {v v' s s' : ℕ} {rules rules' : Rules} {f f' t t' : ℕ} → event.FetchStart v s rules x f t ≡ event.FetchStart v' s' rules' y f' t' → x ≡ y
start_pick x y e = cc

pub start_from : (x y : ℕ) {v v' s s' : ℕ} {rules rules' : Rules} {p q : Pick} {t t' : ℕ} → event.FetchStart v s rules p x t ≡ event.FetchStart v' s' rules' q y t' → x ≡ y
start_from x y e = cc

pub start_to : (x y : ℕ) {v v' s s' : ℕ} {rules rules' : Rules} {p q : Pick} {f f' : ℕ} → event.FetchStart v s rules p f x ≡ event.FetchStart v' s' rules' q f' y → x ≡ y
start_to x y e = cc

-- digests that are told differ
pub damage_shown : (damage : Damage) → IsFileDamage damage → IsShown damage
damage_shown (wrong.Digest file kept found) is = is.1
damage_shown (wrong.Form file at) is = tt

-- a read's refusal is no message that was cut off
pub read_says : (tells : Bool) (past : List Event) (s : ℕ) (r : ReplicaState) (c : StepCall) (why : Reason) → ((damage : Damage) → why ≡ reason.Corrupt damage → IsFileDamage damage) → ReplicaMayRefuse tells past s r c why → MaySay why
read_says tells past s r c reason.Cut form h = absurd h
read_says tells past s r c (reason.Corrupt damage) form h = damage_shown damage (form damage refl)
read_says tells past s r c _ form h = tt

-- ---- different nodes

pub distinct_by_name : (place : Placement) (ns : List ℕ) → Ascends (IsNamedBelow place) ns → IsDistinct ns
distinct_by_name place [] h = tt
distinct_by_name place (n ∷ ns) h = (λ m i. below_differs place n m (h.0 m i), distinct_by_name place ns h.1)

-- too few may answer it
pub unmet_kind : (start : Option MetaState) (p : TurnPosition) (a : Act) (spaces : List Space) (r : Read) → read_of spaces a ≡ Some r → (got needed : ℕ) (reasons : List (ℕ × Reason)) (shard : ℕ) → IsOfKind [] start p a (answer.Consistency got needed reasons shard)
unmet_kind start p (act.Fetch ns id from to level version) spaces r e got needed reasons shard = tt
unmet_kind start p (act.Match ns wanted from to level version) spaces r e got needed reasons shard = tt
unmet_kind start p _ spaces r e got needed reasons shard = cc

-- the shards ascend
pub shards_ascend : (state : MetaState) (chosen : Pick) → Ascends ◌<◌ (asked_shards state chosen)
shards_ascend state (pick.One ns i) = (λ y none. absurd none, tt)
shards_ascend state (pick.Match ns wanted) = by 0 (length state.place.shards)
  where
    by : (first n : ℕ) → Ascends ◌<◌ (count_from first n)
    by first zero = tt
    by first (suc n) = (λ y m. (count_in (suc first) n y m).0, by (suc first) n)

-- so a lower one stands before
pub stands_before : (before : List ℕ) (here : ℕ) (after : List ℕ) → Ascends ◌<◌ (before ++ here ∷ after) → (lower : ℕ) → IsIn (before ++ here ∷ after) lower → lower < here → IsIn before lower
stands_before [] here after up lower (inl same) lt = absurd (omega (arith, same, lt))
stands_before [] here after up lower (inr later) lt = absurd (let above = up.0 lower later in omega (arith, above, lt))
stands_before (x ∷ before) here after up lower (inl same) lt = inl same
stands_before (x ∷ before) here after up lower (inr later) lt = inr (stands_before before here after up.1 lower later lt)
