-- What an answered read asks, and what a FetchDone of a legal list has.
use Rattle.std.proofs.Common.{◌≡◌, ℕ, suc, ◌<◌, ◌≤◌, List, [], ◌∷◌, take, drop, length, refl, sym, ap, ◌∙◌, subst, inl, inr, arith, Bool, true, false, cond}
use Rattle.std.specs.Prelude.{Option, Some, None, option_map}
use Rattle.std.specs.List.{Any}
use Rattle.std.proofs.lemmas.Bool.{leb-true}
use Rattle.std.proofs.lemmas.Nat.{mod_below}
use Rattle.m3_model.specs.Hash.{shard_of, murmur3}
use Rattle.m3_model.specs.Levels.{majority, needed_read, is_strong}
use Rattle.m3_model.specs.Members.{IsIn}
use Rattle.m3_model.specs.Reads.{Read, Found, Matches, read_of, found_of, points_in, space_picked}
use Rattle.m3_model.specs.Rules.{namespace_position}
use Rattle.transcripts.specs.Calls.{IsAskedOf, Call, call_of}
use Rattle.transcripts.specs.Points.{was_acked, acked_point, sent_point, was_sent, point_of}
use Rattle.transcripts.specs.Record.{InnerTurn}
use Rattle.m3_model.specs.declared.act.Act.{Act}
use Rattle.m3_model.specs.declared.act.Act.TheVariants as act
use Rattle.m3_model.specs.declared.act.ReadLevel.{ReadLevel}
use Rattle.m3_model.specs.declared.act.ReadLevel.TheVariants as read
use Rattle.m3_model.specs.declared.answer.Answer.{Answer}
use Rattle.m3_model.specs.declared.answer.Answer.TheVariants as answer
use Rattle.m3_model.specs.declared.point.Pick.{Pick}
use Rattle.m3_model.specs.declared.point.Pick.TheVariants as pick
use Rattle.m3_model.specs.declared.point.Point.{Point}
use Rattle.m3_model.specs.declared.point.Series.{Series}
use Rattle.m3_model.specs.declared.rules.Rules.{Rules}
use Rattle.m3_model.specs.declared.rules.Space.{Space}
use Rattle.placement_core.proofs.ListLemmas.{each-from_All, IsIn-from_Any}
use Rattle.cluster_core.specs.Answers.{IsWantedUnexpired}
use Rattle.cluster_core.specs.Legal.{Legal, EachAnswered}
use Rattle.cluster_core.specs.Lists.{At}
use Rattle.cluster_core.specs.Replicas.{replica}
use Rattle.cluster_core.specs.declared.event.Event.{Event}
use Rattle.cluster_core.specs.declared.event.Event.TheVariants as event
use Rattle.cluster_core.specs.declared.event.StepCall.TheVariants as call
use Rattle.cluster_core.specs.declared.event.StepReply.TheVariants as reply
use Rattle.cluster_core.proofs.ListLemmas.{at_take, at_same}
use Rattle.cluster_core.proofs.PastLemmas.{ReadAt, read_at}
use Rattle.cluster_core.proofs.TraceLemmas.{lawful_step, lawful_fetched}
use Rattle.told_by.specs.Clocks.{sets_rules}
use Rattle.told_by.specs.Openings.{sets_seed}

-- ---- acts and answers

-- an answer that found something is no other
pub found_sets_no_rules : (a : Act) (b : Answer) (found : Found) → found_of b ≡ Some found → sets_rules a b ≡ false
found_sets_no_rules a (answer.Found series short) found e = by a
  where
    by : (a : Act) → sets_rules a (answer.Found series short) ≡ false
    by (act.Now now) = refl
    by (act.Namespace name block past future retention) = refl
    by _ = refl
found_sets_no_rules a _ found e = cc

pub found_sets_no_seed : (a : Act) (b : Answer) (found : Found) → found_of b ≡ Some found → sets_seed a b ≡ false
found_sets_no_seed a (answer.Found series short) found e = by a
  where
    by : (a : Act) → sets_seed a (answer.Found series short) ≡ false
    by (act.Init rf shards seed nodes) = refl
    by _ = refl
found_sets_no_seed a _ found e = cc

pub acks_set_no_seed : (a : Act) (b : Answer) (nodes : List ℕ) → b ≡ answer.Acks nodes → sets_seed a b ≡ false
acks_set_no_seed a b nodes e = ap (sets_seed a) e ∙ by a
  where
    by : (a : Act) → sets_seed a (answer.Acks nodes) ≡ false
    by (act.Init rf shards seed names) = refl
    by _ = refl

-- a write isn't a read
pub write_sets_no_seed : (spaces : List Space) (a : Act) (b : Answer) (p : Point) → point_of spaces a ≡ Some p → sets_seed a b ≡ false
write_sets_no_seed spaces (act.Write ns id t v level version) b p e = refl
write_sets_no_seed spaces _ b p e = cc

pub write_reads_not : (spaces others : List Space) (a : Act) (p : Point) (read : Read) → point_of spaces a ≡ Some p → read_of others a ≡ Some read → ⊥
write_reads_not spaces others (act.Write ns id t v level version) p read e f = cc
write_reads_not spaces others _ p read e f = cc

pub acked_of : (rf : ℕ) (spaces : List Space) (t : InnerTurn) (p : Point) → acked_point rf spaces t ≡ Some p → (nodes : List ℕ) × (t.answer ≡ answer.Acks nodes) × (majority rf ≤ length nodes) × (point_of spaces t.act ≡ Some p)
acked_of rf spaces t p e = by t.answer refl e
  where
    by_test : (b : Bool) (nodes : List ℕ) → t.answer ≡ answer.Acks nodes → was_acked rf (answer.Acks nodes) ≡ b → cond b (point_of spaces t.act) None ≡ Some p
        → (ns : List ℕ) × (t.answer ≡ answer.Acks ns) × (majority rf ≤ length ns) × (point_of spaces t.act ≡ Some p)
    by_test true nodes is test f = (nodes, is, leb-true (majority rf) (length nodes) test, f)
    by_test false nodes is test f = cc

    by : (b : Answer) → t.answer ≡ b → cond (was_acked rf b) (point_of spaces t.act) None ≡ Some p → (ns : List ℕ) × (t.answer ≡ answer.Acks ns) × (majority rf ≤ length ns) × (point_of spaces t.act ≡ Some p)
    by (answer.Acks nodes) is f = by_test (was_acked rf (answer.Acks nodes)) nodes is refl f
    by _ is f = cc

pub sent_by : (spaces : List Space) (t : InnerTurn) (p : Point) → was_sent t.answer ≡ true → point_of spaces t.act ≡ Some p → sent_point spaces t ≡ Some p
sent_by spaces t p sent e = ap (λ b. cond b (point_of spaces t.act) None) sent ∙ e

-- ---- what is asked

asks_by : (o : Option ℕ) (make : ℕ → Read) (read : Read) (P : Read → Type 0) → ((k : ℕ) → P (make k)) → option_map make o ≡ Some read → P read
asks_by None make read P each e = cc
asks_by (Some k) make read P each e = let is : make k ≡ read = cc in subst P is (each k)

-- what a read needs, by its level
pub needed_is : (spaces : List Space) (a : Act) (read : Read) (c : Call) → read_of spaces a ≡ Some read → call_of a ≡ Some c → (rf : ℕ) → c.needed rf ≡ needed_read read.level rf
needed_is spaces (act.Fetch ns id from to level version) read c e f rf =
    let is : record { id = Some id; version = version; needed = needed_read level } ≡ c = cc in
    sym (ap (λ (x : Call). x.needed rf) is) ∙ asks_by (namespace_position ns spaces) (λ k. record { pick = pick.One k id; from = from; to = to; level = level }) read (λ r. needed_read level rf ≡ needed_read r.level rf) (λ k. refl) e
needed_is spaces (act.Match ns wanted from to level version) read c e f rf =
    let is : record { id = None; version = version; needed = needed_read level } ≡ c = cc in
    sym (ap (λ (x : Call). x.needed rf) is) ∙ asks_by (namespace_position ns spaces) (λ k. record { pick = pick.Match k wanted; from = from; to = to; level = level }) read (λ r. needed_read level rf ≡ needed_read r.level rf) (λ k. refl) e
needed_is spaces _ read c e f rf = cc

pub shard_below : (id : List ℕ) (seed shards : ℕ) → 0 < shards → shard_of id seed shards < shards
shard_below id seed shards some = mod_below (murmur3 id seed) shards some

-- a read asks the shard of each point that matches
pub asks_shard : (spaces : List Space) (a : Act) (read : Read) (c : Call) → read_of spaces a ≡ Some read → call_of a ≡ Some c → (p : Point) → Matches read.pick p → (seed shards : ℕ) → 0 < shards → IsAskedOf c.id seed shards (shard_of p.id seed shards)
asks_shard spaces (act.Fetch ns id from to level version) read c e f p m seed shards some =
    let is : record { id = Some id; version = version; needed = needed_read level } ≡ c = cc in
    let same = asks_by (namespace_position ns spaces) (λ k. record { pick = pick.One k id; from = from; to = to; level = level }) read (λ r. Matches r.pick p → p.id ≡ id) (λ k h. h.1) e m in
    subst (λ (x : Call). IsAskedOf x.id seed shards (shard_of p.id seed shards)) is (ap (λ i. shard_of i seed shards) same)
asks_shard spaces (act.Match ns wanted from to level version) read c e f p m seed shards some =
    let is : record { id = None; version = version; needed = needed_read level } ≡ c = cc in
    subst (λ (x : Call). IsAskedOf x.id seed shards (shard_of p.id seed shards)) is (shard_below p.id seed shards some)
asks_shard spaces _ read c e f p m seed shards some = cc

-- at least a majority answered a read that is strong
pub strong_enough : (rf n : ℕ) (level : ReadLevel) (short : Bool) → 1 ≤ rf → is_strong level short ≡ true → needed_read level rf ≤ n → (short ≡ false → level ≡ read.Unstrict → majority rf ≤ n) → majority rf ≤ n
strong_enough rf n read.One short some strong enough whole = cc
strong_enough rf n read.Unstrict true some strong enough whole = cc
strong_enough rf n read.Unstrict false some strong enough whole = whole refl refl
strong_enough rf n read.Majority short some strong enough whole = enough
strong_enough rf n read.All short some strong enough whole = omega arith

-- ---- a FetchDone

-- the fields of a start that stands at one place
record SameStart (v w s t : ℕ) (rules ruled : Rules) (chosen picked : Pick) (from least to end : ℕ) : Type 0 where
  rules_are : ruled ≡ rules
  picks : picked ≡ chosen
  first : least ≡ from
  last : end ≡ to

same_start : (v w s t : ℕ) (rules ruled : Rules) (chosen picked : Pick) (from least to end : ℕ) → event.FetchStart w t ruled picked least end ≡ event.FetchStart v s rules chosen from to → SameStart v w s t rules ruled chosen picked from least to end
same_start v w s t rules ruled chosen picked from least to end e = record { rules_are = cc; picks = cc; first = cc; last = cc }

-- an answer that was joined is one of some node
answer_of : (past : List Event) (start s version : ℕ) (rules : Rules) (chosen : Pick) (from to : ℕ) (nodes : List ℕ) (answers : List (List Series)) (one : List Series)
    → EachAnswered (drop (suc start) past) (event.FetchStart version s rules chosen from to) nodes answers → IsIn answers one → (n : ℕ) × ReadAt past start n s version rules chosen from to one
answer_of past start s version rules chosen from to [] [] one each h = absurd h
answer_of past start s version rules chosen from to [] (b ∷ answers) one each h = absurd each
answer_of past start s version rules chosen from to (m ∷ nodes) [] one each h = absurd h
answer_of past start s version rules chosen from to (m ∷ nodes) (b ∷ answers) one each h =
    elim h as (λ _. (n : ℕ) × ReadAt past start n s version rules chosen from to one) [
      | inl e ↦ (m, subst (ReadAt past start m s version rules chosen from to) e (read_at past start m s version rules chosen from to b each.0))
      | inr r ↦ answer_of past start s version rules chosen from to nodes answers one each.1 r
    ]

-- what is known of a FetchDone with its FetchStart
pub record DoneAt (rules : Rules) (chosen : Pick) (from to : ℕ) (series : List Series) : Type 0 where
  pub wanted : (p : Point) → IsIn (points_in (space_picked chosen) series) p → IsWantedUnexpired rules chosen from to p

pub done_at : (events : List Event) → Legal true events → (i start : ℕ) (nodes : List ℕ) (series : List Series) → At events i (event.FetchDone start nodes series)
    → (version s : ℕ) (rules : Rules) (chosen : Pick) (from to : ℕ) → At events start (event.FetchStart version s rules chosen from to) → DoneAt rules chosen from to series
done_at events legal i start nodes series done version s rules chosen from to started =
    let f = lawful_fetched events legal i start nodes series done in
    let begun = at_take events start i (event.FetchStart f.version f.s f.rules f.pick f.from f.to) f.started in
    let same = same_start version f.version s f.s rules f.rules chosen f.pick from f.from to f.to (at_same events start (event.FetchStart f.version f.s f.rules f.pick f.from f.to) (event.FetchStart version s rules chosen from to) begun.0 started) in
    let wanted : (p : Point) → IsIn (points_in (space_picked f.pick) series) p → IsWantedUnexpired f.rules f.pick f.from f.to p =
    λ p m.
    let any = each-from_All (λ q. Any (λ one. IsIn (points_in (space_picked f.pick) one) q) f.answers) (points_in (space_picked f.pick) series) (f.joined).nothing_else p m in
    let from_one = IsIn-from_Any (λ one. IsIn (points_in (space_picked f.pick) one) p) f.answers any in
    let a = answer_of (take i events) start f.s f.version f.rules f.pick f.from f.to nodes f.answers from_one.0 f.answered from_one.1 in
    let there = at_take events (a.1).position i (event.Step a.0 f.s (call.Read (a.1).client (a.1).number f.rules f.version f.pick f.from f.to) (reply.Found from_one.0)) (a.1).there in
    let row = lawful_step events legal (a.1).position a.0 f.s (call.Read (a.1).client (a.1).number f.rules f.version f.pick f.from f.to) (reply.Found from_one.0) there.0 in
    (each-from_All (λ q. IsIn (replica a.0 f.s (take (a.1).position events)).sure q × IsWantedUnexpired f.rules f.pick f.from f.to q) (points_in (space_picked f.pick) from_one.0) (row.2).nothing_else p from_one.2).1 in
    record {
      wanted = λ p m.
          subst (λ k. IsWantedUnexpired rules k from to p) same.picks
          (subst (λ r. IsWantedUnexpired r f.pick from to p) same.rules_are
          (subst (λ a. IsWantedUnexpired f.rules f.pick a to p) same.first
          (subst (λ b. IsWantedUnexpired f.rules f.pick f.from b p) same.last
          (wanted p (subst (λ k. IsIn (points_in (space_picked k) series) p) (sym same.picks) m)))));
    }
