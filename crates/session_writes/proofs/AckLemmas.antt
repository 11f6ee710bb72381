-- Those that took a write count for its shard, differ, and have put its point.
use Rattle.std.proofs.Common.{◌≡◌, ℕ, List, [], ◌∷◌, ◌++◌, map, Bool, true, false, refl, sym, ap, subst, inl, inr}
use Rattle.std.specs.Prelude.{⊤, Result, Ok, Err, if◌then◌else◌}
use Rattle.m3_model.specs.Ascends.{Ascends}
use Rattle.m3_model.specs.Members.{IsIn}
use Rattle.m3_model.specs.declared.act.Fate.{Fate}
use Rattle.m3_model.specs.declared.act.Fate.TheVariants as fate
use Rattle.m3_model.specs.declared.placement.Assignment.{Assignment}
use Rattle.m3_model.specs.declared.reason.Reason.{Reason}
use Rattle.m3_model.specs.declared.reason.Reason.TheVariants as reason
use Rattle.m3_model.proofs.MemberLemmas.{IsIn-append_left, IsIn-append_right}
use Rattle.session_net.specs.cluster_core.declared.event.Event.{Event}
use Rattle.session_net.specs.cluster_core.declared.event.Event.TheVariants as event
use Rattle.session_net.specs.cluster_core.declared.event.StepCall.{StepCall}
use Rattle.session_net.specs.cluster_core.declared.event.StepReply.TheVariants as reply
use Rattle.net_plan.specs.Fates.{FateMap}
use Rattle.placement_core.specs.Shards.{Shard, counts, nodes_of}
use Rattle.session_net.specs.replica_exchange.declared.call_id.CallId.{CallId}
use Rattle.session_net.specs.Messages.{IsDelivery, IsHeard, Heard, AreHeard, fate_to}
use Rattle.session_net.specs.Outcomes.{told_of, answering}
use Rattle.session_net.specs.Writes.{counted_among}

-- ---- who took it

took_if : Bool → ℕ → Result ⊤ Reason → List ℕ → List ℕ
took_if true n (Ok u) rest = n ∷ rest
took_if true n (Err why) rest = rest
took_if false n said rest = rest

pub took_of : Shard → List (Heard ⊤) → List ℕ
took_of (a ∷ members) (x ∷ heard) = took_if (counts a.state) x.0 x.1 (took_of members heard)
took_of _ _ = []

took_by : (b : Bool) (n : ℕ) (said : Result ⊤ Reason) (rest : List ℕ) (counted : List (Heard ⊤)) → rest ≡ answering (map told_of counted) → took_if b n said rest ≡ answering (map told_of (if b then (n, said) ∷ counted else counted))
unfolding took_if
took_by true n (Ok u) rest counted e = ap (λ ns. n ∷ ns) e
took_by true n (Err why) rest counted e = e
took_by false n said rest counted e = e

pub took_answers : (members : Shard) (heard : List (Heard ⊤)) → took_of members heard ≡ answering (map told_of (counted_among members heard))
unfolding took_of
took_answers [] heard = refl
took_answers (a ∷ members) [] = refl
took_answers (a ∷ members) (x ∷ heard) = took_by (counts a.state) x.0 x.1 (took_of members heard) (counted_among members heard) (took_answers members heard)

-- ---- each did

-- a member that counts took it
pub record Took (members : Shard) (s : ℕ) (c : StepCall) (puts : List Event) (n : ℕ) : Type 0 where
  pub a : Assignment
  pub member : IsIn members a
  pub counted : counts a.state ≡ true
  pub node : a.node ≡ n
  pub put : IsIn puts (event.Step n s c reply.Done)

took_later : (a : Assignment) (members : Shard) (s : ℕ) (c : StepCall) (first rest puts : List Event) (n : ℕ) → puts ≡ first ++ rest → Took members s c rest n → Took (a ∷ members) s c puts n
took_later a members s c first rest puts n parts t = record { a = t.a; member = inr t.member; counted = t.counted; node = t.node; put = subst (λ es. IsIn es (event.Step n s c reply.Done)) (sym parts) (IsIn-append_right first rest (event.Step n s c reply.Done) t.put) }

did : (n s : ℕ) (c : StepCall) (u : ⊤) (events : List Event) → IsDelivery (λ (u : ⊤). reply.Done) n s c (Ok u) events → IsIn events (event.Step n s c reply.Done)
did n s c u events is = subst (λ es. IsIn es (event.Step n s c reply.Done)) (sym is) (inr (inl refl))

heard_did : (f : Fate) (n s : ℕ) (c : StepCall) (u : ⊤) (events : List Event) → IsHeard (λ (u : ⊤). reply.Done) f n s c (Ok u) events → IsIn events (event.Step n s c reply.Done)
heard_did fate.Lose n s c u events h = let clash : Ok u ≡ Err reason.Cut = h.0 in cc
heard_did fate.Late n s c u events h = let clash : Ok u ≡ Err reason.Cut = h.0 in cc
heard_did fate.Deliver n s c u events h = did n s c u events h
heard_did fate.Twice n s c u events h = subst (λ es. IsIn es (event.Step n s c reply.Done)) (sym h.are) (IsIn-append_left h.heard h.unheard (event.Step n s c reply.Done) (did n s c u h.heard h.first))

module _ (fates : FateMap) (id : CallId) (s : ℕ) (c : StepCall) where
  took_here : (a : Assignment) (members : Shard) (b : Bool) → counts a.state ≡ b → (said : Result ⊤ Reason) (rest : List ℕ) (first later puts : List Event) → puts ≡ first ++ later → IsHeard (λ (u : ⊤). reply.Done) (fate_to fates id a.node) a.node s c said first
      → (n : ℕ) → (IsIn rest n → Took members s c later n) → IsIn (took_if b a.node said rest) n → Took (a ∷ members) s c puts n
  unfolding took_if
  took_here a members true is (Ok u) rest first later puts parts h n others (inl e) = record {
    a = a;
    member = inl refl;
    counted = is;
    node = e;
    put = subst (λ m. IsIn puts (event.Step m s c reply.Done)) e (subst (λ es. IsIn es (event.Step a.node s c reply.Done)) (sym parts) (IsIn-append_left first later (event.Step a.node s c reply.Done) (heard_did (fate_to fates id a.node) a.node s c u first h)));
  }
  took_here a members true is (Ok u) rest first later puts parts h n others (inr m) = took_later a members s c first later puts n parts (others m)
  took_here a members true is (Err why) rest first later puts parts h n others m = took_later a members s c first later puts n parts (others m)
  took_here a members false is said rest first later puts parts h n others m = took_later a members s c first later puts n parts (others m)

  pub who_took : (members : Shard) (heard : List (Heard ⊤)) (puts : List Event) → AreHeard (λ (u : ⊤). reply.Done) fates id s c (nodes_of members) heard puts → (n : ℕ) → IsIn (took_of members heard) n → Took members s c puts n
  unfolding took_of
  who_took [] heard puts h n m = absurd m
  who_took (a ∷ members) [] puts h n m = absurd m
  who_took (a ∷ members) (x ∷ heard) puts h n m =
      took_here a members (counts a.state) refl x.1 (took_of members heard) h.1 h.2 puts h.3 h.4 n (who_took members heard h.2 h.5 n) (subst (λ k. IsIn (took_if (counts a.state) k x.1 (took_of members heard)) n) h.0 m)

  -- ---- and they differ

  ascends_if : (R : ℕ → ℕ → Type 0) (b : Bool) (n : ℕ) (said : Result ⊤ Reason) (rest : List ℕ) → ((m : ℕ) → IsIn rest m → R n m) → Ascends R rest → Ascends R (took_if b n said rest)
  unfolding took_if
  ascends_if R true n (Ok u) rest below h = (below, h)
  ascends_if R true n (Err why) rest below h = h
  ascends_if R false n said rest below h = h

  pub took_ascends : (R : ℕ → ℕ → Type 0) (members : Shard) (heard : List (Heard ⊤)) (puts : List Event) → AreHeard (λ (u : ⊤). reply.Done) fates id s c (nodes_of members) heard puts → Ascends (λ a b. R a.node b.node) members
      → Ascends R (took_of members heard)
  unfolding took_of
  took_ascends R [] heard puts h asc = tt
  took_ascends R (a ∷ members) [] puts h asc = tt
  took_ascends R (a ∷ members) (x ∷ heard) puts h asc =
      ascends_if R (counts a.state) x.0 x.1 (took_of members heard)
      (λ m k. let t = who_took members heard h.2 h.5 m k in subst (λ q. R q m) (sym h.0) (subst (λ q. R a.node q) t.node (asc.0 t.a t.member)))
      (took_ascends R members heard h.2 h.5 asc.1)
