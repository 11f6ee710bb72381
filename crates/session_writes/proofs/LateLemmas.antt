-- Late writes, delivered one after the other.
use Rattle.std.proofs.Common.{◌≡◌, ℕ, ◌+◌, ◌<◌, ◌≤◌, List, [], ◌∷◌, ◌++◌, map, length, refl, sym, ap, ◌∙◌, subst, Bool, true, false, cond, take, get_or, arith, append_assoc}
use Rattle.std.specs.Prelude.{⊤, Option, Result, nat_lt}
use Rattle.std.specs.Result.{result_err}
use Rattle.std.proofs.lemmas.Bool.{ltb-true}
use Rattle.std.proofs.lemmas.List.{append-nil, map-append, take_more}
use Rattle.std.proofs.lemmas.List.Elements.{filter-append}
use Rattle.m3_model.specs.declared.reason.Reason.{Reason}
use Rattle.m3_model.specs.declared.rules.Rules.{Rules}
use Rattle.session_net.specs.cluster_core.declared.event.Event.{Event}
use Rattle.session_net.specs.cluster_core.declared.event.StepReply.TheVariants as reply
use Rattle.net_plan.specs.declared.late_write.LateWrite.{LateWrite}
use Rattle.session_net.specs.Deliveries.{known, late_put, outcome_of, AreDelivered}
use Rattle.session_net.specs.Messages.{IsDelivery}
use Rattle.session_net.proofs.ReadyLemmas.{AreQuiet, quiet_both, quiet_none, quiet_delivery}

pub above_test : (a b : ℕ) → b ≤ a → nat_lt a b ≡ false
above_test a b h = by_test (nat_lt a b) refl
  where
    by_test : (t : Bool) → nat_lt a b ≡ t → t ≡ false
    by_test true e = absurd (let less = ltb-true a b e in omega (arith, h, less))
    by_test false e = refl

module _ (rules : Rules) where
  -- the known ones with one more
  known_more : (late : List LateWrite) (i : ℕ) (one : LateWrite) (b : Bool) → i < length late → one ≡ get_or late i one → nat_lt one.point.ns (length rules.spaces) ≡ b
      → known rules (take (i + 1) late) ≡ known rules (take i late) ++ cond b (one ∷ []) []
  known_more late i one b below is test =
      ap (known rules) (take_more late i one below ∙ ap (λ x. take i late ++ x ∷ []) (sym is)) ∙ filter-append (λ x. nat_lt x.point.ns (length rules.spaces)) (take i late) (one ∷ [])
      ∙ ap (λ c. known rules (take i late) ++ cond c (one ∷ []) []) test

  -- one that isn't known
  pub delivered_pass : (late : List LateWrite) (i : ℕ) (one : LateWrite) (deliveries : List (LateWrite × Result ⊤ Reason)) (events : List Event) → i < length late → one ≡ get_or late i one
      → nat_lt one.point.ns (length rules.spaces) ≡ false → AreDelivered rules (known rules (take i late)) deliveries events → AreDelivered rules (known rules (take (i + 1) late)) deliveries events
  delivered_pass late i one deliveries events below is test was =
      subst (λ xs. AreDelivered rules xs deliveries events) (sym (known_more late i one false below is test ∙ append-nil (known rules (take i late)))) was

  delivered_last : (late : List LateWrite) (deliveries : List (LateWrite × Result ⊤ Reason)) (events : List Event) (one : LateWrite) (said : Result ⊤ Reason) (more : List Event) → AreDelivered rules late deliveries events
      → IsDelivery (λ (u : ⊤). reply.Done) one.node one.shard (late_put rules one) said more → AreDelivered rules (late ++ one ∷ []) (deliveries ++ (one, said) ∷ []) (events ++ more)
  delivered_last [] [] events one said more h here = (refl, more, [], ap (λ es. es ++ more) h ∙ sym (append-nil more), here, refl)
  delivered_last [] (d ∷ deliveries) events one said more h here = absurd h
  delivered_last (x ∷ late) [] events one said more h here = absurd h
  delivered_last (x ∷ late) (d ∷ deliveries) events one said more h here =
      (h.0, h.1, h.2 ++ more, ap (λ es. es ++ more) h.3 ∙ append_assoc h.1 h.2 more, h.4, delivered_last late deliveries h.2 one said more h.5 here)

  -- one that is
  pub delivered_more : (late : List LateWrite) (i : ℕ) (one : LateWrite) (deliveries : List (LateWrite × Result ⊤ Reason)) (events : List Event) (said : Result ⊤ Reason) (more : List Event)
      → i < length late → one ≡ get_or late i one → nat_lt one.point.ns (length rules.spaces) ≡ true → AreDelivered rules (known rules (take i late)) deliveries events
      → IsDelivery (λ (u : ⊤). reply.Done) one.node one.shard (late_put rules one) said more → AreDelivered rules (known rules (take (i + 1) late)) (deliveries ++ (one, said) ∷ []) (events ++ more)
  delivered_more late i one deliveries events said more below is test was here =
      subst (λ xs. AreDelivered rules xs (deliveries ++ (one, said) ∷ []) (events ++ more)) (sym (known_more late i one true below is test)) (delivered_last (known rules (take i late)) deliveries events one said more was here)

  -- deliveries set neither the moment nor the placement
  pub quiet_deliveries : (late : List LateWrite) (deliveries : List (LateWrite × Result ⊤ Reason)) (events : List Event) → AreDelivered rules late deliveries events → AreQuiet events
  quiet_deliveries [] [] events h = subst AreQuiet (sym h) quiet_none
  quiet_deliveries [] (d ∷ deliveries) events h = absurd h
  quiet_deliveries (x ∷ late) [] events h = absurd h
  quiet_deliveries (x ∷ late) (d ∷ deliveries) events h =
      subst AreQuiet (sym h.3) (quiet_both h.1 h.2 (quiet_delivery (λ (u : ⊤). reply.Done) x.node x.shard (late_put rules x) d.1 h.1 h.4) (quiet_deliveries late deliveries h.2 h.5))

-- one more outcome
pub outcomes_more : (deliveries : List (LateWrite × Result ⊤ Reason)) (one : LateWrite) (said : Result ⊤ Reason) (outcome : Option Reason) (before after : List (ℕ × ℕ × Option Reason)) → before ≡ map outcome_of deliveries → outcome ≡ result_err said
    → after ≡ before ++ (one.node, one.shard, outcome) ∷ [] → after ≡ map outcome_of (deliveries ++ (one, said) ∷ [])
outcomes_more deliveries one said outcome before after were is pushed =
    pushed ∙ ap (λ os. os ++ (one.node, one.shard, outcome) ∷ []) were ∙ ap (λ o. map outcome_of deliveries ++ (one.node, one.shard, o) ∷ []) is ∙ sym (map-append outcome_of deliveries ((one, said) ∷ []))
