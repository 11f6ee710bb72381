-- Fates and stops are of known nodes, one line on.
use Rattle.std.proofs.Common.{◌≡◌, ◌≢◌, ◌≤◌, ℕ, List, [], ◌∷◌, ◌++◌, length, map, refl, sym, ap, ◌∙◌, subst, arith, Bool, true, false, cond, unwrap_or}
use Rattle.std.specs.Prelude.{Some, None, nat_eq, slice_get}
use Rattle.std.specs.Cmp.Lexicographic.{pointwise}
use Rattle.std.specs.FinMap.{get-empty}
use Rattle.std.specs.Map.{lookup}
use Rattle.std.proofs.lemmas.Slice.Eq.{bytes_eq-Decides}
use Rattle.m3_model.specs.declared.act.Act.{Act}
use Rattle.m3_model.specs.declared.act.Act.TheVariants as act
use Rattle.m3_model.specs.declared.act.Fate.{Fate}
use Rattle.m3_model.specs.declared.act.Fate.TheVariants.{Deliver}
use Rattle.m3_model.specs.declared.answer.Answer.{Answer}
use Rattle.m3_model.specs.declared.answer.Answer.TheVariants as answer
use Rattle.m3_model.specs.declared.placement.Instance.{Instance}
use Rattle.m3_model.specs.declared.placement.Placement.{Placement}
use Rattle.m3_model.specs.declared.turn.Reply.TheVariants as reply
use Rattle.m3_model.specs.declared.turn.Request.TheVariants as request
use Rattle.m3_model.specs.declared.turn.Turn.{Turn}
use Rattle.net_plan.specs.FateKeys.{fate_key_cmp}
use Rattle.net_plan.specs.Fates.{FateMap, Item, entry_of, fate_of, fates_of, key_of}
use Rattle.net_plan.specs.declared.fate_key.FateKey.{FateKey}
use Rattle.net_plan.proofs.KeyLemmas.{keys_apart}
use Rattle.net_plan.proofs.RowLemmas.{get-fates, same}
use Rattle.placement_core.specs.Steps.{KeepsNames}
use Rattle.placement_core.proofs.ListLemmas.{at_within}
use Rattle.transcripts.specs.Fates.{Numbering, calls_in, client_acts, fate_in, fates_set, is_fate_of, is_stopped, numbering_after, numbering_by, stopped_by}
use Rattle.transcripts.specs.Record.{inner_turns, line_of}
use Rattle.line_tracks.proofs.calls.KeepLemmas.{numbering_next}
use Rattle.node_calls.specs.cluster_members.Names.{AreNumbered}
use Rattle.node_calls.proofs.cluster_members_proofs.NameLemmas.{node_found}
use Rattle.line_tracks.specs.acts.Quiet.{KeepsStops}
use Rattle.line_tracks.specs.acts.Stands.{IsUnnamed, KnowsNodes}
use Rattle.line_tracks.proofs.acts.NameLemmas.{fate_test}
use Rattle.line_tracks.proofs.acts.QuietLemmas.{stops_next}

-- a turn that sets no fates leaves those that were set
pub fates_kept : (turns : List Turn) (a : Act) (b : Answer) → fates_set (request.One a) (reply.One b) ≡ None → (numbering_after 0 (turns ++ line_of a b ∷ [])).fates ≡ (numbering_after 0 turns).fates
fates_kept turns a b none = ap (λ (n : Numbering). n.fates) (numbering_next None turns a b) ∙ ap (λ o. (numbering_by o (calls_in (client_acts 0 (request.One a))) (numbering_after 0 turns)).fates) none

-- a turn that sets no fates, and stops no other node
pub known_by : (turns : List Turn) (a : Act) (b : Answer) (place : Placement) (fates : FateMap) → fates_set (request.One a) (reply.One b) ≡ None → ((name : List ℕ) → IsUnnamed place name → stopped_by name a b false ≡ false) → KnowsNodes turns place fates → KnowsNodes (turns ++ line_of a b ∷ []) place fates
known_by turns a b place fates none stays was = record {
  delivers = was.delivers;
  unset = λ client call name away. ap (λ list. fate_in list client call name) (fates_kept turns a b none) ∙ was.unset client call name away;
  runs = λ name away. stops_next turns a b name ∙ ap (stopped_by name a b) (was.runs name away) ∙ stays name away;
}

-- one that stops and restarts none
pub known_on : (turns : List Turn) (a : Act) (b : Answer) (place : Placement) (fates : FateMap) → fates_set (request.One a) (reply.One b) ≡ None → KeepsStops a b → KnowsNodes turns place fates → KnowsNodes (turns ++ line_of a b ∷ []) place fates
known_on turns a b place fates none keeps was = known_by turns a b place fates none (λ name away. keeps name false) was

pub known_kept : (turns : List Turn) (a : Act) (b : Answer) (place next : Placement) (fates later : FateMap) → next ≡ place → later ≡ fates → fates_set (request.One a) (reply.One b) ≡ None → KeepsStops a b → KnowsNodes turns place fates → KnowsNodes (turns ++ line_of a b ∷ []) next later
known_kept turns a b place next fates later same_place same_fates none keeps was =
    subst (λ (p : Placement). KnowsNodes (turns ++ line_of a b ∷ []) p later) (sym same_place) (subst (KnowsNodes (turns ++ line_of a b ∷ []) place) (sym same_fates) (known_on turns a b place fates none keeps was))

-- ---- stops and restarts

-- a stop of a node of the placement
pub stop_stays : (place : Placement) (node : List ℕ) (n : ℕ) (own : Instance) → slice_get place.instances n ≡ Some own → own.name ≡ node → (name : List ℕ) → IsUnnamed place name → stopped_by name (act.Stop node) answer.Done false ≡ false
stop_stays place node n own at called name away = by (pointwise nat_eq name node) refl
  where
    by : (t : Bool) → pointwise nat_eq name node ≡ t → cond t true false ≡ false
    by true is = absurd (away n own at (called ∙ sym ((bytes_eq-Decides name node).0 is)))
    by false is = refl

-- a restart stops none
pub restart_stays : (node : List ℕ) (pick : ℕ) (name : List ℕ) → stopped_by name (act.Restart node pick) answer.Done false ≡ false
restart_stays node pick name = by (pointwise nat_eq name node)
  where
    by : (t : Bool) → cond t false false ≡ false
    by true = refl
    by false = refl

-- ---- fates

-- fates by number are of numbers of the placement
delivered_by_number : (instances : List Instance) (list : List (ℕ × ℕ × List ℕ × Fate)) (items : List Item) → AreNumbered instances list items → (key : FateKey) → length instances ≤ key.node → unwrap_or (lookup (same key) (map entry_of items)) Deliver ≡ Deliver
delivered_by_number instances [] [] h key high = refl
delivered_by_number instances (f ∷ list) (item ∷ items) h key high =
    ap (λ t. unwrap_or (cond t (Some item.3) (lookup (same key) (map entry_of items))) Deliver) (keys_apart key (key_of item) apart) ∙ delivered_by_number instances list items h.4 key high
  where
    apart : key ≢ key_of item
    apart e =
        let found = node_found f.2 instances item.2 h.2 in
        let low = at_within instances item.2 found.instance_ found.stands in
        let number : key.node ≡ item.2 = ap (λ (x : FateKey). x.node) e in
        omega (arith, high, low, number)
delivered_by_number instances [] (item ∷ items) h key high = absurd h
delivered_by_number instances (f ∷ list) [] h key high = absurd h

-- and of names of it
delivered_by_name : (place : Placement) (list : List (ℕ × ℕ × List ℕ × Fate)) (items : List Item) → AreNumbered place.instances list items → (client call : ℕ) (name : List ℕ) → IsUnnamed place name → fate_in list client call name ≡ Deliver
delivered_by_name place [] [] h client call name away = refl
delivered_by_name place (f ∷ list) (item ∷ items) h client call name away = by (is_fate_of client call name f) refl (delivered_by_name place list items h.4 client call name away)
  where
    by : (t : Bool) → is_fate_of client call name f ≡ t → fate_in list client call name ≡ Deliver → fate_in (f ∷ list) client call name ≡ Deliver
    by true is later = let found = node_found f.2 place.instances item.2 h.2 in absurd (away item.2 found.instance_ found.stands (found.name_is ∙ (fate_test client call name f is).2))
    by false is later = ap (λ t. cond t f.3 (fate_in list client call name)) is ∙ later
delivered_by_name place [] (item ∷ items) h client call name away = absurd h
delivered_by_name place (f ∷ list) [] h client call name away = absurd h

pub known_set : (turns : List Turn) (list : List (ℕ × ℕ × List ℕ × Fate)) (items : List Item) (place : Placement) (was fates : FateMap) → fates ≡ fates_of items → AreNumbered place.instances list items → KnowsNodes turns place was → KnowsNodes (turns ++ line_of (act.Fates list) answer.Done ∷ []) place fates
known_set turns list items place was fates is numbered known = record {
  delivers = λ client call node high.
      let key : FateKey = record { client = client; call = call; node = node } in
      ap (λ (f : FateMap). fate_of f key) is ∙ ap (λ o. unwrap_or o Deliver) (get-fates items key) ∙ delivered_by_number place.instances list items numbered key high;
  unset = λ client call name away. ap (λ (n : Numbering). fate_in n.fates client call name) (numbering_next None turns (act.Fates list) answer.Done) ∙ delivered_by_name place list items numbered client call name away;
  runs = λ name away. stops_next turns (act.Fates list) answer.Done name ∙ known.runs name away;
}

-- ---- placements

-- the next placement has at least the nodes of the one before
pub known_next : (turns : List Turn) (place next : Placement) (fates : FateMap) → KeepsNames place.instances next.instances → length place.instances ≤ length next.instances → KnowsNodes turns place fates → KnowsNodes turns next fates
known_next turns place next fates names more was = record {
  delivers = λ client call node high. was.delivers client call node (omega (arith, more, high));
  unset = λ client call name away. was.unset client call name (before name away);
  runs = λ name away. was.runs name (before name away);
}
  where
    before : (name : List ℕ) → IsUnnamed next name → IsUnnamed place name
    before name away n own at called = let kept = names n own at in away n kept.0 kept.1 (kept.2 ∙ called)

-- of a first one no fates are set yet
pub known_first : (turns : List Turn) (place : Placement) (fates : FateMap) → fates ≡ fates_of [] → (numbering_after 0 turns).fates ≡ [] → ((name : List ℕ) → is_stopped (inner_turns turns) name ≡ false) → KnowsNodes turns place fates
known_first turns place fates is none runs = record {
  delivers = λ client call node high. let key : FateKey = record { client = client; call = call; node = node } in ap (λ (f : FateMap). fate_of f key) is ∙ ap (λ o. unwrap_or o Deliver) (get-empty fate_key_cmp key);
  unset = λ client call name away. ap (λ list. fate_in list client call name) none;
  runs = λ name away. runs name;
}
