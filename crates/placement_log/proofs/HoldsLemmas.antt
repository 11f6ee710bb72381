-- What files hold where a segment is begun, a chunk is added, or the segments below it are taken away.
use Rattle.std.proofs.Common.{◌≡◌, inl, inr, ⊎_elim, ℕ, ◌<◌, List, [], ◌∷◌, ◌++◌, length, drop, map, Option, Some, None, refl, sym, ap, subst, ◌∙◌, append_assoc, append-nil, All}
use Rattle.std.proofs.lemmas.List.{map_push, drop-map, drop_at, same_from_push}
use Rattle.std.proofs.lemmas.List.Elements.{All-push, All-drop}
use Rattle.m3_model.specs.declared.rules.MetaState.{MetaState}
use Rattle.m3_outside.specs.Files.{Files}
use Rattle.m3_outside.specs.Removal.{MayTakeAway}
use Rattle.commit_log.specs.Contents.{numbers, PartsHold}
use Rattle.commit_log.specs.Cutting.{numbers_below, segments_below}
use Rattle.commit_log.specs.LogEnd.{NoneAbove, MayBeginSegment}
use Rattle.commit_log.specs.LogLaws.{IsLog, IsCutAt, LeavesEnd}
use Rattle.commit_log.specs.Segment.{segment, HasChunks, MayAdd, Adds}
use Rattle.commit_log.proofs.CutLaws.{halves, cut_end}
use Rattle.commit_log.proofs.LogLemmas.{may_add_log, adds_log, begun_log}
use Rattle.commit_log.proofs.Numbers.{ascend}
use Rattle.commit_log.proofs.Parts.{Parted, parts_split, has_one}
use Rattle.meta_bytes.specs.States.{IsMetaState}
use Rattle.placement_log.specs.States.{payload_bytes}
use Rattle.placement_log.specs.MetaHolds.{MetaHolds, KeepsLast, MaySave, Saves}
use Rattle.placement_log.proofs.LastLemmas.{last_push}
use Rattle.placement_log.proofs.ElseLemmas.{else_begun, else_others}
use Rattle.placement_log.proofs.NumberLemmas.{from_last}

pub log_of : (last : Option MetaState) (number : ℕ) (x : Files) (h : MetaHolds last x) → NoneAbove number x → IsLog (map payload_bytes h.states) number x
log_of last number x h none = record { parts = h.log; above = none }

pub begun_keeps : (last number : ℕ) → last < number → (x y : Files) → NoneAbove last x → MayBeginSegment number x y → KeepsLast x y
begun_keeps last number lt x y none may = record {
  last = λ l h. record {
    states = h.states;
    are = h.are;
    log = (begun_log last number lt (map payload_bytes h.states) x y (log_of l last x h none) may).parts;
    last_is = h.last_is;
  };
  others = else_begun number x y may;
}

-- one state more
more_holds : (number : ℕ) (state : MetaState) (states : List MetaState) (y : Files) → All IsMetaState states → IsMetaState state → IsLog (map payload_bytes states ++ payload_bytes state ∷ []) number y → MetaHolds (Some state) y
more_holds number state states y are is log = record {
  states = states ++ state ∷ [];
  are = All-push IsMetaState states state are is;
  log = subst (PartsHold (numbers y) y) (sym (map_push payload_bytes states state)) log.parts;
  last_is = sym (last_push None states state);
}

pub may_save : (number : ℕ) (state : MetaState) → IsMetaState state → (x y : Files) → NoneAbove number x → MayAdd (segment number) (payload_bytes state) x y → MaySave state x y
may_save number state is x y none may = record {
  last = λ l h.
      ⊎_elim (λ (same : IsLog (map payload_bytes h.states) number y). inl (record { states = h.states; are = h.are; log = same.parts; last_is = h.last_is }))
      (λ (more : IsLog (map payload_bytes h.states ++ payload_bytes state ∷ []) number y). inr (more_holds number state h.states y h.are is more))
      (may_add_log number (payload_bytes state) (map payload_bytes h.states) x y (log_of l number x h none) may);
  others = else_others number x y may.others;
}

pub adds_saves : (number : ℕ) (state : MetaState) → IsMetaState state → (x y : Files) → NoneAbove number x → Adds (segment number) (payload_bytes state) x y → Saves state x y
adds_saves number state is x y none adds = λ l h. more_holds number state h.states y h.are is (adds_log number (payload_bytes state) (map payload_bytes h.states) x y (log_of l number x h none) adds)

-- the state's chunk is in the last segment, and stays where those below it go
module _ (number : ℕ) (state : MetaState) (is : IsMetaState state) (x y z : Files) (none : NoneAbove number x) (adds : Adds (segment number) (payload_bytes state) x y) (takes : MayTakeAway (segments_below number y) y z) (last : Option MetaState) (h : MetaHolds last x) where
  abbrev payload : List ℕ
  payload = payload_bytes state

  abbrev cs : List (List ℕ)
  cs = map payload_bytes h.states

  grown : IsLog (cs ++ payload ∷ []) number y
  grown = adds_log number payload cs x y (log_of last number x h none) adds

  own : HasChunks (segment number) (adds.chunks ++ payload ∷ []) y
  own = adds.after

  alone : numbers y ≡ numbers_below number y ++ number ∷ []
  alone = halves number (numbers y) (ascend y) ∙ ap (λ (l : List ℕ). numbers_below number y ++ l) (from_last number y own.file grown.above own.there)

  parts : Parted (numbers_below number y) (number ∷ []) y (cs ++ payload ∷ [])
  parts = parts_split (numbers_below number y) (number ∷ []) y (cs ++ payload ∷ []) (subst (λ (l : List ℕ). PartsHold l y (cs ++ payload ∷ [])) alone grown.parts)

  back_is : parts.back ≡ adds.chunks ++ payload ∷ []
  back_is =
      let b = parts.of_back in
      b.split ∙ ap (λ (l : List (List ℕ)). b.first ++ l) b.later ∙ append-nil b.first ∙ has_one number y b.first (adds.chunks ++ payload ∷ []) b.has own

  front_is : cs ≡ parts.front ++ adds.chunks
  front_is = (same_from_push cs (parts.front ++ adds.chunks) payload payload (parts.split ∙ ap (λ (l : List (List ℕ)). parts.front ++ l) back_is ∙ sym (append_assoc parts.front adds.chunks (payload ∷ [])))).0

  at : IsCutAt number parts.front (adds.chunks ++ payload ∷ []) number y
  at = record {
    parts_below = parts.of_front;
    parts_from = subst (λ (l : List ℕ). PartsHold l y (adds.chunks ++ payload ∷ [])) (sym (from_last number y own.file grown.above own.there)) (subst (PartsHold (number ∷ []) y) back_is parts.of_back);
    above = grown.above;
  }

  left : LeavesEnd parts.front (adds.chunks ++ payload ∷ []) number z
  left = cut_end number number parts.front (adds.chunks ++ payload ∷ []) y z at takes

  abbrev gone : ℕ
  gone = length left.gone

  states_left : map payload_bytes (drop gone h.states) ≡ left.left ++ adds.chunks
  states_left =
      sym (drop-map payload_bytes gone h.states) ∙ ap (drop gone) (front_is ∙ ap (λ (l : List (List ℕ)). l ++ adds.chunks) left.split ∙ append_assoc left.gone left.left adds.chunks)
      ∙ drop_at left.gone (left.left ++ adds.chunks) gone refl

  pub swept_holds : MetaHolds (Some state) z
  swept_holds =
      let log = left.log in
      more_holds number state (drop gone h.states) z (All-drop IsMetaState gone h.states h.are) is (record {
        parts = subst (PartsHold (numbers z) z) (sym (append_assoc left.left adds.chunks (payload ∷ [])) ∙ ap (λ (l : List (List ℕ)). l ++ payload ∷ []) (sym states_left)) log.parts;
        above = log.above;
      })

pub swept_saves : (number : ℕ) (state : MetaState) → IsMetaState state → (x y z : Files) → NoneAbove number x → Adds (segment number) (payload_bytes state) x y → MayTakeAway (segments_below number y) y z → Saves state x z
swept_saves number state is x y z none adds takes = λ last h. swept_holds number state is x y z none adds takes last h
