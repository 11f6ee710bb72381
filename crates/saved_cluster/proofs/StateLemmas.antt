-- The state to which a plan leads is one that a cluster may have.
use Rattle.std.proofs.Common.{◌≡◌, ◌≢◌, ◌≤◌, ◌<◌, ◌+◌, ℕ, suc, List, [], ◌∷◌, ◌++◌, length, refl, sym, ap, subst, ◌∙◌, inl, inr, arith, length-append, Bool, true, false, cond}
use Rattle.std.specs.Prelude.{◌⊎◌, Option, Some, None, option_map, nat_eq}
use Rattle.std.specs.Cmp.Lexicographic.{pointwise}
use Rattle.std.specs.List.{All}
use Rattle.std.proofs.lemmas.List.Elements.{All-append, All-cons, All-nil}
use Rattle.std.proofs.lemmas.Slice.Eq.{bytes_eq-Decides}
use Rattle.m3_model.specs.Ascends.{Ascends}
use Rattle.m3_model.specs.Limits.{IsSpace}
use Rattle.m3_model.specs.Members.{IsIn}
use Rattle.m3_model.specs.Rules.{namespace_position}
use Rattle.m3_model.specs.declared.limits.TheConstants.{MOST_NAMESPACES, TIME_END}
use Rattle.m3_model.specs.declared.placement.Placement.{Placement}
use Rattle.m3_model.specs.declared.rules.MetaState.{MetaState}
use Rattle.m3_model.specs.declared.rules.Space.{Space}
use Rattle.line_tracks.specs.placement_core.Lawful.{IsLawful}
use Rattle.line_tracks.specs.cluster_members.Steps.{MayName, at_moment, with_space}
use Rattle.line_tracks.proofs.first_cluster_proofs.ListLemmas.{ascends_append}
use Rattle.meta_bytes.specs.States.{AreSpaces, IsMetaState, IsSpaceOf}

-- a name that no namespace has is none of theirs
new_name : (name : List ℕ) (spaces : List Space) → namespace_position name spaces ≡ None → (space : Space) → IsIn spaces space → space.name ≢ name
new_name name [] none space i = absurd i
new_name name (s ∷ spaces) none space i = by (pointwise nat_eq name s.name) refl i (λ none_later later_in. new_name name spaces none_later space later_in)
  where
    later : (o : Option ℕ) → option_map suc o ≡ None → o ≡ None
    later None e = refl
    later (Some n) e = cc

    by : (t : Bool) → pointwise nat_eq name s.name ≡ t → (s ≡ space) ⊎ IsIn spaces space → (namespace_position name spaces ≡ None → IsIn spaces space → space.name ≢ name) → space.name ≢ name
    by true is at rest_so same = absurd (let clash : Some 0 ≡ None = sym (ap (λ b. cond b (Some 0) (option_map suc (namespace_position name spaces))) is) ∙ none in cc)
    by false is (inl here) rest_so same =
        let own : name ≡ s.name = sym same ∙ ap (λ (x : Space). x.name) (sym here) in
        let clash : false ≡ true = sym is ∙ (bytes_eq-Decides name s.name).1 own in
        cc
    by false is (inr rest) rest_so same = rest_so (later (namespace_position name spaces) (sym (ap (λ b. cond b (Some 0) (option_map suc (namespace_position name spaces))) is) ∙ none)) rest same

spaces_with : (spaces : List Space) (space : Space) → AreSpaces spaces → MayName spaces space → IsSpaceOf space → AreSpaces (spaces ++ space ∷ [])
spaces_with spaces space are may of =
    let long = length-append spaces (space ∷ []) in
    let few = may.few in
    record {
      few = omega (arith, long, few);
      each = All-append IsSpaceOf spaces (space ∷ []) are.each (All-cons IsSpaceOf space [] of (All-nil IsSpaceOf));
      distinct = ascends_append (λ (a b : Space). a.name ≢ b.name) spaces (space ∷ []) are.distinct (λ b i. absurd i, tt)
          (λ a b i j. elim j as (λ _. a.name ≢ b.name) [ inl same ↦ λ e. new_name space.name spaces may.new a i (e ∙ ap (λ (x : Space). x.name) (sym same)) | inr none ↦ absurd none ]);
    }

-- one more namespace
pub space_lawful : (state : MetaState) (space : Space) → IsMetaState state → MayName state.rules.spaces space → IsSpaceOf space → IsMetaState (record state { rules = with_space space state.rules })
space_lawful state space was may of = record { moment = was.moment; seed = was.seed; place = was.place; spaces = spaces_with state.rules.spaces space was.spaces may of }

-- another moment
pub moment_lawful : (state : MetaState) (now : ℕ) → IsMetaState state → now < TIME_END → IsMetaState (record state { rules = at_moment now state.rules })
moment_lawful state now was low = record { moment = low; seed = was.seed; place = was.place; spaces = was.spaces }

-- the next placement
pub place_lawful : (state : MetaState) (next : Placement) → IsMetaState state → IsLawful next → IsMetaState (record state { place = next })
place_lawful state next was lawful = record { moment = was.moment; seed = was.seed; place = lawful; spaces = was.spaces }
