-- Payloads of states, and the last of some states.
use Rattle.std.proofs.Common.{◌≡◌, suc, ◌+◌, ◌≤◌, List, [], ◌∷◌, ◌++◌, length, take, drop, map, Option, Some, None, refl, sym, ap, ◌∙◌, arith, length-append, All}
use Rattle.std.proofs.lemmas.List.{take_at, drop_at}
use Rattle.sha2.specs.Sha256.{sha256}
use Rattle.sha2.proofs.Facts256.{length-sha256}
use Rattle.m3_model.specs.declared.rules.MetaState.{MetaState}
use Rattle.commit_log.specs.Contents.{numbers}
use Rattle.commit_log.proofs.Parts.{parts_one}
use Rattle.meta_bytes.specs.States.{state_bytes, IsMetaState}
use Rattle.meta_bytes.proofs.LimitLemmas.{in_form}
use Rattle.meta_bytes.proofs.OneLemmas.{states_are_one}
use Rattle.placement_log.specs.States.{payload_bytes, last_after}
use Rattle.placement_log.specs.MetaLaws.{LastIsOne}

pub last_push : (old : Option MetaState) (ss : List MetaState) (s : MetaState) → last_after old (ss ++ s ∷ []) ≡ Some s
last_push old [] s = refl
last_push old (t ∷ ss) s = last_push (Some t) ss s

pub last_append : (old : Option MetaState) (ss ts : List MetaState) → last_after old (ss ++ ts) ≡ last_after (last_after old ss) ts
last_append old [] ts = refl
last_append old (s ∷ ss) ts = last_append (Some s) ss ts

pub payload_long : (s : MetaState) → length (payload_bytes s) ≡ 32 + length (state_bytes s)
payload_long s = let a = length-append (sha256 (state_bytes s)) (state_bytes s) in let d = length-sha256 (state_bytes s) in omega (arith, a, d)

pub payload_behind : (s : MetaState) → drop 32 (payload_bytes s) ≡ state_bytes s
payload_behind s = drop_at (sha256 (state_bytes s)) (state_bytes s) 32 (length-sha256 (state_bytes s))

pub payload_head : (s : MetaState) → take 32 (payload_bytes s) ≡ sha256 (state_bytes s)
payload_head s = take_at (sha256 (state_bytes s)) (state_bytes s) 32 (length-sha256 (state_bytes s))

pub payload_fits : (s : MetaState) → IsMetaState s → 5 + length (payload_bytes s) ≤ 65536
payload_fits s h = let l = payload_long s in let short = (in_form s h).short in omega (arith, l, short)

payload_one : (s t : MetaState) → IsMetaState s → IsMetaState t → payload_bytes s ≡ payload_bytes t → s ≡ t
payload_one s t p q e = states_are_one s t (in_form s p).fits (in_form t q).fits (sym (payload_behind s) ∙ ap (drop 32) e ∙ payload_behind t)

payloads_one : (ss ts : List MetaState) → All IsMetaState ss → All IsMetaState ts → map payload_bytes ss ≡ map payload_bytes ts → ss ≡ ts
payloads_one [] [] p q e = refl
payloads_one [] (t ∷ ts) p q e = cc
payloads_one (s ∷ ss) [] p q e = cc
payloads_one (s ∷ ss) (t ∷ ts) p q e =
    let head : payload_bytes s ≡ payload_bytes t = cc in
    let tail : map payload_bytes ss ≡ map payload_bytes ts = cc in
    let one = payload_one s t (p 0 s (omega arith)) (q 0 t (omega arith)) head in
    let rest = payloads_one ss ts (λ i d lt. p (suc i) d (omega (arith, lt))) (λ i d lt. q (suc i) d (omega (arith, lt))) tail in
    λ i. one i ∷ rest i

pub last_is_one : LastIsOne
last_is_one one other files a b =
    let same = payloads_one a.states b.states a.are b.are (parts_one (numbers files) files (map payload_bytes a.states) (map payload_bytes b.states) a.log b.log) in
    a.last_is ∙ ap (last_after None) same ∙ sym b.last_is
