use Rattle.std.proofs.Common.{◌≡◌, ℕ, List, [], ◌∷◌, ◌++◌, length, map, take, sym, ap, subst, ◌∙◌}
use Rattle.std.proofs.lemmas.List.{map_push}
use Rattle.std.proofs.lemmas.List.Elements.{All-push}
use Rattle.commit_log.specs.Segment.{written}
use Rattle.commit_log.specs.Reading.{IsNext, IsFront}
use Rattle.log_chunks.proofs.Fronts.{chunk_push, payload_is, end_stands}
use Rattle.commit_log.proofs.FileFronts.{front_bad, front_ends, front_whole}
use Rattle.meta_bytes.specs.States.{IsMetaState}
use Rattle.placement_log.specs.declared.payload.PayloadErr.{PayloadErr}
use Rattle.placement_log.specs.States.{MayBeState, payload_bytes, IsPayload}
use Rattle.placement_log.specs.Damage.{MayBreakFrom, MayStop}
use Rattle.placement_log.proofs.LastLemmas.{last_push}
use Rattle.placement_log.proofs.ReadLemmas.{chunk_breaks, grammar_breaks, passed_on}
use Rattle.placement_log.proofs.segment.read_segment.Goals as goal

pub returns-in_err-state-clause-err : goal.returns-in_err-state-clause-err
returns-in_err-state-clause-err c =
    let d = c.loop-found.invariant.done in
    let bytes = c.as_slice-bytes.result.now in
    let same = c.as_slice-bytes.ensures.value in
    let s = subst (IsNext (map payload_bytes d.0) bytes c.loop-found.at) c.in-Chunk.is d.4 in
    let broken = subst (λ (l : List ℕ). MayBreakFrom c.in-Chunk.from l c.in_err-state.field-0.0) (payload_is bytes c.loop-found.at c.in-Chunk.from c.in-Chunk.next s) c.in_err-state.ensures.err in
    passed_on c.from_residual.result c.in_err-state.field-0.0 (λ (e : PayloadErr). (file : List ℕ) → IsFront c.args.front.now.bytes.items c.args.front.now.is_whole file → MayStop file e) c.from_residual.ensures.1
    (λ file f. chunk_breaks bytes file c.args.front.now.is_whole (subst (λ (l : List ℕ). IsFront l c.args.front.now.is_whole file) (sym same) f) c.loop-found.at d.0 d.2 d.3 c.loop-found.invariant.within c.in-Chunk.from c.in-Chunk.next s c.in_err-state.field-0.0 broken)

pub loop-found-preserved : goal.loop-found-preserved
loop-found-preserved c =
    let d = c.loop-found.invariant.done in
    let bytes = c.as_slice-bytes.result.now in
    let s = subst (IsNext (map payload_bytes d.0) bytes c.loop-found.at) c.in-Chunk.is d.4 in
    let next = c.in-Chunk.next in
    let state = c.in_ok-state.state in
    let one : IsPayload s.payload state = subst (λ (l : List ℕ). IsPayload l state) (payload_is bytes c.loop-found.at c.in-Chunk.from next s) c.in_ok-state.ensures.ok in
    let pushed : map payload_bytes (d.0 ++ state ∷ []) ≡ map payload_bytes d.0 ++ s.payload ∷ [] = map_push payload_bytes d.0 state ∙ ap (λ (c : List ℕ). map payload_bytes d.0 ++ c ∷ []) (sym one.is) in
    let done : take next bytes ≡ written (map payload_bytes (d.0 ++ state ∷ [])) = chunk_push (map payload_bytes d.0) bytes c.loop-found.at c.in-Chunk.from next s d.3 ∙ ap written (sym pushed) in
    record {
      within = s.stands.within;
      done = (
        d.0 ++ state ∷ [],
        c.replace.ensures.after ∙ sym (last_push c.args.last.now d.0 state),
        All-push IsMetaState d.0 state d.2 one.state,
        done,
        c.get_chunk-found-in-Chunk.ensures (map payload_bytes (d.0 ++ state ∷ [])) done,
      );
      state = λ s. subst MayBeState (sym c.replace.ensures.after) one.state;
    }

pub returns-in-Bad : goal.returns-in-Bad
returns-in-Bad c =
    let d = c.loop-found.invariant.done in
    let bytes = c.as_slice-bytes.result.now in
    let bad = subst (IsNext (map payload_bytes d.0) bytes c.loop-found.at) c.in-Bad.is d.4 in
    let same = c.as_slice-bytes.ensures.value in
    record {
      ok = tt;
      err = λ file f.
          let g = subst (λ (l : List ℕ). IsFront l c.args.front.now.is_whole file) (sym same) f in
          grammar_breaks bytes file c.args.front.now.is_whole g c.loop-found.at d.0 d.2 d.3 c.loop-found.invariant.within c.in-Bad.at bad.none (front_bad bytes file c.args.front.now.is_whole c.in-Bad.at g bad.within bad.stops);
      state = c.loop-found.invariant.state;
    }

pub returns-then-not-front : goal.returns-then-not-front
returns-then-not-front c =
    let d = c.loop-found.invariant.done in
    let bytes = c.as_slice-bytes.result.now in
    let same = c.as_slice-bytes.ensures.value in
    let ends = end_stands (map payload_bytes d.0) bytes c.loop-found.at c.loop-found.found d.4 c.in_default.not-Chunk c.in_default-found.not-Bad in
    record {
      ok = tt;
      err = λ file f.
          let g = subst (λ (l : List ℕ). IsFront l c.args.front.now.is_whole file) (sym same) f in
          grammar_breaks bytes file c.args.front.now.is_whole g c.loop-found.at d.0 d.2 d.3 c.loop-found.invariant.within (length bytes) ends.none (front_ends (map payload_bytes d.0) bytes file c.args.front.now.is_whole c.loop-found.at g c.if-not-front.true ends);
      state = c.loop-found.invariant.state;
    }

pub returns : goal.returns
returns c =
    let d = c.loop-found.invariant.done in
    let bytes = c.as_slice-bytes.result.now in
    let same = c.as_slice-bytes.ensures.value in
    let ends = end_stands (map payload_bytes d.0) bytes c.loop-found.at c.loop-found.found d.4 c.in_default.not-Chunk c.in_default-found.not-Bad in
    record {
      ok = λ file f.
          let w = front_whole (map payload_bytes d.0) bytes file c.args.front.now.is_whole c.loop-found.at (subst (λ (l : List ℕ). IsFront l c.args.front.now.is_whole file) (sym same) f) c.if-not-front.false ends in
          record { states = d.0; are = d.2; is = d.1; long = w.0; reads = w.1 };
      err = tt;
      state = c.loop-found.invariant.state;
    }
