use Rattle.std.proofs.Common.{◌<◌, ℕ, List, [], ◌∷◌, ◌++◌, length, refl, sym, ap, subst, ◌∙◌, append_assoc}
use Rattle.log_chunks.specs.Fields.{StopsAt}
use Rattle.commit_log.specs.Segment.{IsSegment}
use Rattle.commit_log.specs.Reading.{IsNext, IsFront}
use Rattle.log_chunks.proofs.Fronts.{chunk_push, payload_is, end_stands}
use Rattle.commit_log.proofs.FileFronts.{front_bad, front_ends, front_whole}
use Rattle.commit_log.proofs.segment.read_chunks.Goals as goal

pub loop-found-preserved : goal.loop-found-preserved
loop-found-preserved c =
    let d = c.loop-found.invariant.done in
    let bytes = c.as_slice-bytes.result.now in
    let s = subst (IsNext d.0 bytes c.loop-found.at) c.in-Chunk.is d.3 in
    let next = c.in-Chunk.next in
    let within = s.stands.within in
    let done = chunk_push d.0 bytes c.loop-found.at c.in-Chunk.from next s d.2 in
    record {
      within = within;
      done = (
        d.0 ++ s.payload ∷ [],
        c.in_ok-push.ensures.items ∙ ap (λ (l : List (List ℕ)). l ++ c.from_vec.result ∷ []) d.1 ∙ append_assoc c.args.chunks.now.items d.0 (c.from_vec.result ∷ [])
            ∙ ap (λ (x : List ℕ). c.args.chunks.now.items ++ (d.0 ++ x ∷ [])) (c.from_vec.ensures ∙ c.in_ok-from_slice.ensures.items ∙ payload_is bytes c.loop-found.at c.in-Chunk.from next s),
        done,
        c.get_chunk-found-in-Chunk.ensures (d.0 ++ s.payload ∷ []) done,
      );
    }

pub returns-in-Bad : goal.returns-in-Bad
returns-in-Bad c =
    let d = c.loop-found.invariant.done in
    let bytes = c.as_slice-bytes.result.now in
    let bad = subst (IsNext d.0 bytes c.loop-found.at) c.in-Bad.is d.3 in
    let same = c.as_slice-bytes.ensures.value in
    record {
      ok = tt;
      no_fault = λ e. absurd (cc);
      err = λ file f. (refl, front_bad c.args.front.now.bytes.items file c.args.front.now.is_whole c.in-Bad.at f (subst (λ (l : List ℕ). c.in-Bad.at < length l) same bad.within) (subst (λ (l : List ℕ). StopsAt IsSegment l c.in-Bad.at) same bad.stops));
    }

pub returns-then-not-front : goal.returns-then-not-front
returns-then-not-front c =
    let d = c.loop-found.invariant.done in
    let bytes = c.as_slice-bytes.result.now in
    let same = c.as_slice-bytes.ensures.value in
    let ends = end_stands d.0 bytes c.loop-found.at c.loop-found.found d.3 c.in_default.not-Chunk c.in_default-found.not-Bad in
    record {
      ok = tt;
      no_fault = λ e. absurd (cc);
      err = λ file f. (refl, front_ends d.0 bytes file c.args.front.now.is_whole c.loop-found.at (subst (λ (l : List ℕ). IsFront l c.args.front.now.is_whole file) (sym same) f) c.if-not-front.true ends);
    }

pub returns : goal.returns
returns c =
    let d = c.loop-found.invariant.done in
    let bytes = c.as_slice-bytes.result.now in
    let same = c.as_slice-bytes.ensures.value in
    let ends = end_stands d.0 bytes c.loop-found.at c.loop-found.found d.3 c.in_default.not-Chunk c.in_default-found.not-Bad in
    record {
      ok = λ file f.
          let w = front_whole d.0 bytes file c.args.front.now.is_whole c.loop-found.at (subst (λ (l : List ℕ). IsFront l c.args.front.now.is_whole file) (sym same) f) c.if-not-front.false ends in
          record { chunks = d.0; is = d.1; long = w.0; reads = w.1 };
      no_fault = λ e. absurd (cc);
      err = tt;
    }
