use Rattle.std.proofs.Common.{◌≡◌, ℕ, List, [], ◌∷◌, ◌++◌, length, map, take, sym, ap, subst, ◌∙◌, append_assoc}
use Rattle.std.proofs.lemmas.List.{map_push}
use Rattle.commit_log.specs.Segment.{written}
use Rattle.commit_log.specs.Reading.{IsNext, IsFront}
use Rattle.commit_log.proofs.Fronts.{chunk_push, payload_is, end_stands}
use Rattle.commit_log.proofs.FileFronts.{front_bad, front_ends, front_whole}
use Rattle.shard_files.specs.declared.entries.EntryErr.{EntryErr}
use Rattle.shard_files.specs.declared.entries.LogEntry.{LogEntry}
use Rattle.shard_files.specs.Entries.{spelled, IsEntry, MayBreakFrom}
use Rattle.shard_files.specs.Loading.{MayStop}
use Rattle.shard_files.proofs.SpellingLemmas.{within_more}
use Rattle.shard_files.proofs.SegmentStops.{entry_stops, end_stops, passed_on}
use Rattle.shard_files.proofs.segment_entries.read_segment.Goals as goal

pub returns-in_err-entry-clause-err : goal.returns-in_err-entry-clause-err
returns-in_err-entry-clause-err c =
    let d = c.loop-found.invariant.done in
    let bytes = c.as_slice-bytes.result.now in
    let same = c.as_slice-bytes.ensures.value in
    let s = subst (IsNext (map spelled d.0) bytes c.loop-found.at) c.in-Chunk.is d.4 in
    let broken = subst (λ (l : List ℕ). MayBreakFrom c.in-Chunk.from l c.in_err-entry.field-0.0) (payload_is bytes c.loop-found.at c.in-Chunk.from c.in-Chunk.next s) c.in_err-entry.ensures.err in
    passed_on c.from_residual.result c.in_err-entry.field-0.0 (λ (e : EntryErr). (file : List ℕ) → IsFront c.args.front.now.bytes.items c.args.front.now.is_whole file → MayStop file e) c.from_residual.ensures.1
    (λ file f. entry_stops d.0 d.2 bytes file c.args.front.now.is_whole (subst (λ (l : List ℕ). IsFront l c.args.front.now.is_whole file) (sym same) f) c.loop-found.at c.loop-found.invariant.within d.3 c.in-Chunk.from c.in-Chunk.next s c.in_err-entry.field-0.0 broken)

pub loop-found-preserved : goal.loop-found-preserved
loop-found-preserved c =
    let d = c.loop-found.invariant.done in
    let bytes = c.as_slice-bytes.result.now in
    let s = subst (IsNext (map spelled d.0) bytes c.loop-found.at) c.in-Chunk.is d.4 in
    let next = c.in-Chunk.next in
    let e = c.in_ok-entry.entry in
    let one : IsEntry s.payload e = subst (λ (l : List ℕ). IsEntry l e) (payload_is bytes c.loop-found.at c.in-Chunk.from next s) c.in_ok-entry.ensures.ok in
    let pushed : map spelled (d.0 ++ e ∷ []) ≡ map spelled d.0 ++ s.payload ∷ [] = map_push spelled d.0 e ∙ ap (λ (c : List ℕ). map spelled d.0 ++ c ∷ []) (sym one.is) in
    let done : take next bytes ≡ written (map spelled (d.0 ++ e ∷ [])) = chunk_push (map spelled d.0) bytes c.loop-found.at c.in-Chunk.from next s d.3 ∙ ap written (sym pushed) in
    record {
      within = s.stands.within;
      done = (
        d.0 ++ e ∷ [],
        c.in_ok-push.ensures.items ∙ ap (λ (l : List LogEntry). l ++ e ∷ []) d.1 ∙ append_assoc c.args.entries.now.items d.0 (e ∷ []),
        within_more d.0 e d.2 one.within,
        done,
        c.get_chunk-found-in-Chunk.ensures (map spelled (d.0 ++ e ∷ [])) done,
      );
    }

pub returns-in-Bad : goal.returns-in-Bad
returns-in-Bad c =
    let d = c.loop-found.invariant.done in
    let bytes = c.as_slice-bytes.result.now in
    let bad = subst (IsNext (map spelled d.0) bytes c.loop-found.at) c.in-Bad.is d.4 in
    let same = c.as_slice-bytes.ensures.value in
    record {
      ok = tt;
      err = λ file f.
          let g = subst (λ (l : List ℕ). IsFront l c.args.front.now.is_whole file) (sym same) f in
          end_stops d.0 d.2 bytes file c.args.front.now.is_whole g c.loop-found.at c.loop-found.invariant.within d.3 c.in-Bad.at (front_bad bytes file c.args.front.now.is_whole c.in-Bad.at g bad.within bad.stops) bad.none;
    }

pub returns-then-not-front : goal.returns-then-not-front
returns-then-not-front c =
    let d = c.loop-found.invariant.done in
    let bytes = c.as_slice-bytes.result.now in
    let same = c.as_slice-bytes.ensures.value in
    let ends = end_stands (map spelled d.0) bytes c.loop-found.at c.loop-found.found d.4 c.in_default.not-Chunk c.in_default-found.not-Bad in
    record {
      ok = tt;
      err = λ file f.
          let g = subst (λ (l : List ℕ). IsFront l c.args.front.now.is_whole file) (sym same) f in
          end_stops d.0 d.2 bytes file c.args.front.now.is_whole g c.loop-found.at c.loop-found.invariant.within d.3 (length bytes) (front_ends (map spelled d.0) bytes file c.args.front.now.is_whole c.loop-found.at g c.if-not-front.true ends) ends.none;
    }

pub returns : goal.returns
returns c =
    let d = c.loop-found.invariant.done in
    let bytes = c.as_slice-bytes.result.now in
    let same = c.as_slice-bytes.ensures.value in
    let ends = end_stands (map spelled d.0) bytes c.loop-found.at c.loop-found.found d.4 c.in_default.not-Chunk c.in_default-found.not-Bad in
    record {
      ok = λ file f.
          let w = front_whole (map spelled d.0) bytes file c.args.front.now.is_whole c.loop-found.at (subst (λ (l : List ℕ). IsFront l c.args.front.now.is_whole file) (sym same) f) c.if-not-front.false ends in
          record { entries = d.0; is = d.1; within = d.2; long = w.0; reads = w.1 };
      err = tt;
    }
