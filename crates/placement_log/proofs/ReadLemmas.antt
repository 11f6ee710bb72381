-- What is read of a log of states, and why none is.
use Rattle.std.proofs.Common.{◌≡◌, inl, inr, ℕ, ◌+◌, ◌<◌, ◌≤◌, List, [], ◌∷◌, ◌++◌, length, take, drop, get_or, map, Bool, Option, unwrap_or, Result, IsErrAnd, IfErr, refl, sym, ap, subst, ◌∙◌, arith, All}
use Rattle.std.proofs.lemmas.List.{take-append-drop, take_all, map-append, length-drop, length-take}
use Rattle.std.proofs.lemmas.List.Elements.{All-nil, All-append}
use Rattle.std.proofs.lemmas.Result.{err_from_is_err_and}
use Rattle.sha2.specs.Sha256.{sha256}
use Rattle.sha2.proofs.Facts256.{length-sha256}
use Rattle.m3_model.specs.declared.rules.MetaState.{MetaState}
use Rattle.m3_model.specs.Members.{IsIn}
use Rattle.m3_model.proofs.MemberLemmas.{IsIn-append_left, IsIn-append_right, IsIn-map, IsIn-push}
use Rattle.m3_outside.specs.Files.{Files}
use Rattle.placement_core.proofs.ListLemmas.{each-from_All}
use Rattle.wire_bytes.specs.Fields.{StopsAt}
use Rattle.log_chunks.proofs.Fronts.{chunk_push, reads_behind}
use Rattle.commit_log.specs.Contents.{numbers, PartsHold, segment_bytes}
use Rattle.commit_log.specs.Segment.{written, ReadsChunks, IsSegment}
use Rattle.commit_log.specs.Reading.{ChunkStands, IsFront}
use Rattle.commit_log.proofs.FileFronts.{has_chunks}
use Rattle.commit_log.proofs.Parts.{parts_more, parts_split}
use Rattle.commit_log.proofs.ReadLemmas.{one_more, split_at}
use Rattle.meta_bytes.specs.States.{state_bytes, IsMetaState, IsStateOf, IsNoState}
use Rattle.placement_log.specs.States.{payload_bytes, IsPayload, IsNoPayload, last_after}
use Rattle.placement_log.specs.MetaHolds.{MetaHolds}
use Rattle.placement_log.specs.MetaLaws.{DamagedHoldNothing}
use Rattle.placement_log.specs.Damage.{MayBreakFrom, FormBreaks, Short, Fields, Disagree, DigestsDiffer, ReadsStates, StatesStand, front_of, ChunkBreaks, GrammarBreaks, MayStop, in_segment, MayBeBroken, FindsStates, MayBeDamaged}
use Rattle.placement_log.specs.declared.open_err.OpenErr.{OpenErr}
use Rattle.placement_log.specs.declared.open_err.OpenErr.TheVariants as failures
use Rattle.placement_log.specs.declared.payload.PayloadErr.{PayloadErr}
use Rattle.placement_log.specs.declared.payload.PayloadErr.TheVariants as refused
use Rattle.placement_log.proofs.LastLemmas.{last_append, payload_long, payload_behind, payload_head}

-- ---- payloads

pub short_none : (chunk : List ℕ) → length chunk < 32 → IsNoPayload chunk
short_none chunk lt s h = let l = ap length h.is ∙ payload_long s in omega (arith, l, lt)

pub digest_none : (chunk : List ℕ) → ¬ (take 32 chunk ≡ sha256 (drop 32 chunk)) → IsNoPayload chunk
digest_none chunk differ s h = differ (ap (take 32) h.is ∙ payload_head s ∙ ap sha256 (sym (ap (drop 32) h.is ∙ payload_behind s)))

pub state_none : (chunk : List ℕ) → IsNoState (drop 32 chunk) → IsNoPayload chunk
state_none chunk none s h = none s (record { lawful = h.state; is = ap (drop 32) h.is ∙ payload_behind s })

pub payload_is : (chunk : List ℕ) (s : MetaState) → take 32 chunk ≡ sha256 (drop 32 chunk) → IsStateOf (drop 32 chunk) s → IsPayload chunk s
payload_is chunk s same h = record {
  state = h.lawful;
  is = sym (take-append-drop 32 chunk) ∙ ap (λ (l : List ℕ). l ++ drop 32 chunk) (same ∙ ap sha256 h.is) ∙ ap (λ (l : List ℕ). sha256 (state_bytes s) ++ l) h.is;
}

-- a digest that is another one
pub digests_differ : (chunk kept found : List ℕ) → 32 ≤ length chunk → kept ≡ take 32 chunk → found ≡ sha256 (drop 32 chunk) → (kept ≡ found → ⊥) → IsNoPayload chunk × DigestsDiffer chunk kept found
digests_differ chunk kept found long kept_is found_is differ =
    (digest_none chunk (λ same. differ (kept_is ∙ same ∙ sym found_is)), record { long = long; kept_is = kept_is; found_is = found_is; differ = differ })

-- no offset is behind the chunk's end
pub form_within : (chunk : List ℕ) (at : ℕ) → FormBreaks chunk at → at ≤ length chunk
form_within chunk at (Short lt is) = omega (arith, is)
form_within chunk at (Fields le same stops) =
    let in_rest = stops.inside in
    let rest = length-drop 32 chunk in
    let head : length (take 32 chunk) ≡ 32 = ap length same ∙ length-sha256 (drop 32 chunk) in
    let long = length-take 32 chunk in
    omega (arith, le, in_rest, rest, head, long)
form_within chunk at (Disagree long same has is) = omega (arith, is)

-- ---- a segment

module _ (front file : List ℕ) (whole : Bool) (f : IsFront front whole file) (at : ℕ) (ss : List MetaState) (are : All IsMetaState ss) (done : take at front ≡ written (map payload_bytes ss)) (within : at ≤ length front) where
  stand : StatesStand front at
  stand = record { states = ss; are = are; front = done; within = within }

  -- a whole chunk that is no payload
  pub chunk_breaks : (from next : ℕ) (s : ChunkStands front at from next) (e : PayloadErr) → MayBreakFrom from s.payload e → MayStop file e
  chunk_breaks from next s refused.Memory b = tt
  chunk_breaks from next s (refused.Digest kept found) b = subst (λ (l : List ℕ). ChunkBreaks l (refused.Digest kept found)) f.is (record { at = at; from = from; next = next; before = stand; stands = s; broken = b })
  chunk_breaks from next s (refused.Form offset) b = inl (subst (λ (l : List ℕ). ChunkBreaks l (refused.Form offset)) f.is (record { at = at; from = from; next = next; before = stand; stands = s; broken = b }))

  -- no whole chunk, and bytes that stop to be a segment
  pub grammar_breaks : (offset : ℕ) → ((from next : ℕ) → ¬ (ChunkStands front at from next)) → StopsAt IsSegment file offset → MayStop file (refused.Form offset)
  grammar_breaks offset none stops = inr (subst (λ (l : List ℕ). GrammarBreaks l file offset) f.is (record { at = at; before = stand; none = none; stops = stops }))

-- of the segment of this number
pub broken_in : (number : ℕ) (files : Files) (e : PayloadErr) → MayStop (segment_bytes number files) e → MayBeBroken number files (in_segment number e)
broken_in number files refused.Memory stop = tt
broken_in number files (refused.Digest kept found) stop = (refl, stop)
broken_in number files (refused.Form at) stop = (refl, stop)

-- ---- segments

pub found_none : (files : Files) (old : Option MetaState) → FindsStates [] files old old
found_none files old = record { states = []; are = All-nil IsMetaState; is = refl; has = refl }

pub found_next : (ns : List ℕ) (i n : ℕ) (files : Files) (a b c : Option MetaState) → i < length ns → n ≡ get_or ns i 0 → FindsStates (take i ns) files a b → ReadsStates (segment_bytes n files) b c → FindsStates (take (i + 1) ns) files a c
found_next ns i n files a b c lt is found reads = record {
  states = found.states ++ reads.states;
  are = All-append IsMetaState found.states reads.states found.are reads.are;
  is = reads.is ∙ ap (λ (o : Option MetaState). last_after o reads.states) found.is ∙ sym (last_append a found.states reads.states);
  has = subst (λ (l : List ℕ). PartsHold l files (map payload_bytes (found.states ++ reads.states))) (sym (one_more ns i n lt is))
      (subst (PartsHold (take i ns ++ n ∷ []) files) (sym (map-append payload_bytes found.states reads.states))
      (parts_more (take i ns) n files (map payload_bytes found.states) (map payload_bytes reads.states) found.has (has_chunks n files (map payload_bytes reads.states) reads.long reads.reads)));
}

pub found_broken : (ns : List ℕ) (i n : ℕ) (files : Files) (a b : Option MetaState) → ns ≡ numbers files → i < length ns → n ≡ get_or ns i 0 → FindsStates (take i ns) files a b → (e : OpenErr) → MayBeBroken n files e → MayBeDamaged files e
found_broken ns i n files a b all lt is found failures.Disk broken = tt
found_broken ns i n files a b all lt is found failures.Memory broken = tt
found_broken ns i n files a b all lt is found (failures.Digest m kept d) broken = record { before = take i ns; number = n; after = drop (i + 1) ns; split = sym all ∙ split_at ns i n lt is; states = found.states; are = found.are; whole = found.has; broken = broken }
found_broken ns i n files a b all lt is found (failures.Form m at) broken = record { before = take i ns; number = n; after = drop (i + 1) ns; split = sym all ∙ split_at ns i n lt is; states = found.states; are = found.are; whole = found.has; broken = broken }

-- ---- damaged files hold nothing

-- each of these chunks is a payload
abbrev ArePayloads : List (List ℕ) → Type 0
ArePayloads cs = (c : List ℕ) → IsIn cs c → (s : MetaState) × IsPayload c s

pub no_payload : (from : ℕ) (chunk : List ℕ) (e : PayloadErr) → (e ≡ refused.Memory → ⊥) → MayBreakFrom from chunk e → IsNoPayload chunk
no_payload from chunk refused.Memory other b = absurd (other refl)
no_payload from chunk (refused.Digest kept found) other b = b.0
no_payload from chunk (refused.Form at) other b = b.1

-- a segment of payloads has no chunk that is none
no_chunk : (cs : List (List ℕ)) (file : List ℕ) (e : PayloadErr) → (e ≡ refused.Memory → ⊥) → ArePayloads cs → length file ≡ 65536 → ReadsChunks cs file → ChunkBreaks (front_of file) e → ⊥
no_chunk cs file e other are long reads broken =
    let front : front_of file ≡ file = take_all 65536 file (omega (arith, long)) in
    by (subst (λ (l : List ℕ). ChunkBreaks l e) front broken)
  where
    by : ChunkBreaks file e → ⊥
    by b =
        let s = b.stands in
        let ps = map payload_bytes (b.before).states in
        let pushed = chunk_push ps file b.at b.from b.next s (b.before).front in
        let split : file ≡ written (ps ++ s.payload ∷ []) ++ drop b.next file = sym (take-append-drop b.next file) ∙ ap (λ (l : List ℕ). l ++ drop b.next file) pushed in
        let all = reads_behind (ps ++ s.payload ∷ []) cs (drop b.next file) (let e = ap length split in omega (arith, e, long)) (subst (ReadsChunks cs) split reads) in
        let m : IsIn cs s.payload = subst (λ (l : List (List ℕ)). IsIn l s.payload) (sym all.1) (IsIn-append_left (ps ++ s.payload ∷ []) all.0 s.payload (IsIn-push ps s.payload)) in
        let p = are s.payload m in
        no_payload b.from s.payload e other b.broken p.0 p.1

no_stop : (cs : List (List ℕ)) (file : List ℕ) (e : PayloadErr) → (e ≡ refused.Memory → ⊥) → ArePayloads cs → length file ≡ 65536 → ReadsChunks cs file → MayStop file e → ⊥
no_stop cs file refused.Memory other are long reads m = other refl
no_stop cs file (refused.Digest kept found) other are long reads m = no_chunk cs file (refused.Digest kept found) other are long reads m
no_stop cs file (refused.Form offset) other are long reads (inl b) = no_chunk cs file (refused.Form offset) other are long reads b
no_stop cs file (refused.Form offset) other are long reads (inr g) = (g.stops).none (record { chunks = cs; long = long; reads = reads })

holds_no_stop : (last : Option MetaState) (files : Files) (before : List ℕ) (number : ℕ) (after : List ℕ) (e : PayloadErr) → (e ≡ refused.Memory → ⊥) → numbers files ≡ before ++ number ∷ after → MetaHolds last files → MayStop (segment_bytes number files) e → ⊥
holds_no_stop last files before number after e other split h stop =
    let cs = map payload_bytes h.states in
    let parts = parts_split before (number ∷ after) files cs (subst (λ (l : List ℕ). PartsHold l files cs) split h.log) in
    let back = parts.of_back in
    let own = back.has in
    let is : segment_bytes number files ≡ own.file = ap (λ (o : Option (List ℕ)). unwrap_or o []) own.there in
    let each : ArePayloads back.first = λ c m.
    (let within : IsIn cs c = subst (λ (l : List (List ℕ)). IsIn l c) (sym (parts.split ∙ ap (λ (l : List (List ℕ)). parts.front ++ l) back.split)) (IsIn-append_right parts.front (back.first ++ back.rest) c (IsIn-append_left back.first back.rest c m)) in
    let s = IsIn-map payload_bytes h.states c within in
    (s.0, record { state = each-from_All IsMetaState h.states h.are s.0 s.1; is = sym s.2 })) in
    no_stop back.first own.file e other each own.size own.reads (subst (λ (l : List ℕ). MayStop l e) is stop)

pub damaged_hold_nothing : DamagedHoldNothing
damaged_hold_nothing = record {
  digest = λ files number kept found broken last h. holds_no_stop last files broken.before broken.number broken.after (refused.Digest kept found) (λ e. cc) broken.split h (broken.broken).1;
  form = λ files number at broken last h. holds_no_stop last files broken.before broken.number broken.after (refused.Form at) (λ e. cc) broken.split h (broken.broken).1;
}

-- an error that is passed on
pub passed_on : {T E : Type 0} (r : Result T E) (x : E) (P : E → Type 0) → IsErrAnd r (λ e. e ≡ x) → P x → IfErr r P
passed_on {T} {E} r x P is p = let q = err_from_is_err_and r is in subst (λ (s : Result T E). IfErr s P) (sym q.1) (subst P (sym q.2) p)
