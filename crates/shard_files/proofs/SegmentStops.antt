-- The first offset at which a segment stops to be one of entries, found a chunk at a time.
use Rattle.std.proofs.Common.{◌≡◌, ◌⊎◌, inl, inr, ℕ, suc, ◌+◌, ◌-◌, ◌≤◌, List, [], ◌∷◌, ◌++◌, length, take, drop, map, Bool, Result, IsErrAnd, IfErr, refl, sym, ap, subst, ◌∙◌, arith, append_assoc, length-append, length-take}
use Rattle.std.proofs.lemmas.List.{drop_at, drop-drop, take-append-drop, take-append-le, take-take, length-take-le, take_at}
use Rattle.std.proofs.lemmas.Bool.{cases_lt}
use Rattle.std.proofs.lemmas.Result.{err_from_is_err_and}
use Rattle.byteorder.specs.Endian.{big_bytes}
use Rattle.commit_log.specs.m3_model.Members.{IsIn}
use Rattle.commit_log.proofs.m3_model_proofs.MemberLemmas.{IsIn-map}
use Rattle.commit_log.specs.wire_bytes.Fields.{Begins, StopsAt}
use Rattle.commit_log.specs.wire_bytes.Entries.{AnEntry}
use Rattle.commit_log.proofs.wire_bytes_proofs.FieldLemmas.{begins_take}
use Rattle.commit_log.proofs.wire_bytes_proofs.StopLemmas.{stops_one}
use Rattle.commit_log.specs.Segment.{chunk_bytes, written, IsSegment}
use Rattle.commit_log.specs.Reading.{ChunkStands, IsFront}
use Rattle.commit_log.proofs.Chunks.{written_push}
use Rattle.commit_log.proofs.Fronts.{length_chunk, chunk_push, chunks_fit}
use Rattle.commit_log.proofs.LawLemmas.{same_chunk}
use Rattle.shard_files.specs.declared.entries.LogEntry.{LogEntry}
use Rattle.shard_files.specs.declared.entries.EntryErr.{EntryErr}
use Rattle.shard_files.specs.declared.entries.EntryErr.TheVariants as refused
use Rattle.shard_files.specs.Entries.{spelled, AreWithin, MayBreakFrom}
use Rattle.shard_files.specs.Loading.{MayStop}
use Rattle.shard_files.specs.Damage.{EntryStops, SegmentStops, FirstStop}
use Rattle.shard_files.proofs.FirstDamageLemmas.{within_one}
use Rattle.shard_files.proofs.SpellingLemmas.{bytes_are}

-- behind these chunks stands one more: the one that is no entry, or one before it
record Behind (cs before : List (List ℕ)) (chunk y : List ℕ) (room : ℕ) : Type 0 where
  pub d : List ℕ
  pub r : List ℕ
  pub stands : y ≡ chunk_bytes d ++ r
  pub inside : length (written cs) + (5 + length d) ≤ room
  pub order : ((d ≡ chunk) × (length (written before) ≡ length (written cs))) ⊎ (length (written cs) + (5 + length d) ≤ length (written before))

long_written : (c : List ℕ) (cs : List (List ℕ)) → length (written (c ∷ cs)) ≡ 5 + length c + length (written cs)
long_written c cs = length-append (chunk_bytes c) (written cs) ∙ ap (λ (n : ℕ). n + length (written cs)) (length_chunk c)

behind : (cs before : List (List ℕ)) (chunk y rest : List ℕ) (room : ℕ) → ((c : List ℕ) → IsIn cs c → AnEntry c) → ¬ (AnEntry chunk) → written cs ++ y ≡ written before ++ (chunk_bytes chunk ++ rest)
    → length (written before) + (5 + length chunk) ≤ room → room ≤ 65536 → length (written cs) ≤ 65536 → Behind cs before chunk y room
behind [] [] chunk y rest room all other same le fits short = record { d = chunk; r = rest; stands = same; inside = omega (arith, le); order = inl (refl, refl) }
behind [] (b ∷ bs) chunk y rest room all other same le fits short =
    let l = long_written b bs in
    record { d = b; r = written bs ++ (chunk_bytes chunk ++ rest); stands = same ∙ append_assoc (chunk_bytes b) (written bs) (chunk_bytes chunk ++ rest); inside = omega (arith, le, l); order = inr (omega (arith, l)) }
behind (c ∷ cs) [] chunk y rest room all other same le fits short =
    let l = long_written c cs in
    let head = same_chunk c chunk (written cs ++ y) rest (omega (arith, l, short)) (omega (arith, le, fits)) (sym (append_assoc (chunk_bytes c) (written cs) y) ∙ same) in
    absurd (other (subst AnEntry head.0 (all c (inl refl))))
behind (c ∷ cs) (b ∷ bs) chunk y rest room all other same le fits short =
    let l = long_written c cs in
    let k = long_written b bs in
    let head = same_chunk c b (written cs ++ y) (written bs ++ (chunk_bytes chunk ++ rest)) (omega (arith, l, short)) (omega (arith, le, fits, k))
    (sym (append_assoc (chunk_bytes c) (written cs) y) ∙ same ∙ append_assoc (chunk_bytes b) (written bs) (chunk_bytes chunk ++ rest)) in
    let e = ap length head.0 in
    let later = behind cs bs chunk y rest (room - (5 + length b)) (λ x m. all x (inr m)) other head.1 (omega (arith, le, k)) (omega (arith, fits)) (omega (arith, l, short)) in
    let i = later.inside in
    record {
      d = later.d;
      r = later.r;
      stands = later.stands;
      inside = omega (arith, i, l, k, e, le);
      order = elim later.order [
        | inl o ↦ (let p = o.1 in inl (o.0, omega (arith, p, l, k, e)))
        | inr o ↦ inr (omega (arith, o, l, k, e))
      ];
    }

-- no segment stops within whole chunks for which it has room
grammar_behind : (cs : List (List ℕ)) (z file : List ℕ) (other : ℕ) → file ≡ written cs ++ z → length (written cs) ≤ 65536 → StopsAt IsSegment file other → length (written cs) ≤ other
grammar_behind cs z file other split le s = elim (cases_lt other (length (written cs))) [
  | inl lt ↦ absurd (
      let long = ap length split ∙ length-append (written cs) z in
      let cut : take (suc other) file ≡ take (suc other) (written cs) = ap (take (suc other)) split ∙ take-append-le (suc other) (written cs) z lt in
      s.stops (omega (arith, lt, long)) (subst (Begins IsSegment) (sym cut) (begins_take IsSegment (suc other) (written cs) (chunks_fit cs le))))
  | inr ge ↦ ge
]

module _ (es : List LogEntry) (within : AreWithin es) (front file : List ℕ) (whole : Bool) (f : IsFront front whole file) (at : ℕ) (inside : at ≤ length front) (done : take at front ≡ written (map spelled es)) where
  abbrev cs : List (List ℕ)
  cs = map spelled es

  entries : (c : List ℕ) → IsIn cs c → AnEntry c
  entries c m = let e = IsIn-map spelled es c m in subst AnEntry e.2 (bytes_are e.0 (within_one es e.0 within e.1))

  offset : length (written cs) ≡ at
  offset = sym (ap length done) ∙ length-take-le at front inside

  front_long : length front ≤ 65536
  front_long = (let l = ap length f.is in let t = length-take 65536 file in omega (arith, l, t))

  front_take : (k : ℕ) → k ≤ length front → take k front ≡ take k file
  front_take k le = ap (take k) f.is ∙ take-take k 65536 file (let l = front_long in omega (arith, le, l))

  split : file ≡ written cs ++ drop at file
  split = sym (take-append-drop at file) ∙ ap (λ (l : List ℕ). l ++ drop at file) (sym (front_take at inside) ∙ done)

  behind_stop : (other : ℕ) (t : EntryStops file other) → Behind cs t.before t.chunk (drop at file) 65536
  behind_stop other t =
      let l = length-append (written t.before) (chunk_bytes t.chunk) in
      let k = length_chunk t.chunk in
      let i = t.inside in
      let p = offset in
      let q = front_long in
      behind cs t.before t.chunk (drop at file) t.rest 65536 entries t.stops.none (sym split ∙ t.split) (omega (arith, l, k, i)) (omega arith) (omega (arith, p, q, inside))

  -- a whole chunk that stops to be an entry
  pub chunk_stops : (from next inner : ℕ) (s : ChunkStands front at from next) → StopsAt AnEntry s.payload inner → FirstStop file (from + inner)
  chunk_stops from next inner s stop =
      let p = s.payload in
      let more = chunk_push cs front at from next s done in
      let k = length_chunk p in
      let n = s.stands.ends in
      let w = s.stands.within in
      let fl = front_long in
      let pl = offset in
      let from_is = s.behind in
      let short = stop.inside in
      let cut : file ≡ written (cs ++ p ∷ []) ++ drop next file = sym (take-append-drop next file) ∙ ap (λ (l : List ℕ). l ++ drop next file) (sym (front_take next w) ∙ more) in
      let chunked : file ≡ written cs ++ (chunk_bytes p ++ drop next file) = cut ∙ ap (λ (l : List ℕ). l ++ drop next file) (written_push cs p) ∙ append_assoc (written cs) (chunk_bytes p) (drop next file) in
      let long : length (written cs ++ chunk_bytes p) ≡ next = (let l = length-append (written cs) (chunk_bytes p) in omega (arith, l, pl, n)) in
      let here : drop at file ≡ chunk_bytes p ++ drop next file = ap (drop at) chunked ∙ drop_at (written cs) (chunk_bytes p ++ drop next file) at pl in
      record {
        stops = inr (record { before = cs; chunk = p; rest = drop next file; split = chunked; inside = omega (arith, long, w, fl); inner = inner; stops = stop; offset = omega (arith, from_is, pl) });
        first = λ other o. first_of other o p inner stop here (omega (arith, from_is, k, n, short)) (λ g.
            let long_more : length (written (cs ++ p ∷ [])) ≡ next = ap length (written_push cs p) ∙ long in
            let ge = grammar_behind (cs ++ p ∷ []) (drop next file) file other cut (omega (arith, long_more, w, fl)) g in
            omega (arith, ge, long_more, from_is, k, n, short)) from_is (omega (arith, k, n, w, fl));
      }
    where
      first_of : (other : ℕ) → SegmentStops file other → (p : List ℕ) (inner : ℕ) → StopsAt AnEntry p inner → drop at file ≡ chunk_bytes p ++ drop next file → from + inner ≤ at + 5 + length p → (StopsAt IsSegment file other → from + inner ≤ other) → from ≡ at + 5 → length p ≤ 65536 → from + inner ≤ other
      first_of other (inl g) p inner stop here le grammar from_is few = grammar g
      first_of other (inr t) p inner stop here le grammar from_is few =
          let b = behind_stop other t in
          let i = b.inside in
          let pl = offset in
          let same = (same_chunk b.d p b.r (drop next file) (omega (arith, i)) (omega (arith, few)) (sym b.stands ∙ here)).0 in
          let e = ap length same in
          let at_is = t.offset in
          by b.order same e at_is
        where
          by : (let b = behind_stop other t in ((b.d ≡ t.chunk) × (length (written t.before) ≡ length (written cs))) ⊎ (length (written cs) + (5 + length b.d) ≤ length (written t.before))) → (behind_stop other t).d ≡ p → length (behind_stop other t).d ≡ length p → other ≡ length (written t.before) + 5 + t.inner → from + inner ≤ other
          by (inl o) same e at_is =
              let chunk_is : t.chunk ≡ p = sym o.0 ∙ same in
              let inner_is = stops_one AnEntry p inner t.inner stop (subst (λ (l : List ℕ). StopsAt AnEntry l t.inner) chunk_is t.stops) in
              let l = o.1 in
              let pl = offset in
              omega (arith, inner_is, l, pl, at_is, from_is)
          by (inr o) same e at_is = let pl = offset in omega (arith, o, e, pl, at_is, le)

  -- what is told of a chunk that isn't read as an entry
  pub entry_stops : (from next : ℕ) (s : ChunkStands front at from next) (e : EntryErr) → MayBreakFrom from s.payload e → MayStop file e
  entry_stops from next s refused.Memory b = tt
  entry_stops from next s (refused.Form a) b =
      let e : from + (a - from) ≡ a = (let le = b.0 in omega (arith, le)) in
      subst (FirstStop file) e (chunk_stops from next (a - from) s b.1)

  -- a chunk that stands in the file for which a segment has room stands in its front
  in_front : (d r : List ℕ) → drop at file ≡ chunk_bytes d ++ r → length (written cs) + (5 + length d) ≤ 65536 → ChunkStands front at (at + 5) (at + 5 + length d)
  in_front d r here le =
      let m = at + 5 + length d in
      let pl = offset in
      let k = length_chunk d in
      let whole_file : file ≡ written cs ++ (chunk_bytes d ++ r) = split ∙ ap (λ (l : List ℕ). written cs ++ l) here in
      let long = ap length whole_file ∙ (length-append (written cs) (chunk_bytes d ++ r) ∙ ap (λ (n : ℕ). length (written cs) + n) (length-append (chunk_bytes d) r)) in
      let t = length-take 65536 file in
      let fl = ap length f.is in
      let reach : m ≤ length front = omega (arith, long, k, pl, le, t, fl) in
      let cut : file ≡ (written cs ++ chunk_bytes d) ++ r = whole_file ∙ sym (append_assoc (written cs) (chunk_bytes d) r) in
      let head : take m front ≡ written cs ++ chunk_bytes d =
      front_take m reach ∙ ap (take m) cut ∙ take_at (written cs ++ chunk_bytes d) r m (let a = length-append (written cs) (chunk_bytes d) in omega (arith, a, k, pl)) in
      let parts : front ≡ written cs ++ (chunk_bytes d ++ drop m front) = sym (take-append-drop m front) ∙ ap (λ (l : List ℕ). l ++ drop m front) head ∙ append_assoc (written cs) (chunk_bytes d) (drop m front) in
      let stands : drop at front ≡ chunk_bytes d ++ drop m front = ap (drop at) parts ∙ drop_at (written cs) (chunk_bytes d ++ drop m front) at pl in
      let field = 1 ∷ big_bytes 4 (length d) in
      let named : drop (at + 5) front ≡ d ++ drop m front =
      sym (drop-drop 5 at front) ∙ ap (drop 5) (stands ∙ append_assoc field d (drop m front)) ∙ drop_at field (d ++ drop m front) 5 refl in
      record {
        payload = d;
        behind = refl;
        stands = record { split = stands; ends = omega (arith, k); within = reach };
        named = record { split = named; ends = refl; within = reach };
      }

  -- where no chunk stands, the offset at which no segment goes on is the first
  pub end_stops : (stop : ℕ) → StopsAt IsSegment file stop → ((from next : ℕ) → ¬ (ChunkStands front at from next)) → FirstStop file stop
  end_stops stop s none = record { stops = inl s; first = by }
    where
      by : (other : ℕ) → SegmentStops file other → stop ≤ other
      by other (inl g) = (let e = stops_one IsSegment file stop other s g in omega (arith, e))
      by other (inr t) = let b = behind_stop other t in absurd (none (at + 5) (at + 5 + length b.d) (in_front b.d b.r b.stands b.inside))

-- an error that is passed on
pub passed_on : {T E : Type 0} (r : Result T E) (x : E) (P : E → Type 0) → IsErrAnd r (λ e. e ≡ x) → P x → IfErr r P
passed_on {T} {E} r x P is p = let q = err_from_is_err_and r is in subst (λ (s : Result T E). IfErr s P) (sym q.1) (subst P (sym q.2) p)
