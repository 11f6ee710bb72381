-- What stands at an offset in the first bytes of a segment.
use Rattle.std.proofs.Common.{◌≡◌, inl, inr, ℕ, suc, ◌+◌, ◌-◌, ◌<◌, ◌≤◌, List, [], ◌∷◌, ◌++◌, length, take, drop, get_or, replicate, refl, sym, ap, subst, ◌∙◌, arith, append_assoc, append-nil, length-append, length-take, length-drop}
use Rattle.std.proofs.lemmas.List.{take_at, drop-drop, drop_more, length-replicate, length-take-le, take-append-drop, take-append-le}
use Rattle.std.proofs.Math.ListN.{drop_of_length-le}
use Rattle.byteorder.specs.Endian.{big_bytes}
use Rattle.wire_bytes.specs.Fields.{Stands, Begins, GoesOn, Misfits}
use Rattle.wire_bytes.specs.Numbers.{ANumber}
use Rattle.wire_bytes.proofs.FieldLemmas.{front_of, begins_take}
use Rattle.log_chunks.specs.Segment.{chunk_bytes, written, IsEnd, ReadsChunks, IsSegment}
use Rattle.log_chunks.specs.declared.chunk_read.ChunkAt.{ChunkAt}
use Rattle.log_chunks.specs.declared.chunk_read.ChunkAt.TheVariants as found
use Rattle.log_chunks.specs.Offsets.{ChunkStands, EndStands, BadStands, IsNext}
use Rattle.log_chunks.proofs.Chunks.{cut_at, end_few, reads_all, take_sum, written_push}
use Rattle.log_chunks.proofs.LawLemmas.{same_length, same_chunk, no_chunk, chunk_long}
use Rattle.log_chunks.proofs.Shapes.{reads_written, zeros_end}
use Rattle.wire_bytes.proofs.PointLemmas.{both_parts}

pub length_chunk : (c : List ℕ) → length (chunk_bytes c) ≡ 5 + length c
length_chunk c = omega (arith, length-append (big_bytes 4 (length c)) c)

-- what is read of bytes that begin with whole chunks begins with these
pub reads_behind : (cs ds : List (List ℕ)) (y : List ℕ) → length (written cs ++ y) ≤ 65536 → ReadsChunks ds (written cs ++ y) → (es : List (List ℕ)) × (ds ≡ cs ++ es) × ReadsChunks es y
reads_behind [] ds y le r = (ds, refl, r)
reads_behind (c ∷ cs) [] y le r = absurd (no_chunk c (written cs ++ y) (subst IsEnd (append_assoc (chunk_bytes c) (written cs) y) r))
reads_behind (c ∷ cs) (d ∷ ds) y le r =
    let here = append_assoc (chunk_bytes c) (written cs) y in
    let one = chunk_long c (written cs ++ y) (written (c ∷ cs) ++ y) le here in
    let two = chunk_long d r.0 (written (c ∷ cs) ++ y) le r.1 in
    let same = same_chunk c d (written cs ++ y) r.0 one.0 two.0 (sym here ∙ r.1) in
    let later = reads_behind cs ds y one.1 (subst (ReadsChunks ds) (sym same.1) r.2) in
    (later.0, (λ i. sym same.0 i ∷ later.1 i), later.2)

-- zeros behind an end make a segment
end_fits : (cs : List (List ℕ)) (b bytes : List ℕ) → bytes ≡ written cs ++ b → length bytes ≤ 65536 → IsEnd (b ++ replicate (65536 - length bytes) 0) → Begins IsSegment bytes
end_fits cs b bytes split le ends =
    let n = 65536 - length bytes in
    let zeros = replicate n 0 in
    record {
      rest = zeros;
      whole = record {
        chunks = cs;
        long = (let a = length-append bytes zeros in let z = length-replicate {A = ℕ} n 0 in omega (arith, a, z, le));
        reads = subst (ReadsChunks cs) (sym (ap (λ (l : List ℕ). l ++ zeros) split ∙ append_assoc (written cs) b zeros))
            (subst (λ (ds : List (List ℕ)). ReadsChunks ds (written cs ++ (b ++ zeros))) (append-nil cs) (reads_written cs [] (b ++ zeros) ends));
      };
    }

-- what a chunk begins with, the rest of it, and zeros behind it make a segment
chunk_fits : (cs : List (List ℕ)) (b w c bytes : List ℕ) → bytes ≡ written cs ++ b → b ++ w ≡ chunk_bytes c → length (written cs) + 5 + length c ≤ 65536 → Begins IsSegment bytes
chunk_fits cs b w c bytes split is le =
    let n = 65536 - (length (written cs) + 5 + length c) in
    let zeros = replicate n 0 in
    let whole : bytes ++ (w ++ zeros) ≡ written cs ++ (chunk_bytes c ++ zeros) =
    ap (λ (l : List ℕ). l ++ (w ++ zeros)) split ∙ append_assoc (written cs) b (w ++ zeros) ∙ ap (λ (l : List ℕ). written cs ++ l) (sym (append_assoc b w zeros) ∙ ap (λ (l : List ℕ). l ++ zeros) is) in
    record {
      rest = w ++ zeros;
      whole = record {
        chunks = cs ++ c ∷ [];
        long = (let l = ap length whole in let a = length-append (written cs) (chunk_bytes c ++ zeros) in let d = length-append (chunk_bytes c) zeros in let z = length-replicate {A = ℕ} n 0 in let e = length_chunk c in omega (arith, l, a, d, z, e, le));
        reads = subst (ReadsChunks (cs ++ c ∷ [])) (sym whole) (reads_written cs (c ∷ []) (chunk_bytes c ++ zeros) (zeros, refl, zeros_end n));
      };
    }

-- where a chunk stands there is room for it
chunk_room : (bytes : List ℕ) (at from next : ℕ) (s : ChunkStands bytes at from next) → (next ≡ at + 5 + length s.payload) × (next ≤ length bytes)
chunk_room bytes at from next s = (let e = s.stands.ends in let l = length_chunk s.payload in omega (arith, e, l), s.stands.within)

module _ (cs : List (List ℕ)) (bytes : List ℕ) (at : ℕ) (short : length bytes ≤ 65536) (inside : at ≤ length bytes) (done : take at bytes ≡ written cs) where
  offset : length (written cs) ≡ at
  offset = sym (ap length done) ∙ length-take-le at bytes inside

  -- no chunk stands there, and reading ends
  nothing : ((from next : ℕ) → ¬ (ChunkStands bytes at from next)) → IsEnd (drop at bytes ++ replicate (65536 - length bytes) 0) → IsEnd (drop at bytes) → EndStands cs bytes at
  nothing none later ends = record { none = none; fits = end_fits cs (drop at bytes) bytes (cut_at bytes at cs done) short later; ends = λ long. reads_all bytes at cs done ends }

  pub nothing_left : at ≡ length bytes → EndStands cs bytes at
  nothing_left all =
      let empty : drop at bytes ≡ [] = drop_of_length-le bytes (omega (arith, all)) in
      nothing (λ from next s. let r = chunk_room bytes at from next s in let a = r.0 in let b = r.1 in omega (arith, a, b, all))
      (subst (λ (l : List ℕ). IsEnd (l ++ replicate (65536 - length bytes) 0)) (sym empty) (zeros_end (65536 - length bytes))) (subst IsEnd (sym empty) tt)

  pub few_left : 65536 - at < 5 → EndStands cs bytes at
  few_left few =
      nothing (λ from next s. let r = chunk_room bytes at from next s in let a = r.0 in let b = r.1 in omega (arith, a, b, short, few))
      (end_few (drop at bytes ++ replicate (65536 - length bytes) 0)
      (let a = length-append (drop at bytes) (replicate (65536 - length bytes) 0) in let z = length-replicate {A = ℕ} (65536 - length bytes) 0 in let d = length-drop at bytes in omega (arith, a, z, d, short, inside, few)))
      (end_few (drop at bytes) (let d = length-drop at bytes in omega (arith, d, short, few)))

  pub shut_gate : at < length bytes → (get_or bytes at 0 ≡ 1 → ⊥) → EndStands cs bytes at
  shut_gate lt shut =
      let split : drop at bytes ≡ get_or bytes at 0 ∷ drop (at + 1) bytes = drop_more bytes at 0 lt in
      nothing (λ from next s. shut (ap (λ (l : List ℕ). get_or l 0 0) (sym split ∙ s.stands.split)))
      (subst (λ (l : List ℕ). IsEnd (l ++ replicate (65536 - length bytes) 0)) (sym split) (inl shut)) (subst IsEnd (sym split) (inl shut))

  module _ (lt : at < length bytes) (gate : get_or bytes at 0 ≡ 1) (room : 5 ≤ 65536 - at) where
    abbrev later : List ℕ
    later = drop (at + 1) bytes

    opened : drop at bytes ≡ 1 ∷ later
    opened = drop_more bytes at 0 lt ∙ ap (λ (x : ℕ). x ∷ later) gate

    split : bytes ≡ written cs ++ (1 ∷ later)
    split = cut_at bytes at cs done ∙ ap (λ (l : List ℕ). written cs ++ l) opened

    long_later : length later ≡ length bytes - (at + 1)
    long_later = length-drop (at + 1) bytes

    -- the front of a length that the segment has room for
    fit_number : (n : ℕ) (l w front : List ℕ) → n ≤ 65536 - at - 5 → l ++ w ≡ big_bytes 4 n → front ≡ written cs ++ (1 ∷ l) → Begins IsSegment front
    fit_number n l w front le is whole =
        let zeros = replicate n 0 in
        let z = length-replicate {A = ℕ} n 0 in
        chunk_fits cs (1 ∷ l) (w ++ zeros) zeros front whole
        (ap (λ (x : List ℕ). 1 ∷ x) (sym (append_assoc l w zeros) ∙ ap (λ (x : List ℕ). x ++ zeros) is ∙ ap (λ (k : ℕ). big_bytes 4 k ++ zeros) (sym z))) (omega (arith, z, offset, le, room))

    -- the bytes end within the length
    pub short_length : GoesOn (ANumber 4 0 (65536 - at - 5)) (drop (at + 1) bytes) → EndStands cs bytes at
    short_length g =
        let n = g.whole.n in
        let spelled : later ++ g.next ∷ g.rest ≡ big_bytes 4 n = g.whole.spelled in
        let l : length later + suc (length g.rest) ≡ 4 = sym (length-append later (g.next ∷ g.rest)) ∙ ap length spelled in
        record {
          none = λ from next s. let r = chunk_room bytes at from next s in let a = r.0 in let b = r.1 in omega (arith, a, b, l, long_later);
          fits = fit_number n later (g.next ∷ g.rest) bytes g.whole.most spelled split;
          ends = λ long. absurd (omega (arith, l, long_later, long, room));
        }

    module _ (len : ℕ) (few : len ≤ 65536 - at - 5) (st : Stands (big_bytes 4 len) bytes (at + 1) (at + 1 + 4)) where
      abbrev body : List ℕ
      body = drop (at + 1 + 4) bytes

      spelled_body : later ≡ big_bytes 4 len ++ body
      spelled_body = st.split

      long_body : length body ≡ length bytes - (at + 5)
      long_body = (let d = length-drop (at + 1 + 4) bytes in omega (arith, d))

      -- the bytes end within the payload
      pub short_payload : length bytes < at + 5 + len → EndStands cs bytes at
      short_payload less =
          let w : List ℕ = replicate (len - length body) 0 in
          let c : List ℕ = body ++ w in
          let within : 4 ≤ length later = (let a = length-append (big_bytes 4 len) body in let e = ap length spelled_body in omega (arith, a, e)) in
          let small : length body < len = omega (arith, long_body, less, within, long_later) in
          let long : length c ≡ len = (let a = length-append body w in let z = length-replicate {A = ℕ} (len - length body) 0 in omega (arith, a, z, small)) in
          record {
            none = λ from next s.
                let r = chunk_room bytes at from next s in
                let a = r.0 in
                let b = r.1 in
                let p = s.payload in
                let same : big_bytes 4 len ++ body ≡ big_bytes 4 (length p) ++ (p ++ drop next bytes) =
                sym spelled_body ∙ ap (λ (l : List ℕ). drop 1 l) (sym opened ∙ s.stands.split) ∙ append_assoc (big_bytes 4 (length p)) p (drop next bytes) in
                let field = both_parts (big_bytes 4 len) body (big_bytes 4 (length p)) (p ++ drop next bytes) refl same in
                let n = same_length len (length p) (omega (arith, few)) (omega (arith, a, b, short)) field.0 in
                omega (arith, a, b, n, less);
            fits = chunk_fits cs (1 ∷ later) w c bytes split
                (ap (λ (x : List ℕ). 1 ∷ x) (ap (λ (x : List ℕ). x ++ w) spelled_body ∙ append_assoc (big_bytes 4 len) body w ∙ ap (λ (k : ℕ). big_bytes 4 k ++ c) (sym long)))
                (omega (arith, long, offset, few, room));
            ends = λ all. absurd (omega (arith, all, less, few, room));
          }

      pub whole_chunk : at + 5 + len ≤ length bytes → ChunkStands bytes at (at + 5) (at + 5 + len)
      whole_chunk le =
          let p = take len body in
          let long : length p ≡ len = length-take-le len body (omega (arith, long_body, le)) in
          let behind : drop len body ≡ drop (at + 5 + len) bytes = drop-drop len (at + 1 + 4) bytes ∙ (let e : at + 1 + 4 + len ≡ at + 5 + len = omega arith in ap (λ (k : ℕ). drop k bytes) e) in
          let cut : body ≡ p ++ drop (at + 5 + len) bytes = sym (take-append-drop len body) ∙ ap (λ (l : List ℕ). p ++ l) behind in
          let whole : drop at bytes ≡ chunk_bytes p ++ drop (at + 5 + len) bytes =
          opened ∙ ap (λ (l : List ℕ). 1 ∷ l) (spelled_body ∙ ap (λ (l : List ℕ). big_bytes 4 len ++ l) cut ∙ sym (append_assoc (big_bytes 4 len) p (drop (at + 5 + len) bytes))
          ∙ ap (λ (k : ℕ). (big_bytes 4 k ++ p) ++ drop (at + 5 + len) bytes) (sym long)) in
          record {
            payload = p;
            behind = refl;
            stands = record { split = whole; ends = (let c = length_chunk p in omega (arith, c, long)); within = le };
            named = record { split = (let e : at + 5 ≡ at + 1 + 4 = omega arith in ap (λ (k : ℕ). drop k bytes) e ∙ cut); ends = omega (arith, long); within = le };
          }

    -- no segment has room for a length that begins so
    module _ (bad : ℕ) (behind : at + 1 ≤ bad) (m : Misfits (ANumber 4 0 (65536 - at - 5)) (drop (at + 1) bytes) (bad - (at + 1))) where
      abbrev n : ℕ
      n = bad - (at + 1)

      n_within : n < length later
      n_within = m.within

      n_few : n ≤ 3
      n_few =
          let spelled = m.fits.whole.spelled in
          let l : length (take n later) + suc (length m.fits.rest) ≡ 4 = sym (length-append (take n later) (m.fits.next ∷ m.fits.rest)) ∙ ap length spelled in
          let t : length (take n later) ≡ n = length-take-le n later (omega (arith, n_within)) in
          omega (arith, l, t)

      front : (k : ℕ) → take (at + 1 + k) bytes ≡ written cs ++ (1 ∷ take k later)
      front k =
          let one : take 1 (drop at bytes) ≡ 1 ∷ [] = ap (λ (d : List ℕ). take 1 d) opened in
          take_sum bytes (at + 1) k ∙ ap (λ (h : List ℕ). h ++ take k later) (take_sum bytes at 1 ∙ ap (λ (h : List ℕ). take at bytes ++ h) one ∙ ap (λ (h : List ℕ). h ++ 1 ∷ []) done) ∙ append_assoc (written cs) (1 ∷ []) (take k later)

      begins_number : (es : List (List ℕ)) (x r : List ℕ) → length x ≤ 4 → at + suc (length (x ++ r)) ≡ 65536 → ReadsChunks es (1 ∷ (x ++ r)) → Begins (ANumber 4 0 (65536 - at - 5)) x
      begins_number [] x r le total (inl shut) = absurd (shut refl)
      begins_number [] x r le total (inr less) = absurd (omega (arith, less, total, room))
      begins_number (d ∷ ds) x r le total reads =
          let b = big_bytes 4 (length d) in
          let is : x ++ r ≡ b ++ (d ++ reads.0) = ap (λ (l : List ℕ). drop 1 l) reads.1 ∙ append_assoc b d reads.0 in
          let long : length (x ++ r) ≡ 4 + (length d + length reads.0) = ap length is ∙ (let a = length-append b (d ++ reads.0) in let c = length-append d reads.0 in omega (arith, a, c)) in
          record { rest = drop (length x) b; whole = record { n = length d; least = omega arith; most = omega (arith, long, total); spelled = sym (front_of x r b (d ++ reads.0) is (omega (arith, le))) } }

      no_more : ¬ (Begins IsSegment (take (suc bad) bytes))
      no_more g =
          let x = take (suc n) later in
          let e : suc bad ≡ at + 1 + suc n = omega (arith, behind) in
          let whole : take (suc bad) bytes ++ g.rest ≡ written cs ++ (1 ∷ (x ++ g.rest)) = ap (λ (l : List ℕ). l ++ g.rest) (ap (λ (k : ℕ). take k bytes) e ∙ front (suc n)) ∙ append_assoc (written cs) (1 ∷ x) g.rest in
          let long : length (written cs ++ (1 ∷ (x ++ g.rest))) ≡ 65536 = sym (ap length whole) ∙ g.whole.long in
          let read = reads_behind cs g.whole.chunks (1 ∷ (x ++ g.rest)) (omega (arith, long)) (subst (ReadsChunks g.whole.chunks) whole g.whole.reads) in
          m.none (begins_number read.0 x g.rest (let t = length-take (suc n) later in omega (arith, t, n_few)) (let a = length-append (written cs) (1 ∷ (x ++ g.rest)) in omega (arith, a, long, offset)) read.2)

      no_chunk_there : (from next : ℕ) → ¬ (ChunkStands bytes at from next)
      no_chunk_there from next s =
          let r = chunk_room bytes at from next s in
          let p = s.payload in
          let field = big_bytes 4 (length p) in
          let is : later ≡ field ++ (p ++ drop next bytes) = ap (λ (l : List ℕ). drop 1 l) (sym opened ∙ s.stands.split) ∙ append_assoc field p (drop next bytes) in
          let few : length p ≤ 65536 - at - 5 = (let x = r.0 in let y = r.1 in omega (arith, x, y, short)) in
          let cut : take (suc n) later ≡ take (suc n) field = ap (λ (l : List ℕ). take (suc n) l) is ∙ take-append-le (suc n) field (p ++ drop next bytes) (let f = n_few in omega (arith, f)) in
          let whole : ANumber 4 0 (65536 - at - 5) field = record { n = length p; least = omega arith; most = few; spelled = refl } in
          m.none (subst (Begins (ANumber 4 0 (65536 - at - 5))) (sym cut) (begins_take (ANumber 4 0 (65536 - at - 5)) (suc n) field (record { rest = []; whole = subst (ANumber 4 0 (65536 - at - 5)) (sym (append-nil field)) whole })))

      pub bad_length : BadStands bytes at bad
      bad_length =
          let e : at + 1 + n ≡ bad = omega (arith, behind) in
          let within : bad < length bytes = omega (arith, n_within, long_later, behind) in
          record {
            none = no_chunk_there;
            within = within;
            stops = record {
              inside = omega (arith, within);
              begins = fit_number m.fits.whole.n (take n later) (m.fits.next ∷ m.fits.rest) (take bad bytes) m.fits.whole.most m.fits.whole.spelled (ap (λ (k : ℕ). take k bytes) (sym e) ∙ front n);
              stops = λ _ g. no_more g;
              none = λ whole. no_more (begins_take IsSegment (suc bad) bytes (record { rest = []; whole = subst IsSegment (sym (append-nil bytes)) whole }));
            };
          }

-- one chunk more
pub chunk_push : (cs : List (List ℕ)) (bytes : List ℕ) (at from next : ℕ) (s : ChunkStands bytes at from next) → take at bytes ≡ written cs → take next bytes ≡ written (cs ++ s.payload ∷ [])
chunk_push cs bytes at from next s done =
    let c = chunk_bytes s.payload in
    ap (λ (k : ℕ). take k bytes) s.stands.ends ∙ take_sum bytes at (length c)
    ∙ ap (λ (h : List ℕ). h ++ take (length c) (drop at bytes)) done
    ∙ ap (λ (h : List ℕ). written cs ++ h) (ap (λ (d : List ℕ). take (length c) d) s.stands.split ∙ take_at c (drop next bytes) (length c) refl) ∙ sym (written_push cs s.payload)

-- the bytes between the two offsets
pub payload_is : (bytes : List ℕ) (at from next : ℕ) (s : ChunkStands bytes at from next) → take (next - from) (drop from bytes) ≡ s.payload
payload_is bytes at from next s =
    let e : next - from ≡ length s.payload = (let h = s.named.ends in omega (arith, h)) in
    ap (λ (k : ℕ). take k (drop from bytes)) e ∙ ap (λ (d : List ℕ). take (length s.payload) d) s.named.split ∙ take_at s.payload (drop next bytes) (length s.payload) refl

-- neither a chunk nor a length that doesn't fit
pub end_stands : (cs : List (List ℕ)) (bytes : List ℕ) (at : ℕ) (x : ChunkAt) → IsNext cs bytes at x → ((from next : ℕ) → x ≡ found.Chunk from next → ⊥) → ((offset : ℕ) → x ≡ found.Bad offset → ⊥) → EndStands cs bytes at
end_stands cs bytes at (found.Chunk from next) is chunk bad = absurd (chunk from next refl)
end_stands cs bytes at found.End is chunk bad = is
end_stands cs bytes at (found.Bad offset) is chunk bad = absurd (bad offset refl)

-- whole chunks begin a segment, where it has room for them
pub chunks_fit : (cs : List (List ℕ)) → length (written cs) ≤ 65536 → Begins IsSegment (written cs)
chunks_fit cs le = end_fits cs [] (written cs) (sym (append-nil (written cs))) le (zeros_end (65536 - length (written cs)))
