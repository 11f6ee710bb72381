-- What is read of a segment is one thing, and what an appended chunk and a new segment do to the whole log.
use Rattle.std.proofs.Common.{◌≡◌, inl, inr, ℕ, suc, ◌+◌, ◌^◌, ◌<◌, ◌≤◌, List, [], ◌∷◌, ◌++◌, length, drop, get_or, refl, sym, ap, subst, ◌∙◌, arith, append_assoc, length-append}
use Rattle.byteorder.specs.Endian.{big_bytes, big_from}
use Rattle.byteorder.specs.Numbers.{big_number-reads_back}
use Rattle.log_chunks.specs.Segment.{chunk_bytes, IsEnd, ReadsChunks}
use Rattle.wire_bytes.proofs.PointLemmas.{both_parts}

-- a chunk at the head of bytes that reach to a segment's end has a length that its field can say
head_same : (x y : ℕ) (r s : List ℕ) → x ∷ r ≡ y ∷ s → (x ≡ y) × (r ≡ s)
head_same x y r s e = (ap (λ (l : List ℕ). get_or l 0 0) e, ap (λ (l : List ℕ). drop 1 l) e)

pub same_length : (m n : ℕ) → m < 256 ^ 4 → n < 256 ^ 4 → big_bytes 4 m ≡ big_bytes 4 n → m ≡ n
same_length m n p q e = sym (big_number-reads_back 4 m [] p) ∙ ap (λ (l : List ℕ). big_from 0 4 (l ++ [])) e ∙ big_number-reads_back 4 n [] q

pub same_chunk : (c d r s : List ℕ) → length c < 256 ^ 4 → length d < 256 ^ 4 → chunk_bytes c ++ r ≡ chunk_bytes d ++ s → (c ≡ d) × (r ≡ s)
same_chunk c d r s p q e =
    let body = (head_same 1 1 _ _ e).1 in
    let whole : big_bytes 4 (length c) ++ (c ++ r) ≡ big_bytes 4 (length d) ++ (d ++ s) = sym (append_assoc (big_bytes 4 (length c)) c r) ∙ body ∙ append_assoc (big_bytes 4 (length d)) d s in
    let field = both_parts (big_bytes 4 (length c)) (c ++ r) (big_bytes 4 (length d)) (d ++ s) refl whole in
    both_parts c r d s (same_length (length c) (length d) p q field.0) field.1

-- no chunk stands where an end is
pub no_chunk : (c r : List ℕ) → IsEnd (chunk_bytes c ++ r) → ⊥
no_chunk c r (inl shut) = shut refl
no_chunk c r (inr few) = omega (arith, length-append (big_bytes 4 (length c) ++ c) r, length-append (big_bytes 4 (length c)) c)

-- a chunk in a segment has a length that its field can say
pub chunk_long : (c r bytes : List ℕ) → length bytes ≤ 65536 → bytes ≡ chunk_bytes c ++ r → (length c < 256 ^ 4) × (length r ≤ 65536)
chunk_long c r bytes le e =
    let l : length bytes ≡ suc (length (big_bytes 4 (length c) ++ c)) + length r = ap length e ∙ length-append (chunk_bytes c) r in
    (omega (arith, le, l, length-append (big_bytes 4 (length c)) c), omega (arith, le, l))

-- a segment reads as at most one list of chunks
pub one_reading : (cs ds : List (List ℕ)) (bytes : List ℕ) → length bytes ≤ 65536 → ReadsChunks cs bytes → ReadsChunks ds bytes → cs ≡ ds
one_reading [] [] bytes le a b = refl
one_reading [] (d ∷ ds) bytes le a b = absurd (no_chunk d b.0 (subst IsEnd b.1 a))
one_reading (c ∷ cs) [] bytes le a b = absurd (no_chunk c a.0 (subst IsEnd a.1 b))
one_reading (c ∷ cs) (d ∷ ds) bytes le a b =
    let same = same_chunk c d a.0 b.0 (chunk_long c a.0 bytes le a.1).0 (chunk_long d b.0 bytes le b.1).0 (sym a.1 ∙ b.1) in
    let rest = one_reading cs ds a.0 (chunk_long c a.0 bytes le a.1).1 a.2 (subst (ReadsChunks ds) (sym same.1) b.2) in
    λ i. same.0 i ∷ rest i
