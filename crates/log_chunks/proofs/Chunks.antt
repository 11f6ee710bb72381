-- A segment that is read chunk by chunk.
use Rattle.std.proofs.Common.{◌≡◌, inr, ℕ, ◌+◌, ◌<◌, List, [], ◌∷◌, ◌++◌, length, take, drop, sym, ap, subst, ◌∙◌, arith, append_assoc}
use Rattle.std.proofs.lemmas.List.{append-nil, take-append-drop, take-take, drop-take}
use Rattle.log_chunks.specs.Segment.{chunk_bytes, written, IsEnd, ReadsChunks}
use Rattle.log_chunks.proofs.Shapes.{reads_written}

-- an end
pub end_few : (d : List ℕ) → length d < 5 → IsEnd d
end_few [] lt = tt
end_few (x ∷ d) lt = inr (omega arith)

pub cut_at : (l : List ℕ) (at : ℕ) (cs : List (List ℕ)) → take at l ≡ written cs → l ≡ written cs ++ drop at l
cut_at l at cs is = sym (take-append-drop at l) ∙ ap (λ (f : List ℕ). f ++ drop at l) is

pub reads_all : (l : List ℕ) (at : ℕ) (cs : List (List ℕ)) → take at l ≡ written cs → IsEnd (drop at l) → ReadsChunks cs l
reads_all l at cs is ends =
    subst (ReadsChunks cs) (sym (cut_at l at cs is)) (subst (λ (ds : List (List ℕ)). ReadsChunks ds (written cs ++ drop at l)) (append-nil cs) (reads_written cs [] (drop at l) ends))

-- one chunk more
pub written_push : (cs : List (List ℕ)) (c : List ℕ) → written (cs ++ c ∷ []) ≡ written cs ++ chunk_bytes c
written_push [] c = append-nil (chunk_bytes c)
written_push (d ∷ cs) c = ap (λ (l : List ℕ). chunk_bytes d ++ l) (written_push cs c) ∙ sym (append_assoc (chunk_bytes d) (written cs) (chunk_bytes c))

pub take_sum : (l : List ℕ) (m n : ℕ) → take (m + n) l ≡ take m l ++ take n (drop m l)
take_sum l m n =
    sym (take-append-drop m (take (m + n) l)) ∙ ap (λ (f : List ℕ). f ++ drop m (take (m + n) l)) (take-take m (m + n) l (omega arith)) ∙ ap (λ (f : List ℕ). take m l ++ f) (drop-take m n l)
