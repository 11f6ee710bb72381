-- What segments hold, one after another.
use Rattle.std.proofs.Common.{◌≡◌, inl, inr, ℕ, List, [], ◌∷◌, ◌++◌, refl, sym, ap, subst, ◌∙◌, arith, append_assoc}
use Rattle.std.proofs.lemmas.List.{append-nil}
use Rattle.std.specs.FinMap.{get}
use Rattle.std.proofs.lemmas.Option.{same_Some}
use Rattle.log_chunks.specs.m3_model.Members.{IsIn}
use Rattle.log_chunks.specs.m3_outside.Files.{Files}
use Rattle.commit_log.specs.Segment.{segment, ReadsChunks, HasChunks}
use Rattle.commit_log.specs.Contents.{PartsHold}
use Rattle.log_chunks.proofs.LawLemmas.{one_reading}

-- the segments of both lists
pub parts_join : (ns ms : List ℕ) (files : Files) (fs bs : List (List ℕ)) → PartsHold ns files fs → PartsHold ms files bs → PartsHold (ns ++ ms) files (fs ++ bs)
parts_join [] ms files fs bs p q = subst (PartsHold ms files) (ap (λ (l : List (List ℕ)). l ++ bs) (sym p)) q
parts_join (n ∷ ns) ms files fs bs p q = record {
  first = p.first;
  rest = p.rest ++ bs;
  split = ap (λ (l : List (List ℕ)). l ++ bs) p.split ∙ append_assoc p.first p.rest bs;
  has = p.has;
  later = parts_join ns ms files p.rest bs p.later q;
}

pub one_part : (n : ℕ) (files : Files) (chunks : List (List ℕ)) → HasChunks (segment n) chunks files → PartsHold (n ∷ []) files chunks
one_part n files chunks has = record { first = chunks; rest = []; split = sym (append-nil chunks); has = has; later = refl }

pub parts_more : (ns : List ℕ) (n : ℕ) (files : Files) (fs bs : List (List ℕ)) → PartsHold ns files fs → HasChunks (segment n) bs files → PartsHold (ns ++ n ∷ []) files (fs ++ bs)
parts_more ns n files fs bs p has = parts_join ns (n ∷ []) files fs bs p (one_part n files bs has)

pub record Parted (ns ms : List ℕ) (files : Files) (chunks : List (List ℕ)) : Type 0 where
  pub front : List (List ℕ)
  pub back : List (List ℕ)
  pub split : chunks ≡ front ++ back
  pub of_front : PartsHold ns files front
  pub of_back : PartsHold ms files back

pub parts_split : (ns ms : List ℕ) (files : Files) (chunks : List (List ℕ)) → PartsHold (ns ++ ms) files chunks → Parted ns ms files chunks
parts_split [] ms files chunks p = record { front = []; back = chunks; split = refl; of_front = refl; of_back = p }
parts_split (n ∷ ns) ms files chunks p =
    let rest = parts_split ns ms files p.rest p.later in
    record {
      front = p.first ++ rest.front;
      back = rest.back;
      split = p.split ∙ ap (λ (l : List (List ℕ)). p.first ++ l) rest.split ∙ sym (append_assoc p.first rest.front rest.back);
      of_front = record { first = p.first; rest = rest.front; split = refl; has = p.has; later = rest.of_front };
      of_back = rest.of_back;
    }

has_same : (n : ℕ) (x y : Files) (chunks : List (List ℕ)) → get y (segment n) ≡ get x (segment n) → HasChunks (segment n) chunks x → HasChunks (segment n) chunks y
has_same n x y chunks same has = record { file = has.file; there = same ∙ has.there; size = has.size; reads = has.reads }

-- the same files hold the same
pub parts_same : (ns : List ℕ) (x y : Files) (chunks : List (List ℕ)) → ((n : ℕ) → IsIn ns n → get y (segment n) ≡ get x (segment n)) → PartsHold ns x chunks → PartsHold ns y chunks
parts_same [] x y chunks same p = p
parts_same (n ∷ ns) x y chunks same p = record { first = p.first; rest = p.rest; split = p.split; has = has_same n x y p.first (same n (inl refl)) p.has; later = parts_same ns x y p.rest (λ k m. same k (inr m)) p.later }

-- a segment has one list of chunks
pub has_one : (n : ℕ) (files : Files) (cs ds : List (List ℕ)) → HasChunks (segment n) cs files → HasChunks (segment n) ds files → cs ≡ ds
has_one n files cs ds a b = one_reading cs ds a.file (omega (arith, a.size)) a.reads (subst (ReadsChunks ds) (same_Some b.file a.file (sym b.there ∙ a.there)) b.reads)

-- and so have all
pub parts_one : (ns : List ℕ) (files : Files) (cs ds : List (List ℕ)) → PartsHold ns files cs → PartsHold ns files ds → cs ≡ ds
parts_one [] files cs ds p q = p ∙ sym q
parts_one (n ∷ ns) files cs ds p q =
    p.split ∙ ap (λ (l : List (List ℕ)). l ++ p.rest) (has_one n files p.first q.first p.has q.has) ∙ ap (λ (l : List (List ℕ)). q.first ++ l) (parts_one ns files p.rest q.rest p.later q.later) ∙ sym q.split
