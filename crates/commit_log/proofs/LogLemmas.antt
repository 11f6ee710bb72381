-- What an appended chunk and a new segment do to a whole log.
use Rattle.std.proofs.Common.{◌≡◌, ◌⊎◌, inl, inr, ⊎_elim, ℕ, ◌<◌, ◌≤◌, List, [], ◌∷◌, ◌++◌, replicate, refl, sym, ap, subst, ◌∙◌, Option, Some, unwrap_or, arith, Bool, true, false, append_assoc}
use Rattle.std.specs.Prelude.{nat_lt}
use Rattle.std.proofs.lemmas.List.{append-nil, length-replicate}
use Rattle.std.proofs.lemmas.Bool.{cases_eq, ltb-true, ltb-false}
use Rattle.std.specs.FinMap.{get}
use Rattle.log_chunks.specs.m3_model.Members.{IsIn}
use Rattle.log_chunks.specs.m3_model.Ascends.{Ascends}
use Rattle.log_chunks.proofs.m3_model_proofs.MemberLemmas.{IsIn-append_left, IsIn-append_cases, IsIn-push}
use Rattle.log_chunks.proofs.m3_model_proofs.Ascending.{Ascends-push}
use Rattle.log_chunks.specs.m3_outside.declared.file_name.FileName.{FileName}
use Rattle.log_chunks.specs.m3_outside.Files.{Files, IsPresent, files_with_zeros}
use Rattle.log_chunks.specs.m3_outside.DiskState.{DiskState, IsLawfulDisk, StepOf, Elapses}
use Rattle.log_chunks.proofs.m3_outside_proofs.Names.{get_here, get_apart}
use Rattle.commit_log.specs.Segment.{segment, written, ReadsChunks, HasChunks, OthersStay, MayAdd, Adds, IsSegment}
use Rattle.commit_log.specs.LogEnd.{NoneAbove, MayBeginSegment}
use Rattle.commit_log.specs.Contents.{numbers, PartsHold, HasDamage}
use Rattle.commit_log.specs.LogLaws.{NothingBehindGate, NumbersAreThere, LogIsOne, DamagedIsNone, ReaderFindsLog, IsLog, AppendGrowsLog, BeginLeavesLog}
use Rattle.log_chunks.proofs.LawLemmas.{one_reading}
use Rattle.log_chunks.proofs.Shapes.{reads_written, zeros_end}
use Rattle.commit_log.proofs.Numbers.{in_there, there_in, ascend, same_members}
use Rattle.commit_log.proofs.Parts.{Parted, parts_split, parts_same, parts_more, parts_one, has_one}

pub nothing_behind_gate : NothingBehindGate
nothing_behind_gate cs ds gate behind bytes is le shut reads =
    one_reading ds cs bytes le reads (subst (ReadsChunks cs) (sym is) (subst (λ (l : List (List ℕ)). ReadsChunks l (written cs ++ gate ∷ behind)) (append-nil cs) (reads_written cs [] (gate ∷ behind) (inl shut))))

pub numbers_there : (files : Files) → NumbersAreThere files
numbers_there files = record {
  ascending = ascend files;
  exact = λ n. ((λ m. let there = in_there files n m in record { file = there.0; there = there.1 }), (λ p. there_in files n p.file p.there));
}

pub log_is_one : LogIsOne
log_is_one cs ds m n files a b = (parts_one (numbers files) files cs ds a.parts b.parts, a.next_is ∙ sym b.next_is)

pub reader_finds_log : ReaderFindsLog
reader_finds_log chunks found number next files log holds = parts_one (numbers files) files found chunks holds.parts log.parts

-- damage of a segment that is there, and what is read of it
damage_reads_nothing : (number at : ℕ) (files : Files) (chunks : List (List ℕ)) → HasDamage number at files → HasChunks (segment number) chunks files → ⊥
damage_reads_nothing number at files chunks damage has =
    damage.none (subst IsSegment (sym (ap (λ (o : Option (List ℕ)). unwrap_or o []) has.there)) (record { chunks = chunks; long = has.size; reads = has.reads }))

pub damaged_is_none : DamagedIsNone
damaged_is_none cs number at files damaged holds =
    let split = parts_split damaged.before (number ∷ damaged.after) files cs (subst (λ (l : List ℕ). PartsHold l files cs) damaged.split holds) in
    damage_reads_nothing number at files split.of_back.first damaged.damage split.of_back.has

-- the same segments have the same numbers
same_numbers : (x y : Files) → ((n : ℕ) → IsPresent (segment n) x → IsPresent (segment n) y) → ((n : ℕ) → IsPresent (segment n) y → IsPresent (segment n) x) → numbers y ≡ numbers x
same_numbers x y to back =
    same_members (numbers y) (numbers x) (ascend y) (ascend x)
    (λ n m. let f = in_there y n m in let p = back n (record { file = f.0; there = f.1 }) in there_in x n p.file p.there)
    (λ n m. let f = in_there x n m in let p = to n (record { file = f.0; there = f.1 }) in there_in y n p.file p.there)

-- the last of ascending numbers
pub record EndsIn (ns : List ℕ) (number : ℕ) : Type 0 where
  pub front : List ℕ
  pub split : ns ≡ front ++ number ∷ []
  pub below : (n : ℕ) → IsIn front n → n < number

alone : (n number : ℕ) (ns : List ℕ) → n ≡ number → ((k : ℕ) → IsIn ns k → n < k) → ((k : ℕ) → IsIn ns k → k ≤ number) → EndsIn (n ∷ ns) number
alone n number [] same up most = record { front = []; split = ap (λ (k : ℕ). k ∷ []) same; below = λ k m. absurd m }
alone n number (k ∷ ns) same up most = absurd (let a = up k (inl refl) in let b = most k (inl refl) in omega (arith, a, b, same))

last_of : (ns : List ℕ) (number : ℕ) → Ascends (λ a b. a < b) ns → IsIn ns number → ((n : ℕ) → IsIn ns n → n ≤ number) → EndsIn ns number
last_of [] number up is most = absurd is
last_of (n ∷ ns) number up (inl same) most = alone n number ns same up.0 (λ k m. most k (inr m))
last_of (n ∷ ns) number up (inr rest) most =
    let later = last_of ns number up.1 rest (λ k m. most k (inr m)) in
    record {
      front = n ∷ later.front;
      split = ap (λ (l : List ℕ). n ∷ l) later.split;
      below = λ k m. ⊎_elim (λ (same : n ≡ k). let lt = up.0 number rest in omega (arith, lt, same)) (λ (r : IsIn later.front k). later.below k r) m;
    }

pub apart_names : (k n : ℕ) → (k ≡ n → ⊥) → segment k ≡ segment n → ⊥
apart_names k n apart e = apart (ap (λ (x : FileName). x.number) e)

none_there : (files : Files) (number n : ℕ) → NoneAbove number files → IsIn (numbers files) n → n ≤ number
none_there files number n above m = by (nat_lt number n) refl
  where
    by : (b : Bool) → nat_lt number n ≡ b → n ≤ number
    by true e = let there = in_there files n m in let none = above n (ltb-true number n e) in absurd (cc)
    by false e = ltb-false number n e

only_part : (n : ℕ) (files : Files) (chunks : List (List ℕ)) → PartsHold (n ∷ []) files chunks → HasChunks (segment n) chunks files
only_part n files chunks p = subst (λ (l : List (List ℕ)). HasChunks (segment n) l files) (sym (p.split ∙ ap (λ (l : List (List ℕ)). p.first ++ l) p.later ∙ append-nil p.first)) p.has

has_file : (number : ℕ) (chunks : List (List ℕ)) (files : Files) → HasChunks (segment number) chunks files → IsPresent (segment number) files
has_file number chunks files has = record { file = has.file; there = has.there }

present_as : (number n : ℕ) (x y : Files) → IsPresent (segment number) y → OthersStay (segment number) x y → IsPresent (segment n) x → IsPresent (segment n) y
present_as number n x y here others p =
    ⊎_elim (λ (same : n ≡ number). subst (λ k. IsPresent (segment k) y) (sym same) here)
    (λ (apart : n ≡ number → ⊥). record { file = p.file; there = others (segment n) (apart_names n number apart) ∙ p.there }) (cases_eq n number)

-- files of which the last segment is another one
module _ (number : ℕ) (chunks : List (List ℕ)) (x y : Files) (log : IsLog chunks number x) (others : OthersStay (segment number) x y) (had : List (List ℕ)) (before : HasChunks (segment number) had x) where
  ends : EndsIn (numbers x) number
  ends = last_of (numbers x) number (ascend x) (there_in x number before.file before.there) (λ n m. none_there x number n log.above m)

  parted : Parted ends.front (number ∷ []) x chunks
  parted = parts_split ends.front (number ∷ []) x chunks (subst (λ (l : List ℕ). PartsHold l x chunks) ends.split log.parts)

  front_is : chunks ≡ parted.front ++ had
  front_is = parted.split ∙ ap (λ (l : List (List ℕ)). parted.front ++ l) (has_one number x parted.back had (only_part number x parted.back parted.of_back) before)

  other_log : (has : List (List ℕ)) → HasChunks (segment number) has y → IsLog (parted.front ++ has) number y
  other_log has after = record {
    parts =
        let same = same_numbers x y (λ n p. present_as number n x y (has_file number has y after) others p) (λ n p. present_as number n y x (has_file number had x before) (λ q apart. sym (others q apart)) p) in
        subst (λ (l : List ℕ). PartsHold l y (parted.front ++ has)) (sym (same ∙ ends.split))
        (parts_more ends.front number y parted.front has
        (parts_same ends.front x y parted.front (λ n m. others (segment n) (apart_names n number (λ e. let lt = ends.below n m in omega (arith, lt, e)))) parted.of_front) after);
    above = λ n lt. others (segment n) (apart_names n number (λ e. omega (arith, lt, e))) ∙ log.above n lt;
  }

  with_same : HasChunks (segment number) had y → IsLog chunks number y
  with_same after = subst (λ (l : List (List ℕ)). IsLog l number y) (sym front_is) (other_log had after)

  with_more : (chunk : List ℕ) → HasChunks (segment number) (had ++ chunk ∷ []) y → IsLog (chunks ++ chunk ∷ []) number y
  with_more chunk after = subst (λ (l : List (List ℕ)). IsLog l number y) (sym (append_assoc parted.front had (chunk ∷ [])) ∙ ap (λ (l : List (List ℕ)). l ++ chunk ∷ []) (sym front_is)) (other_log (had ++ chunk ∷ []) after)

pub may_add_log : (number : ℕ) (chunk : List ℕ) (chunks : List (List ℕ)) (x y : Files) → IsLog chunks number x → MayAdd (segment number) chunk x y → IsLog chunks number y ⊎ IsLog (chunks ++ chunk ∷ []) number y
may_add_log number chunk chunks x y log may =
    ⊎_elim (λ same. inl (with_same number chunks x y log may.others may.chunks may.before same)) (λ more. inr (with_more number chunks x y log may.others may.chunks may.before chunk more)) may.after

pub adds_log : (number : ℕ) (chunk : List ℕ) (chunks : List (List ℕ)) (x y : Files) → IsLog chunks number x → Adds (segment number) chunk x y → IsLog (chunks ++ chunk ∷ []) number y
adds_log number chunk chunks x y log adds = with_more number chunks x y log adds.others adds.chunks adds.before chunk adds.after

module _ (last number : ℕ) (lt : last < number) (chunks : List (List ℕ)) (x y : Files) (log : IsLog chunks last x) (is : y ≡ files_with_zeros (segment number) 65536 x) where
  here : get y (segment number) ≡ Some (replicate 65536 0)
  here = ap (λ (m : Files). get m (segment number)) is ∙ get_here x (segment number) (replicate 65536 0)

  others : OthersStay (segment number) x y
  others q apart = ap (λ (m : Files). get m q) is ∙ get_apart x (segment number) (replicate 65536 0) q apart

  below : (n : ℕ) → IsIn (numbers x) n → n < number
  below n m = let le = none_there x last n log.above m in omega (arith, le, lt)

  numbers_more : numbers y ≡ numbers x ++ number ∷ []
  numbers_more = same_members (numbers y) (numbers x ++ number ∷ []) (ascend y) (Ascends-push (λ a b. a < b) (numbers x) number (ascend x) below) to back
    where
      to : (n : ℕ) → IsIn (numbers y) n → IsIn (numbers x ++ number ∷ []) n
      to n m =
          ⊎_elim (λ (same : n ≡ number). subst (λ k. IsIn (numbers x ++ number ∷ []) k) (sym same) (IsIn-push (numbers x) number))
          (λ (apart : n ≡ number → ⊥). let f = in_there y n m in IsIn-append_left (numbers x) (number ∷ []) n (there_in x n f.0 (sym (others (segment n) (apart_names n number apart)) ∙ f.1))) (cases_eq n number)

      back : (n : ℕ) → IsIn (numbers x ++ number ∷ []) n → IsIn (numbers y) n
      back n m =
          ⊎_elim (λ (r : IsIn (numbers x) n). let f = in_there x n r in let b = below n r in there_in y n f.0 (others (segment n) (apart_names n number (λ e. omega (arith, b, e))) ∙ f.1))
          (λ (r : IsIn (number ∷ []) n). ⊎_elim (λ (same : number ≡ n). subst (λ k. IsIn (numbers y) k) same (there_in y number (replicate 65536 0) here)) (λ (none : ⊥). absurd none) r) (IsIn-append_cases (numbers x) (number ∷ []) n m)

  fresh_log : IsLog chunks number y
  fresh_log = record {
    parts = subst (λ (l : List ℕ). PartsHold l y chunks) (sym numbers_more) (subst (PartsHold (numbers x ++ number ∷ []) y) (append-nil chunks)
        (parts_more (numbers x) number y chunks [] (parts_same (numbers x) x y chunks (λ n m. let b = below n m in others (segment n) (apart_names n number (λ e. omega (arith, b, e)))) log.parts)
        (record { file = replicate 65536 0; there = here; size = length-replicate {A = ℕ} 65536 0; reads = zeros_end 65536 })));
    above = λ n up. others (segment n) (apart_names n number (λ e. omega (arith, up, e))) ∙ log.above n (omega (arith, up, lt));
  }

pub begun_log : (last number : ℕ) → last < number → (chunks : List (List ℕ)) (x y : Files) → IsLog chunks last x → MayBeginSegment number x y → IsLog chunks number y
begun_log last number lt chunks x y log (inl same) = subst (IsLog chunks number) (sym same) (record { parts = log.parts; above = λ n up. log.above n (omega (arith, up, lt)) })
begun_log last number lt chunks x y log (inr done) = fresh_log last number lt chunks x y log done

module _ {D : Type 0} (state : D → DiskState) (lawful : (d : D) → IsLawfulDisk (state d)) where
  -- what a stop since the beginning of a run may leave was an image or is one step on
  pub since_begin : {step : Files → Files → Type 0} (old new : D) (c : Files) → Elapses step (state old) (state new) → (state new).since (state old).moment c → (state old).images c ⊎ StepOf step (state old).images c
  since_begin old new c elapses left = ⊎_elim (λ was. inl ((lawful old).only_now c was)) (λ step. inr step) (elapses.nothing_else (state old).moment c (omega arith) left)

  pub append_grows_log : AppendGrowsLog state
  append_grows_log = record {
    stopped = λ old new number chunk chunks tells each elapses c left.
        ⊎_elim (λ (was : (state old).images c). inl (each tells c was))
        (λ (step : StepOf (MayAdd (segment number) chunk) (state old).images c). may_add_log number chunk chunks step.before c (each tells step.before step.was) step.stepped)
        (since_begin old new c elapses left);
    acknowledged = λ old new number chunk chunks tells each done told c image.
        let step = done c image in
        adds_log number chunk chunks step.before c (each tells step.before step.was) step.stepped;
  }

  pub begin_leaves_log : BeginLeavesLog state
  begin_leaves_log old new last number chunks tells lt each elapses c left =
      ⊎_elim (λ (was : (state old).images c). begun_log last number lt chunks c c (each tells c was) (inl refl))
      (λ (step : StepOf (MayBeginSegment number) (state old).images c). begun_log last number lt chunks step.before c (each tells step.before step.was) step.stepped)
      (since_begin old new c elapses left)
