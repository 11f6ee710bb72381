-- Names as tests see them, and the lines of a run one by one.
use Rattle.std.proofs.Common.{◌≡◌, ℕ, zero, suc, ◌≤◌, List, [], ◌∷◌, ◌++◌, take, drop, refl, sym, ap, ◌∙◌, inl, inr, arith, Bool, true, false, cond, append-nil}
use Rattle.std.specs.Prelude.{fold, nat_eq, ◌||◌}
use Rattle.std.specs.List.{list_any}
use Rattle.std.specs.Cmp.Lexicographic.{pointwise}
use Rattle.std.proofs.lemmas.Bool.Decides.{Decides-eqb}
use Rattle.std.proofs.lemmas.List.Sums.{fold-append}
use Rattle.std.proofs.lemmas.Slice.Eq.{slice_eq-Decides}
use Rattle.std.proofs.lemmas.Bool.{or_parts}
use Rattle.m3_model.specs.Members.{IsIn}
use Rattle.m3_model.specs.declared.act.Act.{Act}
use Rattle.m3_model.specs.declared.act.Act.TheVariants as act
use Rattle.m3_model.specs.declared.answer.Answer.{Answer}
use Rattle.m3_model.specs.declared.answer.Answer.TheVariants as answer
use Rattle.m3_model.specs.declared.turn.Turn.{Turn}
use Rattle.cluster_core.specs.Lists.{At}
use Rattle.transcripts.specs.Fates.{is_stopped, stopped_by}
use Rattle.transcripts.specs.Faults.{is_restart}
use Rattle.transcripts.specs.Record.{InnerTurn, inner_turns, joined, lists_of}
use Rattle.told_by.proofs.TurnLemmas.{inner-append}

-- a name is the same as itself, and names that are the same are one
pub name_self : (name : List ℕ) → pointwise nat_eq name name ≡ true
name_self name = (slice_eq-Decides Decides-eqb name name (pointwise nat_eq name name) refl).1 refl

pub name_is : (a b : List ℕ) → pointwise nat_eq a b ≡ true → a ≡ b
name_is a b e = (slice_eq-Decides Decides-eqb a b (pointwise nat_eq a b) refl).0 e

-- ---- restarts

pub any_append : {X : Type 0} (p : X → Bool) (xs ys : List X) → list_any p xs ≡ false → list_any p ys ≡ false → list_any p (xs ++ ys) ≡ false
any_append p [] ys a b = b
any_append p (x ∷ xs) ys a b = by (p x) a (any_append p xs ys)
  where
    by : (t : Bool) → (t || list_any p xs) ≡ false → (list_any p xs ≡ false → list_any p ys ≡ false → list_any p (xs ++ ys) ≡ false) → (t || list_any p (xs ++ ys)) ≡ false
    by true e later = cc
    by false e later = later e b

pub any_found : {X : Type 0} (p : X → Bool) (xs : List X) → list_any p xs ≡ true → (x : X) × IsIn xs x × (p x ≡ true)
any_found p [] e = cc
any_found p (x ∷ xs) e = by (p x) refl (any_found p xs)
  where
    by : (t : Bool) → p x ≡ t → (list_any p xs ≡ true → (y : _) × IsIn xs y × (p y ≡ true)) → (y : _) × IsIn (x ∷ xs) y × (p y ≡ true)
    by true is later = (x, inl refl, is)
    by false is later = let r = later (sym (ap (λ t. t || list_any p xs) is) ∙ e) in (r.0, inr r.1, r.2)

-- a turn that restarts the node is an ok restart of it
pub restart_is : (name : List ℕ) (t : InnerTurn) → is_restart name t ≡ true → (pick : ℕ) × (t.act ≡ act.Restart name pick) × (t.answer ≡ answer.Done)
restart_is name t e = by t.act t.answer refl refl e
  where
    by : (a : Act) (b : Answer) → t.act ≡ a → t.answer ≡ b → is_restart name (record { act = a; answer = b }) ≡ true → (pick : ℕ) × (t.act ≡ act.Restart name pick) × (t.answer ≡ answer.Done)
    by (act.Restart node pick) answer.Done ea eb is = (pick, ea ∙ ap (λ n. act.Restart n pick) (sym (name_is name node is)), eb)
    by _ _ ea eb is = cc

-- a turn that doesn't restart the node leaves it stopped
stays_by : (name : List ℕ) (a : Act) (b : Answer) → is_restart name (record { act = a; answer = b }) ≡ false → stopped_by name a b true ≡ true
stays_by name (act.Stop node) answer.Done e = by_test (pointwise nat_eq name node)
  where
    by_test : (t : Bool) → cond t true true ≡ true
    by_test true = refl
    by_test false = refl
stays_by name (act.Restart node pick) answer.Done e = ap (λ t. cond t false true) e
stays_by name _ _ e = refl

stays_stopped : (name : List ℕ) (turns : List InnerTurn) → list_any (is_restart name) turns ≡ false → fold (λ before turn. stopped_by name turn.act turn.answer before) true turns ≡ true
stays_stopped name [] e = refl
stays_stopped name (t ∷ turns) e =
    let p = or_parts (is_restart name t) (list_any (is_restart name) turns) e in
    ap (λ b. fold (λ before turn. stopped_by name turn.act turn.answer before) b turns) (stays_by name t.act t.answer p.0) ∙ stays_stopped name turns p.1

-- ---- lines

pub take_line : {X : Type 0} (xs : List X) (k : ℕ) (x : X) → At xs k x → take (suc k) xs ≡ take k xs ++ x ∷ []
take_line [] k x e = cc
take_line (y ∷ xs) zero x e = let same : y ≡ x = cc in ap (λ z. z ∷ []) same
take_line (y ∷ xs) (suc k) x e = ap (λ zs. y ∷ zs) (take_line xs k x e)

pub drop_line : {X : Type 0} (xs : List X) (j k : ℕ) (x : X) → j ≤ k → At xs k x → drop j (take (suc k) xs) ≡ drop j (take k xs) ++ x ∷ []
drop_line [] j k x low e = cc
drop_line (y ∷ xs) zero k x low e = take_line (y ∷ xs) k x e
drop_line (y ∷ xs) (suc j) zero x low e = absurd (omega (arith, low))
drop_line (y ∷ xs) (suc j) (suc k) x low e = drop_line xs j k x (omega (arith, low)) e

pub drop_past : {X : Type 0} (xs : List X) (k : ℕ) → drop k (take k xs) ≡ []
drop_past [] zero = refl
drop_past [] (suc k) = refl
drop_past (x ∷ xs) zero = refl
drop_past (x ∷ xs) (suc k) = drop_past xs k

-- a stopped node stays stopped in a line that doesn't restart it
pub stopped_on : (name : List ℕ) (turns : List Turn) (k : ℕ) (line : Turn) → At turns k line → list_any (is_restart name) (inner_turns (line ∷ [])) ≡ false → is_stopped (inner_turns (take k turns)) name ≡ true → is_stopped (inner_turns (take (suc k) turns)) name ≡ true
stopped_on name turns k line at none stopped =
    ap (λ ls. is_stopped (inner_turns ls) name) (take_line turns k line at)
    ∙ ap (λ ts. is_stopped ts name) (inner-append (take k turns) (line ∷ []))
    ∙ fold-append (λ before (turn : InnerTurn). stopped_by name turn.act turn.answer before) false (inner_turns (take k turns)) (inner_turns (line ∷ []))
    ∙ ap (λ b. fold (λ before (turn : InnerTurn). stopped_by name turn.act turn.answer before) b (inner_turns (line ∷ []))) stopped
    ∙ stays_stopped name (inner_turns (line ∷ [])) none

-- whether a node is stopped after a line of one turn
pub stopped_after : (name : List ℕ) (before : List Turn) (line : Turn) (t : InnerTurn) → lists_of line ≡ (t ∷ []) ∷ [] → is_stopped (inner_turns (before ++ line ∷ [])) name ≡ stopped_by name t.act t.answer (is_stopped (inner_turns before) name)
stopped_after name before line t alone =
    ap (λ ts. is_stopped ts name) (inner-append before (line ∷ []))
    ∙ fold-append (λ was (turn : InnerTurn). stopped_by name turn.act turn.answer was) false (inner_turns before) (inner_turns (line ∷ []))
    ∙ ap (λ ls. fold (λ was (turn : InnerTurn). stopped_by name turn.act turn.answer was) (is_stopped (inner_turns before) name) ls) (append-nil (joined (lists_of line)) ∙ ap joined alone)

-- an answer other than ok to a restart leaves the node as it was
pub refused_stays : (name node : List ℕ) (pick : ℕ) (b : Answer) (was : Bool) → (b ≡ answer.Done → ⊥) → stopped_by name (act.Restart node pick) b was ≡ was
refused_stays name node pick answer.Done was not = absurd (not refl)
refused_stays name node pick _ was not = refl
