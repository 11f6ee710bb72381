-- Where turns stand in a run.
use Rattle.std.proofs.Common.{◌≡◌, ℕ, zero, suc, ◌<◌, ◌≤◌, List, [], ◌∷◌, ◌++◌, length, refl, sym, ap, ◌∙◌, subst, inl, inr, arith, append_assoc, append-nil, length-append}
use Rattle.std.proofs.lemmas.Bool.{cases_lt, cases_eq}
use Rattle.std.proofs.lemmas.Grind.{flat_map-append}
use Rattle.std.proofs.lemmas.Option.{same_Some}
use Rattle.m3_model.proofs.MemberLemmas.{IsIn-append_left, IsIn-append_right}
use Rattle.m3_model.proofs.Lists.{IsIn-flat_map, flat_map-IsIn}
use Rattle.m3_model.specs.Members.{IsIn}
use Rattle.transcripts.specs.Record.{InnerTurn, TurnPosition, IsTurnPosition, IsInLine, client_at, lists_of, joined, inner_turns}
use Rattle.m3_model.specs.declared.turn.Turn.{Turn}
use Rattle.cluster_core.specs.Lists.{At}
use Rattle.cluster_core.proofs.ListLemmas.{at_same}
use Rattle.told_by.specs.Spans.{IsEarlier, IsAlone}

-- ---- lists cut at an element

pub split_in : {X : Type 0} (xs : List X) (x : X) → IsIn xs x → (front : List X) × (back : List X) × (xs ≡ front ++ x ∷ back)
split_in [] x h = absurd h
split_in (y ∷ ys) x h =
    elim h as (λ _. (front : List _) × (back : List _) × (y ∷ ys ≡ front ++ x ∷ back)) [
      | inl e ↦ ([], ys, ap (λ z. z ∷ ys) e)
      | inr r ↦ let s = split_in ys x r in (y ∷ s.0, s.1, ap (λ zs. y ∷ zs) s.2)
    ]

-- two cuts of one list, the one before the other
pub cut_before : {X : Type 0} (xs : List X) (x : X) (ys zs : List X) (z : X) (ws : List X) → xs ++ x ∷ ys ≡ zs ++ z ∷ ws → length xs < length zs → (rest : List X) × (zs ≡ xs ++ x ∷ rest)
cut_before xs x ys [] z ws e lt = absurd (omega arith)
cut_before [] x ys (w ∷ zs) z ws e lt = let same : x ≡ w = cc in (zs, ap (λ v. v ∷ zs) (sym same))
cut_before (v ∷ xs) x ys (w ∷ zs) z ws e lt =
    let same : v ≡ w = cc in
    let tails : xs ++ x ∷ ys ≡ zs ++ z ∷ ws = cc in
    let r = cut_before xs x ys zs z ws tails (omega arith) in
    (r.0, λ i. sym same i ∷ r.1 i)

-- at one place
pub record SameCut {X : Type 0} (xs : List X) (x : X) (ys zs : List X) (z : X) (ws : List X) : Type 0 where
  pub fronts : xs ≡ zs
  pub heres : x ≡ z
  pub backs : ys ≡ ws

pub cut_same : {X : Type 0} (xs : List X) (x : X) (ys zs : List X) (z : X) (ws : List X) → xs ++ x ∷ ys ≡ zs ++ z ∷ ws → length xs ≡ length zs → SameCut xs x ys zs z ws
cut_same [] x ys [] z ws e same = record { fronts = refl; heres = cc; backs = cc }
cut_same [] x ys (w ∷ zs) z ws e same = absurd (omega arith)
cut_same (v ∷ xs) x ys [] z ws e same = absurd (omega arith)
cut_same (v ∷ xs) x ys (w ∷ zs) z ws e same =
    let first : v ≡ w = cc in
    let tails : xs ++ x ∷ ys ≡ zs ++ z ∷ ws = cc in
    let r = cut_same xs x ys zs z ws tails (omega arith) in
    record { fronts = λ i. first i ∷ r.fronts i; heres = r.heres; backs = r.backs }

pub in_cut : {X : Type 0} (xs : List X) (x : X) (ys : List X) → IsIn (xs ++ x ∷ ys) x
in_cut xs x ys = IsIn-append_right xs (x ∷ ys) x (inl refl)

pub at_cut : {X : Type 0} (xs : List X) (x : X) (ys : List X) → At (xs ++ x ∷ ys) (length xs) x
at_cut [] x ys = refl
at_cut (y ∷ xs) x ys = at_cut xs x ys

pub cut_at : {X : Type 0} (xs : List X) (i : ℕ) (x : X) → At xs i x → (front : List X) × (back : List X) × (xs ≡ front ++ x ∷ back) × (length front ≡ i)
cut_at [] i x e = cc
cut_at (y ∷ ys) zero x e = ([], ys, ap (λ z. z ∷ ys) (same_Some y x e), refl)
cut_at (y ∷ ys) (suc i) x e = let r = cut_at ys i x e in (y ∷ r.0, r.1, ap (λ zs. y ∷ zs) r.2, ap suc r.3)

pub inner-append : (xs ys : List Turn) → inner_turns (xs ++ ys) ≡ inner_turns xs ++ inner_turns ys
inner-append xs ys = flat_map-append (λ (turn : Turn). joined (lists_of turn)) xs ys

-- ---- the positions of turns

-- a turn of the run stands somewhere, in a line before this position
pub record InEarlierLine (turns : List Turn) (b : TurnPosition) (t : InnerTurn) : Type 0 where
  pub position : TurnPosition
  pub in_run : IsTurnPosition turns position
  pub turn_is : position.turn ≡ t
  pub earlier : length position.lines < length b.lines

pub position_in : (turns lines : List Turn) (line : Turn) (after : List Turn) → turns ≡ lines ++ line ∷ after → (t : InnerTurn) → IsIn (joined (lists_of line)) t
    → (q : TurnPosition) × IsTurnPosition turns q × (q.turn ≡ t) × (q.lines ≡ lines)
position_in turns lines line after e t h =
    let list = IsIn-flat_map (λ (xs : List InnerTurn). xs) (lists_of line) t h in
    let around = split_in (lists_of line) list.0 list.1 in
    let within = split_in list.0 t list.2 in
    let q : TurnPosition = record { lines = lines; line = line; client = client_at line.request (length around.0); earlier = within.0; beside = joined around.0 ++ joined around.1; turn = t } in
    (q, record { after = after; in_run = e; stands = record { front = around.0; later = within.1; back = around.1; in_line = around.2 ∙ ap (λ (xs : List InnerTurn). around.0 ++ xs ∷ around.1) within.2; others = refl; client_is = refl } }, refl, refl)

pub earlier_line : (turns : List Turn) (b : TurnPosition) → IsTurnPosition turns b → (t : InnerTurn) → IsIn (inner_turns b.lines) t → InEarlierLine turns b t
earlier_line turns b at t h =
    let line = IsIn-flat_map (λ (turn : Turn). joined (lists_of turn)) b.lines t h in
    let cut = split_in b.lines line.0 line.1 in
    let whole : turns ≡ cut.0 ++ line.0 ∷ (cut.1 ++ b.line ∷ at.after) = at.in_run ∙ ap (λ xs. xs ++ b.line ∷ at.after) cut.2 ∙ append_assoc cut.0 (line.0 ∷ cut.1) (b.line ∷ at.after) in
    let q = position_in turns cut.0 line.0 (cut.1 ++ b.line ∷ at.after) whole t line.2 in
    record { position = q.0; in_run = q.1; turn_is = q.2; earlier = omega (arith, ap length q.3, ap length cut.2, length-append cut.0 (line.0 ∷ cut.1)) }

-- a turn of the run stands earlier in the list of this position
pub record InOwnList (turns : List Turn) (b : TurnPosition) (t : InnerTurn) : Type 0 where
  pub position : TurnPosition
  pub in_run : IsTurnPosition turns position
  pub turn_is : position.turn ≡ t
  pub lines_are : position.lines ≡ b.lines
  pub client_is : position.client ≡ b.client
  pub earlier : length position.earlier < length b.earlier

pub own_list : (turns : List Turn) (b : TurnPosition) → IsTurnPosition turns b → (t : InnerTurn) → IsIn b.earlier t → InOwnList turns b t
own_list turns b at t h =
    let here = at.stands in
    let cut = split_in b.earlier t h in
    let q : TurnPosition = record { lines = b.lines; line = b.line; client = b.client; earlier = cut.0; beside = b.beside; turn = t } in
    record {
      position = q;
      in_run = record {
        after = at.after;
        in_run = at.in_run;
        stands = record {
          front = here.front;
          later = cut.1 ++ b.turn ∷ here.later;
          back = here.back;
          in_line = here.in_line ∙ ap (λ xs. here.front ++ (xs ++ b.turn ∷ here.later) ∷ here.back) cut.2 ∙ ap (λ xs. here.front ++ xs ∷ here.back) (append_assoc cut.0 (t ∷ cut.1) (b.turn ∷ here.later));
          others = here.others;
          client_is = here.client_is;
        };
      };
      turn_is = refl;
      lines_are = refl;
      client_is = refl;
      earlier = omega (arith, ap length cut.2, length-append cut.0 (t ∷ cut.1));
    }

-- ---- two positions of one run

-- what one turn of the run is to another
pub data Stands (q b : TurnPosition) : Type 0 where
  before_line : (rest : List Turn) (line : Turn) → b.lines ≡ q.lines ++ line ∷ rest → IsIn (joined (lists_of line)) q.turn → Stands q b
  before_there : q.lines ≡ b.lines → IsIn b.earlier q.turn → Stands q b
  in_other_list : q.lines ≡ b.lines → IsIn b.beside q.turn → Stands q b
  is_it : q ≡ b → Stands q b
  comes_later : IsEarlier b q → Stands q b

in_list : {X : Type 0} (front : List (List X)) (earlier : List X) (x : X) (later : List X) (back : List (List X)) → IsIn (joined (front ++ (earlier ++ x ∷ later) ∷ back)) x
in_list front earlier x later back = flat_map-IsIn (λ list. list) (front ++ (earlier ++ x ∷ later) ∷ back) (earlier ++ x ∷ later) x (in_cut front (earlier ++ x ∷ later) back) (in_cut earlier x later)

pub in_its_line : (q : TurnPosition) → IsInLine q → IsIn (joined (lists_of q.line)) q.turn
in_its_line q at = subst (λ ls. IsIn (joined ls) q.turn) (sym at.in_line) (in_list at.front q.earlier q.turn at.later at.back)

in_other : {X : Type 0} (fq : List (List X)) (lq : List X) (bq fb : List (List X)) (lb : List X) (bb : List (List X)) (x : X) → fq ++ lq ∷ bq ≡ fb ++ lb ∷ bb → length fq < length fb → IsIn lq x → IsIn (joined fb) x
in_other fq lq bq fb lb bb x e lt h =
    let r = cut_before fq lq bq fb lb bb e lt in
    flat_map-IsIn (λ list. list) fb lq x (subst (λ ls. IsIn ls lq) (sym r.1) (in_cut fq lq r.0)) h

-- the same, where the other list comes first
in_other_back : {X : Type 0} (fq : List (List X)) (lq : List X) (bq fb : List (List X)) (lb : List X) (bb : List (List X)) (x : X) → fq ++ lq ∷ bq ≡ fb ++ lb ∷ bb → length fb < length fq → IsIn lq x → IsIn (joined bb) x
in_other_back [] lq bq fb lb bb x e lt h = absurd (omega arith)
in_other_back (f ∷ fq) lq bq [] lb bb x e lt h =
    let tails : fq ++ lq ∷ bq ≡ bb = cc in
    flat_map-IsIn (λ list. list) bb lq x (subst (λ ls. IsIn ls lq) tails (in_cut fq lq bq)) h
in_other_back (f ∷ fq) lq bq (g ∷ fb) lb bb x e lt h =
    let tails : fq ++ lq ∷ bq ≡ fb ++ lb ∷ bb = cc in
    in_other_back fq lq bq fb lb bb x tails (omega arith) h

-- in one line
stands_in_line : (q b : TurnPosition) (line : Turn) → q.line ≡ b.line → (fq fb : List (List InnerTurn)) (lq lb : List InnerTurn) (bq bb : List (List InnerTurn)) → q.lines ≡ b.lines
    → lists_of line ≡ fq ++ (q.earlier ++ q.turn ∷ lq) ∷ bq → lists_of line ≡ fb ++ (b.earlier ++ b.turn ∷ lb) ∷ bb → q.beside ≡ joined fq ++ joined bq → b.beside ≡ joined fb ++ joined bb
    → q.client ≡ client_at line.request (length fq) → b.client ≡ client_at line.request (length fb) → Stands q b
stands_in_line q b line same_line_is fq fb lq lb bq bb lines ql bl own_others others qc bc =
    let both = sym ql ∙ bl in
    let here : IsIn (q.earlier ++ q.turn ∷ lq) q.turn = in_cut q.earlier q.turn lq in
    elim (cases_lt (length fq) (length fb)) as (λ _. Stands q b) [
      | inl lt ↦ in_other_list lines (subst (λ xs. IsIn xs q.turn) (sym others) (IsIn-append_left (joined fb) (joined bb) q.turn (in_other fq (q.earlier ++ q.turn ∷ lq) bq fb (b.earlier ++ b.turn ∷ lb) bb q.turn both lt here)))
      | inr ge ↦ elim (cases_lt (length fb) (length fq)) as (λ _. Stands q b) [
        | inl gt ↦ in_other_list lines (subst (λ xs. IsIn xs q.turn) (sym others) (IsIn-append_right (joined fb) (joined bb) q.turn (in_other_back fq (q.earlier ++ q.turn ∷ lq) bq fb (b.earlier ++ b.turn ∷ lb) bb q.turn both gt here)))
        | inr le ↦
            let fronts : length fq ≡ length fb = omega arith in
            let cut = cut_same fq (q.earlier ++ q.turn ∷ lq) bq fb (b.earlier ++ b.turn ∷ lb) bb both fronts in
            let clients : b.client ≡ q.client = bc ∙ ap (client_at line.request) (sym fronts) ∙ sym qc in
            let same_line : length b.lines ≡ length q.lines = ap length (sym lines) in
            elim (cases_lt (length q.earlier) (length b.earlier)) as (λ _. Stands q b) [
              | inl earlier ↦
                  let r = cut_before q.earlier q.turn lq b.earlier b.turn lb cut.heres earlier in
                  before_there lines (subst (λ xs. IsIn xs q.turn) (sym r.1) (in_cut q.earlier q.turn r.0))
              | inr not_earlier ↦ elim (cases_eq (length b.earlier) (length q.earlier)) as (λ _. Stands q b) [
                | inl equal ↦
                    let here = cut_same q.earlier q.turn lq b.earlier b.turn lb cut.heres (sym equal) in
                    let beside : q.beside ≡ b.beside = own_others ∙ ap (λ ls. joined ls ++ joined bq) cut.fronts ∙ ap (λ ls. joined fb ++ joined ls) cut.backs ∙ sym others in
                    is_it (λ i. record { lines = lines i; line = same_line_is i; client = sym clients i; earlier = here.fronts i; beside = beside i; turn = here.heres i })
                | inr other ↦ let later : length b.earlier < length q.earlier = omega arith in comes_later (inr (same_line, clients, later))
              ]
            ]
      ]
    ]

pub stands : (turns : List Turn) (q b : TurnPosition) → IsTurnPosition turns q → IsTurnPosition turns b → Stands q b
stands turns q b qa ba =
    let both = sym qa.in_run ∙ ba.in_run in
    elim (cases_lt (length q.lines) (length b.lines)) as (λ _. Stands q b) [
      | inl lt ↦ let r = cut_before q.lines q.line qa.after b.lines b.line ba.after both lt in before_line r.0 q.line r.1 (in_its_line q qa.stands)
      | inr ge ↦ elim (cases_eq (length b.lines) (length q.lines)) as (λ _. Stands q b) [
        | inr ne ↦ let later : length b.lines < length q.lines = omega arith in comes_later (inl later)
        | inl e ↦
            let cut = cut_same q.lines q.line qa.after b.lines b.line ba.after both (sym e) in
            stands_in_line q b q.line cut.heres (qa.stands).front (ba.stands).front (qa.stands).later (ba.stands).later (qa.stands).back (ba.stands).back cut.fronts (qa.stands).in_line (ap lists_of cut.heres ∙ (ba.stands).in_line) (qa.stands).others (ba.stands).others (qa.stands).client_is
            ((ba.stands).client_is ∙ ap (λ (l : Turn). client_at l.request (length (ba.stands).front)) (sym cut.heres))
      ]
    ]

-- the lines before an earlier turn, or one of the same line, are a front of those before the other
pub lines_upto : (turns : List Turn) (q b : TurnPosition) → IsTurnPosition turns q → IsTurnPosition turns b → length q.lines ≤ length b.lines → (rest : List Turn) × (b.lines ≡ q.lines ++ rest)
lines_upto turns q b qa ba le =
    let both = sym qa.in_run ∙ ba.in_run in
    elim (cases_lt (length q.lines) (length b.lines)) as (λ _. (rest : List Turn) × (b.lines ≡ q.lines ++ rest)) [
      | inl lt ↦ let r = cut_before q.lines q.line qa.after b.lines b.line ba.after both lt in (q.line ∷ r.0, r.1)
      | inr ge ↦ let cut = cut_same q.lines q.line qa.after b.lines b.line ba.after both (omega arith) in ([], sym cut.fronts ∙ sym (append-nil q.lines))
    ]

-- ---- turns that are alone in their lines

only_one : {X : Type 0} (x : X) (front : List (List X)) (earlier : List X) (y : X) (later : List X) (back : List (List X)) → (x ∷ []) ∷ [] ≡ front ++ (earlier ++ y ∷ later) ∷ back → x ≡ y
only_one x [] [] y later back e = let list : x ∷ [] ≡ y ∷ later = cc in cc
only_one x [] (z ∷ earlier) y later back e = let list : x ∷ [] ≡ z ∷ (earlier ++ y ∷ later) = cc in let rest : [] ≡ earlier ++ y ∷ later = cc in absurd (no_cut earlier y later rest)
  where
    no_cut : {X : Type 0} (xs : List X) (y : X) (ys : List X) → [] ≡ xs ++ y ∷ ys → ⊥
    no_cut [] y ys e = cc
    no_cut (x ∷ xs) y ys e = cc
only_one x (l ∷ front) earlier y later back e = let rest : [] ≡ front ++ (earlier ++ y ∷ later) ∷ back = cc in absurd (no_cut front (earlier ++ y ∷ later) back rest)
  where
    no_cut : {X : Type 0} (xs : List X) (y : X) (ys : List X) → [] ≡ xs ++ y ∷ ys → ⊥
    no_cut [] y ys e = cc
    no_cut (x ∷ xs) y ys e = cc

-- whatever stands in the line of a turn that is alone is this turn
pub alone_is : (turns : List Turn) (q b : TurnPosition) → IsAlone turns q → IsTurnPosition turns b → length b.lines ≡ length q.lines → q.turn ≡ b.turn
alone_is turns q b alone at same =
    let there : At turns (length b.lines) b.line = subst (λ ts. At ts (length b.lines) b.line) (sym at.in_run) (at_cut b.lines b.line at.after) in
    let line : b.line ≡ alone.0 = at_same turns (length q.lines) b.line alone.0 (subst (λ n. At turns n b.line) same there) alone.1 in
    only_one q.turn (at.stands).front b.earlier b.turn (at.stands).later (at.stands).back (sym (alone.2) ∙ ap lists_of (sym line) ∙ (at.stands).in_line)
