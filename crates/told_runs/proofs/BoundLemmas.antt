-- A list that is full was filled by many requests and writes.
use Rattle.std.proofs.Common.{◌≡◌, ◌≤◌, ◌<◌, ◌+◌, ◌*◌, ℕ, zero, suc, List, [], ◌∷◌, ◌++◌, length, take, refl, sym, ap, ◌∙◌, subst, arith, length-append}
use Rattle.std.specs.Prelude.{Some, count_by, cond}
use Rattle.std.specs.List.{flat_map}
use Rattle.std.proofs.Math.Nat.{add-mul, mul-add, mul-le-mul_left}
use Rattle.std.proofs.lemmas.Grind.{flat_map-append}
use Rattle.std.proofs.lemmas.List.Sums.{sum_by-append}
use Rattle.m3_model.specs.declared.limits.TheConstants.{MOST_REQUEST_EVENTS}
use Rattle.m3_model.specs.declared.turn.Turn.{Turn}
use Rattle.cluster_core.specs.Lists.{At}
use Rattle.cluster_core.proofs.ListLemmas.{at_some}
use Rattle.transcripts.specs.Caused.{MayBeFull, acts_in, acts_taken, is_write}
use Rattle.transcripts.specs.Record.{Record, TurnPosition, acts_of}
use Rattle.told_causes.proofs.NameLemmas.{take_line}
use Rattle.told_runs.specs.Answers.{MayLackRoom}
use Rattle.told_runs.specs.Bounds.{IsBounded, writes_taken}

-- what one more line adds
one_more : (before here m some more least most : ℕ) → before ≤ 2 + (m * some) * (most + 1) → here ≤ before + (m * more) * (least + 1) → least ≤ most → here ≤ 2 + (m * (some + more)) * (most + 1)
one_more before here m some more least most was adds low =
    let wide : (m * more) * (least + 1) ≤ (m * more) * (most + 1) = mul-le-mul_left (m * more) (omega (arith, low)) in
    let split : (m * (some + more)) * (most + 1) ≡ (m * some) * (most + 1) + (m * more) * (most + 1) = ap (λ x. x * (most + 1)) (mul-add m some more) ∙ add-mul (m * some) (m * more) (most + 1) in
    omega (arith, was, adds, wide, split)

module _ (past : List Record) (turns : List Turn) (ends : ℕ → ℕ) (bounded : IsBounded past turns ends) (first : ends 0 ≤ 2) where
  acts_next : (k : ℕ) (line : Turn) → At turns k line → acts_in (take (suc k) turns) ≡ acts_in (take k turns) ++ acts_in (line ∷ [])
  acts_next k line at = ap acts_in (take_line turns k line at) ∙ flat_map-append (λ (turn : Turn). acts_of (Some turn.request)) (take k turns) (line ∷ [])

  -- writes only come
  writes_grow : (k : ℕ) (line : Turn) → At turns k line → writes_taken past (take k turns) ≤ writes_taken past (take (suc k) turns)
  writes_grow k line at =
      let earlier = flat_map acts_taken past in
      let next : writes_taken past (take (suc k) turns) ≡ count_by is_write earlier + (count_by is_write (acts_in (take k turns)) + count_by is_write (acts_in (line ∷ []))) =
      ap (λ acts. count_by is_write (earlier ++ acts)) (acts_next k line at)
      ∙ sum_by-append (λ a. cond (is_write a) 1 0) earlier (acts_in (take k turns) ++ acts_in (line ∷ []))
      ∙ ap (λ n. count_by is_write earlier + n) (sum_by-append (λ a. cond (is_write a) 1 0) (acts_in (take k turns)) (acts_in (line ∷ []))) in
      let now : writes_taken past (take k turns) ≡ count_by is_write earlier + count_by is_write (acts_in (take k turns)) = sum_by-append (λ a. cond (is_write a) 1 0) earlier (acts_in (take k turns)) in
      omega (arith, next, now)

  -- the events by the end of so many lines, where as many writes at most were taken by then
  pub events_within : (k most : ℕ) → k ≤ length turns → writes_taken past (take k turns) ≤ most → ends k ≤ 2 + (MOST_REQUEST_EVENTS * length (acts_in (take k turns))) * (most + 1)
  events_within zero most high low = omega (arith, first)
  events_within (suc k) most high low =
      let line = at_some turns k (omega (arith, high)) in
      let grows = writes_grow k line.0 line.1 in
      let acts : length (acts_in (take (suc k) turns)) ≡ length (acts_in (take k turns)) + length (acts_in (line.0 ∷ [])) = ap length (acts_next k line.0 line.1) ∙ length-append (acts_in (take k turns)) (acts_in (line.0 ∷ [])) in
      subst (λ n. ends (suc k) ≤ 2 + (MOST_REQUEST_EVENTS * n) * (most + 1)) (sym acts)
      (one_more (ends k) (ends (suc k)) MOST_REQUEST_EVENTS (length (acts_in (take k turns))) (length (acts_in (line.0 ∷ []))) (writes_taken past (take (suc k) turns)) most (events_within k most (omega (arith, high)) (omega (arith, grows, low))) (bounded k line.0 line.1) low)

-- what one request more than were taken may add
room_for_one : (requests writes : ℕ) → (MOST_REQUEST_EVENTS * requests) * (writes + 1) + MOST_REQUEST_EVENTS ≤ (MOST_REQUEST_EVENTS * (requests + 1)) * (writes + 1)
room_for_one requests writes =
    let split : (MOST_REQUEST_EVENTS * (requests + 1)) * (writes + 1) ≡ (MOST_REQUEST_EVENTS * requests) * (writes + 1) + (MOST_REQUEST_EVENTS * 1) * (writes + 1) =
    ap (λ x. x * (writes + 1)) (mul-add MOST_REQUEST_EVENTS requests 1) ∙ add-mul (MOST_REQUEST_EVENTS * requests) (MOST_REQUEST_EVENTS * 1) (writes + 1) in
    let one : 1 ≤ writes + 1 = omega arith in
    let some : (MOST_REQUEST_EVENTS * 1) * 1 ≤ (MOST_REQUEST_EVENTS * 1) * (writes + 1) = mul-le-mul_left (MOST_REQUEST_EVENTS * 1) one in
    omega (arith, split, some)

-- where the list may have lacked room by the end of a turn's line, so many requests and writes were taken
pub full_by_many : (past : List Record) (turns : List Turn) (ends : ℕ → ℕ) → IsBounded past turns ends → ends 0 ≤ 2 → (p : TurnPosition) → take (suc (length p.lines)) turns ≡ p.lines ++ p.line ∷ [] → length p.lines < length turns
    → (end : ℕ) → end ≤ ends (suc (length p.lines)) → MayLackRoom end → MayBeFull past p
full_by_many past turns ends bounded first p lines less end high full =
    let here = p.lines ++ p.line ∷ [] in
    let writes = writes_taken past here in
    let within : ends (suc (length p.lines)) ≤ 2 + (MOST_REQUEST_EVENTS * length (acts_in here)) * (writes + 1) =
    subst (λ ls. ends (suc (length p.lines)) ≤ 2 + (MOST_REQUEST_EVENTS * length (acts_in ls)) * (writes + 1)) lines
    (events_within past turns ends bounded first (suc (length p.lines)) writes less (subst (λ ls. writes_taken past ls ≤ writes) (sym lines) (omega arith))) in
    let room = room_for_one (length (acts_in here)) writes in
    record { requests = length (acts_in here); requests_are = refl; writes = writes; writes_are = refl; many = omega (arith, within, room, high, full) }
