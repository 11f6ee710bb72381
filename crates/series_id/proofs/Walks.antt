-- A walk over the tags of a text.
use Rattle.std.proofs.Common.{◌≡◌, ℕ, ◌+◌, ◌-◌, ◌<◌, ◌≤◌, List, [], ◌∷◌, ◌++◌, length, true, false, refl, sym, ap, ◌∙◌, inl, inr, arith}
use Rattle.std.specs.Prelude.{IsUtf8, Option, Some, None, MatchOption}
use Rattle.std.proofs.lemmas.List.{length-append}
use Rattle.m3_model.specs.Tags.{IsSpelledBy, HasTags}
use Rattle.series_id.specs.declared.id_err.IdErr.{IdErr}
use Rattle.series_id.specs.declared.position.Position.{Position}
use Rattle.series_id.specs.declared.position.Tag.{Tag}
use Rattle.m3_model.specs.Identifiers.{begins_tagged, IsPlain, IsIdentifier}
use Rattle.m3_model.specs.declared.limits.TheConstants.{MOST_ID_BYTES, MOST_TAGS}
use Rattle.series_id.specs.Faults.{listed, FaultsAfter, IsFirstFault}
use Rattle.series_id.specs.Positions.{StandsBefore, Closes, ReadsTag, IsReading}
use Rattle.series_id.proofs.Positions.{length-push}
use Rattle.series_id.proofs.Excluded.{closes_spelled, fault_excludes}

-- how many tags may still stand at the position
abbrev pub left : Option Position → ℕ
left None = 0
left (Some here) = MOST_TAGS - here.number

pub stands_within : (text : List ℕ) (tags : List (List ℕ × List ℕ)) (here : Position) → StandsBefore text tags here → length text ≤ MOST_ID_BYTES → here.at + length here.rest.now ≤ MOST_ID_BYTES
stands_within text tags here s short = omega (arith, s.at, ap length s.goes_on.begins, length-append (listed tags) here.rest.now)

pub stands_few : (text : List ℕ) (tags : List (List ℕ × List ℕ)) (here : Position) → StandsBefore text tags here → here.number < MOST_TAGS
stands_few text tags here s = omega (arith, s.number, s.goes_on.few)

-- an identifier without tags has none
pub plain_tags : (text : List ℕ) → IsPlain text → HasTags text []
plain_tags text p = inr (refl, λ others s. apart others s)
  where
    apart : (others : List (List ℕ × List ℕ)) → IsSpelledBy text others → ⊥
    apart others s = let never : true ≡ false = sym (ap begins_tagged s.spelled) ∙ p.untagged in cc

pub go_on : (P : List (List ℕ × List ℕ) → Type 0) (text : List ℕ) (tags : List (List ℕ × List ℕ)) (read : Tag) → IsUtf8 text → length text ≤ MOST_ID_BYTES → (r : ReadsTag text tags read) → P (tags ++ r.0 ∷ []) → IsReading P text read.next
go_on P text tags read utf8 short r p = by_next read.next r.3
  where
    by_next : (next : Option Position) → MatchOption next (Closes text (tags ++ r.0 ∷ [])) (StandsBefore text (tags ++ r.0 ∷ [])) → IsReading P text next
    by_next None c =
        let spelled : IsSpelledBy text (tags ++ r.0 ∷ []) = closes_spelled text (tags ++ r.0 ∷ []) c utf8 short in
        (inr (tags ++ r.0 ∷ [], spelled), (tags ++ r.0 ∷ [], inl spelled, p))
    by_next (Some next) s = (tags ++ r.0 ∷ [], s, p)

pub left_less : (text : List ℕ) (tags : List (List ℕ × List ℕ)) (here : Position) (read : Tag) → StandsBefore text tags here → ReadsTag text tags read → left read.next < MOST_TAGS - here.number
left_less text tags here read s r = by_next read.next r.3
  where
    by_next : (next : Option Position) → MatchOption next (Closes text (tags ++ r.0 ∷ [])) (StandsBefore text (tags ++ r.0 ∷ [])) → left next < MOST_TAGS - here.number
    by_next None c = omega (arith, s.number, s.goes_on.few)
    by_next (Some next) t = omega (arith, s.number, s.goes_on.few, t.number, t.goes_on.few, length-push tags r.0)

pub first_fault : (text : List ℕ) (tags : List (List ℕ × List ℕ)) (rest : List ℕ) (e : IdErr) → length text ≤ MOST_ID_BYTES → FaultsAfter text tags rest e → IsFirstFault text e × ¬ IsIdentifier text
first_fault text tags rest e short f = (inr (inr (short, (tags, rest, f))), fault_excludes text rest tags e f)
