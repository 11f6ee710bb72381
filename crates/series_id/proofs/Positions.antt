-- One tag more behind the tags that were read.
use Rattle.std.proofs.Common.{◌≡◌, ℕ, ◌+◌, ◌-◌, ◌<◌, List, [], ◌∷◌, ◌++◌, length, map, IsTrue, refl, sym, ap, ◌∙◌, subst, inl, inr, arith, append_assoc}
use Rattle.std.specs.List.{join_with_byte}
use Rattle.std.proofs.lemmas.List.{length-append}
use Rattle.m3_model.specs.Tags.{IsBelow, is_tag_name, escaped, tag_text}
use Rattle.m3_model.specs.declared.limits.TheConstants.{MOST_TAGS}
use Rattle.series_id.specs.declared.id_err.IdErr.{IdErr}
use Rattle.series_id.specs.declared.position.Position.{Position}
use Rattle.series_id.specs.Faults.{IsTagFault, IsEndFault, FaultsAfter, BeginsWithTag, BeginsSpelled, listed, last_name, MayFollow, GoesOn}
use Rattle.series_id.specs.Positions.{StandsBefore, Closes}

pub listed-push : (tags : List (List ℕ × List ℕ)) (tag : List ℕ × List ℕ) → listed (tags ++ tag ∷ []) ≡ listed tags ++ (tag_text tag ++ 44 ∷ [])
listed-push [] tag = refl
listed-push (t ∷ tags) tag = ap (λ xs. tag_text t ++ 44 ∷ xs) (listed-push tags tag) ∙ sym (append_assoc (tag_text t) (44 ∷ listed tags) (tag_text tag ++ 44 ∷ []))

pub last_name-push : (before : List ℕ) (tags : List (List ℕ × List ℕ)) (tag : List ℕ × List ℕ) → last_name before (tags ++ tag ∷ []) ≡ tag.0
last_name-push before [] tag = refl
last_name-push before (t ∷ tags) tag = last_name-push t.0 tags tag

pub follow_push : (before : List ℕ) (tags : List (List ℕ × List ℕ)) (tag : List ℕ × List ℕ) → MayFollow before tags → IsTrue (is_tag_name tag.0) → IsBelow (last_name before tags) tag.0 → MayFollow before (tags ++ tag ∷ [])
follow_push before [] tag h named above = (named, above, tt)
follow_push before (t ∷ tags) tag h named above = (h.0, h.1, follow_push t.0 tags tag h.2 named above)

pub joined-push : (tags : List (List ℕ × List ℕ)) (tag : List ℕ × List ℕ) → join_with_byte 44 (map tag_text (tags ++ tag ∷ [])) ≡ listed tags ++ tag_text tag
joined-push [] tag = refl
joined-push (t ∷ []) tag = sym (append_assoc (tag_text t) (44 ∷ []) (tag_text tag))
joined-push (t ∷ u ∷ tags) tag = ap (λ xs. tag_text t ++ 44 ∷ xs) (joined-push (u ∷ tags) tag) ∙ sym (append_assoc (tag_text t) (44 ∷ listed (u ∷ tags)) (tag_text tag))

pub length-push : (tags : List (List ℕ × List ℕ)) (tag : List ℕ × List ℕ) → length (tags ++ tag ∷ []) ≡ length tags + 1
length-push tags tag = length-append tags (tag ∷ [])

pub goes_on_next : (text : List ℕ) (tags : List (List ℕ × List ℕ)) (rest : List ℕ) (tag : List ℕ × List ℕ) (later : List ℕ) → GoesOn text tags rest → BeginsWithTag (last_name [] tags) rest tag (44 ∷ later) → length tags + 1 < MOST_TAGS → GoesOn text (tags ++ tag ∷ []) later
goes_on_next text tags rest tag later g t few = record {
  begins = g.begins ∙ ap (λ xs. 123 ∷ listed tags ++ xs) t.split
      ∙ ap (λ xs. 123 ∷ xs) (ap (λ xs. listed tags ++ xs) (sym (append_assoc (tag_text tag) (44 ∷ []) later)) ∙ sym (append_assoc (listed tags) (tag_text tag ++ 44 ∷ []) later) ∙ ap (λ xs. xs ++ later) (sym (listed-push tags tag)));
  follow = follow_push [] tags tag g.follow t.named t.above;
  few = omega (arith, length-push tags tag);
}

pub closes_next : (text : List ℕ) (tags : List (List ℕ × List ℕ)) (rest : List ℕ) (tag : List ℕ × List ℕ) → GoesOn text tags rest → BeginsWithTag (last_name [] tags) rest tag (125 ∷ []) → Closes text (tags ++ tag ∷ [])
closes_next text tags rest tag g t = record {
  spelled = g.begins ∙ ap (λ xs. 123 ∷ listed tags ++ xs) t.split
      ∙ ap (λ xs. 123 ∷ xs) (sym (append_assoc (listed tags) (tag_text tag) (125 ∷ [])) ∙ ap (λ xs. xs ++ 125 ∷ []) (sym (joined-push tags tag)));
  follow = follow_push [] tags tag g.follow t.named t.above;
  some = omega (arith, length-push tags tag);
  few = omega (arith, length-push tags tag, g.few);
}

pub at_next : (at : ℕ) (tags : List (List ℕ × List ℕ)) (rest : List ℕ) (tag : List ℕ × List ℕ) (later : List ℕ) → at ≡ 1 + length (listed tags) → rest ≡ tag_text tag ++ 44 ∷ later
    → at + (length rest - length later) ≡ 1 + length (listed (tags ++ tag ∷ []))
at_next at tags rest tag later e split =
    omega (arith, e, ap length split, length-append (tag_text tag) (44 ∷ later), ap length (listed-push tags tag), length-append (listed tags) (tag_text tag ++ 44 ∷ []), length-append (tag_text tag) (44 ∷ []))

-- a fault of the tag at the position
pub tag_faults : (position : Position) (e : IdErr) → IsTagFault position.before.now position.at position.rest.now e → (text : List ℕ) (tags : List (List ℕ × List ℕ)) → StandsBefore text tags position → FaultsAfter text tags position.rest.now e
tag_faults position e fault text tags s = record {
  goes_on = s.goes_on;
  faults = inl (subst (λ n. IsTagFault (last_name [] tags) n position.rest.now e) s.at (subst (λ before. IsTagFault before position.at position.rest.now e) s.before fault));
}

tag_at : (position : Position) (tag : List ℕ × List ℕ) (later : List ℕ) → BeginsWithTag position.before.now position.rest.now tag later → (text : List ℕ) (tags : List (List ℕ × List ℕ)) → StandsBefore text tags position → BeginsWithTag (last_name [] tags) position.rest.now tag later
tag_at position tag later begins text tags s = record { split = begins.split; named = begins.named; above = subst (λ before. IsBelow before tag.0) s.before begins.above }

-- a fault after that tag
pub end_faults : (position : Position) (tag : List ℕ × List ℕ) (later : List ℕ) (e : IdErr) → BeginsWithTag position.before.now position.rest.now tag later → IsEndFault (position.number + 1) later e → (text : List ℕ) (tags : List (List ℕ × List ℕ)) → StandsBefore text tags position → FaultsAfter text tags position.rest.now e
end_faults position tag later e begins fault text tags s = record {
  goes_on = s.goes_on;
  faults = inr (tag, later, tag_at position tag later begins text tags s, subst (λ n. IsEndFault (n + 1) later e) s.number fault);
}

later_is : (before rest : List ℕ) (tag : List ℕ × List ℕ) (later wanted : List ℕ) → BeginsWithTag before rest tag later → later ≡ wanted → BeginsWithTag before rest tag wanted
later_is before rest tag later wanted h e = subst (BeginsWithTag before rest tag) e h

-- the last tag was read
pub read_last : (position : Position) (name spelling later : List ℕ) → BeginsSpelled position.before.now position.rest.now name spelling later → later ≡ 125 ∷ []
    → (text : List ℕ) (tags : List (List ℕ × List ℕ)) → StandsBefore text tags position → (tag : List ℕ × List ℕ) × (name ≡ tag.0) × (spelling ≡ escaped tag.1) × Closes text (tags ++ tag ∷ []) × ((later : List ℕ) × (text ≡ 123 ∷ listed tags ++ (tag_text tag ++ later)))
read_last position name spelling later b e text tags s =
    let tag : List ℕ × List ℕ = (name, b.0) in
    (tag, refl, b.1, closes_next text tags position.rest.now tag s.goes_on (later_is _ _ tag later _ (tag_at position tag later b.2 text tags s) e), (later, s.goes_on.begins ∙ ap (λ xs. 123 ∷ listed tags ++ xs) b.2.split))

-- a tag was read, and another one has to stand at the next position
pub read_more : (position next : Position) (name spelling later : List ℕ) → BeginsSpelled position.before.now position.rest.now name spelling later → later ≡ 44 ∷ next.rest.now
    → position.number + 1 < MOST_TAGS → next.before.now ≡ name → next.at ≡ position.at + (length position.rest.now - length next.rest.now) → next.number ≡ position.number + 1
    → (text : List ℕ) (tags : List (List ℕ × List ℕ)) → StandsBefore text tags position → (tag : List ℕ × List ℕ) × (name ≡ tag.0) × (spelling ≡ escaped tag.1) × StandsBefore text (tags ++ tag ∷ []) next × ((later : List ℕ) × (text ≡ 123 ∷ listed tags ++ (tag_text tag ++ later)))
read_more position next name spelling later b e few before at number text tags s =
    let tag : List ℕ × List ℕ = (name, b.0) in
    let here : BeginsWithTag (last_name [] tags) position.rest.now tag (44 ∷ next.rest.now) = later_is _ _ tag later _ (tag_at position tag later b.2 text tags s) e in (
      tag,
      refl,
      b.1,
      record {
        goes_on = goes_on_next text tags position.rest.now tag next.rest.now s.goes_on here (omega (arith, s.number));
        before = before ∙ sym (last_name-push [] tags tag);
        at = at ∙ at_next position.at tags position.rest.now tag next.rest.now s.at here.split;
        number = omega (arith, s.number, number, length-push tags tag);
      },
      (later, s.goes_on.begins ∙ ap (λ xs. 123 ∷ listed tags ++ xs) b.2.split),
    )
