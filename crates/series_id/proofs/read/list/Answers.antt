use Rattle.std.proofs.Common.{[], ◌∷◌, ◌++◌, ◌<◌, ◌≡◌, sym, subst, ◌∙◌, inr}
use Rattle.std.proofs.lemmas.Result.{err_from_is_err_and}
use Rattle.std.specs.Prelude.{IsUtf8}
use Rattle.series_id.proofs.Texts.{utf8_tag}
use Rattle.series_id.proofs.Walks.{left, go_on, left_less, first_fault}
use Rattle.series_id.proofs.read.list.Goals as goal

pub returns-in_err-tag-clause-refused : goal.returns-in_err-tag-clause-refused
returns-in_err-tag-clause-refused c =
    let p = err_from_is_err_and c.from_residual-in_err-tag.result c.from_residual-in_err-tag.ensures.1 in
    let r = rw c.in-Some.is at c.loop-position.invariant.reads in
    rw (p.1, p.2) (inr (first_fault c.args.text.now r.0 _ _ c.loop-position.invariant.short (c.in_err-tag.ensures.err c.args.text.now r.0 r.1)).1)

pub text_of-name-requires : goal.text_of-name-requires
text_of-name-requires c =
    let r = rw c.in-Some.is at c.loop-position.invariant.reads in
    let read = c.in_ok-tag.ensures.ok c.args.text.now r.0 r.1 in
    subst IsUtf8 (sym (c.in_ok-from_slice.ensures.items ∙ read.1)) (utf8_tag c.args.text.now r.0 read.0 read.4.0 c.requires read.4.1).0

pub text_of-value-requires : goal.text_of-value-requires
text_of-value-requires c =
    let r = rw c.in-Some.is at c.loop-position.invariant.reads in
    let read = c.in_ok-tag.ensures.ok c.args.text.now r.0 r.1 in
    subst IsUtf8 (sym (c.in_ok-value_of.ensures read.0.1 read.2)) (utf8_tag c.args.text.now r.0 read.0 read.4.0 c.requires read.4.1).1

pub loop-position-smaller : goal.loop-position-smaller
loop-position-smaller c =
    let r = rw c.in-Some.is at c.loop-position.invariant.reads in
    subst (λ p. left c.in_ok-tag.tag.next < left p) (sym c.in-Some.is)
    (left_less c.args.text.now r.0 c.in-Some.here c.in_ok-tag.tag r.1 (c.in_ok-tag.ensures.ok c.args.text.now r.0 r.1))

pub loop-position-preserved : goal.loop-position-preserved
loop-position-preserved c =
    let r = rw c.in-Some.is at c.loop-position.invariant.reads in
    let read = c.in_ok-tag.ensures.ok c.args.text.now r.0 r.1 in
    let name : c.text_of-name.result ≡ read.0.0 = c.text_of-name.ensures ∙ c.in_ok-from_slice.ensures.items ∙ read.1 in
    let value : c.text_of-value.result ≡ read.0.1 = c.text_of-value.ensures ∙ c.in_ok-value_of.ensures read.0.1 read.2 in
    let pushed : c.push.new.self.items ≡ c.loop-position.tags.items ++ (c.text_of-name.result, c.text_of-value.result) ∷ [] = c.in_ok-push.ensures.items in
    record {
      short = c.loop-position.invariant.short;
      reads = go_on (λ tags. c.push.new.self.items ≡ tags) c.args.text.now r.0 c.in_ok-tag.tag c.requires c.loop-position.invariant.short read (pushed ∙ (λ i. r.2 i ++ (name i, value i) ∷ []));
    }
