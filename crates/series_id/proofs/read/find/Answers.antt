use Rattle.std.proofs.Common.{ℕ, List, ◌<◌, ◌||◌, IsTrue, ◌↔◌, sym, subst}
use Rattle.std.proofs.lemmas.Result.{err_from_is_err_and}
use Rattle.m3_model.specs.Members.{IsIn}
use Rattle.series_id.proofs.Walks.{left, go_on, left_less, first_fault}
use Rattle.series_id.proofs.Found.{found_more}
use Rattle.series_id.proofs.read.find.Goals as goal

pub returns-in_err-tag-clause-refused : goal.returns-in_err-tag-clause-refused
returns-in_err-tag-clause-refused c =
    let p = err_from_is_err_and c.from_residual-in_err-tag.result c.from_residual-in_err-tag.ensures.1 in
    let r = rw c.in-Some.is at c.loop-position.invariant.reads in
    rw p.1 (first_fault c.args.text.now r.0 _ _ c.loop-position.invariant.short (c.in_err-tag.ensures.err c.args.text.now r.0 r.1)).1

pub loop-position-smaller : goal.loop-position-smaller
loop-position-smaller c =
    let r = rw c.in-Some.is at c.loop-position.invariant.reads in
    subst (λ p. left c.in_ok-tag.tag.next < left p) (sym c.in-Some.is)
    (left_less c.args.text.now r.0 c.in-Some.here c.in_ok-tag.tag r.1 (c.in_ok-tag.ensures.ok c.args.text.now r.0 r.1))

pub loop-position-preserved : goal.loop-position-preserved
loop-position-preserved c =
    let r = rw c.in-Some.is at c.loop-position.invariant.reads in
    let read = c.in_ok-tag.ensures.ok c.args.text.now r.0 r.1 in
    let name : List ℕ = c.args.name.now in
    let value : List ℕ = c.args.value.now in
    record {
      short = c.loop-position.invariant.short;
      reads = go_on (λ tags. IsTrue (c.loop-position.found || c.is_tag-found.result) ↔ IsIn tags (name, value)) c.args.text.now r.0 c.in_ok-tag.tag c.requires c.loop-position.invariant.short read
          (found_more c.loop-position.found c.is_tag-found.result r.0 read.0 name value c.in_ok-tag.tag.name.now c.in_ok-tag.tag.spelling.now r.2 c.is_tag-found.ensures read.1 read.2);
    }
