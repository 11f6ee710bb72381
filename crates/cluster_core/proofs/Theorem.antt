-- The core theorem.
use Rattle.std.proofs.Common.{◌≡◌, ℕ, List, sym, subst, arith, true}
use Rattle.m3_model.specs.Members.{IsIn}
use Rattle.m3_model.specs.Reads.{Covers, Matches, InRange, points_in, space_picked}
use Rattle.m3_model.specs.declared.point.Pick.{Pick}
use Rattle.m3_model.specs.declared.rules.Rules.{Rules}
use Rattle.cluster_core.specs.Core.{ListKeepsPoints, IsSecured, WasWritten}
use Rattle.cluster_core.specs.Legal.{Legal}
use Rattle.cluster_core.specs.declared.event.Event.{Event}
use Rattle.cluster_core.specs.declared.event.Event.TheVariants as event
use Rattle.cluster_core.proofs.ListLemmas.{at_within, at_take, at_same}
use Rattle.cluster_core.proofs.OriginLemmas.{fetch_origin, page_origin}
use Rattle.cluster_core.proofs.SecuredLemmas.{fetch_holds, stands}
use Rattle.cluster_core.proofs.TraceLemmas.{lawful_fetched}

-- the fields of a start that stands at one place
record SameStart (s t : ℕ) (pick picked : Pick) (from least to end : ℕ) : Type 0 where
  shard : t ≡ s
  picks : picked ≡ pick
  first : least ≡ from
  last : end ≡ to

same_start : (v w s t : ℕ) (rules ruled : Rules) (pick picked : Pick) (from least to end : ℕ) → event.FetchStart w t ruled picked least end ≡ event.FetchStart v s rules pick from to → SameStart s t pick picked from least to end
same_start v w s t rules ruled pick picked from least to end e = record { shard = cc; picks = cc; first = cc; last = cc }

pub keeps_points : (events : List Event) → Legal true events → ListKeepsPoints events
keeps_points events legal first done there o agrees g kept_by = record {
  read = λ start i nodes series s pick from to r enough p matches in_range live secured.
      let bound = at_within events i (event.FetchDone start nodes series) r.is_done in
      let f = lawful_fetched events legal i start nodes series r.is_done in
      let begun = at_take events start i (event.FetchStart f.version f.s f.rules f.pick f.from f.to) f.started in
      let same = same_start r.version f.version s f.s r.rules f.rules pick f.pick from f.from to f.to (at_same events start (event.FetchStart f.version f.s f.rules f.pick f.from f.to) (event.FetchStart r.version s r.rules pick from to) begun.0 r.started) in
      subst (λ k. Covers (points_in (space_picked k) series) p) same.picks
      (fetch_holds events legal first done there o agrees g kept_by i start nodes series (omega arith) f enough p
      (subst (λ k. Matches k p) (sym same.picks) matches)
      (subst (λ a. InRange a f.to p) (sym same.first) (subst (λ b. InRange from b p) (sym same.last) in_range))
      live (subst (λ k. IsSecured first.rf g events start k p) (sym same.shard) secured));
  written = λ start i nodes series s pick from to r p m.
      let bound = at_within events i (event.FetchDone start nodes series) r.is_done in
      let f = lawful_fetched events legal i start nodes series r.is_done in
      let begun = at_take events start i (event.FetchStart f.version f.s f.rules f.pick f.from f.to) f.started in
      let same = same_start r.version f.version s f.s r.rules f.rules pick f.pick from f.from to f.to (at_same events start (event.FetchStart f.version f.s f.rules f.pick f.from f.to) (event.FetchStart r.version s r.rules pick from to) begun.0 r.started) in
      subst (λ k. WasWritten events o i k p) same.shard
      (fetch_origin events legal o agrees i start nodes series (omega arith) f p (subst (λ k. IsIn (points_in (space_picked k) series) p) (sym same.picks) m));
  paged = λ i n s c page at p m. page_origin events legal o agrees i n s c page at p m;
  stands = stands events legal first done there o agrees g kept_by;
}
