-- What a stream leaves, page after page.
use Rattle.std.proofs.Common.{◌≡◌, ℕ, ◌+◌, ◌≤◌, List, [], ◌∷◌, ◌++◌, map, length, Bool, true, false, refl, sym, ap, ◌∙◌, subst, inl, inr, arith, append_assoc, length-append}
use Rattle.std.specs.Prelude.{◌≢◌, ◌⊎◌, ⊤, Option, Some, None, Result, Ok, Err, IfErr, nat_le}
use Rattle.std.specs.FinMap as finite
use Rattle.std.proofs.lemmas.Bool.{le-leb, leb-true}
use Rattle.std.proofs.lemmas.List.{map-append}
use Rattle.event_book.specs.Lists.{most_entries}
use Rattle.m3_model.specs.declared.point.Key.{Key}
use Rattle.m3_model.specs.declared.point.Page.{Page}
use Rattle.m3_model.specs.declared.reason.Reason.{Reason}
use Rattle.m3_model.proofs.MemberLemmas.{IsIn-append_right}
use Rattle.placement_core.proofs.ListLemmas.{Any-from_IsIn}
use Rattle.cluster_core.specs.Answers.{IsCoverFrom}
use Rattle.cluster_core.specs.Earlier.{GavePage, HasPage}
use Rattle.cluster_core.specs.declared.event.Event.{Event}
use Rattle.cluster_core.specs.declared.event.Event.TheVariants as event
use Rattle.cluster_core.specs.declared.event.StepCall.{StepCall}
use Rattle.cluster_core.specs.declared.event.StepCall.TheVariants as call
use Rattle.cluster_core.specs.declared.event.StepReply.{StepReply}
use Rattle.cluster_core.specs.declared.event.StepReply.TheVariants as reply
use Rattle.session_net.specs.m3_outside.DiskState.{DiskState}
use Rattle.session_net.specs.replica_calls.Calls.{Tracked}
use Rattle.session_net.specs.replica_exchange.MachineCalls.{HasRoom}
use Rattle.session_net.specs.replica_exchange.declared.slot.Slot.{Slot}
use Rattle.session_net.specs.Runs.{Ran, slot_at}
use Rattle.session_net.proofs.ReadyLemmas.{room_after, there_after}
use Rattle.session_net.proofs.RunLemmas.{ran_nothing, ran_then}
use Rattle.peer_streams.specs.Streams.{GoOnTo, Handed, fenced_pages, handed_over, page_asked, replied}
use Rattle.peer_boot.specs.Tries.{IsCalled, IsMergeReason, IsOfForm, IsPageTried, IsStreamTried, IsTakenIn}
use Rattle.peer_boot.specs.Pages.{Gave, GaveAll, Stands}
use Rattle.peer_boot.specs.declared.stream_err.StreamErr.{StreamErr}
use Rattle.peer_boot.specs.declared.stream_err.StreamErr.TheVariants as stream_err
use Rattle.peer_boot.proofs.PageLemmas.{cover_last, go_on_last, pages_last}

-- ---- room

pub room_is : (events : List Event) (n : ℕ) (b : Bool) → b ≡ nat_le (length events + n) most_entries → b ≡ true → HasRoom n events
room_is events n b is on = leb-true (length events + n) most_entries (sym is ∙ on)

pub room_lacks : (events : List Event) (n : ℕ) (b : Bool) → b ≡ nat_le (length events + n) most_entries → b ≡ false → ¬ HasRoom n events
room_lacks events n b is off fits = let clash : true ≡ false = sym (le-leb (length events + n) most_entries fits) ∙ sym is ∙ off in cc

-- ---- one page

module _ {D : Type 0} (state : D → DiskState) (s q y : ℕ) where
  -- the page that a replica of the shard gave is there
  pub page_there : (after : Option Key) (page : Page) (old new : Tracked D) → IsCalled state q s (call.Page after) (λ (p : Page). reply.Paged p) old new (Ok page) → HasPage new.events s page
  page_there after page old new h =
      let step : Event = event.Step q s (call.Page after) (reply.Paged page) in
      subst (λ es. HasPage es s page) (sym (h.0).grew)
      (Any-from_IsIn (GavePage s page) (old.events ++ replied q s (call.Page after) (reply.Paged page)) step (IsIn-append_right old.events (replied q s (call.Page after) (reply.Paged page)) step (inr (inl refl))) (refl, refl))

  -- the joining replica took it
  pub taken_in : (page : Page) (next : Option Key) (n : ℕ) (old new : Tracked D) → page.next ≡ next → IsCalled state y s (call.Merge page) (λ (n : ℕ). reply.Count n) old new (Ok n) → IsTakenIn state s y page old new (Ok next)
  taken_in page next n old new is h = (is, n, h.0)

  -- or refused it
  pub not_taken : (page : Page) (why : Reason) (old new : Tracked D) → IsCalled state y s (call.Merge page) (λ (n : ℕ). reply.Count n) old new (Err why) → IsMergeReason why → IsTakenIn state s y page old new (Err (stream_err.To why))
  not_taken page why old new h reason = (h.1, reason, h.0)

  -- the page was given, and then taken or refused
  pub page_given : (after : Option Key) (page : Page) (old mid new : Tracked D) (result : Result (Option Key) StreamErr) → HasRoom 4 old.events → IsCalled state q s (call.Page after) (λ (p : Page). reply.Paged p) old mid (Ok page) → IsTakenIn state s y page mid new result
      → IsPageTried state s q y after old new result
  page_given after page old mid new (Ok next) room g h =
      (room, record { from = after; page = page; count = h.1 }, refl, h.0, ran_then state (replied q s (call.Page after) (reply.Paged page)) (replied y s (call.Merge page) (reply.Count h.1)) old mid new g.0 h.2)
  page_given after page old mid new (Err (stream_err.To why)) room g h =
      (h.0, h.1, page, ran_then state (replied q s (call.Page after) (reply.Paged page)) (replied y s (call.Merge page) (reply.Refused why)) old mid new g.0 h.2)
  page_given after page old mid new (Err (stream_err.From why)) room g h = absurd h
  page_given after page old mid new (Err stream_err.Full) room g h = absurd h

  -- each page adds four events
  pub page_adds : (after next : Option Key) (old new : Tracked D) → IsPageTried state s q y after old new (Ok next) → length new.events ≡ length old.events + 4
  page_adds after next old new h = ap length (h.4).grew ∙ length-append old.events (handed_over s q y h.1)

-- ---- pages

module _ {D : Type 0} (state : D → DiskState) (s q y tenure : ℕ) where
  -- after the fence no page was given yet
  pub fenced : (old new : Tracked D) → IsCalled state q s (call.Fence tenure) (λ (u : ⊤). reply.Done) old new (Ok tt) → Gave state s q y tenure None old new
  fenced old new h = record { pages = []; so_far = refl; ran = h.0 }

  pub not_fenced : (why : Reason) (old new : Tracked D) → IsCalled state q s (call.Fence tenure) (λ (u : ⊤). reply.Done) old new (Err why) → IsStreamTried state s q y tenure old new (Err (stream_err.From why))
  not_fenced why old new h = (h.1, replied q s (call.Fence tenure) (reply.Refused why), inl (inl refl), ([], call.Fence tenure, refl), h.0)

  pub never_begun : (old : Tracked D) → (¬ HasRoom 4 old.events) → IsStreamTried state s q y tenure old old (Err stream_err.Full)
  never_begun old lacks = (lacks, [], inl refl, ran_nothing state old)

  asked_pages : (pages : List Handed) (h : Handed) → map page_asked pages ++ page_asked h ∷ [] ≡ map page_asked (pages ++ h ∷ [])
  asked_pages pages h = sym (map-append page_asked pages (h ∷ []))

  -- with one more page
  pub page_more : (after next : Option Key) (old mid new : Tracked D) → Gave state s q y tenure after old mid → IsPageTried state s q y after mid new (Ok next) → Stands state s q y tenure next old new
  page_more after None old mid new g h = record {
    pages = g.pages ++ h.1 ∷ [];
    cover = subst (λ ps. IsCoverFrom None ps) (asked_pages g.pages h.1) (cover_last None after (map page_asked g.pages) (page_asked h.1) g.so_far h.2 h.3);
    ran = subst (λ es. Ran state old es new) (pages_last s q y tenure g.pages h.1) (ran_then state (fenced_pages s q y tenure g.pages) (handed_over s q y h.1) old mid new g.ran h.4);
  }
  page_more after (Some k) old mid new g h = record {
    pages = g.pages ++ h.1 ∷ [];
    so_far = subst (λ ps. GoOnTo None ps (Some k)) (asked_pages g.pages h.1) (go_on_last None after (map page_asked g.pages) (page_asked h.1) k g.so_far h.2 h.3);
    ran = subst (λ es. Ran state old es new) (pages_last s q y tenure g.pages h.1) (ran_then state (fenced_pages s q y tenure g.pages) (handed_over s q y h.1) old mid new g.ran h.4);
  }

  -- and where that failed
  pub page_failed : (after : Option Key) (old mid new : Tracked D) (e : StreamErr) → Gave state s q y tenure after old mid → IsPageTried state s q y after mid new (Err e) → IsStreamTried state s q y tenure old new (Err e)
  page_failed after old mid new (stream_err.From why) g h =
      let last = replied q s (call.Page after) (reply.Refused why) in
      (h.0, fenced_pages s q y tenure g.pages ++ last, inr (record { pages = g.pages; next = after; before = g.so_far; last = last; refused = inl refl; are = refl }), (fenced_pages s q y tenure g.pages, call.Page after, refl), ran_then state (fenced_pages s q y tenure g.pages) last old mid new g.ran h.1)
  page_failed after old mid new (stream_err.To why) g h =
      let last = replied y s (call.Merge h.2) (reply.Refused why) in
      let more = replied q s (call.Page after) (reply.Paged h.2) ++ last in
      (h.0, h.1, fenced_pages s q y tenure g.pages ++ more, record { pages = g.pages; next = after; before = g.so_far; page = h.2; last = last; refused = inl refl; are = refl }, (fenced_pages s q y tenure g.pages ++ replied q s (call.Page after) (reply.Paged h.2), call.Merge h.2, sym (append_assoc (fenced_pages s q y tenure g.pages) (replied q s (call.Page after) (reply.Paged h.2)) last)), ran_then state (fenced_pages s q y tenure g.pages) more old mid new g.ran h.3)
  page_failed after old mid new stream_err.Full g h = (
    subst (λ (t : Tracked D). ¬ HasRoom 4 t.events) (sym h.1) h.0,
    fenced_pages s q y tenure g.pages,
    inr (record { pages = g.pages; next = after; before = g.so_far; are = inl refl }),
    subst (Ran state old (fenced_pages s q y tenure g.pages)) (sym h.1) g.ran,
  )

  -- it streamed whole
  pub streamed : (old new : Tracked D) → GaveAll state s q y tenure old new → IsStreamTried state s q y tenure old new (Ok q)
  streamed old new g = (refl, fenced_pages s q y tenure g.pages, record { pages = g.pages; cover = g.cover; are = refl }, g.ran)

  -- replicas stay
  pub there_still : (after : Option Key) (old mid : Tracked D) (slot : Slot) → Gave state s q y tenure after old mid → finite.get old.members slot ≢ None → finite.get mid.members slot ≢ None
  there_still after old mid slot g there = there_after state old mid (fenced_pages s q y tenure g.pages) slot g.ran there
