-- What a joining replica asks of a former one: a fence, and then page after page, each of which it merges before it asks for the next.
use Rattle.std.specs.Prelude.{◌≡◌, ◌⊎◌, ℕ, List, [], ◌∷◌, ◌++◌, map, Option, Some, None}
use Rattle.std.specs.List.{flat_map}
use Rattle.m3_model.specs.declared.point.Key.{Key}
use Rattle.m3_model.specs.declared.point.Page.{Page}
use Rattle.m3_model.specs.declared.reason.Reason.{Reason}
use Rattle.m3_model.specs.declared.reason.Reason.TheVariants as reason
use Rattle.cluster_core.specs.Answers.{IsCover, PageAsked}
use Rattle.cluster_core.specs.declared.event.Asked.TheVariants as asked
use Rattle.cluster_core.specs.declared.event.Event.{Event}
use Rattle.cluster_core.specs.declared.event.Event.TheVariants as event
use Rattle.cluster_core.specs.declared.event.StepCall.{StepCall}
use Rattle.cluster_core.specs.declared.event.StepCall.TheVariants as call
use Rattle.cluster_core.specs.declared.event.StepReply.{StepReply}
use Rattle.cluster_core.specs.declared.event.StepReply.TheVariants as reply

-- ---- one call

-- a replica is asked for a step, and replies so
abbrev pub replied : ℕ → ℕ → StepCall → StepReply → List Event
replied n s c a = event.Ask (asked.Step n s c) ∷ event.Step n s c a ∷ []

-- A call that is refused for this reason: the replica refused it so; or memory was wanted, before the replica was asked or for its reply.
abbrev pub IsRefusedCall : ℕ → ℕ → StepCall → Reason → List Event → Type 0
IsRefusedCall n s c why events = (events ≡ replied n s c (reply.Refused why)) ⊎ ((why ≡ reason.Memory) × ((events ≡ []) ⊎ ((a : StepReply) × (events ≡ replied n s c a))))

-- ---- pages

-- A page of a former replica, the key from which it was asked for, and how many of its points were new to the joining one.
pub record Handed : Type 0 where
  pub from : Option Key
  pub page : Page
  pub count : ℕ

abbrev pub page_asked : Handed → PageAsked
page_asked h = (h.from, h.page)

-- the former replica gives the page, and then the joining one merges it
abbrev pub handed_over : ℕ → ℕ → ℕ → Handed → List Event
handed_over s q y h = replied q s (call.Page h.from) (reply.Paged h.page) ++ replied y s (call.Merge h.page) (reply.Count h.count)

-- each page was asked for with the key from which the one before goes on, and the last one goes on from this key
abbrev pub GoOnTo : Option Key → List PageAsked → Option Key → Type 0
GoOnTo from [] to = to ≡ from
GoOnTo from (p ∷ pages) to = (p.0 ≡ from) × (next : Key) × (p.1.next ≡ Some next) × GoOnTo (Some next) pages to

-- the fence at the tenure, and after it these pages, one after the other
abbrev pub fenced_pages : ℕ → ℕ → ℕ → ℕ → List Handed → List Event
fenced_pages s q y tenure pages = replied q s (call.Fence tenure) reply.Done ++ flat_map (handed_over s q y) pages

-- ---- streams

-- q streamed whole: it was fenced, and then gave pages that cover it, up to one behind which there is none
pub record IsWhole (s q y tenure : ℕ) (events : List Event) : Type 0 where
  pub pages : List Handed
  pub cover : IsCover (map page_asked pages)
  pub are : events ≡ fenced_pages s q y tenure pages

-- q refused a page, behind others or as the first
pub record IsPageRefused (s q y tenure : ℕ) (why : Reason) (events : List Event) : Type 0 where
  pub pages : List Handed
  pub next : Option Key
  pub before : GoOnTo None (map page_asked pages) next
  pub last : List Event
  pub refused : IsRefusedCall q s (call.Page next) why last
  pub are : events ≡ fenced_pages s q y tenure pages ++ last

-- q didn't stream whole: it refused its fence, or a page
abbrev pub IsBroken : ℕ → ℕ → ℕ → ℕ → Reason → List Event → Type 0
IsBroken s q y tenure why events = IsRefusedCall q s (call.Fence tenure) why events ⊎ IsPageRefused s q y tenure why events

-- y, which joins, refused to merge a page that q gave, behind others or as the first
pub record IsMergeRefused (s q y tenure : ℕ) (why : Reason) (events : List Event) : Type 0 where
  pub pages : List Handed
  pub next : Option Key
  pub before : GoOnTo None (map page_asked pages) next
  pub page : Page
  pub last : List Event
  pub refused : IsRefusedCall y s (call.Merge page) why last
  pub are : events ≡ fenced_pages s q y tenure pages ++ (replied q s (call.Page next) (reply.Paged page) ++ last)

-- a part of a stream: the fence and pages that go on, and perhaps one that wasn't merged yet
pub record IsPartOfStream (s q y tenure : ℕ) (events : List Event) : Type 0 where
  pub pages : List Handed
  pub next : Option Key
  pub before : GoOnTo None (map page_asked pages) next
  pub are : (events ≡ fenced_pages s q y tenure pages) ⊎ ((page : Page) × (events ≡ fenced_pages s q y tenure pages ++ replied q s (call.Page next) (reply.Paged page)))
