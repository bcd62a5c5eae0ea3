-- The page of the memory that a back end's wish accesses is there.
use Rattle.std.proofs.Common.{◌≡◌, ◌==◌, ℕ, ◌*◌, ◌/◌, ◌%◌, ◌<◌, Bool, true, false, cond, ◌&&◌, not, List, [], ◌∷◌, length, Some, None, refl, ◌∙◌, sym, subst, arith}
use Rattle.std.proofs.lemmas.Bool.{ltb-true}
use Rattle.std.proofs.lemmas.Bool.Decides.{nat_tests}
use Rattle.std.proofs.lemmas.List.{length-set, length-replicate}
use Rattle.vi_bytes.specs.declared.lease.Lease.{Lease}
use Rattle.vi_bytes.specs.declared.lease.Need.TheVariants.{Write}
use Rattle.vi_bytes.specs.declared.span.TheConstants.{PAGE}
use Rattle.vi_history.specs.Device.{Dev, One}
use Rattle.vi_history.specs.Effects.{commit}
use Rattle.vi_history.specs.Histories.{after}
use Rattle.vi_history.specs.Replies.{reading_commit, memory_after_write, next}
use Rattle.vi_history.specs.Requests.{reading}
use Rattle.vi_history.specs.Start.{zero_page, start}
use Rattle.vi_history.specs.Translation.{translate, is_in_memory, Look, Leads, Nowhere, look, lease, lease_for}
use Rattle.vi_history.specs.declared.call.Call.{Call}
use Rattle.vi_history.specs.declared.call.Call.TheVariants as call
use Rattle.vi_history.specs.declared.found.Found.{Found}
use Rattle.vi_history.specs.declared.found.Found.TheVariants.{At, Fault}
use Rattle.vi_history.specs.declared.reading.Reading.{Reading}
use Rattle.vi_history.specs.declared.reading.Reading.TheVariants.{Silent, Malformed, Asks}
use Rattle.vi_history.specs.declared.request.Request.{Request}
use Rattle.vi_history.specs.declared.request.Request.TheVariants.{Attach, Detach, Map, Unmap, Probe}
use Rattle.vi_history.specs.declared.setup.Setup.{Setup}
use Rattle.vi_lines.specs.Value.{ScriptValue}
use Rattle.vi_model.specs.Backs.{Access, Accesses, wish, target_of}
use Rattle.vi_model.specs.Control.{link_of}
use Rattle.vi_model.specs.Grants.{piece}
use Rattle.vi_model.specs.Links.{IsGranted}
use Rattle.vi_model.specs.Places.{place_count, id_at}
use Rattle.vi_model.specs.Playable.{IsPlayable}
use Rattle.vi_model.specs.Serves.{page_of}
use Rattle.vi_model.specs.Sound.{IsSound, SoundParts}
use Rattle.vi_model.specs.Worlds.{World, seat_of}
use Rattle.vi_sound.proofs.Moves.Accesses.{WishesAccess, wishes_access, cached_granted, cached_has}

-- ---- the memory has as many pages as the device knows

abbrev HasItsPages : One → Type 0
HasItsPages one = length one.memory ≡ one.dev.pages

commit_pages : (dev : Dev) (request : Request) → (commit dev request).pages ≡ dev.pages
unfolding commit
commit_pages dev (Attach domain endpoint flags) = grind (arith, nat_tests)
commit_pages dev (Detach domain endpoint) = grind (arith, nat_tests)
commit_pages dev (Map domain first last target flags) = grind (arith, nat_tests)
commit_pages dev (Unmap domain first last) = grind (arith, nat_tests)
commit_pages dev (Probe endpoint) = grind (arith, nat_tests)

reading_pages : (dev : Dev) (r : Reading) → (reading_commit dev r).pages ≡ dev.pages
reading_pages dev Silent = refl
reading_pages dev (Malformed probe) = refl
reading_pages dev (Asks request) = commit_pages dev request

written_pages : (memory : List (List ℕ)) (bytes : List ℕ) (f : Found) → length (memory_after_write memory bytes f) ≡ length memory
written_pages memory bytes (At target) = length-set memory (target / PAGE) _
written_pages memory bytes (Fault reason) = refl

next_pages : (one : One) (c : Call) → HasItsPages one → HasItsPages (next one c)
unfolding next
next_pages one (call.Ask request) has = has ∙ sym (commit_pages one.dev request)
next_pages one (call.Raw read write) has = has ∙ sym (reading_pages one.dev (reading read write))
next_pages one (call.Bypass on) has = has
next_pages one (call.Read endpoint part) has = has
next_pages one (call.Write endpoint part bytes) has = written_pages one.memory bytes (translate one.dev endpoint part.iova Write) ∙ has

after_pages : (one : One) (calls : List Call) → HasItsPages one → HasItsPages (after one calls)
after_pages one [] has = has
after_pages one (c ∷ cs) has = after_pages (next one c) cs (next_pages one c has)

start_pages : (setup : Setup) → HasItsPages (start setup)
unfolding start
start_pages setup = length-replicate setup.memory zero_page

-- whatever calls came before
told_pages : (setup : Setup) (calls : List Call) (dev : Dev) (memory : List (List ℕ)) → after (start setup) calls ≡ record { dev = dev; memory = memory } → length memory ≡ dev.pages
told_pages setup calls dev memory is = subst HasItsPages is (after_pages (start setup) calls (start_pages setup))

-- ---- a lease leads into the memory

lease_target : (pages page : ℕ) (o : Look) (l : Lease) → lease_for pages page o ≡ Some l → l.target < pages
lease_target pages page (Nowhere reason) l h = absurd cc
lease_target pages page (Leads t f) l h = go (is_in_memory pages t) refl (not (f % 4 == 0)) h
  where
    leads : Lease
    leads = record { page = page; count = 1; target = t / PAGE; perm = f }

    go : (a : Bool) → is_in_memory pages t ≡ a → (b : Bool) → cond (a && b) (Some leads) None ≡ Some l → l.target < pages
    go true e true h = let same : leads ≡ l = cc in subst (λ (m : Lease). m.target < pages) same (ltb-true (t / PAGE) pages e)
    go true e false h = absurd cc
    go false e b h = absurd cc

-- ---- what a back end caches is granted, and each page of a grant has a lease now

cached_target : (s : ScriptValue) (w : World) (place : ℕ) (l : Lease) (a : Access) → SoundParts s w → place < place_count s → WishesAccess s place (seat_of w place) l a → target_of l a < w.control.dev.pages
cached_target s w place l a ok below wishes =
    let link = (ok.backs place below).link in
    let page : ℕ = page_of a.part.iova in
    let grant : IsGranted (link_of w.control place).grants l = cached_granted page l (link_of w.control place).grants (seat_of w place).cache link.cached wishes.cached in
    let now : lease w.control.dev (id_at s place) page ≡ Some (piece l page) = link.current grant.0 l grant.1 page (cached_has page l (seat_of w place).cache wishes.cached) in
    lease_target w.control.dev.pages page (look w.control.dev (id_at s place) (PAGE * page)) (piece l page) now

pub page_room : (s : ScriptValue) (w : World) (place : ℕ) (l : Lease) (a : Access) → IsPlayable s → IsSound s w → place < place_count s
    → wish s place (seat_of w place) ≡ Accesses l a → target_of l a < length w.pages
unfolding IsSound
page_room s w place l a play ok below wishes =
    let inside = cached_target s w place l a ok below (wishes_access s place (seat_of w place) l a wishes) in
    let size = told_pages s.setup ok.told.calls w.control.dev w.pages ok.told.one in
    omega (arith, inside, size)
