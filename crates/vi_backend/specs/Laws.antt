-- A back end that goes by its own lines does what the core's turns say of the whole script.
use Rattle.std.specs.Prelude.{◌≡◌, ℕ, Bool, ◌||◌, List, [], ◌∷◌, All, Some, None}
use Rattle.vi_bytes.specs.declared.lease.Lease.{Lease}
use Rattle.vi_iotlb.specs.declared.frame.Frame.TheVariants as frame
use Rattle.vi_lines.specs.Value.{ScriptValue}
use Rattle.vi_model.specs.Lanes.{Down, Miss}
use Rattle.vi_model.specs.Control.{Link, Control}
use Rattle.vi_model.specs.Backs.{Seat, Access, wish, ask, access, receive, heard, finds, current_awaits}
use Rattle.vi_model.specs.Caches.{untouched}
use Rattle.vi_backend.specs.Own.{Own, IsOwn, IsBackOf, IsGrantedLease}
use Rattle.vi_backend.specs.Wishes.{own_wish, own_awaits}
use Rattle.vi_backend.specs.Frames.{after, all_addresses, down_frame}
use Rattle.vi_backend.specs.Accesses.{own_accessed, asked_seat}

-- its wish is that of the back end at its place of the script
abbrev pub WishesAgree : Type 0
WishesAgree = (s : ScriptValue) (place : ℕ) (b : Own) → IsOwn b → IsBackOf s place b → own_wish b ≡ wish s place b.seat

-- so are the lines that it awaits
abbrev pub AwaitsAgree : Type 0
AwaitsAgree = (s : ScriptValue) (place : ℕ) (b : Own) → IsBackOf s place b → own_awaits b ≡ current_awaits s place b.seat

-- so is its access
abbrev pub AccessesAgree : Type 0
AccessesAgree = (s : ScriptValue) (place : ℕ) (b : Own) (lease : Lease) (a : Access) (page : List ℕ) → IsBackOf s place b
    → own_accessed b lease a page ≡ access s place b.seat lease a page

-- so is its seat after it asked
abbrev pub AsksAgree : Type 0
AsksAgree = (x : Link) (z : Seat) (m : Miss) → (ask x z m).seat ≡ asked_seat z

-- and so is its seat after it took the oldest frame of the main channel
abbrev pub FramesAgree : Type 0
FramesAgree = (s : ScriptValue) (c : Control) (place : ℕ) (tests : Bool) (x : Link) (b : Own) (d : Down) (down : List Down)
    → IsOwn b → IsBackOf s place b → x.down ≡ d ∷ down → (receive s c place tests x b.seat).seat ≡ after b.capacity (down_frame d) b.seat

-- where cached leases have pages below 2^52, what all addresses reach is what every address below 2^64 reaches
abbrev pub AllIsAll : Type 0
AllIsAll = (cache : List Lease) → All IsGrantedLease cache → untouched None cache ≡ untouched (Some all_addresses) cache

-- so is its seat after it took a reply
abbrev pub RepliesAgree : Type 0
RepliesAgree = (s : ScriptValue) (c : Control) (place : ℕ) (tests : Bool) (x : Link) (b : Own) (fault : Bool) (replies : List Bool)
    → x.down ≡ [] → x.replies ≡ fault ∷ replies → (receive s c place tests x b.seat).seat ≡ after b.capacity (frame.Reply fault) b.seat

-- so is its seat after it received no frame
abbrev pub HeardAgrees : Type 0
HeardAgrees = (s : ScriptValue) (c : Control) (place : ℕ) (tests : Bool) (x : Link) (z : Seat)
    → x.down ≡ [] → x.replies ≡ [] → (receive s c place tests x z).seat ≡ heard z (z.ready || finds s c place tests z)
