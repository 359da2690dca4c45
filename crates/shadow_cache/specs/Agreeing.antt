-- What pairs are after each call of a list, in the form in which one call after another keeps it. `pairs_are_as_told`
-- says it in words.
use Rattle.std.specs.Prelude.{◌≡◌, ℕ, ◌+◌, ◌/◌, ◌^◌, ◌<◌, ◌≤◌, ◌==◌, List, [], ◌∷◌, length, if◌then◌else◌, Bool, true, false, Option, Some, None}
use Rattle.paging.specs.declared.entry.Entry.{Entry}
use Rattle.guest_ram.specs.Among.{is_among}
use Rattle.shadow_tables.specs.Slots.{Slot, filled, held, slot_at}
use Rattle.shadow_tables.specs.Opened.{HasTable}
use Rattle.shadow_tables.specs.declared.words.Side.{Side}
use Rattle.shadow_tables.specs.declared.calls.Call.{Call}
use Rattle.shadow_tables.specs.declared.calls.Call.TheVariants.{Fill, DropPage, DropDir, DropAll, Note, Written}
use Rattle.shadow_cache.specs.Pairs.{reads}
use Rattle.shadow_cache.specs.Past.{MadeCall, DirSlot, Past, is_place, pairs_after}
use Rattle.shadow_cache.specs.Replayed.{NoTableSince}
use Rattle.shadow_cache.specs.declared.pair.Pair.{Pair}
use Rattle.shadow_cache.specs.declared.call_lists.RootsCall.{RootsCall}

pub record Filling : Type 0 where
  pub moment : ℕ
  pub side : Side
  pub entry : Entry
  pub wp : Bool

-- a page's last fill that no later drop took away, after a call
abbrev pub filling_after : Call → ℕ → ℕ → Option Filling → Option Filling
filling_after (Fill side entry wp) moment page o =
    if page == entry.page then Some (record { moment = moment; side = side; entry = entry; wp = wp }) else o
filling_after (DropPage dropped) moment page o = if page == dropped then None else o
filling_after (DropDir index) moment page o = if page / 1024 == index then None else o
filling_after DropAll moment page o = None
filling_after (Note frame) moment page o = o
filling_after (Written frame) moment page o = o

abbrev pub last_from : List MadeCall → ℕ → Option Filling → Option Filling
last_from [] page o = o
last_from (d ∷ ds) page o = last_from ds page (filling_after d.call d.moment page o)

abbrev pub last_of : List MadeCall → ℕ → Option Filling
last_of done page = last_from done page None

-- what is kept of a fill, barred from writes exactly where a pair has had its frame among its tables since
pub record IsHeld (value : ℕ) (calls : List RootsCall) (f : Filling) (o : Option Slot) : Type 0 where
  pub barred : Bool
  pub slot : o ≡ Some (filled barred f.side f.entry f.wp)
  pub early : f.moment ≤ length calls
  pub free : barred ≡ false → NoTableSince value calls f.moment f.entry.frame
  pub still : NoTableSince value calls f.moment f.entry.frame → barred ≡ false

abbrev pub IsSlot : ℕ → List RootsCall → Option Filling → Option Slot → Type 0
IsSlot value calls None o = o ≡ None
IsSlot value calls (Some f) o = IsHeld value calls f o

pub record Agrees (value : ℕ) (calls : List RootsCall) (q : Past) (p : Pair) (m : List ℕ) : Type 0 where
  pub value_of : p.cr3 ≡ q.value
  pub tables : (frame : ℕ) → reads p frame ≡ is_among frame q.tables
  pub mark : p.stale ≡ q.stale
  pub slots : (page : ℕ) → page < 2 ^ 20 → IsSlot value calls (last_of q.calls page) (slot_at p.shadow m page)
  pub has_tables_under : (place : DirSlot) → is_place place q.places ≡ true → (place.index < 1024)
      × HasTable p.shadow m place.side place.index
  pub few : length (held p.shadow m) ≤ 2 + length q.places

abbrev pub AllAgree : ℕ → List RootsCall → List Past → List Pair → List ℕ → Type 0
AllAgree value calls [] [] m = Unit {0}
AllAgree value calls [] (p ∷ ps) m = ⊥
AllAgree value calls (q ∷ qs) [] m = ⊥
AllAgree value calls (q ∷ qs) (p ∷ ps) m = Agrees value calls q p m × AllAgree value calls qs ps m

-- the pairs are those of `new` with the value and then the calls
abbrev pub Agree : ℕ → List RootsCall → List Pair → List ℕ → Type 0
Agree value calls ps m = AllAgree value calls (pairs_after value calls) ps m
