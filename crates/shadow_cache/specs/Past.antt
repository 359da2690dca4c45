-- Pairs of views described by what was done in them: a list with the present one first, from `new` on.
use Rattle.std.specs.Prelude.{ℕ, suc, ◌==◌, ◌/◌, ◌&&◌, not, if◌then◌else◌, Bool, true, false, Option, Some, None, List, [], ◌∷◌, ◌++◌, take, filter}
use Rattle.std.specs.List.{list_any, find}
use Rattle.guest_ram.specs.Among.{is_among}
use Rattle.shadow_tables.specs.Slots.{is_side}
use Rattle.shadow_tables.specs.declared.words.Side.{Side}
use Rattle.shadow_tables.specs.declared.calls.Call.{Call}
use Rattle.shadow_tables.specs.declared.calls.Call.TheVariants.{Fill, DropPage, DropDir, DropAll, Note, Written}
use Rattle.shadow_cache.specs.declared.call_lists.RootsCall.{RootsCall}
use Rattle.shadow_cache.specs.declared.call_lists.RootsCall.TheVariants.{Shared, Switch}

-- a fill or a drop, and how many calls came before it
pub record MadeCall : Type 0 where
  pub moment : ℕ
  pub call : Call

-- a directory index of a view
pub record DirSlot : Type 0 where
  pub side : Side
  pub index : ℕ

-- A pair since it began or was emptied: its value of CR3, the fills and drops that were made in it, the first first, the
-- directory indices of each view under which pages were filled, each once, the frames from which the guest's tables were
-- read and that weren't written since, and whether one of those was written.
pub record Past : Type 0 where
  pub value : ℕ
  pub calls : List MadeCall
  pub places : List DirSlot
  pub tables : List ℕ
  pub stale : Bool

-- a pair as it begins
abbrev pub begun : ℕ → Past
begun value = record { value = value; calls = []; places = []; tables = []; stale = false }

abbrev pub is_place : DirSlot → List DirSlot → Bool
is_place p ps = list_any (λ q. is_side p.side q.side && (p.index == q.index)) ps

abbrev pub with_place : DirSlot → List DirSlot → List DirSlot
with_place p ps = if is_place p ps then ps else p ∷ ps

-- the frame is among the tables of any pair
abbrev pub is_table : List Past → ℕ → Bool
is_table ps frame = list_any (λ p. is_among frame p.tables) ps

-- the frames but this one
abbrev pub all_but : ℕ → List ℕ → List ℕ
all_but frame [] = []
all_but frame (f ∷ fs) = if frame == f then all_but frame fs else f ∷ all_but frame fs

-- a pair that has the frame among its tables is marked, and loses it from them
abbrev pub marked_at : ℕ → Past → Past
marked_at frame p = if is_among frame p.tables then record p { tables = all_but frame p.tables; stale = true } else p

abbrev pub and_then : Past → ℕ → Call → Past
and_then p moment call = record p { calls = p.calls ++ record { moment = moment; call = call } ∷ [] }

abbrev pub filled_under : Past → DirSlot → Past
filled_under p place = record p { places = with_place place p.places }

-- What a call makes of the pairs, where so many came before it. The first of them is the present one.
abbrev pub after_shared : ℕ → Call → List Past → List Past
after_shared moment call [] = []
after_shared moment (Fill side entry wp) (p ∷ ps) =
    and_then (filled_under p (record { side = side; index = entry.page / 1024 })) moment (Fill side entry wp) ∷ ps
after_shared moment (DropPage page) (p ∷ ps) = and_then p moment (DropPage page) ∷ ps
after_shared moment (DropDir index) (p ∷ ps) = and_then p moment (DropDir index) ∷ ps
after_shared moment DropAll (p ∷ ps) = begun p.value ∷ []
after_shared moment (Note frame) (p ∷ ps) = record p { tables = frame ∷ p.tables } ∷ ps
after_shared moment (Written frame) (p ∷ ps) = marked_at frame p ∷ filter (λ q. not (is_among frame q.tables)) ps

-- a marked present pair leaves
abbrev pub unmarked : List Past → List Past
unmarked [] = []
unmarked (p ∷ ps) = if p.stale then ps else p ∷ ps

-- the pair of this value
abbrev pub of_value : ℕ → List Past → Option Past
of_value value ps = find (λ p. p.value == value) ps

-- and the others
abbrev pub but_value : ℕ → List Past → List Past
but_value value [] = []
but_value value (p ∷ ps) = if p.value == value then ps else p ∷ but_value value ps

-- the pair of this value comes to the front, or a new one does and a ninth, the last, leaves
abbrev pub with_front : ℕ → List Past → Option Past → List Past
with_front value ps None = begun value ∷ take 7 ps
with_front value ps (Some p) = p ∷ but_value value ps

abbrev pub after_switch : ℕ → List Past → List Past
after_switch value ps = with_front value ps (of_value value ps)

abbrev pub after_call : ℕ → RootsCall → List Past → List Past
after_call moment (Shared call) ps = after_shared moment call ps
after_call moment (Switch value) ps = after_switch value (unmarked ps)

-- after calls in order, before which so many came
unfoldable pub after_calls : ℕ → List RootsCall → List Past → List Past
after_calls moment [] ps = ps
after_calls moment (c ∷ cs) ps = after_calls (suc moment) cs (after_call moment c ps)

-- the pairs after `new` with this value and then these calls
unfoldable pub pairs_after : ℕ → List RootsCall → List Past
pairs_after value calls = after_calls 0 calls (begun value ∷ [])
