-- What is kept for a page after a call, where o was kept before and no frame is barred from writes.
use Rattle.std.specs.Prelude.{◌≡◌, ℕ, ◌^◌, ◌<◌, ◌↔◌, List, [], ◌∷◌, Bool, Option, Some, None, true, false, ◌==◌, ◌/◌, if◌then◌else◌}
use Rattle.shadow_tables.specs.Slots.{Slot, filled, is_adequate}
use Rattle.shadow_tables.specs.Calls.{IsAdequateAfter, IsWithin, Follows}
use Rattle.shadow_tables.specs.declared.words.Side.{Side}
use Rattle.shadow_tables.specs.declared.calls.Call.{Call}
use Rattle.shadow_tables.specs.declared.calls.Call.TheVariants.{Fill, DropPage, DropDir, DropAll, Note, Written}

abbrev pub after_call : Call → ℕ → Option Slot → Option Slot
after_call (Fill side entry wp) page o = if page == entry.page then Some (filled false side entry wp) else o
after_call (DropPage dropped) page o = if page == dropped then None else o
after_call (DropDir index) page o = if page / 1024 == index then None else o
after_call DropAll page o = None
after_call (Note frame) page o = o
after_call (Written frame) page o = o

abbrev pub after : List Call → ℕ → Option Slot → Option Slot
after [] page o = o
after (c ∷ cs) page o = after cs page (after_call c page o)

-- shadows that bar no frame from writes
module _ {S : Type 0} where
  abbrev pub ProtectsNone : (S → List ℕ) → Type 0
  ProtectsNone write_protected = (s : S) → write_protected s ≡ []

-- ---- over all pages, of what was kept and what is kept now

-- it is what the call leaves, or the same with less right to write
abbrev pub IsWithinCall : Call → (old new : ℕ → Option Slot) → Type 0
IsWithinCall call old new = (page : ℕ) → page < 2 ^ 20 → IsWithin (new page) (after_call call page (old page))

-- it is just what the call leaves
abbrev pub IsAfterCall : Call → (old new : ℕ → Option Slot) → Type 0
IsAfterCall call old new = (page : ℕ) → page < 2 ^ 20 → new page ≡ after_call call page (old page)

-- it is just what the calls leave
abbrev pub IsAfterAll : List Call → (old new : ℕ → Option Slot) → Type 0
IsAfterAll calls old new = (page : ℕ) → page < 2 ^ 20 → new page ≡ after calls page (old page)

-- it follows the calls
abbrev pub AllFollow : List Call → (old new : ℕ → Option Slot) → Type 0
AllFollow calls old new = (page : ℕ) → page < 2 ^ 20 → Follows calls page (old page) (new page)

-- an access is adequate exactly where the calls make it so
abbrev pub AllAdequateAfter : List Call → (old new : ℕ → Option Slot) → Type 0
AllAdequateAfter calls old new =
    (page : ℕ) → page < 2 ^ 20 → (side : Side) (write : Bool)
    → (is_adequate (new page) side write ≡ true) ↔ IsAdequateAfter calls page (old page) side write
