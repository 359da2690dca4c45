-- Pairs over loads of CR3.
use Rattle.std.specs.Prelude.{◌≡◌, ◌≢◌, ◌⊎◌, ℕ, ◌==◌, ◌≤◌, ◌&&◌, not, List, [], ◌∷◌, ◌++◌, length, slice_get, Bool, true, false, Option, Some, None}
use Rattle.std.specs.List.{list_any}
use Rattle.guest_ram.specs.Among.{is_among}
use Rattle.shadow_tables.specs.declared.calls.Call.TheVariants.{Fill, DropPage, DropDir, DropAll, Note, Written}
use Rattle.shadow_cache.specs.Past.{Past, begun, unmarked, of_value, pairs_after}
use Rattle.shadow_cache.specs.declared.call_lists.RootsCall.{RootsCall}
use Rattle.shadow_cache.specs.declared.call_lists.RootsCall.TheVariants.{Shared, Switch}

-- a pair of this value is there
abbrev pub has_value : ℕ → List Past → Bool
has_value value ps = list_any (λ p. p.value == value) ps

-- no two have one value
abbrev pub AreApart : List Past → Type 0
AreApart [] = Unit {0}
AreApart (p ∷ ps) = (has_value p.value ps ≡ false) × AreApart ps

-- the value that was loaded last
abbrev pub loaded : ℕ → List RootsCall → ℕ
loaded value [] = value
loaded value (Shared call ∷ cs) = loaded value cs
loaded value (Switch other ∷ cs) = loaded other cs

abbrev pub present_value : List Past → Option ℕ
present_value [] = None
present_value (p ∷ ps) = Some p.value

-- the call doesn't bring back the pair, which isn't the present one, and isn't a cause for it to leave by itself
abbrev pub LeavesBe : Past → RootsCall → Type 0
LeavesBe p (Switch value) = p.value ≢ value
LeavesBe p (Shared (Fill side entry wp)) = Unit {0}
LeavesBe p (Shared (DropPage page)) = Unit {0}
LeavesBe p (Shared (DropDir index)) = Unit {0}
LeavesBe p (Shared DropAll) = ⊥
LeavesBe p (Shared (Note frame)) = Unit {0}
LeavesBe p (Shared (Written frame)) = is_among frame p.tables ≡ false

abbrev pub AllLeaveBe : Past → List RootsCall → Type 0
AllLeaveBe p [] = Unit {0}
AllLeaveBe p (c ∷ cs) = LeavesBe p c × AllLeaveBe p cs

-- each value that is loaded is one of these
abbrev pub LoadsAmong : List ℕ → List RootsCall → Type 0
LoadsAmong values [] = Unit {0}
LoadsAmong values (Shared call ∷ cs) = LoadsAmong values cs
LoadsAmong values (Switch value ∷ cs) = (is_among value values ≡ true) × LoadsAmong values cs

-- it is the present pair, and others are after it
pub record IsPresent (p : Past) (ps : List Past) : Type 0 where
  pub others : List Past
  pub first : ps ≡ p ∷ others

-- A pair that isn't marked when another value is loaded comes back as it was when its own value is loaded again, where
-- no frame of its tables was written and not all were dropped in between, and at most seven values were loaded.
abbrev pub PairsComeBack : Type 0
PairsComeBack =
    (value other : ℕ) (before away : List RootsCall) (values : List ℕ) (p : Past) → IsPresent p (pairs_after value before) → p.stale ≡ false
    → AllLeaveBe p (Switch other ∷ away) → LoadsAmong values (Switch other ∷ away) → length values ≤ 7
    → IsPresent p (pairs_after value (before ++ Switch other ∷ away ++ Switch p.value ∷ []))

-- a cause for a pair to leave that isn't the present one
abbrev pub IsCause : Past → RootsCall → Type 0
IsCause p (Switch value) = ⊥
IsCause p (Shared (Fill side entry wp)) = ⊥
IsCause p (Shared (DropPage page)) = ⊥
IsCause p (Shared (DropDir index)) = ⊥
IsCause p (Shared DropAll) = Unit {0}
IsCause p (Shared (Note frame)) = ⊥
IsCause p (Shared (Written frame)) = is_among frame p.tables ≡ true

abbrev pub HasCause : Past → List RootsCall → Type 0
HasCause p [] = ⊥
HasCause p (c ∷ cs) = IsCause p c ⊎ HasCause p cs

-- the value isn't loaded
abbrev pub IsNotLoaded : ℕ → List RootsCall → Type 0
IsNotLoaded value [] = Unit {0}
IsNotLoaded value (Shared call ∷ cs) = IsNotLoaded value cs
IsNotLoaded value (Switch other ∷ cs) = (value ≢ other) × IsNotLoaded value cs

-- A pair that is marked when another value is loaded, or of which a frame of its tables is written while it isn't the
-- present one, or beside which all are dropped, doesn't come back: when its value is loaded again a new pair begins.
abbrev pub PairsLeave : Type 0
PairsLeave =
    (value other : ℕ) (before away : List RootsCall) (p : Past) → IsPresent p (pairs_after value before)
    → IsNotLoaded p.value (Switch other ∷ away) → (p.stale ≡ true) ⊎ HasCause p away
    → IsPresent (begun p.value) (pairs_after value (before ++ Switch other ∷ away ++ Switch p.value ∷ []))

abbrev pub is_of_value : ℕ → Option Past → Bool
is_of_value value None = false
is_of_value value (Some p) = p.value == value

-- the pair leaves, which is not the present one: of 8 that stay it is the last and a new one comes, all are dropped, or a
-- frame of its tables is written
abbrev pub leaves : RootsCall → List Past → Past → Bool
leaves (Switch value) ps p = not (has_value value (unmarked ps)) && is_of_value p.value (slice_get (unmarked ps) 7)
leaves (Shared (Fill side entry wp)) ps p = false
leaves (Shared (DropPage page)) ps p = false
leaves (Shared (DropDir index)) ps p = false
leaves (Shared DropAll) ps p = true
leaves (Shared (Note frame)) ps p = false
leaves (Shared (Written frame)) ps p = is_among frame p.tables

-- Of the pairs that aren't the present one those leave, and each other is as it was.
abbrev pub OthersLeaveOrStay : Type 0
OthersLeaveOrStay =
    (value : ℕ) (calls : List RootsCall) (call : RootsCall) (present : Past) (others : List Past) (i : ℕ) (p : Past)
    → pairs_after value calls ≡ present ∷ others → slice_get others i ≡ Some p
    → (leaves call (present ∷ others) p ≡ true → has_value p.value (pairs_after value (calls ++ call ∷ [])) ≡ false)
    × (leaves call (present ∷ others) p ≡ false → of_value p.value (pairs_after value (calls ++ call ∷ [])) ≡ Some p)

-- The present one leaves at a load exactly where it is marked. Its own value then begins a new one.
abbrev pub PresentLeavesOrStays : Type 0
PresentLeavesOrStays =
    (value : ℕ) (calls : List RootsCall) (other : ℕ) (present : Past) (others : List Past) → pairs_after value calls ≡ present ∷ others
    → (present.stale ≡ true → present.value ≢ other → has_value present.value (pairs_after value (calls ++ Switch other ∷ [])) ≡ false)
    × (present.stale ≡ true → IsPresent (begun present.value) (pairs_after value (calls ++ Switch present.value ∷ [])))
    × (present.stale ≡ false → of_value present.value (pairs_after value (calls ++ Switch other ∷ [])) ≡ Some present)
