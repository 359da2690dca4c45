-- What a cache holds after a step, by the pages that the step used and the set that it left.
use Rattle.std.specs.Prelude.{ℕ, Bool, true, false, ◌==◌, ◌&&◌, not, List, [], ◌∷◌, Option, Some, None, is_some, if◌then◌else◌}
use Rattle.std.specs.FinMap.{FinMap, get, remove, retain_keys}
use Rattle.std.specs.Ordering.{nat_cmp}
use Rattle.paging.specs.declared.entry.Entry.{Entry}
use Rattle.step_mem.specs.declared.changes.Change.{Change}
use Rattle.step_mem.specs.declared.changes.Change.TheVariants.{Gone, Now}

abbrev pub Set : Type 0
Set = FinMap nat_cmp Entry

-- how a cache keeps an entry
abbrev pub Keeps : Type 0
Keeps = Set → Entry → Set

-- changes made one after another by such a cache
abbrev pub made_in : Keeps → Set → List Change → Set
made_in keeping set [] = set
made_in keeping set (Gone page ∷ cs) = made_in keeping (remove set page) cs
made_in keeping set (Now entry ∷ cs) = made_in keeping (keeping set entry) cs

-- entries kept one after another
abbrev pub keep_all : Keeps → Set → List Entry → Set
keep_all keeping set [] = set
keep_all keeping set (entry ∷ entries) = keep_all keeping (keeping set entry) entries

-- the last change of a page leaves it with no entry
abbrev pub is_gone : Option (Option Entry) → Bool
is_gone (Some None) = true
is_gone (Some (Some entry)) = false
is_gone None = false

-- an entry, unless it is gone
abbrev pub unless : Bool → Option Entry → Option Entry
unless gone entry = if gone then None else entry

abbrev pub same_flag : Bool → Bool → Bool
same_flag a b = if a then b else not b

abbrev pub same_entry : Entry → Entry → Bool
same_entry a b =
    a.page == b.page && (a.frame == b.frame && (same_flag a.user b.user && (same_flag a.write b.write && same_flag a.dirty b.dirty)))

-- the entry that a page has now, where it had another one before, or none
abbrev pub new_entry : (old now : Option Entry) → Option Entry
new_entry old None = None
new_entry None (Some now) = Some now
new_entry (Some old) (Some now) = if same_entry old now then None else Some now

abbrev pub with_new : Option Entry → List Entry → List Entry
with_new None entries = entries
with_new (Some entry) entries = entry ∷ entries

-- of these pages, in their order, the entries that a step has left where they are new
abbrev pub new_entries : (old now : Set) → List ℕ → List Entry
new_entries old now [] = []
new_entries old now (page ∷ pages) = with_new (new_entry (get old page) (get now page)) (new_entries old now pages)

-- what was held of the pages that still have an entry
abbrev pub standing : (old now : Set) → Set
standing old now = retain_keys old (λ page. is_some (get now page))

-- What a cache holds after a step that used these pages, in this order, and left this set: what it held of pages that
-- still have an entry, and then each page's new entry is kept.
abbrev pub kept_after : Keeps → Set → List ℕ → Set → Set
kept_after keeping old pages now = keep_all keeping (standing old now) (new_entries old now pages)
