-- What a cache may do to an entry that isn't meant.
use Rattle.std.specs.Prelude.{◌≡◌, ◌⊎◌, Option, None}
use Rattle.paging.specs.declared.entry.Entry.{Entry}

-- the entry of a page is as before, or gone
abbrev pub IsSameOrGone : Option Entry → Option Entry → Type 0
IsSameOrGone old new = (new ≡ old) ⊎ (new ≡ None)
