-- What a step notes: where a range is ready for a write the frames of all its bytes, and of a walk that finds an entry
-- the frames of both its words, or that of the one word of a page of 4 MB.
use Rattle.std.specs.Prelude.{◌≡◌, ◌⊎◌, ℕ, ◌+◌, ◌/◌, ◌≤◌, ◌<◌, ◌^◌, Bool, true, List, [], ◌∷◌}
use Rattle.std.specs.List.{Contains}
use Rattle.paging.specs.declared.entry.Access.{Access}
use Rattle.paging.specs.declared.entry.Entry.{Entry}
use Rattle.paging.specs.declared.entry.Touch.TheVariants.{Ready}
use Rattle.paging.specs.declared.entry.Walk.TheVariants.{Found}
use Rattle.paging.specs.Fresh.{fresh, tables_read}
use Rattle.paging.specs.Space.{Space, place}
use Rattle.paging.specs.Uses.{uses}

abbrev pub WritesAreNoted : Type 0
WritesAreNoted =
    (s new : Space) (at len byte : ℕ) (access : Access) → access.write ≡ true → uses s at len access ≡ (Ready, new)
    → at ≤ byte → byte < at + len → len ≤ 4096 → Contains new.wrote (place new byte / 4096)

abbrev pub WalksAreNoted : Type 0
WalksAreNoted =
    (ram : List ℕ) (frames cr3 : ℕ) (pse : Bool) (page dir_at word_at : ℕ) (entry : Entry) → page < 2 ^ 20
    → fresh ram frames cr3 pse page ≡ Found entry dir_at word_at
    → (tables_read ram frames cr3 pse page ≡ dir_at / 4096 ∷ word_at / 4096 ∷ [])
    ⊎ ((word_at ≡ dir_at) × (tables_read ram frames cr3 pse page ≡ dir_at / 4096 ∷ []))
