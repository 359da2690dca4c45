-- What the views of a kernel and of a user keep for a page.
use Rattle.std.specs.Prelude.{◌≡◌, ◌≢◌, ℕ, zero, suc, ◌+◌, ◌-◌, ◌*◌, ◌/◌, ◌%◌, ◌^◌, ◌<◌, List, [], ◌∷◌, Bool, true, false, ◌==◌, ◌&&◌, not, if◌then◌else◌, Option, Some, None}
use Rattle.guest_ram.specs.Among.{is_among}
use Rattle.paging.specs.declared.entry.Entry.{Entry}
use Rattle.paging.specs.Fresh.{allows, has}
use Rattle.frame_pool.specs.Held.{Holds}
use Rattle.shadow_views.specs.Tables.{dir, at, owned, IsIn}
use Rattle.shadow_tables.specs.declared.words.Side.{Side}
use Rattle.shadow_tables.specs.declared.words.Side.TheVariants.{Kernel, User}
use Rattle.shadow_tables.specs.declared.shadow.Shadow.{Shadow}

-- an entry, the view that holds it, and what the host may do there
pub record Slot : Type 0 where
  pub side : Side
  pub entry : Entry
  pub reads : Bool
  pub writes : Bool

abbrev pub is_user : Side → Bool
is_user Kernel = false
is_user User = true

-- the view lets the access pass under wp
abbrev pub permits : Side → Entry → Bool → Bool → Bool
permits side entry write wp = allows entry (record { write = write; user = is_user side }) wp

-- what a fill makes: the host may do what the view lets pass, but no write where the frame is barred from writes
abbrev pub filled : Bool → Side → Entry → Bool → Slot
filled barred side entry wp =
    record { side = side; entry = entry; reads = permits side entry false wp; writes = not barred && permits side entry true wp }

-- the same without the right to write, where its frame is one of these
abbrev pub barred : List ℕ → Option Slot → Option Slot
barred write_protected None = None
barred write_protected (Some slot) = Some (record slot { writes = slot.writes && not (is_among slot.entry.frame write_protected) })

abbrev pub worth : Bool → ℕ
worth b = if b then 1 else 0

-- The word that keeps it. Intel SDM volume 3, 32-bit paging: bits 0, 1 and 2 are present, write and user; bits 9 to 11
-- are ignored by the walk, and keep the entry's user, write and dirty flags; bits 12 to 31 are the frame.
unfoldable pub word_of : Slot → ℕ
word_of s =
    4096 * s.entry.frame + 0x800 * worth s.entry.dirty + 0x400 * worth s.entry.write + 0x200 * worth s.entry.user + 4
    + 2 * worth s.writes + worth s.reads

abbrev pub entry_of : ℕ → ℕ → Entry
entry_of page word =
    record { page = page; frame = word / 4096; user = has word 0x200; write = has word 0x400; dirty = has word 0x800 }

-- what a word that isn't 0 keeps
abbrev pub slot_of : Side → ℕ → ℕ → Slot
slot_of side page word = record { side = side; entry = entry_of page word; reads = word % 2 == 1; writes = has word 2 }

-- the words of a page in both views, of which one is 0
abbrev pub by_words : ℕ → ℕ → ℕ → Option Slot
by_words page zero zero = None
by_words page zero (suc user) = Some (slot_of User page (suc user))
by_words page (suc kernel) user = Some (slot_of Kernel page (suc kernel))

-- the word without the right to write, where it is of this frame
abbrev pub barred_word : ℕ → ℕ → ℕ
barred_word frame word = if (word / 4096 == frame) && has word 2 then word - 2 else word

-- the host's right to the access in a word
abbrev pub lets : ℕ → Bool → Bool
lets word write = if write then has word 2 else word % 2 == 1

abbrev pub roots : Shadow → List ℕ
roots s = s.kernel ∷ s.user ∷ []

-- the frames that the shadows hold
abbrev pub held : Shadow → List ℕ → List ℕ
held s m = owned m (roots s)

-- what is kept for a page
unfoldable pub slot_at : Shadow → List ℕ → ℕ → Option Slot
slot_at s m page = by_words page (at m s.kernel page) (at m s.user page)

-- A word of four bytes, in which bit 2 is set, and bit 0 where bit 1 is. Bits 3 to 8 are 0: PWT,
-- PCD, accessed, dirty, PAT and global. The host's walk sets none of them.
pub record IsMarked (word : ℕ) : Type 0 where
  pub user : word / 4 % 2 ≡ 1
  pub reads : word / 2 % 2 ≡ 1 → word % 2 ≡ 1
  pub plain : word / 8 % 64 ≡ 0
  pub fits : word < 2 ^ 32

-- The frames lie in the memory, each once. No page is held by both views. A word that names a table gives the host
-- all rights.
pub record IsShadow (s : Shadow) (m : List ℕ) : Type 0 where
  pub holds : Holds m (held s m)
  pub apart : (page : ℕ) → page < 2 ^ 20 → at m s.kernel page ≢ 0 → at m s.user page ≡ 0
  pub shape : (r d : ℕ) → IsIn r (roots s) → d < 1024 → dir m r d ≢ 0 → dir m r d % 4096 ≡ 7
  pub marks : (r page : ℕ) → IsIn r (roots s) → page < 2 ^ 20 → at m r page ≢ 0 → IsMarked (at m r page)

abbrev pub entry_in : Option Slot → Option Entry
entry_in None = None
entry_in (Some slot) = Some slot.entry

abbrev pub is_side : Side → Side → Bool
is_side Kernel Kernel = true
is_side Kernel User = false
is_side User Kernel = false
is_side User User = true

-- the host may do the access in that view
abbrev pub is_adequate : Option Slot → Side → Bool → Bool
is_adequate None side write = false
is_adequate (Some slot) side write = is_side slot.side side && (if write then slot.writes else slot.reads)

abbrev pub root_of : Shadow → Side → ℕ
root_of s Kernel = s.kernel
root_of s User = s.user

-- of what is kept only that of one page changed, and is now o
pub record Becomes (s : Shadow) (m m' : List ℕ) (page : ℕ) (o : Option Slot) : Type 0 where
  pub shadow : IsShadow s m'
  pub there : slot_at s m' page ≡ o
  pub others : (q : ℕ) → q < 2 ^ 20 → (q ≡ page → ⊥) → slot_at s m' q ≡ slot_at s m q

-- the views keep nothing, and hold no frame but their roots
pub record IsEmpty (s : Shadow) (m : List ℕ) : Type 0 where
  pub shadow : IsShadow s m
  pub none : (page : ℕ) → page < 2 ^ 20 → slot_at s m page ≡ None
  pub frames : held s m ≡ roots s

-- the frames fs are some of the frames gs
abbrev pub ArePart : List ℕ → List ℕ → Type 0
ArePart fs gs = (f : ℕ) → is_among f fs ≡ true → is_among f gs ≡ true

-- over all pages: of what is kept only that of one page changed, and is now o
pub record Turns (f f' : ℕ → Option Slot) (page : ℕ) (o : Option Slot) : Type 0 where
  pub there : f' page ≡ o
  pub others : (q : ℕ) → q < 2 ^ 20 → (q ≡ page → ⊥) → f' q ≡ f q

-- and only those of a directory index changed, and are gone
pub record LosesDir (f f' : ℕ → Option Slot) (index : ℕ) : Type 0 where
  pub gone : (page : ℕ) → page < 2 ^ 20 → page / 1024 ≡ index → f' page ≡ None
  pub others : (page : ℕ) → page < 2 ^ 20 → (page / 1024 ≡ index → ⊥) → f' page ≡ f page

-- nothing that is kept changed
abbrev pub SameSlots : (f f' : ℕ → Option Slot) → Type 0
SameSlots f f' = (page : ℕ) → page < 2 ^ 20 → f' page ≡ f page

-- what is kept lost the right to write to the frames of `write_protected`, and nothing else changed
abbrev pub LosesWrites : (f f' : ℕ → Option Slot) → List ℕ → Type 0
LosesWrites f f' write_protected = (page : ℕ) → page < 2 ^ 20 → f' page ≡ barred write_protected (f page)
