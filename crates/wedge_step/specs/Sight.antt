-- What becomes of what shadows show.
use Rattle.std.specs.Prelude.{◌≡◌, ℕ, ◌^◌, ◌<◌, nat_lt, ◌&&◌, if◌then◌else◌, Bool, true, false, None, List, []}
use Rattle.image_check.specs.Image.{Image}
use Rattle.shadow_tables.specs.OtherRoot.{OtherRoot}
use Rattle.shadow_tables.specs.Seen.{Seen, page_dropped}
use Rattle.shadow_tables.specs.Sight.{Sight, StaysBeside}
use Rattle.guest_ram.specs.Among.{is_among}
use Rattle.kept_laws.specs.OverSteps.{put_under}
use Rattle.wedge_step.specs.Ready.{AllOpen}
use Rattle.wedge_step.specs.Standing.{AreOpen}

-- this page was dropped, if it is one of the address space
abbrev pub one_dropped : ℕ → Seen → Seen
one_dropped page v = if nat_lt page (2 ^ 20) then page_dropped page v else v

-- these pages were, those of them that are
abbrev pub pages_dropped : List ℕ → Seen → Seen
pages_dropped pages v = record v { slots = λ page. if is_among page pages && nat_lt page (2 ^ 20) then None else v.slots page }

-- what is kept for other values once what is present is put by
abbrev pub with_present : Sight → List OtherRoot
with_present v = put_under v.cr3 v

-- nothing is kept, for any value
pub record IsBare (v : Sight) : Type 0 where
  pub none : (page : ℕ) → page < 2 ^ 20 → v.slots page ≡ None
  pub alone : v.other_roots ≡ []

-- these pages left, and no other
pub record Sheds (pages : List ℕ) (v v' : Sight) : Type 0 where
  pub stay : StaysBeside v v'
  pub gone : (page : ℕ) → page < 2 ^ 20 → is_among page pages ≡ true → v'.slots page ≡ None
  pub others : (page : ℕ) → page < 2 ^ 20 → is_among page pages ≡ false → v'.slots page ≡ v.slots page

-- Where the views might show what was kept, they may show what is kept. The rules may have changed between.
pub record StayOpen (image : Image) (before after : Bool) (v v' : Sight) : Type 0 where
  pub present : AreOpen image before v.slots → AreOpen image after v'.slots
  pub others : AllOpen image before v.other_roots → AllOpen image after v'.other_roots
