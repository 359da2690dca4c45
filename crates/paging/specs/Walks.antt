-- What a walk of the tables finds.
use Rattle.std.specs.Prelude.{◌≡◌, ℕ, ◌+◌, ◌*◌, ◌<◌, ◌≤◌}
use Rattle.paging.specs.declared.entry.Walk.{Walk}
use Rattle.paging.specs.declared.entry.Walk.TheVariants.{Absent, Beyond, Reserved, Found}

-- what a walk finds lies in the frames
abbrev pub FoundIn : ℕ → ℕ → Walk → Type 0
FoundIn frames page Absent = Unit {0}
FoundIn frames page Beyond = Unit {0}
FoundIn frames page Reserved = Unit {0}
FoundIn frames page (Found entry dir_at word_at) =
    (entry.page ≡ page) × (entry.frame < frames) × (dir_at + 4 ≤ 4096 * frames) × (word_at + 4 ≤ 4096 * frames)
