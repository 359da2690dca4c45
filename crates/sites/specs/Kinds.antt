-- The numbers of the kinds.
use Rattle.std.specs.Prelude.{ℕ, ◌+◌, ◌-◌, List, [], ◌∷◌, Option, Some, None, slice_index_or, nat_lt, ◌==◌, ◌||◌, if◌then◌else◌}
use denote.Enum.Declared.{tag_of}
use Rattle.ia32_types.specs.contracts.site.SiteKind.{the_type}
use Rattle.ia32_types.specs.declared.site.SiteKind.{SiteKind}
use Rattle.ia32_types.specs.declared.site.SiteKind.TheVariants.{Cli, Sti, StiHlt, Hlt, PushFlags, PopFlags, Iret, ReadControl, WriteControl, LoadGdt, LoadIdt, LoadTask, DropPage, ReadSeg, LoadSeg, PushSeg, PopSeg, FarJump, PortIn, PortOut, Return, JumpTo, CallTo}

-- the kinds in the order of their numbers, from 1
abbrev pub kinds : List SiteKind
kinds = Cli ∷ Sti ∷ StiHlt ∷ Hlt ∷ PushFlags ∷ PopFlags ∷ Iret ∷ ReadControl ∷ WriteControl ∷ LoadGdt ∷ LoadIdt ∷ LoadTask ∷ DropPage ∷
    ReadSeg ∷ LoadSeg ∷ PushSeg ∷ PopSeg ∷ FarJump ∷ PortIn ∷ PortOut ∷ Return ∷ JumpTo ∷ CallTo ∷ []

-- the place of a kind in its declaration, from 1
abbrev pub number : SiteKind → ℕ
number kind = tag_of the_type kind + 1

-- the kind of a number, if it is one of 1 to 23
abbrev pub kind_numbered : ℕ → Option SiteKind
kind_numbered n = if n == 0 || nat_lt 23 n then None else Some (slice_index_or kinds (n - 1) Cli)
