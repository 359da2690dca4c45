-- Memory as a processor sees it between two steps: by the translations that are cached, and where none is by what a walk of the
-- tables finds. No flag is set and no right is tested.
use Rattle.std.specs.Prelude.{ℕ, ◌+◌, ◌*◌, ◌/◌, ◌%◌, ◌==◌, Bool, List, Option, Some, None, if◌then◌else◌}
use Rattle.std.specs.Option.{option_or}
use Rattle.std.specs.FinMap.{FinMap, get}
use Rattle.std.specs.Ordering.{nat_cmp}
use Rattle.guest_ram.specs.Bytes.{part}
use Rattle.ia32_types.specs.declared.addresses.TheConstants.{LAST_PAGE}
use Rattle.paging.specs.declared.entry.Entry.{Entry}
use Rattle.paging.specs.declared.entry.Walk.{Walk}
use Rattle.paging.specs.declared.entry.Walk.TheVariants.{Found}
use Rattle.paging.specs.Fresh.{fresh}
use Rattle.descriptors.specs.Controls.{pse_of}
use Rattle.descriptors.specs.declared.cpu.Cpu.{Cpu}

-- the bytes of memory, of which the first 4,096 * frames are the guest's; the directory's place and the size of pages; and
-- what is cached
pub record View : Type 0 where
  pub ram : List ℕ
  pub frames : ℕ
  pub cr3 : ℕ
  pub pse : Bool
  pub set : FinMap nat_cmp Entry

-- by this processor
abbrev pub view_of : List ℕ → ℕ → Cpu → FinMap nat_cmp Entry → View
view_of ram frames cpu set = record { ram = ram; frames = frames; cr3 = cpu.cr3; pse = pse_of cpu; set = set }

abbrev pub found : Walk → Option Entry
found (Found entry dir_at word_at) = Some entry
found _ = None

unfoldable pub translation : View → ℕ → Option Entry
translation v page = option_or (get v.set page) (found (fresh v.ram v.frames v.cr3 v.pse page))

abbrev pub bytes_by : List ℕ → Option Entry → ℕ → ℕ → Option (List ℕ)
bytes_by ram None at len = None
bytes_by ram (Some entry) at len = Some (part ram (entry.frame * 4096 + at % 4096) len)

-- the bytes at an address, all in its page
unfoldable pub page_bytes : View → ℕ → ℕ → Option (List ℕ)
page_bytes v at len = bytes_by v.ram (translation v (at / 4096)) at len

-- the first bytes of the next page, which the last page has not
unfoldable pub next_bytes : View → ℕ → ℕ → Option (List ℕ)
next_bytes v at len = if at / 4096 == LAST_PAGE then None else page_bytes v (at / 4096 * 4096 + 4096) len
