-- Files in memory, some of whose calls fail by a list of their numbers.
use Rattle.std.specs.Prelude.{ℕ, Bool, ◌||◌, List, String, Vec, option_map, is_none}
use Rattle.std.specs.declared.alloc.Global.{Global}
use Rattle.std.specs.BTreeMap.{BTreeMap, get_by_text}
use Rattle.pv_io.specs.Files.{FileMap}
use Rattle.guest_ram.specs.Among.{is_among}

-- the bytes of each name
abbrev pub held_of : BTreeMap (String Global) (Vec ℕ Global) → FileMap
held_of files name = option_map (λ v. v.items) (get_by_text files name)

-- a call that is a load of this name fails
abbrev pub load_fails : ℕ → List ℕ → BTreeMap (String Global) (Vec ℕ Global) → List ℕ → Bool
load_fails call fail files name = is_among call fail || is_none (get_by_text files name)
