-- Names and their meanings, where names are held in vectors.
use Rattle.std.specs.Prelude.{ℕ, List, map}
use Rattle.std.specs.Global.{Vec}
use Rattle.elf_link.specs.declared.target.Target.{Target}

-- the names as lists
abbrev pub named : List (Vec ℕ × Target) → List (List ℕ × Target)
named es = map (λ e. (e.0.items, e.1)) es
