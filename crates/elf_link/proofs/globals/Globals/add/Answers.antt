use Rattle.std.proofs.Common.{◌∙◌, ◌++◌, ◌∷◌, [], List, ℕ, ap}
use Rattle.elf_link.specs.declared.target.Target.{Target}
use Rattle.elf_link.specs.Refusals.{holds}
use Rattle.elf_link.proofs.Names.{named-insert}
use Rattle.elf_link.specs.Held.{named}
use Rattle.elf_link.proofs.ExportLaws.{keys}
use Rattle.elf_link.proofs.globals.Globals.add.Goals as goal

pub returns : goal.returns
returns c =
    rw (← c.self.view_is)
    (ap named c.in_ok-insert.ensures.entries
    ∙ (named-insert c.self.inside.map.entries c.in_ok-bytes.bytes c.args.target
    (rw c.in_ok-bytes.ensures.items (ap (λ (gs : List (List ℕ × Target)). holds (keys gs) c.args.name.now) c.self.view_is ∙ c.requires))
    ∙ ap (λ (name : List ℕ). named c.self.inside.map.entries ++ (name, c.args.target) ∷ []) c.in_ok-bytes.ensures.items))
