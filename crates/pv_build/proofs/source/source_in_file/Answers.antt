use Rattle.std.proofs.Common.{ℕ, List, sym, subst}
use Rattle.pv_io.specs.Files.{Holds}
use Rattle.pv_build.proofs.Sources.{held_source, held_no_source}
use Rattle.pv_build.proofs.source.source_in_file.Goals as goal

pub returns-clause-source : goal.returns-clause-source
returns-clause-source g c =
    held_source _ _ _ c.source_of_text.result
    (subst (λ (b : List ℕ). Holds (g.F.Files.held c.args.files.now) c.args.name.now b) (sym c.deref.ensures.value)
    c.in_ok-file.ensures.loaded) c.source_of_text.ensures.source

pub returns-clause-halted : goal.returns-clause-halted
returns-clause-halted g c =
    held_no_source _ _ _ _ _ _ _ c.source_of_text.result
    (subst (λ (b : List ℕ). Holds (g.F.Files.held c.args.files.now) c.args.name.now b) (sym c.deref.ensures.value)
    c.in_ok-file.ensures.loaded) c.source_of_text.ensures.refused
