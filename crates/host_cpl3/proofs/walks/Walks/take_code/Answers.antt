use Rattle.std.proofs.Common.{ℕ, ◌%◌, sym, subst, Option}
use Rattle.std.specs.Prelude.{slice_index, IfSome}
use Rattle.paging.specs.declared.entry.Entry.{Entry}
use Rattle.host_cpl3.specs.KeptWalks.{IsKeptWithin}
use Rattle.host_cpl3.proofs.Keeping.{last_kept}
use Rattle.host_cpl3.proofs.walks.Walks.take_code.Goals as goal

pub returns-clause-kept : goal.returns-clause-kept
returns-clause-kept c =
    let a = c.args in
    let w = c.kept_data-entry.new.self in
    let K : ℕ → Entry → Type 0 = λ q x. IsKeptWithin w a.ram.now a.root q x (slice_index w.tables (a.page % 64)) in (
      c.kept_data-entry.ensures.kept.0,
      last_kept K c.kept_data-entry.result a.page
          (subst (λ (o : Option Entry). IfSome o (K a.page)) (sym c.kept_data-entry.ensures.held)
          (c.kept_data-entry.ensures.kept.0 a.page)),
    )
