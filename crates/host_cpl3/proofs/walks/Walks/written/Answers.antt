use Rattle.std.proofs.Common.{ℕ, ◌%◌, ◌<◌, ◌≢◌, sym, arith}
use Rattle.std.specs.Prelude.{slice_index}
use Rattle.std.specs.FinMap.{get}
use Rattle.paging.specs.declared.entry.Entry.{Entry}
use Rattle.host_cpl3.specs.KeptWalks.{IsWithin, IsKeptWithin, code_of}
use Rattle.host_cpl3.proofs.Keeping.{some_kept, kept_still}
use Rattle.host_cpl3.proofs.walks.Walks.written.Goals as goal

pub returns-else-reads-2-clause-kept : goal.returns-else-reads-2-clause-kept
returns-else-reads-2-clause-kept c = λ m m' old same.
    let a = c.args in
    let w = a.self.now in
    let still : (page table : ℕ) → (IsWithin w table → table ≢ a.first) → (IsWithin w table → table ≢ a.last) → (entry : Entry)
    → IsKeptWithin w m a.root page entry table → IsKeptWithin w m' a.root page entry table =
    λ page table first last entry k. (
      kept_still m m' a.root page a.first a.last table entry same
          (λ e. c.reads.ensures.root c.if-reads.false (sym e)) (λ e. c.reads-else-reads.ensures.root c.if-reads-2.false (sym e))
          (first k.1) (last k.1) k.0,
      k.1,
    )
    in (
      λ page.
          let lt : page % 64 < 64 = omega arith in
          let table = slice_index w.tables (page % 64) in
          some_kept (get w.buffer page) (λ entry. IsKeptWithin w m a.root page entry table)
          (λ entry. IsKeptWithin w m' a.root page entry table)
          (still page table (c.reads.ensures.tables c.if-reads.false (page % 64) lt)
          (c.reads-else-reads.ensures.tables c.if-reads-2.false (page % 64) lt)) (old.0 page),
      λ page. some_kept (code_of w page) (λ entry. IsKeptWithin w m a.root page entry w.code.table)
          (λ entry. IsKeptWithin w m' a.root page entry w.code.table)
          (still page w.code.table (c.reads.ensures.code c.if-reads.false) (c.reads-else-reads.ensures.code c.if-reads-2.false))
          (old.1 page),
    )

pub returns-then-reads-clause-kept : goal.returns-then-reads-clause-kept
returns-then-reads-clause-kept c = λ m m' old same. c.forget.ensures.kept m' c.args.root
