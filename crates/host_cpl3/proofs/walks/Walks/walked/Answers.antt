use Rattle.std.proofs.Common.{ℕ, ◌/◌, ◌≤◌, arith}
use Rattle.paging.specs.declared.entry.Entry.{Entry}
use Rattle.host_cpl3.specs.KeptWalks.{IsKept, IsKeptWithin, code_of}
use Rattle.host_cpl3.proofs.Keeping.{keep_kept, kept_is, new_kept, some_kept}
use Rattle.host_cpl3.proofs.walks.Walks.walked.Goals as goal

pub returns-in-Found-clause-kept : goal.returns-in-Found-clause-kept
returns-in-Found-clause-kept c =
    let a = c.args in
    let f = c.in-Found in
    let lowest : c.min-self.result ≤ a.self.now.lowest = omega arith in
    let highest : a.self.now.highest ≤ c.max-self.result = omega arith in
    let K : ℕ → Entry → ℕ → Type 0 = IsKeptWithin a.self.now a.ram.now a.root in
    let L : ℕ → Entry → ℕ → Type 0 = λ q x t. IsKept a.ram.now a.root q x t × ((c.min-self.result ≤ t) × (t ≤ c.max-self.result)) in
    let wider : (q : ℕ) (x : Entry) (t : ℕ) → K q x t → L q x t =
    λ q x t h. (h.0, (omega (arith, lowest, h.1.0), omega (arith, highest, h.1.1))) in
    let new : IsKept a.ram.now a.root a.page f.entry (f.word_at / 4096) =
    new_kept a.ram.now c.len.result a.root a.page f.entry f.dir_at f.word_at c.len.ensures.count c.requires.page
    f.ensures.walk f.ensures.found.1
    in (
      keep_kept K L a.self.now.buffer c.keep.new.self a.self.now.tables a.page (f.word_at / 4096) f.entry (omega arith) c.keep.ensures
          f.ensures.found.0 wider c.requires.kept.0 (new, (omega arith, omega arith)),
      λ q. some_kept (code_of a.self.now q) (λ x. K q x a.self.now.code.table) (λ x. L q x a.self.now.code.table)
          (λ x. wider q x a.self.now.code.table) (c.requires.kept.1 q),
    )

pub returns-in-Found-clause-held : goal.returns-in-Found-clause-held
returns-in-Found-clause-held c =
    kept_is c.args.self.now.buffer c.keep.new.self c.in-Found.entry c.args.page c.keep.ensures c.in-Found.ensures.found.0
