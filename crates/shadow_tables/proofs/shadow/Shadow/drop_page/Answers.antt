use Rattle.std.proofs.Common.{ℕ, List, None, ◌∙◌, subst}
use Rattle.frame_pool.specs.Held.{Writes}
use Rattle.frame_pool.proofs.Held.{Moves-kept, Writes-trans}
use Rattle.shadow_tables.specs.Slots.{roots, held, slot_at, Becomes}
use Rattle.shadow_tables.specs.Laws.Entries.{entries_of-turned}
use Rattle.shadow_views.proofs.Changes.{IsView-from_Holds}
use Rattle.shadow_tables.specs.Laws.Views.{in-kernel, in-user}
use Rattle.shadow_tables.proofs.Fills.{drops, drop-half}
use Rattle.shadow_tables.proofs.Tabled.{keeps-trans, puts-keep}
use Rattle.shadow_tables.proofs.shadow.Shadow.drop_page.Goals as goal

pub clear-requires-clause-view : goal.clear-requires-clause-view
clear-requires-clause-view c = let s =
    c.args.self.now in IsView-from_Holds c.args.ram.now (roots s) s.kernel c.requires.shadow.holds (in-kernel s)

pub clear-requires-2-clause-view : goal.clear-requires-2-clause-view
clear-requires-2-clause-view c =
    let s = c.args.self.now in
    let a = c.clear.ensures.puts (roots s) c.requires.shadow.holds (in-kernel s) in
    IsView-from_Holds c.clear.new.ram (roots s) s.user
    (drop-half s c.args.ram.now c.clear.new.ram c.args.page c.requires.shadow a) (in-user s)

dropped : (c : goal.After-clear-2) → Becomes c.args.self.now c.args.ram.now c.clear-2.new.ram c.args.page None
dropped c =
    let s = c.args.self.now in
    let a = c.clear.ensures.puts (roots s) c.requires.shadow.holds (in-kernel s) in
    let h = drop-half s c.args.ram.now c.clear.new.ram c.args.page c.requires.shadow a in
    drops s c.args.ram.now c.clear.new.ram c.clear-2.new.ram c.args.page c.requires.shadow c.requires.page a
    (c.clear-2.ensures.puts (roots s) h (in-user s))

pub returns-clause-becomes : goal.returns-clause-becomes
returns-clause-becomes c = dropped c

pub returns-clause-entries : goal.returns-clause-entries
returns-clause-entries c =
    let s = c.args.self.now in
    entries_of-turned (slot_at s c.args.ram.now) (slot_at s c.clear-2.new.ram) c.args.page None c.requires.page
    (dropped c).there (dropped c).others

pub returns-clause-held : goal.returns-clause-held
returns-clause-held c =
    let s = c.args.self.now in
    let a = c.clear.ensures.puts (roots s) c.requires.shadow.holds (in-kernel s) in
    let h = drop-half s c.args.ram.now c.clear.new.ram c.args.page c.requires.shadow a in
    (c.clear-2.ensures.puts (roots s) h (in-user s)).frames ∙ a.frames

pub returns-clause-memory : goal.returns-clause-memory
returns-clause-memory c =
    let s = c.args.self.now in
    let a = c.clear.ensures.puts (roots s) c.requires.shadow.holds (in-kernel s) in
    let h = drop-half s c.args.ram.now c.clear.new.ram c.args.page c.requires.shadow a in
    let b = c.clear-2.ensures.puts (roots s) h (in-user s) in
    Writes-trans (held s c.args.ram.now) c.args.ram.now c.clear.new.ram c.clear-2.new.ram a.writes
    (subst (λ (fs : List ℕ). Writes fs c.clear.new.ram c.clear-2.new.ram) a.frames b.writes)

pub returns-clause-moves : goal.returns-clause-moves
returns-clause-moves c = λ p o.
    let s = c.args.self.now in let m = c.args.ram.now in let n = c.clear-2.new.ram in
    Moves-kept p m n (held s m) (held s n) o (returns-clause-held c) (returns-clause-memory c)

pub returns-clause-tables : goal.returns-clause-tables
returns-clause-tables c =
    let s = c.args.self.now in let m = c.args.ram.now in let n = c.clear.new.ram in
    let a = c.clear.ensures.puts (roots s) c.requires.shadow.holds (in-kernel s) in
    let h = drop-half s m n c.args.page c.requires.shadow a in
    keeps-trans s m n c.clear-2.new.ram (puts-keep s m n s.kernel c.args.page 0 a)
    (puts-keep s n c.clear-2.new.ram s.user c.args.page 0 (c.clear-2.ensures.puts (roots s) h (in-user s)))
