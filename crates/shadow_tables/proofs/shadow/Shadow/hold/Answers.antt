use Rattle.std.proofs.Common.{◌/◌, Some, sym, ap, ◌∙◌, subst}
use Rattle.shadow_tables.specs.Slots.{slot_at, Becomes, roots, root_of, filled, held}
use Rattle.frame_pool.specs.Held.{Owns, Moves}
use Rattle.shadow_views.specs.Tables.{IsIn, IsView, Opens, Puts}
use Rattle.shadow_views.proofs.Changes.{IsView-from_Holds}
use Rattle.frame_pool.proofs.Held.{Holds-from_Owns, Owns-moves}
use Rattle.shadow_tables.specs.Laws.Views.{in-root}
use Rattle.shadow_tables.specs.Laws.Entries.{entries_of-turned}
use Rattle.shadow_tables.proofs.Tabled.{has_tables_under-table}
use Rattle.shadow_tables.proofs.Fills.{fills, fill-moves, fill-takes, dropped-owns, dropped-free, has_tables_under-owns}
use Rattle.shadow_tables.proofs.shadow.Shadow.hold.Goals as goal

pub open-requires-clause-view : goal.open-requires-clause-view
open-requires-clause-view c =
    let s = c.args.self.now in
    let e = c.root-root.ensures ∙ ap (λ x. root_of x c.args.side) c.drop_page.ensures.same in
    subst (IsView c.drop_page.new.ram) (sym e)
    (IsView-from_Holds c.drop_page.new.ram (roots s) (root_of s c.args.side) c.drop_page.ensures.becomes.shadow.holds
    (in-root s c.args.side))

pub open-requires-clause-stands : goal.open-requires-clause-stands
open-requires-clause-stands c =
    (dropped-owns c.args.self.now c.args.pool.now c.args.ram.now c.drop_page.new.ram c.requires.owns c.drop_page.ensures.held
    c.drop_page.ensures.memory).stands

pub open-requires-clause-free : goal.open-requires-clause-free
open-requires-clause-free c =
    dropped-free c.args.self.now c.args.pool.now c.args.ram.now c.drop_page.new.ram c.requires.owns c.drop_page.ensures.held
    c.drop_page.ensures.memory c.requires.free

-- what the call of `open` gives
opened : (c : goal.After-word_of) → Opens c.args.pool.now c.open.new.pool c.drop_page.new.ram c.open.new.ram (roots c.args.self.now)
    c.root-root.result (c.args.entry.page / 1024)
opened c =
    let s = c.args.self.now in
    let e = c.root-root.ensures ∙ ap (λ x. root_of x c.args.side) c.drop_page.ensures.same in
    c.open.ensures.opens (roots s)
    (dropped-owns s c.args.pool.now c.args.ram.now c.drop_page.new.ram c.requires.owns c.drop_page.ensures.held c.drop_page.ensures.memory)
    (subst (λ r. IsIn r (roots s)) (sym e) (in-root s c.args.side))

owns : (c : goal.After-word_of) → Owns c.open.new.pool c.open.new.ram (held c.args.self.now c.open.new.ram)
owns c =
    has_tables_under-owns c.args.self.now c.args.pool.now c.args.ram.now c.drop_page.new.ram c.requires.owns c.drop_page.ensures.held
    c.drop_page.ensures.memory
    c.open.new.pool c.open.new.ram c.root-root.result (c.args.entry.page / 1024) (opened c)

pub set-requires-clause-view : goal.set-requires-clause-view
set-requires-clause-view c =
    let s = c.args.self.now in
    let e = c.root-root.ensures ∙ ap (λ x. root_of x c.args.side) c.drop_page.ensures.same in
    subst (IsView c.open.new.ram) (sym e)
    (IsView-from_Holds c.open.new.ram (roots s) (root_of s c.args.side)
    (Holds-from_Owns c.open.new.pool c.open.new.ram (held s c.open.new.ram) (owns c)) (in-root s c.args.side))

pub set-requires-clause-some : goal.set-requires-clause-some
set-requires-clause-some c = (opened c).some

-- what the call of `set` gives
put : (c : goal.After-set) → Puts c.open.new.ram c.set.new.ram (roots c.args.self.now) c.root-root.result c.args.entry.page c.word_of.result
put c =
    let s = c.args.self.now in
    let e = c.root-root.ensures ∙ ap (λ x. root_of x c.args.side) c.drop_page.ensures.same in
    c.set.ensures.puts (roots s) (Holds-from_Owns c.open.new.pool c.open.new.ram (held s c.open.new.ram) (owns c.before))
    (subst (λ r. IsIn r (roots s)) (sym e) (in-root s c.args.side))

made : (c : goal.After-set) → Becomes c.args.self.now c.args.ram.now c.set.new.ram c.args.entry.page
    (Some (filled c.args.barred c.args.side c.args.entry c.args.wp))
made c =
    let s = c.args.self.now in
    let e = c.root-root.ensures ∙ ap (λ x. root_of x c.args.side) c.drop_page.ensures.same in
    let a = subst (λ r. Puts c.open.new.ram c.set.new.ram (roots s) r c.args.entry.page c.word_of.result) e (put c) in
    let b = subst (λ v. Puts c.open.new.ram c.set.new.ram (roots s) (root_of s c.args.side) c.args.entry.page v) c.word_of.ensures a in
    fills s c.args.ram.now c.drop_page.new.ram c.open.new.ram c.set.new.ram c.args.barred c.args.side c.args.entry c.args.wp
    c.drop_page.ensures.becomes (opened c.before).words (opened c.before).dirs
    (Holds-from_Owns c.open.new.pool c.open.new.ram (held s c.open.new.ram) (owns c.before)) b c.requires.page c.requires.frame

pub returns-clause-becomes : goal.returns-clause-becomes
returns-clause-becomes c = made c

pub returns-clause-entries : goal.returns-clause-entries
returns-clause-entries c =
    let s = c.args.self.now in
    entries_of-turned (slot_at s c.args.ram.now) (slot_at s c.set.new.ram) c.args.entry.page
    (Some (filled c.args.barred c.args.side c.args.entry c.args.wp)) c.requires.page (made c).there (made c).others

moved : (c : goal.After-set) → Moves c.args.pool.now c.open.new.pool c.args.ram.now c.set.new.ram (held c.args.self.now c.args.ram.now)
    (held c.args.self.now c.set.new.ram)
moved c =
    fill-moves c.args.self.now c.args.pool.now c.args.ram.now c.drop_page.new.ram c.requires.owns c.drop_page.ensures.held
    c.drop_page.ensures.memory
    c.open.new.pool c.open.new.ram c.set.new.ram c.root-root.result (c.args.entry.page / 1024) c.args.entry.page c.word_of.result
    (opened c.before) (put c)

pub returns-clause-moves : goal.returns-clause-moves
returns-clause-moves c = moved c

pub returns-clause-owns : goal.returns-clause-owns
returns-clause-owns c =
    let s = c.args.self.now in
    Owns-moves c.args.pool.now c.open.new.pool c.args.ram.now c.set.new.ram (held s c.args.ram.now) (held s c.set.new.ram)
    c.requires.owns (moved c)

pub returns-clause-one : goal.returns-clause-one
returns-clause-one c =
    fill-takes c.args.self.now c.args.pool.now c.args.ram.now c.drop_page.new.ram c.requires.owns c.drop_page.ensures.held
    c.drop_page.ensures.memory
    c.open.new.pool c.open.new.ram c.set.new.ram c.root-root.result (c.args.entry.page / 1024) c.args.entry.page c.word_of.result
    (opened c.before) (put c)

pub returns-clause-table : goal.returns-clause-table
returns-clause-table c =
    let s = c.args.self.now in
    let e = c.root-root.ensures ∙ ap (λ x. root_of x c.args.side) c.drop_page.ensures.same in
    has_tables_under-table s c.args.pool.now c.open.new.pool c.args.ram.now c.drop_page.new.ram c.open.new.ram c.set.new.ram c.args.side
    c.root-root.result c.args.entry.page c.word_of.result c.requires.page e
    c.drop_page.ensures.held c.drop_page.ensures.tables (opened c.before) (λ ne. (c.open.ensures.there ne).1) (put c) (moved c)
    (returns-clause-one c)
