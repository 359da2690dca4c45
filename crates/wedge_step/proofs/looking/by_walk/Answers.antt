use Rattle.std.proofs.Common.{◌≡◌, ℕ, Bool, true, false, not, cond, [], ◌∷◌, Option, None, Some, refl, sym, ap, ◌∙◌}
use Rattle.paging.specs.declared.entry.Access.{Access}
use Rattle.paging.specs.declared.entry.Entry.{Entry}
use Rattle.paging.specs.declared.entry.Walk.TheVariants as walks
use Rattle.paging.specs.Fresh.{grants}
use Rattle.paging.specs.Space.{Mode}
use Rattle.machine_model.specs.State.{wedge_mode}
use Rattle.native_steps.specs.Looking.{Seen, found_by, is_stopped}
use Rattle.wedge_step.proofs.looking.by_walk.Goals as goal

-- an entry that was found, by whether it grants the access and whether the monitor's rules stop it
tested : (mode : Mode) (page : ℕ) (access : Access) (wp : Bool) (entry : Entry) (dir word : ℕ) (may stops : Bool)
    → may ≡ grants entry access wp → stops ≡ is_stopped mode access page entry.frame dir word
    → cond {A = Option Seen} (not may) None
    (cond {A = Option Seen} stops None (Some (record { frame = entry.frame; marks = dir ∷ word ∷ [] }))) ≡ found_by mode page access wp
    (walks.Found entry dir word)
tested mode page access wp entry dir word may stops e f = λ j. cond {A = Option Seen} (not (e j)) None
    (cond {A = Option Seen} (f j) None (Some (record { frame = entry.frame; marks = dir ∷ word ∷ [] })))

pub walk-requires : goal.walk-requires
walk-requires c = record { page = c.requires.page }

pub returns-in-Absent-clause-seen : goal.returns-in-Absent-clause-seen
returns-in-Absent-clause-seen c =
    ap (found_by (wedge_mode c.args.view.now.image.now) c.args.page c.args.access c.args.wp) c.in-Absent.ensures.walk

pub returns-in-Beyond-clause-seen : goal.returns-in-Beyond-clause-seen
returns-in-Beyond-clause-seen c =
    ap (found_by (wedge_mode c.args.view.now.image.now) c.args.page c.args.access c.args.wp) c.in-Beyond.ensures.walk

pub returns-in-Reserved-clause-seen : goal.returns-in-Reserved-clause-seen
returns-in-Reserved-clause-seen c =
    ap (found_by (wedge_mode c.args.view.now.image.now) c.args.page c.args.access c.args.wp) c.in-Reserved.ensures.walk

pub returns-then-not-grants-clause-seen : goal.returns-then-not-grants-clause-seen
returns-then-not-grants-clause-seen c =
    let mode = wedge_mode c.args.view.now.image.now in
    tested mode c.args.page c.args.access c.args.wp c.in-Found.entry c.in-Found.dir_at c.in-Found.word_at false _
    (sym c.if-not-grants.true ∙ c.grants.ensures) refl
    ∙ ap (found_by mode c.args.page c.args.access c.args.wp) c.in-Found.ensures.walk

pub returns-then-is_stopped-clause-seen : goal.returns-then-is_stopped-clause-seen
returns-then-is_stopped-clause-seen c =
    let mode = wedge_mode c.args.view.now.image.now in
    tested mode c.args.page c.args.access c.args.wp c.in-Found.entry c.in-Found.dir_at c.in-Found.word_at true true
    (sym c.if-not-grants.false ∙ c.grants.ensures) (sym c.if-is_stopped.true ∙ c.is_stopped.ensures)
    ∙ ap (found_by mode c.args.page c.args.access c.args.wp) c.in-Found.ensures.walk

pub returns-else-is_stopped-clause-seen : goal.returns-else-is_stopped-clause-seen
returns-else-is_stopped-clause-seen c =
    let mode = wedge_mode c.args.view.now.image.now in
    tested mode c.args.page c.args.access c.args.wp c.in-Found.entry c.in-Found.dir_at c.in-Found.word_at true false
    (sym c.if-not-grants.false ∙ c.grants.ensures) (sym c.if-is_stopped.false ∙ c.is_stopped.ensures)
    ∙ ap (found_by mode c.args.page c.args.access c.args.wp) c.in-Found.ensures.walk
