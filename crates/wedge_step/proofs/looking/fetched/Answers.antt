use Rattle.std.proofs.Common.{◌≡◌, ℕ, Bool, false, Option, Some, None, ap, ◌∙◌}
use Rattle.std.specs.FinMap.{get}
use Rattle.descriptors.specs.Access.{by_level}
use Rattle.descriptors.specs.Controls.{pse_of, wp_of}
use Rattle.paging.specs.declared.entry.Access.{Access}
use Rattle.paging.specs.declared.entry.Entry.{Entry}
use Rattle.paging.specs.declared.entry.Walk.{Walk}
use Rattle.paging.specs.Fresh.{fresh}
use Rattle.paging.specs.Uses.{usable}
use Rattle.machine_model.specs.State.{Setting, State}
use Rattle.native_steps.specs.Looking.{found_by, seen, seen_by}
use Rattle.wedge_step.specs.Looked.{ground_of, looked_at}
use Rattle.wedge_step.proofs.looking.fetched.Goals as goal

module _ (m : Setting) (b : State) (page : ℕ) (access : Access) (wp : Bool) (level : access ≡ by_level b.cpu false)
    (protects : wp ≡ wp_of b.cpu) where
  abbrev tables : Bool → Walk
  tables pse = fresh b.ram m.frames b.cpu.cr3 pse page

  -- by the entry that may be used, or none
  by_kept : (o : Option Entry) → o ≡ usable (get b.set page) access wp
      → seen_by m.mode page o access wp (tables (pse_of b.cpu)) ≡ seen m b page
  by_kept o is =
      ap (λ (x : Option Entry). seen_by m.mode page x access wp (tables (pse_of b.cpu))) is
      ∙ (λ j. seen_by m.mode page (usable (get b.set page) (level j) (protects j)) (level j) (protects j) (tables (pse_of b.cpu)))

  by_tables : (pse : Bool) → pse ≡ pse_of b.cpu → None ≡ usable (get b.set page) access wp
      → found_by m.mode page access wp (tables pse) ≡ seen m b page
  by_tables pse is none = ap (λ (x : Bool). found_by m.mode page access wp (tables x)) is ∙ by_kept None none

pub returns-in-Some-clause-seen : goal.returns-in-Some-clause-seen
returns-in-Some-clause-seen g c =
    let view = c.args.view.now in
    c.by_entry.ensures.seen
    ∙ by_kept (ground_of view) (looked_at g.S.Shadows c.args.cpu.now c.args.shadows.now view) c.args.page c.by_level-access.result
    c.wp-wp.result c.by_level-access.ensures c.wp-wp.ensures
    (Some c.in-Some.entry) c.in-Some.ensures.usable

pub returns-in-None-clause-seen : goal.returns-in-None-clause-seen
returns-in-None-clause-seen g c =
    let view = c.args.view.now in
    c.by_walk.ensures.seen
    ∙ by_tables (ground_of view) (looked_at g.S.Shadows c.args.cpu.now c.args.shadows.now view) c.args.page c.by_level-access.result
    c.wp-wp.result c.by_level-access.ensures c.wp-wp.ensures
    c.pse.result c.pse.ensures c.in-None.ensures.usable

pub usable-requires : goal.usable-requires
usable-requires g c = record { stands = c.requires.stands; kept = c.requires.kept; page = c.requires.page }

pub by_walk-requires : goal.by_walk-requires
by_walk-requires g c = record { page = c.requires.page }
