use Rattle.std.proofs.Common.{◌≡◌, Bool, true, false, refl, sym, ap, ◌∙◌, arith}
use Rattle.machine_model.specs.State.{wedge}
use Rattle.shadow_tables.specs.Entries.{entries_of}
use Rattle.wedge_step.specs.Parts.{left_of}
use Rattle.wedge_step.specs.Standing.{state_of}
use Rattle.wedge_core.proofs.Clashless.{empty_clear}
use Rattle.wedge_step.proofs.AfterTry.{any_script}
use Rattle.wedge_core.proofs.native.make_room.Goals as goal

pub returns-then-free-lt-ROOM-clause-left : goal.returns-then-free-lt-ROOM-clause-left
returns-then-free-lt-ROOM-clause-left g c =
    let old = entries_of (g.S.Shadows.slots c.args.running.now.shadows c.args.ram.now) in
    c.drop_kept.ensures.none ∙ ap (λ (x : Bool). left_of x old) (sym c.drop_kept.ensures.lost)

pub returns-then-clashes-clause-left : goal.returns-then-clashes-clause-left
returns-then-clashes-clause-left g c =
    let old = entries_of (g.S.Shadows.slots c.args.running.now.shadows c.args.ram.now) in
    c.drop_present.ensures.none ∙ ap (λ (x : Bool). left_of x old) (sym c.drop_present.ensures.lost)

pub returns-else-clashes-clause-left : goal.returns-else-clashes-clause-left
returns-else-clashes-clause-left g c =
    let old = entries_of (g.S.Shadows.slots c.args.running.now.shadows c.args.ram.now) in
    ap (λ (x : Bool). left_of x old) (sym c.requires.kept)

pub returns-then-free-lt-ROOM-clause-clear : goal.returns-then-free-lt-ROOM-clause-clear
returns-then-free-lt-ROOM-clause-clear g c = λ script insn len after e.
    let m = wedge c.args.image.now script c.args.running.now.frames in
    empty_clear m (state_of g.S.Shadows m c.drop_kept.new.running c.drop_kept.new.ram) c.drop_kept.ensures.none

pub returns-then-clashes-clause-clear : goal.returns-then-clashes-clause-clear
returns-then-clashes-clause-clear g c = λ script insn len after e.
    let m = wedge c.args.image.now script c.args.running.now.frames in
    empty_clear m (state_of g.S.Shadows m c.drop_present.new.running c.drop_present.new.ram) c.drop_present.ensures.none

pub returns-else-clashes-clause-clear : goal.returns-else-clashes-clause-clear
returns-else-clashes-clause-clear g c = λ script insn len after e.
    let m = wedge c.args.image.now script c.args.running.now.frames in
    let b = state_of g.S.Shadows m c.args.running.now c.args.ram.now in
    let is = any_script c.args.image.now script c.args.running.now.frames c.args.ram.now in
    let h = c.clashes.ensures.step script b insn len after refl is refl e in
    sym h ∙ c.if-clashes.false

pub returns-then-free-lt-ROOM-clause-held : goal.returns-then-free-lt-ROOM-clause-held
returns-then-free-lt-ROOM-clause-held g c = c.drop_kept.ensures.held c.args.image.now c.requires.held

pub returns-then-free-lt-ROOM-clause-same : goal.returns-then-free-lt-ROOM-clause-same
returns-then-free-lt-ROOM-clause-same g c = c.drop_kept.ensures.same

pub returns-then-free-lt-ROOM-clause-moves : goal.returns-then-free-lt-ROOM-clause-moves
returns-then-free-lt-ROOM-clause-moves g c = c.drop_kept.ensures.moves

pub returns-then-clashes-clause-held : goal.returns-then-clashes-clause-held
returns-then-clashes-clause-held g c = c.drop_present.ensures.held c.args.pool.now c.args.image.now c.requires.held

pub returns-then-clashes-clause-moves : goal.returns-then-clashes-clause-moves
returns-then-clashes-clause-moves g c = c.drop_present.ensures.moves c.args.pool.now c.requires.held.owns

pub returns-else-clashes-clause-held : goal.returns-else-clashes-clause-held
returns-else-clashes-clause-held g c = c.requires.held

pub returns-else-clashes-clause-same : goal.returns-else-clashes-clause-same
returns-else-clashes-clause-same g c = refl

pub returns-else-clashes-clause-clashed : goal.returns-else-clashes-clause-clashed
returns-else-clashes-clause-clashed g c = λ lost. absurd (let f : true ≡ false = sym lost ∙ c.requires.kept in cc)

pub returns-then-free-lt-ROOM-clause-beside : goal.returns-then-free-lt-ROOM-clause-beside
returns-then-free-lt-ROOM-clause-beside g c = c.drop_kept.ensures.beside

pub returns-then-clashes-clause-beside : goal.returns-then-clashes-clause-beside
returns-then-clashes-clause-beside g c = c.drop_present.ensures.beside c.args.pool.now

pub returns-else-clashes-clause-beside : goal.returns-else-clashes-clause-beside
returns-else-clashes-clause-beside g c = record {
  ready = λ m frames h. h;
  reloaded = refl;
  has_tables_under = λ indices h. h;
  fewer = omega arith;
  guest = refl;
}
