use Rattle.std.proofs.Common.{◌≤◌, arith}
use Rattle.frame_pool.specs.Pool.{base_of}
use Rattle.frame_pool.proofs.Held.{Moves-trans}
use Rattle.wedge_step.proofs.Memories.{front_same, shown_same}
use Rattle.wedge_step.proofs.Readying.{Switched, loaded_ready, loaded_shows, loaded_fewer, loaded_none}
use Rattle.wedge_step.proofs.close.load.Given.{Over}
use Rattle.shadow_tables.specs.Sight.{sight}
use Rattle.wedge_step.proofs.close.load.Goals as goal

module _ (g : Over) (c : goal.After-switch g) where
  switched : Switched g.S.Shadows c.args.cr3 c.make_way.new.shadows c.switch.new.self c.make_way.new.ram c.switch.new.ram
  switched = record { cr3_is = c.switch.ensures.loads; present = c.switch.ensures.present; beside = c.switch.ensures.other_roots }

pub returns-clause-fewer : goal.returns-clause-fewer
returns-clause-fewer g c =
    let first = c.make_way.ensures.fewer in
    let then =
    loaded_fewer g.S.Shadows c.args.cr3 c.make_way.new.shadows c.switch.new.self c.make_way.new.ram c.switch.new.ram (switched g c) in
    omega (arith, first, then)

pub returns-clause-ready : goal.returns-clause-ready
returns-clause-ready g c = λ m before after low is pse wp has_tables_under h.
    let same = c.make_way.ensures.moved.moves.same.0 in
    let low_mid : m.frames ≤ base_of c.make_way.new.pool = omega (arith, low, same) in
    let front = front_same m.frames c.make_way.new.pool c.switch.new.pool c.make_way.new.ram c.switch.new.ram _ _ low_mid
    c.make_way.ensures.moved.owns c.switch.ensures.moves in
    loaded_ready g.S.Shadows c.args.cr3 c.make_way.new.shadows c.switch.new.self c.make_way.new.ram c.switch.new.ram (switched g c) m before
    after is pse wp (shown_same m c.make_way.new.ram c.switch.new.ram front)
    ((c.make_way.ensures.shown m.image _).present has_tables_under) (c.make_way.ensures.ready m before low h)

pub make_way-requires-clause-enough : goal.make_way-requires-clause-enough
make_way-requires-clause-enough g c = c.requires.enough

pub switch-requires-clause-stands : goal.switch-requires-clause-stands
switch-requires-clause-stands g c = c.make_way.ensures.moved.stands

pub switch-requires-clause-owns : goal.switch-requires-clause-owns
switch-requires-clause-owns g c = c.make_way.ensures.moved.owns

pub switch-requires-clause-free : goal.switch-requires-clause-free
switch-requires-clause-free g c = c.make_way.ensures.room

pub returns-clause-has_tables_under : goal.returns-clause-has_tables_under
returns-clause-has_tables_under g c = λ indices h. c.switch.ensures.has_tables_under indices (c.make_way.ensures.has_tables_under indices h)

pub returns-clause-moved : goal.returns-clause-moved
returns-clause-moved g c = record {
  stands = c.switch.ensures.stands;
  owns = c.switch.ensures.owns;
  moves = Moves-trans _ _ _ _ _ _ _ _ _ c.make_way.ensures.moved.moves c.switch.ensures.moves;
}

pub returns-clause-emptied : goal.returns-clause-emptied
returns-clause-emptied g c = λ w.
    loaded_none g.S.Shadows c.args.cr3 c.make_way.new.shadows c.switch.new.self c.make_way.new.ram c.switch.new.ram (switched g c)
    (c.make_way.ensures.emptied w).none (c.make_way.ensures.emptied w).alone

pub returns-clause-shows : goal.returns-clause-shows
returns-clause-shows g c = λ image wp h a.
    loaded_shows g.S.Shadows c.args.cr3 c.make_way.new.shadows c.switch.new.self c.make_way.new.ram c.switch.new.ram (switched g c) image wp
    ((c.make_way.ensures.shown image wp).present h) ((c.make_way.ensures.shown image wp).others a)

pub returns-clause-loads : goal.returns-clause-loads
returns-clause-loads g c = λ w enough.
    let e = c.make_way.ensures in
    let s = c.switch.ensures in
    record {
      between = sight g.S.Shadows c.make_way.new.shadows c.make_way.new.ram;
      same_cr3 = e.cr3;
      sheds = e.sheds w enough;
      present = s.present;
      put = s.other_roots;
      unmarked = s.stale;
    }

pub make_way-requires-clause-owned : goal.make_way-requires-clause-owned
make_way-requires-clause-owned g c = c.requires.owned
