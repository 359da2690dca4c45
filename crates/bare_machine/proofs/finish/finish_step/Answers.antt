use Rattle.std.proofs.Common.{◌≡◌, ℕ, ◌+◌, List, refl, sym, subst, ◌∙◌, ap}
use Rattle.descriptors.specs.declared.cpu.Cpu.{Cpu}
use Rattle.board.specs.declared.devices.Board.{Board}
use Rattle.board.specs.Boards.{board_step}
use Rattle.paging.specs.Part.{IsPartOf}
use Rattle.step_mem.specs.Changes.{changed}
use Rattle.machine_model.specs.Run.{Set}
use Rattle.machine_model.specs.Step.{Report, Went, items_at}
use Rattle.bare_mem.specs.Keeping.{kept_after}
use Rattle.board.proofs.QuietSteps.{one_step}
use Rattle.bare_machine.specs.Buffered.{cut_to}
use Rattle.bare_machine.proofs.Leaving.{left_same}
use Rattle.bare_machine.proofs.Steps.{within_dropped}
use Rattle.bare_machine.proofs.finish.finish_step.Goals as goal

pub returns-clause-goes : goal.returns-clause-goes
returns-clause-goes g c = λ whats completed s ram set. record {
  report = record {
    items = items_at c.args.machine.now.step whats;
    completed = completed;
    pages = s.visited;
    tables = s.tables;
    wrote = s.wrote;
  };
  whole = s.set;
  went = rw (ram, c.advance.ensures ∙ one_step c.args.machine.now.board) refl;
  part = subst (IsPartOf (g.C.Cache.entries c.leave.new.kept.cache)) (sym set)
      (c.leave.ensures.part c.args.machine.now.frames c.requires.within);
  all = λ exact. c.leave.ensures.exact c.args.machine.now.frames c.requires.within exact ∙ sym set;
  items = refl;
}

led : (report : Report) (cpu : Cpu) (ram ram2 : List ℕ) (set set2 : Set) (board board2 : Board) (step : ℕ) → ram ≡ ram2
    → set ≡ set2 → board ≡ board2
    → Went report (record { cpu = cpu; ram = ram; set = set; board = board; step = step }) ≡ Went report
    (record { cpu = cpu; ram = ram2; set = set2; board = board2; step = step })
led report cpu ram ram2 set set2 board board2 step p q r =
    λ i. Went report (record { cpu = cpu; ram = p i; set = q i; board = r i; step = step })

pub returns-clause-kept : goal.returns-clause-kept
returns-clause-kept g c = λ whats completed s ram visited set.
    let m = c.args.machine.now in
    let old = g.C.Cache.entries m.kept.cache in
    let new = g.C.Cache.entries c.leave.new.kept.cache in
    record {
      report = record { items = items_at m.step whats; completed = completed; pages = s.visited; tables = s.tables; wrote = s.wrote };
      went = led _ c.args.cpu.now s.ram m.ram (cut_to s.set (kept_after g.C.Cache.keeping old s.visited s.set)) new
          (board_step m.board) _ (m.step + 1) ram
          (ap (cut_to s.set) (ap (λ (pages : List ℕ). kept_after g.C.Cache.keeping old pages s.set) visited
          ∙ (ap (kept_after g.C.Cache.keeping old c.args.pages.now) set ∙ sym c.leave.ensures.kept))
          ∙ left_same s.set new (subst (IsPartOf new) (sym set) (c.leave.ensures.part m.frames c.requires.within)))
          (sym (c.advance.ensures ∙ one_step m.board));
      items = refl;
    }

pub returns-clause-goes_on : goal.returns-clause-goes_on
returns-clause-goes_on g c =
    let set = changed (g.C.Cache.entries c.args.machine.now.kept.cache) c.args.changes.now in
    record {
      kept = record {
        ram = c.requires.ram;
        within = within_dropped c.args.machine.now.frames c.args.dropped set (g.C.Cache.entries c.leave.new.kept.cache) c.requires.within
            (c.leave.ensures.part c.args.machine.now.frames c.requires.within);
      };
      frames = refl;
      size = refl;
      exact = c.leave.ensures.same;
    }
