use Rattle.std.proofs.Common.{ℕ, Bool, refl}
use Rattle.std.proofs.lemmas.Grind.{merely}
use Rattle.shadow_tables.specs.Slots.{slot_at}
use Rattle.shadow_cache.specs.Pairs.{any_reads, BarsWrites}
use Rattle.shadow_cache.specs.Roots.{pairs_of, is_barred}
use Rattle.shadow_cache.specs.Laws.{kept-barred}
use Rattle.shadow_cache.specs.Standing.{stood}
use Rattle.shadow_cache.proofs.Present.{bars-lost, write-roots, write-frames, write-memory, write-moves, write-kept}
use Rattle.shadow_cache.proofs.CallSteps.{step-drop_dir}
use Rattle.shadow_cache.proofs.roots.Roots.drop_dir.Goals as goal

pub drop_dir-requires-clause-shadow : goal.drop_dir-requires-clause-shadow
drop_dir-requires-clause-shadow c = (stood c.args.self.now c.args.ram.now c.requires.stands).roots.shadows.0

pub returns-clause-stands : goal.returns-clause-stands
returns-clause-stands c =
    let r = c.args.self.now in let m = c.args.ram.now in let n = c.drop_dir.new.ram in let s = stood r m c.requires.stands in
    let h = s.roots in let e = c.drop_dir.ensures in
    let lacks : (test : ℕ → Bool) → BarsWrites test (slot_at r.present.shadow m) → BarsWrites test (slot_at r.present.shadow n) =
    λ test b. bars-lost test (slot_at r.present.shadow m) (slot_at r.present.shadow n) c.args.index b e.loses
    in
    merely (record {
      roots = write-roots r.present r.others m n h e.shadow e.held e.memory (lacks (any_reads (pairs_of r)) h.barred.0);
      barred = (
        lacks (is_barred r) s.barred.0,
        kept-barred (is_barred r) r.others m n (write-kept r.present r.others m n h e.shadow e.held e.memory) s.barred.1,
      );
    })

pub returns-clause-frames : goal.returns-clause-frames
returns-clause-frames c =
    let r = c.args.self.now in let m =
    c.args.ram.now in let n = c.drop_dir.new.ram in let h = (stood r m c.requires.stands).roots in let e = c.drop_dir.ensures in
    write-frames r.present r.others m n h e.shadow e.held e.memory

pub returns-clause-memory : goal.returns-clause-memory
returns-clause-memory c =
    let r = c.args.self.now in let m =
    c.args.ram.now in let n = c.drop_dir.new.ram in let h = (stood r m c.requires.stands).roots in let e = c.drop_dir.ensures in
    write-memory r.present r.others m n h e.shadow e.held e.memory

pub returns-clause-moves : goal.returns-clause-moves
returns-clause-moves c =
    let r = c.args.self.now in let m =
    c.args.ram.now in let n = c.drop_dir.new.ram in let h = (stood r m c.requires.stands).roots in let e = c.drop_dir.ensures in
    write-moves r.present r.others m n h e.shadow e.held e.memory

pub returns-clause-same : goal.returns-clause-same
returns-clause-same c =
    let r = c.args.self.now in let m =
    c.args.ram.now in let n = c.drop_dir.new.ram in let h = (stood r m c.requires.stands).roots in let e = c.drop_dir.ensures in
    (refl, write-kept r.present r.others m n h e.shadow e.held e.memory)

pub returns-clause-told : goal.returns-clause-told
returns-clause-told c = λ value calls a.
    let r = c.args.self.now in let e = c.drop_dir.ensures in
    step-drop_dir value calls r.present r.others c.args.ram.now c.drop_dir.new.ram (returns-clause-same c).1 e.held e.tables
    c.args.index e.loses a
