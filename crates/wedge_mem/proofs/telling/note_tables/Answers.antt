use Rattle.std.proofs.Common.{ℕ, List, refl, ◌∙◌, subst}
use Rattle.frame_pool.specs.Held.{Writes}
use Rattle.frame_pool.proofs.Held.{Writes-refl, Writes-trans}
use Rattle.shadow_tables.proofs.OtherRoots.{lose-none, same-refl}
use Rattle.wedge_mem.proofs.Losing.{more-loses, none-loses}
use Rattle.wedge_mem.proofs.Told.{first-read_from, more-read_from, more-lose}
use Rattle.wedge_mem.proofs.telling.note_tables.Goals as goal

pub loop-frame-init : goal.loop-frame-init
loop-frame-init g c =
    let a = g.S.Shadows.other_roots c.args.shadows.now c.args.ram.now in
    record {
      read_from = first-read_from (g.S.Shadows.read_from c.args.shadows.now);
      stale = refl;
      cr3 = refl;
      other_roots = lose-none a a (same-refl a);
      stands = c.requires.stands;
      slots = none-loses _ _;
      entries = refl;
      roots = λ view. refl;
      has_tables_under = λ indices h. h;
      frames = refl;
      memory = Writes-refl _ _;
    }

pub loop-frame-preserved : goal.loop-frame-preserved
loop-frame-preserved g c =
    let l = c.loop-frame in let e = c.note_table.ensures in let n = c.note_table.new in
    let fs = g.S.Shadows.frames c.args.shadows.now c.args.ram.now in let a = g.S.Shadows.other_roots in
    record {
      read_from = more-read_from c.args.tables.now l.frame-index (g.S.Shadows.read_from c.args.shadows.now)
          (g.S.Shadows.read_from l.shadows) (g.S.Shadows.read_from n.shadows) c.loop-frame-test.true e.read_from l.invariant.read_from;
      stale = e.stale ∙ l.invariant.stale;
      cr3 = e.cr3 ∙ l.invariant.cr3;
      other_roots = more-lose c.args.tables.now l.frame-index (a c.args.shadows.now c.args.ram.now) (a l.shadows l.ram) (a n.shadows n.ram)
          c.loop-frame-test.true l.invariant.other_roots e.other_roots;
      stands = e.stands;
      slots = more-loses c.args.tables.now l.frame-index (g.S.Shadows.slots c.args.shadows.now c.args.ram.now)
          (g.S.Shadows.slots l.shadows l.ram) (g.S.Shadows.slots n.shadows n.ram) c.loop-frame-test.true l.invariant.slots e.slots;
      entries = e.entries ∙ l.invariant.entries;
      roots = λ view. e.roots view ∙ l.invariant.roots view;
      has_tables_under = λ indices h. e.has_tables_under indices (l.invariant.has_tables_under indices h);
      frames = e.frames ∙ l.invariant.frames;
      memory = Writes-trans fs c.args.ram.now l.ram n.ram l.invariant.memory
          (subst (λ (gs : List ℕ). Writes gs l.ram n.ram) l.invariant.frames e.memory);
    }
