use Rattle.std.proofs.Common.{get_or, refl, sym, ◌∙◌, arith}
use Rattle.frame_pool.proofs.Held.{Owns-moves, Moves-refl, Moves-trans}
use Rattle.wedge_mem.proofs.Lists.{true-false, unprotected-more, read_from-less}
use Rattle.wedge_mem.proofs.Told.{first-stale, first-spared, less-read_from, more-stale, more-spared}
use Rattle.wedge_mem.proofs.telling.tell_written.Goals as goal

pub written-requires-clause-owns : goal.written-requires-clause-owns
written-requires-clause-owns g c =
    let l = c.loop-frame in let f = g.S.Shadows.frames in
    Owns-moves c.args.pool.now l.pool c.args.ram.now l.ram (f c.args.shadows.now c.args.ram.now) (f l.shadows l.ram)
    c.requires.owns l.invariant.moves

pub loop-frame-init : goal.loop-frame-init
loop-frame-init g c =
    let a = g.S.Shadows.other_roots c.args.shadows.now c.args.ram.now in
    record {
      stands = c.requires.stands;
      slots = λ page h. refl;
      entries = refl;
      known = record {
        read_from = λ frame h. refl;
        noted_less = λ frame h. h;
        stale = first-stale (g.S.Shadows.stale c.args.shadows.now);
        cr3 = refl;
        write_protected = λ f h. h;
        unprotected = λ frame h. absurd (true-false (sym h));
      };
      has_tables_under = λ indices h. h;
      other_roots = first-spared a;
      roots = λ view. refl;
      fewer = omega arith;
      moves = Moves-refl _ _ _ c.requires.owns.stands;
    }

pub loop-frame-preserved : goal.loop-frame-preserved
loop-frame-preserved g c =
    let l = c.loop-frame in let f = g.S.Shadows.frames in
    let e = c.written.ensures in let k = l.invariant.known in let wrote = c.args.wrote.now in
    let before = l.invariant.fewer in let now = e.fewer in
    let read_from = g.S.Shadows.read_from in let stale = g.S.Shadows.stale in let a = g.S.Shadows.other_roots in let n = c.written.new in
    record {
      stands = e.stands;
      slots = λ page h. e.slots page h ∙ l.invariant.slots page h;
      entries = e.entries ∙ l.invariant.entries;
      known = record {
        read_from = read_from-less wrote l.frame-index (read_from c.args.shadows.now) (read_from l.shadows) (read_from n.self)
            c.loop-frame-test.true e.known.read_from k.read_from;
        noted_less = less-read_from (get_or wrote l.frame-index 0) (read_from c.args.shadows.now) (read_from l.shadows) (read_from n.self)
            e.known.read_from e.known.read_before k.noted_less;
        stale = more-stale wrote l.frame-index (read_from c.args.shadows.now) (read_from l.shadows) (stale c.args.shadows.now)
            (stale l.shadows) (stale n.self) c.loop-frame-test.true k.stale e.known.stale k.noted_less k.read_from;
        cr3 = e.known.cr3 ∙ k.cr3;
        write_protected = λ x h. k.write_protected x (e.known.write_protected x h);
        unprotected = unprotected-more wrote l.frame-index (g.S.Shadows.write_protected l.shadows) (g.S.Shadows.write_protected n.self)
            c.loop-frame-test.true e.known.write_protected e.known.unprotected k.unprotected;
      };
      has_tables_under = λ indices h. e.has_tables_under indices (l.invariant.has_tables_under indices h);
      other_roots = more-spared wrote l.frame-index (a c.args.shadows.now c.args.ram.now) (a l.shadows l.ram) (a n.self n.ram)
          c.loop-frame-test.true l.invariant.other_roots e.other_roots;
      roots = λ view. e.roots view ∙ l.invariant.roots view;
      fewer = omega (arith, before, now);
      moves = Moves-trans c.args.pool.now l.pool c.written.new.pool c.args.ram.now l.ram c.written.new.ram
          (f c.args.shadows.now c.args.ram.now) (f l.shadows l.ram) (f c.written.new.self c.written.new.ram) l.invariant.moves e.moves;
    }
