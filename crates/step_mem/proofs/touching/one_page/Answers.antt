use Rattle.std.specs.Prelude.{take}
use Rattle.step_mem.specs.Changes.{changed, AreToldIn}
use Rattle.std.proofs.Common.{arith, ap, length, length-append, ℕ, List, ◌∷◌, [], sym, subst}
use Rattle.step_mem.proofs.Changed.{told_more}
use Rattle.step_mem.proofs.touching.one_page.Goals as goal

pub returns-clause-uses : goal.returns-clause-uses
returns-clause-uses g c =
    let m = c.args.state.now in
    rw c.push.ensures (rw (c.page_use.ensures.changes.front m.earlier.count c.requires.sound.earlier_counted)
    (rw c.page_use.ensures.leaves.kept_stays (rw c.page_use.ensures.leaves.kept_stays at (c.page_use.ensures.uses (record {
      pages = m.pages;
      visited = m.visited;
      tables = m.tables;
      wrote = m.wrote;
      ready = record { start = m.ready.start; len = m.ready.len; write = m.ready.write };
      earlier = record {
        start = m.earlier.start;
        len = m.earlier.len;
        set = changed (g.B.Translations.entries c.args.base.now c.args.ram.now) (take m.earlier.count m.changes);
      };
    })))))

pub returns-clause-sound : goal.returns-clause-sound
returns-clause-sound g c =
    let before = c.requires.sound in
    let leaves = c.page_use.ensures.leaves in
    let count : ℕ = c.args.state.now.earlier.count in
    let front = c.page_use.ensures.changes.front count before.earlier_counted in
    record {
      frames_in = omega (arith, before.frames_in, leaves.length_stays);
      below = before.below;
      laid_in = before.laid_in;
      counted = omega (arith, before.counted, c.page_use.ensures.counted);
      few = omega (arith, c.requires.room);
      visits = (let e = ap (λ (l : List ℕ). length l) c.push.ensures in let a = length-append c.args.state.now.visited (c.args.page ∷ []) in
          let n = before.visits in omega (arith, e, a, n));
      read = omega (arith, before.read, c.page_use.ensures.noted);
      written = omega (arith, before.written);
      fits = before.fits;
      stands_now = leaves.stands;
      within = leaves.within;
      reached = λ byte low high. absurd (omega (arith, low, high, c.requires.unready));
      apart = λ write byte low high. absurd (omega (arith, low, high, c.requires.unready));
      earlier_counted = omega (arith, before.earlier_counted, c.page_use.ensures.grown);
      earlier_fits = before.earlier_fits;
      earlier_within = rw (leaves.kept_stays, front) before.earlier_within;
      earlier_reached = rw (leaves.kept_stays, front) before.earlier_reached;
      told = subst (λ (visited : List ℕ). AreToldIn visited c.page_use.new.changes) (sym c.push.ensures)
          (told_more c.args.state.now.visited c.args.page c.args.state.now.changes c.page_use.new.changes before.told
          c.page_use.ensures.changes.more);
    }
