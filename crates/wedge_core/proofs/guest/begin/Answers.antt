use Rattle.std.proofs.Common.{◌≡◌, ℕ, ◌≤◌, false, List, refl, sym, subst, ◌∙◌, arith}
use Rattle.std.specs.FinMap.{empty}
use Rattle.frame_pool.specs.Held.{Moves}
use Rattle.shadow_tables.specs.Entries.{entries_of}
use Rattle.shadow_tables.specs.Sight.{StaysBeside, sight}
use Rattle.shadow_tables.proofs.OtherRoots.{same-refl}
use Rattle.shadow_cache.specs.Views as roots
use Rattle.wedge_core.specs.OfRoots.{of_roots}
use Rattle.wedge_step.specs.Filled.{pages_kept}
use Rattle.wedge_step.specs.Pools.{Keeps}
use Rattle.wedge_step.specs.Ready.{IsReady}
use Rattle.wedge_step.specs.Standing.{IsHeld, ground, state_of}
use Rattle.wedge_core.specs.Starts.{IsAsNew}
use Rattle.wedge_step.proofs.Keeping.{keeps_moves, keeps_same}
use Rattle.wedge_step.proofs.Readying.{none_ready, none_pages}
use Rattle.wedge_core.proofs.Renewed.{anew_beside, held_anew, state_anew}
use Rattle.wedge_core.proofs.guest.begin.Goals as goal

pub returns-clause-begins : goal.returns-clause-begins
returns-clause-begins g c = record {
  running = refl;
  held = λ image h.
      let old = c.args.running.now in
      let d = c.renew in
      let here = subst (λ (l : List ℕ). IsHeld of_roots (ground image old.frames) old c.args.pool.now l) (sym c.ram_mut.ensures.ram) h in
      subst (λ (l : List ℕ). IsHeld of_roots (ground image old.frames) (record old { shadows = d.new.self }) d.new.pool l)
      (sym (g.met.H.Host.bytes_changed c.args.host.now d.new.ram))
      (held_anew image old.frames old d.new.self c.args.pool.now d.new.pool c.ram_mut.result.now d.new.ram
      (omega (arith, c.if-not-bare.false)) d.ensures.stands d.ensures.none d.ensures.entries d.ensures.two d.ensures.owns
      d.ensures.moves here);
  ready = λ image h.
      let old = c.args.running.now in
      let d = c.renew in
      subst (λ (l : List ℕ). IsReady of_roots (ground image old.frames) old.cpu d.new.self l)
      (sym (g.met.H.Host.bytes_changed c.args.host.now d.new.ram))
      (none_ready of_roots (λ page. false) (ground image old.frames) old.cpu d.new.self d.new.ram (d.ensures.known.cr3 ∙ h.cr3_is)
      d.ensures.none d.ensures.other_roots);
  state = λ m is.
      let old = c.args.running.now in
      let d = c.renew in
      let h = c.requires.held.1 in
      let count = h.counted in
      let two : old.held ≡ 2 = omega (arith, c.if-not-bare.false) in
      let before : entries_of (roots.slots old.shadows (g.H.Host.bytes c.args.host.now)) ≡ empty =
      c.roots_alone_keep_nothing.ensures old.shadows (g.H.Host.bytes c.args.host.now) (omega (arith, count, two)) in
      let moves =
      subst (λ (l : List ℕ). Moves c.args.pool.now d.new.pool l d.new.ram (roots.frames old.shadows l) (roots.frames d.new.self d.new.ram))
      c.ram_mut.ensures.ram d.ensures.moves in
      subst (λ (l : List ℕ). state_of of_roots m (record old { shadows = d.new.self }) l ≡ state_of of_roots m old
      (g.H.Host.bytes c.args.host.now)) (sym (g.met.H.Host.bytes_changed c.args.host.now d.new.ram))
      (state_anew c.requires.held.0 old.frames old d.new.self c.args.pool.now d.new.pool (g.H.Host.bytes c.args.host.now) d.new.ram h moves
      before d.ensures.entries m is);
  keeps =
      let old = c.args.running.now in
      let d = c.renew in
      let moves =
      subst (λ (l : List ℕ). Moves c.args.pool.now d.new.pool l d.new.ram (roots.frames old.shadows l) (roots.frames d.new.self d.new.ram))
      c.ram_mut.ensures.ram d.ensures.moves in
      subst (λ (l : List ℕ). Keeps c.args.pool.now d.new.pool (g.H.Host.bytes c.args.host.now) l
      (roots.frames old.shadows (g.H.Host.bytes c.args.host.now)) (roots.frames d.new.self l))
      (sym (g.met.H.Host.bytes_changed c.args.host.now d.new.ram))
      (keeps_moves c.args.pool.now d.new.pool (g.H.Host.bytes c.args.host.now) d.new.ram
      (roots.frames old.shadows (g.H.Host.bytes c.args.host.now)) (roots.frames d.new.self d.new.ram) moves);
  fewer =
      let d = c.renew in
      let none = none_pages of_roots d.new.self d.new.ram d.ensures.entries d.ensures.other_roots in
      let kept = pages_kept of_roots c.args.running.now.shadows (g.H.Host.bytes c.args.host.now) in
      subst (λ (l : List ℕ). pages_kept of_roots d.new.self l ≤ kept) (sym (g.met.H.Host.bytes_changed c.args.host.now d.new.ram))
      (omega (arith, none));
  anew = λ two.
      let d = c.renew in
      subst (λ (l : List ℕ). IsAsNew of_roots d.new.self l) (sym (g.met.H.Host.bytes_changed c.args.host.now d.new.ram))
      (record {
        unnoted = d.ensures.known.read_from;
        unmarked = d.ensures.known.stale;
        alone = d.ensures.other_roots;
        unopened = d.ensures.has_tables_under;
      });
  beside =
      let old = c.args.running.now in
      let d = c.renew in
      let h = c.requires.held.1 in
      let count = h.counted in
      let two : old.held ≡ 2 = omega (arith, c.if-not-bare.false) in
      subst (λ (l : List ℕ). StaysBeside (sight of_roots old.shadows (g.H.Host.bytes c.args.host.now)) (sight of_roots d.new.self l))
      (sym (g.met.H.Host.bytes_changed c.args.host.now d.new.ram))
      (anew_beside old.shadows d.new.self (g.H.Host.bytes c.args.host.now) d.new.ram (omega (arith, count, two)) (record {
        unnoted = d.ensures.known.read_from;
        unmarked = d.ensures.known.stale;
        alone = d.ensures.other_roots;
        unopened = d.ensures.has_tables_under;
      }));
  tables = λ indices opened.
      let d = c.renew in
      subst (λ (l : List ℕ). of_roots.has_tables_under d.new.self l indices) (sym (g.met.H.Host.bytes_changed c.args.host.now d.new.ram))
      (d.ensures.has_tables_under indices);
}

pub returns-clause-counts : goal.returns-clause-counts
returns-clause-counts g c = record {
  retired = g.met.H.Host.retired_stays c.args.host.now c.renew.new.ram;
  passed = g.met.H.Host.passed_stays c.args.host.now c.renew.new.ram;
}

pub returns-then-not-bare-clause-begins : goal.returns-then-not-bare-clause-begins
returns-then-not-bare-clause-begins g c = record {
  running = refl;
  held = λ image h. h;
  ready = λ image h. h;
  state = λ m is. refl;
  keeps = keeps_same c.args.pool.now (g.H.Host.bytes c.args.host.now)
      (roots.frames c.args.running.now.shadows (g.H.Host.bytes c.args.host.now));
  fewer = omega arith;
  anew = λ two. absurd (let some = c.if-not-bare.true in omega (arith, some, two));
  beside = record {
    notes = λ frame e. e;
    marks = λ e. e;
    others = same-refl (roots.other_roots c.args.running.now.shadows (g.H.Host.bytes c.args.host.now));
  };
  tables = λ indices opened. opened;
}

pub returns-then-not-bare-clause-counts : goal.returns-then-not-bare-clause-counts
returns-then-not-bare-clause-counts g c = record { retired = refl; passed = refl }
