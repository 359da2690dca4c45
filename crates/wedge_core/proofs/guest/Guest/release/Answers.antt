use Rattle.std.proofs.Common.{◌≡◌, ℕ, ◌<◌, ◌^◌, List, [], None, false, length, refl, sym, subst, ◌∙◌}
use Rattle.std.specs.FinMap.{empty}
use Rattle.frame_pool.specs.Pool.{base_of, count_of, SameOutside}
use Rattle.frame_pool.specs.Held.{Moves, Owns}
use Rattle.shadow_tables.specs.Entries.{entries_of}
use Rattle.wedge_step.specs.Filled.{WereFilled, pages_kept}
use Rattle.wedge_step.specs.Ready.{IsReady}
use Rattle.wedge_core.proofs.Guests.{none_kept, outside_of}
use Rattle.shadow_cache.specs.Views as roots
use Rattle.shadow_cache.specs.declared.roots.Roots.{Roots}
use Rattle.wedge_core.specs.OfRoots.{of_roots}
use Rattle.wedge_step.specs.Scene.{scene}
use Rattle.wedge_step.specs.Standing.{IsHeld, ground}
use Rattle.wedge_step.specs.declared.running.Running.{Running}
use Rattle.wedge_step.proofs.Readying.{none_ready, none_pages}
use Rattle.wedge_core.proofs.Released.{held_on}
use Rattle.wedge_core.specs.Calls.{Releases}
use Rattle.wedge_core.proofs.guest.Guest.release.Goals as goal

pub returns-clause-releases : goal.returns-clause-releases
returns-clause-releases g c =
    subst (λ (r : Running Roots). Releases (scene r c.args.pool.now (g.H.Host.bytes c.args.host.now))
    (scene (record c.self.inside.running { shadows = c.drop_all.new.self; held = 2 }) c.drop_all.new.pool
    (g.H.Host.bytes (g.H.Host.with_bytes c.args.host.now c.drop_all.new.ram)))) c.self.view_is
    (record {
      running = refl;
      stands = subst (λ (l : List ℕ). ∥ roots.stands c.drop_all.new.self l ∥₁)
          (sym (g.met.H.Host.bytes_changed c.args.host.now c.drop_all.new.ram)) c.drop_all.ensures.stands;
      owns = subst (λ (l : List ℕ). Owns c.drop_all.new.pool l (roots.frames c.drop_all.new.self l))
          (sym (g.met.H.Host.bytes_changed c.args.host.now c.drop_all.new.ram)) c.drop_all.ensures.owns;
      two = subst (λ (l : List ℕ). length (roots.frames c.drop_all.new.self l) ≡ 2)
          (sym (g.met.H.Host.bytes_changed c.args.host.now c.drop_all.new.ram)) c.drop_all.ensures.two;
      none = subst (λ (l : List ℕ). (page : ℕ) → page < 2 ^ 20 → roots.slots c.drop_all.new.self l page ≡ None)
          (sym (g.met.H.Host.bytes_changed c.args.host.now c.drop_all.new.ram)) c.drop_all.ensures.none;
      entries = subst (λ (l : List ℕ). entries_of (roots.slots c.drop_all.new.self l) ≡ empty)
          (sym (g.met.H.Host.bytes_changed c.args.host.now c.drop_all.new.ram)) c.drop_all.ensures.entries;
      other_roots = subst (λ (l : List ℕ). roots.other_roots c.drop_all.new.self l ≡ [])
          (sym (g.met.H.Host.bytes_changed c.args.host.now c.drop_all.new.ram)) c.drop_all.ensures.other_roots;
      same_cr3 = c.drop_all.ensures.known.cr3;
      moves =
          let p = c.args.pool.now in
          let old = c.self.inside.running.shadows in
          let d = c.drop_all in
          subst (λ (l : List ℕ). Moves p d.new.pool (g.H.Host.bytes c.args.host.now) l (roots.frames old (g.H.Host.bytes c.args.host.now))
          (roots.frames d.new.self l)) (sym (g.met.H.Host.bytes_changed c.args.host.now c.drop_all.new.ram))
          (subst (λ (l : List ℕ). Moves p d.new.pool l d.new.ram (roots.frames old l) (roots.frames d.new.self d.new.ram))
          c.ram_mut.ensures.ram d.ensures.moves);
      again = λ image h.
          let old = c.self.inside.running in
          let d = c.drop_all in
          let here =
          subst (λ (l : List ℕ). IsHeld of_roots (ground image old.frames) old c.args.pool.now l) (sym c.ram_mut.ensures.ram) h in
          subst (λ (l : List ℕ). IsHeld of_roots (ground image old.frames) (record old { shadows = d.new.self; held = 2 }) d.new.pool l)
          (sym (g.met.H.Host.bytes_changed c.args.host.now d.new.ram))
          (held_on image old.frames old d.new.self c.args.pool.now d.new.pool c.ram_mut.result.now d.new.ram d.ensures.stands d.ensures.none
          d.ensures.entries d.ensures.two d.ensures.owns d.ensures.moves here);
      ready = λ image h.
          let old = c.self.inside.running in
          let d = c.drop_all in
          subst (λ (l : List ℕ). IsReady of_roots (ground image old.frames) old.cpu d.new.self l)
          (sym (g.met.H.Host.bytes_changed c.args.host.now d.new.ram))
          (none_ready of_roots (λ page. false) (ground image old.frames) old.cpu d.new.self d.new.ram (d.ensures.known.cr3 ∙ h.cr3_is)
          d.ensures.none d.ensures.other_roots);
      filled =
          let d = c.drop_all in
          let fills = c.self.inside.running.fills in
          subst (λ (l : List ℕ). WereFilled (pages_kept of_roots d.new.self l) fills)
          (sym (g.met.H.Host.bytes_changed c.args.host.now d.new.ram))
          (none_kept (pages_kept of_roots d.new.self d.new.ram) fills
          (none_pages of_roots d.new.self d.new.ram d.ensures.entries d.ensures.other_roots));
      outside =
          let d = c.drop_all in
          let p = c.args.pool.now in
          let fs = roots.frames c.self.inside.running.shadows (g.H.Host.bytes c.args.host.now) in
          subst (λ (l : List ℕ). SameOutside (base_of p) (count_of p) (g.H.Host.bytes c.args.host.now) l)
          (sym (g.met.H.Host.bytes_changed c.args.host.now d.new.ram))
          (outside_of p d.new.pool (g.H.Host.bytes c.args.host.now) d.new.ram fs (roots.frames d.new.self d.new.ram)
          (subst (λ (r : Running Roots). Owns p (g.H.Host.bytes c.args.host.now) (roots.frames r.shadows (g.H.Host.bytes c.args.host.now)))
          (sym c.self.view_is) c.requires.owns)
          (subst (λ (l : List ℕ). Moves p d.new.pool l d.new.ram (roots.frames c.self.inside.running.shadows l)
          (roots.frames d.new.self d.new.ram)) c.ram_mut.ensures.ram d.ensures.moves));
    })

pub returns-clause-counts : goal.returns-clause-counts
returns-clause-counts g c = record {
  retired = g.met.H.Host.retired_stays c.args.host.now c.drop_all.new.ram;
  passed = g.met.H.Host.passed_stays c.args.host.now c.drop_all.new.ram;
}
