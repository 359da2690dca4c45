use Rattle.std.proofs.Common.{◌≡◌, ℕ, ◌+◌, ◌==◌, true, false, refl, sym, subst, ◌∙◌, arith}
use Rattle.host_cpl3.specs.Hosts.{standing}
use Rattle.guest_ram.specs.Among.{is_among}
use Rattle.wedge_step.specs.Filled.{CountsFills, pages_kept}
use Rattle.wedge_step.specs.Ready.{IsReady}
use Rattle.wedge_step.specs.Standing.{ground, set_of, side_of}
use Rattle.wedge_core.specs.Views.{view_by}
use Rattle.wedge_step.proofs.Parts.{part_same}
use Rattle.wedge_core.proofs.Landing.{may_runs}
use Rattle.wedge_core.proofs.Stretched.{Laws, passes_on, stays_on, passed_on, held_then, keeps_then, able_then, frames_then, fills_then, step_then, rules_then, shadows_is, same_there, host_there, untouched_then, same_in, stand, whole_new, set_same}
use Rattle.wedge_step.proofs.Filling.{fills_same}
use Rattle.wedge_step.proofs.Keeping.{keeps_same}
use Rattle.wedge_step.proofs.Stays.{kept_same}
use Rattle.wedge_core.proofs.Untouched.{Protects, unlent, ready_on}
use Rattle.wedge_core.proofs.stretch.stretch.Goals as goal

pub returns : goal.returns
returns g c =
    let met = g.met.S.Shadows in
    let laws : Laws g.S.Shadows = record {
      host = met.host;
      stays = met.stays;
      same_frames = met.same_frames;
      same_slots = met.same_slots;
      same_entries = met.same_entries;
      entry_at = met.entry_at;
      above = met.above;
      owned_above = met.owned_above;
    }
    in
    let image = c.args.image.now in
    let old = c.args.running.now in
    let memory = g.H.Host.bytes c.args.host.now in
    let retired = g.H.Host.retired c.args.host.now in
    let passed = g.H.Host.passed c.args.host.now in
    let script = c.args.script.now.list in
    let now = c.run_on-done.new.running in
    let new = c.run_on-done.new.host in
    let memory_then = g.H.Host.bytes new in
    let retired_then = g.H.Host.retired new in
    let passed_then = g.H.Host.passed new in
    let k = c.steps_until_next-k.result in
    let done = c.run_on-done.result in
    let ran = c.run_on-done.ensures.ran in
    let views = c.views_lend.ensures in
    let view = view_by (g.S.Shadows.directory old.shadows) old.cpu in
    let start = standing old.cpu.regs memory retired passed in
    let may = may_runs old.cpu old.board image c.args.runs c.requires.runs c.if-not-runs.false in
    let quiet = c.steps_until_next-k.ensures.quiet in
    let few = ran.few in
    let most = c.steps_until_next-k.ensures.most in
    let begun = c.requires.bound.0 in
    let count : now.step ≡ old.step + done = step_then g.S.Shadows old now view start k done memory_then retired_then passed_then ran in
    let pool = c.requires.held.0 in
    let h = c.requires.held.1 in
    let shadows = shadows_is g.S.Shadows laws image old.frames old pool memory h views.lends views.sees c.advances.ensures c.requires.able
    may c.if-running.false retired passed k done now memory_then retired_then passed_then ran in
    let there = same_there g.S.Shadows laws image old.frames old pool memory h views.lends views.sees c.advances.ensures c.requires.able may
    c.if-running.false retired passed k done now memory_then retired_then passed_then ran script quiet in
    let inside = same_in g.S.Shadows laws image old.frames old pool memory h memory_then there in
    let others_then = met.same_other_roots old.shadows memory memory_then h.stand inside in
    record {
      goes = record {
        passes = λ some board is.
            let kept = set_of g.S.Shadows old memory in
            passes_on g.S.Shadows laws image old.frames old c.requires.held.0 memory c.requires.held.1 views.lends views.sees
            c.advances.ensures c.requires.able may c.if-running.false retired passed k done now memory_then retired_then passed_then ran
            script quiet board is kept (part_same kept kept refl) some refl;
        stays = stays_on g.S.Shadows laws image old.frames old c.requires.held.0 memory c.requires.held.1 views.lends views.sees
            c.advances.ensures c.requires.able may c.if-running.false retired passed k done now memory_then retired_then passed_then ran
            script quiet;
      };
      leaves = record {
        held = λ pool h. held_then g.S.Shadows laws image old.frames old pool memory h views.lends views.sees c.advances.ensures
            c.requires.able may c.if-running.false retired passed k done now memory_then retired_then passed_then ran script quiet;
        pool = λ pool h. keeps_then g.S.Shadows laws image old.frames old pool memory h views.lends views.sees c.advances.ensures
            c.requires.able may c.if-running.false retired passed k done now memory_then retired_then passed_then ran script quiet;
        filled =
            subst (λ (s : g.row.S.Denot). CountsFills (pages_kept g.S.Shadows old.shadows memory) (pages_kept g.S.Shadows s memory_then)
            old.fills now.fills) (sym shadows)
            (subst (λ (k : ℕ). CountsFills (pages_kept g.S.Shadows old.shadows memory) (pages_kept g.S.Shadows old.shadows memory_then)
            old.fills k) (sym (fills_then g.S.Shadows old now view start k done memory_then retired_then passed_then ran))
            (fills_same _ _ old.fills
            (kept_same g.S.Shadows old.shadows memory memory_then
            (set_same g.S.Shadows laws image old.frames old pool memory h memory_then there) others_then)));
        ready = λ ready.
            let protects : Protects g.S.Shadows = record {
              host = met.host;
              barred = met.barred;
              read_from_is_protected = met.read_from_is_protected;
              other_roots_protected = met.other_roots_protected;
            } in
            let rules = rules_then g.S.Shadows laws image old.frames old pool memory h views.lends views.sees c.advances.ensures
            c.requires.able may c.if-running.false retired passed k done now memory_then retired_then passed_then ran in
            let host_then = host_there g.S.Shadows laws image old.frames old pool memory h views.lends views.sees c.advances.ensures
            c.requires.able may c.if-running.false retired passed k done now memory_then retired_then passed_then ran script quiet in
            let untouched = λ (at : ℕ) (t : is_among at (g.S.Shadows.write_protected old.shadows) ≡ true).
            untouched_then g.S.Shadows laws image old.frames old pool memory h views.lends views.sees c.advances.ensures c.requires.able may
            c.if-running.false retired passed k done now memory_then retired_then passed_then ran script quiet at
            (λ other same. unlent g.S.Shadows protects old.shadows other (side_of (old.cpu.cpl == 3)) at
            (stand g.S.Shadows laws image old.frames old pool memory h other same)
            (whole_new g.S.Shadows laws image old.frames old pool memory h other same) t) in
            let slots_then = met.same_slots old.shadows memory memory_then h.stand inside in
            subst (λ (s : g.row.S.Denot). IsReady g.S.Shadows (ground image old.frames) now.cpu s memory_then) (sym shadows)
            (ready_on g.S.Shadows protects (ground image old.frames) h.wedge old.cpu now.cpu old.shadows memory memory_then h.host host_then
            rules.0 rules.1 rules.2 untouched slots_then others_then ready);
        kept = shadows;
        apart = inside;
        able = able_then g.S.Shadows laws image old.frames old c.requires.held.0 memory c.requires.held.1 views.lends views.sees
            c.advances.ensures c.requires.able may c.if-running.false retired passed k done now memory_then retired_then passed_then ran
            script quiet;
        frames = frames_then g.S.Shadows old now view start k done memory_then retired_then passed_then ran;
      };
      counts = record {
        count = count;
        most = omega (arith, count, few, most, begun);
        retired = ran.count;
        passed = passed_on g.S.Shadows laws image old.frames old c.requires.held.0 memory c.requires.held.1 views.lends views.sees
            c.advances.ensures c.requires.able may c.if-running.false retired passed k done now memory_then retired_then passed_then ran
            script quiet;
      };
      ran = λ _ _ _. record {
        asked = k;
        most = most;
        furthest = c.steps_until_next-k.ensures.furthest;
        ran = ran;
        short = λ cut. (c.is_cut.ensures cut).1;
      };
      once = λ cut. absurd (let f : true ≡ false = sym cut ∙ c.if-cut.false in cc);
      cut = λ cut. (c.is_cut.ensures cut).0;
      started = c.run_on-done.ensures.started;
    }

pub returns-then-cut : goal.returns-then-cut
returns-then-cut g c =
    let old = c.args.running.now in
    let memory = g.H.Host.bytes c.args.host.now in
    record {
      goes = record { passes = λ some. absurd (omega (arith, some)); stays = λ none. refl };
      leaves = record {
        held = λ pool h. h;
        pool = λ pool h. keeps_same pool memory (g.S.Shadows.frames old.shadows memory);
        filled = fills_same _ _ old.fills refl;
        ready = λ ready. ready;
        kept = refl;
        apart = record { size = refl; frames = λ frame e. refl };
        able = c.requires.able;
        frames = refl;
      };
      counts = record { count = omega arith; most = c.requires.bound.0; retired = omega arith; passed = λ none. refl };
      ran = λ cut. absurd (let f : true ≡ false = sym c.if-cut.true ∙ cut in cc);
      once = λ _. refl;
      cut = λ cut. absurd (let f : false ≡ true = cut in cc);
      started = c.requires.started;
    }

pub returns-then-running-clause-goes : goal.returns-then-running-clause-goes
returns-then-running-clause-goes g c = record { passes = λ some. absurd (omega (arith, some)); stays = λ none. refl }

pub returns-then-running-clause-leaves : goal.returns-then-running-clause-leaves
returns-then-running-clause-leaves g c =
    let old = c.args.running.now in
    let memory = g.H.Host.bytes c.args.host.now in
    record {
      held = λ pool h. h;
      pool = λ pool h. keeps_same pool memory (g.S.Shadows.frames old.shadows memory);
      filled = fills_same _ _ old.fills refl;
      ready = λ ready. ready;
      kept = refl;
      apart = record { size = refl; frames = λ frame e. refl };
      able = c.requires.able;
      frames = refl;
    }

pub returns-then-running-clause-counts : goal.returns-then-running-clause-counts
returns-then-running-clause-counts g c =
    record { count = omega arith; most = c.requires.bound.0; retired = omega arith; passed = λ none. refl }

pub run_on-done-requires-clause-bound : goal.run_on-done-requires-clause-bound
run_on-done-requires-clause-bound g c =
    let low = c.requires.bound.0 in
    let high = c.requires.bound.1 in
    let most = c.steps_until_next-k.ensures.most in
    omega (arith, low, high, most)
