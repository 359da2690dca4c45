use Rattle.std.proofs.Common.{◌≡◌, ℕ, ◌+◌, ◌*◌, ◌^◌, ◌<◌, ◌≤◌, Bool, true, length, ap, sym, subst, ◌∙◌, arith}
use Rattle.board.specs.Boards.{board_step}
use Rattle.descriptors.specs.declared.cpu.Cpu.{Cpu}
use Rattle.descriptors.specs.Controls.{wp_of}
use Rattle.native_steps.specs.Mirrors.{shown}
use Rattle.frame_pool.specs.Pool.{free_list}
use Rattle.frame_pool.proofs.Held.{Moves-trans}
use Rattle.wedge_mem.specs.Settled.{pages_of}
use Rattle.wedge_step.specs.Ending.{HasFilled}
use Rattle.wedge_step.specs.Scene.{scene}
use Rattle.wedge_step.specs.Ready.{AreFound, IsReady, IsReadyBut, leaving}
use Rattle.shadow_tables.specs.Sight.{sight}
use Rattle.wedge_step.specs.Standing.{AreOpen}
use Rattle.wedge_step.specs.declared.running.Running.{Running}
use Rattle.wedge_step.proofs.FrameCounts.{all_but}
use Rattle.wedge_step.proofs.AmongPages.{among_through, leaving_through}
use Rattle.wedge_step.proofs.Parts.{left_twice}
use Rattle.wedge_step.proofs.Filling.{held_by, fills_join, fills_fewer, unlost_first}
use Rattle.shadow_tables.specs.Entries.{entries_of}
use Rattle.step_mem.specs.Changes.{changed}
use Rattle.wedge_step.specs.Parts.{left_of}
use Rattle.wedge_step.proofs.Leaving.{ended}
use Rattle.wedge_step.proofs.single.finish_step.Goals as goal

-- ---- counts, apart from all else that is known

still_enough : (n old new : ℕ) → n ≤ old → new ≡ old → n ≤ new
still_enough n old new h e = omega (arith, h, e)

lies_low : (frames k base then : ℕ) → 4096 * k ≤ 4096 * base → then ≡ base → frames ≡ k → frames ≤ then
lies_low frames k base then below same is = omega (arith, below, same, is)

two_free : (free held room : ℕ) → free + held ≡ room → held + 2 ≤ room → 2 ≤ free
two_free free held room e h = omega (arith, e, h)

fills_small : (fills step : ℕ) → fills ≤ 128 * step → step < 2 ^ 40 → fills ≤ 2 ^ 48
fills_small fills step h lt = omega (arith, h, lt)

-- the frames that are free and those that are held
all_fit_after : (count free held frames free2 frames2 : ℕ) → count ≡ free → held ≡ frames → free + frames ≡ free2 + frames2 → free2
    + frames2 < 2 ^ 32 → count + held < 2 ^ 32
all_fit_after count free held frames free2 frames2 e h same few = omega (arith, e, h, same, few)

-- a step fills at most 128 pages
fills_rise : (old new then mid step : ℕ) → new ≤ old + 128 → then ≡ mid + 1 → mid ≡ step → old ≤ 128 * step → new ≤ 128 * then
fills_rise old new then mid step more next same h = omega (arith, more, next, same, h)

pub drop_and_switch-left-requires-clause-enough : goal.drop_and_switch-left-requires-clause-enough
drop_and_switch-left-requires-clause-enough g c = still_enough 4 _ _ c.requires.counts.enough c.fill_used.ensures.moved.moves.lengths

pub returns-clause-left : goal.returns-clause-left
returns-clause-left g c =
    λ back. left_twice c.args.worked.now.dropped _ _ _ _ _ c.fill_used.ensures.left (c.drop_and_switch-left.ensures.left back)

pub returns-clause-shows : goal.returns-clause-shows
returns-clause-shows g c = λ image is h a.
    let mid = c.fill_used.new.running in
    let wp : wp_of mid.cpu ≡ c.args.state.now.control.wp =
    ap (λ (r : Running g.row.S.Denot). wp_of r.cpu) c.fill_used.ensures.same.same ∙ sym c.requires.worked.rules in
    c.drop_and_switch-left.ensures.shows image (subst (λ (b : Bool). AreOpen image b (g.S.Shadows.slots mid.shadows c.fill_used.new.ram))
    (sym wp) (c.fill_used.ensures.shows image is h))
    (subst (λ (b : Bool). Rattle.wedge_step.specs.Ready.AllOpen image b (g.S.Shadows.other_roots mid.shadows c.fill_used.new.ram)) (sym wp)
    (c.fill_used.ensures.opens image _ a))

pub returns-clause-notes_wanted : goal.returns-clause-notes_wanted
returns-clause-notes_wanted g c = c.drop_and_switch-left.ensures.notes_wanted

pub returns-clause-ready : goal.returns-clause-ready
returns-clause-ready g c = λ m frames is has_tables_under h.
    let mid = c.fill_used.new.running in
    let old = c.args.running.now in
    let state = c.args.state.now in
    let d = c.args.worked.now.dropped in
    let pages = pages_of state.visited state.changes in
    let cpu_is = ap (λ (r : Running g.row.S.Denot). r.cpu) c.fill_used.ensures.same.same in
    let wp : wp_of mid.cpu ≡ state.control.wp = ap wp_of cpu_is ∙ sym c.requires.worked.rules in
    let below = c.requires.under.sound.below in
    let same = c.fill_used.ensures.moved.moves.same.0 in
    let low = lies_low m.frames _ _ _ below same frames in
    let opened_mid = subst (λ (b : Bool). AreOpen m.image b (g.S.Shadows.slots mid.shadows c.fill_used.new.ram)) (sym wp)
    (c.fill_used.ensures.shows m.image is has_tables_under) in
    let ready = c.fill_used.ensures.ready (leaving d pages) m old.cpu frames h in
    let there = λ (page : ℕ). leaving_through d state.visited state.changes c.as_slice.result.now c.requires.under.sound.told
    c.as_slice.ensures page in
    let ready_mid =
    subst (λ (out : ℕ → Bool). IsReadyBut g.S.Shadows out m mid.cpu mid.shadows c.fill_used.new.ram) (λ i page. there page i)
    (subst (λ (x : Cpu). IsReadyBut g.S.Shadows (leaving d pages) m x mid.shadows c.fill_used.new.ram) (sym cpu_is) ready) in
    let new = c.drop_and_switch-left.new in
    let slots = g.S.Shadows.slots in
    let read_from = g.S.Shadows.read_from in
    subst (λ (x : Cpu). IsReady g.S.Shadows m x new.shadows new.ram
    × (c.drop_and_switch-left.result.reloaded ≡ true → AreFound m x (shown m new.ram) x.cr3 (read_from new.shadows)
    (slots new.shadows new.ram)))
    (sym c.pass.ensures.cpu) (c.drop_and_switch-left.ensures.ready m low opened_mid ready_mid)

pub returns-clause-has_tables_under : goal.returns-clause-has_tables_under
returns-clause-has_tables_under g c =
    λ indices all o. c.drop_and_switch-left.ensures.has_tables_under indices (c.fill_used.ensures.has_tables_under indices all o)

pub returns-clause-ends : goal.returns-clause-ends
returns-clause-ends g c = λ w may indices all o room.
    let k = c.fill_used.ensures in
    let mid = c.fill_used.new.running in
    let new = c.drop_and_switch-left.new in
    let old = c.args.running.now in
    let state = c.args.state.now in
    let pages = pages_of state.visited state.changes in
    let slots = g.S.Shadows.slots in
    let set = changed (entries_of (slots old.shadows c.args.ram.now)) state.changes in
    let unlost = (k.whole may).0 in
    let there =
    λ (page : ℕ). among_through state.visited state.changes c.as_slice.result.now c.requires.under.sound.told c.as_slice.ensures page in
    let enough : 2 ≤ length (free_list c.fill_used.new.pool c.fill_used.new.ram) =
    two_free _ _ _ k.moved.moves.lengths (room mid.shadows c.fill_used.new.ram k.moved.stands (k.has_tables_under indices all o)) in
    ended c.args.worked.now.dropped old.cpu mid.cpu c.args.worked.now.cpu pages _ state.tables state.wrote set
    (sight g.S.Shadows old.shadows c.args.ram.now) (sight g.S.Shadows mid.shadows c.fill_used.new.ram)
    (sight g.S.Shadows new.shadows new.ram)
    (ap (λ (r : Running g.row.S.Denot). r.cpu) k.same.same) k.told.same_cr3 (λ page. sym (there page))
    (k.left ∙ ap (λ (b : Bool). left_of b set) unlost) (k.told.tells unlost)
    c.drop_and_switch-left.ensures.leaves.stay c.drop_and_switch-left.ensures.leaves.lost
    (λ rules out. c.drop_and_switch-left.ensures.leaves.loads rules out w enough)

pub fill_used-requires-clause-under : goal.fill_used-requires-clause-under
fill_used-requires-clause-under g c = c.requires.under

pub fill_used-requires-clause-fills : goal.fill_used-requires-clause-fills
fill_used-requires-clause-fills g c = fills_small _ _ c.requires.counts.fills c.requires.counts.bound

pub drop_and_switch-left-requires-clause-owned : goal.drop_and_switch-left-requires-clause-owned
drop_and_switch-left-requires-clause-owned g c = let m = c.fill_used.ensures.moved in record { stands = m.stands; owns = m.owns }

pub drop_and_switch-left-requires-clause-page : goal.drop_and_switch-left-requires-clause-page
drop_and_switch-left-requires-clause-page g c = c.requires.worked.page

pub returns-clause-moved : goal.returns-clause-moved
returns-clause-moved g c = record {
  stands = c.drop_and_switch-left.ensures.moved.stands;
  owns = c.drop_and_switch-left.ensures.moved.owns;
  moves = Moves-trans _ _ _ _ _ _ _ _ _ c.fill_used.ensures.moved.moves c.drop_and_switch-left.ensures.moved.moves;
}

pub returns-clause-counts : goal.returns-clause-counts
returns-clause-counts g c =
    let k = c.fill_used.ensures.counts.fills in
    let s = c.pass.ensures.step in
    let mid = ap (λ (r : Running g.row.S.Denot). r.step) c.fill_used.ensures.same.same in
    let f = c.requires.counts.fills in
    record {
      counted = held_by _ _ _ _ _ _ _ (c.free.ensures.count c.fill_used.new.ram) c.fill_used.ensures.counts.counted
          (c.free-2.ensures.count c.drop_and_switch-left.new.ram) c.drop_and_switch-left.ensures.moved.moves.lengths;
      fills = fills_rise _ _ _ _ _ k s mid f;
      exact = λ unlost.
          let old = c.args.running.now in let mid = c.fill_used.new.running in
          unlost_first (λ (lost : Bool). (n : ℕ) × (mid.fills ≡ old.fills + n) × HasFilled g.S.Shadows lost
          (scene old c.args.pool.now c.args.ram.now) c.args.state.now n)
          mid.lost.after c.drop_and_switch-left.result.none unlost c.fill_used.ensures.counts.exact;
      filled = fills_join _ _ _ _ _ _ c.fill_used.ensures.counts.filled (fills_fewer _ _ _ c.drop_and_switch-left.ensures.fewer);
    }

pub returns-clause-passes : goal.returns-clause-passes
returns-clause-passes g c = record {
  cpu = c.pass.ensures.cpu;
  board = c.pass.ensures.board ∙ ap (λ (r : Running g.row.S.Denot). board_step r.board) c.fill_used.ensures.same.same;
  step = c.pass.ensures.step ∙ ap (λ (r : Running g.row.S.Denot). r.step + 1) c.fill_used.ensures.same.same;
  frames = ap (λ (r : Running g.row.S.Denot). r.frames) c.fill_used.ensures.same.same;
  before = c.fill_used.ensures.same.before;
}

pub overflow_add-all : goal.overflow_add-all
overflow_add-all g c =
    let fit = all_fit_after _ _ _ _ _ _ (c.free.ensures.count c.fill_used.new.ram) c.fill_used.ensures.counts.counted
    c.fill_used.ensures.moved.moves.lengths c.requires.under.few in
    omega (arith, fit)

pub overflow_sub-running : goal.overflow_sub-running
overflow_sub-running g c =
    let low = all_but _ _ _ _ _ _ _ (c.free.ensures.count c.fill_used.new.ram) c.fill_used.ensures.counts.counted
    (c.free-2.ensures.count c.drop_and_switch-left.new.ram) c.drop_and_switch-left.ensures.moved.moves.lengths in
    omega (arith, low)
