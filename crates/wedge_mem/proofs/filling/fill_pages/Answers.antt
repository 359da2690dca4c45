use Rattle.std.proofs.Common.{◌≡◌, ℕ, Bool, ◌+◌, ◌-◌, ◌^◌, ◌<◌, ◌≤◌, length, take, drop, get_or, cond, not, ◌&&◌, eqb, Option, IfSome, sym, ap, ◌∙◌, subst, arith}
use Rattle.std.specs.FinMap.{get}
use Rattle.std.proofs.lemmas.List.{take_rest}
use Rattle.frame_pool.proofs.Held.{Owns-moves, Moves-trans}
use Rattle.frame_pool.specs.Pool.{free_list}
use Rattle.paging.specs.declared.entry.Entry.{Entry}
use Rattle.shadow_tables.specs.Entries.{entries_of}
use Rattle.guest_ram.specs.Among.{is_among}
use Rattle.shadow_tables.specs.Slots.{Slot}
use Rattle.step_mem.specs.Changes.{changed}
use Rattle.wedge_mem.specs.Settled.{filled_by, has_entry}
use Rattle.wedge_mem.proofs.Lists.{element-among, used-at, if-some}
use Rattle.wedge_mem.proofs.Due.{filled-still, is_filled_at, refilled-at, worth-few, worth-is}
use Rattle.wedge_mem.proofs.Filled.{entry-still, fill-more, here-same}
use Rattle.wedge_mem.proofs.Rests.{rest-trans}
use Rattle.wedge_mem.proofs.filling.fill_pages.Goals as goal

pub fill_last-filled-requires-clause-owns : goal.fill_last-filled-requires-clause-owns
fill_last-filled-requires-clause-owns g c =
    let l = c.loop-i in let f = g.S.Shadows.frames in
    Owns-moves c.args.pool.now l.pool c.args.ram.now l.ram (f c.args.shadows.now c.args.ram.now) (f l.shadows l.ram)
    c.requires.owns l.invariant.moves

pub fill_last-filled-requires-clause-fits : goal.fill_last-filled-requires-clause-fits
fill_last-filled-requires-clause-fits g c =
    let page : ℕ = get_or c.args.pages.now c.loop-i.i 0 in
    subst (λ o. IfSome o (λ (e : Entry). (e.page ≡ page) × (e.frame < 2 ^ 20)))
    (sym (entry-still c.args.pages.now c.loop-i.i (g.S.Shadows.slots c.args.shadows.now c.args.ram.now)
    (g.S.Shadows.slots c.loop-i.shadows c.loop-i.ram) c.args.changes.now
    (λ q. filled_by c.args.side c.args.wp (g.S.Shadows.write_protected c.args.shadows.now)
    (get (changed (entries_of (g.S.Shadows.slots c.args.shadows.now c.args.ram.now)) c.args.changes.now) q)) c.loop-i-test.true
    c.loop-i.invariant.slots)) (if-some _ (c.requires.within page))

pub fill_last-filled-requires-clause-free : goal.fill_last-filled-requires-clause-free
fill_last-filled-requires-clause-free g c =
    let page : ℕ = get_or c.args.pages.now c.loop-i.i 0 in
    let xs = c.args.pages.now in
    let set = changed (entries_of (g.S.Shadows.slots c.args.shadows.now c.args.ram.now)) c.args.changes.now in
    let count = used-at set xs c.loop-i.i c.loop-i-test.true in
    let left = c.loop-i.invariant.left in
    subst (λ o. cond (has_entry o && not (is_among page (take (length xs - (c.loop-i.i + 1)) (drop (c.loop-i.i + 1) xs)))) 1 0 ≤ length
    (free_list c.loop-i.pool c.loop-i.ram))
    (sym (entry-still c.args.pages.now c.loop-i.i (g.S.Shadows.slots c.args.shadows.now c.args.ram.now)
    (g.S.Shadows.slots c.loop-i.shadows c.loop-i.ram) c.args.changes.now
    (λ q. filled_by c.args.side c.args.wp (g.S.Shadows.write_protected c.args.shadows.now)
    (get (changed (entries_of (g.S.Shadows.slots c.args.shadows.now c.args.ram.now)) c.args.changes.now) q)) c.loop-i-test.true
    c.loop-i.invariant.slots))
    (subst (λ ys. cond (has_entry (get set page) && not (is_among page ys)) 1 0 ≤ length (free_list c.loop-i.pool c.loop-i.ram))
    (sym (take_rest xs (c.loop-i.i + 1))) (omega (arith, count, left)))

pub loop-i-preserved : goal.loop-i-preserved
loop-i-preserved g c =
    let l = c.loop-i in let f = g.S.Shadows.frames in
    let xs = c.args.pages.now in
    let page : ℕ = get_or c.args.pages.now c.loop-i.i 0 in
    let e = c.fill_last-filled.ensures in
    let old = g.S.Shadows.slots c.args.shadows.now c.args.ram.now in
    let now = g.S.Shadows.slots l.shadows l.ram in
    let new = g.S.Shadows.slots c.fill_last-filled.new.shadows c.fill_last-filled.new.ram in
    let write_protected = g.S.Shadows.write_protected c.args.shadows.now in
    let set = changed (entries_of old) c.args.changes.now in
    let later : take (length xs - (l.i + 1)) (drop (l.i + 1) xs) ≡ drop (l.i + 1) xs = take_rest xs (l.i + 1) in
    let v : Option Slot =
    filled_by c.args.side c.args.wp (g.S.Shadows.write_protected l.shadows) (get (changed (entries_of now) c.args.changes.now) page) in
    let v-is : v ≡ filled_by c.args.side c.args.wp write_protected (get set page) =
    ap (λ t. filled_by c.args.side c.args.wp t (get (changed (entries_of now) c.args.changes.now) page)) l.invariant.rest.write_protected
    ∙ ap (filled_by c.args.side c.args.wp write_protected)
    (entry-still c.args.pages.now c.loop-i.i (g.S.Shadows.slots c.args.shadows.now c.args.ram.now)
    (g.S.Shadows.slots c.loop-i.shadows c.loop-i.ram) c.args.changes.now
    (λ q. filled_by c.args.side c.args.wp (g.S.Shadows.write_protected c.args.shadows.now)
    (get (changed (entries_of (g.S.Shadows.slots c.args.shadows.now c.args.ram.now)) c.args.changes.now) q)) c.loop-i-test.true
    c.loop-i.invariant.slots) in
    let count = used-at set xs l.i c.loop-i-test.true in
    let left = l.invariant.left in
    let cs = c.args.changes.now in let side = c.args.side in let wp = c.args.wp in
    let filled : c.fill_last-filled.result ≡ is_filled_at old set cs side wp xs l.i =
    filled-still xs l.i old now cs side wp (take (length xs - (l.i + 1)) (drop (l.i + 1) xs)) c.fill_last-filled.result
    c.requires.pages later
    (entry-still xs l.i old now cs (λ q. filled_by side wp write_protected (get set q)) c.loop-i-test.true l.invariant.slots)
    (here-same xs l.i old now (λ q. filled_by side wp write_protected (get set q)) c.loop-i-test.true l.invariant.slots) e.filled in
    let worth : c.from-count.result ≡ cond (is_filled_at old set cs side wp xs l.i) 1 0 =
    c.from-count.ensures ∙ (worth-is c.fill_last-filled.result ∙ ap (λ (b : Bool). cond {A = ℕ} b 1 0) filled) in
    let one = worth-few c.fill_last-filled.result in
    let from = c.from-count.ensures in
    let rest = refilled-at old set cs side wp xs l.i c.loop-i-test.true in
    let counted = l.invariant.counted in
    let few = l.invariant.few in
    let spent : length (free_list l.pool l.ram) ≤ length (free_list c.fill_last-filled.new.pool c.fill_last-filled.new.ram)
    + cond (has_entry (get set page) && not (is_among page (drop (l.i + 1) xs))) 1 0 =
    subst (λ o. length (free_list l.pool l.ram) ≤ length (free_list c.fill_last-filled.new.pool c.fill_last-filled.new.ram) + cond
    (has_entry o && not (is_among page (drop (l.i + 1) xs))) 1 0) (entry-still c.args.pages.now c.loop-i.i
    (g.S.Shadows.slots c.args.shadows.now c.args.ram.now) (g.S.Shadows.slots c.loop-i.shadows c.loop-i.ram) c.args.changes.now
    (λ q. filled_by c.args.side c.args.wp (g.S.Shadows.write_protected c.args.shadows.now)
    (get (changed (entries_of (g.S.Shadows.slots c.args.shadows.now c.args.ram.now)) c.args.changes.now) q)) c.loop-i-test.true
    c.loop-i.invariant.slots)
    (subst (λ ys. length (free_list l.pool l.ram) ≤ length (free_list c.fill_last-filled.new.pool c.fill_last-filled.new.ram) + cond
    (has_entry (get (changed (entries_of now) c.args.changes.now) page) && not (is_among page ys)) 1 0) later e.left) in
    record {
      stands = e.stands;
      slots = fill-more xs l.i old now new (λ q. filled_by c.args.side c.args.wp write_protected (get set q)) v c.loop-i-test.true
          v-is l.invariant.slots
          (λ q h. e.slots q h ∙ ap (λ ys. cond (eqb q page && not (is_among page ys)) v (now q)) later);
      rest = rest-trans g.S.Shadows c.args.shadows.now l.shadows c.fill_last-filled.new.shadows c.args.ram.now l.ram
          c.fill_last-filled.new.ram l.invariant.rest e.rest;
      has_tables_under = λ indices all h. e.has_tables_under indices (all page (element-among xs l.i c.loop-i-test.true))
          (l.invariant.has_tables_under indices all h);
      left = omega (arith, count, left, spent);
      counted = omega (arith, counted, worth, rest);
      few = omega (arith, few, one, from);
      moves = Moves-trans c.args.pool.now l.pool c.fill_last-filled.new.pool c.args.ram.now l.ram c.fill_last-filled.new.ram
          (f c.args.shadows.now c.args.ram.now) (f l.shadows l.ram) (f c.fill_last-filled.new.shadows c.fill_last-filled.new.ram)
          l.invariant.moves e.moves;
    }

pub overflow_add-count : goal.overflow_add-count
overflow_add-count g c =
    let few = c.loop-i.invariant.few in let enough = c.requires.few in let at = c.loop-i-test.true in
    let one = worth-few c.fill_last-filled.result in let from = c.from-count.ensures in
    omega (arith, few, enough, at, one, from)
