use Rattle.std.proofs.Common.{ℕ, ◌%◌, false, length, refl, sym, ap, ◌∙◌, inl, arith}
use Rattle.std.specs.FinMap.{empty}
use Rattle.descriptors.specs.Controls.{wp_of}
use Rattle.frame_pool.proofs.Held.{Owns-moves}
use Rattle.wedge_step.specs.Standing.{ground}
use Rattle.wedge_step.proofs.Memories.{text_within, front_same, host_same, shown_same}
use Rattle.wedge_step.proofs.Opening.{none_open}
use Rattle.wedge_step.proofs.Parts.{part_within, part_empty}
use Rattle.wedge_step.proofs.Readying.{fewer_ready}
use Rattle.wedge_step.proofs.Returning.{fewer_pages}
use Rattle.wedge_step.proofs.Shedding.{same_shed}
use Rattle.wedge_core.proofs.native.drop_present.Goals as goal

pub drop_dirs-requires : goal.drop_dirs-requires
drop_dirs-requires g c = record { stands = c.requires.held.2.stand }

pub returns-clause-beside : goal.returns-clause-beside
returns-clause-beside g c = λ any. record {
  ready = λ m frames h.
      let running = c.args.running.now in
      let pool = c.requires.held.1 in
      let held = c.requires.held.2 in
      let d = c.drop_dirs in
      let low = held.behind in
      let front = front_same m.frames pool pool c.args.ram.now d.new.ram _ _ (omega (arith, frames, low)) held.owns
      (d.ensures.moves pool held.owns) in
      fewer_ready g.S.Shadows (λ page. false) (λ page. false) m running.cpu running.shadows d.new.shadows c.args.ram.now
      d.new.ram d.ensures.cr3
      (λ un. sym d.ensures.stale ∙ un) (λ f n. d.ensures.read_from f ∙ n)
      (λ page lt o. inl (d.ensures.none page lt))
      (same_shed _ _ d.ensures.other_roots) (shown_same m c.args.ram.now d.new.ram front) h;
  reloaded = refl;
  has_tables_under = c.drop_dirs.ensures.has_tables_under;
  fewer = fewer_pages _ _ _ _ (part_empty _ _ c.drop_dirs.ensures.entries) (same_shed _ _ c.drop_dirs.ensures.other_roots);
  guest =
      let pool = c.requires.held.1 in
      let held = c.requires.held.2 in
      front_same c.args.running.now.frames pool pool c.args.ram.now c.drop_dirs.new.ram _ _ held.behind held.owns
      (c.drop_dirs.ensures.moves pool held.owns);
}

pub returns-clause-stay : goal.returns-clause-stay
returns-clause-stay g c = record {
  notes = λ frame n. sym (c.drop_dirs.ensures.read_from frame) ∙ n;
  marks = λ n. sym c.drop_dirs.ensures.stale ∙ n;
  others = c.drop_dirs.ensures.other_roots;
}

pub returns-clause-held : goal.returns-clause-held
returns-clause-held g c = λ pool image held.
    let n = c.args.running.now.frames in
    let m = ground image n in
    let d = c.drop_dirs in
    let room = held.wedge.room in
    let text = text_within image in
    let moves = d.ensures.moves pool held.owns in
    let front = front_same n pool pool c.args.ram.now d.new.ram _ _ held.behind held.owns moves in
    let lengths = moves.lengths in
    let few = held.few in
    record {
      wedge = held.wedge;
      frames_are = held.frames_are;
      size = held.size;
      host = host_same m c.args.ram.now d.new.ram (omega (arith, room, text)) moves.size front held.host;
      whole = ap (λ (k : ℕ). k % 4096) moves.size ∙ held.whole;
      behind = held.behind;
      stand = d.ensures.stands;
      owns = Owns-moves _ _ _ _ _ _ held.owns moves;
      counted = held.counted ∙ ap length (sym d.ensures.frames);
      few = omega (arith, few, lengths);
      fills = held.fills;
      within = part_within n _ empty (part_empty _ empty d.ensures.entries)
          (λ page e is. absurd (Rattle.wedge_step.proofs.Bools.none_some e
          (sym (Rattle.std.specs.FinMap.get-empty Rattle.std.specs.Ordering.nat_cmp page) ∙ is)));
      open_to = none_open image (wp_of c.args.running.now.cpu) _ d.ensures.none;
    }
