use Rattle.std.proofs.Common.{◌≡◌, ℕ, ◌+◌, ◌%◌, false, refl, sym, ap, ◌∙◌, arith}
use Rattle.std.specs.FinMap.{empty}
use Rattle.descriptors.specs.Controls.{wp_of}
use Rattle.wedge_step.specs.Standing.{ground}
use Rattle.wedge_step.proofs.FrameCounts.{all_fit}
use Rattle.wedge_step.proofs.Memories.{text_within, front_same, host_same}
use Rattle.wedge_step.proofs.Opening.{none_open}
use Rattle.wedge_step.proofs.Parts.{part_within, part_empty}
use Rattle.wedge_step.proofs.Readying.{none_ready, none_pages}
use Rattle.wedge_core.proofs.native.drop_kept.Goals as goal

-- the frames that are free and those that are held
all_but_two : (free frames before held after : ℕ) → free + frames ≡ before + held → after ≡ held → frames ≡ 2 → free + 2 ≡ before + after
all_but_two free frames before held after lengths counted two = omega (arith, lengths, counted, two)

pub overflow_add-free : goal.overflow_add-free
overflow_add-free g c = let held =
    c.requires.held.1 in let fit = all_fit _ _ _ _ (c.free.ensures.count c.args.ram.now) held.counted held.few in omega (arith, fit)

pub returns-clause-none : goal.returns-clause-none
returns-clause-none g c = c.drop_all.ensures.entries

pub returns-clause-room : goal.returns-clause-room
returns-clause-room g c = all_but_two _ _ _ _ _ c.drop_all.ensures.moves.lengths c.requires.held.1.counted c.drop_all.ensures.two

pub returns-clause-moves : goal.returns-clause-moves
returns-clause-moves g c = c.drop_all.ensures.moves

pub returns-clause-beside : goal.returns-clause-beside
returns-clause-beside g c = record {
  ready = λ m frames h.
      none_ready g.S.Shadows (λ page. false) m c.args.running.now.cpu c.drop_all.new.self c.drop_all.new.ram
      (c.drop_all.ensures.known.cr3 ∙ h.cr3_is) c.drop_all.ensures.none c.drop_all.ensures.other_roots;
  reloaded = refl;
  has_tables_under = c.drop_all.ensures.has_tables_under;
  fewer =
      let none = none_pages g.S.Shadows c.drop_all.new.self c.drop_all.new.ram c.drop_all.ensures.entries c.drop_all.ensures.other_roots in
      omega (arith, none);
  guest =
      let held = c.requires.held.1 in
      front_same c.args.running.now.frames c.args.pool.now c.drop_all.new.pool c.args.ram.now c.drop_all.new.ram _ _ held.behind held.owns
      c.drop_all.ensures.moves;
}

pub returns-clause-held : goal.returns-clause-held
returns-clause-held g c = λ image held.
    let n = c.args.running.now.frames in
    let m = ground image n in
    let room = held.wedge.room in
    let text = text_within image in
    let moves = c.drop_all.ensures.moves in
    let front = front_same n c.args.pool.now c.drop_all.new.pool c.args.ram.now c.drop_all.new.ram _ _ held.behind held.owns moves in
    let lengths = moves.lengths in
    let few = held.few in
    let counted = held.counted in
    let before = c.free.ensures.count c.args.ram.now in
    let after = c.free-2.ensures.count c.drop_all.new.ram in
    record {
      wedge = held.wedge;
      frames_are = held.frames_are;
      size = held.size;
      host = host_same m c.args.ram.now c.drop_all.new.ram (omega (arith, room, text)) moves.size front held.host;
      whole = ap (λ (k : ℕ). k % 4096) moves.size ∙ held.whole;
      behind = (let h = held.behind in let e = moves.same.0 in omega (arith, h, e));
      stand = c.drop_all.ensures.stands;
      owns = c.drop_all.ensures.owns;
      counted = omega (arith, counted, before, after, lengths);
      few = omega (arith, few, lengths);
      fills = held.fills;
      within = part_within n _ empty (part_empty _ empty c.drop_all.ensures.entries)
          (λ page e is. absurd (Rattle.wedge_step.proofs.Bools.none_some e
          (sym (Rattle.std.specs.FinMap.get-empty Rattle.std.specs.Ordering.nat_cmp page) ∙ is)));
      open_to = none_open image (wp_of c.args.running.now.cpu) _ c.drop_all.ensures.none;
    }
