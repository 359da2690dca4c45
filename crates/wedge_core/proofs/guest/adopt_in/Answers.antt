use Rattle.std.proofs.Common.{◌≡◌, ℕ, ◌+◌, ◌*◌, ◌%◌, ◌≤◌, List, [], length, take, drop, refl, sym, ap, subst, ◌∙◌, arith}
use Rattle.std.proofs.lemmas.Result.{IfOk-from_err}
use Rattle.std.specs.FinMap.{get, get-empty}
use Rattle.std.specs.Ordering.{nat_cmp}
use Rattle.descriptors.specs.Controls.{wp_of}
use Rattle.guest_ram.specs.Bytes.{part, with_part}
use Rattle.guest_ram.proofs.Bytes.{drop-with_part}
use Rattle.frame_pool.specs.Held.{Owns, Moves, SameIn}
use Rattle.frame_pool.specs.Pool.{base_of}
use Rattle.frame_pool.specs.declared.Pool.{Pool}
use Rattle.frame_pool.proofs.Above.{Owns-above, SameIn-above, free_list-above}
use Rattle.frame_pool.proofs.Held.{Owns-none}
use Rattle.image_check.specs.Image.{Image}
use Rattle.sites.specs.Patched.{patched}
use Rattle.sites.specs.Room.{AreInside}
use Rattle.sites.specs.declared.site.Site.{Site}
use Rattle.shadow_cache.specs.Views as roots
use Rattle.shadow_cache.specs.declared.roots.Roots.{Roots}
use Rattle.machine_model.specs.Run.{Set}
use Rattle.machine_model.specs.State.{wedge}
use Rattle.native_steps.specs.Mirrors.{shown}
use Rattle.wedge_step.specs.Standing.{ground}
use Rattle.wedge_core.proofs.Adopted.{IsNew, started, new_behind, new_frames, new_empty, new_ready, new_pages}
use Rattle.wedge_step.proofs.Bools.{none_some}
use Rattle.wedge_step.proofs.Keeping.{keeps_join, keeps_above, keeps_moves}
use Rattle.wedge_step.proofs.Memories.{front_same, text_within, part_front}
use Rattle.wedge_step.proofs.Opening.{none_open}
use Rattle.wedge_core.proofs.Patches.{inside_moved, unpatched}
use Rattle.wedge_core.proofs.guest.adopt_in.Goals as goal

-- the shadows were made
module _ (c : goal.After-sites) where
  abbrev image : Image
  image = c.args.image.now

  abbrev n : ℕ
  n = c.args.frames

  abbrev ram0 : List ℕ
  ram0 = c.args.ram.now

  abbrev ram1 : List ℕ
  ram1 = c.new.new.ram

  abbrev pool0 : Pool
  pool0 = c.args.pool.now

  abbrev pool1 : Pool
  pool1 = c.new.new.pool

  abbrev s : Roots
  s = c.in_ok-shadows.shadows

  moves : Moves pool0 pool1 ram0 ram1 [] (roots.frames s ram1)
  moves = c.in_ok-shadows.ensures.moves

  lies : 0x100000 + length image.text ≤ length ram1
  lies =
      let text = text_within image in
      let fits = c.requires.may.fits in
      let room = c.requires.may.room in
      let size = moves.size in
      omega (arith, text, fits, room, size)

  front : take (4096 * n) ram1 ≡ take (4096 * n) ram0
  front =
      front_same n pool0 pool1 ram0 ram1 [] (roots.frames s ram1) c.requires.may.behind (Owns-none pool0 ram0 c.requires.may.stands) moves

  text1 : part ram1 0x100000 (length image.text) ≡ image.text
  text1 =
      let text = text_within image in
      let fits = c.requires.may.fits in
      let k = length image.text in
      let inside : 0x100000 + k ≤ 4096 * n = omega (arith, text, fits) in
      sym (part_front ram1 (4096 * n) 0x100000 k inside)
      ∙ (ap (λ (l : List ℕ). part l 0x100000 k) front ∙ (part_front ram0 (4096 * n) 0x100000 k inside ∙ c.requires.may.text))

  new1 : IsNew s ram1 c.args.cpu.cr3
  new1 = started s ram1 c.args.cpu.cr3 c.in_ok-shadows.ensures.stands c.in_ok-shadows.ensures.starts

pub patch-requires : goal.patch-requires
patch-requires c =
    subst (λ (l : List Site). AreInside (length (ram1 c)) 0x100000 l) (sym c.sites.ensures.sites)
    (inside_moved (length (image c).text) (length (ram1 c)) 0x100000 (image c).sites (lies c) c.sites.ensures.inside)

-- and the text was patched
module _ (c : goal.After-patch) where
  abbrev d : goal.After-sites
  d = c.before

  abbrev ram2 : List ℕ
  ram2 = c.patch.new.ram

  abbrev patches : List ℕ
  patches = patched (image d).text 0 (image d).sites

  long : length patches ≡ length (image d).text
  long = c.patching.ensures.length (image d) c.accepted.ensures

  patched_is : ram2 ≡ with_part (ram1 d) 0x100000 patches
  patched_is = c.patch.ensures.memory
      ∙ (ap (patched (ram1 d) 0x100000) c.sites.ensures.sites ∙ c.patching.ensures.memory (image d) c.accepted.ensures (ram1 d)
      0x100000 (lies d) (text1 d))

  above : drop (4096 * n d) ram2 ≡ drop (4096 * n d) (ram1 d)
  above =
      let text = text_within (image d) in
      let fits = c.requires.may.fits in
      let l = lies d in
      let k = long in
      ap (drop (4096 * n d)) patched_is ∙ drop-with_part (ram1 d) 0x100000 patches (4096 * n d) (omega (arith, k, text, fits))
      (omega (arith, k, l))

  behind : 4096 * n d ≤ 4096 * base_of (pool1 d)
  behind = let h = c.requires.may.behind in let same = (moves d).same.0 in omega (arith, h, same)

  inside : SameIn (roots.frames (s d) (ram1 d)) (ram1 d) ram2
  inside = SameIn-above (pool1 d) (ram1 d) ram2 (4096 * n d) behind above c.patch.ensures.len (roots.frames (s d) (ram1 d))
      c.in_ok-shadows.ensures.owns

  new2 : IsNew (s d) ram2 c.args.cpu.cr3
  new2 = new_behind (s d) (ram1 d) ram2 c.args.cpu.cr3 inside (new1 d)

  frames2 : roots.frames (s d) ram2 ≡ roots.frames (s d) (ram1 d)
  frames2 = new_frames (s d) (ram1 d) ram2 c.args.cpu.cr3 inside (new1 d)

pub returns-clause-adopts : goal.returns-clause-adopts
returns-clause-adopts c = record {
  held =
      let d = c.before in
      let im = c.args.image.now in
      let text = text_within im in
      let fits = c.requires.may.fits in
      let room = c.requires.may.room in
      let moved = moves d in
      let free =
      ap length (free_list-above (pool1 d) (ram1 d) (ram2 c) (4096 * n d) (behind c) (above c) c.patch.ensures.len moved.stands) in
      let same_frames = ap length (frames2 c) in
      let count = c.free-free.ensures.count (ram0 d) in
      let fit = c.free-free.type_inv in
      let lengths = moved.lengths in
      let low = c.requires.may.behind in
      let same = moved.same.0 in
      let size = moved.size in
      let len = c.patch.ensures.len in
      record {
        wedge = record { mode = refl; accepted = c.accepted.ensures; room = fits };
        frames_are = refl;
        size = c.requires.may.size;
        host = record {
          room = omega (arith, len, size, room);
          text = ap (λ (l : List ℕ). part l 0x100000 (length im.text))
              (c.patch.ensures.memory ∙ ap (patched (ram1 d) 0x100000) c.sites.ensures.sites)
              ∙ c.patching.ensures.text_in_memory im c.accepted.ensures (ram1 d) 0x100000 (lies d) (text1 d);
        };
        whole = ap (λ (k : ℕ). k % 4096) (c.patch.ensures.len ∙ size) ∙ c.requires.may.whole;
        behind = omega (arith, low, same);
        stand = (new2 c).stand;
        owns = subst (λ (fs : List ℕ). Owns (pool1 d) (ram2 c) fs) (sym (frames2 c))
            (Owns-above (pool1 d) (ram1 d) (ram2 c) (4096 * n d) (behind c) (above c) c.patch.ensures.len (roots.frames (s d) (ram1 d))
            c.in_ok-shadows.ensures.owns);
        counted = sym (new2 c).two;
        few = omega (arith, free, same_frames, count, fit, lengths);
        fills = omega arith;
        within =
            λ page x is. absurd (none_some x
            (sym (get-empty nat_cmp page)
            ∙ (ap (λ (set : Set). get set page) (sym (new_empty (s d) (ram2 c) c.args.cpu.cr3 (new2 c))) ∙ is)));
        open_to = none_open im (wp_of c.args.cpu) _ (new2 c).none;
      };
  ready =
      let d = c.before in new_ready (ground (image d) (n d)) c.args.cpu (s d) (ram2 c) (new2 c);
  state = λ script.
      let d = c.before in
      let im = c.args.image.now in
      let text = text_within im in
      let fits = c.requires.may.fits in
      let room = c.requires.may.room in
      let size = (moves d).size in
      let m = wedge im script (n d) in
      let ram_is : shown m (ram2 c) ≡ take (4096 * n d) (ram0 d) =
      ap (shown m) (patched_is c)
      ∙ (unpatched m (ram1 d) (patches c) (long c) (omega (arith, text, fits)) (omega (arith, room, size)) (text1 d) ∙ front d) in
      let set_is = new_empty (s d) (ram2 c) c.args.cpu.cr3 (new2 c) in
      λ i. record { cpu = c.args.cpu; ram = ram_is i; set = set_is i; board = c.args.board; step = c.args.step };
  two = refl;
  fills = refl;
  none =
      let d = c.before in new_pages (s d) (ram2 c) c.args.cpu.cr3 (new2 c);
  filled = (let d = c.before in let none = new_pages (s d) (ram2 c) c.args.cpu.cr3 (new2 c) in omega (arith, none));
  pool =
      let d = c.before in
      let fs1 = roots.frames (s d) (ram1 d) in
      let fs2 = roots.frames (s d) (ram2 c) in
      keeps_join (pool0 d) (pool1 d) (pool1 d) (ram0 d) (ram1 d) (ram2 c) [] fs1 fs2
      (keeps_moves (pool0 d) (pool1 d) (ram0 d) (ram1 d) [] fs1 (moves d))
      (keeps_above (pool1 d) (ram1 d) (ram2 c) (4096 * n d) fs1 fs2 (moves d).stands (behind c) (above c) c.patch.ensures.len (frames2 c));
}

pub returns-in_err-shadows-clause-adopts : goal.returns-in_err-shadows-clause-adopts
returns-in_err-shadows-clause-adopts c = IfOk-from_err c.from_residual.result _ c.from_residual.ensures.0

pub returns-clause-refused : goal.returns-clause-refused
returns-clause-refused c = tt
