use Rattle.std.proofs.Common.{◌≡◌, ◌≤◌, ◌^◌, drop}
use Rattle.image_check.specs.Image.{Image}
use Rattle.bare_machine.specs.Machine.{state_of, IsKept}
use Rattle.bare_machine.specs.Settings.{bare}
use Rattle.look_words.specs.View.{aspect_view}
use Rattle.pv_look.specs.Onward.{watch_of}
use Rattle.pv_look.proofs.Onwards.{SoFar}
use Rattle.pv_look.proofs.onward.add_moments.Given as goal

abbrev pub invariant-loop-n : goal.invariant-loop-n
invariant-loop-n g l = record {
  kept : IsKept l.machine.frames (state_of g.C.Cache.entries l.machine);
  frames : l.machine.frames ≡ l.fn.machine.frames;
  begun : l.machine.step ≤ 2 ^ 40;
  so_far : (image : Image)
      → SoFar (watch_of g.C.Cache.keeping (bare image l.script.list l.fn.machine.frames) (aspect_view l.aspect)) l.bound l.counts
      (drop l.n-index l.counts)
      (state_of g.C.Cache.entries l.fn.machine) (state_of g.C.Cache.entries l.machine) l.fn.text.items l.text.items;
}
