use Rattle.std.proofs.Common.{refl, sym, ◌∙◌}
use Rattle.frame_pool.proofs.Held.{Writes-refl}
use Rattle.shadow_cache.specs.Pairs.{frames_of}
use Rattle.shadow_cache.specs.Roots.{pairs_of, is_barred}
use Rattle.shadow_cache.specs.Standing.{stood}
use Rattle.shadow_cache.proofs.Noting.{bar-rest, bar-holds, bar-both, bar-loses, bar-frames, bar-memory, all-barred}
use Rattle.shadow_cache.proofs.roots.Roots.bar_frame.Goals as goal

pub bar-requires : goal.bar-requires
bar-requires c = record { shadow = (stood c.args.self.now c.args.ram.now c.requires.stands).roots.shadows.0 }

pub bar_all-requires-clause-shadows : goal.bar_all-requires-clause-shadows
bar_all-requires-clause-shadows c =
    let r = c.args.self.now in let m = c.args.ram.now in let h = (stood r m c.requires.stands).roots in let e = c.bar.ensures in
    bar-rest r.present r.others m c.bar.new.ram c.bar.new.ram c.args.frame h e.shadow e.loses e.held e.memory

pub bar_all-requires-clause-holds : goal.bar_all-requires-clause-holds
bar_all-requires-clause-holds c =
    let r = c.args.self.now in let m = c.args.ram.now in let h = (stood r m c.requires.stands).roots in let e = c.bar.ensures in
    bar-holds r.present r.others m c.bar.new.ram c.bar.new.ram c.args.frame h e.shadow e.loses e.held e.memory

pub returns : goal.returns
returns c =
    let r = c.args.self.now in let m = c.args.ram.now in let h = (stood r m c.requires.stands).roots in let e = c.bar.ensures in
    let b = c.bar_all.ensures in let n = c.bar_all.new.ram in
    record {
      shadows =
          bar-both r.present r.others m c.bar.new.ram n c.args.frame h e.shadow e.loses e.held e.memory b.shadows b.frames b.loses b.memory;
      loses = bar-loses r.present r.others m c.bar.new.ram n c.args.frame h e.shadow e.loses e.held e.memory b.shadows b.frames
          b.loses b.memory e.tables;
      frames = bar-frames r.present r.others m c.bar.new.ram n c.args.frame h e.shadow e.loses e.held e.memory b.shadows
          b.frames b.loses b.memory;
      memory = bar-memory r.present r.others m c.bar.new.ram n c.args.frame h e.shadow e.loses e.held e.memory b.shadows
          b.frames b.loses b.memory;
    }

pub returns-then-has : goal.returns-then-has
returns-then-has c =
    let r = c.args.self.now in let m = c.args.ram.now in let h = (stood r m c.requires.stands).roots in
    record {
      shadows = h.shadows;
      loses =
          all-barred (is_barred r) c.args.frame (pairs_of r) m (sym c.has.ensures.is ∙ c.if-has.true) (stood r m c.requires.stands).barred;
      frames = refl;
      memory = Writes-refl (frames_of (pairs_of r) m) m;
    }
