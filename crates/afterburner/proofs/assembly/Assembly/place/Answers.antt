use Rattle.std.proofs.Common.{◌≡◌, true, length, ◌∙◌, sym, ap}
use Rattle.afterburner.proofs.Spelled.{paired_sound}
use Rattle.afterburner.specs.ObjectSoFar.{ObjectSoFar}
use Rattle.afterburner.proofs.assembly.Assembly.place.Goals as goal

pub returns-then-is_hlt-clause-sound : goal.returns-then-is_hlt-clause-sound
returns-then-is_hlt-clause-sound c =
    let behind : c.args.self.now.after_sti ≡ true = ap (λ (s : ObjectSoFar). s.after_sti) (sym c.self.view_is) ∙ c.if-self.true in
    paired_sound (length c.args.names.now) c.args.self.now c.pair.new.self c.pair.ensures behind c.requires.sound
