use Rattle.std.proofs.Common.{length}
use Rattle.afterburner.proofs.Items.{labelled_sound}
use Rattle.afterburner.proofs.assembly.Assembly.make.Goals as goal

pub returns-in-Label-clause-sound : goal.returns-in-Label-clause-sound
returns-in-Label-clause-sound c = labelled_sound c.args.names.now (length c.args.names.now) c.args.self.now c.part.new.self c.label.new.self
    _ c.label.ensures c.part.ensures c.requires.sound
