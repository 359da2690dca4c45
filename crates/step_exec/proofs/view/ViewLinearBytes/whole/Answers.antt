use Rattle.std.proofs.Common.{◌∙◌}
use Rattle.step_exec.proofs.Reading.{fits_span, unread_number, unread_readable, unwritten_number, unwritten_readable}
use Rattle.step_exec.proofs.view.ViewLinearBytes.whole.Goals as goal

pub read-requires : goal.read-requires
read-requires g c =
    unwritten_readable c.args.self.now.ranges.now (g.M.GuestMem.space c.args.self.now.mem.now) c.args.size c.args.at c.in-None.is c.requires

pub read-requires-in-None-read : goal.read-requires-in-None-read
read-requires-in-None-read g c = unread_readable c.args.self.now.ranges.now (g.M.GuestMem.space c.args.self.now.mem.now) c.args.size
    c.args.at c.in-None-read.is c.requires

pub returns-in-None-clause-value : goal.returns-in-None-clause-value
returns-in-None-clause-value g c = c.read.ensures.value
    ∙ unwritten_number c.args.self.now.ranges.now (g.M.GuestMem.space c.args.self.now.mem.now) c.args.size c.args.at c.in-None.is

pub returns-in-None-read-clause-value : goal.returns-in-None-read-clause-value
returns-in-None-read-clause-value g c = c.read-in-None-read.ensures.value
    ∙ unread_number c.args.self.now.ranges.now (g.M.GuestMem.space c.args.self.now.mem.now) c.args.size c.args.at c.in-None-read.is

pub returns-in-None-clause-small : goal.returns-in-None-clause-small
returns-in-None-clause-small g c = fits_span c.args.size c.read.result c.read.ensures.fits

pub returns-in-None-read-clause-small : goal.returns-in-None-read-clause-small
returns-in-None-read-clause-small g c = fits_span c.args.size c.read-in-None-read.result c.read-in-None-read.ensures.fits
