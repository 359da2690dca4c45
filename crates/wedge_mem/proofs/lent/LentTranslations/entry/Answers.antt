use Rattle.std.proofs.Common.{sym}
use Rattle.wedge_mem.specs.Owned.{first}
use Rattle.wedge_mem.proofs.lent.LentTranslations.entry.Goals as goal

pub kept-requires-clause-stands : goal.kept-requires-clause-stands
kept-requires-clause-stands g c = first c.requires

pub returns-then-page-ge-PAGES : goal.returns-then-page-ge-PAGES
returns-then-page-ge-PAGES g c =
    sym (g.met.S.Shadows.none_beyond c.args.self.now.shadows.now c.args.ram.now c.args.page c.if-page-ge-PAGES.true)
