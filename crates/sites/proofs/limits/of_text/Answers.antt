use Rattle.std.proofs.Common.{ℕ, sym, subst}
use Rattle.sites.specs.Form.{IsWritable}
use Rattle.sites.proofs.Formats.{of_format}
use Rattle.sites.proofs.TextSites.{writable}
use Rattle.sites.proofs.limits.of_text.Goals as goal

pub returns-clause-writable : goal.returns-clause-writable
returns-clause-writable c = λ are gaps.
    subst (λ (n : ℕ). IsWritable (of_format c.args.list.items n)) (sym c.format_of-format.ensures)
    (writable c.args.text c.args.list.items are gaps)
