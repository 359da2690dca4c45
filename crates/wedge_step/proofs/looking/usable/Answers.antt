use Rattle.std.proofs.Common.{◌≡◌, Bool, true, false, cond, Option, None, Some, sym, ap, ◌∙◌, arith}
use Rattle.paging.specs.declared.entry.Access.{Access}
use Rattle.paging.specs.declared.entry.Entry.{Entry}
use Rattle.paging.specs.Fresh.{allows}
use Rattle.paging.specs.Uses.{usable}
use Rattle.wedge_step.proofs.looking.usable.Goals as goal

-- by what is kept, and whether it lets the access pass
by : (kept found : Option Entry) (access : Access) (wp : Bool) → kept ≡ found → usable kept access wp ≡ usable found access wp
by kept found access wp is = ap (λ (o : Option Entry). usable o access wp) is

tested : (entry : Entry) (access : Access) (wp may : Bool) → may ≡ allows entry access wp
    → cond {A = Option Entry} may (Some entry) None ≡ usable (Some entry) access wp
tested entry access wp may is = ap (λ (b : Bool). cond {A = Option Entry} b (Some entry) None) is

pub kept-requires : goal.kept-requires
kept-requires g c = record { stands = c.requires.stands; page = c.requires.page }

pub returns-in-None-clause-usable : goal.returns-in-None-clause-usable
returns-in-None-clause-usable g c = by None _ c.args.access c.args.wp c.in-None.ensures.entries

pub returns-then-not-allows-clause-usable : goal.returns-then-not-allows-clause-usable
returns-then-not-allows-clause-usable g c =
    tested c.in-Some.entry c.args.access c.args.wp false (sym c.if-not-allows.true ∙ c.allows.ensures)
    ∙ by (Some c.in-Some.entry) _ c.args.access c.args.wp c.in-Some.ensures.entries

pub returns-else-not-allows-clause-usable : goal.returns-else-not-allows-clause-usable
returns-else-not-allows-clause-usable g c =
    tested c.in-Some.entry c.args.access c.args.wp true (sym c.if-not-allows.false ∙ c.allows.ensures)
    ∙ by (Some c.in-Some.entry) _ c.args.access c.args.wp c.in-Some.ensures.entries

pub returns-in-None-clause-frame : goal.returns-in-None-clause-frame
returns-in-None-clause-frame g c = tt

pub returns-then-not-allows-clause-frame : goal.returns-then-not-allows-clause-frame
returns-then-not-allows-clause-frame g c = tt

pub returns-else-not-allows-clause-frame : goal.returns-else-not-allows-clause-frame
returns-else-not-allows-clause-frame g c = (c.requires.kept c.args.page c.in-Some.entry (sym c.in-Some.ensures.entries)).1

pub allows-requires : goal.allows-requires
allows-requires g c = let fits =
    c.in-Some.ensures.fits in let page = c.requires.page in record { page = omega (arith, fits, page); frame = fits.1 }
