use Rattle.std.proofs.Common.{◌≡◌, ℕ, ◌+◌, ◌/◌, ◌^◌, ◌<◌, ◌≤◌, List, Bool, true, Option, Some, IfSome, cond, sym, subst}
use Rattle.guest_ram.specs.Among.{is_among}
use Rattle.paging.specs.declared.entry.Entry.{Entry}
use Rattle.shadow_tables.specs.Slots.{Slot, Turns, filled}
use Rattle.shadow_tables.specs.declared.words.Side.{Side}
use Rattle.wedge_mem.specs.Settled.{filled_by, has_entry}
use Rattle.wedge_mem.proofs.filling.fill_page.Goals as goal

-- ---- of a page with this entry

fits : (o : Option Entry) (entry : Entry) (page : ℕ) → o ≡ Some entry → IfSome o (λ e. (e.page ≡ page) × (e.frame < 2 ^ 20))
    → (entry.page ≡ page) × (entry.frame < 2 ^ 20)
fits o entry page is h = subst (λ (x : Option Entry). IfSome x (λ e. (e.page ≡ page) × (e.frame < 2 ^ 20))) is h

filled-so : (f f' : ℕ → Option Slot) (side : Side) (wp : Bool) (barred : List ℕ) (o : Option Entry) (entry : Entry) (page : ℕ)
    → o ≡ Some entry → entry.page ≡ page
    → Turns f f' entry.page (Some (filled (is_among entry.frame barred) side entry wp)) → Turns f f' page (filled_by side wp barred o)
filled-so f f' side wp barred o entry page is same t =
    subst (λ (x : Option Entry). Turns f f' page (filled_by side wp barred x)) (sym is)
    (subst (λ (n : ℕ). Turns f f' n (filled_by side wp barred (Some entry))) same t)

one-less : (o : Option Entry) (entry : Entry) (before after : ℕ) → o ≡ Some entry → before ≤ after + 1 → before ≤ after
    + cond (has_entry o) 1 0
one-less o entry before after is h = subst (λ (x : Option Entry). before ≤ after + cond (has_entry x) 1 0) (sym is) h

-- ---- what is filled from it

pub returns-in-Some-clause-stands : goal.returns-in-Some-clause-stands
returns-in-Some-clause-stands g c = c.fill.ensures.stands

pub returns-in-Some-clause-turns : goal.returns-in-Some-clause-turns
returns-in-Some-clause-turns g c =
    filled-so _ _ c.args.side c.args.wp (g.S.Shadows.write_protected c.args.shadows.now) c.args.entry c.in-Some.entry
    c.args.page c.in-Some.is
    (fits c.args.entry c.in-Some.entry c.args.page c.in-Some.is c.requires.fits).0 c.fill.ensures.fills.turns

pub returns-in-Some-clause-rest : goal.returns-in-Some-clause-rest
returns-in-Some-clause-rest g c = let b = c.fill.ensures.beside in record {
  write_protected = b.write_protected;
  read_from = b.read_from;
  stale = b.stale;
  cr3 = b.cr3;
  other_roots = b.other_roots;
  roots = c.fill.ensures.roots;
}

pub returns-in-Some-clause-has_tables_under : goal.returns-in-Some-clause-has_tables_under
returns-in-Some-clause-has_tables_under g c = λ indices under there.
    let same = (fits c.args.entry c.in-Some.entry c.args.page c.in-Some.is c.requires.fits).0 in
    c.fill.ensures.has_tables_under indices (subst (λ (n : ℕ). indices (n / 1024) ≡ true) (sym same) under) there

pub returns-in-Some-clause-left : goal.returns-in-Some-clause-left
returns-in-Some-clause-left g c = one-less c.args.entry c.in-Some.entry _ _ c.in-Some.is c.fill.ensures.one

pub returns-in-Some-clause-moves : goal.returns-in-Some-clause-moves
returns-in-Some-clause-moves g c = c.fill.ensures.moves
