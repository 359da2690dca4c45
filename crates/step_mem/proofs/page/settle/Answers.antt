use Rattle.std.proofs.Common.{◌≡◌, take, ◌++◌, ap, ◌∙◌, ◌*◌, subst, sym, false, Option, Some, IfSome, IsSome, List, true}
use Rattle.std.proofs.lemmas.List.{take-append-le}
use Rattle.std.specs.FinMap.{get}
use Rattle.guest_ram.specs.Among.{is_among}
use Rattle.paging.specs.declared.entry.Entry.{Entry}
use Rattle.paging.specs.Fresh.{tables_read}
use Rattle.paging.specs.Uses.{with_entry, settled, is_barred}
use Rattle.step_mem.specs.Guard.{mode_of}
use Rattle.std.specs.Prelude.{map}
use Rattle.step_mem.specs.declared.changes.Change.{Change}
use Rattle.step_mem.specs.Changes.{changed, AreWithin, page_of, entry_of}
use Rattle.step_mem.specs.Space.{space_of, with_tables}
use Rattle.step_mem.specs.Shown.{shown}
use Rattle.step_mem.proofs.Changed.{one_change_more, changed_push, get_with_same, get_with_other, Within_with}
use Rattle.step_mem.proofs.page.settle.Goals as goal
use Rattle.step_mem.proofs.page.settle.Given.{Over}

-- the set afterwards
after : (g : Over) (c : goal.After-push g) → changed (g.B.Translations.entries c.args.base.now c.decide-met.new.ram) c.push.new.self
    ≡ with_entry (changed (g.B.Translations.entries c.args.base.now c.args.ram.now) c.args.changes.now) c.args.asked.page
    c.decide-met.result.1
after g c =
    let kept = g.B.Translations.entries c.args.base.now in
    let page = c.args.asked.page in
    let entry = c.decide-met.result.1 in
    let change = c.change_of.result in
    ap (changed (kept c.decide-met.new.ram)) c.push.ensures
    ∙ changed_push (kept c.decide-met.new.ram) c.args.changes.now change
    ∙ ap (λ set. with_entry (changed set c.args.changes.now) (page_of change) (entry_of change))
    (g.met.B.Translations.apart c.args.base.now (4096 * c.args.control.frames) c.args.ram.now c.decide-met.new.ram c.requires.begins.below
    c.decide-met.ensures.above c.decide-met.ensures.length c.requires.begins.stands)
    ∙ ap (λ p. with_entry (changed (kept c.args.ram.now) c.args.changes.now) p (entry_of change)) c.change_of.ensures.page
    ∙ ap (with_entry (changed (kept c.args.ram.now) c.args.changes.now) page) c.change_of.ensures.entry

pub returns-clause-settled : goal.returns-clause-settled
returns-clause-settled g c = λ rest.
    let s = space_of (g.B.Translations.entries c.args.base.now) c.args.ram.now c.args.control c.args.guard.now c.args.changes.now
    (with_tables rest c.args.tables.now) in
    let read = c.args.tables.now ++ tables_read (shown c.args.guard.now c.args.control.frames c.args.ram.now) c.args.control.frames
    c.args.control.cr3 c.args.control.pse c.args.asked.page in
    ap (settled s c.args.asked.page) c.decide-met.ensures.decided
    ∙ ap (λ set. (
      c.decide-met.result.0,
      record s {
        ram = shown c.args.guard.now c.args.control.frames c.decide-met.new.ram;
        set = set;
        tables = read;
      },
    )) (sym (after g c))
    ∙ ap (λ tables. (
      c.decide-met.result.0,
      record s {
        ram = shown c.args.guard.now c.args.control.frames c.decide-met.new.ram;
        set = changed (g.B.Translations.entries c.args.base.now c.decide-met.new.ram) c.push.new.self;
        tables = tables;
      },
    )) (sym c.note_tables.ensures.noted)

pub returns-clause-leaves : goal.returns-clause-leaves
returns-clause-leaves g c =
    let limit = 4096 * c.args.control.frames in
    record {
      stands = g.met.B.Translations.stays c.args.base.now limit c.args.ram.now c.decide-met.new.ram c.requires.begins.below
          c.decide-met.ensures.above c.decide-met.ensures.length c.requires.begins.stands;
      kept_stays = g.met.B.Translations.apart c.args.base.now limit c.args.ram.now c.decide-met.new.ram c.requires.begins.below
          c.decide-met.ensures.above c.decide-met.ensures.length c.requires.begins.stands;
      length_stays = c.decide-met.ensures.length;
      hidden_stays = c.decide-met.ensures.hidden;
      within = subst (AreWithin c.args.control.frames) (sym (after g c))
          (Within_with c.args.control.frames (changed (g.B.Translations.entries c.args.base.now c.args.ram.now) c.args.changes.now)
          c.args.asked.page c.decide-met.result.1 c.requires.begins.within c.decide-met.ensures.found);
    }

pub returns-clause-changes : goal.returns-clause-changes
returns-clause-changes g c = record {
  more = λ q h.
      one_change_more c.args.changes.now c.change_of.result c.args.asked.page q c.change_of.ensures.page
      (subst (λ (cs : List Change). is_among q (map page_of cs) ≡ true) c.push.ensures h);
  front = λ count few. ap (λ (cs : List Change). take count cs) c.push.ensures ∙ take-append-le count c.args.changes.now _ few;
  others = λ other n. ap (λ set. get set other) (after g c) ∙ get_with_other _ c.args.asked.page c.decide-met.result.1 other n;
}

pub returns-clause-found : goal.returns-clause-found
returns-clause-found g c = λ ready.
    subst IsSome (sym (ap (λ set. get set c.args.asked.page) (after g c) ∙ get_with_same _ c.args.asked.page c.decide-met.result.1))
    (c.decide-met.ensures.ready ready)

pub returns-clause-clear : goal.returns-clause-clear
returns-clause-clear g c = λ ready x is.
    let P : Option Entry → Type 0 =
    λ o. IfSome o (λ e. is_barred (mode_of c.args.guard.now) c.args.asked.fetch c.args.asked.access.user
    c.args.asked.page e.frame ≡ false) in
    let found : c.decide-met.result.1 ≡ Some x =
    sym (ap (λ set. get set c.args.asked.page) (after g c) ∙ get_with_same _ c.args.asked.page c.decide-met.result.1) ∙ is in
    subst P found c.decide-met.ensures.clear
