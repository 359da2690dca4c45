use Rattle.std.proofs.Common.{◌≡◌, ◌++◌, List, None, Option, length, sym, ap, ◌∙◌, arith, subst}
use Rattle.std.specs.Prelude.{vec_len, map, filter, IfNone, All, ◌+◌, ◌≤◌}
use Rattle.std.proofs.lemmas.Result.{IfOk-from_err}
use Rattle.elf_form.specs.ObjectParts.{ObjectParts}
use Rattle.elf_form.specs.declared.object.Symbol.{Symbol}
use Rattle.sites.specs.SitesParts.{SitesParts}
use Rattle.sites.specs.declared.site.Site.{Site}
use Rattle.elf_link.specs.declared.fault.LinkCause.{LinkCause}
use Rattle.elf_link.specs.declared.fault.LinkFault.TheVariants.{Memory}
use Rattle.elf_link.specs.Sites.{moved}
use Rattle.elf_link.specs.Symbols.{is_exported, target}
use Rattle.elf_link.specs.Refusals.{refused, doubled_cause, first_doubled, exported_names}
use Rattle.elf_link.specs.Steps.{AreBelow, HasRoom, size_cause, tested}
use Rattle.elf_link.proofs.ExportLaws.{keys, names}
use Rattle.elf_link.proofs.StepLaws.{gives_err, cause_none, name_none, size_fail, sites_fail, step_after, placed_is, doubled_fail}
use Rattle.elf_link.proofs.gathering.gather.Goals as goal

pub returns-in_err-sites-clause-exact : goal.returns-in_err-sites-clause-exact
returns-in_err-sites-clause-exact c =
    let none : size_cause c.args.all.now.totals c.args.object.now ≡ None =
    sym c.size_cause.ensures.cause ∙ cause_none c.args.number c.size_cause.result c.in_ok-refuse.ensures in
    gives_err (λ x. tt {0}) c.from_residual-in_err-sites.result c.in_err-sites.field-0.0 _ c.from_residual-in_err-sites.ensures.1
    (sites_fail c.args.number c.args.all.now.totals c.args.all.now.sites.items c.args.all.now.globals c.args.object.now none
    c.in_err-sites.field-0.0 c.in_err-sites.ensures.exact)

pub returns-in_err-refuse-2-clause-exact : goal.returns-in_err-refuse-2-clause-exact
returns-in_err-refuse-2-clause-exact c =
    let none : size_cause c.args.all.now.totals c.args.object.now ≡ None =
    sym c.size_cause.ensures.cause ∙ cause_none c.args.number c.size_cause.result c.in_ok-refuse.ensures in
    let symbols : c.deref.result.now ≡ c.args.object.now.symbols =
    c.deref.ensures.value ∙ ap (λ (o : ObjectParts). o.symbols) c.object.view_is in
    let found : c.doubled_cause.result ≡ doubled_cause
    (first_doubled (keys c.args.all.now.globals) (exported_names (c.args.number, c.args.object.now))) =
    c.doubled_cause.ensures
    ∙ ap doubled_cause (c.in_ok-name.ensures.doubled ∙ ap (λ (ss : List Symbol). first_doubled (keys c.args.all.now.globals) (names ss))
    symbols) in
    gives_err (λ x. tt {0}) c.from_residual-in_err-refuse-2.result c.in_err-refuse-2.field-0.0 _ c.from_residual-in_err-refuse-2.ensures.1
    (doubled_fail c.args.number c.args.all.now.totals c.args.all.now.sites.items c.args.all.now.globals c.args.object.now none
    c.in_err-refuse-2.field-0.0 c.doubled_cause.result c.in_ok-sites.sites.list c.in_ok-sites.ensures.exact found c.in_err-refuse-2.ensures)

pub with_object-all-requires-clause-sites : goal.with_object-all-requires-clause-sites
with_object-all-requires-clause-sites c =
    let none : size_cause c.args.all.now.totals c.args.object.now ≡ None =
    sym c.size_cause.ensures.cause ∙ cause_none c.args.number c.size_cause.result c.in_ok-refuse.ensures in
    let is = placed_is c.args.number c.args.all.now.totals c.args.all.now.sites.items c.args.all.now.globals c.args.object.now none
    c.in_ok-sites.sites.list c.in_ok-sites.ensures.exact in
    let count : vec_len c.sites.inside.list ≡ length c.in_ok-sites.sites.list =
    omega (arith, c.sites.inside.list.ok, ap (λ (s : SitesParts). length s.list) c.sites.view_is) in
    (c.len.ensures ∙ (count ∙ ap length is), omega (arith, c.len.ensures, count, c.in_ok-sites.ensures.few))

pub returns-clause-exact : goal.returns-clause-exact
returns-clause-exact c =
    let none : size_cause c.args.all.now.totals c.args.object.now ≡ None =
    sym c.size_cause.ensures.cause ∙ cause_none c.args.number c.size_cause.result c.in_ok-refuse.ensures in
    let symbols : c.deref.result.now ≡ c.args.object.now.symbols =
    c.deref.ensures.value ∙ ap (λ (o : ObjectParts). o.symbols) c.object.view_is in
    let found : c.doubled_cause.result ≡ doubled_cause
    (first_doubled (keys c.args.all.now.globals) (exported_names (c.args.number, c.args.object.now))) =
    c.doubled_cause.ensures
    ∙ ap doubled_cause (c.in_ok-name.ensures.doubled ∙ ap (λ (ss : List Symbol). first_doubled (keys c.args.all.now.globals) (names ss))
    symbols) in
    let after = step_after c.args.number c.args.all.now.totals c.args.all.now.sites.items c.args.all.now.globals c.args.object.now none
    c.in_ok-sites.sites.list c.in_ok-sites.ensures.exact in
    ap (λ (cause : Option LinkCause). tested (refused c.args.number cause))
    (after ∙ (sym found ∙ cause_none c.args.number c.doubled_cause.result c.in_ok-refuse-2.ensures))

pub returns-clause-sites : goal.returns-clause-sites
returns-clause-sites c =
    let none : size_cause c.args.all.now.totals c.args.object.now ≡ None =
    sym c.size_cause.ensures.cause ∙ cause_none c.args.number c.size_cause.result c.in_ok-refuse.ensures in
    let is = placed_is c.args.number c.args.all.now.totals c.args.all.now.sites.items c.args.all.now.globals c.args.object.now none
    c.in_ok-sites.sites.list c.in_ok-sites.ensures.exact in
    let list : c.deref-2.result.now ≡ c.in_ok-sites.sites.list =
    c.deref-2.ensures.value ∙ ap (λ (s : SitesParts). s.list) c.sites.view_is in
    c.in_ok-put_moved.ensures ∙ ap (λ (ss : List Site). c.args.all.now.sites.items ++ map (moved c.args.all.now.totals.text) ss) (list ∙ is)

pub returns-clause-below : goal.returns-clause-below
returns-clause-below c =
    let none : size_cause c.args.all.now.totals c.args.object.now ≡ None =
    sym c.size_cause.ensures.cause ∙ cause_none c.args.number c.size_cause.result c.in_ok-refuse.ensures in
    let is = placed_is c.args.number c.args.all.now.totals c.args.all.now.sites.items c.args.all.now.globals c.args.object.now none
    c.in_ok-sites.sites.list c.in_ok-sites.ensures.exact in
    subst (λ (ss : List Site). AreBelow (length c.args.object.now.text) ss) is c.in_ok-sites.ensures.below

pub size_cause-requires : goal.size_cause-requires
size_cause-requires c = c.requires.within

pub returns-in_err-refuse-clause-exact : goal.returns-in_err-refuse-clause-exact
returns-in_err-refuse-clause-exact c =
    gives_err (λ x. tt {0}) c.from_residual.result c.in_err-refuse.field-0.0 _ c.from_residual.ensures.1
    (size_fail c.args.number c.args.all.now.totals c.args.all.now.sites.items c.args.all.now.globals c.args.object.now
    c.in_err-refuse.field-0.0 c.size_cause.result c.size_cause.ensures.cause c.in_err-refuse.ensures)

pub returns-in_err-refuse-clause-totals : goal.returns-in_err-refuse-clause-totals
returns-in_err-refuse-clause-totals c = IfOk-from_err c.from_residual.result _ c.from_residual.ensures.0

pub returns-in_err-refuse-clause-globals : goal.returns-in_err-refuse-clause-globals
returns-in_err-refuse-clause-globals c = IfOk-from_err c.from_residual.result _ c.from_residual.ensures.0

pub returns-in_err-refuse-clause-sites : goal.returns-in_err-refuse-clause-sites
returns-in_err-refuse-clause-sites c = IfOk-from_err c.from_residual.result _ c.from_residual.ensures.0

pub returns-in_err-refuse-clause-below : goal.returns-in_err-refuse-clause-below
returns-in_err-refuse-clause-below c = IfOk-from_err c.from_residual.result _ c.from_residual.ensures.0

pub returns-in_err-refuse-clause-within : goal.returns-in_err-refuse-clause-within
returns-in_err-refuse-clause-within c = IfOk-from_err c.from_residual.result _ c.from_residual.ensures.0

pub returns-in_err-sites-clause-totals : goal.returns-in_err-sites-clause-totals
returns-in_err-sites-clause-totals c = IfOk-from_err c.from_residual-in_err-sites.result _ c.from_residual-in_err-sites.ensures.0

pub returns-in_err-sites-clause-globals : goal.returns-in_err-sites-clause-globals
returns-in_err-sites-clause-globals c = IfOk-from_err c.from_residual-in_err-sites.result _ c.from_residual-in_err-sites.ensures.0

pub returns-in_err-sites-clause-sites : goal.returns-in_err-sites-clause-sites
returns-in_err-sites-clause-sites c = IfOk-from_err c.from_residual-in_err-sites.result _ c.from_residual-in_err-sites.ensures.0

pub returns-in_err-sites-clause-below : goal.returns-in_err-sites-clause-below
returns-in_err-sites-clause-below c = IfOk-from_err c.from_residual-in_err-sites.result _ c.from_residual-in_err-sites.ensures.0

pub returns-in_err-sites-clause-within : goal.returns-in_err-sites-clause-within
returns-in_err-sites-clause-within c = IfOk-from_err c.from_residual-in_err-sites.result _ c.from_residual-in_err-sites.ensures.0

pub returns-in_err-name-clause-totals : goal.returns-in_err-name-clause-totals
returns-in_err-name-clause-totals c = IfOk-from_err c.from_residual-in_err-name.result _ c.from_residual-in_err-name.ensures.0

pub returns-in_err-name-clause-globals : goal.returns-in_err-name-clause-globals
returns-in_err-name-clause-globals c = IfOk-from_err c.from_residual-in_err-name.result _ c.from_residual-in_err-name.ensures.0

pub returns-in_err-name-clause-sites : goal.returns-in_err-name-clause-sites
returns-in_err-name-clause-sites c = IfOk-from_err c.from_residual-in_err-name.result _ c.from_residual-in_err-name.ensures.0

pub returns-in_err-name-clause-below : goal.returns-in_err-name-clause-below
returns-in_err-name-clause-below c = IfOk-from_err c.from_residual-in_err-name.result _ c.from_residual-in_err-name.ensures.0

pub returns-in_err-name-clause-within : goal.returns-in_err-name-clause-within
returns-in_err-name-clause-within c = IfOk-from_err c.from_residual-in_err-name.result _ c.from_residual-in_err-name.ensures.0

pub returns-in_err-refuse-2-clause-totals : goal.returns-in_err-refuse-2-clause-totals
returns-in_err-refuse-2-clause-totals c = IfOk-from_err c.from_residual-in_err-refuse-2.result _ c.from_residual-in_err-refuse-2.ensures.0

pub returns-in_err-refuse-2-clause-globals : goal.returns-in_err-refuse-2-clause-globals
returns-in_err-refuse-2-clause-globals c = IfOk-from_err c.from_residual-in_err-refuse-2.result _ c.from_residual-in_err-refuse-2.ensures.0

pub returns-in_err-refuse-2-clause-sites : goal.returns-in_err-refuse-2-clause-sites
returns-in_err-refuse-2-clause-sites c = IfOk-from_err c.from_residual-in_err-refuse-2.result _ c.from_residual-in_err-refuse-2.ensures.0

pub returns-in_err-refuse-2-clause-below : goal.returns-in_err-refuse-2-clause-below
returns-in_err-refuse-2-clause-below c = IfOk-from_err c.from_residual-in_err-refuse-2.result _ c.from_residual-in_err-refuse-2.ensures.0

pub returns-in_err-refuse-2-clause-within : goal.returns-in_err-refuse-2-clause-within
returns-in_err-refuse-2-clause-within c = IfOk-from_err c.from_residual-in_err-refuse-2.result _ c.from_residual-in_err-refuse-2.ensures.0

pub returns-in_err-put_moved-clause-totals : goal.returns-in_err-put_moved-clause-totals
returns-in_err-put_moved-clause-totals c =
    IfOk-from_err c.from_residual-in_err-put_moved.result _ c.from_residual-in_err-put_moved.ensures.0

pub returns-in_err-put_moved-clause-globals : goal.returns-in_err-put_moved-clause-globals
returns-in_err-put_moved-clause-globals c =
    IfOk-from_err c.from_residual-in_err-put_moved.result _ c.from_residual-in_err-put_moved.ensures.0

pub returns-in_err-put_moved-clause-sites : goal.returns-in_err-put_moved-clause-sites
returns-in_err-put_moved-clause-sites c = IfOk-from_err c.from_residual-in_err-put_moved.result _ c.from_residual-in_err-put_moved.ensures.0

pub returns-in_err-put_moved-clause-below : goal.returns-in_err-put_moved-clause-below
returns-in_err-put_moved-clause-below c = IfOk-from_err c.from_residual-in_err-put_moved.result _ c.from_residual-in_err-put_moved.ensures.0

pub returns-in_err-put_moved-clause-within : goal.returns-in_err-put_moved-clause-within
returns-in_err-put_moved-clause-within c =
    IfOk-from_err c.from_residual-in_err-put_moved.result _ c.from_residual-in_err-put_moved.ensures.0

pub placed_sites-requires-clause-short : goal.placed_sites-requires-clause-short
placed_sites-requires-clause-short c = c.requires.linkable.sites

pub placed_sites-requires-clause-within : goal.placed_sites-requires-clause-within
placed_sites-requires-clause-within c = c.requires.within

pub placed_sites-requires-clause-room : goal.placed_sites-requires-clause-room
placed_sites-requires-clause-room c =
    let room = subst (λ (cause : Option LinkCause). IfNone cause (HasRoom c.args.all.now.totals c.args.object.now))
    (cause_none c.args.number c.size_cause.result c.in_ok-refuse.ensures) c.size_cause.ensures.room in
    room.text

pub returns-in_err-name-clause-exact : goal.returns-in_err-name-clause-exact
returns-in_err-name-clause-exact c =
    gives_err (λ x. tt {0}) c.from_residual-in_err-name.result Memory _ c.from_residual-in_err-name.ensures.1 tt

pub returns-in_err-put_moved-clause-exact : goal.returns-in_err-put_moved-clause-exact
returns-in_err-put_moved-clause-exact c =
    gives_err (λ x. tt {0}) c.from_residual-in_err-put_moved.result Memory _ c.from_residual-in_err-put_moved.ensures.1 tt

pub overflow_cast-all : goal.overflow_cast-all
overflow_cast-all c = omega (arith, c.requires.within.text)

pub put_moved-requires : goal.put_moved-requires
put_moved-requires c = λ k d lt.
    let room = subst (λ (cause : Option LinkCause). IfNone cause (HasRoom c.args.all.now.totals c.args.object.now))
    (cause_none c.args.number c.size_cause.result c.in_ok-refuse.ensures) c.size_cause.ensures.room in
    let list : c.deref-2.result.now ≡ c.in_ok-sites.sites.list =
    c.deref-2.ensures.value ∙ ap (λ (s : SitesParts). s.list) c.sites.view_is in
    let below = subst (λ (ss : List Site). All (λ s. s.at + s.total ≤ length c.args.object.now.text) ss) (sym list)
    c.in_ok-sites.ensures.below.below in
    omega (arith, below k d lt, room.text)

pub with_object-all-requires-clause-within : goal.with_object-all-requires-clause-within
with_object-all-requires-clause-within c = c.requires.within

pub with_object-all-requires-clause-room : goal.with_object-all-requires-clause-room
with_object-all-requires-clause-room c =
    subst (λ (cause : Option LinkCause). IfNone cause (HasRoom c.args.all.now.totals c.args.object.now))
    (cause_none c.args.number c.size_cause.result c.in_ok-refuse.ensures) c.size_cause.ensures.room

pub returns-clause-totals : goal.returns-clause-totals
returns-clause-totals c = c.with_object-all.ensures.sums

pub returns-clause-globals : goal.returns-clause-globals
returns-clause-globals c =
    let symbols : c.deref.result.now ≡ c.args.object.now.symbols =
    c.deref.ensures.value ∙ ap (λ (o : ObjectParts). o.symbols) c.object.view_is in
    let none =
    name_none c.in_ok-name.name (sym c.doubled_cause.ensures ∙ cause_none c.args.number c.doubled_cause.result c.in_ok-refuse-2.ensures) in
    c.in_ok-name.ensures.added none
    ∙ ap (λ (ss : List Symbol). c.args.all.now.globals ++ map (λ s. (s.name, target c.args.number s)) (filter is_exported ss)) symbols

pub returns-clause-within : goal.returns-clause-within
returns-clause-within c = c.with_object-all.ensures.within
