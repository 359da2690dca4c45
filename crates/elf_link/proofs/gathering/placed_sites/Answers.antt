use Rattle.std.proofs.Common.{◌≡◌, ℕ, ◌||◌, Bool, true, false, cond, List, length, Result, Ok, Err, refl, sym, ap, ◌∙◌, subst}
use Rattle.std.proofs.lemmas.Result.{IfOk-from_err}
use Rattle.elf_form.specs.ObjectParts.{ObjectParts}
use Rattle.sites.specs.SitesParts.{SitesParts}
use Rattle.sites.specs.declared.site.Site.{Site}
use Rattle.elf_link.specs.declared.fault.LinkCause.TheVariants.{SitesForm}
use Rattle.elf_link.specs.declared.fault.LinkFault.{LinkFault}
use Rattle.elf_link.specs.declared.fault.LinkFault.TheVariants as faults
use Rattle.elf_link.specs.declared.totals.Totals.{Totals}
use Rattle.elf_link.specs.Answers.{Fails}
use Rattle.elf_link.specs.Refusals.{Refused}
use Rattle.elf_link.specs.Sites.{sites_of}
use Rattle.elf_link.specs.Steps.{AreBelow, is_crowded, own_sites, own_sites_wrong, placed_sites, sites_wrong_by}
use Rattle.elf_link.proofs.StepLaws.{gives_err}
use Rattle.elf_link.proofs.gathering.placed_sites.Goals as goal

module _ (n : ℕ) (t : Totals) (before : List Site) (o : ObjectParts) where
  abbrev answer : Bool → Result (List Site) Refused
  answer b = cond b (Err (record { object = n; cause = SitesForm })) (Ok (sites_of o))

  own_fails : (e : LinkFault) → Fails e (own_sites n t.sites o) → Fails e (placed_sites n t before o)
  unfolding own_sites placed_sites sites_wrong_by
  own_fails faults.Memory h = tt
  own_fails (faults.At object cause) h = by (own_sites_wrong t.sites o) refl h where
    by : (b : Bool) → own_sites_wrong t.sites o ≡ b → answer b ≡ Err (record { object = object; cause = cause })
        → placed_sites n t before o ≡ Err (record { object = object; cause = cause })
    by true e h = ap (λ (b : Bool). answer (b || is_crowded t before (length o.text) (sites_of o))) e ∙ h
    by false e h = absurd (cc)

  own_right : (list : List Site) → own_sites n t.sites o ≡ Ok list → (own_sites_wrong t.sites o ≡ false) × (sites_of o ≡ list)
  unfolding own_sites
  own_right list h = by (own_sites_wrong t.sites o) refl h where
    by : (b : Bool) → own_sites_wrong t.sites o ≡ b
        → ◌≡◌ {A = Result (List Site) Refused} (cond {A = Result (List Site) Refused} b (Err (record { object = n; cause = SitesForm }))
        (Ok (sites_of o))) (Ok list) → (own_sites_wrong t.sites o ≡ false) × (sites_of o ≡ list)
    by true e h = absurd (cc)
    by false e h = (e, cc)

  placed_by : (list : List Site) (crowded : Bool) → own_sites n t.sites o ≡ Ok list → crowded ≡ is_crowded t before (length o.text) list
      → placed_sites n t before o ≡ cond {A = Result (List Site) Refused} crowded (Err (record { object = n; cause = SitesForm })) (Ok list)
  unfolding placed_sites sites_wrong_by
  placed_by list crowded h is =
      let own = own_right list h in
      (λ j. cond {A = Result (List Site) Refused} (own.0 j || is_crowded t before (length o.text) (own.1 j))
      (Err (record { object = n; cause = SitesForm })) (Ok (own.1 j)))
      ∙ ap (λ (b : Bool). cond {A = Result (List Site) Refused} b (Err (record { object = n; cause = SitesForm })) (Ok list)) (sym is)

pub own_sites-requires-clause-short : goal.own_sites-requires-clause-short
own_sites-requires-clause-short c = c.requires.short

pub own_sites-requires-clause-before : goal.own_sites-requires-clause-before
own_sites-requires-clause-before c = c.requires.within.sites

pub are_crowded-requires-clause-room : goal.are_crowded-requires-clause-room
are_crowded-requires-clause-room c = c.requires.room

pub are_crowded-requires-clause-below : goal.are_crowded-requires-clause-below
are_crowded-requires-clause-below c =
    let list : c.deref.result.now ≡ c.in_ok-sites.sites.list = c.deref.ensures.value ∙ ap (λ (s : SitesParts). s.list) c.sites.view_is in
    subst (λ (ss : List Site). AreBelow (length c.args.object.now.text) ss) (sym list) c.in_ok-sites.ensures.below

pub returns-in_err-sites-clause-exact : goal.returns-in_err-sites-clause-exact
returns-in_err-sites-clause-exact c =
    gives_err _ c.from_residual.result c.in_err-sites.field-0.0 _ c.from_residual.ensures.1
    (own_fails c.args.number c.args.all.now.totals c.args.all.now.sites.items c.args.object.now c.in_err-sites.field-0.0
    c.in_err-sites.ensures.exact)

pub returns-in_err-sites-clause-below : goal.returns-in_err-sites-clause-below
returns-in_err-sites-clause-below c = IfOk-from_err c.from_residual.result _ c.from_residual.ensures.0

pub returns-in_err-sites-clause-few : goal.returns-in_err-sites-clause-few
returns-in_err-sites-clause-few c = IfOk-from_err c.from_residual.result _ c.from_residual.ensures.0

pub returns-in_err-are_crowded-clause-exact : goal.returns-in_err-are_crowded-clause-exact
returns-in_err-are_crowded-clause-exact c =
    gives_err _ c.from_residual-in_err-are_crowded.result faults.Memory _ c.from_residual-in_err-are_crowded.ensures.1 tt

pub returns-in_err-are_crowded-clause-below : goal.returns-in_err-are_crowded-clause-below
returns-in_err-are_crowded-clause-below c =
    IfOk-from_err c.from_residual-in_err-are_crowded.result _ c.from_residual-in_err-are_crowded.ensures.0

pub returns-in_err-are_crowded-clause-few : goal.returns-in_err-are_crowded-clause-few
returns-in_err-are_crowded-clause-few c =
    IfOk-from_err c.from_residual-in_err-are_crowded.result _ c.from_residual-in_err-are_crowded.ensures.0

pub returns-then-branch-clause-exact : goal.returns-then-branch-clause-exact
returns-then-branch-clause-exact c =
    let list : c.deref.result.now ≡ c.in_ok-sites.sites.list = c.deref.ensures.value ∙ ap (λ (s : SitesParts). s.list) c.sites.view_is in
    let is = c.in_ok-are_crowded.ensures
    ∙ ap (is_crowded c.args.all.now.totals c.args.all.now.sites.items (length c.args.object.now.text)) list in
    placed_by c.args.number c.args.all.now.totals c.args.all.now.sites.items c.args.object.now c.in_ok-sites.sites.list true
    c.in_ok-sites.ensures.exact (sym c.if-branch.true ∙ is)

pub returns-clause-exact : goal.returns-clause-exact
returns-clause-exact c =
    let list : c.deref.result.now ≡ c.in_ok-sites.sites.list = c.deref.ensures.value ∙ ap (λ (s : SitesParts). s.list) c.sites.view_is in
    let is = c.in_ok-are_crowded.ensures
    ∙ ap (is_crowded c.args.all.now.totals c.args.all.now.sites.items (length c.args.object.now.text)) list in
    placed_by c.args.number c.args.all.now.totals c.args.all.now.sites.items c.args.object.now c.in_ok-sites.sites.list false
    c.in_ok-sites.ensures.exact (sym c.if-branch.false ∙ is)

pub returns-clause-below : goal.returns-clause-below
returns-clause-below c = c.in_ok-sites.ensures.below

pub returns-clause-few : goal.returns-clause-few
returns-clause-few c = c.in_ok-sites.ensures.few
