-- One object tested.
use Rattle.std.proofs.Common.{◌≡◌, ℕ, Bool, true, false, cond, List, Option, Some, None, Result, Ok, Err, IsErrAnd, refl, ap, sym, ◌∙◌, subst}
use Rattle.std.specs.Bool.{then_some}
use Rattle.std.specs.Option.{option_or}
use Rattle.elf_form.specs.ObjectParts.{ObjectParts}
use Rattle.sites.specs.declared.site.Site.{Site}
use Rattle.elf_link.specs.declared.target.Target.{Target}
use Rattle.elf_link.specs.declared.totals.Totals.{Totals}
use Rattle.elf_link.specs.declared.fault.LinkCause.{LinkCause}
use Rattle.elf_link.specs.declared.fault.LinkCause.TheVariants.{SitesForm}
use Rattle.elf_link.specs.declared.fault.LinkFault.{LinkFault}
use Rattle.elf_link.specs.declared.fault.LinkFault.TheVariants as faults
use Rattle.elf_link.specs.Sites.{sites_of}
use Rattle.elf_link.specs.Refusals.{Refused, refused, first_doubled, exported_names, doubled_cause}
use Rattle.elf_link.specs.Steps.{size_cause, sites_wrong_by, placed_sites, step_cause, tested}
use Rattle.elf_link.specs.Answers.{Fails, Gives}
use Rattle.elf_link.proofs.ExportLaws.{keys}

pub gives_err : {X Y : Type 0} (view : X → Y) (r : Result X LinkFault) (e : LinkFault) (wanted : Result Y Refused) → IsErrAnd r (λ d. d ≡ e)
    → Fails e wanted → Gives view r wanted
gives_err view (Ok x) e wanted is fails = absurd is
gives_err {X} {Y} view (Err d) e wanted is fails = subst (λ (f : LinkFault). Fails f wanted) (sym is) fails

pub cause_none : (n : ℕ) (cause : Option LinkCause) → tested (refused n cause) ≡ Ok tt → cause ≡ None
cause_none n None h = refl
cause_none n (Some cause) h = absurd (cc)

pub name_none : (name : Option (List ℕ)) → doubled_cause name ≡ None → name ≡ None
name_none None h = refl
name_none (Some name) h = absurd (cc)

pub size_fail : (n : ℕ) (t : Totals) (before : List Site) (gs : List (List ℕ × Target)) (o : ObjectParts) (e : LinkFault)
    (cause : Option LinkCause) → cause ≡ size_cause t o → Fails e (tested (refused n cause))
    → Fails e (tested (refused n (step_cause t before gs (n, o))))
unfolding step_cause
size_fail n t before gs o faults.Memory cause is h = tt
size_fail n t before gs o (faults.At object other) None is h = absurd (cc)
size_fail n t before gs o (faults.At object other) (Some cause) is h =
    subst (λ (c : Option LinkCause). tested
    (refused n (option_or c
    (option_or (then_some (sites_wrong_by t before o) SitesForm) (doubled_cause (first_doubled (keys gs) (exported_names (n, o))))))) ≡ Err
    (record { object = object; cause = other })) is h

module _ (n : ℕ) (t : Totals) (before : List Site) (gs : List (List ℕ × Target)) (o : ObjectParts) (none : size_cause t o ≡ None) where
  own : Option LinkCause
  own = doubled_cause (first_doubled (keys gs) (exported_names (n, o)))

  step_at : (b : Bool) → sites_wrong_by t before o ≡ b → step_cause t before gs (n, o) ≡ option_or (then_some b SitesForm) own
  unfolding step_cause own
  step_at b e =
      ap (λ (c : Option LinkCause). option_or c
      (option_or (then_some (sites_wrong_by t before o) SitesForm) (doubled_cause (first_doubled (keys gs) (exported_names (n, o)))))) none
      ∙ ap (λ (x : Bool). option_or (then_some x SitesForm) (doubled_cause (first_doubled (keys gs) (exported_names (n, o))))) e

  pub sites_fail : (e : LinkFault) → Fails e (placed_sites n t before o) → Fails e (tested (refused n (step_cause t before gs (n, o))))
  unfolding placed_sites
  sites_fail faults.Memory h = tt
  sites_fail (faults.At object cause) h = by (sites_wrong_by t before o) refl h where
    by : (b : Bool) → sites_wrong_by t before o ≡ b
        → Fails (faults.At object cause) (cond {A = Result (List Site) Refused} b (Err (record { object = n; cause = SitesForm }))
        (Ok (sites_of o))) → tested (refused n (step_cause t before gs (n, o))) ≡ Err (record { object = object; cause = cause })
    by true e h = ap (λ (c : Option LinkCause). tested (refused n c)) (step_at true e) ∙ cc
    by false e h = absurd (cc)

  pub step_after : (sites : List Site) → placed_sites n t before o ≡ Ok sites
      → step_cause t before gs (n, o) ≡ doubled_cause (first_doubled (keys gs) (exported_names (n, o)))
  unfolding placed_sites own
  step_after sites h = by (sites_wrong_by t before o) refl h where
    by : (b : Bool) → sites_wrong_by t before o ≡ b
        → ◌≡◌ {A = Result (List Site) Refused} (cond {A = Result (List Site) Refused} b (Err (record { object = n; cause = SitesForm }))
        (Ok (sites_of o))) (Ok sites) → step_cause t before gs (n, o) ≡ doubled_cause (first_doubled (keys gs) (exported_names (n, o)))
    by true e h = absurd (cc)
    by false e h = step_at false e

  pub placed_is : (sites : List Site) → placed_sites n t before o ≡ Ok sites → sites ≡ sites_of o
  unfolding placed_sites
  placed_is sites h = by (sites_wrong_by t before o) h where
    by : (b : Bool) → ◌≡◌ {A = Result (List Site) Refused}
        (cond {A = Result (List Site) Refused} b (Err (record { object = n; cause = SitesForm })) (Ok (sites_of o))) (Ok sites)
        → sites ≡ sites_of o
    by true h = absurd (cc)
    by false h = cc

  pub doubled_fail : (e : LinkFault) (cause : Option LinkCause) (sites : List Site) → placed_sites n t before o ≡ Ok sites
      → cause ≡ doubled_cause (first_doubled (keys gs) (exported_names (n, o))) → Fails e (tested (refused n cause))
      → Fails e (tested (refused n (step_cause t before gs (n, o))))
  doubled_fail e cause sites placed is h =
      subst (λ (c : Option LinkCause). Fails e (tested (refused n c))) (is ∙ sym (step_after sites placed)) h
