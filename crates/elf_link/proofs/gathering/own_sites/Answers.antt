use Rattle.std.proofs.Common.{◌≡◌, ℕ, ◌+◌, ◌<◌, ◌≤◌, ◌||◌, Bool, true, false, cond, List, length, Result, Ok, Err, lt-ltb, le-ltb, sym, ap, ◌∙◌, arith, [], ◌∷◌, zero, suc, ltb-false}
use Rattle.std.specs.Prelude.{All, nat_lt}
use Rattle.std.specs.List.{list_any}
use Rattle.std.proofs.lemmas.Bool.{or_parts}
use Rattle.std.proofs.Math.Bool.{or-true}
use Rattle.elf_form.specs.ObjectParts.{ObjectParts}
use Rattle.sites.specs.SitesParts.{SitesParts}
use Rattle.sites.specs.declared.site.Site.{Site}
use Rattle.sites.specs.declared.limits.TheConstants.{SITE_LIMIT}
use Rattle.sites.specs.Formats.{sites_in}
use Rattle.elf_link.specs.declared.fault.LinkCause.TheVariants.{SitesForm}
use Rattle.elf_link.specs.Sites.{misplaced, or_none, sites_of}
use Rattle.elf_link.specs.Refusals.{Refused}
use Rattle.elf_link.specs.Steps.{own_sites, own_sites_wrong}
use Rattle.elf_link.proofs.gathering.own_sites.Goals as goal
use Rattle.elf_link.proofs.gathering.own_sites.Goals.{then-pass_end-via-then-pass_end, then-pass_end-via-else-pass_end+then-before-len-gt-SITE_LIMIT}

refuses : (i before : ℕ) (o : ObjectParts) → own_sites_wrong before o ≡ true
    → own_sites i before o ≡ Err (record { object = i; cause = SitesForm })
unfolding own_sites
refuses i before o e =
    ap (λ (b : Bool). cond {A = Result (List Site) Refused} b (Err (record { object = i; cause = SitesForm })) (Ok (sites_of o))) e

malformed : (before : ℕ) (o : ObjectParts) (at : ℕ) → sites_in o.sites ≡ Err at → own_sites_wrong before o ≡ true
malformed before o at e =
    ap (λ (r : Result SitesParts ℕ). misplaced (length o.text) r || nat_lt SITE_LIMIT (before + length (sites_of o))) e

passing : (o : ObjectParts) (sites : SitesParts) (text : ℕ) (list : List Site) → sites_in o.sites ≡ Ok sites → text ≡ length o.text
    → list ≡ sites.list → misplaced (length o.text) (sites_in o.sites) ≡ list_any (λ s. nat_lt text (s.at + s.total)) list
passing o sites text list read e f = ap (misplaced (length o.text)) read ∙ sym (λ j. list_any (λ s. nat_lt (e j) (s.at + s.total)) (f j))

listed : (o : ObjectParts) (sites : SitesParts) → sites_in o.sites ≡ Ok sites → sites_of o ≡ sites.list
unfolding sites_of
listed o sites read = ap or_none read

too_many : (before : ℕ) (o : ObjectParts) (sites : SitesParts) → sites_in o.sites ≡ Ok sites → SITE_LIMIT < before + length sites.list
    → own_sites_wrong before o ≡ true
too_many before o sites read over =
    ap (λ (b : Bool). misplaced (length o.text) (sites_in o.sites) || b)
    (ap (λ (ss : List Site). nat_lt SITE_LIMIT (before + length ss)) (listed o sites read) ∙ lt-ltb SITE_LIMIT (before + length sites.list)
    over) ∙ or-true (misplaced (length o.text) (sites_in o.sites))

keeps : (i before : ℕ) (o : ObjectParts) (sites : SitesParts) → sites_in o.sites ≡ Ok sites
    → misplaced (length o.text) (sites_in o.sites) ≡ false → before + length sites.list ≤ SITE_LIMIT → own_sites i before o ≡ Ok sites.list
unfolding own_sites
keeps i before o sites read placed few =
    let below : nat_lt SITE_LIMIT (before + length (sites_of o)) ≡ false = ap (λ (ss : List Site). nat_lt SITE_LIMIT (before + length ss))
    (listed o sites read) ∙ le-ltb SITE_LIMIT (before + length sites.list) few in
    (λ j. cond {A = Result (List Site) Refused} (placed j || below j) (Err (record { object = i; cause = SitesForm })) (Ok (sites_of o)))
    ∙ ap Ok (listed o sites read)

passed : (test : Site → Bool) (sites : List Site) → list_any test sites ≡ false → All (λ s. test s ≡ false) sites
passed test [] e k d lt = absurd (omega arith)
passed test (s ∷ sites) e zero d lt = (or_parts (test s) (list_any test sites) e).0
passed test (s ∷ sites) e (suc k) d lt = passed test sites (or_parts (test s) (list_any test sites) e).1 k d (omega arith)

placed_below : (o : ObjectParts) (sites : SitesParts) → sites_in o.sites ≡ Ok sites → misplaced (length o.text) (sites_in o.sites) ≡ false
    → All (λ s. s.at + s.total ≤ length o.text) sites.list
placed_below o sites read placed k d lt =
    ltb-false _ _ (passed (λ s. nat_lt (length o.text) (s.at + s.total)) sites.list
    (sym (ap (misplaced (length o.text)) read) ∙ placed) k d lt)

pub read_sites-requires : goal.read_sites-requires
read_sites-requires c = let e =
    c.deref.ensures.value ∙ ap (λ (o : ObjectParts). o.sites) c.object.view_is in omega (arith, ap length e, c.requires.short)

pub returns-in-Err-Form-clause-exact : goal.returns-in-Err-Form-clause-exact
returns-in-Err-Form-clause-exact c =
    let e : c.deref.result.now ≡ c.args.object.now.sites = c.deref.ensures.value ∙ ap (λ (o : ObjectParts). o.sites) c.object.view_is in
    let read = rw c.in-Err-Form.field-0-is at c.in-Err-Form.ensures.exact in
    refuses c.args.number c.args.before c.args.object.now
    (malformed c.args.before c.args.object.now c.in-Err-Form.field-0-0 (ap sites_in (sym e) ∙ read))

pub returns-then-pass_end-clause-exact : goal.returns-then-pass_end-clause-exact
returns-then-pass_end-clause-exact c =
    let o = c.args.object.now in
    let bytes : c.deref.result.now ≡ o.sites = c.deref.ensures.value ∙ ap (λ (x : ObjectParts). x.sites) c.object.view_is in
    let read : sites_in o.sites ≡ Ok c.in-Ok.sites = ap sites_in (sym bytes) ∙ c.in-Ok.ensures.exact in
    elim c.then-pass_end.branch [
      | then-pass_end-via-then-pass_end w ↦
          let text : c.len.result ≡ length o.text =
          omega (arith, c.len.ensures, c.object.inside.text.ok, ap (λ (x : ObjectParts). length x.text) c.object.view_is) in
          let list : c.deref-2.result.now ≡ c.in-Ok.sites.list =
          c.deref-2.ensures.value ∙ ap (λ (x : SitesParts). x.list) c.sites.view_is in
          refuses c.args.number c.args.before o
          (ap (λ (b : Bool). b || nat_lt SITE_LIMIT (c.args.before + length (sites_of o)))
          (passing o c.in-Ok.sites c.len.result c.deref-2.result.now read text list ∙ (sym c.pass_end.ensures ∙ w.if-pass_end.true)))
      | then-pass_end-via-else-pass_end+then-before-len-gt-SITE_LIMIT w ↦
          let count : w.len-else-pass_end.result ≡ length c.in-Ok.sites.list =
          omega (arith, w.len-else-pass_end.ensures, c.sites.inside.list.ok, ap (λ (x : SitesParts). length x.list) c.sites.view_is) in
          let over = w.if-before-len-gt-SITE_LIMIT.true in
          refuses c.args.number c.args.before o (too_many c.args.before o c.in-Ok.sites read (omega (arith, count, over)))
    ]

pub returns-clause-exact : goal.returns-clause-exact
returns-clause-exact c =
    let o = c.args.object.now in
    let bytes : c.deref.result.now ≡ o.sites = c.deref.ensures.value ∙ ap (λ (x : ObjectParts). x.sites) c.object.view_is in
    let read : sites_in o.sites ≡ Ok c.in-Ok.sites = ap sites_in (sym bytes) ∙ c.in-Ok.ensures.exact in
    let text : c.len.result ≡ length o.text =
    omega (arith, c.len.ensures, c.object.inside.text.ok, ap (λ (x : ObjectParts). length x.text) c.object.view_is) in
    let list : c.deref-2.result.now ≡ c.in-Ok.sites.list = c.deref-2.ensures.value ∙ ap (λ (x : SitesParts). x.list) c.sites.view_is in
    let count : c.len-else-pass_end.result ≡ length c.in-Ok.sites.list =
    omega (arith, c.len-else-pass_end.ensures, c.sites.inside.list.ok, ap (λ (x : SitesParts). length x.list) c.sites.view_is) in
    let within = c.if-before-len-gt-SITE_LIMIT.false in
    keeps c.args.number c.args.before o c.in-Ok.sites read
    (passing o c.in-Ok.sites c.len.result c.deref-2.result.now read text list ∙ (sym c.pass_end.ensures ∙ c.if-pass_end.false))
    (omega (arith, count, within))

pub returns-clause-few : goal.returns-clause-few
returns-clause-few c =
    let count : c.len-else-pass_end.result ≡ length c.in-Ok.sites.list =
    omega (arith, c.len-else-pass_end.ensures, c.sites.inside.list.ok, ap (λ (x : SitesParts). length x.list) c.sites.view_is) in
    let within = c.if-before-len-gt-SITE_LIMIT.false in
    omega (arith, count, within)

pub returns-clause-below : goal.returns-clause-below
returns-clause-below c =
    let o = c.args.object.now in
    let bytes : c.deref.result.now ≡ o.sites = c.deref.ensures.value ∙ ap (λ (x : ObjectParts). x.sites) c.object.view_is in
    let read : sites_in o.sites ≡ Ok c.in-Ok.sites = ap sites_in (sym bytes) ∙ c.in-Ok.ensures.exact in
    let text : c.len.result ≡ length o.text =
    omega (arith, c.len.ensures, c.object.inside.text.ok, ap (λ (x : ObjectParts). length x.text) c.object.view_is) in
    let list : c.deref-2.result.now ≡ c.in-Ok.sites.list = c.deref-2.ensures.value ∙ ap (λ (x : SitesParts). x.list) c.sites.view_is in
    record {
      form = c.in-Ok.ensures.rising;
      below = placed_below o c.in-Ok.sites read
          (passing o c.in-Ok.sites c.len.result c.deref-2.result.now read text list ∙ (sym c.pass_end.ensures ∙ c.if-pass_end.false));
    }
