-- A step that the host has no part in counts nothing.
use Rattle.std.proofs.Common.{◌≡◌, ◌⊎◌, inl, inr, ℕ, ◌+◌, ◌-◌, ◌*◌, ◌%◌, ◌^◌, ◌≤◌, ◌==◌, Bool, true, false, cond, not, ◌&&◌, ◌||◌, refl, sym, ap, ◌∙◌, List, [], ◌∷◌, ◌++◌, length, Option, Some, None, Ok, Err, is_some, is_none, nat_le, nat_lt, arith}
use Rattle.std.proofs.lemmas.Bool.{and_from, and_parts, le-leb, leb-true, lt-leb, lt-ltb, ltb-false, ltb-true}
use Rattle.std.specs.List.{find}
use Rattle.guest_ram.specs.Among.{is_among}
use Rattle.sites.specs.declared.site.Site.{Site}
use Rattle.image_check.specs.Standing.{lies_in, site_at, by_site, place_at}
use Rattle.image_check.specs.Places as places
use Rattle.image_check.specs.declared.place.AtOffset.TheVariants.{NotAStart}
use Rattle.paging.specs.Space.{Mode}
use Rattle.machine_model.specs.State.{Setting, State, wedge_mode}
use Rattle.machine_model.specs.Fit.{IsLevel}
use Rattle.machine_model.specs.Rules.{is_start, may_begin, stands_well}
use Rattle.image_check.specs.Places.{is_site_at}
use Rattle.machine_model.specs.Counts.{direct_in, direct_addresses, passed_on}
use Rattle.machine_model.specs.Step.{Report, Went, interrupt_of, stepped}
use Rattle.machine_model.specs.Alone.{StepsAreDone, WaitsCountNothing, SitesCountNothing}
use Rattle.wedge_core.specs.AloneLaws.{AlonesGo}
use Rattle.wedge_step.specs.Parts.{left_of}
use Rattle.machine_model.specs.Run.{with_set}
use Rattle.machine_model.proofs.CountingNone.{never}
use Rattle.wedge_core.specs.Slices.{Counts, CountsOn}
use Rattle.wedge_core.specs.Views.{is_outside, may_run}
use Rattle.wedge_step.proofs.Bools.{clash, and_false, or_true}

pub none_counts : (m : Setting) (r : Report) (counts : Counts) → direct_in m.image.sites r.completed ≡ []
    → CountsOn m (r ∷ []) counts counts
none_counts m r counts e =
    let f : direct_addresses m.image.sites (r ∷ []) ≡ [] = ap (λ (l : List ℕ). l ++ []) e in
    let g : length (direct_addresses m.image.sites (r ∷ [])) ≡ 0 = ap (λ (l : List ℕ). length l) f in
    record { retired = omega (arith, g); passed = sym (ap (passed_on counts.passed) f) }

pub one_counts : (m : Setting) (r : Report) (counts : Counts) (eip : ℕ) → direct_in m.image.sites r.completed ≡ eip ∷ []
    → CountsOn m (r ∷ []) counts (record { retired = counts.retired + 1; passed = (31 * counts.passed + eip) % 2 ^ 64 })
one_counts m r counts eip e =
    let f : direct_addresses m.image.sites (r ∷ []) ≡ eip ∷ [] = ap (λ (l : List ℕ). l ++ []) e in
    record { retired = ap (λ (l : List ℕ). counts.retired + length l) (sym f); passed = sym (ap (passed_on counts.passed) f) }

-- ---- where the host may not run

by_parts : (halted none user out : Bool) → ((not halted && none) && (user || out)) ≡ false → (halted ≡ true)
    ⊎ ((none ≡ false) ⊎ ((user ≡ false) × (out ≡ false)))
by_parts true none user out e = inl refl
by_parts false false user out e = inr (inl refl)
by_parts false true true out e = absurd (let f : true ≡ false = e in cc)
by_parts false true false out e = inr (inr (refl, e))

some_of : {A : Type 0} (o : Option A) → is_none o ≡ false → is_some o ≡ true
some_of None e = absurd (let f : true ≡ false = e in cc)
some_of (Some x) e = refl

placed : (low start : Bool) (site : Option Site) → is_outside (cond low NotAStart (cond start (by_site site) NotAStart)) ≡ false
    → (low ≡ true) ⊎ ((start ≡ false) ⊎ ((low ≡ false) × ((s : Site) × (site ≡ Some s))))
placed true start site e = inl refl
placed false false site e = inr (inl refl)
placed false true None e = absurd (let f : true ≡ false = e in cc)
placed false true (Some s) e = inr (inr (refl, (s, refl)))

not_above : (eip : ℕ) → nat_lt eip 0x10000000 ≡ true → nat_le 0x10000000 eip ≡ false
not_above eip e = lt-leb 0x10000000 eip (ltb-true eip 0x10000000 e)

not_below : (eip : ℕ) → nat_lt eip 0x10000000 ≡ false → 0x10000000 ≤ eip
not_below eip e = ltb-false eip 0x10000000 e

-- ---- a start

no_start : (text : List ℕ) (m : Setting) (eip : ℕ) → text ≡ m.image.text → places.is_start text (eip - 0x10000000) ≡ false
    → is_start m.image eip ≡ false
unfolding places.is_start
no_start text m eip is e =
    ap (λ x. nat_le 0x10000000 eip && x) (ap (λ t. is_among (eip - 0x10000000) (Rattle.image_check.specs.Sweep.starts_of t)) (sym is) ∙ e)
    ∙ and_false (nat_le 0x10000000 eip)

no_stand : (m : Setting) (b : State) → m.mode ≡ wedge_mode m.image → b.cpu.cpl ≡ 0 → is_start m.image b.cpu.regs.eip ≡ false
    → stands_well m b.cpu ≡ false
no_stand m b mode level e =
    ap (λ (x : Mode). may_begin x m.image b.cpu.regs.eip || not (b.cpu.cpl == 0)) mode
    ∙ (ap (λ (x : Bool). x || not (b.cpu.cpl == 0)) e ∙ ap (λ (x : ℕ). not (x == 0)) level)

-- ---- a site

lies : (s : Site) (eip : ℕ) → 0x10000000 ≤ eip → lies_in (eip - 0x10000000) s ≡ true
    → (nat_le (0x10000000 + s.at) eip && nat_lt eip (0x10000000 + s.at + s.total)) ≡ true
lies s eip above e =
    let tests = and_parts (nat_le s.at (eip - 0x10000000)) (nat_lt (eip - 0x10000000) (s.at + s.total)) e in
    let from = leb-true s.at (eip - 0x10000000) tests.0 in
    let to = ltb-true (eip - 0x10000000) (s.at + s.total) tests.1 in
    and_from (nat_le (0x10000000 + s.at) eip) (nat_lt eip (0x10000000 + s.at + s.total))
    (le-leb (0x10000000 + s.at) eip (omega (arith, above, from))) (lt-ltb eip (0x10000000 + s.at + s.total) (omega (arith, above, to)))

in_some : (sites : List Site) (eip : ℕ) (s : Site) → 0x10000000 ≤ eip → find (lies_in (eip - 0x10000000)) sites ≡ Some s
    → is_site_at sites eip ≡ true
in_some [] eip s above e = absurd (let f : ◌≡◌ {A = Option Site} None (Some s) = e in cc)
in_some (t ∷ ts) eip s above e = by_test (lies_in (eip - 0x10000000) t) refl e (in_some ts eip s above)
  where
    by_test : (c : Bool) → lies_in (eip - 0x10000000) t ≡ c
        → cond {A = Option Site} c (Some t) (find (lies_in (eip - 0x10000000)) ts) ≡ Some s
        → (find (lies_in (eip - 0x10000000)) ts ≡ Some s → is_site_at ts eip ≡ true) → is_site_at (t ∷ ts) eip ≡ true
    by_test true is g h = ap (λ (x : Bool). x || is_site_at ts eip) (lies t eip above is)
    by_test false is g h = ap (λ (x : Bool). (nat_le (0x10000000 + t.at) eip && nat_lt eip (0x10000000 + t.at + t.total)) || x) (h g)
        ∙ or_true (nat_le (0x10000000 + t.at) eip && nat_lt eip (0x10000000 + t.at + t.total))

inside : (sites : List Site) (eip : ℕ) (s : Site) → 0x10000000 ≤ eip → site_at sites (eip - 0x10000000) ≡ Some s
    → is_site_at sites eip ≡ true
unfolding site_at
inside sites eip s above e = in_some sites eip s above e

-- ---- one step

level_0 : (cpl : ℕ) → IsLevel cpl → (cpl == 3) ≡ false → cpl ≡ 0
level_0 cpl (inl z) e = z
level_0 cpl (inr u) e = absurd (clash (cpl == 3) (ap (λ x. x == 3) u) e)

module _ (done : StepsAreDone) (waits : WaitsCountNothing) (sites : SitesCountNothing) (m : Setting) (b : State) (report : Report)
    (after : State) (went : stepped m b ≡ Went report after) where
  waiting : (b.cpu.halted ≡ true) ⊎ (is_some (interrupt_of b.cpu b.board) ≡ true) → direct_in m.image.sites report.completed ≡ []
  waiting h = ap (direct_in m.image.sites) (waits m b report after h went)

  unstarted : stands_well m b.cpu ≡ false → direct_in m.image.sites report.completed ≡ []
  unstarted e =
      ap (direct_in m.image.sites)
      (never report.completed (λ c is. let d = done m b report after went c is in clash (stands_well m b.cpu) d.stands e))

  at_0 : m.mode ≡ wedge_mode m.image → IsLevel b.cpu.cpl → (b.cpu.cpl == 3) ≡ false → is_outside (place_at m.image b.cpu.regs.eip) ≡ false
      → direct_in m.image.sites report.completed ≡ []
  unfolding places.is_start
  at_0 mode level kernel out =
      let eip = b.cpu.regs.eip in
      let zero = level_0 b.cpu.cpl level kernel in
      elim (placed (nat_lt eip 0x10000000) (places.is_start m.image.text (eip - 0x10000000))
      (site_at m.image.sites (eip - 0x10000000)) out) [
        | inl low ↦ unstarted (no_stand m b mode zero
            (ap (λ (x : Bool). x && is_among (eip - 0x10000000) (Rattle.image_check.specs.Sweep.starts_of m.image.text))
            (not_above eip low)))
        | inr h ↦ elim h [
          | inl start ↦ unstarted (no_stand m b mode zero (no_start m.image.text m eip refl start))
          | inr k ↦ sites m b report after m.image.sites kernel (inside m.image.sites eip k.1.0 (not_below eip k.0) k.1.1) went
        ]
      ]

  pub none_direct : m.mode ≡ wedge_mode m.image → IsLevel b.cpu.cpl → may_run b.cpu b.board m.image ≡ false
      → direct_in m.image.sites report.completed ≡ []
  none_direct mode level may =
      elim (by_parts b.cpu.halted (is_none (interrupt_of b.cpu b.board)) (b.cpu.cpl == 3)
      (is_outside (place_at m.image b.cpu.regs.eip)) may) [
        | inl halted ↦ waiting (inl halted)
        | inr h ↦ elim h [
          | inl takes ↦ waiting (inr (some_of (interrupt_of b.cpu b.board) takes))
          | inr k ↦ at_0 mode level k.0 k.1
        ]
      ]

-- where nothing was dropped before it
by_all : (m : Setting) (b : State) (before : Bool) → before ≡ false → stepped m (with_set b (left_of before b.set)) ≡ stepped m b
by_all m b before nothing = ap (λ (x : Bool). stepped m (with_set b (left_of x b.set))) nothing

pub each_goes : StepsAreDone → WaitsCountNothing → SitesCountNothing → AlonesGo
each_goes done waits sites m b lost (Ok seen) new counts mode level may nothing a =
    record {
      report = a.report;
      whole = a.whole;
      went = by_all m b lost.before nothing ∙ a.went;
      kept = a.kept;
      items = a.items;
      counts = none_counts m a.report counts (none_direct done waits sites m b a.report (with_set new a.whole) a.went mode level may);
    }
each_goes done waits sites m b lost (Err stop) new counts mode level may nothing a = record { halts = by_all m b lost.before nothing ∙ a }
