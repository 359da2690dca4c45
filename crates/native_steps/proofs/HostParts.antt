-- The parts of an instruction of the host.
use Rattle.std.proofs.Common.{◌≡◌, ℕ, ◌+◌, ◌*◌, ◌/◌, ◌%◌, ◌^◌, ◌<◌, ◌≤◌, List, ◌++◌, length, Bool, true, false, cond, not, ◌==◌, Option, Some, None, Ok, Err, refl, sym, ap, subst, ◌∙◌, inl, inr, arith}
use Rattle.std.specs.Prelude.{nat_le, nat_lt}
use Rattle.std.proofs.lemmas.Bool.{cond-true, cond-false, not-true, le-leb, lt-ltb, leb-true, eqb-true}
use Rattle.guest_ram.specs.Bytes.{part}
use Rattle.ia32_types.specs.declared.flags.Regs.{Regs}
use Rattle.ia32_types.specs.declared.insn.Insn.{Insn}
use Rattle.ia32_decode.specs.declared.answer.Decoded.{Decoded}
use Rattle.ia32_decode.specs.declared.answer.Decoded.TheVariants as begins
use Rattle.ia32_decode.specs.Decoding.{decoded}
use Rattle.ia32_decode.specs.Front.{longest, front_len}
use Rattle.ia32_exec.specs.declared.access.Range.{Range}
use Rattle.ia32_exec.specs.Effect.{ranges_of}
use Rattle.ia32_exec.specs.UserEffect.{user_effect}
use Rattle.paging.specs.declared.entry.Walk.TheVariants.{Absent}
use Rattle.paging.specs.Fresh.{fresh}
use Rattle.paging.specs.Reached.{reached_by, reached}
use Rattle.host_cpl3.specs.declared.view.View.{View}
use Rattle.host_cpl3.specs.declared.exit.Exit.{Exit}
use Rattle.host_cpl3.specs.declared.exit.Exit.TheVariants as exits
use Rattle.host_cpl3.specs.declared.exit.Completion.{Completion}
use Rattle.host_cpl3.specs.Met.{Met, ◌>>=◌, gives, unless}
use Rattle.host_cpl3.specs.Views.{selectors_of, is_null, is_entry, is_past_limit, limit_fault, protection}
use Rattle.host_cpl3.specs.Pages.{walked, is_there, or_fault, page_met, byte_at}
use Rattle.host_cpl3.specs.Fetch.{fetching, fetched_on, fetched_by, fetched, spelled}
use Rattle.host_cpl3.specs.Permit.{permitted}
use Rattle.host_cpl3.specs.Access.{last_page, pages_met, range_met, access_met, segment_met}
use Rattle.host_cpl3.specs.HostStep.{finished, worked, host_step}
use Rattle.host_cpl3.proofs.Leading.{bound, unless_met}
use Rattle.native_steps.proofs.Ways.{front_at, back_at, IsAcross, Way}

after : {A B : Type 0} (x : Met A) (f : A → Met B) (a : A) (y : Met B) → x ≡ Ok a → f a ≡ y → (x >>= f) ≡ y
after x f a y e g = ap (λ o. o >>= f) e ∙ g

tests : (exit : Exit) (test : Bool) → test ≡ true → unless exit test ≡ Ok tt
tests exit test e = cond-true test (Ok tt) (Err exit) e

some_met : (there write : Bool) (at : ℕ) (o : Option ℕ) (frame : ℕ) → or_fault there write at o ≡ Ok frame → o ≡ Some frame
some_met there write at (Some f) frame e = cc
some_met there write at None frame e = absurd cc

module _ (memory : List ℕ) (root : ℕ) where
  -- the frame to which the host's walk leads
  abbrev pub Leads : Bool → ℕ → ℕ → Type 0
  Leads write page frame = reached_by write (walked memory root page) ≡ Some frame

  -- within the address space that is the tables' frame
  leads_so : (page : ℕ) → page < 2 ^ 20 → (write : Bool) → reached_by write (walked memory root page) ≡ reached memory
      (length memory / 4096) root page write
  leads_so page lt write =
      ap (reached_by write) (cond-true (nat_lt page 1048576) (fresh memory (length memory / 4096) (4096 * root) false page) Absent
      (lt-ltb page 1048576 lt))

  pub leads_told : (page : ℕ) → page < 2 ^ 20 → (write : Bool) (frame : ℕ) → Leads write page frame
      → reached memory (length memory / 4096) root page write ≡ Some frame
  leads_told page lt write frame e = sym (leads_so page lt write) ∙ e

  pub leads_from : (page : ℕ) → page < 2 ^ 20 → (write : Bool) (frame : ℕ) → reached memory (length memory / 4096) root page write ≡ Some
      frame → Leads write page frame
  leads_from page lt write frame e = leads_so page lt write ∙ e

  pub page_leads : (write : Bool) (at frame : ℕ) → page_met memory root write at ≡ Ok frame → Leads write (at / 4096) frame
  unfolding page_met
  page_leads write at frame e =
      some_met (is_there (walked memory root (at / 4096))) write at (reached_by write (walked memory root (at / 4096))) frame e

  pub page_is : (write : Bool) (at frame : ℕ) → Leads write (at / 4096) frame → page_met memory root write at ≡ Ok frame
  unfolding page_met
  page_is write at frame e = ap (or_fault (is_there (walked memory root (at / 4096))) write at) e

  -- ---- the fetch

  fetching_is : (at len frame : ℕ) → Leads false (at / 4096) frame
      → fetching memory root at len ≡ Ok (part memory (4096 * frame + at % 4096) len)
  unfolding fetching
  fetching_is at len frame e =
      after (page_met memory root false at) (λ f. gives (part memory (4096 * f + at % 4096) len)) frame _ (page_is false at frame e) refl

  fetching_parts : (at len : ℕ) (bytes : List ℕ) → fetching memory root at len ≡ Ok bytes → (frame : ℕ)
      × (Leads false (at / 4096) frame × (part memory (4096 * frame + at % 4096) len ≡ bytes))
  unfolding fetching
  fetching_parts at len bytes e =
      let p = bound (page_met memory root false at) (λ f. gives (part memory (4096 * f + at % 4096) len)) bytes e in
      let same : part memory (4096 * p.0 + at % 4096) len ≡ bytes = let g = p.1.1 in cc in
      (p.0, (page_leads false at p.0 p.1.0, same))

  abbrev next_at : ℕ → ℕ
  next_at eip = eip / 4096 * 4096 + 4096

  next_page_is : (eip : ℕ) → next_at eip / 4096 ≡ eip / 4096 + 1
  next_page_is eip = omega arith

  next_place : (eip frame : ℕ) → 4096 * frame + next_at eip % 4096 ≡ 4096 * frame
  next_place eip frame = omega arith

  on_parts : (eip : ℕ) (front : List ℕ) (d : Decoded) → fetched_on memory root eip front ≡ Ok d → (frame : ℕ)
      × (Leads false (eip / 4096 + 1) frame × (decoded (front ++ back_at memory frame) ≡ d))
  unfolding fetched_on
  on_parts eip front d e =
      let p = bound (fetching memory root (next_at eip) longest) (λ more. gives (decoded (front ++ more))) d e in
      let q = fetching_parts (next_at eip) longest p.0 p.1.0 in
      let bytes : back_at memory q.0 ≡ p.0 = ap (λ x. part memory x longest) (sym (next_place eip q.0)) ∙ q.1.1 in
      let is : decoded (front ++ p.0) ≡ d = let g = p.1.1 in cc in
      (q.0, (subst (λ (x : ℕ). Leads false x q.0) (next_page_is eip) q.1.0, ap (λ x. decoded (front ++ x)) bytes ∙ is))

  on_is : (eip frame : ℕ) (front : List ℕ) (d : Decoded) → Leads false (eip / 4096 + 1) frame → decoded (front ++ back_at memory frame) ≡ d
      → fetched_on memory root eip front ≡ Ok d
  unfolding fetched_on
  on_is eip frame front d e g =
      after (fetching memory root (next_at eip) longest) (λ more. gives (decoded (front ++ more))) (back_at memory frame) (Ok d)
      (fetching_is (next_at eip) longest frame (subst (λ (x : ℕ). Leads false x frame) (sym (next_page_is eip)) e)
      ∙ ap (λ x. Ok (part memory x longest)) (next_place eip frame))
      (ap Ok g)

  by_parts : (eip frame : ℕ) (d : Decoded) (insn : Insn) (len : ℕ) → Leads false (eip / 4096) frame
      → decoded (front_at memory frame eip) ≡ d
      → fetched_by memory root eip (front_at memory frame eip) d ≡ Ok (begins.Insn insn len) → Way (Leads false) memory eip insn len
  by_parts eip frame (begins.Insn i l) insn len leads is e =
      let same : begins.Insn i l ≡ begins.Insn insn len = cc in
      inl (record { frame = frame; page = leads; is = is ∙ same })
  by_parts eip frame begins.Outside insn len leads is e = absurd (let same : begins.Outside ≡ begins.Insn insn len = cc in cc)
  by_parts eip frame begins.Short insn len leads is e = inr (short (eip / 4096 == 1048575) refl e)
    where
      short : (last : Bool) → (eip / 4096 == 1048575) ≡ last
          → cond last (Err exits.Wrap) (fetched_on memory root eip (front_at memory frame eip)) ≡ Ok (begins.Insn insn len)
          → IsAcross (Leads false) memory eip insn len
      short true t f = absurd cc
      short false t f =
          let p = on_parts eip (front_at memory frame eip) (begins.Insn insn len) f in
          record { frame = frame; page = leads; cut = is; not_last = t; next = p.0; next_page = p.1.0; is = p.1.1 }

  pub fetch_parts : (eip : ℕ) (insn : Insn) (len : ℕ) → fetched memory root eip ≡ Ok (begins.Insn insn len)
      → Way (Leads false) memory eip insn len
  unfolding fetched
  fetch_parts eip insn len e =
      let p = bound (fetching memory root eip (front_len eip)) (λ front. fetched_by memory root eip front (decoded front))
      (begins.Insn insn len) e in
      let q = fetching_parts eip (front_len eip) p.0 p.1.0 in
      by_parts eip q.0 (decoded (front_at memory q.0 eip)) insn len q.1.0 refl
      (ap (λ x. fetched_by memory root eip x (decoded x)) q.1.1 ∙ p.1.1)

  fetched_from : (eip frame : ℕ) (y : Met Decoded) → Leads false (eip / 4096) frame → fetched_by memory root eip (front_at memory frame eip)
      (decoded (front_at memory frame eip)) ≡ y → fetched memory root eip ≡ y
  unfolding fetched
  fetched_from eip frame y leads e =
      after (fetching memory root eip (front_len eip)) (λ front. fetched_by memory root eip front (decoded front))
      (front_at memory frame eip) y (fetching_is eip (front_len eip) frame leads) e

  pub fetch_is : (eip : ℕ) (insn : Insn) (len : ℕ) → Way (Leads false) memory eip insn len
      → fetched memory root eip ≡ Ok (begins.Insn insn len)
  fetch_is eip insn len (inl w) =
      fetched_from eip w.frame (Ok (begins.Insn insn len)) w.page (ap (fetched_by memory root eip (front_at memory w.frame eip)) w.is)
  fetch_is eip insn len (inr w) =
      fetched_from eip w.frame (Ok (begins.Insn insn len)) w.page
      (ap (fetched_by memory root eip (front_at memory w.frame eip)) w.cut
      ∙ cond-false (eip / 4096 == 1048575) (Err exits.Wrap) _ w.not_last
      ∙ on_is eip w.next (front_at memory w.frame eip) (begins.Insn insn len) w.next_page w.is)

-- ---- ranges

-- a range that was met
pub record IsRange (memory : List ℕ) (v : View) (write : Bool) (r : Range) : Type 0 where
  pub fits : r.at + r.len ≤ 2 ^ 32
  pub above : is_past_limit v r.at ≡ false
  pub first : ℕ
  pub first_is : Leads memory v.root write (r.at / 4096) first
  pub last : ℕ
  pub last_is : Leads memory v.root write (last_page r) last

abbrev pub AreRanges : List ℕ → View → Bool → Option Range → Type 0
AreRanges memory v write None = Unit {0}
AreRanges memory v write (Some r) = IsRange memory v write r

module _ (memory : List ℕ) (v : View) where
  back : (p : ℕ) → p * 4096 / 4096 ≡ p
  back p = omega arith

  pages_parts : (write : Bool) (r : Range) (x : ℕ × ℕ) → pages_met memory v.root write r ≡ Ok x → (first last : ℕ)
      × (Leads memory v.root write (r.at / 4096) first × Leads memory v.root write (last_page r) last)
  unfolding pages_met
  pages_parts write r x e =
      let p = bound (page_met memory v.root write r.at)
      (λ (f : ℕ). cond (last_page r == r.at / 4096) (Ok f) (page_met memory v.root write (last_page r * 4096)) >>= (λ (l : ℕ). Ok (f, l))) x
      e in
      let q = bound (cond (last_page r == r.at / 4096) (Ok p.0) (page_met memory v.root write (last_page r * 4096)))
      (λ (l : ℕ). Ok (p.0, l)) x p.1.1 in
      let front = page_leads memory v.root write r.at p.0 p.1.0 in
      (p.0, q.0, (front, second (last_page r == r.at / 4096) refl q.0 p.0 front q.1.0))
    where
      second : (one : Bool) → (last_page r == r.at / 4096) ≡ one → (l f : ℕ) → Leads memory v.root write (r.at / 4096) f
          → cond one (Ok f) (page_met memory v.root write (last_page r * 4096)) ≡ Ok l → Leads memory v.root write (last_page r) l
      second true t l f front g =
          let same : f ≡ l = cc in
          subst (λ (p : ℕ). Leads memory v.root write p l) (sym (eqb-true (last_page r) (r.at / 4096) t)) (front ∙ ap Some same)
      second false t l f front g =
          subst (λ (p : ℕ). Leads memory v.root write p l) (back (last_page r)) (page_leads memory v.root write (last_page r * 4096) l g)

  pages_are : (write : Bool) (r : Range) (first last : ℕ) → Leads memory v.root write (r.at / 4096) first
      → Leads memory v.root write (last_page r) last → (x : ℕ × ℕ) × (pages_met memory v.root write r ≡ Ok x)
  unfolding pages_met
  pages_are write r first last e g =
      let s = second (last_page r == r.at / 4096) in (
        (first, s.0),
        after (page_met memory v.root write r.at) _ first (Ok (first, s.0)) (page_is memory v.root write r.at first e)
            (after (cond (last_page r == r.at / 4096) (Ok first) (page_met memory v.root write (last_page r * 4096)))
            (λ (l : ℕ). Ok (first, l)) s.0 (Ok (first, s.0)) s.1 refl),
      )
    where
      second : (one : Bool) → (l : ℕ) × (cond one (Ok first) (page_met memory v.root write (last_page r * 4096)) ≡ Ok l)
      second true = (first, refl)
      second false = (
        last,
        page_is memory v.root write (last_page r * 4096) last
            (subst (λ (p : ℕ). Leads memory v.root write p last) (sym (back (last_page r))) g),
      )

  range_parts : (write : Bool) (r : Range) (x : ℕ × ℕ) → range_met memory v write r ≡ Ok x → IsRange memory v write r
  unfolding range_met
  range_parts write r x e =
      let p = bound (unless exits.Wrap (nat_le (r.at + r.len) (2 ^ 32)))
      (λ (u : Unit {0}). unless (limit_fault r.seg) (not (is_past_limit v r.at)) >>= (λ (w : Unit {0}). pages_met memory v.root write r)) x
      e in
      let q = bound (unless (limit_fault r.seg) (not (is_past_limit v r.at))) (λ (w : Unit {0}). pages_met memory v.root write r) x p.1.1 in
      let s = pages_parts write r x q.1.1 in
      record {
        fits = leb-true (r.at + r.len) (2 ^ 32) (unless_met _ (nat_le (r.at + r.len) (2 ^ 32)) p.0 p.1.0);
        above = not-true (is_past_limit v r.at) (unless_met _ (not (is_past_limit v r.at)) q.0 q.1.0);
        first = s.0;
        first_is = s.2.0;
        last = s.1;
        last_is = s.2.1;
      }

  range_is : (write : Bool) (r : Range) → IsRange memory v write r → (x : ℕ × ℕ) × (range_met memory v write r ≡ Ok x)
  unfolding range_met
  range_is write r h =
      let p = pages_are write r h.first h.last h.first_is h.last_is in (
        p.0,
        after (unless exits.Wrap (nat_le (r.at + r.len) (2 ^ 32))) _ tt (Ok p.0)
            (tests _ (nat_le (r.at + r.len) (2 ^ 32)) (le-leb (r.at + r.len) (2 ^ 32) h.fits))
            (after (unless (limit_fault r.seg) (not (is_past_limit v r.at))) (λ (w : Unit {0}). pages_met memory v.root write r) tt (Ok p.0)
            (tests _ (not (is_past_limit v r.at)) (ap not h.above)) p.1),
      )

  access_parts : (write : Bool) (o : Option Range) (x : Unit {0}) → access_met memory v write o ≡ Ok x → AreRanges memory v write o
  access_parts write None x e = tt
  access_parts write (Some r) x e = let p =
      bound (range_met memory v write r) (λ (q : ℕ × ℕ). gives tt) x e in range_parts write r p.0 p.1.0

  access_is : (write : Bool) (o : Option Range) → AreRanges memory v write o → access_met memory v write o ≡ Ok tt
  access_is write None h = refl
  access_is write (Some r) h = let p =
      range_is write r h in after (range_met memory v write r) (λ (q : ℕ × ℕ). gives tt) p.0 (Ok tt) p.1 refl

  -- ---- segments

  abbrev pub IsDenied : Option Range → Bool
  IsDenied None = false
  IsDenied (Some r) = is_null v r.seg

  segment_parts : (o : Option Range) (x : Unit {0}) → segment_met v o ≡ Ok x → IsDenied o ≡ false
  segment_parts None x e = refl
  segment_parts (Some r) x e = not-true (is_null v r.seg) (unless_met protection (not (is_null v r.seg)) x e)

  segment_is : (o : Option Range) → IsDenied o ≡ false → segment_met v o ≡ Ok tt
  segment_is None e = refl
  segment_is (Some r) e = tests protection (not (is_null v r.seg)) (ap not e)

-- ---- the instruction

-- the parts of an instruction that passed, up to its effect
pub record IsMet (memory : List ℕ) (v : View) (r : Regs) (insn : Insn) (len : ℕ) : Type 0 where
  pub outside : is_entry v r.eip ≡ false
  pub way : Way (Leads memory v.root false) memory r.eip insn len
  pub permitted : permitted insn ≡ Ok tt
  pub read_segment : IsDenied memory v (ranges_of insn r).read ≡ false
  pub write_segment : IsDenied memory v (ranges_of insn r).write ≡ false
  pub read : AreRanges memory v false (ranges_of insn r).read
  pub write : AreRanges memory v true (ranges_of insn r).write

module _ (memory : List ℕ) (v : View) (r : Regs) where
  abbrev pub effect_there : Insn → ℕ → Met (Completion × List ℕ)
  effect_there insn len = finished v insn.op memory (user_effect (selectors_of v) insn len r (byte_at memory v.root))

  spelled_parts : (d : Decoded) (x : Insn × ℕ) → spelled d ≡ Ok x → d ≡ begins.Insn x.0 x.1
  spelled_parts (begins.Insn insn len) x e = let same : ◌≡◌ {A = Insn × ℕ} (insn, len) x =
      cc in ap (λ (p : Insn × ℕ). begins.Insn p.0 p.1) same
  spelled_parts begins.Short x e = absurd cc
  spelled_parts begins.Outside x e = absurd cc

  unit_is : (e : Met (Unit {0})) (x : Unit {0}) → e ≡ Ok x → e ≡ Ok tt
  unit_is e x g = g

  worked_is : (insn : Insn) (len : ℕ) → IsMet memory v r insn len → worked v memory r insn len ≡ effect_there insn len
  unfolding worked
  worked_is insn len h =
      after (permitted insn) _ tt (effect_there insn len) h.permitted
      (after (segment_met v (ranges_of insn r).read) _ tt (effect_there insn len)
      (segment_is memory v (ranges_of insn r).read h.read_segment)
      (after (segment_met v (ranges_of insn r).write) _ tt (effect_there insn len)
      (segment_is memory v (ranges_of insn r).write h.write_segment)
      (after (access_met memory v false (ranges_of insn r).read) _ tt (effect_there insn len)
      (access_is memory v false (ranges_of insn r).read h.read)
      (after (access_met memory v true (ranges_of insn r).write) (λ (u : Unit {0}). effect_there insn len) tt (effect_there insn len)
      (access_is memory v true (ranges_of insn r).write h.write) refl))))

  pub host_is : (insn : Insn) (len : ℕ) → IsMet memory v r insn len → host_step v memory r ≡ effect_there insn len
  unfolding host_step
  host_is insn len h =
      after (unless (exits.Entry r.eip) (not (is_entry v r.eip))) _ tt (effect_there insn len)
      (tests _ (not (is_entry v r.eip)) (ap not h.outside))
      (after (fetched memory v.root r.eip) _ (begins.Insn insn len) (effect_there insn len) (fetch_is memory v.root r.eip insn len h.way)
      (worked_is insn len h))

  -- what the host did
  pub record Did (x : Completion × List ℕ) : Type 0 where
    pub insn : Insn
    pub len : ℕ
    pub met : IsMet memory v r insn len
    pub is : effect_there insn len ≡ Ok x

  worked_parts : (insn : Insn) (len : ℕ) (x : Completion × List ℕ) → is_entry v r.eip ≡ false
      → Way (Leads memory v.root false) memory r.eip insn len → worked v memory r insn len ≡ Ok x → Did x
  unfolding worked
  worked_parts insn len x outside way e =
      let p = bound (permitted insn) _ x e in
      let q = bound (segment_met v (ranges_of insn r).read) _ x p.1.1 in
      let s = bound (segment_met v (ranges_of insn r).write) _ x q.1.1 in
      let t = bound (access_met memory v false (ranges_of insn r).read) _ x s.1.1 in
      let u = bound (access_met memory v true (ranges_of insn r).write) (λ (u : Unit {0}). effect_there insn len) x t.1.1 in
      record {
        insn = insn;
        len = len;
        met = record {
          outside = outside;
          way = way;
          permitted = p.1.0;
          read_segment = segment_parts memory v (ranges_of insn r).read q.0 q.1.0;
          write_segment = segment_parts memory v (ranges_of insn r).write s.0 s.1.0;
          read = access_parts memory v false (ranges_of insn r).read t.0 t.1.0;
          write = access_parts memory v true (ranges_of insn r).write u.0 u.1.0;
        };
        is = u.1.1;
      }

  pub host_parts : (x : Completion × List ℕ) → host_step v memory r ≡ Ok x → Did x
  unfolding host_step
  host_parts x e =
      let p = bound (unless (exits.Entry r.eip) (not (is_entry v r.eip))) _ x e in
      let q = bound (fetched memory v.root r.eip) _ x p.1.1 in
      let s = bound (spelled q.0) _ x q.1.1 in
      let outside = not-true (is_entry v r.eip) (unless_met _ (not (is_entry v r.eip)) p.0 p.1.0) in
      let way = fetch_parts memory v.root r.eip s.0.0 s.0.1 (q.1.0 ∙ ap Ok (spelled_parts q.0 s.0 s.1.0)) in
      worked_parts s.0.0 s.0.1 x outside way s.1.1
