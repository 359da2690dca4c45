-- What the host did, and what the guest translated, as an instruction of both.
use Rattle.std.proofs.Common.{◌≡◌, ℕ, ◌+◌, ◌-◌, ◌*◌, ◌/◌, ◌%◌, ◌^◌, ◌<◌, ◌≤◌, List, ◌++◌, length, Bool, true, false, ◌&&◌, ◌||◌, not, None, Ok, refl, sym, ap, subst, ◌∙◌, inl, inr, arith}
use Rattle.std.proofs.lemmas.Bool.{cases_lt}
use Rattle.descriptors.specs.Controls.{wp_of}
use Rattle.guest_ram.specs.Bytes.{part}
use Rattle.ia32_types.specs.declared.flags.Regs.{Regs}
use Rattle.ia32_types.specs.declared.insn.Insn.{Insn}
use Rattle.ia32_types.specs.Site.{kind_of}
use Rattle.ia32_decode.specs.declared.answer.Decoded.TheVariants as begins
use Rattle.ia32_decode.specs.Decoding.{decoded}
use Rattle.ia32_decode.specs.Front.{front_len}
use Rattle.ia32_exec.specs.declared.outcome.Outcome as exec
use Rattle.ia32_exec.specs.declared.outcome.Outcome.TheVariants as outcomes
use Rattle.ia32_exec.specs.declared.outcome.Stores.{Stores}
use Rattle.ia32_exec.specs.Effect.{ranges_of}
use Rattle.paging.specs.Space.{Space}
use Rattle.native_steps.specs.EffectLaws.{EffectLaws}
use Rattle.step_exec.specs.Plain.{is_denied}
use Rattle.native_steps.proofs.Short.{ranges_short}
use Rattle.host_cpl3.specs.declared.view.View.{View}
use Rattle.host_cpl3.specs.declared.exit.Completion.{Completion}
use Rattle.host_cpl3.specs.declared.exit.Completion.TheVariants.{Completed, Entered}
use Rattle.host_cpl3.specs.Permit.{permitted}
use Rattle.host_cpl3.specs.Views.{is_window}
use Rattle.host_cpl3.specs.HostStep.{finished, host_step}
use Rattle.sites.specs.Patched.{patched}
use Rattle.image_check.specs.Sweep.{Swept}
use Rattle.image_check.specs.Places.{linear}
use Rattle.image_check.specs.Standing.{site_at, StandsOutside}
use Rattle.machine_model.specs.State.{Setting, State, space_at_start}
use Rattle.machine_model.specs.Instruction.{is_plain, fetched}
use Rattle.native_steps.specs.Lends.{Lends}
use Rattle.native_steps.specs.Mirrors.{IsWedge, Mirrors}
use Rattle.native_steps.specs.Native.{effect_of}
use Rattle.native_steps.specs.Forward.{IsNext, Follows}
use Rattle.native_steps.specs.Backward.{IsTranslated, AreReached, Completes}
use Rattle.native_steps.proofs.Pages.{At}
use Rattle.native_steps.proofs.Ways.{front_at, Way}
use Rattle.native_steps.proofs.HostParts.{Leads, IsMet, Did, host_parts}
use Rattle.native_steps.proofs.Shown.{text_shown, text_patched}
use Rattle.native_steps.proofs.Standing.{front_is, way_from, way_to}
use Rattle.native_steps.specs.TextLaws.{TextLaws}
use Rattle.native_steps.proofs.Sharing as sharing
use Rattle.native_steps.proofs.GuestRanges.{reached_comes, reached_from}
use Rattle.native_steps.proofs.Fetching.{Fetches, fetched_comes, same_space}
use Rattle.native_steps.proofs.FetchShared.{IsCode, FetchShares, weaker, other_bytes, guest_pages, host_pages, user_bytes, given_frame}
use Rattle.native_steps.proofs.FetchShared as shared
use Rattle.native_steps.proofs.Together.{IsCommon, user, at_start, denials, effects_same, not_soft, plain_row, native}
use Rattle.native_steps.proofs.Completing.{IsSwept, start_there, no_window, both_complete}

-- an instruction of the text in the window
pub record IsPlaced (m : Setting) (eip at len : ℕ) : Type 0 where
  pub place : eip ≡ 0x10000000 + at
  pub some : 1 ≤ len
  pub few : len ≤ 11
  pub fits : at + len ≤ length m.image.text

module _ (m : Setting) (w : IsWedge m) (memory : List ℕ) (v : View) (b : State) (stands : Mirrors m memory v b)
    (lends : Lends m memory v.root v.kernel (wp_of b.cpu) b.set) where
  abbrev pub SharesFetch : ℕ → ℕ → Type 0
  SharesFetch = FetchShares m w memory v b stands lends

  pub small : length m.image.text ≤ 16777216
  small = w.accepted.within.text.1

  module _ (at len : ℕ) (eip : ℕ) (p : IsPlaced m eip at len) where
    page_below : (0x10000000 + at) / 4096 < 0x11000
    page_below = let a = p.some in let f = p.fits in let s = small in omega (arith, a, f, s)

    -- an instruction that goes on in the next page ends in the window
    next_below : front_len (0x10000000 + at) < len → (0x10000000 + at) / 4096 + 1 < 0x11000
    next_below lt = let a = p.some in let n = p.few in let f = p.fits in let s = small in omega (arith, a, n, f, s, lt)

    pub placed : v.kernel ≡ true → (frame : ℕ) → SharesFetch ((0x10000000 + at) / 4096) frame → 4096 * frame
        + (0x10000000 + at) % 4096 ≡ 0x100000 + at
    placed k frame s =
        let f = given_frame m w memory v b stands lends k ((0x10000000 + at) / 4096) frame page_below s in
        omega (arith, f)

    pub behind : v.kernel ≡ true → (frame next : ℕ) → front_len (0x10000000 + at) < len → SharesFetch ((0x10000000 + at) / 4096) frame
        → SharesFetch ((0x10000000 + at) / 4096 + 1) next → next ≡ frame + 1
    behind k frame next lt s t =
        let f = given_frame m w memory v b stands lends k ((0x10000000 + at) / 4096) frame page_below s in
        let g = given_frame m w memory v b stands lends k ((0x10000000 + at) / 4096 + 1) next (next_below lt) t in
        omega (arith, f, g)

    pub code : IsCode v.kernel (eip / 4096) × (front_len (0x10000000 + at) < len → IsCode v.kernel (eip / 4096 + 1))
    code =
        let e = p.place in
        let below = page_below in
        (λ k. omega (arith, e, below), λ lt k. let next = next_below lt in omega (arith, e, next))

  module _ (flags : EffectLaws) (laws : TextLaws m.image) (next : IsNext m v.kernel b) where
    eip : ℕ
    eip = b.cpu.regs.eip

    -- ---- at level 0

    record IsInText : Type 0 where
      swept : Swept
      outside : StandsOutside m.image swept
      place : eip ≡ linear swept.at
      placed_is : IsPlaced m eip swept.at swept.len

    in_text : v.kernel ≡ true → IsInText
    unfolding eip
    in_text k =
        let there = start_there m.image laws b.cpu.regs.eip (next.start k) in
        let s = laws.instruction (b.cpu.regs.eip - 0x10000000) there.1 in
        let above = there.0 in
        let is = s.2 in
        let place : b.cpu.regs.eip ≡ 0x10000000 + (s.0).at = omega (arith, above, is) in
        let room = laws.room s.0 s.1 in
        record {
          swept = s.0;
          outside = record { stands = s.1; outside = ap (site_at m.image.sites) is ∙ next.outside k };
          place = place;
          placed_is = record { place = place; some = room.0; few = room.1; fits = room.2 };
        }

    eip_small : (k : Bool) → v.kernel ≡ k → b.cpu.regs.eip < 2 ^ 32
    unfolding eip
    eip_small true k = let t = in_text k in let p =
        t.placed_is in let e = t.place in let a = p.some in let f = p.fits in let s = small in omega (arith, e, a, f, s)
    eip_small false k = next.small k

    first_code : (k : Bool) → v.kernel ≡ k → IsCode v.kernel (eip / 4096)
    first_code true k = let t = in_text k in (code t.swept.at t.swept.len eip t.placed_is).0
    first_code false k = λ e. absurd (let f : true ≡ false = sym e ∙ k in cc)

    abbrev WayIn : List ℕ → Insn → ℕ → Type 0
    WayIn ram insn len = Way SharesFetch ram eip insn len

    -- what the text of one memory has, the text of the other has
    record IsBoth (insn : Insn) (len : ℕ) : Type 0 where
      host : WayIn memory insn len
      guest : WayIn b.ram insn len
      text : v.kernel ≡ true → IsSwept m.image eip insn len

    swept_is : (insn : Insn) (len : ℕ) → v.kernel ≡ false → IsSwept m.image eip insn len → IsSwept m.image eip insn len
    swept_is insn len k s = s

    module _ (k : v.kernel ≡ true) (t : IsInText) where
      s : Swept
      s = t.swept

      abbrev there : ℕ
      there = 0x10000000 + t.swept.at

      same_patched : (at n : ℕ) → at + n ≤ length m.image.text
          → part memory (0x100000 + at) n ≡ part (patched m.image.text 0 m.image.sites) at n
      same_patched at n le = text_patched m w memory stands.host at n le

      same_text : (at n : ℕ) → at + n ≤ length m.image.text → part b.ram (0x100000 + at) n ≡ part m.image.text at n
      same_text at n le = ap (λ (x : List ℕ). part x (0x100000 + at) n) stands.ram ∙ text_shown m w memory stands.host at n le

      -- it goes on in the next page, where those of the first don't begin it
      second : (text ram : List ℕ) → ((at n : ℕ) → at + n ≤ length m.image.text → part ram (0x100000 + at) n ≡ part text at n)
          → ((more : List ℕ) → decoded (part text t.swept.at t.swept.len ++ more) ≡ begins.Insn t.swept.insn t.swept.len)
          → ((n : ℕ) → n < t.swept.len → decoded (part text t.swept.at n) ≡ begins.Short)
          → (frame : ℕ) → SharesFetch (there / 4096) frame → decoded (front_at ram frame there) ≡ begins.Short
          → IsCode v.kernel (there / 4096 + 1)
      second text ram same whole cut frame page e =
          let p = t.placed_is in
          elim (cases_lt (front_len there) t.swept.len) [
            | inl lt ↦ (λ kernel. next_below t.swept.at t.swept.len eip p lt)
            | inr le ↦ absurd (let q : begins.Short ≡ begins.Insn t.swept.insn t.swept.len = sym e ∙ front_is text ram (length m.image.text)
                same t.swept.at t.swept.len t.swept.insn p.some p.few p.fits small whole cut frame
                (placed t.swept.at t.swept.len eip p k frame page) le in cc)
          ]

      host_second : (frame : ℕ) → SharesFetch (eip / 4096) frame → decoded (front_at memory frame eip) ≡ begins.Short
          → IsCode v.kernel (eip / 4096 + 1)
      host_second frame =
          subst (λ (x : ℕ). SharesFetch (x / 4096) frame → decoded (front_at memory frame x) ≡ begins.Short → IsCode v.kernel
          (x / 4096 + 1)) (sym t.place)
          (second (patched m.image.text 0 m.image.sites) memory same_patched
          (laws.whole_patched t.swept t.outside t.swept.len (omega arith)) (laws.cut_patched t.swept t.outside) frame)

      guest_second : (frame : ℕ) → SharesFetch (eip / 4096) frame → decoded (front_at b.ram frame eip) ≡ begins.Short
          → IsCode v.kernel (eip / 4096 + 1)
      guest_second frame =
          subst (λ (x : ℕ). SharesFetch (x / 4096) frame → decoded (front_at b.ram frame x) ≡ begins.Short → IsCode v.kernel (x / 4096 + 1))
          (sym t.place)
          (second m.image.text b.ram same_text (laws.whole t.swept t.outside.stands t.swept.len (omega arith))
          (laws.cut t.swept t.outside.stands) frame)

      kernel_from : (insn : Insn) (len frame : ℕ) → insn ≡ t.swept.insn → len ≡ t.swept.len → SharesFetch (there / 4096) frame
          → (front_len there < t.swept.len → (g : ℕ) × SharesFetch (there / 4096 + 1) g) → IsBoth insn len
      kernel_from insn len frame e f page more =
          let p = t.placed_is in
          let place = placed t.swept.at t.swept.len eip p k frame page in
          let next_page : front_len there < t.swept.len → SharesFetch (there / 4096 + 1) (frame + 1) = λ lt.
          let g = more lt in
          subst (SharesFetch (there / 4096 + 1)) (behind t.swept.at t.swept.len eip p k frame g.0 lt page g.1) g.1
          in
          let host = way_from (patched m.image.text 0 m.image.sites) memory (length m.image.text) same_patched t.swept.at t.swept.len
          t.swept.insn p.some p.few p.fits small
          (laws.whole_patched t.swept t.outside t.swept.len (omega arith)) (laws.cut_patched t.swept t.outside) SharesFetch frame
          page place next_page in
          let guest =
          way_from m.image.text b.ram (length m.image.text) same_text t.swept.at t.swept.len t.swept.insn p.some p.few p.fits small
          (laws.whole t.swept t.outside.stands t.swept.len (omega arith)) (laws.cut t.swept t.outside.stands) SharesFetch frame
          page place next_page in
          let move : (ram : List ℕ) → Way SharesFetch ram there t.swept.insn t.swept.len → WayIn ram insn len = λ (ram : List ℕ) h.
          subst (λ (x : Insn). Way SharesFetch ram eip x len) (sym e)
          (subst (λ (x : ℕ). Way SharesFetch ram eip t.swept.insn x) (sym f)
          (subst (λ (x : ℕ). Way SharesFetch ram x t.swept.insn t.swept.len) (sym t.place) h))
          in
          record {
            host = move memory host;
            guest = move b.ram guest;
            text = λ j. record { swept = t.swept; outside = t.outside; place = t.place; insn_is = e; len_is = f };
          }

      kernel_host : (insn : Insn) (len : ℕ) → WayIn memory insn len → IsBoth insn len
      kernel_host insn len h =
          let p = t.placed_is in
          let x = way_to (patched m.image.text 0 m.image.sites) memory (length m.image.text) same_patched t.swept.at t.swept.len
          t.swept.insn p.some p.few p.fits small
          (laws.whole_patched t.swept t.outside t.swept.len (omega arith)) (laws.cut_patched t.swept t.outside) SharesFetch
          (placed t.swept.at t.swept.len eip p k) (behind t.swept.at t.swept.len eip p k) insn len
          (subst (λ (x : ℕ). Way SharesFetch memory x insn len) t.place h) in
          kernel_from insn len x.frame x.insn_is x.len_is x.page x.next

      kernel_guest : (insn : Insn) (len : ℕ) → WayIn b.ram insn len → IsBoth insn len
      kernel_guest insn len h =
          let p = t.placed_is in
          let x = way_to m.image.text b.ram (length m.image.text) same_text t.swept.at t.swept.len t.swept.insn p.some p.few p.fits small
          (laws.whole t.swept t.outside.stands t.swept.len (omega arith)) (laws.cut t.swept t.outside.stands) SharesFetch
          (placed t.swept.at t.swept.len eip p k) (behind t.swept.at t.swept.len eip p k) insn len
          (subst (λ (x : ℕ). Way SharesFetch b.ram x insn len) t.place h) in
          kernel_from insn len x.frame x.insn_is x.len_is x.page x.next

    no_kernel : {A : Type 0} → v.kernel ≡ false → v.kernel ≡ true → A
    no_kernel f e = absurd (let g : true ≡ false = sym e ∙ f in cc)

    host_code : (kernel : Bool) → v.kernel ≡ kernel → (frame : ℕ) → SharesFetch (eip / 4096) frame
        → decoded (front_at memory frame eip) ≡ begins.Short → IsCode v.kernel (eip / 4096 + 1)
    host_code true k = host_second k (in_text k)
    host_code false k = λ frame s e. no_kernel k

    guest_code : (kernel : Bool) → v.kernel ≡ kernel → (frame : ℕ) → SharesFetch (eip / 4096) frame
        → decoded (front_at b.ram frame eip) ≡ begins.Short → IsCode v.kernel (eip / 4096 + 1)
    guest_code true k = guest_second k (in_text k)
    guest_code false k = λ frame s e. no_kernel k

    both_from_host : (kernel : Bool) → v.kernel ≡ kernel → (insn : Insn) (len : ℕ) → WayIn memory insn len → IsBoth insn len
    both_from_host true k insn len h = kernel_host k (in_text k) insn len h
    both_from_host false k insn len h =
        record {
          host = h;
          guest = other_bytes SharesFetch memory b.ram eip insn len
              (λ page frame o n s le. sym (user_bytes m w memory v b stands lends k page frame o n s le)) h;
          text = no_kernel k;
        }

    both_from_guest : (kernel : Bool) → v.kernel ≡ kernel → (insn : Insn) (len : ℕ) → WayIn b.ram insn len → IsBoth insn len
    both_from_guest true k insn len h = kernel_guest k (in_text k) insn len h
    both_from_guest false k insn len h =
        record {
          host = other_bytes SharesFetch b.ram memory eip insn len (user_bytes m w memory v b stands lends k) h;
          guest = h;
          text = no_kernel k;
        }

    abbrev Common : Insn → ℕ → Type 0
    Common insn len = IsCommon flags m w memory v b stands next insn len

    -- an instruction of both, and at level 0 of the text
    pub record IsFull (insn : Insn) (len : ℕ) : Type 0 where
      pub common : IsCommon flags m w memory v b stands next insn len
      pub text : v.kernel ≡ true → IsSwept m.image b.cpu.regs.eip insn len

    plain_there : (insn : Insn) (len : ℕ) → permitted insn ≡ Ok tt → IsSwept m.image b.cpu.regs.eip insn len → is_plain insn.op ≡ true
    unfolding permitted
    plain_there insn len p s =
        let none : kind_of insn.op ≡ None = ap (λ (i : Insn). kind_of i.op) s.insn_is ∙ laws.insensitive s.swept s.outside in
        plain_row insn.op none (not_soft insn.op insn.imm p)

    not_entry : (kernel : Bool) → v.kernel ≡ kernel → (kernel && is_window b.cpu.regs.eip) ≡ false
    not_entry true k = no_window b.cpu.regs.eip (start_there m.image laws b.cpu.regs.eip (next.start k)).0
    not_entry false k = refl

    or_false : (x y : Bool) → x ≡ false → y ≡ false → (x || y) ≡ false
    or_false x y e f = cc

    -- ---- from the host

    pub full_from_host : (insn : Insn) (len : ℕ) → IsMet memory v b.cpu.regs insn len → IsFull insn len
    unfolding eip
    full_from_host insn len met =
        let way = shared.from_host m w memory v b stands lends b.cpu.regs.eip insn len (eip_small v.kernel refl) (first_code v.kernel refl)
        (host_code v.kernel refl) met.way in
        let two = both_from_host v.kernel refl insn len way in
        let short = ranges_short insn b.cpu.regs in
        record {
          common = record {
            outside = met.outside;
            host_way = met.way;
            guest_way =
                weaker SharesFetch (Fetches m b v.kernel) b.ram b.cpu.regs.eip insn len (guest_pages m w memory v b stands lends) two.guest;
            allowed = met.permitted;
            plain_is = λ k. plain_there insn len met.permitted (two.text k);
            segments = or_false (is_denied b.cpu (ranges_of insn b.cpu.regs).read) (is_denied b.cpu (ranges_of insn b.cpu.regs).write)
                (sym (denials flags m w memory v b stands next (ranges_of insn b.cpu.regs).read) ∙ met.read_segment)
                (sym (denials flags m w memory v b stands next (ranges_of insn b.cpu.regs).write) ∙ met.write_segment);
            read = sharing.from_host m w memory v b stands lends false (ranges_of insn b.cpu.regs).read short.0 met.read;
            write = sharing.from_host m w memory v b stands lends true (ranges_of insn b.cpu.regs).write short.1 met.write;
          };
          text = two.text;
        }

    -- ---- from the guest

    pub full_from_guest : (insn : Insn) (len : ℕ) (after_fetch after_read after_write : Space)
        → IsTranslated m b insn len after_fetch after_read after_write
        → AreReached memory v.root after_fetch.visited (ranges_of insn b.cpu.regs) → IsFull insn len
    unfolding eip
    full_from_guest insn len after_fetch after_read after_write t pages =
        let start = space_at_start m.mode m.frames b.cpu b.ram b.set in
        let at0 = at_start flags m w memory v b stands next in
        let is_user = user flags m w memory v b stands next in
        let fetch : fetched (not v.kernel) b.cpu.regs.eip start ≡ Ok (begins.Insn insn len, after_fetch) =
        ap (λ (u : Bool). fetched u b.cpu.regs.eip start) (sym is_user) ∙ t.fetched in
        let way = shared.from_guest m w memory v b stands lends start after_fetch b.cpu.regs.eip insn len at0 (eip_small v.kernel refl)
        (first_code v.kernel refl) (guest_code v.kernel refl) pages.fetch fetch in
        let two = both_from_guest v.kernel refl insn len way in
        let guest_way =
        weaker SharesFetch (Fetches m b v.kernel) b.ram b.cpu.regs.eip insn len (guest_pages m w memory v b stands lends) two.guest in
        let f = fetched_comes m b v.kernel start b.cpu.regs.eip insn len at0 guest_way in
        let at1 : At m b after_fetch =
        subst (At m b) (same_space (begins.Insn insn len) (begins.Insn insn len) f.space after_fetch (sym f.is ∙ fetch)) f.at in
        let short = ranges_short insn b.cpu.regs in
        let read = reached_from m w memory v b stands b.cpu is_user lends after_fetch after_read false (ranges_of insn b.cpu.regs).read at1
        short.0 pages.read t.read in
        let r = reached_comes m w memory v b stands b.cpu is_user after_fetch false (ranges_of insn b.cpu.regs).read at1 read in
        let at2 : At m b after_read = subst (At m b) (same_space tt tt r.space after_read (sym r.is ∙ t.read)) r.at in
        let write = reached_from m w memory v b stands b.cpu is_user lends after_read after_write true (ranges_of insn b.cpu.regs).write at2
        short.1 pages.write t.write in
        record {
          common = record {
            outside = not_entry v.kernel refl;
            host_way = weaker SharesFetch (Leads memory v.root false) memory b.cpu.regs.eip insn len
                (host_pages m w memory v b stands lends) two.host;
            guest_way = guest_way;
            allowed = t.permitted;
            plain_is = λ k. plain_there insn len t.permitted (two.text k);
            segments = t.segments;
            read = read;
            write = write;
          };
          text = two.text;
        }

    -- ---- the laws

    module _ (insn : Insn) (len : ℕ) (full : IsFull insn len) where
      abbrev here : Stores → Regs → Type 0
      here stores regs = effect_of v b insn len ≡ outcomes.Done regs stores

      pub full_completes : (regs : Regs) (stores : Stores) → effect_of v b insn len ≡ outcomes.Done regs stores
          → Completes m memory v b regs
      full_completes regs stores e = both_complete flags m w laws memory v b stands next insn len full.common full.text regs stores e

      same_pair : (d e : Completion) (x y : List ℕ) → ◌≡◌ {A = Rattle.host_cpl3.specs.Met.Met (Completion × List ℕ)} (Ok (d, x))
          (Ok (e, y)) → (d ≡ e) × (x ≡ y)
      same_pair d e x y g = let p : ◌≡◌ {A = Completion × List ℕ} (d, x) (e, y) =
          cc in (ap (λ (q : Completion × List ℕ). q.0) p, ap (λ (q : Completion × List ℕ). q.1) p)

      by_outcome : (o : exec.Outcome) → effect_of v b insn len ≡ o → (regs : Regs) (after_memory : List ℕ)
          → finished v insn.op memory o ≡ Ok (Completed regs, after_memory) → Follows m v b memory regs after_memory
      by_outcome (outcomes.Done found stores) e regs after_memory g =
          let c = full_completes found stores e in
          let h : host_step v memory b.cpu.regs ≡ Ok (Completed regs, after_memory) =
          (native flags m w memory v b stands next insn len full.common).host ∙ ap (finished v insn.op memory) e ∙ g in
          let p = same_pair (Completed found) (Completed regs) c.after_memory after_memory (sym c.host ∙ h) in
          let done = p.0 in
          let same : found ≡ regs = cc done in
          subst (λ (x : Regs). Follows m v b memory x after_memory) same (subst (Follows m v b memory found) p.1 c.follows)
      by_outcome (outcomes.Raise vector code) e regs after_memory g = absurd cc
      by_outcome (outcomes.Stop stop) e regs after_memory g = absurd cc

      never : (o : exec.Outcome) → effect_of v b insn len ≡ o → (regs : Regs) (after_memory : List ℕ)
          → finished v insn.op memory o ≡ Ok (Entered regs, after_memory) → ⊥
      never (outcomes.Done found stores) e regs after_memory g =
          let c = full_completes found stores e in
          let h : host_step v memory b.cpu.regs ≡ Ok (Entered regs, after_memory) =
          (native flags m w memory v b stands next insn len full.common).host ∙ ap (finished v insn.op memory) e ∙ g in
          let p = same_pair (Completed found) (Entered regs) c.after_memory after_memory (sym c.host ∙ h) in
          let done = p.0 in
          cc done
      never (outcomes.Raise vector code) e regs after_memory g = cc
      never (outcomes.Stop stop) e regs after_memory g = cc

    seen : (x : Completion × List ℕ) (d : Did memory v b.cpu.regs x) → (full : IsFull d.insn d.len)
        → finished v d.insn.op memory (effect_of v b d.insn d.len) ≡ Ok x
    seen x d full = ap (finished v d.insn.op memory) (sym (effects_same flags m w memory v b stands next d.insn d.len full.common)) ∙ d.is

    pub forward_law : (regs : Regs) (after_memory : List ℕ) → host_step v memory b.cpu.regs ≡ Ok (Completed regs, after_memory)
        → Follows m v b memory regs after_memory
    forward_law regs after_memory e =
        let d = host_parts memory v b.cpu.regs (Completed regs, after_memory) e in
        let full = full_from_host d.insn d.len d.met in
        by_outcome d.insn d.len full (effect_of v b d.insn d.len) refl regs after_memory (seen (Completed regs, after_memory) d full)

    pub not_entered_law : (regs : Regs) (after_memory : List ℕ) → host_step v memory b.cpu.regs ≡ Ok (Entered regs, after_memory) → ⊥
    not_entered_law regs after_memory e =
        let d = host_parts memory v b.cpu.regs (Entered regs, after_memory) e in
        let full = full_from_host d.insn d.len d.met in
        never d.insn d.len full (effect_of v b d.insn d.len) refl regs after_memory (seen (Entered regs, after_memory) d full)
