-- Both machines fetch the same instruction.
use Rattle.std.proofs.Common.{◌≡◌, ℕ, ◌+◌, ◌-◌, ◌*◌, ◌/◌, ◌%◌, ◌^◌, ◌<◌, ◌≤◌, List, [], ◌∷◌, ◌++◌, length, Bool, true, false, ◌&&◌, not, ◌==◌, Some, Ok, refl, sym, ap, subst, ◌∙◌, ◌⊎◌, inl, inr, arith}
use Rattle.std.specs.Prelude.{nat_le, nat_lt}
use Rattle.std.specs.List.{Contains}
use Rattle.std.proofs.lemmas.List.Elements.{Contains-append_left, Contains-append_right}
use Rattle.std.proofs.lemmas.Bool.{and_parts, eqb-true, eq-eqb, both_ways}
use Rattle.descriptors.specs.Controls.{wp_of}
use Rattle.guest_ram.specs.Bytes.{part}
use Rattle.ia32_types.specs.declared.insn.Insn.{Insn}
use Rattle.ia32_decode.specs.declared.answer.Decoded.TheVariants as begins
use Rattle.ia32_decode.specs.Decoding.{decoded}
use Rattle.ia32_decode.specs.Front.{longest, front_len}
use Rattle.paging.specs.Reached.{reached}
use Rattle.paging.specs.Space.{Space}
use Rattle.paging.specs.Uses.{is_text}
use Rattle.image_load.specs.Boot.{text_pages}
use Rattle.host_cpl3.specs.declared.view.View.{View}
use Rattle.machine_model.specs.State.{Setting, State, wedge_mode}
use Rattle.machine_model.specs.Instruction.{next_page, fetched}
use Rattle.native_steps.specs.Lends.{IsOpen, IsLent, Lends}
use Rattle.native_steps.specs.Mirrors.{IsWedge, Mirrors}
use Rattle.native_steps.specs.Backward.{IsReached}
use Rattle.native_steps.proofs.Pages.{At, IsFree, lent_entry, fetching_comes}
use Rattle.native_steps.proofs.HostParts.{Leads, leads_told, leads_from}
use Rattle.native_steps.proofs.Shown.{frame_apart, part_shown}
use Rattle.native_steps.proofs.Sharing.{given_there}
use Rattle.native_steps.proofs.Ways.{front_at, back_at, Way}
use Rattle.native_steps.proofs.Fetching.{Fetches, front_kept, fetching_went, IsFetch, IsIn, IsPast, fetch_parts, by_parts, same_value, same_space}

-- another predicate of pages
pub weaker : (P Q : ℕ → ℕ → Type 0) (ram : List ℕ) (eip : ℕ) (insn : Insn) (len : ℕ) → ((page frame : ℕ) → P page frame → Q page frame)
    → Way P ram eip insn len → Way Q ram eip insn len
weaker P Q ram eip insn len f (inl w) = inl (record { frame = w.frame; page = f (eip / 4096) w.frame w.page; is = w.is })
weaker P Q ram eip insn len f (inr w) =
    inr (record {
      frame = w.frame;
      page = f (eip / 4096) w.frame w.page;
      cut = w.cut;
      not_last = w.not_last;
      next = w.next;
      next_page = f (eip / 4096 + 1) w.next w.next_page;
      is = w.is;
    })

-- other bytes, the same in those pages
pub other_bytes : (P : ℕ → ℕ → Type 0) (x y : List ℕ) (eip : ℕ) (insn : Insn) (len : ℕ)
    → ((page frame o n : ℕ) → P page frame → o + n ≤ 4096 → part x (4096 * frame + o) n ≡ part y (4096 * frame + o) n)
    → Way P x eip insn len → Way P y eip insn len
other_bytes P x y eip insn len f (inl w) =
    inl (record {
      frame = w.frame;
      page = w.page;
      is = ap decoded (sym (f (eip / 4096) w.frame (eip % 4096) (front_len eip) w.page (omega arith))) ∙ w.is;
    })
other_bytes P x y eip insn len f (inr w) =
    let front : front_at x w.frame eip ≡ front_at y w.frame eip =
    f (eip / 4096) w.frame (eip % 4096) (front_len eip) w.page (omega arith) in
    let z : 4096 * w.next + 0 ≡ 4096 * w.next = omega arith in
    let back : back_at x w.next ≡ back_at y w.next = ap (λ (a : ℕ). part x a longest) (sym z)
    ∙ f (eip / 4096 + 1) w.next 0 longest w.next_page (omega arith) ∙ ap (λ (a : ℕ). part y a longest) z in
    inr (record {
      frame = w.frame;
      page = w.page;
      cut = ap decoded (sym front) ∙ w.cut;
      not_last = w.not_last;
      next = w.next;
      next_page = w.next_page;
      is = ap (λ (a : List ℕ). decoded (a ++ back_at y w.next)) (sym front)
          ∙ ap (λ (a : List ℕ). decoded (front_at x w.frame eip ++ a)) (sym back) ∙ w.is;
    })

-- the pages of code: at level 0 those of the window
abbrev pub IsCode : Bool → ℕ → Type 0
IsCode kernel page = kernel ≡ true → page < 0x11000

pub free_code : (m : Setting) (b : State) (kernel : Bool) (page frame : ℕ) → IsCode kernel page → IsOpen kernel m.image page frame
    → IsFree m b kernel true page frame
free_code m b false page frame code o = o
free_code m b true page frame code o = ap not (given_there m page frame (code refl) o)

module _ (m : Setting) (w : IsWedge m) (memory : List ℕ) (v : View) (b : State) (stands : Mirrors m memory v b)
    (lends : Lends m memory v.root v.kernel (wp_of b.cpu) b.set) where
  -- both fetch from the page, at this frame
  pub record FetchShares (page frame : ℕ) : Type 0 where
    pub leads : Leads memory v.root false page frame
    pub lent : IsLent m v.kernel (wp_of b.cpu) b.set false page frame
    pub fetches : Fetches m b v.kernel page frame

  pub fetch_shares : (page frame : ℕ) → page < 2 ^ 20 → IsCode v.kernel page → Leads memory v.root false page frame → FetchShares page frame
  fetch_shares page frame lt code e =
      let lent = lends.each page lt false frame (leads_told memory v.root page lt false frame e) in
      record {
        leads = e;
        lent = lent;
        fetches = record {
          entry = lent_entry m v.kernel (wp_of b.cpu) b.set false page frame lent;
          free = free_code m b v.kernel page frame code lent.is_open;
        };
      }

  pub guest_pages : (page frame : ℕ) → FetchShares page frame → Fetches m b v.kernel page frame
  guest_pages page frame s = s.fetches

  pub host_pages : (page frame : ℕ) → FetchShares page frame → Leads memory v.root false page frame
  host_pages page frame s = s.leads

  last_below : (eip : ℕ) → eip < 2 ^ 32 → (eip / 4096 == 1048575) ≡ false → eip / 4096 + 1 < 2 ^ 20
  last_below eip lt e =
      let other : eip / 4096 ≡ 1048575 → ⊥ = λ f. both_ways (eip / 4096 == 1048575) e (eq-eqb (eip / 4096) 1048575 f) in
      omega (arith, lt, other)

  -- what the host fetched
  pub from_host : (eip : ℕ) (insn : Insn) (len : ℕ) → eip < 2 ^ 32 → IsCode v.kernel (eip / 4096)
      → ((frame : ℕ) → FetchShares (eip / 4096) frame → decoded (front_at memory frame eip) ≡ begins.Short → IsCode v.kernel
      (eip / 4096 + 1)) → Way (Leads memory v.root false) memory eip insn len → Way FetchShares memory eip insn len
  from_host eip insn len lt one two (inl y) =
      inl (record { frame = y.frame; page = fetch_shares (eip / 4096) y.frame (omega (arith, lt)) one y.page; is = y.is })
  from_host eip insn len lt one two (inr y) =
      let page = fetch_shares (eip / 4096) y.frame (omega (arith, lt)) one y.page in
      inr (record {
        frame = y.frame;
        page = page;
        cut = y.cut;
        not_last = y.not_last;
        next = y.next;
        next_page = fetch_shares (eip / 4096 + 1) y.next (last_below eip lt y.not_last) (two y.frame page y.cut) y.next_page;
        is = y.is;
      })

  here : (x : ℕ) → Contains (x ∷ []) x
  here x = (0, omega arith, refl)

  next_is : (eip : ℕ) → next_page eip / 4096 ≡ eip / 4096 + 1
  next_is eip = omega arith

  next_place : (eip frame : ℕ) → 4096 * frame + next_page eip % 4096 ≡ 4096 * frame
  next_place eip frame = omega arith

  -- what the guest fetched, through pages that the host's tables have too
  pub from_guest : (s t : Space) (eip : ℕ) (insn : Insn) (len : ℕ) → At m b s → eip < 2 ^ 32 → IsCode v.kernel (eip / 4096)
      → ((frame : ℕ) → FetchShares (eip / 4096) frame → decoded (front_at b.ram frame eip) ≡ begins.Short → IsCode
      v.kernel (eip / 4096 + 1))
      → ((page : ℕ) → Contains t.visited page → IsReached memory v.root false page)
      → fetched (not v.kernel) eip s ≡ Ok (begins.Insn insn len, t) → Way FetchShares b.ram eip insn len
  from_guest s t eip insn len h lt one two pages e =
      let p = fetch_parts (not v.kernel) eip insn len s t e in
      by_end p (by_parts (not v.kernel) eip insn len p.front p.first t (decoded p.front) refl p.goes_on)
    where
      by_end : (p : IsFetch (not v.kernel) eip insn len s t) → IsIn eip insn len p.front p.first t
          ⊎ IsPast (not v.kernel) eip insn len p.front p.first t → Way FetchShares b.ram eip insn len
      by_end p (inl x) =
          let visited : t.visited ≡ s.visited ++ (eip / 4096) ∷ [] =
          x.visited ∙ fetching_went (not v.kernel) eip (front_len eip) s p.front p.first p.reads in
          let r =
          pages (eip / 4096) (subst (λ (l : List ℕ). Contains l (eip / 4096)) (sym visited)
          (Contains-append_right s.visited ((eip / 4096) ∷ []) (eip / 4096) (here (eip / 4096)))) in
          let f = fetch_shares (eip / 4096) r.0 (omega (arith, lt)) one
          (leads_from memory v.root (eip / 4096) (omega (arith, lt)) false r.0 r.1) in
          let c = fetching_comes m b v.kernel s eip (front_len eip) r.0 h f.fetches.entry f.fetches.free in
          let bytes : front_at b.ram r.0 eip ≡ p.front = same_value (front_at b.ram r.0 eip) p.front c.space p.first (sym c.is ∙ p.reads) in
          inl (record { frame = r.0; page = f; is = ap decoded bytes ∙ x.is })
      by_end p (inr x) =
          let first_went = fetching_went (not v.kernel) eip (front_len eip) s p.front p.first p.reads in
          let visited : t.visited ≡ (s.visited ++ (eip / 4096) ∷ []) ++ (next_page eip / 4096) ∷ [] =
          x.on.visited ∙ ap (λ (l : List ℕ). l ++ (next_page eip / 4096) ∷ []) first_went in
          let r = pages (eip / 4096) (subst (λ (l : List ℕ). Contains l (eip / 4096)) (sym visited)
          (Contains-append_left (s.visited ++ (eip / 4096) ∷ []) ((next_page eip / 4096) ∷ []) (eip / 4096)
          (Contains-append_right s.visited ((eip / 4096) ∷ []) (eip / 4096) (here (eip / 4096))))) in
          let q = pages (next_page eip / 4096) (subst (λ (l : List ℕ). Contains l (next_page eip / 4096)) (sym visited)
          (Contains-append_right (s.visited ++ (eip / 4096) ∷ []) ((next_page eip / 4096) ∷ []) (next_page eip / 4096)
          (here (next_page eip / 4096)))) in
          let f = fetch_shares (eip / 4096) r.0 (omega (arith, lt)) one
          (leads_from memory v.root (eip / 4096) (omega (arith, lt)) false r.0 r.1) in
          let c = fetching_comes m b v.kernel s eip (front_len eip) r.0 h f.fetches.entry f.fetches.free in
          let bytes : front_at b.ram r.0 eip ≡ p.front = same_value (front_at b.ram r.0 eip) p.front c.space p.first (sym c.is ∙ p.reads) in
          let g = fetch_shares (eip / 4096 + 1) q.0 (last_below eip lt x.not_last) (two r.0 f (ap decoded bytes ∙ x.cut))
          (leads_from memory v.root (eip / 4096 + 1) (last_below eip lt x.not_last) false q.0
          (subst (λ (k : ℕ). reached memory (length memory / 4096) v.root k false ≡ Some q.0) (next_is eip) q.1)) in
          let first_at : At m b p.first =
          subst (At m b) (same_space (front_at b.ram r.0 eip) p.front c.space p.first (sym c.is ∙ p.reads)) c.at in
          let k = front_kept m b v.kernel eip (front_len eip) p.first first_at in
          let before_at : At m b x.on.before = subst (At m b) (same_space tt tt k.space x.on.before (sym k.is ∙ x.on.owns)) k.at in
          let g2 : Fetches m b v.kernel (next_page eip / 4096) q.0 =
          subst (λ (n : ℕ). Fetches m b v.kernel n q.0) (sym (next_is eip)) g.fetches in
          let d = fetching_comes m b v.kernel x.on.before (next_page eip) longest q.0 before_at g2.entry g2.free in
          let more : back_at b.ram q.0 ≡ x.on.more =
          ap (λ (a : ℕ). part b.ram a longest) (sym (next_place eip q.0))
          ∙ same_value (part b.ram (4096 * q.0 + next_page eip % 4096) longest) x.on.more d.space x.on.after (sym d.is ∙ x.on.reads) in
          inr (record {
            frame = r.0;
            page = f;
            cut = ap decoded bytes ∙ x.cut;
            not_last = x.not_last;
            next = q.0;
            next_page = g;
            is = ap (λ (a : List ℕ). decoded (a ++ back_at b.ram q.0)) bytes ∙ ap (λ (a : List ℕ). decoded (p.front ++ a)) more ∙ x.on.is;
          })

  -- at level 3 both have the same bytes
  pub user_bytes : v.kernel ≡ false → (page frame o n : ℕ) → FetchShares page frame → o + n ≤ 4096
      → part b.ram (4096 * frame + o) n ≡ part memory (4096 * frame + o) n
  user_bytes user page frame o n s le =
      let lent = s.lent in
      let plain : is_text (wedge_mode m.image) frame ≡ false = subst (λ (k : Bool). IsOpen k m.image page frame) user lent.is_open in
      let lt = lent.within in
      ap (λ (x : List ℕ). part x (4096 * frame + o) n) stands.ram ∙ part_shown m w memory stands.host (4096 * frame + o) n
      (omega (arith, lt, le)) (frame_apart m frame o n plain le)

  -- the frame that the loader gave
  pub given_frame : v.kernel ≡ true → (page frame : ℕ) → page < 0x11000 → FetchShares page frame → frame ≡ 0x100 + (page - 65536)
  given_frame kernel page frame lt s =
      let open1 : IsOpen true m.image page frame = subst (λ (k : Bool). IsOpen k m.image page frame) kernel s.lent.is_open in
      let p = and_parts (nat_le 65536 page && nat_lt page (65536 + text_pages m.image)) (frame == 0x100 + (page - 65536))
      (given_there m page frame lt open1) in
      eqb-true frame (0x100 + (page - 65536)) p.1
