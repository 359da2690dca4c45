-- What a step's translations grant, and the effect over them.
use Rattle.descriptors.specs.declared.cpu.Cpu.{Cpu}
use Rattle.descriptors.specs.Controls.{wp_of}
use Rattle.std.proofs.Common.{◌++◌, ◌≡◌, ℕ, zero, suc, ◌+◌, ◌-◌, ◌/◌, ◌<◌, ◌≤◌, List, [], ◌∷◌, length, Bool, true, false, cond, not, ◌==◌, Option, Some, None, Ok, refl, sym, ap, subst, ◌∙◌, ◌⊎◌, inl, inr, arith}
use Rattle.std.specs.Prelude.{slice_index_or}
use Rattle.std.specs.List.{Contains}
use Rattle.std.specs.FinMap.{FinMap, get}
use Rattle.std.specs.Ordering.{nat_cmp}
use Rattle.std.proofs.lemmas.List.Elements.{Contains-append_left, Contains-append_right, Contains-push}
use Rattle.std.proofs.lemmas.Bool.{eqb-true, not-false}
use Rattle.guest_ram.specs.Bytes.{byte}
use Rattle.ia32_types.specs.declared.insn.Insn.{Insn}
use Rattle.ia32_exec.specs.declared.access.Range.{Range}
use Rattle.ia32_exec.specs.declared.selectors.Selectors.{Selectors}
use Rattle.ia32_exec.specs.Effect.{ranges_of}
use Rattle.ia32_exec.specs.UserEffect.{user_effect}
use Rattle.ia32_exec.specs.Short.{IsShort}
use Rattle.paging.specs.declared.entry.Entry.{Entry}
use Rattle.paging.specs.Space.{Space, place, place_by, byte_at, with_ram, frame_by, frames_of}
use Rattle.paging.specs.Uses.{is_barred, is_given}
use Rattle.step_exec.specs.Plain.{reached, is_in}
use Rattle.step_exec.specs.Divided as divided
use Rattle.step_exec.specs.Users as users
use Rattle.host_cpl3.specs.declared.view.View.{View}
use Rattle.host_cpl3.specs.Views.{selectors_of}
use Rattle.image_check.specs.Image.{Image}
use Rattle.machine_model.specs.State.{Setting, State, wedge_mode}
use Rattle.machine_model.specs.Instruction.{next_page}
use Rattle.native_steps.specs.Lends.{IsOpen}
use Rattle.native_steps.specs.Native.{byte_of, effect_of}
use Rattle.native_steps.specs.Backward.{IsTranslated}
use Rattle.native_steps.specs.Again.{settled}
use Rattle.native_steps.specs.Granted.{IsGranted, IsRangeGranted, AreGranted, Leaves}
use Rattle.native_steps.proofs.Clear.{uses_of, AreClear}
use Rattle.native_steps.proofs.Pages.{HasEntry}
use Rattle.native_steps.proofs.Ways.{Way}
use Rattle.native_steps.proofs.Fetching.{Fetches}
use Rattle.native_steps.proofs.Uses.{reaching_earlier, went_by, range_went}
use Rattle.native_steps.proofs.Wrote.{Wrote, range_wrote}
use Rattle.native_steps.proofs.Together.{level_user}
use Rattle.native_steps.proofs.WentPages.{went_of}
use Rattle.native_steps.proofs.Ranging.{HasRange, HasRanges, last_is}
use Rattle.native_steps.proofs.Repeated as again

-- ---- where a page that isn't barred may lead

open_of : (image : Image) (fetch kernel : Bool) (page frame : ℕ) → is_barred (wedge_mode image) fetch (not kernel) page frame ≡ false
    → (kernel ≡ true → fetch ≡ false → 0x11000 ≤ page) → IsOpen kernel image page frame
open_of image false false page frame e above = e
open_of image true false page frame e above = e
open_of image false true page frame e above = inr (above refl refl, e)
open_of image true true page frame e above = inl (not-false (is_given (wedge_mode image) page frame) e)

granted : (image : Image) (kernel wp : Bool) (s : Space) (write fetch : Bool) (page frame : ℕ) → HasEntry kernel wp s.set write page frame
    → is_barred (wedge_mode image) fetch (not kernel) page frame ≡ false
    → (kernel ≡ true → fetch ≡ false → 0x11000 ≤ page) → (write ≡ true → Contains s.wrote frame) → Contains s.visited page
    → IsGranted image kernel wp s write page
granted image kernel wp s write fetch page frame h free above told through = record {
  entry = h.entry;
  kept = h.kept;
  allowed = h.allowed;
  is_open = subst (IsOpen kernel image page) (sym h.frame_is) (open_of image fetch kernel page frame free above);
  through = through;
  told = λ w. subst (Contains s.wrote) (sym h.frame_is) (told w);
}

-- ---- lists

head_cases : (x : ℕ) (xs : List ℕ) (y : ℕ) → Contains (x ∷ xs) y → (x ≡ y) ⊎ Contains xs y
head_cases x xs y c = by c.0 c.1 c.2
  where
    by : (n : ℕ) → n < length (x ∷ xs) → slice_index_or (x ∷ xs) n y ≡ y → (x ≡ y) ⊎ Contains xs y
    by zero lt is = inl is
    by (suc n) lt is = inr (n, omega (arith, lt), is)

no_more : (y : ℕ) → Contains {X = ℕ} [] y → ⊥
no_more y c = let lt = c.1 in omega (arith, lt)

-- ---- the frames of a range for a write

frame_is : (kernel wp : Bool) (set : FinMap nat_cmp Entry) (write : Bool) (page frame : ℕ) → HasEntry kernel wp set write page frame
    → frame_by (get set page) ≡ frame
frame_is kernel wp set write page frame h = ap frame_by h.kept ∙ h.frame_is

first_noted : (s : Space) (at len frame : ℕ) → frame_by (get s.set (at / 4096)) ≡ frame → Contains (frames_of s at len) frame
first_noted s at len frame e = (0, omega arith, e)

last_noted : (s : Space) (at len frame : ℕ) → frame_by (get s.set ((at + len - 1) / 4096)) ≡ frame → Contains (frames_of s at len) frame
last_noted s at len frame e = choice ((at + len - 1) / 4096 == at / 4096) refl
  where
    choice : (one : Bool) → ((at + len - 1) / 4096 == at / 4096) ≡ one
        → Contains (frame_by (get s.set (at / 4096)) ∷ cond one [] (frame_by (get s.set ((at + len - 1) / 4096)) ∷ [])) frame
    choice true is = (0, omega arith, ap (λ p. frame_by (get s.set p)) (sym (eqb-true ((at + len - 1) / 4096) (at / 4096) is)) ∙ e)
    choice false is = (1, omega arith, e)

noted : (s : Space) (at len frame : ℕ) → Wrote at len s → Contains (frames_of s at len) frame → Contains s.wrote frame
noted s at len frame w c = subst (λ (l : List ℕ). Contains l frame) (sym w.is) (Contains-append_right w.before (frames_of s at len) frame c)

-- ---- the pages of a range

by_one : (one : Bool) (visited : List ℕ) (first last q : ℕ) → Contains (visited ++ first ∷ []) q
    → Contains (cond one (visited ++ first ∷ []) ((visited ++ first ∷ []) ++ last ∷ [])) q
by_one true visited first last q c = c
by_one false visited first last q c = Contains-append_left (visited ++ first ∷ []) (last ∷ []) q c

goes_on : (visited : List ℕ) (at len q : ℕ) → Contains visited q → Contains (went_by visited at len) q
unfolding went_by
goes_on visited at len q c = by_one ((at + len - 1) / 4096 == at / 4096) visited (at / 4096) ((at + len - 1) / 4096) q
    (Contains-append_left visited ((at / 4096) ∷ []) q c)

first_in : (visited : List ℕ) (at len : ℕ) → Contains (went_by visited at len) (at / 4096)
unfolding went_by
first_in visited at len =
    by_one ((at + len - 1) / 4096 == at / 4096) visited (at / 4096) ((at + len - 1) / 4096) (at / 4096) (Contains-push visited (at / 4096))

last_in : (visited : List ℕ) (at len : ℕ) → Contains (went_by visited at len) ((at + len - 1) / 4096)
unfolding went_by
last_in visited at len = choice ((at + len - 1) / 4096 == at / 4096) refl
  where
    choice : (one : Bool) → ((at + len - 1) / 4096 == at / 4096) ≡ one
        → Contains (cond one (visited ++ (at / 4096) ∷ []) ((visited ++ (at / 4096) ∷ []) ++ ((at + len - 1) / 4096) ∷ []))
        ((at + len - 1) / 4096)
    choice true is = subst (Contains (visited ++ (at / 4096) ∷ [])) (sym (eqb-true ((at + len - 1) / 4096) (at / 4096) is))
        (Contains-push visited (at / 4096))
    choice false is = Contains-push (visited ++ (at / 4096) ∷ []) ((at + len - 1) / 4096)

still_in : (cpu : Cpu) (s t : Space) (write : Bool) (o : Option Range) (q : ℕ) → reached cpu write o s ≡ Ok (tt, t) → Contains s.visited q
    → Contains t.visited q
still_in cpu s t write None q e c = let p : ◌≡◌ {A = Unit {0} × Space} (tt, s) (tt, t) =
    cc in subst (λ (x : Space). Contains x.visited q) (ap (λ (y : Unit {0} × Space). y.1) p) c
still_in cpu s t write (Some r) q e c = subst (λ (l : List ℕ). Contains l q)
    (sym (range_went s t r.at r.len (record { write = write; user = cpu.cpl == 3 }) e)) (goes_on s.visited r.at r.len q c)

module _ (m : Setting) (v : View) (b : State) (known : again.Grounds m v b) where
  module _ (insn : Insn) (len : ℕ) (fetch read write : Space) (t : IsTranslated m b insn len fetch read write)
      (clear : AreClear b.set (b.cpu.cpl == 3) (wp_of b.cpu) [] (uses_of fetch.visited (ranges_of insn b.cpu.regs))) where
    abbrev reads : Option Range
    reads = (ranges_of insn b.cpu.regs).read

    abbrev writes : Option Range
    writes = (ranges_of insn b.cpu.regs).write

    abbrev Granted : Bool → ℕ → Type 0
    Granted w page = IsGranted m.image v.kernel (wp_of b.cpu) write w page

    user : (b.cpu.cpl == 3) ≡ not v.kernel
    user = level_user v.kernel b.cpu.cpl known.sees.level

    -- ---- the fetch

    fetched_page : (page frame : ℕ) → Fetches m (settled b write) v.kernel page frame → Contains write.visited page → Granted false page
    fetched_page page frame f there = granted m.image v.kernel (wp_of b.cpu) write false true page frame f.entry f.free
        (λ k e. absurd (let g : true ≡ false = e in cc)) (λ e. absurd (let g : false ≡ true = e in cc)) there

    next_is : next_page b.cpu.regs.eip / 4096 ≡ b.cpu.regs.eip / 4096 + 1
    next_is = omega arith

    by_way : (y : Way (Fetches m (settled b write) v.kernel) write.ram b.cpu.regs.eip insn len) (page : ℕ)
        → Contains (went_of b.cpu.regs.eip y) page → Contains write.visited page → Granted false page
    by_way (inl w) page c there =
        elim (head_cases (b.cpu.regs.eip / 4096) [] page c) [
          | inl e ↦ subst (Granted false) e
              (fetched_page (b.cpu.regs.eip / 4096) w.frame w.page (subst (Contains write.visited) (sym e) there))
          | inr none ↦ absurd (no_more page none)
        ]
    by_way (inr w) page c there =
        elim (head_cases (b.cpu.regs.eip / 4096) ((next_page b.cpu.regs.eip / 4096) ∷ []) page c) [
          | inl e ↦ subst (Granted false) e
              (fetched_page (b.cpu.regs.eip / 4096) w.frame w.page (subst (Contains write.visited) (sym e) there))
          | inr d ↦
              elim (head_cases (next_page b.cpu.regs.eip / 4096) [] page d) [
                | inl e ↦ subst (Granted false) (sym next_is ∙ e)
                    (fetched_page (b.cpu.regs.eip / 4096 + 1) w.next w.next_page
                    (subst (Contains write.visited) (sym (sym next_is ∙ e)) there))
                | inr none ↦ absurd (no_more page none)
              ]
        ]

    abbrev first : again.Began m v b known insn len fetch
    first = again.first m v b known insn len fetch read write t clear

    fetch_granted : (page : ℕ) → Contains fetch.visited page → Granted false page
    fetch_granted page c =
        let way = first.way write (again.whole m v b known insn len fetch read write t clear) in
        let pages = first.way_pages write (again.whole m v b known insn len fetch read write t clear) in
        by_way way page (subst (λ (l : List ℕ). Contains l page) (first.visited ∙ sym pages) c)
        (still_in b.cpu read write true writes page t.write (still_in b.cpu fetch read false reads page t.read c))

    -- ---- ranges

    range_granted : (w : Bool) (r : Range) → 1 ≤ r.len → HasRange m v b write w r
        → (w ≡ true → Wrote r.at r.len write) → Contains write.visited (r.at / 4096) → Contains write.visited ((r.at + r.len - 1) / 4096)
        → IsRangeGranted m.image v.kernel (wp_of b.cpu) write w (Some r)
    range_granted w r some h wrote there last_there = (
      granted m.image v.kernel (wp_of b.cpu) write w false (r.at / 4096) h.first h.has_first h.free_first
          (λ k e. let a = h.above k in omega (arith, a))
          (λ e. noted write r.at r.len h.first (wrote e)
          (first_noted write r.at r.len h.first (frame_is v.kernel (wp_of b.cpu) write.set w (r.at / 4096) h.first h.has_first))) there,
      subst (Granted w) (last_is m v b r some)
          (granted m.image v.kernel (wp_of b.cpu) write w false ((r.at + r.len - 1) / 4096) h.last_frame h.has_last h.free_last
          (λ k e. let a = h.above k in omega (arith, a, some))
          (λ e. noted write r.at r.len h.last_frame (wrote e)
          (last_noted write r.at r.len h.last_frame
          (frame_is v.kernel (wp_of b.cpu) write.set w ((r.at + r.len - 1) / 4096) h.last_frame h.has_last))) last_there),
    )

    read_granted : (o : Option Range) → IsShort o → HasRanges m v b write false o
        → reached b.cpu false o fetch ≡ Ok (tt, read) → IsRangeGranted m.image v.kernel (wp_of b.cpu) write false o
    unfolding HasRanges
    read_granted None short h e = tt
    read_granted (Some r) short h e =
        let visited = range_went fetch read r.at r.len (record { write = false; user = b.cpu.cpl == 3 }) e in
        range_granted false r short.0 h (λ x. absurd (let g : false ≡ true = x in cc))
        (still_in b.cpu read write true writes (r.at / 4096) t.write
        (subst (λ (l : List ℕ). Contains l (r.at / 4096)) (sym visited) (first_in fetch.visited r.at r.len)))
        (still_in b.cpu read write true writes ((r.at + r.len - 1) / 4096) t.write
        (subst (λ (l : List ℕ). Contains l ((r.at + r.len - 1) / 4096)) (sym visited) (last_in fetch.visited r.at r.len)))

    write_granted : (o : Option Range) → IsShort o → HasRanges m v b write true o
        → reached b.cpu true o read ≡ Ok (tt, write) → IsRangeGranted m.image v.kernel (wp_of b.cpu) write true o
    unfolding HasRanges
    write_granted None short h e = tt
    write_granted (Some r) short h e =
        let visited = range_went read write r.at r.len (record { write = true; user = b.cpu.cpl == 3 }) e in
        range_granted true r short.0 h (λ x. range_wrote read write r.at r.len (b.cpu.cpl == 3) e)
        (subst (λ (l : List ℕ). Contains l (r.at / 4096)) (sym visited) (first_in read.visited r.at r.len))
        (subst (λ (l : List ℕ). Contains l ((r.at + r.len - 1) / 4096)) (sym visited) (last_in read.visited r.at r.len))

    short : IsShort reads × IsShort writes
    short = again.short m v b known insn len fetch read write t clear

    all_granted : AreGranted m.image v.kernel (wp_of b.cpu) write fetch.visited (ranges_of insn b.cpu.regs)
    all_granted = record {
      fetch = fetch_granted;
      read = read_granted reads short.0 (again.read_end m v b known insn len fetch read write t clear)
          t.read;
      write =
          write_granted writes short.1 (again.write_end m v b known insn len fetch read write t clear)
          t.write;
    }

    -- ---- the effect

    earlier_same : (x : ℕ) (set : FinMap nat_cmp Entry) → set ≡ read.set → byte_at (record write { set = set }) x ≡ byte_at
        (with_ram read write.ram) x
    unfolding byte_at place
    earlier_same x set e = ap (λ (y : FinMap nat_cmp Entry). byte write.ram (place_by (get y (x / 4096)) x)) e

    same_unread : (x : ℕ) → read ≡ write → byte_at write x ≡ byte_at (with_ram read write.ram) x
    same_unread x e = ap (λ (s : Space). byte_at (with_ram s write.ram) x) (sym e)

    as_read_same : (o : Option Range) (x : ℕ) → reached b.cpu true o read ≡ Ok (tt, write)
        → byte_at (divided.as_read o write) x ≡ byte_at (with_ram read write.ram) x
    as_read_same None x e = let p : ◌≡◌ {A = Unit {0} × Space} (tt, read) (tt, write) =
        cc in same_unread x (ap (λ (q : Unit {0} × Space). q.1) p)
    as_read_same (Some r) x e =
        earlier_same x write.earlier.set (reaching_earlier read write r.at r.len (record { write = true; user = b.cpu.cpl == 3 }) e)

    ready_bytes : (x : ℕ) → divided.byte_of (ranges_of insn b.cpu.regs) write x ≡ byte_of (settled b write) x
    ready_bytes x =
        ap (λ y. cond (is_in reads x) y (byte_at write x)) (as_read_same writes x t.write)
        ∙ again.bytes_same m v b known insn len fetch read write t clear x

    selectors_same : users.selectors_of b.cpu ≡ selectors_of v
    selectors_same = λ i. record { es = sym known.sees.es i; cs = sym known.sees.cs i; ss = sym known.sees.ss i; ds = sym known.sees.ds i }

    effect_same : user_effect (users.selectors_of b.cpu) insn len b.cpu.regs (divided.byte_of (ranges_of insn b.cpu.regs) write) ≡ effect_of
        v (settled b write) insn len
    effect_same =
        ap (λ (g : Selectors). user_effect g insn len b.cpu.regs (divided.byte_of (ranges_of insn b.cpu.regs) write)) selectors_same
        ∙ known.flags.same (divided.byte_of (ranges_of insn b.cpu.regs) write) (byte_of (settled b write)) (selectors_of v) insn len
        b.cpu.regs first.shape
        (again.all m v b known insn len fetch read write t clear
        (λ x. divided.byte_of (ranges_of insn b.cpu.regs) write x ≡ byte_of (settled b write) x) reads ready_bytes)
        (again.all m v b known insn len fetch read write t clear
        (λ x. divided.byte_of (ranges_of insn b.cpu.regs) write x ≡ byte_of (settled b write) x) writes ready_bytes)

    pub leaves : Leaves m v b insn len fetch write
    leaves = record {
      granted = all_granted;
      effect = effect_same;
      step = again.outcome m v b known insn len fetch read write t clear;
    }
