-- What the host is asked to do, it completes as the guest's step does it.
use Rattle.std.proofs.Common.{◌≡◌, ℕ, suc, ◌+◌, ◌-◌, ◌*◌, ◌/◌, ◌^◌, ◌<◌, ◌≤◌, List, [], ◌∷◌, ◌++◌, length, length-append, Bool, true, false, cond, ◌&&◌, ◌||◌, not, ◌==◌, ◌⊎◌, inl, inr, Option, Some, None, Ok, refl, sym, ap, subst, ◌∙◌, arith}
use Rattle.std.specs.Prelude.{nat_le, slice_index_or}
use Rattle.std.specs.List.{Contains}
use Rattle.std.specs.FinMap.{get}
use Rattle.std.proofs.lemmas.List.{append_cancel_right}
use Rattle.std.proofs.lemmas.List.Elements.{Contains-append_cases}
use Rattle.descriptors.specs.Controls.{wp_of}
use Rattle.guest_ram.specs.Bytes.{AreBytes}
use Rattle.ia32_types.specs.declared.insn.Insn.{Insn}
use Rattle.ia32_decode.specs.declared.answer.Decoded.TheVariants as begins
use Rattle.ia32_decode.specs.Decoding.{decoded}
use Rattle.ia32_decode.specs.Front.{front_len}
use Rattle.ia32_exec.specs.declared.access.Range.{Range}
use Rattle.ia32_exec.specs.declared.access.Ranges.{Ranges}
use Rattle.ia32_exec.specs.declared.outcome.Outcome.TheVariants as outcomes
use Rattle.ia32_exec.specs.Effect.{ranges_of}
use Rattle.ia32_exec.specs.Short.{IsShort}
use Rattle.paging.specs.declared.entry.Entry.{Entry}
use Rattle.paging.specs.Reached.{reached}
use Rattle.paging.specs.Space.{Space}
use Rattle.paging.specs.Uses.{is_text, is_given}
use Rattle.image_check.specs.Image.{Image}
use Rattle.image_load.specs.Boot.{text_pages}
use Rattle.host_cpl3.specs.declared.view.View.{View}
use Rattle.host_cpl3.specs.Access.{last_page}
use Rattle.shadow_tables.specs.Host.{lent}
use Rattle.shadow_tables.specs.Slots.{Slot, is_user}
use Rattle.shadow_tables.specs.declared.words.Side.{Side}
use Rattle.shadow_tables.specs.declared.words.Side.TheVariants.{Kernel, User}
use Rattle.step_mem.specs.Changes as changes
use Rattle.step_mem.specs.declared.changes.Change.{Change}
use Rattle.machine_model.specs.State.{Setting, State, space_at_start, wedge_mode}
use Rattle.machine_model.specs.Clash.{instruction_clashes}
use Rattle.machine_model.specs.Instruction.{next_page, fetched}
use Rattle.machine_model.specs.Step.{Report, Went, stepped, unheld}
use Rattle.machine_model.specs.UsedPages.{may_use}
use Rattle.native_steps.specs.Again as again
use Rattle.native_steps.specs.Again.{Again, StepsAgain, settled}
use Rattle.native_steps.specs.Backward.{NativeCompletes, Completes, IsTranslated, AreReached}
use Rattle.native_steps.specs.Forward.{IsNext}
use Rattle.native_steps.specs.Granted.{IsGranted, IsRangeGranted, AreGranted, Leaves, Grants}
use Rattle.native_steps.specs.Lends.{Lends, IsOpen}
use Rattle.native_steps.specs.Native.{effect_of}
use Rattle.native_steps.specs.Mirrors.{IsWedge, Sees, Mirrors}
use Rattle.native_steps.proofs.Fetching.{IsFetch, IsIn, IsPast, fetch_parts, by_parts, fetching_went}
use Rattle.native_steps.proofs.Short.{ranges_short}
use Rattle.native_steps.proofs.Uses.{went_by}
use Rattle.native_steps.proofs.WentPages.{went_after, range_goes}
use Rattle.wedge_mem.specs.Settled.{pages_of}
use Rattle.wedge_core.specs.Attempts.{Asks}
use Rattle.wedge_step.specs.declared.running.Lost.{Lost}
use Rattle.wedge_step.specs.Closed.{MayClose, Closes}
use Rattle.wedge_step.specs.Opened.{is_entry_open}
use Rattle.wedge_step.specs.Standing.{is_kernel, side_of}
use Rattle.wedge_core.specs.Tries.{IsPrepared}
use Rattle.wedge_core.specs.Views.{view_by}
use Rattle.wedge_core.proofs.Reaching.{all_reached}
use Rattle.wedge_core.proofs.Seeing.{side_is}
use Rattle.wedge_step.proofs.Behind.{contains_among}
use Rattle.wedge_step.proofs.AmongPages.{told_among, among_contains, among_first, used_within}

-- ---- pages of ranges

InRange : Option Range → ℕ → Type 0
InRange None q = ⊥
InRange (Some r) q = (q ≡ r.at / 4096) ⊎ (q ≡ last_page r)

one_there : (x y : ℕ) → Contains (x ∷ []) y → y ≡ x
one_there x y c = by c.0 c.1 c.2
  where
    by : (n : ℕ) → n < length (x ∷ []) → slice_index_or (x ∷ []) n y ≡ y → y ≡ x
    by Rattle.std.proofs.Common.zero lt is = sym is
    by (suc n) lt is = absurd (omega (arith, lt))

last_is : (r : Range) → 1 ≤ r.len → (r.at + r.len - 1) / 4096 ≡ last_page r
last_is r some = omega (arith, some)

in_after : (visited : List ℕ) (o : Option Range) (q : ℕ) → IsShort o → Contains (went_after visited o) q → Contains visited q ⊎ InRange o q
unfolding went_after InRange
in_after visited None q short c = inl c
in_after visited (Some r) q short c = choice ((r.at + r.len - 1) / 4096 == r.at / 4096) (unfold went_by in c)
  where
    first : Contains (visited ++ (r.at / 4096) ∷ []) q → Contains visited q ⊎ ((q ≡ r.at / 4096) ⊎ (q ≡ last_page r))
    first d =
        elim (Contains-append_cases visited ((r.at / 4096) ∷ []) q d) [ inl x ↦ inl x | inr y ↦ inr (inl (one_there (r.at / 4096) q y)) ]

    choice : (one : Bool) → Contains
        (cond one (visited ++ (r.at / 4096) ∷ []) ((visited ++ (r.at / 4096) ∷ []) ++ ((r.at + r.len - 1) / 4096) ∷ [])) q
        → Contains visited q ⊎ ((q ≡ r.at / 4096) ⊎ (q ≡ last_page r))
    choice true d = first d
    choice false d =
        elim (Contains-append_cases (visited ++ (r.at / 4096) ∷ []) (((r.at + r.len - 1) / 4096) ∷ []) q d) [
          | inl x ↦ first x
          | inr y ↦ inr (inr (one_there ((r.at + r.len - 1) / 4096) q y ∙ last_is r short.0))
        ]

after_few : (visited : List ℕ) (o : Option Range) → length (went_after visited o) ≤ length visited + 2
unfolding went_after went_by
after_few visited None = omega arith
after_few visited (Some r) = choice ((r.at + r.len - 1) / 4096 == r.at / 4096)
  where
    choice : (one : Bool) → length
        (cond one (visited ++ (r.at / 4096) ∷ []) ((visited ++ (r.at / 4096) ∷ []) ++ ((r.at + r.len - 1) / 4096) ∷ []))
        ≤ length visited + 2
    choice true = let x = length-append visited ((r.at / 4096) ∷ []) in omega (arith, x)
    choice false =
        let x = length-append visited ((r.at / 4096) ∷ []) in
        let y = length-append (visited ++ (r.at / 4096) ∷ []) (((r.at + r.len - 1) / 4096) ∷ []) in
        omega (arith, x, y)

-- what came before a range follows from what came with it
after_cancel : (xs ys : List ℕ) (o : Option Range) → went_after xs o ≡ went_after ys o → xs ≡ ys
unfolding went_after went_by
after_cancel xs ys None e = e
after_cancel xs ys (Some r) e = choice ((r.at + r.len - 1) / 4096 == r.at / 4096) e
  where
    choice : (one : Bool) → cond one (xs ++ (r.at / 4096) ∷ []) ((xs ++ (r.at / 4096) ∷ []) ++ ((r.at + r.len - 1) / 4096) ∷ []) ≡ cond one
        (ys ++ (r.at / 4096) ∷ []) ((ys ++ (r.at / 4096) ∷ []) ++ ((r.at + r.len - 1) / 4096) ∷ [])
        → xs ≡ ys
    choice true f = append_cancel_right xs ys ((r.at / 4096) ∷ []) f
    choice false f =
        append_cancel_right xs ys ((r.at / 4096) ∷ [])
        (append_cancel_right (xs ++ (r.at / 4096) ∷ []) (ys ++ (r.at / 4096) ∷ []) (((r.at + r.len - 1) / 4096) ∷ []) f)

fetch_few : (user : Bool) (eip : ℕ) (insn : Insn) (len : ℕ) (s t : Space) → s.visited ≡ []
    → fetched user eip s ≡ Ok (begins.Insn insn len, t) → length t.visited ≤ 2
fetch_few user eip insn len s t none e =
    let p = fetch_parts user eip insn len s t e in
    by_end p (by_parts user eip insn len p.front p.first t (decoded p.front) refl p.goes_on)
  where
    first_long : (p : IsFetch user eip insn len s t) → length p.first.visited ≡ 1
    first_long p =
        ap length (fetching_went user eip (front_len eip) s p.front p.first p.reads ∙ ap (λ (l : List ℕ). l ++ (eip / 4096) ∷ []) none)

    by_end : (p : IsFetch user eip insn len s t) → IsIn eip insn len p.front p.first t ⊎ IsPast user eip insn len p.front p.first t
        → length t.visited ≤ 2
    by_end p (inl x) = let a = ap length x.visited in let f = first_long p in omega (arith, a, f)
    by_end p (inr x) =
        let a = ap length x.on.visited in
        let c = length-append p.first.visited ((next_page eip / 4096) ∷ []) in
        let f = first_long p in
        omega (arith, a, c, f)

-- ---- the view may show what was granted

has_tables_under : (image : Image) (side : Side) (page frame : ℕ) → IsOpen (is_kernel side) image page frame
    → may_use (wedge_mode image) (is_user side) page frame ≡ true
has_tables_under image User page frame h = ap not h
has_tables_under image Kernel page frame (inl g) = ap (λ (b : Bool). b || (nat_le 0x11000 page && not (is_text (wedge_mode image) frame))) g
has_tables_under image Kernel page frame (inr p) =
    ap (λ (b : Bool). is_given (wedge_mode image) page frame || (b && not (is_text (wedge_mode image) frame)))
    (Rattle.std.proofs.lemmas.Bool.le-leb 0x11000 page p.0)
    ∙ ap (λ (b : Bool). is_given (wedge_mode image) page frame || not b) p.1
    ∙ or_true (is_given (wedge_mode image) page frame)
  where
    or_true : (b : Bool) → (b || true) ≡ true
    or_true true = refl
    or_true false = refl

entry_open : (image : Image) (side : Side) (frames : ℕ) (s : Space) (wp write : Bool) (page : ℕ) → changes.AreWithin frames s.set
    → IsGranted image (is_kernel side) wp s write page → is_entry_open (text_pages image) side (get s.set page) ≡ true
entry_open image side frames s wp write page within g =
    let page_is : g.entry.page ≡ page = (within page g.entry g.kept).0 in
    ap (is_entry_open (text_pages image) side) g.kept ∙ has_tables_under image side g.entry.page g.entry.frame
    (subst (λ (p : ℕ). IsOpen (is_kernel side) image p g.entry.frame) (sym page_is) g.is_open)

-- ---- the step

module _ (grants : Grants) (repeats : Again) (completes : NativeCompletes) (m : Setting) (w : IsWedge m) (directory : Side → ℕ) (b : State)
    (room : 4096 * m.frames ≤ length b.ram) (fit : AreBytes b.ram) (sound : again.AreWithin m b.set)
    (sees : Sees (view_by directory b.cpu) b.cpu) (next : IsNext m (not (b.cpu.cpl == 3)) b) (small : b.cpu.regs.eip < 2 ^ 32)
    (t : Space) (p : IsPrepared (unheld b) (space_at_start m.mode m.frames b.cpu b.ram b.set) t) (clear : instruction_clashes m b ≡ false)
  where
    abbrev v : View
    v = view_by directory b.cpu

    abbrev side : Side
    side = side_of (b.cpu.cpl == 3)

    abbrev ranges : Ranges
    ranges = ranges_of p.insn b.cpu.regs

    translated : IsTranslated m b p.insn p.len p.after_fetch p.after_read t
    translated =
        record { fetched = p.fetches; permitted = p.permits; plain = p.plain; segments = p.segments; read = p.reads; write = p.writes }

    left : Leaves m (view_by directory b.cpu) b p.insn p.len p.after_fetch t
    left = grants m v b w.mode room fit sound sees next small p.insn p.len p.after_fetch p.after_read t translated clear

    same_again : StepsAgain m (view_by directory b.cpu) b p.insn p.len t
    same_again = repeats m v b w.mode room fit sound sees next small p.insn p.len p.after_fetch p.after_read t translated clear

    granted : AreGranted m.image (is_kernel (side_of (b.cpu.cpl == 3))) (wp_of b.cpu) t p.after_fetch.visited (ranges_of p.insn b.cpu.regs)
    granted = subst (λ (k : Bool). AreGranted m.image k (wp_of b.cpu) t p.after_fetch.visited (ranges_of p.insn b.cpu.regs))
        (sym (side_is b.cpu)) left.granted

    goes : t.visited ≡ went_after (went_after p.after_fetch.visited ranges.read) ranges.write
    goes = range_goes b.cpu p.after_read t true ranges.write p.writes
        ∙ ap (λ (l : List ℕ). went_after l ranges.write) (range_goes b.cpu p.after_fetch p.after_read false ranges.read p.reads)

    few : length t.visited ≤ 6
    few =
        let a = ap length goes in
        let f = fetch_few (b.cpu.cpl == 3) b.cpu.regs.eip p.insn p.len (space_at_start m.mode m.frames b.cpu b.ram b.set)
        p.after_fetch refl p.fetches in
        let r = after_few p.after_fetch.visited ranges.read in
        let x = after_few (went_after p.after_fetch.visited ranges.read) ranges.write in
        omega (arith, a, f, r, x)

    page_open : (frames q : ℕ) → changes.AreWithin frames t.set → Contains t.visited q
        → is_entry_open (text_pages m.image) (side_of (b.cpu.cpl == 3)) (get t.set q) ≡ true
    unfolding InRange
    page_open frames q within c =
        let short = ranges_short p.insn b.cpu.regs in
        elim (in_after (went_after p.after_fetch.visited ranges.read) ranges.write q short.1
        (subst (λ (l : List ℕ). Contains l q) goes c)) [
          | inl d ↦ elim (in_after p.after_fetch.visited ranges.read q short.0 d) [
            | inl f ↦ entry_open m.image side frames t (wp_of b.cpu) false q within (granted.fetch q f)
            | inr r ↦ by_range false ranges.read granted.read r
          ]
          | inr x ↦ by_range true ranges.write granted.write x
        ]
      where
        by_range : (write : Bool) (o : Option Range) → IsRangeGranted m.image (is_kernel side) (wp_of b.cpu) t write o → InRange o q
            → is_entry_open (text_pages m.image) side (get t.set q) ≡ true
        by_range write None g i = absurd i
        by_range write (Some r) g (inl e) = entry_open m.image side frames t (wp_of b.cpu) write q within
            (subst (IsGranted m.image (is_kernel side) (wp_of b.cpu) t write) (sym e) g.0)
        by_range write (Some r) g (inr e) = entry_open m.image side frames t (wp_of b.cpu) write q within
            (subst (IsGranted m.image (is_kernel side) (wp_of b.cpu) t write) (sym e) g.1)

    pub may_close : (frames count free : ℕ) (cs : List Change) → changes.AreToldIn t.visited cs → count ≡ text_pages m.image
        → changes.AreWithin frames t.set → 8 ≤ free → MayClose count (side_of (b.cpu.cpl == 3)) t.set (pages_of t.visited cs) free
    may_close frames count free cs told count_is within enough = record {
      open_to = λ q h. subst (λ (n : ℕ). is_entry_open n (side_of (b.cpu.cpl == 3)) (get t.set q) ≡ true) (sym count_is)
          (page_open frames q within (among_contains t.visited q (told_among t.visited cs told q h)));
      room = (let u = used_within t.set (pages_of t.visited cs) t.visited (told_among t.visited cs told) in let f = few in
          omega (arith, u, f, enough));
    }

    effect_is : effect_of (view_by directory b.cpu) (settled b t) p.insn p.len ≡ outcomes.Done p.regs p.stores
    effect_is = sym left.effect ∙ p.effect

    -- what the step reports is what was done for it here
    pub reports : (report : Report) (after : State) → stepped m b ≡ Went report after → (report.pages ≡ t.visited)
        × (report.tables ≡ t.tables) × (report.wrote ≡ t.wrote)
    reports report after e = same_again.reported p.regs p.stores effect_is report after e

    -- ---- the pages are filled

    module _ (old new : ℕ → Option Slot) (cs : List Change) (write_protected : List ℕ) (memory : List ℕ)
        (closes : Closes old new t.set (pages_of t.visited cs) (side_of (b.cpu.cpl == 3)) (wp_of b.cpu) write_protected t.wrote)
        (beyond : (page : ℕ) → 2 ^ 20 ≤ page → get t.set page ≡ None)
        (host : (page : ℕ) (write : Bool) → page < 2 ^ 20 → reached memory (length memory / 4096) (directory (side_of (b.cpu.cpl == 3)))
        page write ≡ lent (length memory / 4096) (new page) (side_of (b.cpu.cpl == 3)) write)
        (within : (page : ℕ) (entry : Entry) → get t.set page ≡ Some entry → entry.frame < length memory / 4096)
        (stands : Mirrors m memory (view_by directory b.cpu) (settled b t))
        (lends : Lends m memory (directory (side_of (b.cpu.cpl == 3))) (not (b.cpu.cpl == 3)) (wp_of b.cpu) t.set)
      where
        reached_all : AreReached memory (directory (side_of (b.cpu.cpl == 3))) p.after_fetch.visited (ranges_of p.insn b.cpu.regs)
        reached_all =
            all_reached m.image side (wp_of b.cpu) t old new (pages_of t.visited cs) write_protected memory (directory side) closes
            (λ q c. among_first q t.visited _ (contains_among t.visited q c)) beyond host within p.after_fetch.visited ranges granted

        fetched_same : p.after_fetch.visited ≡ same_again.fetched.visited
        fetched_same =
            let a = same_again in
            let both : went_after (went_after p.after_fetch.visited ranges.read) ranges.write ≡ went_after
            (went_after a.fetched.visited ranges.read) ranges.write =
            sym goes
            ∙ (sym a.visited
            ∙ (range_goes b.cpu a.reads a.writes true ranges.write a.translated.write ∙ ap (λ (l : List ℕ). went_after l ranges.write)
            (range_goes b.cpu a.fetched a.reads false ranges.read a.translated.read))) in
            after_cancel p.after_fetch.visited a.fetched.visited ranges.read
            (after_cancel (went_after p.after_fetch.visited ranges.read) (went_after a.fetched.visited ranges.read) ranges.write both)

        next_there : IsNext m (not (b.cpu.cpl == 3)) (settled b t)
        next_there = record { awake = next.awake; quiet = next.quiet; small = next.small; start = next.start; outside = next.outside }

        completed : Completes m memory (view_by directory b.cpu) (settled b t) p.regs
        completed =
            let a = same_again in
            completes m memory v (settled b t) w stands lends next_there p.insn p.len a.fetched a.reads a.writes a.translated
            (subst (λ (l : List ℕ). AreReached memory (directory (side_of (b.cpu.cpl == 3))) l (ranges_of p.insn b.cpu.regs)) fetched_same
            reached_all) p.regs p.stores effect_is

        pub asks : (lost : Lost) → (lost.after ≡ false) × (lost.reloaded ≡ false) → (after : State) → after ≡ settled b t
            → Asks m (view_by directory b.cpu) b false lost after memory
        asks lost kept after e = subst (λ (x : State). Asks m (view_by directory b.cpu) b false lost x memory) (sym e) (record {
          kept = kept;
          regs = p.regs;
          completes = completed;
          same = λ report then went. (t.tables, t.wrote, same_again.same p.regs p.stores effect_is report then went);
        })
