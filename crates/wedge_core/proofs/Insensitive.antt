-- What is fetched at level 0 at a start outside sites is the instruction of the text that stands there.
use Rattle.std.proofs.Common.{◌≡◌, ℕ, suc, ◌+◌, ◌-◌, ◌*◌, ◌/◌, ◌%◌, ◌^◌, ◌<◌, ◌≤◌, List, [], ◌∷◌, ◌++◌, length, Bool, true, false, cond, ◌&&◌, not, ◌==◌, ◌⊎◌, inl, inr, Option, Some, None, Ok, refl, sym, ap, subst, ◌∙◌, arith}
use Rattle.std.specs.Prelude.{nat_lt, nat_le, slice_index_or}
use Rattle.std.specs.List.{Contains}
use Rattle.std.specs.FinMap.{get}
use Rattle.guest_ram.specs.Bytes.{AreBytes, byte, part, word32}
use Rattle.ia32_types.specs.Site.{kind_of}
use Rattle.ia32_types.specs.declared.stop.Stop.TheVariants as stops
use Rattle.ia32_types.specs.declared.insn.Insn.{Insn}
use Rattle.ia32_decode.specs.declared.answer.Decoded.TheVariants as begins
use Rattle.ia32_decode.specs.Decoding.{decoded}
use Rattle.ia32_decode.specs.Front.{longest, front_len}
use Rattle.paging.specs.declared.entry.Entry.{Entry}
use Rattle.paging.specs.declared.entry.Touch.{Touch}
use Rattle.paging.specs.declared.entry.Touch.TheVariants.{Ready, Stop}
use Rattle.paging.specs.Fresh.{has, dir_place, is_large}
use Rattle.paging.specs.Space.{Mode, Space, place}
use Rattle.paging.specs.Uses.{Tables, tables_of, Decision, is_text, is_given, is_barred, walks_text, decided, usable, by_entry, page_uses, and_then, unready, made_ready, fetches, with_front}
use Rattle.image_load.specs.Boot.{text_pages}
use Rattle.image_check.specs.Image.{Image}
use Rattle.image_check.specs.Standing.{site_at, StandsOutside}
use Rattle.machine_model.specs.State.{Setting, State, wedge_mode, space_at_start}
use Rattle.machine_model.specs.Instruction.{next_page, fetching, fetched}
use Rattle.machine_model.proofs.Walked.{dir_frame, word_frame}
use Rattle.native_steps.specs.Mirrors.{IsWedge, IsHost, shown}
use Rattle.native_steps.specs.Forward.{IsNext}
use Rattle.native_steps.specs.TextLaws.{TextLaws}
use Rattle.native_steps.specs.Again as again
use Rattle.native_steps.proofs.Completing.{start_there}
use Rattle.native_steps.proofs.Fetching.{Fetches, IsFetch, IsIn, IsPast, fetch_parts, by_parts}
use Rattle.native_steps.proofs.Marks.{flagged_kept}
use Rattle.native_steps.proofs.Repeating.{start_in, part_same, front_is, owns_in, in_way, left_is, left_in, across_way}
use Rattle.native_steps.proofs.Shown.{text_shown}
use Rattle.native_steps.proofs.Standing.{way_to}
use Rattle.native_steps.proofs.Through.{Through, through_same, within_as, taken_parts, on_ready, pair, fetch_through}
use Rattle.native_steps.proofs.Walking.{IsWithin, IsServed, decided_readied}
use Rattle.native_steps.proofs.Walks.{IsWalk, ByTable, Large, walk_parts, walk_in}
use Rattle.native_steps.proofs.Ways.{Way}
use Rattle.native_steps.proofs.TextWalks.{decided_clear}
use Rattle.std.proofs.lemmas.Bool.{and_parts, not-false, or_parts, both_ways, eqb-true, eq-eqb, leb-true, le-leb, lt-ltb}

-- ---- the frames of the text stay

second_of : (x y z : Bool) → x ≡ true → y ≡ true → (x && (y && z)) ≡ false → z ≡ false
second_of true true z e f g = g
second_of false y z e f g = absurd cc
second_of true false z e f g = absurd cc

last_of : (x y : Bool) → x ≡ false → (not x && y) ≡ false → y ≡ false
last_of false y e g = g
last_of true y e g = absurd cc

-- the words of a walk lie in frames that hold no text; that of a page of 4 MB is one
roots_apart : (s : Tables) (page : ℕ) → walks_text s page ≡ false → (is_text s.mode (s.cr3 / 4096) ≡ false)
    × (s.cr3 / 4096 < s.frames → has (word32 s.ram (dir_place s.cr3 page)) 1 ≡ true → is_large s.pse (word32 s.ram (dir_place s.cr3 page))
    ≡ false → is_text s.mode (word32 s.ram (dir_place s.cr3 page) / 4096) ≡ false)
unfolding walks_text
roots_apart s page e =
    let dir : ℕ = word32 s.ram (dir_place s.cr3 page) in
    let p = or_parts (is_text s.mode (s.cr3 / 4096)) _ e in (
      p.0,
      λ lt h small. last_of (is_large s.pse dir) (is_text s.mode (dir / 4096)) small
          (second_of (nat_lt (s.cr3 / 4096) s.frames) (has dir 1) _ (lt-ltb (s.cr3 / 4096) s.frames lt) h p.1),
    )

places_apart : (s : Tables) (page : ℕ) (e : Entry) (d t : ℕ) → page < 2 ^ 20 → walks_text s page ≡ false
    → IsWalk s.ram s.frames s.cr3 s.pse page e d t → (is_text s.mode (d / 4096) ≡ false) × (is_text s.mode (t / 4096) ≡ false)
places_apart s page e d t small apart (ByTable h) =
    let p = roots_apart s page apart in (
      ap (λ (n : ℕ). is_text s.mode (n / 4096)) (sym h.dir_is) ∙ (ap (is_text s.mode) (dir_frame s.cr3 page small) ∙ p.0),
      ap (λ (n : ℕ). is_text s.mode (n / 4096)) (sym h.word_is)
          ∙ (ap (is_text s.mode) (word_frame (word32 s.ram (dir_place s.cr3 page)) page) ∙ p.1 h.root h.present h.small),
    )
places_apart s page e d t small apart (Large h) =
    let free = ap (is_text s.mode) (dir_frame s.cr3 page small) ∙ (roots_apart s page apart).0 in
    (ap (λ (n : ℕ). is_text s.mode (n / 4096)) (sym h.dir_is) ∙ free, ap (λ (n : ℕ). is_text s.mode (n / 4096)) (sym h.word_is) ∙ free)

module _ (m : Setting) (b : State) where
  abbrev In : Space → Type 0
  In = IsWithin m b true

  abbrev IsTextAt : ℕ → Type 0
  IsTextAt k = is_text (wedge_mode m.image) (k / 4096) ≡ true

  record KeepsText (s t : Space) : Type 0 where
    long : length t.ram ≡ length s.ram
    same : (k : ℕ) → is_text (wedge_mode m.image) (k / 4096) ≡ true → byte t.ram k ≡ byte s.ram k

  keeps_ram : (s t : Space) → t.ram ≡ s.ram → KeepsText s t
  keeps_ram s t e = record { long = ap length e; same = λ k h. ap (λ (x : List ℕ). byte x k) e }

  keeps_on : (s t u : Space) → KeepsText s t → KeepsText t u → KeepsText s u
  keeps_on s t u h k = record { long = k.long ∙ h.long; same = λ q x. k.same q x ∙ h.same q x }

  off_text : (s : Space) → In s → (k d : ℕ) → IsTextAt k → is_text s.mode (d / 4096) ≡ false → k ≡ d → ⊥
  off_text s h k d text free e =
      both_ways (is_text s.mode (d / 4096)) free
      (ap (λ (z : Mode). is_text z (d / 4096)) h.mode ∙ (ap (λ (n : ℕ). is_text (wedge_mode m.image) (n / 4096)) (sym e) ∙ text))

  page_text : (s t : Space) (fetch : Bool) (page at : ℕ) (write : Bool) → In s → page < 2 ^ 20
      → page_uses s fetch page at (record { write = write; user = false }) ≡ (Ready, t) → (k : ℕ) → IsTextAt k → byte t.ram k ≡ byte s.ram k
  unfolding page_uses
  page_text s t fetch page at write h small e k text = by_usable (usable (get s.set page) (record { write = write; user = false }) s.wp) e
    where
      choice : (barred : Bool)
          → cond {A = Touch × Space} barred (Stop stops.TextMapped, record s { pages = s.pages + 1; visited = s.visited ++ page ∷ [] })
          (Ready, record s { pages = s.pages + 1; visited = s.visited ++ page ∷ [] }) ≡ (Ready, t) → byte t.ram k ≡ byte s.ram k
      choice true x = absurd (let f : Stop stops.TextMapped ≡ Ready = ap (λ (o : Touch × Space). o.0) x in cc)
      choice false x = ap (λ (o : Touch × Space). byte o.1.ram k) (sym x)

      by_usable : (o : Option Entry) → by_entry (record s { pages = s.pages + 1; visited = s.visited ++ page ∷ [] }) fetch page at
          (record { write = write; user = false }) o ≡ (Ready, t) → byte t.ram k ≡ byte s.ram k
      by_usable (Some entry) x = choice (is_barred s.mode fetch false page entry.frame) x
      by_usable None x =
          let met : (decided (tables_of s) fetch page at (record { write = write; user = false })).met ≡ Ready =
          ap (λ (o : Touch × Space). o.0) x in
          let r = decided_readied (tables_of s) fetch page at (record { write = write; user = false }) met in
          let apart = decided_clear (tables_of s) fetch page at (record { write = write; user = false }) met in
          let walk = walk_parts s.ram s.frames s.cr3 s.pse page r.entry r.dir_at r.word_at r.found in
          let there = walk_in s.ram s.frames s.cr3 s.pse page r.entry r.dir_at r.word_at small walk in
          let free = places_apart (tables_of s) page r.entry r.dir_at r.word_at small apart walk in
          let d_in = there.dir_within in
          let w_in = there.word_within in
          let room : 4096 * s.frames ≤ length s.ram = (let a = h.room in let f = h.frames in omega (arith, a, f)) in
          let kept = flagged_kept s.ram r.dir_at r.word_at write there.dir_even there.word_even (omega (arith, d_in, room))
          (omega (arith, w_in, room)) h.fit k
          (λ f. absurd (off_text s h k r.dir_at text free.0 f)) (λ f. absurd (off_text s h k r.word_at text free.1 f)) in
          ap (λ (o : Touch × Space). byte o.1.ram k) (sym x) ∙ (ap (λ (z : Decision). byte z.ram k) r.is ∙ kept)

  none_there : (q : ℕ) → Contains {X = ℕ} [] q → ⊥
  none_there q c = let lt = c.1 in omega (arith, lt)

  fetching_text : (s t : Space) (at len : ℕ) (bytes : List ℕ) → In s → at / 4096 < 2 ^ 20
      → fetching false at len s ≡ Ok (bytes, t) → KeepsText s t
  unfolding fetching fetches
  fetching_text s t at len bytes h small e =
      let p = taken_parts m b true at len (fetches s at len false).0 (fetches s at len false).1 bytes t e in
      let o : Touch × Space = page_uses (unready s) true (at / 4096) at (record { write = false; user = false }) in
      let whole : and_then o (made_ready at len false) ≡ (Ready, t) =
      pair m b true (fetches s at len false) p.0 ∙ ap (λ (x : Space). (Ready, x)) p.1.1 in
      let q = on_ready m b true o (made_ready at len false) t whole in
      let th = fetch_through m b true [] s t at len bytes h small (λ c. absurd (none_there (at / 4096) c)) e in
      let quiet = within_as m b true s (unready s) h refl refl refl refl refl refl h.own h.mode in
      record {
        long = th.through.marks.long;
        same = λ k text. ap (λ (x : Touch × Space). byte x.1.ram k) (sym q.1) ∙ page_text (unready s) o.1 true (at / 4096) at false quiet
            small (pair m b true o q.0) k text;
      }

-- ---- the instruction that is fetched

-- the frame that the loader gave
given : (image : Image) (page frame : ℕ) → is_given (wedge_mode image) page frame ≡ true → (65536 ≤ page) × (frame ≡ 0x100 + (page - 65536))
given image page frame e =
    let p = and_parts (nat_le 65536 page && nat_lt page (65536 + text_pages image)) (frame == 0x100 + (page - 65536)) e in
    let q = and_parts (nat_le 65536 page) (nat_lt page (65536 + text_pages image)) p.0 in
    (leb-true 65536 page q.0, eqb-true frame (0x100 + (page - 65536)) p.1)

module _ (m : Setting) (w : IsWedge m) (memory : List ℕ) (host : IsHost m memory) (b : State) (ram_is : b.ram ≡ shown m memory)
    (room : 4096 * m.frames ≤ length b.ram) (fit : AreBytes b.ram) (sound : again.AreWithin m b.set)
    (small : b.cpu.regs.eip < 2 ^ 32) (laws : TextLaws m.image) (next : IsNext m true b)
  where
    abbrev start : Space
    start = space_at_start m.mode m.frames b.cpu b.ram b.set

    abbrev P : Space → ℕ → ℕ → Type 0
    P t = Fetches m (again.settled b t) true

    fetched_there : (t : Space) (page frame : ℕ) → P t page frame → (65536 ≤ page) × (frame ≡ 0x100 + (page - 65536))
    fetched_there t page frame f = given m.image page frame (not-false (is_given (wedge_mode m.image) page frame) f.free)

    text_at : (k : ℕ) → 0x100000 ≤ k → k < 0x100000 + length m.image.text → is_text (wedge_mode m.image) (k / 4096) ≡ true
    text_at k le lt = ap (λ (x : Bool). x && nat_lt (k / 4096) (0x100 + text_pages m.image)) (le-leb 0x100 (k / 4096) (omega (arith, le)))
        ∙ lt-ltb (k / 4096) (0x100 + text_pages m.image) (omega (arith, le, lt))

    same_text : (t : Space) → KeepsText m b start t → (at n : ℕ) → at + n ≤ length m.image.text
        → part t.ram (0x100000 + at) n ≡ part m.image.text at n
    same_text t h at n le =
        part_same t.ram b.ram (0x100000 + at) n h.long (λ k low high. h.same k (text_at k (omega (arith, low)) (omega (arith, high, le))))
        ∙ (ap (λ (x : List ℕ). part x (0x100000 + at) n) ram_is ∙ text_shown m w memory host at n le)

    is_swept : (t : Space) (insn : Insn) (len : ℕ) → KeepsText m b start t → Way (P t) t.ram b.cpu.regs.eip insn len
        → kind_of insn.op ≡ None
    is_swept t insn len kept way =
        let there = start_there m.image laws b.cpu.regs.eip (next.start refl) in
        let s = laws.instruction (b.cpu.regs.eip - 0x10000000) there.1 in
        let above = there.0 in
        let is = s.2 in
        let place : b.cpu.regs.eip ≡ 0x10000000 + (s.0).at = omega (arith, above, is) in
        let sizes = laws.room s.0 s.1 in
        let outside : StandsOutside m.image s.0 = record { stands = s.1; outside = ap (site_at m.image.sites) is ∙ next.outside refl } in
        let x = way_to m.image.text t.ram (length m.image.text) (same_text t kept) (s.0).at (s.0).len (s.0).insn sizes.0 sizes.1 sizes.2
        w.accepted.within.text.1
        (laws.whole s.0 s.1 (s.0).len (omega arith)) (laws.cut s.0 s.1) (P t)
        (λ frame f. let g = fetched_there t ((0x10000000 + (s.0).at) / 4096) frame f in let one = g.0 in let two = g.1 in
        omega (arith, one, two))
        (λ frame following lt f k.
        let g = fetched_there t ((0x10000000 + (s.0).at) / 4096) frame f in
        let i = fetched_there t ((0x10000000 + (s.0).at) / 4096 + 1) following k in
        let one = g.1 in
        let two = i.1 in
        let low = g.0 in
        omega (arith, one, two, low))
        insn len (subst (λ (n : ℕ). Way (P t) t.ram n insn len) place way) in
        ap (λ (i : Insn). kind_of i.op) x.insn_is ∙ laws.insensitive s.0 outside

    abbrev Th : List ℕ → Space → Space → Type 0
    Th = Through m b true

    moved : (ps : List ℕ) (s t : Space) → s ≡ t → Th ps t t → Th ps s t
    moved ps s t e th = subst (λ (x : Space). Th ps x t) (sym e) th

    page_small : b.cpu.regs.eip / 4096 < 2 ^ 20
    page_small = omega (arith, small)

    no_more : (q : ℕ) → Contains {X = ℕ} [] q → ⊥
    no_more q c = let lt = c.1 in omega (arith, lt)

    other_page : Contains ((b.cpu.regs.eip / 4096) ∷ []) (next_page b.cpu.regs.eip / 4096) → ⊥
    other_page c = by c.0 c.1 c.2
      where
        by : (n : ℕ) → n < length ((b.cpu.regs.eip / 4096) ∷ []) → slice_index_or ((b.cpu.regs.eip / 4096) ∷ []) n
            (next_page b.cpu.regs.eip / 4096) ≡ next_page b.cpu.regs.eip / 4096 → ⊥
        by Rattle.std.proofs.Common.zero lt is = let e : b.cpu.regs.eip / 4096 ≡ next_page b.cpu.regs.eip / 4096 = is in omega (arith, e)
        by (suc n) lt is = omega (arith, lt)

    pub insensitive : (insn : Insn) (len : ℕ) (t : Space) → fetched false b.cpu.regs.eip (space_at_start m.mode m.frames b.cpu b.ram b.set)
        ≡ Ok (begins.Insn insn len, t) → kind_of insn.op ≡ None
    insensitive insn len t e =
        let p = fetch_parts false b.cpu.regs.eip insn len start t e in
        by_end p (by_parts false b.cpu.regs.eip insn len p.front p.first t (decoded p.front) refl p.goes_on)
      where
        begun : In m b start
        begun = start_in m b true w.mode room fit sound small

        first_keeps : (p : IsFetch false b.cpu.regs.eip insn len start t) → KeepsText m b start p.first
        first_keeps p = fetching_text m b start p.first b.cpu.regs.eip (front_len b.cpu.regs.eip) p.front begun page_small p.reads

        first_in : (p : IsFetch false b.cpu.regs.eip insn len start t) → In m b p.first
        first_in p =
            (fetch_through m b true [] start p.first b.cpu.regs.eip (front_len b.cpu.regs.eip) p.front begun page_small
            (λ c. absurd (no_more (b.cpu.regs.eip / 4096) c)) p.reads).through.within

        owning_in : (p : IsFetch false b.cpu.regs.eip insn len start t) (n : ℕ)
            → In m b (record p.first { mode = with_front p.first.mode (place p.first b.cpu.regs.eip) n })
        owning_in p n =
            let v = first_in p in
            within_as m b true p.first (record p.first { mode = with_front p.first.mode (place p.first b.cpu.regs.eip) n }) v refl
            refl refl refl refl refl
            (record { front = place p.first b.cpu.regs.eip; front_len = n; back = 0; back_len = 0 })
            (ap (λ (y : Mode). with_front y (place p.first b.cpu.regs.eip) n) v.mode)

        by_end : (p : IsFetch false b.cpu.regs.eip insn len start t) → IsIn b.cpu.regs.eip insn len p.front p.first t
            ⊎ IsPast false b.cpu.regs.eip insn len p.front p.first t → kind_of insn.op ≡ None
        by_end p (inl x) =
            let is = owns_in m b true w.mode room fit sound small insn len t p x in
            let there = subst (In m b) is (owning_in p len) in
            is_swept t insn len (keeps_on m b start p.first t (first_keeps p)
            (keeps_ram m b p.first t (ap (λ (z : Space). z.ram) (sym is))))
            (inl (in_way m b true w.mode room fit sound small insn len t p x t
            (moved ((b.cpu.regs.eip / 4096) ∷ []) _ t is (through_same m b true ((b.cpu.regs.eip / 4096) ∷ []) t there))))
        by_end p (inr x) =
            let served : Contains ((b.cpu.regs.eip / 4096) ∷ []) (next_page b.cpu.regs.eip / 4096)
            → IsServed m b true (next_page b.cpu.regs.eip / 4096) false = λ c. absurd (other_page c) in
            let is = left_is m b true w.mode room fit sound small insn len t p x served in
            let there = subst (In m b) is (left_in m b true w.mode room fit sound small insn len t p x served) in
            let owned = front_is b.cpu.regs.eip (front_len b.cpu.regs.eip) p.first x.on.before tt x.on.owns in
            let before_in = subst (In m b) owned (owning_in p (front_len b.cpu.regs.eip)) in
            let last : b.cpu.regs.eip / 4096 ≡ 1048575 → ⊥ =
            λ f. both_ways (b.cpu.regs.eip / 4096 == 1048575) x.not_last (eq-eqb (b.cpu.regs.eip / 4096) 1048575 f) in
            let second = fetching_text m b x.on.before x.on.after (next_page b.cpu.regs.eip) longest x.on.more before_in
            (omega (arith, small, last)) x.on.reads in
            is_swept t insn len
            (keeps_on m b start p.first t (first_keeps p)
            (keeps_on m b p.first x.on.before t (keeps_ram m b p.first x.on.before (ap (λ (z : Space). z.ram) (sym owned)))
            (keeps_on m b x.on.before x.on.after t second (keeps_ram m b x.on.after t (ap (λ (z : Space). z.ram) (sym is))))))
            (inr (across_way m b true w.mode room fit sound small insn len t p x served t
            (moved ((next_page b.cpu.regs.eip / 4096) ∷ (b.cpu.regs.eip / 4096) ∷ []) _ t is
            (through_same m b true ((next_page b.cpu.regs.eip / 4096) ∷ (b.cpu.regs.eip / 4096) ∷ []) t there))))
