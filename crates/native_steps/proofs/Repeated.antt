-- A step done again from where its translations lead.
use Rattle.std.proofs.Common.{◌≡◌, ℕ, ◌+◌, ◌-◌, ◌*◌, ◌/◌, ◌^◌, ◌<◌, ◌≤◌, List, [], ◌∷◌, ◌++◌, length, map, Bool, true, false, cond, not, ◌==◌, Option, Some, None, Ok, refl, sym, ap, subst, ◌∙◌, ◌⊎◌, inl, inr, arith}
use Rattle.std.specs.Prelude.{nat_le, nat_lt}
use Rattle.std.specs.List.{Contains}
use Rattle.std.specs.FinMap.{FinMap, get}
use Rattle.std.specs.Ordering.{nat_cmp}
use Rattle.std.proofs.lemmas.Bool.{and_parts, false_from_ne_true, leb-true, ltb-true, both_ways}
use Rattle.descriptors.specs.Controls.{wp_of}
use Rattle.guest_ram.specs.Bytes.{AreBytes, byte}
use Rattle.ia32_types.specs.declared.flags.Regs.{Regs}
use Rattle.ia32_types.specs.declared.insn.Insn.{Insn}
use Rattle.ia32_types.specs.Shape.{IsShaped}
use Rattle.ia32_decode.specs.declared.answer.Decoded.TheVariants as begins
use Rattle.ia32_decode.specs.Decoding.{decoded}
use Rattle.ia32_exec.specs.declared.outcome.Outcome as exec
use Rattle.ia32_exec.specs.declared.outcome.Outcome.TheVariants as outcomes
use Rattle.ia32_exec.specs.declared.outcome.Stores.{Stores}
use Rattle.ia32_exec.specs.declared.outcome.Stores.TheVariants.{Nothing}
use Rattle.ia32_types.specs.declared.stop.Stop.{Stop}
use Rattle.ia32_types.specs.declared.stop.Stop.TheVariants as stops
use Rattle.sys_exec.specs.declared.effect.SysEffect.TheVariants as effects
use Rattle.ia32_exec.specs.declared.access.Range.{Range}
use Rattle.ia32_exec.specs.Readable.{Covers}
use Rattle.ia32_exec.specs.Short.{IsShort}
use Rattle.ia32_exec.specs.Commit.{list_of}
use Rattle.ia32_exec.specs.UserEffect.{user_effect}
use Rattle.ia32_exec.specs.Effect.{ranges_of}
use Rattle.paging.specs.declared.entry.Entry.{Entry}
use Rattle.paging.specs.Space.{Mode, no_own, Space, place, place_by, byte_at, with_ram}
use Rattle.sys_exec.specs.Access.{reaching}
use Rattle.native_steps.specs.EffectLaws.{EffectLaws}
use Rattle.step_exec.specs.Users.{user_finished}
use Rattle.step_exec.specs.Plain.{reached, is_in, byte_by}
use Rattle.native_steps.proofs.Short.{ranges_short}
use Rattle.host_cpl3.specs.declared.view.View.{View}
use Rattle.host_cpl3.specs.Permit.{permitted}
use Rattle.host_cpl3.specs.Views.{selectors_of}
use Rattle.host_cpl3.specs.Access.{last_page}
use Rattle.host_cpl3.specs.Store.{all_stored}
use Rattle.machine_model.specs.State.{Setting, State, wedge_mode, space_at_start}
use Rattle.ia32_decode.specs.Front.{front_len}
use Rattle.machine_model.specs.Instruction.{next_page, fetched}
use Rattle.machine_model.specs.Step.{Result, Report, Went, Halts, after_instruction, begun, after_fetch, unheld, stepped}
use Rattle.native_steps.specs.Mirrors.{Sees}
use Rattle.native_steps.specs.Native.{byte_of, effect_of}
use Rattle.native_steps.specs.Forward.{IsNext}
use Rattle.native_steps.specs.Backward.{IsTranslated}
use Rattle.native_steps.specs.Again.{AreWithin, settled, StepsAgain}
use Rattle.native_steps.proofs.Clear.{Use, used, range_uses, uses_of, AreClear}
use Rattle.native_steps.proofs.Pages.{At, Comes, HasEntry, range_passes, reaching_comes}
use Rattle.native_steps.proofs.Ways.{Way}
use Rattle.native_steps.proofs.Doing.{IsUser, IsPopFlags, instructed_is, nothing_reached}
use Rattle.native_steps.proofs.Fetching.{Fetches, IsFetch, IsIn, IsPast, fetch_parts, by_parts, fetching_went, fetched_comes}
use Rattle.native_steps.proofs.Stored.{stored_is}
use Rattle.native_steps.proofs.Shaped.{decoded_shaped}
use Rattle.native_steps.proofs.Walking.{IsWithin, IsServed}
use Rattle.native_steps.proofs.Through.{after, before_after, clear_split, within_as, Through, through_on, through_same, range_through}
use Rattle.native_steps.proofs.Repeating.{first_through, in_way, owns_in, across_way, left_is, left_in}
use Rattle.native_steps.proofs.Ranging.{RangeOf, Ranged, HasRange, HasRanges, last_is, later, has_now, has_later, places_same, past_at, past_in}
use Rattle.native_steps.proofs.WentPages.{went_of, way_went, went_after, range_goes}
use Rattle.native_steps.proofs.Together.{level_user, stepped_by, by_op_is, selects_by, without_rights, not_soft, no_pop}

-- a result with other notes of walks and writes
abbrev renoted : List ℕ → List ℕ → Result → Result
renoted tables wrote (Went report b) = Went (record report { tables = tables; wrote = wrote }) b
renoted tables wrote (Halts stop) = Halts stop

-- what a result reports, or this
abbrev report_in : Report → Result → Report
report_in other (Went report b) = report
report_in other (Halts stop) = other

halts_or_went : (stop : Stop) (report : Report) (b : State) → Halts stop ≡ Went report b → ⊥
halts_or_went stop report b e = cc

-- what is known of a step's start
pub record Grounds (m : Setting) (v : View) (b : State) : Type 0 where
  pub flags : EffectLaws
  pub mode : m.mode ≡ wedge_mode m.image
  pub room : 4096 * m.frames ≤ length b.ram
  pub fit : AreBytes b.ram
  pub sound : AreWithin m b.set
  pub sees : Sees v b.cpu
  pub next : IsNext m v.kernel b
  pub small : b.cpu.regs.eip < 2 ^ 32

module _ (m : Setting) (v : View) (b : State) (known : Grounds m v b) where
  user : (b.cpu.cpl == 3) ≡ not v.kernel
  user = level_user v.kernel b.cpu.cpl known.sees.level

  abbrev start : Space
  start = space_at_start m.mode m.frames b.cpu b.ram b.set

  abbrev Th : List ℕ → Space → Space → Type 0
  Th = Through m b v.kernel

  abbrev Clear : List ℕ → List Use → Type 0
  Clear ps us = AreClear b.set (not v.kernel) (wp_of b.cpu) ps us

  abbrev HasIt : Space → Bool → ℕ → ℕ → Type 0
  HasIt s write page frame = HasEntry v.kernel (wp_of b.cpu) s.set write page frame

  -- ---- the fetch

  pub record Began (insn : Insn) (len : ℕ) (t : Space) : Type 0 where
    pub within : IsWithin m b v.kernel t
    pub pages : List ℕ
    pub visited : t.visited ≡ pages
    pub shape : IsShaped insn
    pub way : (last : Space) → Through m b v.kernel (after [] (map (used false) pages)) t last
        → Way (Fetches m (settled b last) v.kernel) last.ram b.cpu.regs.eip insn len
    pub way_pages : (last : Space) (th : Through m b v.kernel (after [] (map (used false) pages)) t last)
        → went_of b.cpu.regs.eip (way last th) ≡ pages

  moved : (ps : List ℕ) (s t last : Space) → s ≡ t → Through m b v.kernel ps t last → Through m b v.kernel ps s last
  moved ps s t last e th = subst (λ (x : Space). Through m b v.kernel ps x last) (sym e) th

  began : (insn : Insn) (len : ℕ) (t : Space) (rest : List Use) → fetched (not v.kernel) b.cpu.regs.eip start ≡ Ok (begins.Insn insn len, t)
      → Clear [] (map (used false) t.visited ++ rest) → Began insn len t
  began insn len t rest e clear =
      let p = fetch_parts (not v.kernel) b.cpu.regs.eip insn len start t e in
      by_end p (by_parts (not v.kernel) b.cpu.regs.eip insn len p.front p.first t (decoded p.front) refl p.goes_on)
    where
      first_went : (p : IsFetch (not v.kernel) b.cpu.regs.eip insn len start t) → p.first.visited ≡ (b.cpu.regs.eip / 4096) ∷ []
      first_went p = fetching_went (not v.kernel) b.cpu.regs.eip (front_len b.cpu.regs.eip) start p.front p.first p.reads

      by_end : (p : IsFetch (not v.kernel) b.cpu.regs.eip insn len start t) → IsIn b.cpu.regs.eip insn len p.front p.first t
          ⊎ IsPast (not v.kernel) b.cpu.regs.eip insn len p.front p.first t → Began insn len t
      by_end p (inl x) =
          let f = first_through m b v.kernel known.mode known.room known.fit known.sound known.small insn len t p in
          let w = f.through.within in
          let is = owns_in m b v.kernel known.mode known.room known.fit known.sound known.small insn len t p x in
          record {
            within = subst (IsWithin m b v.kernel) is
                (within_as m b v.kernel p.first
                (record p.first { mode = Rattle.paging.specs.Uses.with_front p.first.mode (place p.first b.cpu.regs.eip) len }) w refl
                refl refl refl refl refl
                (record { front = place p.first b.cpu.regs.eip; front_len = len; back = 0; back_len = 0 })
                (ap (λ (y : Mode). Rattle.paging.specs.Uses.with_front y (place p.first b.cpu.regs.eip) len) w.mode));
            pages = (b.cpu.regs.eip / 4096) ∷ [];
            visited = x.visited ∙ first_went p;
            shape = decoded_shaped p.front insn len x.is;
            way =
                λ last th. inl (in_way m b v.kernel known.mode known.room known.fit known.sound known.small insn len t p x last
                (moved ((b.cpu.regs.eip / 4096) ∷ []) _ t last is th));
            way_pages = λ last th. refl;
          }
      by_end p (inr x) =
          let visited : t.visited ≡ (b.cpu.regs.eip / 4096) ∷ (next_page b.cpu.regs.eip / 4096) ∷ [] =
          x.on.visited ∙ ap (λ (l : List ℕ). l ++ (next_page b.cpu.regs.eip / 4096) ∷ []) (first_went p) in
          let c = subst (λ (l : List ℕ). Clear [] (map (used false) l ++ rest)) visited clear in
          let served = c.1.0 in
          let is = left_is m b v.kernel known.mode known.room known.fit known.sound known.small insn len t p x served in
          record {
            within = subst (IsWithin m b v.kernel) is
                (left_in m b v.kernel known.mode known.room known.fit known.sound known.small insn len t p x served);
            pages = (b.cpu.regs.eip / 4096) ∷ (next_page b.cpu.regs.eip / 4096) ∷ [];
            visited = visited;
            shape = decoded_shaped (p.front ++ x.on.more) insn len x.on.is;
            way =
                λ last th. inr (across_way m b v.kernel known.mode known.room known.fit known.sound known.small insn len t p x served last
                (moved ((next_page b.cpu.regs.eip / 4096) ∷ (b.cpu.regs.eip / 4096) ∷ []) _ t last is th));
            way_pages = λ last th. refl;
          }

  -- ---- ranges

  ranged : (ps : List ℕ) (s t : Space) (write : Bool) (o : Option Range) → IsWithin m b v.kernel s → IsShort o
      → Clear ps (range_uses write o) → reached b.cpu write o s ≡ Ok (tt, t) → Ranged m v b ps s t write o
  unfolding RangeOf
  ranged ps s t write None h short c e =
      record { through = subst (Through m b v.kernel ps s) (nothing_reached s t e) (through_same m b v.kernel ps s h); range = tt }
  ranged ps s t write (Some r) h short c e =
      let e2 : reaching r.at r.len (record { write = write; user = not v.kernel }) s ≡ Ok (tt, t) =
      ap (λ (u : Bool). reaching r.at r.len (record { write = write; user = u }) s) (sym user) ∙ e in
      let last = last_is m v b r short.0 in
      let g = range_through m b v.kernel ps s t write r.at r.len h short.0 c.0
      (λ other there. second (last_page r == r.at / 4096) refl c.1 other there) e2 in
      record { through = g.through; range = g }
    where
      second : (one : Bool) → (last_page r == r.at / 4096) ≡ one → AreClear b.set (not v.kernel) (wp_of b.cpu) ((r.at / 4096) ∷ ps)
          (cond one [] (used write (last_page r) ∷ []))
          → ((r.at + r.len - 1) / 4096 == r.at / 4096) ≡ false → Contains ((r.at / 4096) ∷ ps) ((r.at + r.len - 1) / 4096)
          → IsServed m b v.kernel ((r.at + r.len - 1) / 4096) write
      second true is d other there =
          absurd (both_ways ((r.at + r.len - 1) / 4096 == r.at / 4096) other (ap (λ p. p == r.at / 4096) (last_is m v b r short.0) ∙ is))
      second false is d other there = subst (λ p. IsServed m b v.kernel p write) (sym (last_is m v b r short.0))
          (d.0 (subst (Contains ((r.at / 4096) ∷ ps)) (last_is m v b r short.0) there))

  -- ---- the same from where they lead

  module _ (last : Space) where
    abbrev a : State
    a = settled b last

    range_again : (s : Space) (write : Bool) (r : Range) → At m (settled b last) s → HasRange m v b last write r
        → Comes m (settled b last) tt (reaching r.at r.len (record { write = write; user = b.cpu.cpl == 3 }) s)
    range_again s write r h g =
        let p = range_passes m (settled b last) v.kernel s r.at r.len write g.first g.last_frame h g.fits g.above g.has_first g.free_first
        g.has_last g.free_last in
        let c = reaching_comes m (settled b last) v.kernel s r.at r.len write p in
        record {
          space = c.space;
          is = ap (λ (u : Bool). reaching r.at r.len (record { write = write; user = u }) s) user ∙ c.is;
          at = c.at;
        }

    reached_again : (s : Space) (write : Bool) (o : Option Range) → At m (settled b last) s → HasRanges m v b last write o
        → Comes m (settled b last) tt (reached b.cpu write o s)
    unfolding HasRanges
    reached_again s write None h g = record { space = s; is = refl; at = h }
    reached_again s write (Some r) h g = range_again s write r h g

    at_start : At m (settled b last) (space_at_start m.mode m.frames b.cpu last.ram last.set)
    at_start = record {
      ram = refl;
      set = refl;
      wp = refl;
      visited = λ q c. absurd (let lt = c.1 in omega (arith, lt));
      tables = refl;
      own = no_own;
      mode = known.mode;
    }

  -- ---- the step

  module _ (insn : Insn) (len : ℕ) (fetch read write : Space) (t : IsTranslated m b insn len fetch read write)
      (clear : AreClear b.set (b.cpu.cpl == 3) (wp_of b.cpu) [] (uses_of fetch.visited (ranges_of insn b.cpu.regs))) where
    abbrev reads : Option Range
    reads = (ranges_of insn b.cpu.regs).read

    abbrev writes : Option Range
    writes = (ranges_of insn b.cpu.regs).write

    pub short : IsShort reads × IsShort writes
    short = ranges_short insn b.cpu.regs

    fetch_is : fetched (not v.kernel) b.cpu.regs.eip start ≡ Ok (begins.Insn insn len, fetch)
    fetch_is = ap (λ (u : Bool). fetched u b.cpu.regs.eip start) (sym user) ∙ t.fetched

    all_clear : Clear [] (map (used false) fetch.visited ++ (range_uses false reads ++ range_uses true writes))
    all_clear = subst (λ (u : Bool). AreClear b.set u (wp_of b.cpu) [] (uses_of fetch.visited (ranges_of insn b.cpu.regs))) user clear

    pub first : Began insn len fetch
    first = began insn len fetch (range_uses false reads ++ range_uses true writes) fetch_is all_clear

    abbrev fetch_pages : List ℕ
    fetch_pages = after [] (map (used false) first.pages)

    rest : Clear fetch_pages (range_uses false reads) × Clear (after fetch_pages (range_uses false reads)) (range_uses true writes)
    rest =
        let c = subst (λ (l : List ℕ). Clear [] (map (used false) l ++ (range_uses false reads ++ range_uses true writes)))
        first.visited all_clear in
        clear_split b.set (not v.kernel) (wp_of b.cpu) (range_uses false reads) (range_uses true writes) fetch_pages
        (clear_split b.set (not v.kernel) (wp_of b.cpu) (map (used false) first.pages)
        (range_uses false reads ++ range_uses true writes) [] c).1

    abbrev read_pages : List ℕ
    read_pages = after fetch_pages (range_uses false reads)

    second : Ranged m v b fetch_pages fetch read false reads
    second = ranged fetch_pages fetch read false reads first.within short.0 rest.0 t.read

    third : Ranged m v b read_pages read write true writes
    third = ranged read_pages read write true writes second.through.within short.1 rest.1 t.write

    pub whole : Through m b v.kernel fetch_pages fetch write
    whole = through_on m b v.kernel fetch_pages read_pages fetch read write second.through third.through
        (before_after (range_uses false reads) fetch_pages)

    -- their entries at the end
    read_now : HasRanges m v b read false reads
    read_now = has_now m v b fetch_pages fetch read false reads first.within second

    pub read_end : HasRanges m v b write false reads
    read_end = has_later m v b fetch_pages read write false reads short.0 read_now third.through

    pub write_end : HasRanges m v b write true writes
    write_end = has_now m v b read_pages read write true writes second.through.within third

    -- ---- again

    again_fetch : Comes m (settled b write) (begins.Insn insn len)
        (fetched (not v.kernel) b.cpu.regs.eip (space_at_start m.mode m.frames b.cpu write.ram write.set))
    again_fetch = fetched_comes m (settled b write) v.kernel (space_at_start m.mode m.frames b.cpu write.ram write.set) b.cpu.regs.eip insn
        len (at_start write) (first.way write whole)

    again_read : Comes m (settled b write) tt (reached b.cpu false reads again_fetch.space)
    again_read = reached_again write again_fetch.space false reads again_fetch.at read_end

    again_write : Comes m (settled b write) tt (reached b.cpu true writes again_read.space)
    again_write = reached_again write again_read.space true writes again_read.at write_end

    again_translated : IsTranslated m (settled b write) insn len again_fetch.space again_read.space again_write.space
    again_translated = record {
      fetched =
          ap (λ (u : Bool). fetched u b.cpu.regs.eip (space_at_start m.mode m.frames b.cpu write.ram write.set)) user ∙ again_fetch.is;
      permitted = t.permitted;
      plain = t.plain;
      segments = t.segments;
      read = again_read.is;
      write = again_write.is;
    }

    same_went : again_write.space.visited ≡ write.visited
    same_went =
        range_goes b.cpu again_read.space again_write.space true writes again_write.is
        ∙ ap (λ (l : List ℕ). went_after l writes)
        (range_goes b.cpu again_fetch.space again_read.space false reads again_read.is
        ∙ ap (λ (l : List ℕ). went_after l reads)
        (way_went m (settled b write) v.kernel (space_at_start m.mode m.frames b.cpu write.ram write.set) again_fetch.space b.cpu.regs.eip
        insn len (at_start write) refl (first.way write whole) again_fetch.is
        ∙ first.way_pages write whole
        ∙ sym first.visited)
        ∙ sym (range_goes b.cpu fetch read false reads t.read))
        ∙ sym (range_goes b.cpu read write true writes t.write)

    -- ---- over the same bytes

    read_places : (o : Option Range) → IsShort o → (ps : List ℕ) → HasRanges m v b read false o
        → Through m b v.kernel (after ps (range_uses false o)) read write → (x : ℕ) → is_in o x ≡ true → place read x ≡ place write x
    unfolding HasRanges later
    read_places None sh ps g th x e = absurd (both_ways false refl e)
    read_places (Some r) sh ps g th x e =
        let p = and_parts (nat_le r.at x) (nat_lt x (r.at + r.len)) e in
        let low = leb-true r.at x p.0 in
        let high = ltb-true x (r.at + r.len) p.1 in
        let sum : r.at + (x - r.at) ≡ x = past_at r.at x low in
        subst (λ y. place read y ≡ place write y) sum
        (places_same m v b read write false r sh.0 sh.1 g (later m v b ps read write false r sh.0 g th) refl refl (x - r.at)
        (past_in r.at r.len x low high))

    byte_there : (x : ℕ) → byte_at write x ≡ byte_of (settled b write) x
    unfolding byte_at place
    byte_there x = refl

    byte_read : (x : ℕ) → place read x ≡ place write x → byte_at (with_ram read write.ram) x ≡ byte_of (settled b write) x
    unfolding byte_at place
    byte_read x e = ap (byte write.ram) e

    pub bytes_same : (x : ℕ) → byte_by reads read write x ≡ byte_of (settled b write) x
    bytes_same x = choice (is_in reads x) refl
      where
        choice : (i : Bool) → is_in reads x ≡ i → cond i (byte_at (with_ram read write.ram) x) (byte_at write x)
            ≡ byte_of (settled b write) x
        choice true e = byte_read x (read_places reads short.0 fetch_pages read_now third.through x e)
        choice false e = byte_there x

    again_byte : (s : Space) → At m (settled b write) s → (x : ℕ) → byte_at s x ≡ byte_of (settled b write) x
    unfolding byte_at place
    again_byte s h x = ap (λ (l : List ℕ). byte l (place_by (get s.set (x / 4096)) x)) h.ram
        ∙ ap (λ (y : FinMap nat_cmp Entry). byte write.ram (place_by (get y (x / 4096)) x)) h.set

    again_bytes : (x : ℕ) → byte_by reads again_read.space again_write.space x ≡ byte_of (settled b write) x
    again_bytes x = choice (is_in reads x)
      where
        mixed : At m (settled b write) (with_ram again_read.space again_write.space.ram)
        mixed = record {
          ram = again_write.at.ram;
          set = again_read.at.set;
          wp = again_read.at.wp;
          visited = again_read.at.visited;
          tables = again_read.at.tables;
          own = again_read.at.own;
          mode = again_read.at.mode;
        }

        choice : (i : Bool) → cond i (byte_at (with_ram again_read.space again_write.space.ram) x) (byte_at again_write.space x)
            ≡ byte_of (settled b write) x
        choice true = again_byte (with_ram again_read.space again_write.space.ram) mixed x
        choice false = again_byte again_write.space again_write.at x

    pub all : (P : ℕ → Type 0) (o : Option Range) → ((x : ℕ) → P x) → Covers P o
    all P None h = tt
    all P (Some r) h = λ j lt. h (r.at + j)

    soft : Rattle.machine_model.specs.Counts.is_software insn.op ≡ false
    unfolding permitted
    soft = not_soft insn.op insn.imm t.permitted

    user_of : IsPopFlags insn.op → IsUser b.cpu
    user_of h = without_rights v b.cpu known.sees (false_from_ne_true v.kernel (λ x. no_pop insn.op (t.plain (user ∙ ap not x)) h))

    user_held : IsPopFlags insn.op → IsUser (unheld b).cpu
    user_held h = let u = user_of h in record { without = u.without; above = u.above }

    -- what is left of a step that is done
    abbrev finish : List ℕ → FinMap nat_cmp Entry → List ℕ → List ℕ → List ℕ → Regs → Stores → Result
    finish ram set visited tables wrote regs stores =
        after_instruction m (unheld b) (begun b insn)
        (user_finished (unheld b).cpu (outcomes.Done regs Nothing)
        (record write {
          ram = all_stored (λ x. place_by (get set (x / 4096)) x) ram (list_of stores);
          set = set;
          visited = visited;
          tables = tables;
          wrote = wrote;
        }))

    finished_is : (s : Space) (regs : Regs) (stores : Stores)
        → after_instruction m (unheld b) (begun b insn) (user_finished (unheld b).cpu (outcomes.Done regs stores) s) ≡ finish s.ram s.set
        s.visited s.tables s.wrote regs stores
    unfolding place
    finished_is s regs stores =
        ap (λ (x : Space). after_instruction m (unheld b) (begun b insn)
        (Ok (record { cpu = record (unheld b).cpu { regs = regs }; effect = effects.Next }, x))) (stored_is s (list_of stores))

    abbrev gone : List ℕ → FinMap nat_cmp Entry → List ℕ → List ℕ → List ℕ → Regs → Stores → Result
    gone ram set visited tables wrote regs stores =
        Went (record { items = []; completed = Some (begun b insn); pages = visited; tables = tables; wrote = wrote })
        (record {
          cpu = record (unheld b).cpu { regs = regs };
          ram = all_stored (λ x. place_by (get set (x / 4096)) x) ram (list_of stores);
          set = set;
          board = Rattle.board.specs.Boards.board_step b.board;
          step = b.step + 1;
        })

    -- with other notes
    noted : (ram : List ℕ) (set : FinMap nat_cmp Entry) (visited tables wrote others news : List ℕ) (regs : Regs) (stores : Stores)
        (report : Report) (after_state : State)
        → finish ram set visited tables wrote regs stores ≡ Went report after_state → finish ram set visited others news regs stores ≡ Went
        (record report { tables = others; wrote = news }) after_state
    noted ram set visited tables wrote others news regs stores report after_state e =
        by_test (Rattle.machine_model.specs.Rules.may_leave m.mode (unheld b).cpu (record (unheld b).cpu { regs = regs })) e
      where
        by_test : (c : Bool) → cond {A = Result} c
            (gone ram set visited tables wrote regs stores) (Halts stops.UserFlags) ≡ Went report after_state
            → cond {A = Result} c
            (gone ram set visited others news regs stores) (Halts stops.UserFlags)
            ≡ Went (record report { tables = others; wrote = news }) after_state
        by_test true g = ap (λ (o : Result). renoted others news o) g
        by_test false g = absurd (halts_or_went _ _ _ g)

    -- what is reported
    told : (ram : List ℕ) (set : FinMap nat_cmp Entry) (visited tables wrote : List ℕ) (regs : Regs) (stores : Stores) (report : Report)
        (after_state : State)
        → finish ram set visited tables wrote regs stores ≡ Went report after_state → (report.pages ≡ visited) × (report.tables ≡ tables)
        × (report.wrote ≡ wrote)
    told ram set visited tables wrote regs stores report after_state e =
        by_test (Rattle.machine_model.specs.Rules.may_leave m.mode (unheld b).cpu (record (unheld b).cpu { regs = regs })) e
      where
        by_test : (c : Bool) → cond {A = Result} c
            (gone ram set visited tables wrote regs stores) (Halts stops.UserFlags) ≡ Went report after_state
            → (report.pages ≡ visited) × (report.tables ≡ tables) × (report.wrote ≡ wrote)
        by_test true g = let f = sym (ap (λ (o : Result). report_in report o) g) in
            (ap (λ (r : Report). r.pages) f, ap (λ (r : Report). r.tables) f, ap (λ (r : Report). r.wrote) f)
        by_test false g = absurd (halts_or_went _ _ _ g)

    -- the effect over the step's bytes is that over the bytes of the state that is left
    same_effect : user_effect (selectors_of v) insn len b.cpu.regs (byte_by reads read write) ≡ effect_of v (settled b write) insn len
    same_effect =
        known.flags.same (byte_by reads read write) (byte_of (settled b write)) (selectors_of v) insn len b.cpu.regs first.shape
        (all (λ x. byte_by reads read write x ≡ byte_of (settled b write) x) reads bytes_same)
        (all (λ x. byte_by reads read write x ≡ byte_of (settled b write) x) writes bytes_same)

    pub outcome : stepped m b ≡ after_instruction m (unheld b) (begun b insn)
        (user_finished (unheld b).cpu (effect_of v (settled b write) insn len) write)
    outcome =
        stepped_by m v.kernel b known.sees.level known.next
        ∙ ap (after_fetch m (unheld b)) t.fetched
        ∙ by_op_is m insn.op (unheld b) insn len fetch soft
        ∙ instructed_is m (unheld b) (begun b insn) known.flags.agree (selectors_of v) (unheld b).cpu
        (selects_by v b.cpu known.sees) fetch read write
        insn len user_held first.shape t.permitted (record { free = t.segments; read = t.read; write = t.write })
        ∙ ap (λ (o : exec.Outcome). after_instruction m (unheld b) (begun b insn) (user_finished (unheld b).cpu o write)) same_effect

    original : (regs : Regs) (stores : Stores) → effect_of v (settled b write) insn len ≡ outcomes.Done regs stores
        → stepped m b ≡ finish write.ram write.set write.visited write.tables write.wrote regs stores
    original regs stores e =
        outcome
        ∙ ap (λ (o : exec.Outcome). after_instruction m (unheld b) (begun b insn) (user_finished (unheld b).cpu o write)) e
        ∙ finished_is write regs stores

    next_again : IsNext m v.kernel (settled b write)
    next_again = record {
      awake = known.next.awake;
      quiet = known.next.quiet;
      small = known.next.small;
      start = known.next.start;
      outside = known.next.outside;
    }

    repeated : (regs : Regs) (stores : Stores) → effect_of v (settled b write) insn len ≡ outcomes.Done regs stores
        → stepped m (settled b write) ≡ finish again_write.space.ram again_write.space.set again_write.space.visited
        again_write.space.tables again_write.space.wrote regs stores
    repeated regs stores e =
        stepped_by m v.kernel (settled b write) known.sees.level next_again
        ∙ ap (after_fetch m (unheld (settled b write))) again_translated.fetched
        ∙ by_op_is m insn.op (unheld (settled b write)) insn len again_fetch.space soft
        ∙ instructed_is m (unheld (settled b write)) (begun b insn) known.flags.agree (selectors_of v) (unheld b).cpu
        (selects_by v b.cpu known.sees)
        again_fetch.space again_read.space again_write.space insn len user_held first.shape t.permitted
        (record { free = t.segments; read = again_read.is; write = again_write.is })
        ∙ ap (λ (o : exec.Outcome). after_instruction m (unheld (settled b write)) (begun b insn)
        (user_finished (unheld b).cpu o again_write.space))
        (known.flags.same (byte_by reads again_read.space again_write.space) (byte_of (settled b write)) (selectors_of v) insn len
        b.cpu.regs first.shape
        (all (λ x. byte_by reads again_read.space again_write.space x ≡ byte_of (settled b write) x) reads again_bytes)
        (all (λ x. byte_by reads again_read.space again_write.space x ≡ byte_of (settled b write) x) writes again_bytes) ∙ e)
        ∙ finished_is again_write.space regs stores

    pub steps_same : StepsAgain m v b insn len write
    steps_same = record {
      fetched = again_fetch.space;
      reads = again_read.space;
      writes = again_write.space;
      translated = again_translated;
      ram = again_write.at.ram;
      set = again_write.at.set;
      visited = same_went;
      same = λ regs stores e report after_state g.
          let there : finish write.ram write.set write.visited again_write.space.tables again_write.space.wrote regs stores ≡ Went
          report after_state =
          ap (λ (l : List ℕ). finish l write.set write.visited again_write.space.tables again_write.space.wrote regs stores)
          (sym again_write.at.ram)
          ∙ ap (λ (x : FinMap nat_cmp Entry). finish again_write.space.ram x write.visited again_write.space.tables again_write.space.wrote
          regs stores) (sym again_write.at.set)
          ∙ ap (λ (l : List ℕ). finish again_write.space.ram again_write.space.set l again_write.space.tables again_write.space.wrote regs
          stores) (sym same_went)
          ∙ sym (repeated regs stores e)
          ∙ g in
          original regs stores e
          ∙ noted write.ram write.set write.visited again_write.space.tables again_write.space.wrote write.tables write.wrote regs stores
          report after_state there;
      reported = λ regs stores e report after_state g. told write.ram write.set write.visited write.tables write.wrote regs stores report
          after_state (sym (original regs stores e) ∙ g);
    }
