-- The fetch of a step, done again from where the step's translations lead.
use Rattle.std.proofs.Common.{◌≡◌, ℕ, ◌+◌, ◌-◌, ◌*◌, ◌/◌, ◌%◌, ◌^◌, ◌<◌, ◌≤◌, List, [], ◌∷◌, ◌++◌, length, take, drop, map, Bool, true, false, ◌&&◌, not, ◌==◌, Option, Some, Ok, refl, sym, ap, subst, ◌∙◌, inl, inr, arith}
use Rattle.std.specs.Prelude.{nat_le, nat_lt}
use Rattle.std.specs.List.{Contains}
use Rattle.std.proofs.lemmas.Bool.{cases_lt, le-leb, lt-ltb, eq-eqb, or_left, or_right, both_ways}
use Rattle.std.proofs.lemmas.List.{places, same_lists, take-take, take-append-drop, take-append-le}
use Rattle.std.proofs.Math.Seq.{take-append-add}
use Rattle.guest_ram.specs.Bytes.{AreBytes, byte, part}
use Rattle.guest_ram.proofs.Bytes.{length-part, bytes-part}
use Rattle.ia32_types.specs.declared.insn.Insn.{Insn}
use Rattle.ia32_types.specs.Shape.{IsShaped}
use Rattle.ia32_rows.specs.Spells as spells
use Rattle.ia32_rows.proofs.Readers.{AreBytes-append, AreBytes-from_each}
use Rattle.ia32_decode.specs.declared.answer.Decoded.{Decoded}
use Rattle.ia32_decode.specs.declared.answer.Decoded.TheVariants as begins
use Rattle.ia32_decode.specs.Answer.{Begins, Answers}
use Rattle.ia32_decode.specs.Decoding.{decoded}
use Rattle.ia32_decode.proofs.Exact.{answered, decoded_back}
use Rattle.descriptors.specs.Controls.{pse_of, wp_of}
use Rattle.paging.specs.declared.entry.Entry.{Entry}
use Rattle.paging.specs.Space.{Mode, Wedge, Own, no_own, Space, place}
use Rattle.paging.specs.Uses.{is_own, with_front, with_back}
use Rattle.paging.specs.Work.{gives}
use Rattle.image_load.specs.Boot.{text_pages}
use Rattle.machine_model.specs.State.{Setting, State, wedge_mode, space_at_start}
use Rattle.ia32_decode.specs.Front.{longest, front_len}
use Rattle.machine_model.specs.Instruction.{fetching, owning_front, owning_back, next_page, owned}
use Rattle.native_steps.specs.Again.{AreWithin, settled}
use Rattle.native_steps.proofs.Clear.{used}
use Rattle.native_steps.proofs.Pages.{HasEntry}
use Rattle.native_steps.proofs.Ways.{front_at, back_at, IsFront, IsAcross, Way}
use Rattle.native_steps.proofs.Fetching.{Fetches, IsFetch, IsIn, IsPast, bound, same_space}
use Rattle.native_steps.proofs.Walking.{IsWithin, IsServed}
use Rattle.native_steps.proofs.Walks.{walk_frame}
use Rattle.native_steps.proofs.Through.{after, within_as, Through, FetchThrough, fetch_through}

-- ---- the same bytes

-- other bytes that begin alike are decoded alike
pub prefix_decoded : (x y : List ℕ) (insn : Insn) (len : ℕ) → spells.AreBytes x → decoded x ≡ begins.Insn insn len → take len y ≡ take len x
    → decoded y ≡ begins.Insn insn len
prefix_decoded x y insn len fit e same =
    let b : Begins x insn len = subst (λ (d : Decoded). Answers d x) e (answered x fit) in
    let within = b.within in
    let long : length (take len x) ≡ len = Rattle.std.proofs.lemmas.List.length-take-le len x within in
    ap decoded (sym (take-append-drop len y)) ∙ ap (λ (z : List ℕ). decoded (z ++ drop len y)) same
    ∙ decoded_back (take len x) (drop len y) insn b.front ∙ ap (begins.Insn insn) long

pub len_within : (x : List ℕ) (insn : Insn) (len : ℕ) → spells.AreBytes x → decoded x ≡ begins.Insn insn len → len ≤ length x
len_within x insn len fit e = let b : Begins x insn len = subst (λ (d : Decoded). Answers d x) e (answered x fit) in b.within

pub part_same : (x y : List ℕ) (a n : ℕ) → length x ≡ length y → ((k : ℕ) → a ≤ k → k < a + n → byte x k ≡ byte y k)
    → part x a n ≡ part y a n
unfolding part byte
part_same x y a n long h =
    same_lists _ _ (grind (arith, places)) (λ k d lt.
    let within : k < n = grind (arith, places) in
    let here = h (a + k) (omega arith) (omega (arith, within)) in
    grind (arith, places))

part_fit : (x : List ℕ) (a n : ℕ) → AreBytes x → spells.AreBytes (part x a n)
part_fit x a n h = AreBytes-from_each (part x a n) (bytes-part x a n h)

take_part : (x : List ℕ) (a n k : ℕ) → k ≤ n → take k (part x a n) ≡ part x a k
unfolding part
take_part x a n k le = take-take k n (drop a x) le

-- ---- the instruction's own bytes

in_piece : (a n k : ℕ) → a ≤ k → k < a + n → (nat_le a k && nat_lt k (a + n)) ≡ true
in_piece a n k le lt = ap (λ x. x && nat_lt k (a + n)) (le-leb a k le) ∙ lt-ltb k (a + n) lt

own_front : (mode : Mode) (text count : ℕ) (own : Own) → mode ≡ Wedge text count own → (a n k : ℕ) → a ≤ k → k < a + n
    → is_own (with_front mode a n) k ≡ true
own_front mode text count own e a n k le lt =
    ap (λ (x : Mode). is_own (with_front x a n) k) e ∙ or_left (nat_le a k && nat_lt k (a + n)) _ (in_piece a n k le lt)

own_back : (mode : Mode) (text count : ℕ) (own : Own) → mode ≡ Wedge text count own → (a n k : ℕ) → a ≤ k → k < a + n
    → is_own (with_back mode a n) k ≡ true
own_back mode text count own e a n k le lt =
    ap (λ (x : Mode). is_own (with_back x a n) k) e ∙ or_right _ (nat_le a k && nat_lt k (a + n)) (in_piece a n k le lt)

own_front_still : (mode : Mode) (text count : ℕ) (own : Own) → mode ≡ Wedge text count own → (a n c d k : ℕ) → a ≤ k → k < a + n
    → is_own (with_back (with_front mode a n) c d) k ≡ true
own_front_still mode text count own e a n c d k le lt =
    ap (λ (x : Mode). is_own (with_back (with_front x a n) c d) k) e ∙ or_left (nat_le a k && nat_lt k (a + n)) _ (in_piece a n k le lt)

pub front_is : (at len : ℕ) (s t : Space) (x : Unit {0}) → owning_front at len s ≡ Ok (x, t)
    → record s { mode = with_front s.mode (place s at) len } ≡ t
unfolding owning_front
front_is at len s t x e = let p : ◌≡◌ {A = Unit {0} × Space} (tt, record s { mode = with_front s.mode (place s at) len }) (x, t) =
    cc in ap (λ (q : Unit {0} × Space). q.1) p

back_is : (at len : ℕ) (s t : Space) (x : Unit {0}) → owning_back at len s ≡ Ok (x, t)
    → record s { mode = with_back s.mode (place s at) len } ≡ t
unfolding owning_back
back_is at len s t x e = let p : ◌≡◌ {A = Unit {0} × Space} (tt, record s { mode = with_back s.mode (place s at) len }) (x, t) =
    cc in ap (λ (q : Unit {0} × Space). q.1) p

owned_is : (eip : ℕ) (insn : Insn) (len : ℕ) (d : Decoded) (s t : Space) → d ≡ begins.Insn insn len
    → owned eip d s ≡ Ok (begins.Insn insn len, t)
    → record s { mode = with_back s.mode (place s (next_page eip)) (len - front_len eip) } ≡ t
owned_is eip insn len d s t is e =
    let f : owned eip (begins.Insn insn len) s ≡ Ok (begins.Insn insn len, t) = ap (λ (x : Decoded). owned eip x s) (sym is) ∙ e in
    let p = bound (owning_back (next_page eip) (len - front_len eip) s) (λ y. gives (begins.Insn insn len)) (begins.Insn insn len) t f in
    back_is (next_page eip) (len - front_len eip) s p.1 p.0 p.2.0 ∙ same_space (begins.Insn insn len) (begins.Insn insn len) p.1 t p.2.1

none_there : (q : ℕ) → Contains {X = ℕ} [] q → ⊥
none_there q c = let lt = c.1 in omega (arith, lt)

module _ (m : Setting) (b : State) (kernel : Bool) (mode : m.mode ≡ wedge_mode m.image) (room : 4096 * m.frames ≤ length b.ram)
    (fit : AreBytes b.ram) (sound : AreWithin m b.set) (small : b.cpu.regs.eip < 2 ^ 32) where
  pub start : Space
  start = space_at_start m.mode m.frames b.cpu b.ram b.set

  pub start_in : IsWithin m b kernel (space_at_start m.mode m.frames b.cpu b.ram b.set)
  start_in = record {
    frames = refl;
    cr3 = refl;
    pse = refl;
    wp = refl;
    own = no_own;
    mode = mode;
    room = room;
    fit = fit;
    pages = λ q lt. inl refl;
  }

  -- entries lead to the guest's frames
  pub frame_in : (s : Space) (page frame : ℕ) (write : Bool) → IsWithin m b kernel s → page < 2 ^ 20
      → HasEntry kernel (wp_of b.cpu) s.set write page frame → frame < m.frames
  frame_in s page frame write h lt e =
      elim (h.pages page lt) [
        | inl untouched ↦ let f = sound page e.entry (sym untouched ∙ e.kept) in let is = e.frame_is in omega (arith, f, is)
        | inr k ↦
            let one : ◌≡◌ {A = Option Entry} (Some k.entry) (Some e.entry) = sym k.kept ∙ e.kept in
            let same : k.entry ≡ e.entry = cc one in
            let within : k.entry.frame < m.frames =
            walk_frame s.ram m.frames b.cpu.cr3 (pse_of b.cpu) page (record k.entry { dirty = k.dirty }) k.dir_at k.word_at k.walk in
            let to = ap (λ (x : Entry). x.frame) same in
            let is = e.frame_is in
            omega (arith, within, to, is)
      ]

  eip : ℕ
  eip = b.cpu.regs.eip

  -- what a fetch leaves, and that it may be done again from any memory to which the step leads
  pub record Fetched (insn : Insn) (len : ℕ) (t : Space) : Type 0 where
    pub within : IsWithin m b kernel t
    pub pages : List ℕ
    pub visited : t.visited ≡ pages
    pub shape : IsShaped insn
    pub way : (last : Space) → Through m b kernel (after [] (map (used false) pages)) t last
        → Way (Fetches m (settled b last) kernel) last.ram b.cpu.regs.eip insn len

  page_small : b.cpu.regs.eip / 4096 < 2 ^ 20
  page_small = omega (arith, small)

  fits_page : (frame at : ℕ) → frame < m.frames → 4096 * frame + at % 4096 + front_len at ≤ 4096 * m.frames
  fits_page frame at lt = omega (arith, lt)

  -- ---- in one page

  module _ (insn : Insn) (len : ℕ) (t : Space)
      (p : IsFetch (not kernel) b.cpu.regs.eip insn len (space_at_start m.mode m.frames b.cpu b.ram b.set) t) where
    pub first_through : FetchThrough m b kernel [] (space_at_start m.mode m.frames b.cpu b.ram b.set) p.first b.cpu.regs.eip
        (front_len b.cpu.regs.eip) p.front
    first_through =
        fetch_through m b kernel [] (space_at_start m.mode m.frames b.cpu b.ram b.set) p.first b.cpu.regs.eip (front_len b.cpu.regs.eip)
        p.front start_in page_small (λ c. absurd (none_there (b.cpu.regs.eip / 4096) c)) p.reads

    abbrev first_place : ℕ → ℕ
    first_place frame = 4096 * frame + b.cpu.regs.eip % 4096

    front_fit : spells.AreBytes p.front
    front_fit = subst spells.AreBytes (sym first_through.bytes_is)
        (part_fit p.first.ram (first_place first_through.frame) (front_len b.cpu.regs.eip) first_through.through.within.fit)

    front_few : length p.front ≤ front_len b.cpu.regs.eip
    unfolding part
    front_few =
        let f = first_through in
        let is = ap length f.bytes_is in
        let cut = Rattle.std.proofs.lemmas.List.length-take (front_len b.cpu.regs.eip) (drop (first_place f.frame) p.first.ram) in
        omega (arith, is, cut)

    module _ (x : IsIn b.cpu.regs.eip insn len p.front p.first t) where
      pub owns_in : record p.first { mode = with_front p.first.mode (place p.first b.cpu.regs.eip) len } ≡ t
      owns_in = front_is b.cpu.regs.eip len p.first t tt x.owns

      pub in_way : (last : Space) → Through m b kernel ((b.cpu.regs.eip / 4096) ∷ [])
          (record p.first { mode = with_front p.first.mode (place p.first b.cpu.regs.eip) len }) last
          → IsFront (Fetches m (settled b last) kernel) last.ram b.cpu.regs.eip insn len
      in_way last th =
          let f = first_through in
          let within : len ≤ front_len b.cpu.regs.eip =
          let a = len_within p.front insn len front_fit x.is in let c = front_few in omega (arith, a, c) in
          let long : length last.ram ≡ length p.first.ram = th.marks.long in
          let bytes : part last.ram (first_place f.frame) len ≡ part p.first.ram (first_place f.frame) len =
          part_same last.ram p.first.ram (first_place f.frame) len long (λ k le lt.
          let place_is = f.place_is in
          th.owns k (own_front p.first.mode 0x100 (text_pages m.image) f.through.within.own f.through.within.mode
          (place p.first b.cpu.regs.eip) len k (omega (arith, place_is, le)) (omega (arith, place_is, lt)))) in
          record {
            frame = f.frame;
            page = record { entry = th.kept (b.cpu.regs.eip / 4096) false f.frame (inl refl) f.has; free = f.free };
            is = prefix_decoded p.front (front_at last.ram f.frame b.cpu.regs.eip) insn len front_fit x.is
                (take_part last.ram (first_place f.frame) (front_len b.cpu.regs.eip) len within ∙ bytes
                ∙ sym (take_part p.first.ram (first_place f.frame) (front_len b.cpu.regs.eip) len within) ∙ ap (take len) (sym f.bytes_is));
          }

    -- ---- in two pages

    module _ (x : IsPast (not kernel) b.cpu.regs.eip insn len p.front p.first t)
        (served : Contains ((b.cpu.regs.eip / 4096) ∷ []) (next_page b.cpu.regs.eip / 4096) → IsServed m b kernel
        (next_page b.cpu.regs.eip / 4096) false) where
      abbrev owning : Space
      owning = record p.first { mode = with_front p.first.mode (place p.first b.cpu.regs.eip) (front_len b.cpu.regs.eip) }

      owning_is : owning ≡ x.on.before
      owning_is = front_is b.cpu.regs.eip (front_len b.cpu.regs.eip) p.first x.on.before tt x.on.owns

      owning_in : IsWithin m b kernel owning
      owning_in =
          let w = first_through.through.within in
          within_as m b kernel p.first owning w refl refl refl refl refl refl
          (record { front = place p.first b.cpu.regs.eip; front_len = front_len b.cpu.regs.eip; back = 0; back_len = 0 })
          (ap (λ (y : Mode). with_front y (place p.first b.cpu.regs.eip) (front_len b.cpu.regs.eip)) w.mode)

      next_small : next_page b.cpu.regs.eip / 4096 < 2 ^ 20
      next_small =
          let other : b.cpu.regs.eip / 4096 ≡ 1048575 → ⊥ =
          λ f. both_ways (b.cpu.regs.eip / 4096 == 1048575) x.not_last (eq-eqb (b.cpu.regs.eip / 4096) 1048575 f) in
          omega (arith, small, other)

      second_through : FetchThrough m b kernel ((b.cpu.regs.eip / 4096) ∷ []) owning x.on.after (next_page b.cpu.regs.eip) longest x.on.more
      second_through =
          fetch_through m b kernel ((b.cpu.regs.eip / 4096) ∷ []) owning x.on.after (next_page b.cpu.regs.eip) longest x.on.more
          owning_in next_small served
          (ap (fetching (not kernel) (next_page b.cpu.regs.eip) longest) owning_is ∙ x.on.reads)

      abbrev left : Space
      left =
          record x.on.after {
            mode = with_back x.on.after.mode (place x.on.after (next_page b.cpu.regs.eip))
                (len - front_len b.cpu.regs.eip);
          }

      pub left_is : left ≡ t
      left_is = owned_is b.cpu.regs.eip insn len (decoded (p.front ++ x.on.more)) x.on.after t x.on.is x.on.ends

      pub left_in : IsWithin m b kernel left
      left_in =
          let w = second_through.through.within in
          within_as m b kernel x.on.after left w refl refl refl refl refl refl
          (record w.own { back = place x.on.after (next_page b.cpu.regs.eip); back_len = len - front_len b.cpu.regs.eip })
          (ap (λ (y : Mode). with_back y (place x.on.after (next_page b.cpu.regs.eip)) (len - front_len b.cpu.regs.eip)) w.mode)

      next_is : next_page b.cpu.regs.eip / 4096 ≡ b.cpu.regs.eip / 4096 + 1
      next_is = omega arith

      pub across_way : (last : Space) → Through m b kernel ((next_page b.cpu.regs.eip / 4096) ∷ (b.cpu.regs.eip / 4096) ∷ []) left last
          → IsAcross (Fetches m (settled b last) kernel) last.ram b.cpu.regs.eip insn len
      across_way last th =
          let f = first_through in
          let g = second_through in
          let fl : ℕ = front_len b.cpu.regs.eip in
          let w = f.through.within in
          let p_is = f.place_is in
          let q_is = g.place_is in
          let long1 : length last.ram ≡ length x.on.after.ram = th.marks.long in
          let long2 : length x.on.after.ram ≡ length p.first.ram = g.through.marks.long in
          let mode_is : x.on.after.mode ≡ with_front p.first.mode (place p.first b.cpu.regs.eip) fl = g.through.mode in
          let front_same : part last.ram (first_place f.frame) fl ≡ part p.first.ram (first_place f.frame) fl =
          part_same last.ram p.first.ram (first_place f.frame) fl (long1 ∙ long2) (λ k le lt.
          let low : place p.first b.cpu.regs.eip ≤ k = omega (arith, p_is, le) in
          let high : k < place p.first b.cpu.regs.eip + fl = omega (arith, p_is, lt) in
          th.owns k
          (ap (λ (y : Mode). is_own (with_back y (place x.on.after (next_page b.cpu.regs.eip)) (len - fl)) k) mode_is
          ∙ own_front_still p.first.mode 0x100 (text_pages m.image) w.own w.mode (place p.first b.cpu.regs.eip) fl
          (place x.on.after (next_page b.cpu.regs.eip)) (len - fl) k low high)
          ∙ g.through.owns k (own_front p.first.mode 0x100 (text_pages m.image) w.own w.mode
          (place p.first b.cpu.regs.eip) fl k low high)) in
          let front_is2 : front_at last.ram f.frame b.cpu.regs.eip ≡ p.front = front_same ∙ sym f.bytes_is in
          let zero : 4096 * g.frame + next_page b.cpu.regs.eip % 4096 ≡ 4096 * g.frame = omega arith in
          let more_is : x.on.more ≡ part x.on.after.ram (4096 * g.frame) longest =
          g.bytes_is ∙ ap (λ a. part x.on.after.ram a longest) zero in
          let more_fit : spells.AreBytes x.on.more =
          subst spells.AreBytes (sym more_is) (part_fit x.on.after.ram (4096 * g.frame) longest g.through.within.fit) in
          let whole_fit = AreBytes-append p.front x.on.more front_fit more_fit in
          let frame_lt = frame_in p.first (b.cpu.regs.eip / 4096) f.frame false w page_small f.has in
          let room1 = w.room in
          let front_long : length p.front ≡ fl = ap length f.bytes_is ∙ length-part p.first.ram (first_place f.frame) fl
          (let r = fits_page f.frame b.cpu.regs.eip frame_lt in omega (arith, r, room1)) in
          let more_few : length x.on.more ≤ longest = ap_few x.on.more g.frame more_is in
          let len_few : len ≤ fl + longest =
          let a = len_within (p.front ++ x.on.more) insn len whole_fit x.on.is in
          let c = Rattle.std.proofs.lemmas.List.length-append p.front x.on.more in
          omega (arith, a, c, front_long, more_few)
          in
          let back_same : take (len - fl) (back_at last.ram g.frame) ≡ take (len - fl) x.on.more =
          take_part last.ram (4096 * g.frame) longest (len - fl) (omega (arith, len_few))
          ∙ part_same last.ram x.on.after.ram (4096 * g.frame) (len - fl) long1 (λ k le lt.
          th.owns k (own_back x.on.after.mode 0x100 (text_pages m.image) g.through.within.own g.through.within.mode
          (place x.on.after (next_page b.cpu.regs.eip)) (len - fl) k (omega (arith, q_is, zero, le)) (omega (arith, q_is, zero, lt))))
          ∙ sym (take_part x.on.after.ram (4096 * g.frame) longest (len - fl) (omega (arith, len_few)))
          ∙ ap (take (len - fl)) (sym more_is) in
          let whole : take len (p.front ++ back_at last.ram g.frame) ≡ take len (p.front ++ x.on.more) =
          joined p.front (back_at last.ram g.frame) x.on.more fl front_long back_same in
          record {
            frame = f.frame;
            page =
                record {
                  entry = th.kept (b.cpu.regs.eip / 4096) false f.frame (inr (inl refl))
                      (g.through.kept (b.cpu.regs.eip / 4096) false f.frame (inl refl) f.has);
                  free = f.free;
                };
            cut = ap decoded front_is2 ∙ x.cut;
            not_last = x.not_last;
            next = g.frame;
            next_page = subst (λ n. Fetches m (settled b last) kernel n g.frame) next_is
                (record { entry = th.kept (next_page b.cpu.regs.eip / 4096) false g.frame (inl refl) g.has; free = g.free });
            is = ap (λ (y : List ℕ). decoded (y ++ back_at last.ram g.frame)) front_is2
                ∙ prefix_decoded (p.front ++ x.on.more) (p.front ++ back_at last.ram g.frame) insn len whole_fit x.on.is whole;
          }
        where
          ap_few : (more : List ℕ) (frame : ℕ) → more ≡ part x.on.after.ram (4096 * frame) longest → length more ≤ longest
          ap_few more frame is = let c = part_few x.on.after.ram (4096 * frame) longest in let e = ap length is in omega (arith, c, e)
            where
              part_few : (y : List ℕ) (a n : ℕ) → length (part y a n) ≤ n
              part_few y a n = unfold part in (let cut = Rattle.std.proofs.lemmas.List.length-take n (drop a y) in omega (arith, cut))

          joined : (xs ys zs : List ℕ) (n : ℕ) → length xs ≡ n → take (len - n) ys ≡ take (len - n) zs
              → take len (xs ++ ys) ≡ take len (xs ++ zs)
          joined xs ys zs n e h =
              elim (cases_lt (length xs) len) [
                | inl lt ↦
                    let sum : length xs + (len - n) ≡ len = omega (arith, e, lt) in
                    ap (λ k. take k (xs ++ ys)) (sym sum) ∙ take-append-add xs ys (len - n) ∙ ap (λ (l : List ℕ). xs ++ l) h
                    ∙ sym (take-append-add xs zs (len - n)) ∙ ap (λ k. take k (xs ++ zs)) sum
                | inr le ↦ take-append-le len xs ys le ∙ sym (take-append-le len xs zs le)
              ]
