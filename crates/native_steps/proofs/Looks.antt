-- A program that sets nothing finds the pages that a fetch goes through, and the bytes that it reads, and no clash that the
-- instruction doesn't have.
use Rattle.std.proofs.Common.{◌≡◌, ℕ, ◌+◌, ◌-◌, ◌*◌, ◌/◌, ◌%◌, ◌^◌, ◌<◌, ◌≤◌, List, [], ◌∷◌, ◌++◌, length, Bool, true, false, cond, ◌&&◌, ◌||◌, not, ◌==◌, Option, Some, None, Ok, refl, sym, ap, ◌∙◌, inl, inr, ◌⊎◌, arith}
use Rattle.std.specs.Prelude.{nat_le, nat_lt}
use Rattle.std.specs.List.{Contains, list_any}
use Rattle.std.specs.FinMap.{get}
use Rattle.std.proofs.lemmas.Bool.{cond-true, cond-false, false_from_ne_true, le-ltb, eqb-true, eq-eqb, or_from, both_ways}
use Rattle.std.proofs.Math.Bool.{or-false, and-false}
use Rattle.guest_ram.specs.Bytes.{AreBytes, byte}
use Rattle.ia32_types.specs.declared.stop.Stop.TheVariants as stops
use Rattle.ia32_types.specs.declared.insn.Insn.{Insn}
use Rattle.ia32_decode.specs.declared.answer.Decoded.{Decoded}
use Rattle.ia32_decode.specs.declared.answer.Decoded.TheVariants as begins
use Rattle.ia32_decode.specs.Decoding.{decoded}
use Rattle.ia32_decode.specs.Front.{longest, front_len}
use Rattle.descriptors.specs.Controls.{pse_of, wp_of}
use Rattle.descriptors.specs.Access.{by_level}
use Rattle.paging.specs.declared.entry.Access.{Access}
use Rattle.paging.specs.declared.entry.Entry.{Entry}
use Rattle.paging.specs.declared.entry.Walk.{Walk}
use Rattle.paging.specs.declared.entry.Walk.TheVariants.{Absent, Beyond, Reserved, Found}
use Rattle.paging.specs.Fresh.{has, fresh}
use Rattle.paging.specs.Space.{Mode, Bare, Wedge, no_own, Space, place, place_by}
use Rattle.paging.specs.Uses.{is_own, usable, with_front, with_back}
use Rattle.paging.specs.Work.{Outcome, on_value, refuses}
use Rattle.sys_exec.specs.declared.effect.Refusal.{Refusal}
use Rattle.sys_exec.specs.declared.effect.Refusal.TheVariants as refusal
use Rattle.image_check.specs.Image.{Image}
use Rattle.machine_model.specs.State.{Setting, State, space_at_start, wedge_mode}
use Rattle.machine_model.specs.Instruction.{fetching, owning_front, owning_back, next_page, owned, fetched_on, fetched_by, fetched}
use Rattle.machine_model.specs.Clash.{Use, fetch_uses, range_uses, uses_by, uses_at, is_refused_by, clash_in, instruction_clashes}
use Rattle.native_steps.specs.Looking.{marked, Seen, seen_by, seen, is_front, marks_front, seen_behind, next_seen, bytes_seen, uses_on, uses_behind, uses_from, uses_seen, UsesAreSeen, LooksAgree}
use Rattle.native_steps.proofs.Walking.{IsWithin}
use Rattle.native_steps.proofs.Through.{FetchThrough, fetch_through}
use Rattle.native_steps.proofs.Fetching.{IsFetch, fetch_parts, by_parts, IsIn, IsPast, fetching_went}
use Rattle.native_steps.proofs.Repeating.{front_is}
use Rattle.native_steps.proofs.LookedWalks.{found_before, found_after}
use Rattle.native_steps.proofs.LookedPages.{look, seen_in, marks_any, FetchSeen, fetch_seen, fetch_found}

-- ---- modes

-- what bars a fetch doesn't depend on the instruction's own bytes
owned_alike : (mode : Mode) (at len page : ℕ) (o : Option Entry) (access : Access) (wp : Bool) (walk : Walk)
    → seen_by (with_front mode at len) page o access wp walk ≡ seen_by mode page o access wp walk
owned_alike Bare at len page o access wp walk = refl
owned_alike (Wedge text count own) at len page (Some e) access wp walk = refl
owned_alike (Wedge text count own) at len page None access wp Absent = refl
owned_alike (Wedge text count own) at len page None access wp Beyond = refl
owned_alike (Wedge text count own) at len page None access wp Reserved = refl
owned_alike (Wedge text count own) at len page None access wp (Found e d t) = refl

none_there : (k : ℕ) → (nat_le 0 k && nat_lt k (0 + 0)) ≡ false
none_there k = ap (λ x. nat_le 0 k && x) (le-ltb k 0 (omega arith)) ∙ and-false (nat_le 0 k)

-- at first no byte is the instruction's own
none_own : (image : Image) (k : ℕ) → is_own (wedge_mode image) k ≡ false
none_own image k = or_from _ _ (none_there k) (none_there k)

-- and then those of the first page are
front_own : (image : Image) (at len k : ℕ) → is_own (with_front (wedge_mode image) at len) k ≡ (nat_le at k && nat_lt k (at + len))
front_own image at len k =
    ap (λ x. (nat_le at k && nat_lt k (at + len)) || x) (none_there k) ∙ or-false (nat_le at k && nat_lt k (at + len))

any_same : (f g : ℕ → Bool) → ((k : ℕ) → f k ≡ g k) → (ks : List ℕ) → list_any f ks ≡ list_any g ks
any_same f g h [] = refl
any_same f g h (k ∷ ks) = ap (λ x. x || list_any f ks) (h k) ∙ ap (λ x. g k || x) (any_same f g h ks)

any_none : (f : ℕ → Bool) → ((k : ℕ) → f k ≡ false) → (ks : List ℕ) → list_any f ks ≡ false
any_none f h [] = refl
any_none f h (k ∷ ks) = or_from (f k) (list_any f ks) (h k) (any_none f h ks)

-- ---- uses that can't clash

one_clear : (b : State) (page : ℕ) → clash_in (get b.set) (wp_of b.cpu) (fetch_uses b (page ∷ [])) ≡ false
one_clear b page = refl

two_clear : (b : State) (page next : ℕ) → (next == page) ≡ false
    → clash_in (get b.set) (wp_of b.cpu) (fetch_uses b (page ∷ next ∷ [])) ≡ false
two_clear b page next other = ap (λ x. ((x || false) && is_refused_by (get b.set next) (by_level b.cpu false) (wp_of b.cpu)) || false) other

-- ---- both pages

module _ (m : Setting) (b : State) (kernel : Bool) (mode : m.mode ≡ wedge_mode m.image) (room : 4096 * m.frames ≤ length b.ram)
    (fit : AreBytes b.ram) (small : b.cpu.regs.eip < 2 ^ 32) (user : (b.cpu.cpl == 3) ≡ not kernel) where
  abbrev eip : ℕ
  eip = b.cpu.regs.eip

  abbrev start : Space
  start = space_at_start m.mode m.frames b.cpu b.ram b.set

  abbrev access : Access
  access = record { write = false; user = not kernel }

  access_is : by_level b.cpu false ≡ access
  access_is = ap (λ (u : Bool). record { write = false; user = u }) user

  start_in : IsWithin m b kernel start
  start_in = record {
    frames = refl;
    cr3 = refl;
    pse = refl;
    wp = refl;
    own = no_own;
    mode = mode;
    room = room;
    fit = fit;
    pages = λ q lt. inl refl;
  }

  none_before : (q : ℕ) → Contains {X = ℕ} [] q → ⊥
  none_before q c = let lt = c.1 in omega (arith, lt)

  seen_same : (page : ℕ) → seen m b page ≡ seen_in m.mode (look start) access page
  seen_same page =
      ap (λ (a : Access). seen_by m.mode page (usable (get b.set page) a (wp_of b.cpu)) a (wp_of b.cpu)
      (fresh b.ram m.frames b.cpu.cr3 (pse_of b.cpu) page)) access_is

  page_small : eip / 4096 < 2 ^ 20
  page_small = omega (arith, small)

  abbrev next : ℕ
  next = next_page eip / 4096

  next_other : (next == eip / 4096) ≡ false
  next_other = false_from_ne_true (next == eip / 4096) (λ e. let is = eqb-true next (eip / 4096) e in omega (arith, is))

  next_small : (eip / 4096 == 1048575) ≡ false → next < 2 ^ 20
  next_small not_last =
      let other : eip / 4096 ≡ 1048575 → ⊥ = λ e. both_ways (eip / 4096 == 1048575) not_last (eq-eqb (eip / 4096) 1048575 e) in
      omega (arith, small, other)

  -- ---- after a fetch of the first page

  module _ (front : List ℕ) (first : Space) (reads : fetching (not kernel) eip (front_len eip) start ≡ Ok (front, first)) where
    one : FetchSeen (not kernel) start first eip (front_len eip) front
    one = fetch_seen m b kernel start first eip (front_len eip) front page_small reads

    through : FetchThrough m b kernel [] start first eip (front_len eip) front
    through = fetch_through m b kernel [] start first eip (front_len eip) front start_in page_small
        (λ c. absurd (none_before (eip / 4096) c)) reads

    abbrev x : Seen
    x = one.page.x

    from_first : uses_seen m b ≡ uses_behind m b x front (decoded front)
    from_first =
        ap (uses_from m b) (seen_same (eip / 4096) ∙ one.page.is)
        ∙ ap (λ (l : List ℕ). uses_behind m b x l (decoded l)) (sym one.bytes_are)

    first_went : first.visited ≡ eip / 4096 ∷ []
    first_went = fetching_went (not kernel) eip (front_len eip) start front first reads

    -- while the second page is translated
    abbrev before : Space
    before = record first { mode = with_front first.mode (place first eip) (front_len eip) }

    place_is : place first eip ≡ 4096 * x.frame + eip % 4096
    unfolding place
    place_is =
        let sum : one.page.entry.frame * 4096 + eip % 4096 ≡ 4096 * x.frame + eip % 4096 =
        let frame = one.page.frame_is in omega (arith, frame) in
        ap (λ (o : Option Entry). place_by o eip) one.page.kept ∙ sum

    own_is : (k : ℕ) → is_own before.mode k ≡ is_front b x k
    own_is k =
        ap (λ (z : Mode). is_own (with_front z (place first eip) (front_len eip)) k) (through.through.mode ∙ mode)
        ∙ front_own m.image (place first eip) (front_len eip) k
        ∙ ap (λ n. nat_le n k && nat_lt k (n + front_len eip)) place_is

    marks_are : (marks : List ℕ) → marks_any before.mode before.ram marks ≡ marks_front b x marks
    marks_are marks =
        any_same (λ at. is_own before.mode at && not (has (byte before.ram at) 32))
        (λ at. is_front b x at && not (has (byte (marked b.ram x.marks) at) 32)) (λ k.
        ap (λ c. c && not (has (byte first.ram k) 32)) (own_is k)
        ∙ ap (λ (r : List ℕ). is_front b x k && not (has (byte r k) 32)) one.page.ram) marks

    same_entry : seen_in before.mode (look before) access next ≡ seen_by m.mode next (usable (get b.set next) access (wp_of b.cpu)) access
        (wp_of b.cpu) (fresh first.ram m.frames b.cpu.cr3 (pse_of b.cpu) next)
    same_entry =
        let f = one.page in
        owned_alike first.mode (place first eip) (front_len eip) next (usable (get first.set next) access first.wp) access first.wp
        (fresh first.ram first.frames first.cr3 first.pse next)
        ∙ ap (λ (z : Mode). seen_by z next (usable (get first.set next) access first.wp) access first.wp
        (fresh first.ram first.frames first.cr3 first.pse next)) through.through.mode
        ∙ ap (λ (e : Option Entry). seen_by m.mode next (usable e access first.wp) access first.wp
        (fresh first.ram first.frames first.cr3 first.pse next)) (f.others next next_other)
        ∙ ap (λ (w : Bool). seen_by m.mode next (usable (get b.set next) access w) access w
        (fresh first.ram first.frames first.cr3 first.pse next)) f.wp
        ∙ ap (λ (n : ℕ). seen_by m.mode next (usable (get b.set next) access (wp_of b.cpu)) access (wp_of b.cpu)
        (fresh first.ram n first.cr3 first.pse next)) f.frames
        ∙ ap (λ (n : ℕ). seen_by m.mode next (usable (get b.set next) access (wp_of b.cpu)) access (wp_of b.cpu)
        (fresh first.ram m.frames n first.pse next)) f.cr3
        ∙ ap (λ (w : Bool). seen_by m.mode next (usable (get b.set next) access (wp_of b.cpu)) access (wp_of b.cpu)
        (fresh first.ram m.frames b.cpu.cr3 w next)) f.pse

    module _ (not_last : (eip / 4096 == 1048575) ≡ false) where
      to_before : (y : Seen) (o : Option Entry)
          → seen_by m.mode next o access (wp_of b.cpu) (fresh first.ram m.frames b.cpu.cr3 (pse_of b.cpu) next) ≡ Some y
          → seen_by m.mode next o access (wp_of b.cpu) (fresh b.ram m.frames b.cpu.cr3 (pse_of b.cpu) next) ≡ Some y
      to_before y (Some e) g = g
      to_before y None g = found_before b.ram first.ram m.frames b.cpu.cr3 (pse_of b.cpu) m.mode next access (wp_of b.cpu) y
          through.through.marks (next_small not_last) room g

      to_after : (y : Seen) (o : Option Entry)
          → seen_by m.mode next o access (wp_of b.cpu) (fresh b.ram m.frames b.cpu.cr3 (pse_of b.cpu) next) ≡ Some y
          → seen_by m.mode next o access (wp_of b.cpu) (fresh first.ram m.frames b.cpu.cr3 (pse_of b.cpu) next) ≡ Some y
      to_after y (Some e) g = g
      to_after y None g = found_after b.ram first.ram m.frames b.cpu.cr3 (pse_of b.cpu) m.mode next access (wp_of b.cpu) y
          through.through.marks (next_small not_last) room g

      -- ---- after a fetch of both

      module _ (more : List ℕ) (after : Space) (reads_more : fetching (not kernel) (next_page eip) longest before ≡ Ok (more, after)) where
        second : FetchSeen (not kernel) before after (next_page eip) longest more
        second = fetch_seen m b kernel before after (next_page eip) longest more (next_small not_last) reads_more

        abbrev y : Seen
        y = second.page.x

        next_is : next_seen m b x ≡ Some y
        next_is =
            ap (seen_behind b x) (seen_same next ∙ to_before y (usable (get b.set next) access (wp_of b.cpu))
            (sym same_entry ∙ second.page.is))
            ∙ cond-false (marks_front b x y.marks) None (Some y) (sym (marks_are y.marks) ∙ second.page.own)

        more_is : more ≡ bytes_seen (marked (marked b.ram x.marks) y.marks) y (next_page eip) longest
        more_is = second.bytes_are ∙ ap (λ (l : List ℕ). bytes_seen (marked l y.marks) y (next_page eip) longest) one.page.ram

        on_is : uses_on b (marked b.ram x.marks) front (next_seen m b x) ≡ fetch_uses b (eip / 4096 ∷ next ∷ [])
            ++ range_uses b (decoded (front ++ more))
        on_is =
            ap (uses_on b (marked b.ram x.marks) front) next_is
            ∙ ap (λ (l : List ℕ). fetch_uses b (eip / 4096 ∷ next ∷ []) ++ range_uses b (decoded (front ++ l))) (sym more_is)

        uses_two : decoded front ≡ begins.Short → uses_seen m b ≡ fetch_uses b (eip / 4096 ∷ next ∷ [])
            ++ range_uses b (decoded (front ++ more))
        uses_two cut =
            from_first
            ∙ ap (uses_behind m b x front) cut
            ∙ cond-false (eip / 4096 == 1048575) (fetch_uses b (eip / 4096 ∷ []))
            (uses_on b (marked b.ram x.marks) front (next_seen m b x)) not_last
            ∙ on_is

  -- ---- where the fetch gives an instruction

  module _ (insn : Insn) (len : ℕ) (t : Space) (p : IsFetch (not kernel) eip insn len start t) where
    in_one : IsIn eip insn len p.front p.first t → fetch_uses b t.visited ++ range_uses b (begins.Insn insn len) ≡ uses_seen m b
    in_one h =
        ap (λ (l : List ℕ). fetch_uses b l ++ range_uses b (begins.Insn insn len)) (h.visited ∙ first_went p.front p.first p.reads)
        ∙ sym (from_first p.front p.first p.reads ∙ ap (uses_behind m b (x p.front p.first p.reads) p.front) h.is)

    in_two : IsPast (not kernel) eip insn len p.front p.first t → fetch_uses b t.visited
        ++ range_uses b (begins.Insn insn len) ≡ uses_seen m b
    in_two h =
        let before_is : before p.front p.first p.reads ≡ h.on.before = front_is eip (front_len eip) p.first h.on.before tt h.on.owns in
        let more : fetching (not kernel) (next_page eip) longest (before p.front p.first p.reads) ≡ Ok (h.on.more, h.on.after) =
        ap (fetching (not kernel) (next_page eip) longest) before_is ∙ h.on.reads in
        let went : t.visited ≡ eip / 4096 ∷ next ∷ [] =
        h.on.visited ∙ ap (λ (l : List ℕ). l ++ next ∷ []) (first_went p.front p.first p.reads) in
        ap (λ (l : List ℕ). fetch_uses b l ++ range_uses b (begins.Insn insn len)) went
        ∙ ap (λ (d : Decoded). fetch_uses b (eip / 4096 ∷ next ∷ []) ++ range_uses b d) (sym h.on.is)
        ∙ sym (uses_two p.front p.first p.reads h.not_last h.on.more h.on.after more h.cut)

    both_seen : IsIn eip insn len p.front p.first t ⊎ IsPast (not kernel) eip insn len p.front p.first t → fetch_uses b t.visited
        ++ range_uses b (begins.Insn insn len) ≡ uses_seen m b
    both_seen (inl h) = in_one h
    both_seen (inr h) = in_two h

  found : (insn : Insn) (len : ℕ) (t : Space) → fetched (b.cpu.cpl == 3) eip start ≡ Ok (begins.Insn insn len, t)
      → uses_at m b ≡ uses_seen m b
  found insn len t e =
      let p = fetch_parts (not kernel) eip insn len start t (ap (λ (u : Bool). fetched u eip start) (sym user) ∙ e) in
      ap (uses_by b) e ∙ both_seen insn len t p (by_parts (not kernel) eip insn len p.front p.first t (decoded p.front) refl p.goes_on)

  -- ---- where a look finds a clash

  abbrev Clashes : List Use → Type 0
  Clashes uses = clash_in (get b.set) (wp_of b.cpu) uses ≡ true

  module _ (h : Clashes (uses_seen m b)) where
    none_clear : {A : Type 0} (uses : List Use) → uses_seen m b ≡ uses → clash_in (get b.set) (wp_of b.cpu) uses ≡ false → A
    none_clear uses is none = absurd (let f : true ≡ false = sym h ∙ ap (clash_in (get b.set) (wp_of b.cpu)) is ∙ none in cc)

    -- the fetch gives an instruction
    at_instruction : (insn : Insn) (len : ℕ) (t : Space) → fetched (not kernel) eip start ≡ Ok (begins.Insn insn len, t)
        → instruction_clashes m b ≡ true
    unfolding instruction_clashes
    at_instruction insn len t e =
        ap (clash_in (get b.set) (wp_of b.cpu)) (found insn len t (ap (λ (u : Bool). fetched u eip start) user ∙ e)) ∙ h

    module _ (front : List ℕ) (first : Space) (reads : fetching (not kernel) eip (front_len eip) start ≡ Ok (front, first)) where
      fetched_is : (d : Decoded) → decoded front ≡ d → fetched (not kernel) eip start ≡ fetched_by (not kernel) eip front d first
      unfolding fetched
      fetched_is d is =
          ap (λ (o : Outcome Refusal (List ℕ)). on_value o (λ (l : List ℕ). fetched_by (not kernel) eip l (decoded l))) reads
          ∙ ap (λ (z : Decoded). fetched_by (not kernel) eip front z first) is

      ended_in : (insn : Insn) (len : ℕ) → decoded front ≡ begins.Insn insn len → instruction_clashes m b ≡ true
      unfolding owning_front
      ended_in insn len is = at_instruction insn len (record first { mode = with_front first.mode (place first eip) len })
          (fetched_is (begins.Insn insn len) is)

      module _ (not_last : (eip / 4096 == 1048575) ≡ false) (cut : decoded front ≡ begins.Short) where
        fetched_more : fetched (not kernel) eip start ≡ fetched_on (not kernel) eip front first
        fetched_more =
            fetched_is begins.Short cut
            ∙ ap (λ (last : Bool). cond last (refuses (refusal.Stop stops.WrapAccess)) (fetched_on (not kernel) eip front) first) not_last

        module _ (more : List ℕ) (after : Space) (reads_more : fetching (not kernel) (next_page eip) longest (before front first reads) ≡ Ok
            (more, after)) where
          on_more : (d : Decoded) → decoded (front ++ more) ≡ d → fetched_on (not kernel) eip front first ≡ owned eip d after
          unfolding fetched_on owning_front
          on_more d is =
              ap (λ (o : Outcome Refusal (List ℕ)). on_value o (λ (l : List ℕ). owned eip (decoded (front ++ l)))) reads_more
              ∙ ap (λ (z : Decoded). owned eip z after) is

          two_are : (d : Decoded) → decoded (front ++ more) ≡ d → uses_seen m b ≡ fetch_uses b (eip / 4096 ∷ next ∷ []) ++ range_uses b d
          two_are d is = uses_two front first reads not_last more after reads_more cut
              ∙ ap (λ (z : Decoded). fetch_uses b (eip / 4096 ∷ next ∷ []) ++ range_uses b z) is

          ended_past : (d : Decoded) → decoded (front ++ more) ≡ d → instruction_clashes m b ≡ true
          unfolding owning_back
          ended_past (begins.Insn insn len) is =
              at_instruction insn len (record after { mode = with_back after.mode (place after (next_page eip)) (len - front_len eip) })
              (fetched_more ∙ on_more (begins.Insn insn len) is)
          ended_past begins.Short is =
              none_clear (fetch_uses b (eip / 4096 ∷ next ∷ [])) (two_are begins.Short is) (two_clear b (eip / 4096) next next_other)
          ended_past begins.Outside is =
              none_clear (fetch_uses b (eip / 4096 ∷ next ∷ [])) (two_are begins.Outside is) (two_clear b (eip / 4096) next next_other)

        seen_on : (o : Option Seen) → seen m b next ≡ o → instruction_clashes m b ≡ true
        seen_on None is = none_clear (fetch_uses b (eip / 4096 ∷ next ∷ [])) (cut_is (ap (seen_behind b (x front first reads)) is))
            (two_clear b (eip / 4096) next next_other)
          where
            cut_is : next_seen m b (x front first reads) ≡ None → uses_seen m b ≡ fetch_uses b (eip / 4096 ∷ next ∷ [])
            cut_is none =
                from_first front first reads
                ∙ ap (uses_behind m b (x front first reads) front) cut
                ∙ cond-false (eip / 4096 == 1048575) (fetch_uses b (eip / 4096 ∷ []))
                (uses_on b (marked b.ram (x front first reads).marks) front (next_seen m b (x front first reads))) not_last
                ∙ ap (uses_on b (marked b.ram (x front first reads).marks) front) none
        seen_on (Some y) is = by_marks (marks_front b (x front first reads) y.marks) refl
          where
            cut_is : next_seen m b (x front first reads) ≡ None → uses_seen m b ≡ fetch_uses b (eip / 4096 ∷ next ∷ [])
            cut_is none =
                from_first front first reads
                ∙ ap (uses_behind m b (x front first reads) front) cut
                ∙ cond-false (eip / 4096 == 1048575) (fetch_uses b (eip / 4096 ∷ []))
                (uses_on b (marked b.ram (x front first reads).marks) front (next_seen m b (x front first reads))) not_last
                ∙ ap (uses_on b (marked b.ram (x front first reads).marks) front) none

            by_marks : (c : Bool) → marks_front b (x front first reads) y.marks ≡ c → instruction_clashes m b ≡ true
            by_marks true e =
                none_clear (fetch_uses b (eip / 4096 ∷ next ∷ []))
                (cut_is (ap (seen_behind b (x front first reads)) is ∙ ap (λ (c : Bool). cond {A = Option Seen} c None (Some y)) e))
                (two_clear b (eip / 4096) next next_other)
            by_marks false e =
                let there = same_entry front first reads
                ∙ to_after front first reads not_last y (usable (get b.set next) access (wp_of b.cpu)) (sym (seen_same next) ∙ is) in
                let f = fetch_found m b kernel (before front first reads) (next_page eip) longest y (next_small not_last) there
                (marks_are front first reads y.marks ∙ e) in
                ended_past f.bytes f.after f.reads (decoded (front ++ f.bytes)) refl

      by_last : decoded front ≡ begins.Short → (last : Bool) → (eip / 4096 == 1048575) ≡ last → instruction_clashes m b ≡ true
      by_last cut true is =
          none_clear (fetch_uses b (eip / 4096 ∷ []))
          (from_first front first reads ∙ ap (uses_behind m b (x front first reads) front) cut
          ∙ cond-true (eip / 4096 == 1048575) (fetch_uses b (eip / 4096 ∷ []))
          (uses_on b (marked b.ram (x front first reads).marks) front (next_seen m b (x front first reads))) is)
          (one_clear b (eip / 4096))
      by_last cut false is = seen_on is cut (seen m b next) refl

      by_decoded : (d : Decoded) → decoded front ≡ d → instruction_clashes m b ≡ true
      by_decoded (begins.Insn insn len) is = ended_in insn len is
      by_decoded begins.Short is = by_last is (eip / 4096 == 1048575) refl
      by_decoded begins.Outside is = none_clear (fetch_uses b (eip / 4096 ∷ []))
          (from_first front first reads ∙ ap (uses_behind m b (x front first reads) front) is) (one_clear b (eip / 4096))

    by_first : (o : Option Seen) → seen m b (eip / 4096) ≡ o → instruction_clashes m b ≡ true
    by_first None is = none_clear (fetch_uses b (eip / 4096 ∷ [])) (ap (uses_from m b) is) (one_clear b (eip / 4096))
    by_first (Some z) is =
        let none : marks_any m.mode b.ram z.marks ≡ false =
        any_none (λ at. is_own m.mode at && not (has (byte b.ram at) 32))
        (λ k. ap (λ (w : Mode). is_own w k && not (has (byte b.ram k) 32)) mode ∙ ap (λ c. c && not (has (byte b.ram k) 32))
        (none_own m.image k)) z.marks in
        let f = fetch_found m b kernel start eip (front_len eip) z page_small (sym (seen_same (eip / 4096)) ∙ is) none in
        by_decoded f.bytes f.after f.reads (decoded f.bytes) refl

    clashes : instruction_clashes m b ≡ true
    clashes = by_first (seen m b (eip / 4096)) refl

not_not : (u : Bool) → u ≡ not (not u)
not_not true = refl
not_not false = refl

pub uses_are_seen : UsesAreSeen
uses_are_seen m b mode room fit small insn len t e =
    found m b (not (b.cpu.cpl == 3)) mode room fit small (not_not (b.cpu.cpl == 3)) insn len t e

pub looks_agree : LooksAgree
looks_agree m b mode room fit small h = clashes m b (not (b.cpu.cpl == 3)) mode room fit small (not_not (b.cpu.cpl == 3)) h
