-- One page of a step, by an entry or by a walk: what was used before serves still.
use Rattle.std.proofs.Common.{◌≡◌, ℕ, ◌+◌, ◌*◌, ◌/◌, ◌%◌, ◌^◌, ◌<◌, ◌≤◌, List, [], ◌∷◌, ◌++◌, length, Bool, true, false, cond, ◌&&◌, ◌||◌, not, ◌==◌, Option, Some, None, refl, sym, ap, subst, ◌∙◌, ◌⊎◌, inl, inr, arith}
use Rattle.std.specs.Option.{ForSome}
use Rattle.std.specs.FinMap.{FinMap, get, insert, get-insert}
use Rattle.std.specs.Ordering.{nat_cmp}
use Rattle.std.specs.Cmp.{unsigned_tied}
use Rattle.std.proofs.lemmas.Cmp.{nat_cmp_total}
use Rattle.std.proofs.lemmas.Bool.{cond-true, cond-false, and_parts, eqb-true, eq-eqb}
use Rattle.guest_ram.specs.Bytes.{AreBytes, byte, word32}
use Rattle.ia32_types.specs.declared.stop.Stop.TheVariants as stops
use Rattle.descriptors.specs.Controls.{pse_of, wp_of}
use Rattle.paging.specs.declared.entry.Access.{Access}
use Rattle.paging.specs.declared.entry.Entry.{Entry}
use Rattle.paging.specs.declared.entry.Touch.{Touch}
use Rattle.paging.specs.declared.entry.Touch.TheVariants.{Ready, Fault, Stop}
use Rattle.paging.specs.declared.entry.Walk.{Walk}
use Rattle.paging.specs.declared.entry.Walk.TheVariants.{Absent, Beyond, Reserved, Found}
use Rattle.paging.specs.Fresh.{has, fresh, tables_read, grants, allows, flagged}
use Rattle.paging.specs.Space.{Mode, Wedge, Own, Space}
use Rattle.paging.specs.Uses.{Tables, tables_of, Decision, is_barred, is_own, walks_text, marks_own, fault_code, dirtied, by_walk, decided, settled, usable, by_entry, page_uses}
use Rattle.image_load.specs.Boot.{text_pages}
use Rattle.machine_model.specs.State.{Setting, State}
use Rattle.native_steps.proofs.Pages.{HasEntry, IsFree}
use Rattle.native_steps.proofs.Marks.{AreMarked, marked_same, flagged_marked, flagged_fit, flagged_dirty, flagged_kept}
use Rattle.native_steps.proofs.Walks.{IsWalk, AreIn, IsStill, walk_parts, walk_is, walk_in, walk_kept, page_is as page_of_walk}

-- ---- a decision that lets the access pass

pub record IsReadied (s : Tables) (fetch : Bool) (page : ℕ) (access : Access) (d : Decision) : Type 0 where
  pub entry : Entry
  pub dir_at : ℕ
  pub word_at : ℕ
  pub found : fresh s.ram s.frames s.cr3 s.pse page ≡ Found entry dir_at word_at
  pub granted : grants entry access s.wp ≡ true
  pub free : is_barred s.mode fetch access.user entry.page entry.frame ≡ false
  pub own : marks_own s dir_at word_at access.write ≡ false
  pub is : d ≡ record { met = Ready; entry = Some (dirtied entry access.write); ram = flagged s.ram dir_at word_at access.write }

walk_readied : (s : Tables) (fetch : Bool) (page at : ℕ) (access : Access) (w : Walk) → fresh s.ram s.frames s.cr3 s.pse page ≡ w
    → (by_walk s fetch at access w).met ≡ Ready → IsReadied s fetch page access (by_walk s fetch at access w)
walk_readied s fetch page at access Absent is e = absurd cc
walk_readied s fetch page at access Beyond is e = absurd cc
walk_readied s fetch page at access Reserved is e = absurd cc
walk_readied s fetch page at access (Found entry d t) is e = by_grant (grants entry access s.wp) refl e
  where
    by_own : grants entry access s.wp ≡ true → is_barred s.mode fetch access.user entry.page entry.frame ≡ false → (o : Bool)
        → marks_own s d t access.write ≡ o
        → (cond {A = Decision} o (record { met = Stop stops.CodeIsTable; entry = None; ram = s.ram })
        (record { met = Ready; entry = Some (dirtied entry access.write); ram = flagged s.ram d t access.write })).met ≡ Ready
        → IsReadied s fetch page access
        (cond o (record { met = Stop stops.CodeIsTable; entry = None; ram = s.ram })
        (record { met = Ready; entry = Some (dirtied entry access.write); ram = flagged s.ram d t access.write }))
    by_own g f true o x = absurd cc
    by_own g f false o x = record { entry = entry; dir_at = d; word_at = t; found = is; granted = g; free = f; own = o; is = refl }

    by_bar : grants entry access s.wp ≡ true → (f : Bool) → is_barred s.mode fetch access.user entry.page entry.frame ≡ f
        → (cond {A = Decision} f (record { met = Stop stops.TextMapped; entry = None; ram = s.ram })
        (cond (marks_own s d t access.write) (record { met = Stop stops.CodeIsTable; entry = None; ram = s.ram })
        (record { met = Ready; entry = Some (dirtied entry access.write); ram = flagged s.ram d t access.write }))).met ≡ Ready
        → IsReadied s fetch page access (cond f (record { met = Stop stops.TextMapped; entry = None; ram = s.ram })
        (cond (marks_own s d t access.write) (record { met = Stop stops.CodeIsTable; entry = None; ram = s.ram })
        (record { met = Ready; entry = Some (dirtied entry access.write); ram = flagged s.ram d t access.write })))
    by_bar g true f x = absurd cc
    by_bar g false f x = by_own g f (marks_own s d t access.write) refl x

    by_grant : (g : Bool) → grants entry access s.wp ≡ g
        → (cond {A = Decision} (not g) (record { met = Fault (fault_code true access) at; entry = None; ram = s.ram })
        (cond (is_barred s.mode fetch access.user entry.page entry.frame)
        (record { met = Stop stops.TextMapped; entry = None; ram = s.ram })
        (cond (marks_own s d t access.write) (record { met = Stop stops.CodeIsTable; entry = None; ram = s.ram })
        (record { met = Ready; entry = Some (dirtied entry access.write); ram = flagged s.ram d t access.write })))).met ≡ Ready
        → IsReadied s fetch page access (cond (not g) (record { met = Fault (fault_code true access) at; entry = None; ram = s.ram })
        (cond (is_barred s.mode fetch access.user entry.page entry.frame)
        (record { met = Stop stops.TextMapped; entry = None; ram = s.ram })
        (cond (marks_own s d t access.write) (record { met = Stop stops.CodeIsTable; entry = None; ram = s.ram })
        (record { met = Ready; entry = Some (dirtied entry access.write); ram = flagged s.ram d t access.write }))))
    by_grant false g x = absurd cc
    by_grant true g x = by_bar g (is_barred s.mode fetch access.user entry.page entry.frame) refl x

pub decided_readied : (s : Tables) (fetch : Bool) (page at : ℕ) (access : Access) → (decided s fetch page at access).met ≡ Ready
    → IsReadied s fetch page access (decided s fetch page at access)
unfolding decided
decided_readied s fetch page at access e = by_text (walks_text s page) e
  where
    by_text : (text : Bool)
        → (cond {A = Decision} text (record { met = Stop stops.TableInText; entry = None; ram = s.ram })
        (by_walk s fetch at access (fresh s.ram s.frames s.cr3 s.pse page))).met ≡ Ready
        → IsReadied s fetch page access
        (cond text (record { met = Stop stops.TableInText; entry = None; ram = s.ram })
        (by_walk s fetch at access (fresh s.ram s.frames s.cr3 s.pse page)))
    by_text true x = absurd cc
    by_text false x = walk_readied s fetch page at access (fresh s.ram s.frames s.cr3 s.pse page) refl x

-- ---- an entry that may be used

pub usable_parts : (o : Option Entry) (access : Access) (wp : Bool) (e : Entry) → usable o access wp ≡ Some e → (o ≡ Some e)
    × (allows e access wp ≡ true)
usable_parts None access wp e h = absurd cc
usable_parts (Some x) access wp e h = by_test (allows x access wp) refl h
  where
    by_test : (t : Bool) → allows x access wp ≡ t → cond {A = Option Entry} t (Some x) None ≡ Some e
        → (◌≡◌ {A = Option Entry} (Some x) (Some e)) × (allows e access wp ≡ true)
    by_test true i g = let same : x ≡ e = cc in (g, ap (λ (y : Entry). allows y access wp) (sym same) ∙ i)
    by_test false i g = absurd cc

-- the access can't be by such an entry
not_usable : (o : Option Entry) (access : Access) (wp : Bool) (e : Entry) → o ≡ Some e → allows e access wp ≡ true
    → usable o access wp ≡ None → ⊥
not_usable o access wp e is h n =
    let there : usable o access wp ≡ Some e =
    ap (λ (x : Option Entry). usable x access wp) is ∙ cond-true (allows e access wp) (Some e) None h in
    let f : ◌≡◌ {A = Option Entry} None (Some e) = sym n ∙ there in
    cc

-- ---- memory within a step

module _ (m : Setting) (b : State) (kernel : Bool) where
  -- the tables say of the page what its entry says, and may say that it is dirty
  pub record IsWalked (ram : List ℕ) (set : FinMap nat_cmp Entry) (page : ℕ) : Type 0 where
    pub entry : Entry
    pub kept : get set page ≡ Some entry
    pub dir_at : ℕ
    pub word_at : ℕ
    pub dirty : Bool
    pub walk : IsWalk ram m.frames b.cpu.cr3 (pse_of b.cpu) page (record entry { dirty = dirty }) dir_at word_at
    pub more : entry.dirty ≡ true → dirty ≡ true

  -- its entry is as before the step, or comes from a walk
  abbrev pub IsFrom : List ℕ → FinMap nat_cmp Entry → ℕ → Type 0
  IsFrom ram set page = (get set page ≡ get b.set page) ⊎ IsWalked ram set page

  pub record IsWithin (s : Space) : Type 0 where
    pub frames : s.frames ≡ m.frames
    pub cr3 : s.cr3 ≡ b.cpu.cr3
    pub pse : s.pse ≡ pse_of b.cpu
    pub wp : s.wp ≡ wp_of b.cpu
    pub own : Own
    pub mode : s.mode ≡ Wedge 0x100 (text_pages m.image) own
    pub room : 4096 * m.frames ≤ length s.ram
    pub fit : AreBytes s.ram
    pub pages : (page : ℕ) → page < 2 ^ 20 → IsFrom s.ram s.set page

  abbrev side : Bool → Access
  side write = record { write = write; user = not kernel }

  -- a later use of the page finds an entry that allows it, if it had one before the step
  abbrev pub IsServed : ℕ → Bool → Type 0
  IsServed page write = ForSome (get b.set page) (λ e. allows e (side write) (wp_of b.cpu) ≡ true)

  -- what one page leaves
  pub record LeavesPage (s t : Space) (page : ℕ) (write fetch : Bool) : Type 0 where
    pub within : IsWithin t
    pub frame : ℕ
    pub has : HasEntry kernel (wp_of b.cpu) t.set write page frame
    pub free : IsFree m b kernel fetch page frame
    pub marks : AreMarked s.ram t.ram
    pub mode : t.mode ≡ s.mode
    pub owns : (k : ℕ) → is_own s.mode k ≡ true → byte t.ram k ≡ byte s.ram k
    pub others : (q : ℕ) (w : Bool) (f : ℕ) → HasEntry kernel (wp_of b.cpu) s.set w q f → (q ≡ page → IsServed page write)
        → HasEntry kernel (wp_of b.cpu) t.set w q f

  same_space : (x y : Touch × Space) → x ≡ y → x.1 ≡ y.1
  same_space x y e = ap (λ (o : Touch × Space). o.1) e

  -- ---- by an entry

  module _ (s t : Space) (fetch : Bool) (page at : ℕ) (write : Bool) (h : IsWithin s) where
    abbrev seen : Space
    seen = record s { pages = s.pages + 1; visited = s.visited ++ page ∷ [] }

    by_entry_leaves : (e : Entry) → usable (get s.set page) (side write) s.wp ≡ Some e → by_entry seen fetch page at (side write) (Some e)
        ≡ (Ready, t) → LeavesPage s t page write fetch
    by_entry_leaves e found x =
        let parts = usable_parts (get s.set page) (side write) s.wp e found in
        choice (is_barred s.mode fetch (not kernel) page e.frame) refl parts.0 parts.1 x
      where
        left : seen ≡ t → is_barred s.mode fetch (not kernel) page e.frame ≡ false → get s.set page ≡ Some e
            → allows e (side write) s.wp ≡ true → LeavesPage s t page write fetch
        left y f kept allowed = subst (λ (z : Space). LeavesPage s z page write fetch) y (record {
          within = record {
            frames = h.frames;
            cr3 = h.cr3;
            pse = h.pse;
            wp = h.wp;
            own = h.own;
            mode = h.mode;
            room = h.room;
            fit = h.fit;
            pages = h.pages;
          };
          frame = e.frame;
          has = record { entry = e; kept = kept; frame_is = refl; allowed = ap (allows e (side write)) (sym h.wp) ∙ allowed };
          free = ap (λ (z : Mode). is_barred z fetch (not kernel) page e.frame) (sym h.mode) ∙ f;
          marks = marked_same s.ram;
          mode = refl;
          owns = λ k o. refl;
          others = λ q w f2 has g. has;
        })

        choice : (text : Bool) → is_barred s.mode fetch (not kernel) page e.frame ≡ text → get s.set page ≡ Some e
            → allows e (side write) s.wp ≡ true → cond {A = Touch × Space} text (Stop stops.TextMapped, seen) (Ready, seen) ≡ (Ready, t)
            → LeavesPage s t page write fetch
        choice true f kept allowed y = absurd (let g : Stop stops.TextMapped ≡ Ready = ap (λ (o : Touch × Space). o.0) y in cc)
        choice false f kept allowed y = left (same_space (Ready, seen) (Ready, t) y) f kept allowed

    -- ---- by a walk

    module _ (small : page < 2 ^ 20) (none : usable (get s.set page) (side write) s.wp ≡ None)
        (r : IsReadied (tables_of s) fetch page (side write) (decided (tables_of s) fetch page at (side write)))
        (t_is : record s {
          pages = s.pages + 1;
          visited = s.visited ++ page ∷ [];
          ram = flagged s.ram r.dir_at r.word_at write;
          set = insert s.set page (dirtied r.entry write);
          tables = s.tables ++ tables_read s.ram s.frames s.cr3 s.pse page;
        } ≡ t)
      where
        ram_is : flagged s.ram r.dir_at r.word_at write ≡ t.ram
        ram_is = ap (λ (x : Space). x.ram) t_is

        set_is : insert s.set page (dirtied r.entry write) ≡ t.set
        set_is = ap (λ (x : Space). x.set) t_is

        walk : IsWalk s.ram m.frames b.cpu.cr3 (pse_of b.cpu) page r.entry r.dir_at r.word_at
        walk =
            walk_parts s.ram m.frames b.cpu.cr3 (pse_of b.cpu) page r.entry r.dir_at r.word_at
            (ap (λ x. fresh s.ram x b.cpu.cr3 (pse_of b.cpu) page) (sym h.frames) ∙ ap (λ x. fresh s.ram s.frames x (pse_of b.cpu) page)
            (sym h.cr3) ∙ ap (λ x. fresh s.ram s.frames s.cr3 x page) (sym h.pse) ∙ r.found)

        there : AreIn m.frames r.dir_at r.word_at
        there = walk_in s.ram m.frames b.cpu.cr3 (pse_of b.cpu) page r.entry r.dir_at r.word_at small walk

        dir_room : r.dir_at + 4 ≤ length s.ram
        dir_room = let p = there.dir_within in let room = h.room in omega (arith, p, room)

        word_room : r.word_at + 4 ≤ length s.ram
        word_room = let p = there.word_within in let room = h.room in omega (arith, p, room)

        marks : AreMarked s.ram t.ram
        marks = subst (AreMarked s.ram) ram_is
            (flagged_marked s.ram r.dir_at r.word_at write there.dir_even there.word_even dir_room word_room h.fit)

        fit : AreBytes t.ram
        fit = subst AreBytes ram_is (flagged_fit s.ram r.dir_at r.word_at write there.dir_even there.word_even dir_room word_room h.fit)

        dirty_there : write ≡ true → word32 t.ram r.word_at / 64 % 2 ≡ 1
        dirty_there e = subst (λ (x : List ℕ). word32 x r.word_at / 64 % 2 ≡ 1) ram_is
            (flagged_dirty s.ram r.dir_at r.word_at write there.dir_even there.word_even dir_room word_room h.fit e)

        got : (q : ℕ) → get t.set q ≡ cond (q == page) (Some (dirtied r.entry write)) (get s.set q)
        got q =
            ap (λ (x : FinMap nat_cmp Entry). get x q) (sym set_is)
            ∙ get-insert nat_cmp_total s.set page (dirtied r.entry write) q
            ∙ ap (λ c. cond c (Some (dirtied r.entry write)) (get s.set q)) (unsigned_tied q page)

        got_here : get t.set page ≡ Some (dirtied r.entry write)
        got_here = got page ∙ cond-true (page == page) _ _ (eq-eqb page page refl)

        got_there : (q : ℕ) → (q == page) ≡ false → get t.set q ≡ get s.set q
        got_there q e = got q ∙ cond-false (q == page) _ _ e

        still : (q : ℕ) (e : Entry) (d x : ℕ) → q < 2 ^ 20 → IsWalk s.ram m.frames b.cpu.cr3 (pse_of b.cpu) q e d x
            → IsStill t.ram m.frames b.cpu.cr3 (pse_of b.cpu) q e d x
        still q e d x lt k = walk_kept s.ram t.ram m.frames b.cpu.cr3 (pse_of b.cpu) q e d x marks lt h.room k

        or_true : (x : Bool) → (x || true) ≡ true
        or_true true = refl
        or_true false = refl

        walked_here : IsWalked t.ram t.set page
        walked_here =
            let k = still page r.entry r.dir_at r.word_at small walk in
            record {
              entry = dirtied r.entry write;
              kept = got_here;
              dir_at = r.dir_at;
              word_at = r.word_at;
              dirty = k.dirty;
              walk = k.walk;
              more = λ e. more k (r.entry.dirty) refl e;
            }
          where
            by_write : (k : IsStill t.ram m.frames b.cpu.cr3 (pse_of b.cpu) page r.entry r.dir_at r.word_at) → (x : Bool) → write ≡ x
                → (false || x) ≡ true → k.dirty ≡ true
            by_write k true e g = k.flag ∙ eq-eqb (word32 t.ram r.word_at / 64 % 2) 1 (dirty_there e)
            by_write k false e g = absurd (let f : false ≡ true = g in cc)

            more : (k : IsStill t.ram m.frames b.cpu.cr3 (pse_of b.cpu) page r.entry r.dir_at r.word_at) → (d : Bool) → r.entry.dirty ≡ d
                → (d || write) ≡ true → k.dirty ≡ true
            more k true e g = k.more e
            more k false e g = by_write k write refl g

        from_there : (q : ℕ) → q < 2 ^ 20 → (same : Bool) → (q == page) ≡ same → IsFrom t.ram t.set q
        from_there q lt true e = subst (IsFrom t.ram t.set) (sym (eqb-true q page e)) (inr walked_here)
        from_there q lt false e =
            elim (h.pages q lt) [
              | inl untouched ↦ inl (got_there q e ∙ untouched)
              | inr k ↦
                  let st = still q (record k.entry { dirty = k.dirty }) k.dir_at k.word_at lt k.walk in
                  inr (record {
                    entry = k.entry;
                    kept = got_there q e ∙ k.kept;
                    dir_at = k.dir_at;
                    word_at = k.word_at;
                    dirty = st.dirty;
                    walk = st.walk;
                    more = λ f. st.more (k.more f);
                  })
            ]

        within : IsWithin t
        within =
            let long = marks.long in
            let room = h.room in
            record {
              frames = ap (λ (x : Space). x.frames) (sym t_is) ∙ h.frames;
              cr3 = ap (λ (x : Space). x.cr3) (sym t_is) ∙ h.cr3;
              pse = ap (λ (x : Space). x.pse) (sym t_is) ∙ h.pse;
              wp = ap (λ (x : Space). x.wp) (sym t_is) ∙ h.wp;
              own = h.own;
              mode = ap (λ (x : Space). x.mode) (sym t_is) ∙ h.mode;
              room = omega (arith, room, long);
              fit = fit;
              pages = λ q lt. from_there q lt (q == page) refl;
            }

        allowed_by : (e : Entry) (w d : Bool) → grants e (side w) (wp_of b.cpu) ≡ true → (not w || d) ≡ true
            → allows (record e { dirty = d }) (side w) (wp_of b.cpu) ≡ true
        allowed_by e w d g x = both_true (grants e (side w) (wp_of b.cpu)) (not w || d) g x
          where
            both_true : (p q : Bool) → p ≡ true → q ≡ true → (p && q) ≡ true
            both_true p q i j = cc

        granted : grants r.entry (side write) (wp_of b.cpu) ≡ true
        granted = ap (grants r.entry (side write)) (sym h.wp) ∙ r.granted

        written : (w d : Bool) → (not w || (d || w)) ≡ true
        written true d = or_true d
        written false d = refl

        has_here : HasEntry kernel (wp_of b.cpu) t.set write page r.entry.frame
        has_here = record {
          entry = dirtied r.entry write;
          kept = got_here;
          frame_is = refl;
          allowed = allowed_by r.entry write (r.entry.dirty || write) granted (written write r.entry.dirty);
        }

        page_is : r.entry.page ≡ page
        page_is = page_of_walk s.ram m.frames b.cpu.cr3 (pse_of b.cpu) page r.entry r.dir_at r.word_at walk

        free : IsFree m b kernel fetch page r.entry.frame
        free =
            ap (λ (z : Mode). is_barred z fetch (not kernel) page r.entry.frame) (sym h.mode)
            ∙ ap (λ p. is_barred s.mode fetch (not kernel) p r.entry.frame) (sym page_is)
            ∙ r.free

        -- ---- bytes of the instruction

        not_and : (o f : Bool) → (o && not f) ≡ false → o ≡ true → f ≡ true
        not_and true true e g = refl
        not_and true false e g = absurd (let x : true ≡ false = e in cc)
        not_and false f e g = absurd cc

        either : (x y : Bool) → (x || y) ≡ false → (x ≡ false) × (y ≡ false)
        either false y e = (refl, e)
        either true y e = absurd (let x : true ≡ false = e in cc)

        not_both : (o f g : Bool) → (o && (not f || (write && not g))) ≡ false → o ≡ true → (f ≡ true) × (write ≡ true → g ≡ true)
        not_both false f g e i = absurd cc
        not_both true f g e i =
            let p = either (not f) (write && not g) e in
            (un f p.0, λ x. un g (ap (λ z. z && not g) (sym x) ∙ p.1))
          where
            un : (z : Bool) → not z ≡ false → z ≡ true
            un true j = refl
            un false j = absurd (let x : true ≡ false = j in cc)

        owns : (k : ℕ) → is_own s.mode k ≡ true → byte t.ram k ≡ byte s.ram k
        unfolding marks_own
        owns k o =
            let p = either (is_own s.mode r.dir_at && not (has (byte s.ram r.dir_at) 32))
            (is_own s.mode r.word_at && (not (has (byte s.ram r.word_at) 32) || (write && not (has (byte s.ram r.word_at) 64)))) r.own in
            ap (λ (x : List ℕ). byte x k) (sym ram_is)
            ∙ flagged_kept s.ram r.dir_at r.word_at write there.dir_even there.word_even dir_room word_room h.fit k
            (λ e. ap (λ n. has (byte s.ram n) 32) e ∙ not_and (is_own s.mode r.dir_at) (has (byte s.ram r.dir_at) 32) p.0
            (ap (is_own s.mode) (sym e) ∙ o))
            (λ e.
            let q = not_both (is_own s.mode r.word_at) (has (byte s.ram r.word_at) 32) (has (byte s.ram r.word_at) 64) p.1
            (ap (is_own s.mode) (sym e) ∙ o) in
            (ap (λ n. has (byte s.ram n) 32) e ∙ q.0, λ f. ap (λ n. has (byte s.ram n) 64) e ∙ q.1 f))

        -- ---- earlier uses

        or_more : (x d e w : Bool) → (x || d) ≡ true → (d ≡ true → e ≡ true) → (x || (e || w)) ≡ true
        or_more true d e w g f = refl
        or_more false true e w g f = ap (λ z. z || w) (f refl)
        or_more false false e w g f = absurd (let z : false ≡ true = g in cc)

        again : (w : Bool) (f : ℕ) → HasEntry kernel (wp_of b.cpu) s.set w page f → IsServed page write → IsFrom s.ram s.set page
            → HasEntry kernel (wp_of b.cpu) t.set w page f
        again w f x served (inl untouched) =
            absurd (not_usable (get s.set page) (side write) s.wp x.entry x.kept
            (ap (allows x.entry (side write)) h.wp ∙ served x.entry (sym untouched ∙ x.kept)) none)
        again w f x served (inr k) =
            let one : ◌≡◌ {A = Option Entry} (Some k.entry) (Some x.entry) = sym k.kept ∙ x.kept in
            let same : k.entry ≡ x.entry = cc one in
            let two : Found (record k.entry { dirty = k.dirty }) k.dir_at k.word_at ≡ Found r.entry r.dir_at r.word_at =
            sym (walk_is s.ram m.frames b.cpu.cr3 (pse_of b.cpu) page (record k.entry { dirty = k.dirty }) k.dir_at k.word_at k.walk)
            ∙ walk_is s.ram m.frames b.cpu.cr3 (pse_of b.cpu) page r.entry r.dir_at r.word_at walk in
            let there : record k.entry { dirty = k.dirty } ≡ r.entry = cc two in
            let p = and_parts (grants x.entry (side w) (wp_of b.cpu)) (not w || x.entry.dirty) x.allowed in
            let grants_there : grants r.entry (side w) (wp_of b.cpu) ≡ true =
            ap (λ (e : Entry). grants e (side w) (wp_of b.cpu)) (sym there)
            ∙ ap (λ (e : Entry). grants e (side w) (wp_of b.cpu)) same ∙ p.0 in
            let dirty_too : x.entry.dirty ≡ true → r.entry.dirty ≡ true =
            λ d. ap (λ (e : Entry). e.dirty) (sym there) ∙ k.more (ap (λ (e : Entry). e.dirty) same ∙ d) in
            record {
              entry = dirtied r.entry write;
              kept = got_here;
              frame_is = ap (λ (e : Entry). e.frame) (sym there) ∙ ap (λ (e : Entry). e.frame) same ∙ x.frame_is;
              allowed = allowed_by r.entry w (r.entry.dirty || write) grants_there
                  (or_more (not w) x.entry.dirty r.entry.dirty write p.1 dirty_too);
            }

        others_by : (q : ℕ) (w : Bool) (f : ℕ) → HasEntry kernel (wp_of b.cpu) s.set w q f → (q ≡ page → IsServed page write)
            → (same : Bool) → (q == page) ≡ same → HasEntry kernel (wp_of b.cpu) t.set w q f
        others_by q w f x served true e =
            let is : q ≡ page = eqb-true q page e in
            subst (λ (p : ℕ). HasEntry kernel (wp_of b.cpu) t.set w p f) (sym is)
            (again w f (subst (λ (p : ℕ). HasEntry kernel (wp_of b.cpu) s.set w p f) is x) (served is) (h.pages page small))
        others_by q w f x served false e =
            record { entry = x.entry; kept = got_there q e ∙ x.kept; frame_is = x.frame_is; allowed = x.allowed }

        walk_leaves : LeavesPage s t page write fetch
        walk_leaves = record {
          within = within;
          frame = r.entry.frame;
          has = has_here;
          free = free;
          marks = marks;
          mode = ap (λ (x : Space). x.mode) (sym t_is);
          owns = owns;
          others = λ q w f x served. others_by q w f x served (q == page) refl;
        }

    -- ---- both

    walk_left : page < 2 ^ 20 → usable (get s.set page) (side write) s.wp ≡ None
        → settled seen page (decided (tables_of s) fetch page at (side write)) ≡ (Ready, t) → LeavesPage s t page write fetch
    walk_left small none x =
        let met : (decided (tables_of s) fetch page at (side write)).met ≡ Ready = ap (λ (o : Touch × Space). o.0) x in
        let r = decided_readied (tables_of s) fetch page at (side write) met in
        let end : (settled seen page (decided (tables_of s) fetch page at (side write))).1 ≡ t = same_space _ (Ready, t) x in
        walk_leaves small none r (sym (ap (λ (d : Decision). (settled seen page d).1) r.is) ∙ end)

    by_usable : page < 2 ^ 20 → (o : Option Entry) → usable (get s.set page) (side write) s.wp ≡ o
        → by_entry seen fetch page at (side write) o ≡ (Ready, t) → LeavesPage s t page write fetch
    by_usable small (Some e) is x = by_entry_leaves e is x
    by_usable small None is x = walk_left small is x

    pub page_leaves : page < 2 ^ 20 → page_uses s fetch page at (side write) ≡ (Ready, t) → LeavesPage s t page write fetch
    unfolding page_uses
    page_leaves small x = by_usable small (usable (get s.set page) (side write) s.wp) refl x
