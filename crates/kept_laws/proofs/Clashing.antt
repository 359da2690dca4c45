-- Where it is asked whether a step clashes, translations that are found may be missing.
use Rattle.std.proofs.Common.{◌≡◌, ℕ, zero, suc, ◌+◌, ◌-◌, ◌*◌, ◌/◌, ◌^◌, ◌<◌, ◌≤◌, List, [], ◌∷◌, ◌++◌, length, take, drop, Bool, true, false, cond, not, ◌&&◌, ◌||◌, ◌==◌, Option, Some, None, Ok, Err, refl, sym, ap, subst, ◌∙◌, ◌⊎◌, inl, inr, arith}
use Rattle.std.specs.Prelude.{bit_or}
use Rattle.std.proofs.lemmas.Bool.{cases_lt, or_right, eqb-true}
use Rattle.std.specs.List.{Contains}
use Rattle.std.specs.Option.{ForSome}
use Rattle.std.specs.FinMap.{get}
use Rattle.guest_ram.specs.Among.{is_among}
use Rattle.guest_ram.specs.Bytes.{AreBytes, byte, with_byte, with_part}
use Rattle.guest_ram.proofs.Bytes.{byte_lt}
use Rattle.ia32_types.specs.declared.stop.Stop.TheVariants as stops
use Rattle.ia32_decode.specs.declared.answer.Decoded.{Decoded}
use Rattle.ia32_decode.specs.declared.answer.Decoded.TheVariants as begins
use Rattle.ia32_decode.specs.Decoding.{decoded}
use Rattle.ia32_decode.specs.Front.{longest, front_len}
use Rattle.descriptors.specs.Controls.{pse_of, wp_of}
use Rattle.descriptors.specs.Access.{by_level}
use Rattle.paging.specs.declared.entry.Access.{Access}
use Rattle.paging.specs.declared.entry.Entry.{Entry}
use Rattle.paging.specs.declared.entry.Touch.{Touch}
use Rattle.paging.specs.declared.entry.Touch.TheVariants.{Ready, Fault, Stop}
use Rattle.paging.specs.declared.entry.Walk.{Walk}
use Rattle.paging.specs.declared.entry.Walk.TheVariants.{Absent, Beyond, Reserved, Found}
use Rattle.paging.specs.Fresh.{fresh, grants, flagged}
use Rattle.paging.specs.Space.{Space, place}
use Rattle.paging.specs.Uses.{Tables, tables_of, Decision, is_barred, walks_text, marks_own, by_walk, decided, usable, by_entry, page_uses, go_on, unready, made_ready, fetches, with_front}
use Rattle.paging.specs.Work.{Outcome, Work, on_value, ◌>>=◌, gives, refuses}
use Rattle.sys_exec.specs.declared.effect.Refusal.{Refusal}
use Rattle.sys_exec.specs.declared.effect.Refusal.TheVariants as refusal
use Rattle.machine_model.specs.State.{Setting, State, space_at_start}
use Rattle.machine_model.specs.Run.{Set}
use Rattle.machine_model.specs.Taken.{Taken}
use Rattle.machine_model.specs.Instruction.{bytes_fetched, fetching, owning_front, owning_back, next_page, owned, fetched_on, fetched_by, fetched}
use Rattle.machine_model.specs.Clash.{Use, fetch_uses, range_uses, uses_by, is_refused_by, clash_behind, clash_in, instruction_clashes, has_instruction, clashes_from}
use Rattle.machine_model.specs.Reloading.{IsFoundBy, Follows, FetchesFollow, FoundOver}
use Rattle.native_steps.proofs.Marks.{or_32, or_96}
use Rattle.shadow_tables.proofs.Lists.{both-true}
use Rattle.kept_laws.specs.Remembered.{was_read}
use Rattle.machine_model.specs.Keeping.{held}
use Rattle.kept_laws.specs.Judged.{AllFound, ClashesAgree, ClashesAreJudged}
use Rattle.kept_laws.proofs.Holding.{held_back}
use Rattle.kept_laws.proofs.Counts.{clash}
use Rattle.kept_laws.proofs.Refetching.{AtPage, Fetched, fetched_again, taken_ready, front_is, back_is, then_is}

-- ---- a fetch leaves bytes

bytes_append : (xs ys : List ℕ) → AreBytes xs → AreBytes ys → AreBytes (xs ++ ys)
bytes_append [] ys h k = k
bytes_append (x ∷ xs) ys h k = by (bytes_append xs ys (λ n. h (suc n)) k)
  where
    by : AreBytes (xs ++ ys) → AreBytes (x ∷ (xs ++ ys))
    by r zero = h zero
    by r (suc n) = r n

bytes_take : (n : ℕ) (xs : List ℕ) → AreBytes xs → AreBytes (take n xs)
bytes_take zero xs h = λ k. omega arith
bytes_take (suc n) [] h = λ k. omega arith
bytes_take (suc n) (x ∷ xs) h = by (bytes_take n xs (λ k. h (suc k)))
  where
    by : AreBytes (take n xs) → AreBytes (x ∷ take n xs)
    by r zero = h zero
    by r (suc k) = r k

bytes_drop : (n : ℕ) (xs : List ℕ) → AreBytes xs → AreBytes (drop n xs)
bytes_drop zero xs h = h
bytes_drop (suc n) [] h = λ k. omega arith
bytes_drop (suc n) (x ∷ xs) h = bytes_drop n xs (λ k. h (suc k))

bytes_one : (v : ℕ) → v < 256 → AreBytes (v ∷ [])
bytes_one v l zero = l
bytes_one v l (suc k) = omega arith

bytes_with : (x : List ℕ) (p v : ℕ) → v < 256 → AreBytes x → AreBytes (with_byte x p v)
unfolding with_byte with_part
bytes_with x p v l h = bytes_append (take p x) _ (bytes_take p x h) (bytes_append (v ∷ []) _ (bytes_one v l) (bytes_drop _ x h))

marked_byte : (b : ℕ) (write : Bool) → b < 256 → bit_or b (cond write 96 32) < 256
marked_byte b true l = let o = or_96 b l in omega (arith, o, l)
marked_byte b false l = let o = or_32 b l in omega (arith, o, l)

small : (x : List ℕ) (p : ℕ) → AreBytes x → byte x p < 256
small x p h = let l = byte_lt x p h in omega (arith, l)

flagged_bytes : (x : List ℕ) (d t : ℕ) (write : Bool) → AreBytes x → AreBytes (flagged x d t write)
unfolding flagged
flagged_bytes x d t write h =
    let first = bytes_with x d (bit_or (byte x d) 32) (marked_byte (byte x d) false (small x d h)) h in
    bytes_with (with_byte x d (bit_or (byte x d) 32)) t _
    (marked_byte (byte (with_byte x d (bit_or (byte x d) 32)) t) write (small _ t first)) first

either_bytes : (test : Bool) (a b : Decision) → AreBytes a.ram → AreBytes b.ram → AreBytes (cond test a b).ram
either_bytes true a b h k = h
either_bytes false a b h k = k

walk_bytes : (s : Tables) (fetch : Bool) (at : ℕ) (access : Access) (w : Walk) → AreBytes s.ram → AreBytes (by_walk s fetch at access w).ram
walk_bytes s fetch at access Absent h = h
walk_bytes s fetch at access Beyond h = h
walk_bytes s fetch at access Reserved h = h
walk_bytes s fetch at access (Found entry d t) h =
    either_bytes (not (grants entry access s.wp)) _ _ h
    (either_bytes (is_barred s.mode fetch access.user entry.page entry.frame) _ _ h
    (either_bytes (marks_own s d t access.write) _ _ h (flagged_bytes s.ram d t access.write h)))

decided_bytes : (s : Tables) (fetch : Bool) (page at : ℕ) (access : Access) → AreBytes s.ram → AreBytes (decided s fetch page at access).ram
unfolding decided
decided_bytes s fetch page at access h =
    either_bytes (walks_text s page) _ _ h (walk_bytes s fetch at access (fresh s.ram s.frames s.cr3 s.pse page) h)

both_bytes : (test : Bool) (a b : Touch) (u : Space) → AreBytes u.ram → AreBytes (cond {A = Touch × Space} test (a, u) (b, u)).1.ram
both_bytes true a b u h = h
both_bytes false a b u h = h

page_bytes : (s : Space) (fetch : Bool) (page at : ℕ) (access : Access) → AreBytes s.ram → AreBytes (page_uses s fetch page at access).1.ram
unfolding page_uses
page_bytes s fetch page at access h = by (usable (get s.set page) access s.wp)
  where
    by : (o : Option Entry)
        → AreBytes (by_entry (record s { pages = s.pages + 1; visited = s.visited ++ page ∷ [] }) fetch page at access o).1.ram
    by None = decided_bytes (tables_of s) fetch page at access h
    by (Some entry) = both_bytes (is_barred s.mode fetch access.user page entry.frame) (Stop stops.TextMapped) Ready
        (record s { pages = s.pages + 1; visited = s.visited ++ page ∷ [] }) h

-- ---- what else a fetch leaves

either_went : (test : Bool) (a b : Touch) (u : Space) (l : List ℕ) → u.visited ≡ l
    → (cond {A = Touch × Space} test (a, u) (b, u)).1.visited ≡ l
either_went true a b u l e = e
either_went false a b u l e = e

either_wrote : (test : Bool) (a b : Touch) (u : Space) (l : List ℕ) → u.wrote ≡ l
    → (cond {A = Touch × Space} test (a, u) (b, u)).1.wrote ≡ l
either_wrote true a b u l e = e
either_wrote false a b u l e = e

page_went : (s : Space) (fetch : Bool) (page at : ℕ) (access : Access)
    → ((page_uses s fetch page at access).1.visited ≡ s.visited ++ page ∷ []) × ((page_uses s fetch page at access).1.wrote ≡ s.wrote)
unfolding page_uses
page_went s fetch page at access = by (usable (get s.set page) access s.wp)
  where
    by : (o : Option Entry)
        → ((by_entry (record s { pages = s.pages + 1; visited = s.visited ++ page ∷ [] }) fetch page at access o).1.visited ≡ s.visited
        ++ page ∷ []) × ((by_entry (record s { pages = s.pages + 1; visited = s.visited ++ page ∷ [] }) fetch page at access o).1.wrote
        ≡ s.wrote)
    by None = (refl, refl)
    by (Some entry) = (
      either_went (is_barred s.mode fetch access.user page entry.frame) (Stop stops.TextMapped) Ready
          (record s { pages = s.pages + 1; visited = s.visited ++ page ∷ [] }) (s.visited ++ page ∷ []) refl,
      either_wrote (is_barred s.mode fetch access.user page entry.frame) (Stop stops.TextMapped) Ready
          (record s { pages = s.pages + 1; visited = s.visited ++ page ∷ [] }) s.wrote refl,
    )

-- memory after a fetch
record AfterFetch (s t : Space) (page : ℕ) : Type 0 where
  bytes : AreBytes s.ram → AreBytes t.ram
  visited : t.visited ≡ s.visited ++ page ∷ []
  wrote : t.wrote ≡ s.wrote

going : (s : Space) (page at len : ℕ) (met : Touch) (u : Space) → AfterFetch s u page
    → AfterFetch s (go_on met u (made_ready at len false)).1 page
going s page at len Ready u h = record { bytes = h.bytes; visited = h.visited; wrote = h.wrote }
going s page at len (Fault code cr2) u h = h
going s page at len (Stop stop) u h = h

fetches_after : (s : Space) (at len : ℕ) (user : Bool) → AfterFetch s (fetches s at len user).1 (at / 4096)
unfolding fetches
fetches_after s at len user =
    let access : Access = record { write = false; user = user } in
    let p : Touch × Space = page_uses (unready s) true (at / 4096) at access in
    let w = page_went (unready s) true (at / 4096) at access in
    going s (at / 4096) at len p.0 p.1 (record { bytes = page_bytes (unready s) true (at / 4096) at access; visited = w.0; wrote = w.1 })

-- what was fetched
record IsBehind (s t : Space) (page : ℕ) : Type 0 where
  after : AfterFetch s t page
  follows : Follows s t

fetching_after : FetchesFollow → (user : Bool) (at len : ℕ) (s : Space) (x : List ℕ) (t : Space) → fetching user at len s ≡ Ok (x, t)
    → IsBehind s t (at / 4096)
unfolding fetching
fetching_after law user at len s x t e =
    let r = taken_ready at len (fetches s at len user).0 (fetches s at len user).1 x t e in
    subst (λ (u : Space). IsBehind s u (at / 4096)) r.2 (record { after = fetches_after s at len user; follows = law s at len user })

-- ---- the second page

next_is : (eip : ℕ) → next_page eip / 4096 ≡ eip / 4096 → ⊥
next_is eip e = omega (arith, e)

-- what is missing at a page is found in memory as it is then
at_page : (m : Setting) (b : State) (tables : ℕ → Bool) (kept others : Set) (u : Space) (set : Set) (page : ℕ)
    → ((q : ℕ) → ForSome (get kept q) (λ e. get others q ≡ Some e)) → ((q : ℕ) → 2 ^ 20 ≤ q → get others q ≡ None)
    → (page < 2 ^ 20 → ForSome (get others page) (λ e. IsFoundBy u.ram u.frames u.cr3 u.pse tables page e)) → get u.set page ≡ get kept page
    → get set page ≡ get others page → AtPage tables u set page
at_page m b tables kept others u set page sub none found ours theirs = by (get kept page) refl (get others page) refl
  where
    inside : (e : Entry) → get others page ≡ Some e → page < 2 ^ 20
    inside e there = elim (cases_lt page (2 ^ 20))
        [ inl l ↦ l | inr g ↦ absurd (let f : ◌≡◌ {A = Option Entry} None (Some e) = sym (none page g) ∙ there in cc) ]

    by : (k : Option Entry) → get kept page ≡ k → (o : Option Entry) → get others page ≡ o → AtPage tables u set page
    by (Some e) is o there = inl (ours ∙ is ∙ sym (theirs ∙ sub page e is))
    by None is None there = inl (ours ∙ is ∙ sym (theirs ∙ there))
    by None is (Some e) there =
        inr (ours ∙ is, e, theirs ∙ there, found (inside e there) e there)

found_at : FoundOver → (s u : Space) (tables : ℕ → Bool) (page : ℕ) (e : Entry) → Follows s u → 4096 * s.frames ≤ length s.ram
    → u.wrote ≡ [] → page < 2 ^ 20 → IsFoundBy s.ram s.frames s.cr3 s.pse tables page e → IsFoundBy u.ram u.frames u.cr3 u.pse tables page e
found_at law s u tables page e follows room none small h =
    let over : IsFoundBy u.ram s.frames s.cr3 s.pse tables page e = law s u s.cr3 s.pse tables page e follows room
    (λ frame c. absurd (nothing frame (subst (λ (l : List ℕ). Contains l frame) none c))) small h in
    subst (λ p. IsFoundBy u.ram u.frames u.cr3 p tables page e) (sym follows.pse)
    (subst (λ c. IsFoundBy u.ram u.frames c s.pse tables page e) (sym follows.cr3)
    (subst (λ n. IsFoundBy u.ram n s.cr3 s.pse tables page e) (sym follows.frames) over))
  where
    nothing : (frame : ℕ) → Contains [] frame → ⊥
    nothing frame c = let l = c.1 in omega (arith, l)

-- ---- the fetch by the others

abbrev begun : Setting → State → Set → Space
begun m b set = space_at_start m.mode m.frames b.cpu b.ram set

-- so it is where what is missing is found
refetched : FetchesFollow → FoundOver → (m : Setting) (b : State) (tables : ℕ → Bool) (kept others : Set) → 4096 * m.frames ≤ length b.ram
    → AreBytes b.ram → ((q : ℕ) → ForSome (get kept q) (λ e. get others q ≡ Some e))
    → ((q : ℕ) → 2 ^ 20 ≤ q → get others q ≡ None)
    → ((q : ℕ) → q < 2 ^ 20 → ForSome (get others q) (λ e. IsFoundBy b.ram m.frames b.cpu.cr3 (pse_of b.cpu) tables q e))
    → (user : Bool) (eip : ℕ) (d : Decoded) (t : Space) → fetched user eip (begun m b kept) ≡ Ok (d, t)
    → Fetched d t (fetched user eip (begun m b others))
refetched follow over m b tables kept others room fit sub none found user eip d t e =
    fetched_again tables (begun m b kept) others [] (record { start = 0; len = 0; set = others }) user eip d t fit
    (at_page m b tables kept others (begun m b kept) others (eip / 4096) sub none (found (eip / 4096)) refl refl)
    (λ front u set got not_last theirs ours.
    let h = fetching_after follow user eip (front_len eip) (begun m b kept) front u got in (
      h.after.bytes fit,
      at_page m b tables kept others u set (next_page eip / 4096) sub none
          (λ small x there. found_at over (begun m b kept) u tables (next_page eip / 4096) x h.follows room h.after.wrote small
          (found (next_page eip / 4096) small x there))
          (ours (next_page eip / 4096) (next_is eip)) (theirs (next_page eip / 4096) (next_is eip)),
    ))
    (λ front u got. (fetching_after follow user eip (front_len eip) (begun m b kept) front u got).after.bytes fit)
    e

-- ---- a fetch that is refused uses no page twice

abbrev FewPages : ℕ → List ℕ → Type 0
FewPages eip l = (l ≡ eip / 4096 ∷ []) ⊎ (l ≡ eip / 4096 ∷ next_page eip / 4096 ∷ [])

taken_err : (at len : ℕ) (met : Touch) (s : Space) (r : Refusal) (t : Space) → bytes_fetched at len met s ≡ Err (r, t) → s ≡ t
taken_err at len Ready s r t e = absurd cc
taken_err at len (Fault code cr2) s r t e = err_space _ r s t e
  where
    err_space : (a c : Refusal) (x y : Space) → ◌≡◌ {A = Outcome Refusal (List ℕ)} (Err (a, x)) (Err (c, y)) → x ≡ y
    err_space a c x y e = let p : ◌≡◌ {A = Refusal × Space} (a, x) (c, y) = cc in ap (λ (q : Refusal × Space). q.1) p
taken_err at len (Stop stop) s r t e = err_space _ r s t e
  where
    err_space : (a c : Refusal) (x y : Space) → ◌≡◌ {A = Outcome Refusal (List ℕ)} (Err (a, x)) (Err (c, y)) → x ≡ y
    err_space a c x y e = let p : ◌≡◌ {A = Refusal × Space} (a, x) (c, y) = cc in ap (λ (q : Refusal × Space). q.1) p

fetching_err : (user : Bool) (at len : ℕ) (s : Space) (r : Refusal) (t : Space) → fetching user at len s ≡ Err (r, t)
    → t.visited ≡ s.visited ++ at / 4096 ∷ []
unfolding fetching
fetching_err user at len s r t e =
    ap (λ (u : Space). u.visited) (sym (taken_err at len (fetches s at len user).0 (fetches s at len user).1 r t e))
    ∙ (fetches_after s at len user).visited

-- a refusal comes from the first part or from what follows
refused_by : {A B : Type 0} (o : Outcome Refusal A) (f : A → Work Refusal B) (r : Refusal) (t : Space) → on_value o f ≡ Err (r, t)
    → (o ≡ Err (r, t)) ⊎ ((x : A) × (u : Space) × (o ≡ Ok (x, u)) × (f x u ≡ Err (r, t)))
refused_by {A = A} {B = B} (Ok x) f r t e = inr (x.0, x.1, refl, e)
refused_by {A = A} {B = B} (Err x) f r t e = inl (same_err x (r, t) e)
  where
    same_err : (a c : Refusal × Space) → ◌≡◌ {A = Outcome Refusal B} (Err a) (Err c) → ◌≡◌ {A = Outcome Refusal A} (Err a) (Err c)
    same_err a c e = let p : a ≡ c = cc in ap (λ (q : Refusal × Space). Err q) p

no_refusal : {A : Type 0} (x : A) (s : Space) (r : Refusal) (t : Space) → ◌≡◌ {A = Outcome Refusal A} (Ok (x, s)) (Err (r, t)) → ⊥
no_refusal x s r t e = cc

owned_never : (eip : ℕ) (d : Decoded) (s : Space) (r : Refusal) (t : Space) → owned eip d s ≡ Err (r, t) → ⊥
owned_never eip (begins.Insn insn len) s r t e =
    let n : ℕ = len - front_len eip in
    no_refusal (begins.Insn insn len) _ r t
    (sym (then_is (owning_back (next_page eip) n s) (λ x. gives (begins.Insn insn len)) tt _ (back_is s (next_page eip) n)) ∙ e)
owned_never eip begins.Outside s r t e = no_refusal begins.Outside s r t e
owned_never eip begins.Short s r t e = no_refusal begins.Short s r t e

on_err : (user : Bool) (eip : ℕ) (front : List ℕ) (s : Space) (r : Refusal) (t : Space) → s.visited ≡ eip / 4096 ∷ []
    → fetched_on user eip front s ≡ Err (r, t) → FewPages eip t.visited
unfolding fetched_on
on_err user eip front s r t w e =
    let n : ℕ = front_len eip in
    let u : Space = record s { mode = with_front s.mode (place s eip) n } in
    let first = then_is (owning_front eip n s)
    (λ x. fetching user (next_page eip) longest >>= (λ more. owned eip (decoded (front ++ more)))) tt u (front_is s eip n) in
    elim (refused_by (fetching user (next_page eip) longest u) (λ more. owned eip (decoded (front ++ more))) r t (sym first ∙ e)) [
      | inl h ↦ inr (fetching_err user (next_page eip) longest u r t h ∙ ap (λ (l : List ℕ). l ++ next_page eip / 4096 ∷ []) w)
      | inr k ↦ absurd (owned_never eip (decoded (front ++ k.0)) k.1 r t k.3)
    ]

by_err : (user : Bool) (eip : ℕ) (front : List ℕ) (d : Decoded) (s : Space) (r : Refusal) (t : Space) → s.visited ≡ eip / 4096 ∷ []
    → fetched_by user eip front d s ≡ Err (r, t) → FewPages eip t.visited
by_err user eip front (begins.Insn insn len) s r t w e =
    absurd (no_refusal (begins.Insn insn len) _ r t
    (sym (then_is (owning_front eip len s) (λ x. gives (begins.Insn insn len)) tt _ (front_is s eip len)) ∙ e))
by_err user eip front begins.Outside s r t w e = absurd (no_refusal begins.Outside s r t e)
by_err user eip front begins.Short s r t w e = by (eip / 4096 == 1048575) e
  where
    same : (a c : Refusal × Space) → ◌≡◌ {A = Outcome Refusal Decoded} (Err a) (Err c) → a ≡ c
    same a c e = cc

    by : (last : Bool) → cond last (refuses (refusal.Stop stops.WrapAccess)) (fetched_on user eip front) s ≡ Err (r, t)
        → FewPages eip t.visited
    by true e = inl (ap (λ (q : Refusal × Space). q.1.visited) (sym (same (refusal.Stop stops.WrapAccess, s) (r, t) e)) ∙ w)
    by false e = on_err user eip front s r t w e

fetched_err : FetchesFollow → (user : Bool) (eip : ℕ) (s : Space) (r : Refusal) (t : Space) → s.visited ≡ []
    → fetched user eip s ≡ Err (r, t) → FewPages eip t.visited
unfolding fetched
fetched_err follow user eip s r t w e =
    elim (refused_by (fetching user eip (front_len eip) s) (λ front. fetched_by user eip front (decoded front)) r t e) [
      | inl h ↦ inl (fetching_err user eip (front_len eip) s r t h ∙ ap (λ (l : List ℕ). l ++ eip / 4096 ∷ []) w)
      | inr k ↦ by_err user eip k.0 (decoded k.0) k.1 r t
          ((fetching_after follow user eip (front_len eip) s k.0 k.1 k.2).after.visited ∙ ap (λ (l : List ℕ). l ++ eip / 4096 ∷ []) w) k.3
    ]

none_twice : (b : State) (entries : ℕ → Option Entry) (wp : Bool) (eip : ℕ) (l : List ℕ) → FewPages eip l
    → clash_in entries wp (fetch_uses b l) ≡ false
none_twice b entries wp eip l (inl e) = ap (λ (x : List ℕ). clash_in entries wp (fetch_uses b x)) e
none_twice b entries wp eip l (inr e) =
    ap (λ (x : List ℕ). clash_in entries wp (fetch_uses b x)) e ∙ by (next_page eip / 4096 == eip / 4096) refl
  where
    by : (t : Bool) → (next_page eip / 4096 == eip / 4096) ≡ t
        → (((t || false) && is_refused_by (entries (next_page eip / 4096)) (by_level b.cpu false) wp) || false) ≡ false
    by true is = absurd (next_is eip (eqb-true (next_page eip / 4096) (eip / 4096) is))
    by false is = refl

-- ---- more translations refuse no less

refused_more : (k o : Option Entry) (access : Access) (wp : Bool) → ForSome k (λ e. o ≡ Some e) → is_refused_by k access wp ≡ true
    → is_refused_by o access wp ≡ true
refused_more None o access wp sub h = absurd (let e : false ≡ true = h in cc)
refused_more (Some e) o access wp sub h = ap (λ x. is_refused_by x access wp) (sub e refl) ∙ h

or_both : (a x y c d : Bool) → (x ≡ true → y ≡ true) → (c ≡ true → d ≡ true) → ((a && x) || c) ≡ true → ((a && y) || d) ≡ true
or_both a x y true d h k e = or_right (a && y) d (k refl)
or_both true true y false d h k e = ap (λ z. z || d) (h refl)
or_both true false y false d h k e = absurd (let f : false ≡ true = e in cc)
or_both false x y false d h k e = absurd (let f : false ≡ true = e in cc)

clash_more : (kept others : Set) (wp : Bool) (used : List ℕ) (us : List Use)
    → ((page : ℕ) → ForSome (get kept page) (λ e. get others page ≡ Some e)) → clash_behind (get kept) wp used us ≡ true
    → clash_behind (get others) wp used us ≡ true
clash_more kept others wp used [] sub h = h
clash_more kept others wp used (u ∷ us) sub h =
    or_both (is_among u.page used) (is_refused_by (get kept u.page) u.access wp) (is_refused_by (get others u.page) u.access wp)
    (clash_behind (get kept) wp (u.page ∷ used) us) (clash_behind (get others) wp (u.page ∷ used) us)
    (refused_more (get kept u.page) (get others u.page) u.access wp (sub u.page)) (clash_more kept others wp (u.page ∷ used) us sub) h

-- ---- a step that clashes

by_outcome : FetchesFollow → FoundOver → (m : Setting) (b : State) (tables : ℕ → Bool) (kept others : Set) → 4096 * m.frames ≤ length b.ram
    → AreBytes b.ram → ((q : ℕ) → ForSome (get kept q) (λ e. get others q ≡ Some e))
    → ((q : ℕ) → 2 ^ 20 ≤ q → get others q ≡ None)
    → ((q : ℕ) → q < 2 ^ 20 → ForSome (get others q) (λ e. IsFoundBy b.ram m.frames b.cpu.cr3 (pse_of b.cpu) tables q e))
    → (o : Outcome Refusal Decoded) → fetched (b.cpu.cpl == 3) b.cpu.regs.eip (begun m b kept) ≡ o
    → clash_in (get kept) (wp_of b.cpu) (uses_by b o) ≡ true
    → clash_in (get others) (wp_of b.cpu) (uses_by b (fetched (b.cpu.cpl == 3) b.cpu.regs.eip (begun m b others))) ≡ true
by_outcome follow over m b tables kept others room fit sub none found (Ok read) is h =
    let f = refetched follow over m b tables kept others room fit sub none found (b.cpu.cpl == 3) b.cpu.regs.eip read.0 read.1 is in
    let same : uses_by b (fetched (b.cpu.cpl == 3) b.cpu.regs.eip (begun m b others)) ≡ uses_by b (Ok read) =
    ap (uses_by b) f.is ∙ ap (λ (l : List ℕ). fetch_uses b l ++ range_uses b read.0) f.visited in
    subst (λ (us : List Use). clash_in (get others) (wp_of b.cpu) us ≡ true) (sym same)
    (clash_more kept others (wp_of b.cpu) [] (uses_by b (Ok read)) sub h)
by_outcome follow over m b tables kept others room fit sub none found (Err refused) is h =
    clash (clash_in (get kept) (wp_of b.cpu) (fetch_uses b refused.1.visited)) h
    (none_twice b (get kept) (wp_of b.cpu) b.cpu.regs.eip refused.1.visited
    (fetched_err follow (b.cpu.cpl == 3) b.cpu.regs.eip (begun m b kept) refused.0 refused.1 refl is))

instructions_agree : FetchesFollow → FoundOver → (m : Setting) (b : State) (tables : ℕ → Bool) (kept others : Set)
    → 4096 * m.frames ≤ length b.ram → AreBytes b.ram → ((q : ℕ) → ForSome (get kept q) (λ e. get others q ≡ Some e))
    → ((q : ℕ) → 2 ^ 20 ≤ q → get others q ≡ None)
    → ((q : ℕ) → q < 2 ^ 20 → ForSome (get others q) (λ e. IsFoundBy b.ram m.frames b.cpu.cr3 (pse_of b.cpu) tables q e))
    → instruction_clashes m (record b { set = kept }) ≡ true → instruction_clashes m (record b { set = others }) ≡ true
unfolding instruction_clashes
instructions_agree follow over m b tables kept others room fit sub none found h =
    by_outcome follow over m b tables kept others room fit sub none found (fetched (b.cpu.cpl == 3) b.cpu.regs.eip (begun m b kept)) refl h

-- what is found is of pages of the address space
none_beyond : (m : Setting) (b : State) (c : ℕ) (steps : List Taken) (set : Set) → AllFound m b c steps set → (q : ℕ)
    → 2 ^ 20 ≤ q → get set q ≡ None
none_beyond m b c steps set found q beyond = by (get set q) refl
  where
    by : (o : Option Entry) → get set q ≡ o → get set q ≡ None
    by None at = at
    by (Some e) at = let small = (found q e at).0 in absurd (omega (arith, small, beyond))

pub clashes_agree : FetchesFollow → FoundOver → ClashesAgree
unfolding clashes_from
clashes_agree follow over m b steps kept others room fit sub found h =
    both-true (has_instruction m b) (instruction_clashes m (record b { set = kept })) (instruction_clashes m (record b { set = others }))
    (instructions_agree follow over m b (was_read steps) kept others room fit sub (none_beyond m b b.cpu.cr3 steps others found)
    (λ q small e there. (found q e there).1)) h

-- ---- after a load of CR3

pub clashes_are_judged : FetchesFollow → FoundOver → ClashesAreJudged
clashes_are_judged follow over m steps t b kept old left since loads room fit value found o sub h =
    let held_is : held (steps ++ t ∷ []) b ≡ left.set = held_back steps t b old left since loads o.split o.is_left o.is_last in
    let all : AllFound m b b.cpu.cr3 (steps ++ t ∷ []) left.set =
    subst (λ c. AllFound m b c (steps ++ t ∷ []) left.set) (sym value) (found.each t.after.cpu.cr3 old left since o) in
    subst (λ (set : Set). clashes_from m (record b { set = set }) ≡ true) (sym held_is)
    (clashes_agree follow over m b (steps ++ t ∷ []) kept left.set room fit sub all h)
