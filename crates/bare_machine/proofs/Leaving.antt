-- What a cache holds after a step.
use Rattle.std.proofs.Common.{◌≡◌, ◌≢◌, ◌⊎◌, ℕ, suc, ◌+◌, ◌≤◌, ◌<◌, ◌^◌, Bool, true, false, ◌&&◌, ◌||◌, ◌==◌, eqb, cond, List, [], ◌∷◌, ◌++◌, length, refl, sym, ap, subst, ◌∙◌, Option, Some, None, is_none, is_some, inl, inr, IfSome, arith}
use Rattle.std.proofs.lemmas.Bool.Decides.{eqb_tells}
use Rattle.std.proofs.lemmas.Cmp.{nat_cmp_total}
use Rattle.std.proofs.lemmas.Option.{none-some}
use Rattle.std.specs.Prelude.{map}
use Rattle.std.specs.FinMap.{get, get-empty, get-retain_keys, same_map, nat_cmp-IsAntisymmetric}
use Rattle.std.specs.Ordering.{nat_cmp}
use Rattle.guest_ram.specs.Among.{is_among}
use Rattle.paging.specs.declared.entry.Entry.{Entry}
use Rattle.paging.specs.Part.{IsPartOf}
use Rattle.paging.proofs.WithEntry.{get_with}
use Rattle.xlate_buffer.proofs.Caching.{dir_get}
use Rattle.step_mem.specs.declared.changes.Change.{Change}
use Rattle.step_mem.specs.declared.changes.Change.TheVariants.{Gone, Now}
use Rattle.step_mem.specs.Changes.{changed, last_change, page_of, entry_of, AreOfPages, AreWithin, AreToldIn}
use Rattle.step_mem.proofs.Changed.{settle, get_changed}
use Rattle.bare_mem.specs.Keeping.{Set, Keeps, made_in, keep_all, is_gone, unless, same_flag, same_entry, new_entry, with_new, new_entries, standing, kept_after}
use Rattle.bare_mem.proofs.Gone.{among, unchanged}
use Rattle.machine_step.specs.declared.worked.Dropped.{Dropped}
use Rattle.machine_step.specs.declared.worked.Dropped.TheVariants as dropped
use Rattle.machine_step.specs.Worked.{dropping}
use Rattle.bare_machine.specs.Dropping.{drops, is_change}
use Rattle.bare_machine.specs.Buffered.{cut_to}

-- ---- equal entries

both : (a b : Bool) → (a && b) ≡ true → (a ≡ true) × (b ≡ true)
both true b h = (refl, h)
both false b h = absurd (let f : false ≡ true = h in cc)

flag_is : (a b : Bool) → same_flag a b ≡ true → a ≡ b
flag_is true true h = refl
flag_is true false h = absurd (let f : false ≡ true = h in cc)
flag_is false true h = absurd (let f : false ≡ true = h in cc)
flag_is false false h = refl

flag_self : (a : Bool) → same_flag a a ≡ true
flag_self true = refl
flag_self false = refl

number_is : (a b : ℕ) → eqb a b ≡ true → a ≡ b
number_is a b h = elim (eqb_tells a b) [ inl t ↦ t.1 | inr f ↦ absurd (let g : false ≡ true = sym f.0 ∙ h in cc) ]

number_self : (a : ℕ) → eqb a a ≡ true
number_self a = elim (eqb_tells a a) [ inl t ↦ t.0 | inr f ↦ absurd (f.1 refl) ]

pub entry_is : (a b : Entry) → same_entry a b ≡ true → a ≡ b
entry_is a b h =
    let one = both (a.page == b.page) _ h in
    let two = both (a.frame == b.frame) _ one.1 in
    let three = both (same_flag a.user b.user) _ two.1 in
    let four = both (same_flag a.write b.write) _ three.1 in
    let page = number_is a.page b.page one.0 in
    let frame = number_is a.frame b.frame two.0 in
    let user = flag_is a.user b.user three.0 in
    let write = flag_is a.write b.write four.0 in
    let dirty = flag_is a.dirty b.dirty four.1 in
    λ i. record { page = page i; frame = frame i; user = user i; write = write i; dirty = dirty i }

pub entry_self : (a : Entry) → same_entry a a ≡ true
entry_self a =
    ap (λ b. b && ((a.frame == a.frame) && (same_flag a.user a.user && (same_flag a.write a.write && same_flag a.dirty a.dirty))))
    (number_self a.page)
    ∙ (ap (λ b. b && (same_flag a.user a.user && (same_flag a.write a.write && same_flag a.dirty a.dirty))) (number_self a.frame)
    ∙ (ap (λ b. b && (same_flag a.write a.write && same_flag a.dirty a.dirty)) (flag_self a.user)
    ∙ (ap (λ b. b && same_flag a.dirty a.dirty) (flag_self a.write)
    ∙ flag_self a.dirty)))

-- ---- a new entry

-- an entry that stays, or leaves, isn't new
pub none_new : (gone : Bool) (o : Option Entry) → new_entry o (unless gone o) ≡ None
none_new true None = refl
none_new true (Some e) = refl
none_new false None = refl
none_new false (Some e) = ap (λ b. cond b None (Some e)) (entry_self e)

pub none_left : (o : Option Entry) → new_entry o None ≡ None
none_left None = refl
none_left (Some e) = refl

chosen : (b : Bool) (now e : Entry) → cond b None (Some now) ≡ Some e → Some now ≡ Some e
chosen true now e h = absurd (none-some e h)
chosen false now e h = h

new_is : (old now : Option Entry) (e : Entry) → new_entry old now ≡ Some e → now ≡ Some e
new_is None None e h = h
new_is (Some a) None e h = h
new_is None (Some b) e h = h
new_is (Some a) (Some b) e h = chosen (same_entry a b) b e h

equal : (b : Bool) (x y : Entry) → (b ≡ true → x ≡ y) → is_some (cond b None (Some y)) ≡ false → Some x ≡ Some y
equal true x y same h = ap (λ (e : Entry). Some e) (same refl)
equal false x y same h = absurd (let f : true ≡ false = h in cc)

-- one that isn't new was there before
not_new : (old now : Option Entry) → is_some (new_entry old now) ≡ false → cond (is_some now) old None ≡ now
not_new None None h = refl
not_new (Some a) None h = refl
not_new None (Some b) h = absurd (let f : true ≡ false = h in cc)
not_new (Some a) (Some b) h = equal (same_entry a b) a b (entry_is a b) h

-- ---- what a step left

pub get_dropping : (d : Dropped) (m : Set) (q : ℕ) → get (dropping d m) q ≡ unless (drops d q) (get m q)
get_dropping dropped.Nothing m q = refl
get_dropping (dropped.Page page) m q = get_with m page None q
get_dropping (dropped.Dir index) m q = dir_get m index q
get_dropping dropped.All m q = get-empty nat_cmp q

pub get_left : (d : Dropped) (old : Set) (cs : List Change) (q : ℕ) → get (dropping d (changed old cs)) q ≡ unless (drops d q)
    (settle (last_change None cs q) (get old q))
get_left d old cs q = get_dropping d (changed old cs) q ∙ ap (unless (drops d q)) (get_changed old cs q)

get_standing : (old now : Set) (q : ℕ) → get (standing old now) q ≡ cond (is_some (get now q)) (get old q) None
get_standing old now q =
    let p : ℕ → Bool = λ page. is_some (get now page) in
    get-retain_keys old p q (λ x t. ap p (sym (nat_cmp-IsAntisymmetric q x t)))

stands : (gone : Bool) (last : Option (Option Entry)) (o : Option Entry)
    → unless (is_gone last) (unless gone o) ≡ cond (is_some (unless gone (settle last o))) o None
stands true None o = refl
stands true (Some None) o = refl
stands true (Some (Some e)) o = refl
stands false None None = refl
stands false None (Some e) = refl
stands false (Some None) o = refl
stands false (Some (Some e)) o = refl

-- what is held once the pages are gone that have no entry any longer
pub standing_is : (d : Dropped) (old m : Set) (cs : List Change)
    → ((q : ℕ) → get m q ≡ unless (is_gone (last_change None cs q)) (get (dropping d old) q))
    → m ≡ standing old (dropping d (changed old cs))
standing_is d old m cs h = same_map nat_cmp_total nat_cmp-IsAntisymmetric _ _ (λ q.
    h q
    ∙ (ap (unless (is_gone (last_change None cs q))) (get_dropping d old q)
    ∙ (stands (drops d q) (last_change None cs q) (get old q)
    ∙ sym (get_standing old (dropping d (changed old cs)) q ∙ ap (λ x. cond (is_some x) (get old q) None) (get_left d old cs q)))))

-- ---- a step that changed nothing

none_entries : (d : Dropped) (old : Set) (pages : List ℕ) → new_entries old (dropping d old) pages ≡ []
none_entries d old [] = refl
none_entries d old (p ∷ ps) =
    ap (λ (o : Option Entry). with_new o (new_entries old (dropping d old) ps))
    (ap (new_entry (get old p)) (get_dropping d old p) ∙ none_new (drops d p) (get old p))
    ∙ none_entries d old ps

pub kept_unchanged : (keeping : Keeps) (d : Dropped) (old : Set) (pages : List ℕ)
    → dropping d old ≡ kept_after keeping old pages (dropping d old)
kept_unchanged keeping d old pages =
    standing_is d old (dropping d old) [] (λ q. refl)
    ∙ ap (keep_all keeping (standing old (dropping d old))) (sym (none_entries d old pages))

-- ---- a step that changed some

pub made_keep : (keeping : Keeps) (m : Set) (es : List Entry) → made_in keeping m (map Now es) ≡ keep_all keeping m es
made_keep keeping m [] = refl
made_keep keeping m (e ∷ es) = made_keep keeping (keeping m e) es

pub kept_changed : (keeping : Keeps) (d : Dropped) (old m new : Set) (cs list : List Change) (pages : List ℕ)
    → list ≡ map Now (new_entries old (dropping d (changed old cs)) pages)
    → ((q : ℕ) → get m q ≡ unless (is_gone (last_change None cs q)) (get (dropping d old) q)) → new ≡ made_in keeping m list
    → new ≡ kept_after keeping old pages (dropping d (changed old cs))
kept_changed keeping d old m new cs list pages all stood is =
    let now = dropping d (changed old cs) in
    is
    ∙ (ap (made_in keeping m) all
    ∙ (made_keep keeping m (new_entries old now pages)
    ∙ ap (λ (x : Set). keep_all keeping x (new_entries old now pages)) (standing_is d old m cs stood)))

-- ---- what is kept is all

-- an entry is of its page
abbrev pub AreNamed : Set → Type 0
AreNamed set = (q : ℕ) (e : Entry) → get set q ≡ Some e → e.page ≡ q

pub named_within : (frames : ℕ) (d : Dropped) (set : Set) → AreWithin frames set → AreNamed (dropping d set)
named_within frames d set within = λ q e is. (within q e (held (drops d q) (get set q) e (sym (get_dropping d set q) ∙ is))).0
  where
    held : (gone : Bool) (o : Option Entry) (e : Entry) → unless gone o ≡ Some e → o ≡ Some e
    held true o e h = absurd (none-some e h)
    held false o e h = h

-- each page's new entry is told
pub told_new : (d : Dropped) (old : Set) (cs : List Change) (pages : List ℕ) → AreToldIn pages cs → (q : ℕ)
    → is_some (new_entry (get old q) (get (dropping d (changed old cs)) q)) ≡ true → is_among q pages ≡ true
told_new d old cs pages told q new = by_among (among q cs) refl
  where
    by_among : (b : Bool) → among q cs ≡ b → is_among q pages ≡ true
    by_among true is = told q is
    by_among false is =
        let now : get (dropping d (changed old cs)) q ≡ unless (drops d q) (get old q) =
        get_left d old cs q ∙ ap (λ x. unless (drops d q) (settle x (get old q))) (unchanged q None cs is) in
        let none : new_entry (get old q) (get (dropping d (changed old cs)) q) ≡ None =
        ap (new_entry (get old q)) now ∙ none_new (drops d q) (get old q) in
        absurd (let f : false ≡ true = sym (ap is_some none) ∙ new in cc)

module _ (old now : Set) (named : AreNamed now) where
  abbrev is_new : ℕ → Bool
  is_new q = is_some (new_entry (get old q) (get now q))

  no_more : (a : Bool) (x f : Option (Option Entry)) → cond (a && false) x f ≡ f
  no_more true x f = refl
  no_more false x f = refl

  either : (a : Bool) (x : Option (Option Entry)) → cond (a && true) x x ≡ x
  either true x = refl
  either false x = refl

  new_more : (q : ℕ) (f : Option (Option Entry)) (p : ℕ) (ps : List ℕ)
      → ((f : Option (Option Entry)) → last_change f (map Now (new_entries old now ps)) q ≡ cond (is_among q ps && is_new q)
      (Some (get now q)) f)
      → (x : Option Entry) → new_entry (get old p) (get now p) ≡ x
      → last_change f (map Now (with_new x (new_entries old now ps))) q ≡ cond (((q == p) || is_among q ps) && is_new q)
      (Some (get now q)) f
  new_more q f p ps later None is = later f ∙ elim (eqb_tells q p) [
    | inl t ↦
        let none : is_new q ≡ false = ap is_new t.1 ∙ ap is_some is in
        ap (λ b. cond (is_among q ps && b) (Some (get now q)) f) none
        ∙ (no_more (is_among q ps) (Some (get now q)) f
        ∙ (sym (no_more ((q == p) || is_among q ps) (Some (get now q)) f)
        ∙ ap (λ b. cond (((q == p) || is_among q ps) && b) (Some (get now q)) f) (sym none)))
    | inr n ↦ ap (λ b. cond ((b || is_among q ps) && is_new q) (Some (get now q)) f) (sym n.0)
  ]
  new_more q f p ps later (Some e) is =
      let there : get now p ≡ Some e = new_is (get old p) (get now p) e is in
      let page : e.page ≡ p = named p e there in
      later (cond (eqb e.page q) (Some (Some e)) f)
      ∙ elim (eqb_tells q p) [
        | inl t ↦
            let new : is_new q ≡ true = ap is_new t.1 ∙ ap is_some is in
            let same : eqb e.page q ≡ true = ap (λ n. eqb n q) (page ∙ sym t.1) ∙ number_self q in
            let found : Some (Some e) ≡ Some (get now q) = ap (λ (x : Option Entry). Some x) (sym there ∙ ap (get now) (sym t.1)) in
            ap (λ b. cond (is_among q ps && b) (Some (get now q)) (cond (eqb e.page q) (Some (Some e)) f)) new
            ∙ (ap (λ b. cond (is_among q ps && true) (Some (get now q)) (cond b (Some (Some e)) f)) same
            ∙ (ap (λ x. cond (is_among q ps && true) (Some (get now q)) x) found
            ∙ (either (is_among q ps) (Some (get now q))
            ∙ (ap (λ b. cond ((b || is_among q ps) && true) (Some (get now q)) f) (sym t.0)
            ∙ ap (λ b. cond (((q == p) || is_among q ps) && b) (Some (get now q)) f) (sym new)))))
        | inr n ↦
            let other : eqb e.page q ≡ false = elim (eqb_tells e.page q) [ inl t ↦ absurd (n.1 (sym t.1 ∙ page)) | inr g ↦ g.0 ] in
            ap (λ b. cond (is_among q ps && is_new q) (Some (get now q)) (cond b (Some (Some e)) f)) other
            ∙ ap (λ b. cond ((b || is_among q ps) && is_new q) (Some (get now q)) f) (sym n.0)
      ]

  last_new : (q : ℕ) (f : Option (Option Entry)) (pages : List ℕ) → last_change f (map Now (new_entries old now pages)) q ≡ cond
      (is_among q pages && is_new q) (Some (get now q)) f
  last_new q f [] = refl
  last_new q f (p ∷ ps) = new_more q f p ps (λ g. last_new q g ps) (new_entry (get old p) (get now p)) refl

  -- where each new entry is of one of the pages, all that the step left is kept by a cache that loses none
  pub changed_new : (pages : List ℕ) → ((q : ℕ) → is_new q ≡ true → is_among q pages ≡ true)
      → changed (standing old now) (map Now (new_entries old now pages)) ≡ now
  changed_new pages told = same_map nat_cmp_total nat_cmp-IsAntisymmetric _ _ (λ q.
      get_changed (standing old now) (map Now (new_entries old now pages)) q
      ∙ (ap (λ x. settle x (get (standing old now) q)) (last_new q None pages)
      ∙ by_new q (is_new q) refl))
    where
      by_new : (q : ℕ) (b : Bool) → is_new q ≡ b → settle (cond (is_among q pages && is_new q) (Some (get now q)) None)
          (get (standing old now) q) ≡ get now q
      by_new q true is =
          ap (λ b. settle (cond (b && is_new q) (Some (get now q)) None) (get (standing old now) q)) (told q is)
          ∙ ap (λ b. settle (cond b (Some (get now q)) None) (get (standing old now) q)) is
      by_new q false is =
          ap (λ b. settle (cond (is_among q pages && b) (Some (get now q)) None) (get (standing old now) q)) is
          ∙ (ap (λ x. settle x (get (standing old now) q)) (no_more (is_among q pages) (Some (get now q)) None)
          ∙ (get_standing old now q ∙ not_new (get old q) (get now q) is))

-- the same of what a step left
pub all_left : (frames : ℕ) (d : Dropped) (old m : Set) (cs list : List Change) (pages : List ℕ) → AreWithin frames (changed old cs)
    → AreToldIn pages cs
    → list ≡ map Now (new_entries old (dropping d (changed old cs)) pages)
    → ((q : ℕ) → get m q ≡ unless (is_gone (last_change None cs q)) (get (dropping d old) q)) → changed m list ≡ dropping d (changed old cs)
all_left frames d old m cs list pages within told all stood =
    let now = dropping d (changed old cs) in
    ap (changed m) all
    ∙ (ap (λ (x : Set). changed x (map Now (new_entries old now pages))) (standing_is d old m cs stood)
    ∙ changed_new old now (named_within frames d (changed old cs) within) pages (told_new d old cs pages told))

-- ---- the list of new entries

joins : (o : Option Entry) (xs ys : List Entry) → with_new o xs ++ ys ≡ with_new o (xs ++ ys)
joins None xs ys = refl
joins (Some e) xs ys = refl

entries_push : (old now : Set) (pages : List ℕ) (p : ℕ) → new_entries old now (pages ++ p ∷ []) ≡ new_entries old now pages
    ++ with_new (new_entry (get old p) (get now p)) []
entries_push old now [] p = last_one (new_entry (get old p) (get now p))
  where
    last_one : (o : Option Entry) → with_new o [] ≡ [] ++ with_new o []
    last_one None = refl
    last_one (Some e) = refl
entries_push old now (x ∷ xs) p =
    ap (with_new (new_entry (get old x) (get now x))) (entries_push old now xs p)
    ∙ sym (joins (new_entry (get old x) (get now x)) (new_entries old now xs) (with_new (new_entry (get old p) (get now p)) []))

map_push : (es : List Entry) (e : Entry) → map Now (es ++ e ∷ []) ≡ map Now es ++ Now e ∷ []
map_push [] e = refl
map_push (x ∷ xs) e = ap (λ (l : List Change). Now x ∷ l) (map_push xs e)

append_none : (es : List Entry) → es ++ [] ≡ es
append_none [] = refl
append_none (e ∷ es) = ap (λ (l : List Entry). e ∷ l) (append_none es)

-- as the changes of the pages so far
pub record Listed (old now : Set) (pages : List ℕ) (list : List Change) (count : ℕ) : Type 0 where
  pub are : list ≡ map Now (new_entries old now pages)
  pub few : length list ≤ count

pub listed_none : (old now : Set) → Listed old now [] [] 0
listed_none old now = record { are = refl; few = omega arith }

pub listed_same : (old now : Set) (pages : List ℕ) (list : List Change) (count p : ℕ) → new_entry (get old p) (get now p) ≡ None
    → Listed old now pages list count → Listed old now (pages ++ p ∷ []) list (count + 1)
listed_same old now pages list count p none h = record {
  are =
      h.are
      ∙ ap (map Now)
      (sym (entries_push old now pages p ∙ (ap (λ (o : Option Entry). new_entries old now pages ++ with_new o []) none ∙ append_none
      (new_entries old now pages))));
  few = omega (arith, h.few);
}

pub listed_more : (old now : Set) (pages : List ℕ) (list : List Change) (count p : ℕ) (e : Entry)
    → new_entry (get old p) (get now p) ≡ Some e → Listed old now pages list count
    → Listed old now (pages ++ p ∷ []) (list ++ Now e ∷ []) (count + 1)
listed_more old now pages list count p e some h = record {
  are =
      ap (λ (l : List Change). l ++ Now e ∷ []) h.are
      ∙ (sym (map_push (new_entries old now pages) e)
      ∙ ap (map Now) (sym (entries_push old now pages p ∙ ap (λ (o : Option Entry). new_entries old now pages ++ with_new o []) some)));
  few = omega (arith, h.few, Rattle.std.proofs.Math.ListN.length-append list (Now e ∷ []));
}

-- ---- the new entry of one page

pub new_dropped : (d : Dropped) (old : Set) (cs : List Change) (q : ℕ) → drops d q ≡ true
    → None ≡ new_entry (get old q) (get (dropping d (changed old cs)) q)
new_dropped d old cs q gone =
    sym (ap (new_entry (get old q)) (get_left d old cs q ∙ ap (λ b. unless b (settle (last_change None cs q) (get old q))) gone)
    ∙ none_left (get old q))

pub new_by_last : (d : Dropped) (old : Set) (cs : List Change) (q : ℕ) (last : Option (Option Entry)) → drops d q ≡ false
    → last_change None cs q ≡ last
    → new_entry (get old q) (settle last (get old q)) ≡ new_entry (get old q) (get (dropping d (changed old cs)) q)
new_by_last d old cs q last stays is =
    ap (new_entry (get old q))
    (sym (get_left d old cs q
    ∙ (ap (λ b. unless b (settle (last_change None cs q) (get old q))) stays ∙ ap (λ x. settle x (get old q)) is)))

abbrev small : Option (Option Entry) → Type 0
small None = Unit {0}
small (Some None) = Unit {0}
small (Some (Some e)) = e.page < 2 ^ 20

small_from : (found : Option (Option Entry)) (cs : List Change) (q : ℕ) → small found → AreOfPages cs → small (last_change found cs q)
small_from found [] q h all = h
small_from found (c ∷ cs) q h all =
    small_from (cond (eqb (page_of c) q) (Some (entry_of c)) found) cs q (chosen_small (eqb (page_of c) q) c (all 0 c (omega arith)))
    (λ k d lt. all (suc k) d (omega (arith, lt)))
  where
    of_change : (c : Change) → page_of c < 2 ^ 20 → small (Some (entry_of c))
    of_change (Gone page) lt = tt
    of_change (Now e) lt = lt

    chosen_small : (b : Bool) (c : Change) → page_of c < 2 ^ 20 → small (cond b (Some (entry_of c)) found)
    chosen_small true c lt = of_change c lt
    chosen_small false c lt = h

-- the last change of a page leads to a page of the address space
pub small_last : (cs : List Change) (q : ℕ) (e : Entry) → AreOfPages cs → last_change None cs q ≡ Some (Some e) → e.page < 2 ^ 20
small_last cs q e all is = subst small is (small_from None cs q tt all)

pub small_found : (o : Option Entry) (e : Entry) → IfSome o (λ found. found ≡ e) → e.page < 2 ^ 20 → IfSome o (λ found. found.page < 2 ^ 20)
small_found None e same lt = tt
small_found (Some found) e same lt = subst (λ (x : Entry). x.page < 2 ^ 20) (sym same) lt

pub none_changed : (cs : List Change) → (length cs == 0) ≡ true → cs ≡ []
none_changed [] h = refl
none_changed (c ∷ cs) h = absurd (let none : suc (length cs) ≡ 0 = number_is (suc (length cs)) 0 h in omega arith)

-- ---- a step that changed one translation

-- such a change, made alone, leaves the other pages' entries
get_one : (set : Set) (c : Change) (q : ℕ) → get (changed set (c ∷ [])) q ≡ cond (eqb q (page_of c)) (entry_of c) (get set q)
get_one set c q = get_with set (page_of c) (entry_of c) q

other_new : (set : Set) (c : Change) (q : ℕ) → eqb q (page_of c) ≡ false → new_entry (get set q) (get (changed set (c ∷ [])) q) ≡ None
other_new set c q no_page =
    ap (new_entry (get set q)) (get_one set c q ∙ ap (λ b. cond b (entry_of c) (get set q)) no_page) ∙ none_new false (get set q)

this_new : (set : Set) (c : Change) (q : ℕ) → q ≡ page_of c → new_entry (get set q) (get (changed set (c ∷ [])) q) ≡ new_entry
    (get set (page_of c)) (entry_of c)
this_new set c q is =
    ap (λ (n : ℕ). new_entry (get set n) (get (changed set (c ∷ [])) n)) is
    ∙ ap (new_entry (get set (page_of c)))
    (get_one set c (page_of c) ∙ ap (λ b. cond b (entry_of c) (get set (page_of c))) (number_self (page_of c)))

-- of a page that is gone nothing is new
gone_new : (set : Set) (page : ℕ) (pages : List ℕ) → new_entries set (changed set (Gone page ∷ [])) pages ≡ []
gone_new set page [] = refl
gone_new set page (p ∷ ps) =
    ap (λ (o : Option Entry). with_new o (new_entries set (changed set (Gone page ∷ [])) ps)) (elim (eqb_tells p page) [
      | inl t ↦ this_new set (Gone page) p t.1 ∙ none_left (get set page)
      | inr f ↦ other_new set (Gone page) p f.0
    ])
    ∙ gone_new set page ps

gone_stands : (b : Bool) (o : Option Entry) → unless b o ≡ unless (is_gone (cond b (Some None) None)) o
gone_stands true o = refl
gone_stands false o = refl

now_stands : (b : Bool) (e : Entry) (o : Option Entry) → o ≡ unless (is_gone (cond b (Some (Some e)) None)) o
now_stands true e o = refl
now_stands false e o = refl

turned : (a b : ℕ) → eqb a b ≡ eqb b a
turned a b = elim (eqb_tells a b) [
  | inl t ↦ t.0 ∙ sym (ap (λ (n : ℕ). eqb b n) t.1 ∙ number_self b)
  | inr f ↦ f.0 ∙ sym (elim (eqb_tells b a) [ inl t ↦ absurd (f.1 (sym t.1)) | inr g ↦ g.0 ])
]

module _ (keeping : Keeps) (again : (set : Set) (e : Entry) → keeping (keeping set e) e ≡ keeping set e) (set : Set) (e : Entry)
    (new : new_entry (get set e.page) (Some e) ≡ Some e) where
  abbrev later : Set
  later = changed set (Now e ∷ [])

  -- the page may be used more than once
  all_kept : (pages : List ℕ) → keep_all keeping (keeping set e) (new_entries set later pages) ≡ keeping set e
  all_kept [] = refl
  all_kept (p ∷ ps) = elim (eqb_tells p e.page) [
    | inl t ↦
        ap (λ (o : Option Entry). keep_all keeping (keeping set e) (with_new o (new_entries set later ps)))
        (this_new set (Now e) p t.1 ∙ new)
        ∙ (ap (λ (m : Set). keep_all keeping m (new_entries set later ps)) (again set e) ∙ all_kept ps)
    | inr f ↦ ap (λ (o : Option Entry). keep_all keeping (keeping set e) (with_new o (new_entries set later ps)))
        (other_new set (Now e) p f.0) ∙ all_kept ps
  ]

  first_kept : (pages : List ℕ) → is_among e.page pages ≡ true → keep_all keeping set (new_entries set later pages) ≡ keeping set e
  first_kept [] among = absurd (let f : false ≡ true = among in cc)
  first_kept (p ∷ ps) among = elim (eqb_tells p e.page) [
    | inl t ↦ ap (λ (o : Option Entry). keep_all keeping set (with_new o (new_entries set later ps))) (this_new set (Now e) p t.1 ∙ new)
        ∙ all_kept ps
    | inr f ↦
        ap (λ (o : Option Entry). keep_all keeping set (with_new o (new_entries set later ps))) (other_new set (Now e) p f.0)
        ∙ first_kept ps (sym (ap (λ b. b || is_among e.page ps) (turned e.page p ∙ f.0)) ∙ among)
  ]

told_one : (c : Change) (pages : List ℕ) → AreToldIn pages (c ∷ []) → is_among (page_of c) pages ≡ true
told_one c pages told = told (page_of c) (ap (λ b. b || false) (number_self (page_of c)))

some_new : (old : Option Entry) (e : Entry) → is_some (new_entry old (Some e)) ≡ true → new_entry old (Some e) ≡ Some e
some_new None e h = refl
some_new (Some a) e h = chosen_new (same_entry a e) h
  where
    chosen_new : (b : Bool) → is_some (cond b None (Some e)) ≡ true → cond b None (Some e) ≡ Some e
    chosen_new true h = absurd (let f : false ≡ true = h in cc)
    chosen_new false h = refl

-- one that leaves another entry than there was
pub kept_one : (keeping : Keeps) → ((set : Set) (e : Entry) → keeping (keeping set e) e ≡ keeping set e)
    → (set : Set) (c : Change) (pages : List ℕ) → is_change set c ≡ true → AreToldIn pages (c ∷ [])
    → made_in keeping set (c ∷ []) ≡ kept_after keeping set pages (changed set (c ∷ []))
kept_one keeping again set (Gone page) pages new told =
    standing_is dropped.Nothing set (changed set (Gone page ∷ [])) (Gone page ∷ []) (λ q.
    get_one set (Gone page) q ∙ (ap (λ b. unless b (get set q)) (turned q page) ∙ gone_stands (eqb page q) (get set q)))
    ∙ ap (keep_all keeping (standing set (changed set (Gone page ∷ [])))) (sym (gone_new set page pages))
kept_one keeping again set (Now e) pages new told =
    sym (first_kept keeping again set e (some_new (get set e.page) e new) pages (told_one (Now e) pages told))
    ∙ ap (λ (m : Set). keep_all keeping m (new_entries set (changed set (Now e ∷ [])) pages))
    (standing_is dropped.Nothing set set (Now e ∷ []) (λ q. now_stands (eqb e.page q) e (get set q)))

same_left : (b : Bool) (a e : Entry) → (b ≡ true → a ≡ e) → is_some (cond b None (Some e)) ≡ false → a ≡ e
same_left true a e same h = same refl
same_left false a e same h = absurd (let f : true ≡ false = h in cc)

had : (old : Option Entry) (e : Entry) → is_some (new_entry old (Some e)) ≡ false → old ≡ Some e
had None e h = absurd (let f : true ≡ false = h in cc)
had (Some a) e h = ap (λ (x : Entry). Some x) (same_left (same_entry a e) a e (entry_is a e) h)

-- one that leaves the entry that there was changes nothing
pub one_same : (set : Set) (c : Change) → is_change set c ≡ false → set ≡ changed set (c ∷ [])
one_same set (Gone page) h = absurd (let f : true ≡ false = h in cc)
one_same set (Now e) h = same_map nat_cmp_total nat_cmp-IsAntisymmetric _ _ (λ q.
    by_page q (eqb_tells q e.page)
    ∙ sym (get_one set (Now e) q))
  where
    by_page : (q : ℕ) → ((eqb q e.page ≡ true) × (q ≡ e.page)) ⊎ ((eqb q e.page ≡ false) × (q ≢ e.page))
        → get set q ≡ cond (eqb q e.page) (Some e) (get set q)
    by_page q (inl t) = ap (get set) t.1 ∙ (had (get set e.page) e h ∙ ap (λ b. cond b (Some e) (get set q)) (sym t.0))
    by_page q (inr f) = ap (λ b. cond b (Some e) (get set q)) (sym f.0)

pub kept_same : (keeping : Keeps) (set : Set) (c : Change) (pages : List ℕ) → is_change set c ≡ false
    → set ≡ kept_after keeping set pages (changed set (c ∷ []))
kept_same keeping set c pages h =
    kept_unchanged keeping dropped.Nothing set pages ∙ ap (λ (m : Set). kept_after keeping set pages m) (one_same set c h)

-- ---- a part of what a step left

get_cut_to : (whole set : Set) (q : ℕ) → get (cut_to whole set) q ≡ cond (is_none (new_entry (get whole q) (get set q))) (get set q) None
get_cut_to whole set q =
    let p : ℕ → Bool = λ page. is_none (new_entry (get whole page) (get set page)) in
    get-retain_keys set p q (λ x t. ap p (sym (nat_cmp-IsAntisymmetric q x t)))

had_none : (old : Option Entry) (e : Entry) → is_none (new_entry old (Some e)) ≡ true → old ≡ Some e
had_none old e h = had old e (none_is (new_entry old (Some e)) h)
  where
    none_is : (o : Option Entry) → is_none o ≡ true → is_some o ≡ false
    none_is None h = refl
    none_is (Some x) h = absurd (let f : false ≡ true = h in cc)

part_found : (b : Bool) (o whole : Option Entry) (e : Entry) → cond b o None ≡ Some e
    → (b ≡ true → o ≡ Some e → whole ≡ Some e) → whole ≡ Some e
part_found true o whole e h f = f refl h
part_found false o whole e h f = absurd (none-some e h)

-- it is one
pub left_part : (whole set : Set) → IsPartOf (cut_to whole set) whole
left_part whole set = record {
  each = λ q e is.
      part_found (is_none (new_entry (get whole q) (get set q))) (get set q) (get whole q) e (sym (get_cut_to whole set q) ∙ is)
      (λ none there. had_none (get whole q) e (ap (λ (o : Option Entry). is_none (new_entry (get whole q) o)) (sym there) ∙ none));
}

-- what is one already stays as it is
pub left_same : (whole set : Set) → IsPartOf set whole → cut_to whole set ≡ set
left_same whole set part =
    same_map nat_cmp_total nat_cmp-IsAntisymmetric _ _ (λ q. get_cut_to whole set q ∙ by_entry (get whole q) (get set q) (part.each q))
  where
    by_entry : (w o : Option Entry) → ((e : Entry) → o ≡ Some e → w ≡ Some e) → cond (is_none (new_entry w o)) o None ≡ o
    by_entry w None h = either_way (is_none (new_entry w None)) None
      where
        either_way : (b : Bool) (o : Option Entry) → cond b o o ≡ o
        either_way true o = refl
        either_way false o = refl
    by_entry w (Some e) h =
        ap (λ (o : Option Entry). cond (is_none o) (Some e) None)
        (ap (λ (x : Option Entry). new_entry x (Some e)) (h e refl) ∙ none_new false (Some e))
