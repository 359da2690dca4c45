-- A walk that is kept is what a walk would find, as long as its table and the directory aren't written.
use Rattle.std.proofs.Common.{◌≡◌, ◌≢◌, ℕ, ◌+◌, ◌*◌, ◌/◌, ◌%◌, ◌^◌, ◌<◌, List, length, Bool, true, false, not, cond, eqb, Option, Some, None, refl, sym, ap, ◌∙◌, subst, inl, inr, arith, get_or, set}
use Rattle.std.proofs.Math.Dec.{leb, ltb}
use Rattle.std.specs.Prelude.{IfSome}
use Rattle.std.specs.FinMap.{FinMap, get, insert, retain_keys}
use Rattle.std.specs.Ordering.{nat_cmp}
use Rattle.std.proofs.lemmas.Bool.{eq-eqb, lt-ltb}
use Rattle.std.proofs.lemmas.Bool.Decides.{eqb_tells}
use Rattle.std.proofs.lemmas.List.{get_or-set_same, get_or-set_other}
use Rattle.xlate_buffer.proofs.Keeping.{keep_get}
use Rattle.guest_ram.specs.Bytes.{word32, frame}
use Rattle.guest_ram.proofs.Bytes.{word32-frame}
use Rattle.paging.specs.declared.entry.Entry.{Entry}
use Rattle.paging.specs.declared.entry.Walk.TheVariants.{Absent, Beyond, Found}
use Rattle.paging.specs.Fresh.{fresh, by_dir, by_word, dir_place, word_place, has, entry_of}
use Rattle.host_cpl3.specs.Pages.{walked, entry_in}
use Rattle.host_cpl3.specs.KeptWalks.{table_of, IsKept, SameBut}

found_at : (a b c d e : Bool) (x y : Entry) (p q s t : ℕ)
    → cond a Beyond (cond (not b) Absent (cond c Beyond (cond (not d) Absent (cond e Beyond (Found x p q))))) ≡ Found y s t → q ≡ t
found_at false true false true false x y p q s t e' = cc
found_at true b c d e x y p q s t e' = absurd cc
found_at false false c d e x y p q s t e' = absurd cc
found_at false true true d e x y p q s t e' = absurd cc
found_at false true false false e x y p q s t e' = absurd cc
found_at false true false true true x y p q s t e' = absurd cc

-- where a walk found the PTE
pub word_of : (m : List ℕ) (n cr3 page : ℕ) (entry : Entry) (d w : ℕ) → fresh m n cr3 false page ≡ Found entry d w
    → word_place (word32 m (dir_place cr3 page)) page ≡ w
unfolding fresh
word_of m n cr3 page entry d w e =
    let dir : ℕ = word32 m (dir_place cr3 page) in
    let word : ℕ = word32 m (word_place dir page) in
    found_at (leb n (cr3 / 4096)) (has dir 1) (leb n (dir / 4096)) (has word 1) (leb n (word / 4096)) (entry_of page dir word) entry
    (dir_place cr3 page) (word_place dir page) d w e

-- the frame of the table that a walk found is that of the PDE
pub table_found : (m : List ℕ) (n root page : ℕ) (entry : Entry) (d w : ℕ) → fresh m n (4096 * root) false page ≡ Found entry d w
    → w / 4096 ≡ table_of m root page
table_found m n root page entry d w e =
    let is = word_of m n (4096 * root) page entry d w e in
    let dir : ℕ = word32 m (dir_place (4096 * root) page) in
    let same : word_place dir page / 4096 ≡ dir / 4096 = omega arith in
    ap (λ x. x / 4096) (sym is) ∙ same

-- a page of the address space is walked by its words
pub walked_is : (m : List ℕ) (root page : ℕ) → page < 2 ^ 20 → walked m root page ≡ fresh m (length m / 4096) (4096 * root) false page
walked_is m root page lt = ap (λ (b : Bool). cond b (fresh m (length m / 4096) (4096 * root) false page) Absent) (lt-ltb page 1048576 lt)

-- memories that agree on the directory and on the page's table
same_walk : (m m' : List ℕ) (root page : ℕ) → page < 2 ^ 20 → length m' ≡ length m → frame m' root ≡ frame m root
    → frame m' (table_of m root page) ≡ frame m (table_of m root page) → walked m' root page ≡ walked m root page
unfolding fresh
same_walk m m' root page l n r t =
    let at : dir_place (4096 * root) page ≡ 4096 * root + page / 1024 * 4 = omega arith in
    let dir : ℕ = word32 m (dir_place (4096 * root) page) in
    let one : word32 m' (dir_place (4096 * root) page) ≡ dir =
    ap (word32 m') at ∙ word32-frame m' m root (page / 1024 * 4) r (omega (arith, l)) ∙ sym (ap (word32 m) at)
    in
    let place : word_place dir page ≡ 4096 * (dir / 4096) + page % 1024 * 4 = omega arith in
    let two : word32 m' (word_place dir page) ≡ word32 m (word_place dir page) =
    ap (word32 m') place ∙ word32-frame m' m (dir / 4096) (page % 1024 * 4) t (omega arith) ∙ sym (ap (word32 m) place)
    in
    let cr3 : ℕ = 4096 * root in
    walked_is m' root page l
    ∙ ap (λ k. cond (leb (k / 4096) (cr3 / 4096)) Beyond (by_dir m' (k / 4096) cr3 false page (word32 m' (dir_place cr3 page)))) n
    ∙ ap (λ x. cond (leb (length m / 4096) (cr3 / 4096)) Beyond (by_dir m' (length m / 4096) cr3 false page x)) one
    ∙ ap (λ x. cond (leb (length m / 4096) (cr3 / 4096)) Beyond
    (cond (not (has dir 1)) Absent (cond (leb (length m / 4096) (dir / 4096)) Beyond (by_word (length m / 4096) cr3 page dir x)))) two
    ∙ sym (walked_is m root page l)

same_table : (m m' : List ℕ) (root page : ℕ) → page < 2 ^ 20 → frame m' root ≡ frame m root → table_of m' root page ≡ table_of m root page
same_table m m' root page l r =
    let at : dir_place (4096 * root) page ≡ 4096 * root + page / 1024 * 4 = omega arith in
    ap (λ x. x / 4096) (ap (word32 m') at ∙ word32-frame m' m root (page / 1024 * 4) r (omega (arith, l)) ∙ sym (ap (word32 m) at))

-- what is kept stays so
pub kept_still : (m m' : List ℕ) (root page first last table : ℕ) (entry : Entry) → SameBut m m' first last → root ≢ first → root ≢ last
    → table ≢ first → table ≢ last → IsKept m root page entry table → IsKept m' root page entry table
kept_still m m' root page first last table entry h r1 r2 t1 t2 k =
    let r = h.frames root r1 r2 in
    let t : frame m' (table_of m root page) ≡ frame m (table_of m root page) =
    subst (λ f. frame m' f ≡ frame m f) k.read_from (h.frames table t1 t2) in
    record {
      page_in = k.page_in;
      found = ap entry_in (same_walk m m' root page k.page_in h.len r t) ∙ k.found;
      inside = omega (arith, k.inside, h.len);
      read_from = k.read_from ∙ sym (same_table m m' root page k.page_in r);
    }

pub none_kept : (o : Option Entry) (P : Entry → Type 0) → o ≡ None → IfSome o P
none_kept None P e = tt
none_kept (Some x) P e = absurd cc

pub some_kept : (o : Option Entry) (P Q : Entry → Type 0) → ((x : Entry) → P x → Q x) → IfSome o P → IfSome o Q
some_kept None P Q f h = tt
some_kept (Some x) P Q f h = f x h

pub none_last : (b : Bool) (o : Option Entry) → o ≡ None → cond b o None ≡ None
none_last true o e = e
none_last false o e = refl

-- what is kept by itself is of its page
pub last_kept : (K : ℕ → Entry → Type 0) (o : Option Entry) (page : ℕ) → IfSome o (K page) → (q : ℕ)
    → IfSome (cond (eqb q page) o None) (K q)
last_kept K o page h q = elim (eqb_tells q page) [
  | inl t ↦ subst (λ (b : Bool). IfSome (cond b o None) (K q)) (sym t.0) (subst (λ (p : ℕ). IfSome o (K p)) (sym t.1) h)
  | inr f ↦ subst (λ (b : Bool). IfSome (cond b o None) (K q)) (sym f.0) tt
]

-- the page whose entry was kept last has it
pub kept_is : (buffer new : FinMap nat_cmp Entry) (e : Entry) (page : ℕ)
    → new ≡ insert (retain_keys buffer (λ k. not (eqb (k % 64) (e.page % 64)))) e.page e → e.page ≡ page → Some e ≡ get new page
kept_is buffer new e page is same =
    let P : Bool → Bool → Option Entry = λ a b. cond a (cond b (Some e) None) (get buffer page) in
    let one = eq-eqb (page % 64) (e.page % 64) (ap (λ x. x % 64) (sym same)) in
    let two = eq-eqb page e.page (sym same) in
    sym (ap (λ b. get b page) is ∙ keep_get buffer e page ∙ ap (λ b. P b (eqb page e.page)) one ∙ ap (P true) two)

-- one more is kept, in the place of its number modulo 64
pub keep_kept : (K L : ℕ → Entry → ℕ → Type 0) (buffer new : FinMap nat_cmp Entry) (tables : List ℕ) (page table : ℕ) (e : Entry)
    → length tables ≡ 64
    → new ≡ insert (retain_keys buffer (λ k. not (eqb (k % 64) (e.page % 64)))) e.page e → e.page ≡ page
    → ((q : ℕ) (x : Entry) (t : ℕ) → K q x t → L q x t)
    → ((q : ℕ) → IfSome (get buffer q) (λ x. K q x (get_or tables (q % 64) 0))) → L page e table
    → (q : ℕ) → IfSome (get new q) (λ x. L q x (get_or (set tables (page % 64) table) (q % 64) 0))
keep_kept K L buffer new tables page table e n is same wider old k q =
    let P : Entry → Type 0 = λ x. L q x (get_or (set tables (page % 64) table) (q % 64) 0) in
    let found : get new q ≡ cond (eqb (q % 64) (e.page % 64)) (cond (eqb q e.page) (Some e) None) (get buffer q) =
    ap (λ b. get b q) is ∙ keep_get buffer e q in
    subst (λ (o : Option Entry). IfSome o P) (sym found)
    (elim (eqb_tells (q % 64) (e.page % 64)) [
      | inl t ↦
          subst (λ (b : Bool). IfSome (cond b (cond (eqb q e.page) (Some e) None) (get buffer q)) P) (sym t.0)
          (elim (eqb_tells q e.page) [
            | inl s ↦
                let lt : page % 64 < length tables = omega (arith, n) in
                let here : get_or (set tables (page % 64) table) (page % 64) 0 ≡ table = get_or-set_same tables (page % 64) table 0 lt in
                let at : page ≡ q = sym (s.1 ∙ same) in
                subst (λ (b : Bool). IfSome (cond b (Some e) None) P) (sym s.0)
                (subst (λ (p : ℕ). L p e (get_or (set tables (page % 64) table) (p % 64) 0)) at (subst (L page e) (sym here) k))
            | inr f ↦ subst (λ (b : Bool). IfSome (cond b (Some e) None) P) (sym f.0) tt
          ])
      | inr f ↦
          let other : q % 64 ≡ page % 64 → ⊥ = λ x. f.1 (x ∙ ap (λ p. p % 64) (sym same)) in
          let there : get_or (set tables (page % 64) table) (q % 64) 0 ≡ get_or tables (q % 64) 0 =
          get_or-set_other tables (page % 64) (q % 64) table 0 other in
          subst (λ (b : Bool). IfSome (cond b (cond (eqb q e.page) (Some e) None) (get buffer q)) P) (sym f.0)
          (some_kept (get buffer q) (λ x. K q x (get_or tables (q % 64) 0)) P
          (λ x h. subst (L q x) (sym there) (wider q x (get_or tables (q % 64) 0) h)) (old q))
    ])

-- what a walk has just found
pub new_kept : (m : List ℕ) (len root page : ℕ) (e : Entry) (d w : ℕ) → len ≡ length m → page < 2 ^ 20
    → Found e d w ≡ fresh m (len / 4096) (root * 4096) false page → e.frame < len / 4096 → IsKept m root page e (w / 4096)
new_kept m len root page e d w is l f inside =
    let cr3 : 4096 * root ≡ root * 4096 = omega arith in
    let found : fresh m (length m / 4096) (4096 * root) false page ≡ Found e d w =
    ap (λ n. fresh m (n / 4096) (4096 * root) false page) (sym is) ∙ ap (λ r. fresh m (len / 4096) r false page) cr3 ∙ sym f in
    record {
      page_in = l;
      found = ap entry_in (walked_is m root page l ∙ found);
      inside = omega (arith, inside, is);
      read_from = table_found m (length m / 4096) root page e d w found;
    }
