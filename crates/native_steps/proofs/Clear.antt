-- The pages that an instruction uses, where none clashes: where one was used before, its entry allows the later use too.
use Rattle.std.proofs.Common.{◌≡◌, ℕ, zero, suc, ◌+◌, ◌-◌, ◌/◌, ◌≤◌, ◌<◌, ◌==◌, List, [], ◌∷◌, ◌++◌, length, map, Bool, true, false, cond, ◌&&◌, ◌||◌, not, Option, Some, None, Ok, refl, sym, ap, ◌∙◌, arith}
use Rattle.std.specs.Prelude.{slice_index_or, if◌then◌else◌}
use Rattle.std.specs.Option.{ForSome}
use Rattle.std.specs.List.{Contains}
use Rattle.std.specs.FinMap.{FinMap, get}
use Rattle.std.specs.Ordering.{nat_cmp}
use Rattle.std.proofs.lemmas.Bool.{eq-eqb, or_parts}
use Rattle.std.proofs.Math.Bool.{or-true}
use Rattle.plain_laws.proofs.Tests.{second_false}
use Rattle.guest_ram.specs.Among.{is_among}
use Rattle.descriptors.specs.Access.{by_level}
use Rattle.descriptors.specs.Controls.{wp_of}
use Rattle.ia32_types.specs.declared.insn.Insn.{Insn}
use Rattle.ia32_decode.specs.declared.answer.Decoded.TheVariants as begins
use Rattle.ia32_exec.specs.declared.access.Range.{Range}
use Rattle.ia32_exec.specs.declared.access.Ranges.{Ranges}
use Rattle.ia32_exec.specs.Short.{IsShort}
use Rattle.ia32_exec.specs.Effect.{ranges_of}
use Rattle.paging.specs.declared.entry.Access.{Access}
use Rattle.paging.specs.declared.entry.Entry.{Entry}
use Rattle.paging.specs.Fresh.{allows}
use Rattle.paging.specs.Space.{Space}
use Rattle.step_exec.specs.Plain.{is_refused}
use Rattle.host_cpl3.specs.Access.{last_page}
use Rattle.machine_model.specs.State.{Setting, State, space_at_start}
use Rattle.machine_model.specs.Instruction.{fetched}
use Rattle.machine_model.specs.Clash as clashing
use Rattle.machine_model.specs.Clash.{fetch_uses, is_refused_by, clash_behind, instruction_clashes}
use Rattle.native_steps.proofs.Short.{ranges_short}

-- a page that an instruction uses
pub record Use : Type 0 where
  pub page : ℕ
  pub write : Bool

abbrev pub used : Bool → ℕ → Use
used write page = record { page = page; write = write }

-- the pages of a range
abbrev pub range_uses : Bool → Option Range → List Use
range_uses write None = []
range_uses write (Some r) = used write (r.at / 4096) ∷ (if last_page r == r.at / 4096 then [] else used write (last_page r) ∷ [])

-- all pages that an instruction uses, in their order: those that its fetch went through, and those of its ranges
abbrev pub uses_of : List ℕ → Ranges → List Use
uses_of pages ranges = map (used false) pages ++ (range_uses false ranges.read ++ range_uses true ranges.write)

-- Where a page was used before, its entry, if it has one, allows this use too.
abbrev pub AreClear : (set : FinMap nat_cmp Entry) (user wp : Bool) → List ℕ → List Use → Type 0
AreClear set user wp earlier [] = Unit {0}
AreClear set user wp earlier (u ∷ later) =
    (Contains earlier u.page → ForSome (get set u.page) (λ e. allows e (record { write = u.write; user = user }) wp ≡ true))
    × AreClear set user wp (u.page ∷ earlier) later

-- ---- as the model has them

any_by : (q : ℕ) (ps : List ℕ) (k : ℕ) → k < length ps → slice_index_or ps k q ≡ q → is_among q ps ≡ true
any_by q [] k lt e = absurd (omega (arith, lt))
any_by q (p ∷ ps) zero lt e = ap (λ t. t || is_among q ps) (eq-eqb q p (sym e))
any_by q (p ∷ ps) (suc k) lt e = ap (λ t. (q == p) || t) (any_by q ps k (omega (arith, lt)) e) ∙ or-true (q == p)

not_refused : (o : Option Entry) (access : Access) (wp : Bool) → is_refused_by o access wp ≡ false
    → ForSome o (λ e. allows e access wp ≡ true)
not_refused None access wp h x e = absurd cc
not_refused (Some y) access wp h x e = let same : y ≡ x = cc in ap (λ z. allows z access wp) (sym same) ∙ allowed (allows y access wp) h
  where
    allowed : (t : Bool) → not t ≡ false → t ≡ true
    allowed true g = refl
    allowed false g = absurd cc

abbrev as_use : State → Use → clashing.Use
as_use b u = record { page = u.page; access = by_level b.cpu u.write }

clear_told : (b : State) (ps : List ℕ) (us : List Use) → clash_behind (get b.set) (wp_of b.cpu) ps (map (as_use b) us) ≡ false
    → AreClear b.set (b.cpu.cpl == 3) (wp_of b.cpu) ps us
clear_told b ps [] h = tt
clear_told b ps (u ∷ us) h =
    let access : Access = by_level b.cpu u.write in
    let p = or_parts (is_among u.page ps && is_refused_by (get b.set u.page) access (wp_of b.cpu))
    (clash_behind (get b.set) (wp_of b.cpu) (u.page ∷ ps) (map (as_use b) us)) h in (
      λ c. not_refused (get b.set u.page) access (wp_of b.cpu)
          (second_false (is_among u.page ps) (is_refused_by (get b.set u.page) access (wp_of b.cpu)) (any_by u.page ps c.0 c.1 c.2) p.0),
      clear_told b (u.page ∷ ps) us p.1,
    )

map-append : {A B : Type 0} (f : A → B) (xs ys : List A) → map f (xs ++ ys) ≡ map f xs ++ map f ys
map-append f [] ys = refl
map-append f (x ∷ xs) ys = ap (λ l. f x ∷ l) (map-append f xs ys)

module _ (b : State) where
  fetch_same : (pages : List ℕ) → map (as_use b) (map (used false) pages) ≡ fetch_uses b pages
  fetch_same [] = refl
  fetch_same (page ∷ pages) = ap (λ (l : List clashing.Use). as_use b (used false page) ∷ l) (fetch_same pages)

  last_same : (r : Range) → 1 ≤ r.len → last_page r ≡ (r.at + r.len - 1) / 4096
  last_same r some = omega (arith, some)

  -- a last page that is another
  abbrev other : Bool → ℕ → ℕ → List clashing.Use
  other write first last = cond (last == first) [] (as_use b (used write last) ∷ [])

  map_other : (write : Bool) (first last : ℕ) (t : Bool) → map (as_use b) (cond t [] (used write last ∷ [])) ≡ cond t []
      (as_use b (used write last) ∷ [])
  map_other write first last true = refl
  map_other write first last false = refl

  range_same : (write : Bool) (o : Option Range) → IsShort o → map (as_use b) (range_uses write o) ≡ clashing.uses_of
      (by_level b.cpu write) o
  range_same write None short = refl
  range_same write (Some r) short =
      ap (λ (l : List clashing.Use). as_use b (used write (r.at / 4096)) ∷ l)
      (map_other write (r.at / 4096) (last_page r) (last_page r == r.at / 4096) ∙ ap (other write (r.at / 4096)) (last_same r short.0))

  all_same : (pages : List ℕ) (ranges : Ranges) → IsShort ranges.read × IsShort ranges.write
      → map (as_use b) (uses_of pages ranges) ≡ fetch_uses b pages
      ++ (clashing.uses_of (by_level b.cpu false) ranges.read ++ clashing.uses_of (by_level b.cpu true) ranges.write)
  all_same pages ranges short =
      map-append (as_use b) (map (used false) pages) (range_uses false ranges.read ++ range_uses true ranges.write)
      ∙ ap (λ (l : List clashing.Use). l ++ map (as_use b) (range_uses false ranges.read ++ range_uses true ranges.write))
      (fetch_same pages)
      ∙ ap (λ (l : List clashing.Use). fetch_uses b pages ++ l)
      (map-append (as_use b) (range_uses false ranges.read) (range_uses true ranges.write)
      ∙ ap (λ (l : List clashing.Use). l ++ map (as_use b) (range_uses true ranges.write)) (range_same false ranges.read short.0)
      ∙ ap (λ (l : List clashing.Use). clashing.uses_of (by_level b.cpu false) ranges.read ++ l) (range_same true ranges.write short.1))

-- an instruction that was fetched, that no null segment denies, and that doesn't clash
pub clear_from : (m : Setting) (b : State) (insn : Insn) (len : ℕ) (fetch : Space)
    → fetched (b.cpu.cpl == 3) b.cpu.regs.eip (space_at_start m.mode m.frames b.cpu b.ram b.set) ≡ Ok (begins.Insn insn len, fetch)
    → is_refused b.cpu (ranges_of insn b.cpu.regs) ≡ false → instruction_clashes m b ≡ false
    → AreClear b.set (b.cpu.cpl == 3) (wp_of b.cpu) [] (uses_of fetch.visited (ranges_of insn b.cpu.regs))
unfolding instruction_clashes
clear_from m b insn len fetch e free h =
    let ranges = ranges_of insn b.cpu.regs in
    let both = clashing.uses_of (by_level b.cpu false) ranges.read ++ clashing.uses_of (by_level b.cpu true) ranges.write in
    let used_is : clashing.ranges_used b.cpu ranges ≡ both = ap (λ (t : Bool). cond t [] both) free in
    clear_told b [] (uses_of fetch.visited ranges)
    (ap (clash_behind (get b.set) (wp_of b.cpu) [])
    (all_same b fetch.visited ranges (ranges_short insn b.cpu.regs) ∙ ap (λ (l : List clashing.Use). fetch_uses b fetch.visited ++ l)
    (sym used_is) ∙ sym (ap (clashing.uses_by b) e)) ∙ h)
