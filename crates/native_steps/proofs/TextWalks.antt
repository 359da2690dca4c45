-- A walk that finds an entry reads text where one of its two words lies in a frame that holds text.
use Rattle.std.proofs.Common.{◌≡◌, ℕ, ◌/◌, ◌^◌, ◌<◌, Bool, true, false, cond, ◌&&◌, ◌||◌, not, Some, None, refl, ap, ◌∙◌, arith}
use Rattle.std.proofs.lemmas.Bool.{cond-false, lt-ltb}
use Rattle.guest_ram.specs.Bytes.{word32}
use Rattle.ia32_types.specs.declared.stop.Stop.TheVariants as stops
use Rattle.paging.specs.declared.entry.Access.{Access}
use Rattle.paging.specs.declared.entry.Entry.{Entry}
use Rattle.paging.specs.declared.entry.Touch.TheVariants.{Ready, Stop, Fault}
use Rattle.paging.specs.declared.entry.Walk.TheVariants.{Found}
use Rattle.paging.specs.Fresh.{dir_place, word_place, is_large, fresh, grants, flagged}
use Rattle.paging.specs.Uses.{Tables, Decision, is_barred, is_text, table_is_text, walks_text, marks_own, fault_code, dirtied, by_walk, decided}
use Rattle.native_steps.proofs.Walks.{IsByTable, IsLarge, IsWalk, ByTable, Large, walk_parts}

alone : (x : Bool) → (x || false) ≡ (x || x)
alone true = refl
alone false = refl

-- ---- where the words lie

dir_frame : (cr3 page : ℕ) → page < 2 ^ 20 → cr3 / 4096 ≡ dir_place cr3 page / 4096
dir_frame cr3 page lt = omega (arith, lt)

word_frame : (dir page : ℕ) → dir / 4096 ≡ word_place dir page / 4096
word_frame dir page = omega arith

module _ (s : Tables) (page : ℕ) (e : Entry) (d t : ℕ) (small : page < 2 ^ 20) where
  abbrev dir : ℕ
  dir = word32 s.ram (dir_place s.cr3 page)

  abbrev root : Bool
  root = is_text s.mode (s.cr3 / 4096)

  abbrev Reads : Type 0
  Reads = walks_text s page ≡ (is_text s.mode (d / 4096) || is_text s.mode (t / 4096))

  rooted : s.cr3 / 4096 < s.frames → walks_text s page ≡ (root || table_is_text s.mode s.pse dir)
  unfolding walks_text
  rooted lt = ap (λ x. root || (x && table_is_text s.mode s.pse dir)) (lt-ltb (s.cr3 / 4096) s.frames lt)

  by_table : IsByTable s.ram s.frames s.cr3 s.pse page e d t → Reads
  by_table h =
      let at_dir : s.cr3 / 4096 ≡ d / 4096 = dir_frame s.cr3 page small ∙ ap (λ n. n / 4096) h.dir_is in
      let at_word : dir / 4096 ≡ t / 4096 = word_frame dir page ∙ ap (λ n. n / 4096) h.word_is in
      rooted h.root
      ∙ ap (λ x. root || (x && (not (is_large s.pse dir) && is_text s.mode (dir / 4096)))) h.present
      ∙ ap (λ x. root || (not x && is_text s.mode (dir / 4096))) h.small
      ∙ ap (λ n. is_text s.mode n || is_text s.mode (dir / 4096)) at_dir
      ∙ ap (λ n. is_text s.mode (d / 4096) || is_text s.mode n) at_word

  by_large : IsLarge s.ram s.frames s.cr3 s.pse page e d t → Reads
  by_large h =
      let at_dir : s.cr3 / 4096 ≡ d / 4096 = dir_frame s.cr3 page small ∙ ap (λ n. n / 4096) h.dir_is in
      let at_word : s.cr3 / 4096 ≡ t / 4096 = dir_frame s.cr3 page small ∙ ap (λ n. n / 4096) h.word_is in
      rooted h.root
      ∙ ap (λ x. root || (x && (not (is_large s.pse dir) && is_text s.mode (dir / 4096)))) h.present
      ∙ ap (λ x. root || (not x && is_text s.mode (dir / 4096))) h.large
      ∙ alone root
      ∙ ap (λ n. is_text s.mode n || root) at_dir
      ∙ ap (λ n. is_text s.mode (d / 4096) || is_text s.mode n) at_word

  by_parts : IsWalk s.ram s.frames s.cr3 s.pse page e d t → Reads
  by_parts (ByTable h) = by_table h
  by_parts (Large h) = by_large h

  pub reads_text : fresh s.ram s.frames s.cr3 s.pse page ≡ Found e d t
      → walks_text s page ≡ (is_text s.mode (d / 4096) || is_text s.mode (t / 4096))
  reads_text found = by_parts (walk_parts s.ram s.frames s.cr3 s.pse page e d t found)

-- ---- where a fresh walk lets a use pass

pub decided_clear : (s : Tables) (fetch : Bool) (page at : ℕ) (access : Access) → (decided s fetch page at access).met ≡ Ready
    → walks_text s page ≡ false
unfolding decided
decided_clear s fetch page at access e = by_text (walks_text s page) e
  where
    by_text : (text : Bool)
        → (cond {A = Decision} text (record { met = Stop stops.TableInText; entry = None; ram = s.ram })
        (by_walk s fetch at access (fresh s.ram s.frames s.cr3 s.pse page))).met ≡ Ready → text ≡ false
    by_text true x = absurd cc
    by_text false x = refl

-- the tests of a walk, one after the other
pub decided_ready : (s : Tables) (fetch : Bool) (page at : ℕ) (access : Access) (e : Entry) (d t : ℕ) → walks_text s page ≡ false
    → fresh s.ram s.frames s.cr3 s.pse page ≡ Found e d t
    → grants e access s.wp ≡ true → is_barred s.mode fetch access.user e.page e.frame ≡ false → marks_own s d t access.write ≡ false
    → (decided s fetch page at access).met ≡ Ready
unfolding decided
decided_ready s fetch page at access e d t clear found granted free own =
    let last : Decision = record { met = Ready; entry = Some (dirtied e access.write); ram = flagged s.ram d t access.write } in
    let third : Decision = record { met = Stop stops.CodeIsTable; entry = None; ram = s.ram } in
    let second : Decision = record { met = Stop stops.TextMapped; entry = None; ram = s.ram } in
    let first : Decision = record { met = Fault (fault_code true access) at; entry = None; ram = s.ram } in
    let text : Decision = record { met = Stop stops.TableInText; entry = None; ram = s.ram } in
    ap (λ (x : Decision). x.met)
    (cond-false (walks_text s page) text (by_walk s fetch at access (fresh s.ram s.frames s.cr3 s.pse page)) clear
    ∙ ap (by_walk s fetch at access) found
    ∙ cond-false (not (grants e access s.wp)) first
    (cond (is_barred s.mode fetch access.user e.page e.frame) second (cond (marks_own s d t access.write) third last)) (ap not granted)
    ∙ cond-false (is_barred s.mode fetch access.user e.page e.frame) second (cond (marks_own s d t access.write) third last) free
    ∙ cond-false (marks_own s d t access.write) third last own)
