-- Reading and writing are inverse to each other in format 1.
use Rattle.std.proofs.Common.{◌≡◌, ℕ, zero, suc, ◌+◌, ◌-◌, ◌<◌, ◌≤◌, ◌^◌, true, false, eqb, ltb, List, [], ◌∷◌, ◌++◌, length, get_or, take, drop, Option, Some, None, ◌⊎◌, Ok, refl, sym, ap, ◌∙◌, subst, arith, eq-eqb, append_assoc, inl, inr}
use Rattle.std.specs.Prelude.{◌*◌, not, ◌||◌, max, is_none, unwrap_or}
use Rattle.std.specs.Bool.{then_some}
use Rattle.std.specs.List.{flat_map}
use Rattle.std.specs.Int.{w32, to_le_bytes, from_le_bytes}
use Rattle.std.specs.Option.{option_or}
use Rattle.std.proofs.lemmas.Bool.{lt-ltb, le-ltb, ltb-false, eqb-true, not-false, or_cases, cases_Bool, agree_below_at, both_ways, or_parts, cond-true, cond-false}
use Rattle.std.proofs.lemmas.List.{drop_at, drop-drop, take-append-drop, length-append, get_or-append-add, drop_all}
use Rattle.std.proofs.lemmas.Nat.{from_le_bytes-to_le_bytes_4, le_bytes_4}
use Rattle.plain_laws.proofs.Options.{then_none, else_none}
use Rattle.plain_laws.proofs.Tests.{second_false}
use Rattle.guest_ram.specs.Bytes.{part, byte, word32, AreBytes}
use Rattle.guest_ram.proofs.Bytes.{word32_lt, bytes-part, length-part, get_or-part, part-append}
use Rattle.sites.specs.declared.site.Site.{Site}
use Rattle.ia32_types.specs.declared.site.SiteKind.{SiteKind}
use Rattle.ia32_types.specs.declared.site.SiteKind.TheVariants.{Cli, Sti, StiHlt, Hlt, PushFlags, PopFlags, Iret, ReadControl, WriteControl, LoadGdt, LoadIdt, LoadTask, DropPage, ReadSeg, LoadSeg, PushSeg, PopSeg, FarJump, PortIn, PortOut, Return, JumpTo, CallTo}
use Rattle.sites.specs.Kinds.{kinds, number, kind_numbered}
use Rattle.sites.specs.Spelling.{site, placed}
use Rattle.sites.specs.Form.{AreInForm}
use Rattle.sites.specs.SitesParts.{SitesParts}
use Rattle.sites.specs.Reading.{differs, cut_before, falls, has_no_kind, has_wrong_total, unless, head_fault, site_fault, sites_fault, site_at, sites_at, placed_in}
use Rattle.sites.proofs.Walk.{in_first}

-- ---- kinds

pub kind_numbered-number : (k : SiteKind) → kind_numbered (number k) ≡ Some k
kind_numbered-number Cli = refl
kind_numbered-number Sti = refl
kind_numbered-number StiHlt = refl
kind_numbered-number Hlt = refl
kind_numbered-number PushFlags = refl
kind_numbered-number PopFlags = refl
kind_numbered-number Iret = refl
kind_numbered-number ReadControl = refl
kind_numbered-number WriteControl = refl
kind_numbered-number LoadGdt = refl
kind_numbered-number LoadIdt = refl
kind_numbered-number LoadTask = refl
kind_numbered-number DropPage = refl
kind_numbered-number ReadSeg = refl
kind_numbered-number LoadSeg = refl
kind_numbered-number PushSeg = refl
kind_numbered-number PopSeg = refl
kind_numbered-number FarJump = refl
kind_numbered-number PortIn = refl
kind_numbered-number PortOut = refl
kind_numbered-number Return = refl
kind_numbered-number JumpTo = refl
kind_numbered-number CallTo = refl

numbered : (n : ℕ) → eqb n 0 ≡ false → n < 24 → number (get_or kinds (n - 1) Cli) ≡ n
numbered n positive lt =
    split (or_cases (eqb n 0) (eqb (number (get_or kinds (n - 1) Cli)) n)
    (agree_below_at (λ (k : ℕ). eqb k 0 || eqb (number (get_or kinds (k - 1) Cli)) k) (λ (k : ℕ). true) 24 n refl lt)) where
      split : (eqb n 0 ≡ true) ⊎ (eqb (number (get_or kinds (n - 1) Cli)) n ≡ true) → number (get_or kinds (n - 1) Cli) ≡ n
      split (inl e) = absurd (both_ways _ positive e)
      split (inr e) = eqb-true _ _ e

pub number-kind : (n : ℕ) → is_none (kind_numbered n) ≡ false → number (unwrap_or (kind_numbered n) Cli) ≡ n
number-kind n some = split (cases_Bool (eqb n 0 || ltb 23 n)) where
  split : ((eqb n 0 || ltb 23 n) ≡ true) ⊎ ((eqb n 0 || ltb 23 n) ≡ false) → number (unwrap_or (kind_numbered n) Cli) ≡ n
  split (inl e) =
      absurd (both_ways (is_none (kind_numbered n)) some
      (ap is_none (cond-true (eqb n 0 || ltb 23 n) None (Some (get_or kinds (n - 1) Cli)) e)))
  split (inr e) =
      let parts = or_parts (eqb n 0) (ltb 23 n) e in
      ap (λ (o : Option SiteKind). number (unwrap_or o Cli)) (cond-false (eqb n 0 || ltb 23 n) None (Some (get_or kinds (n - 1) Cli)) e)
      ∙ numbered n parts.0 (omega (arith, ltb-false 23 n parts.1))

-- ---- what is spelled is read so

pub byte-behind : (front rest : List ℕ) (a k : ℕ) → length front ≡ a → byte (front ++ rest) (a + k) ≡ byte rest k
unfolding byte
byte-behind front rest a k e = rw (← e) (get_or-append-add front rest k 0)

pub word32-behind : (front rest : List ℕ) (a : ℕ) → length front ≡ a → word32 (front ++ rest) a ≡ word32 rest 0
unfolding word32 part
word32-behind front rest a e = ap (λ (x : List ℕ). from_le_bytes w32 (take 4 x)) (drop_at front rest a e)

-- the fields of a site that stands after other bytes
record SiteAt (bytes : List ℕ) (a : ℕ) (s : Site) : Type 0 where
  room : a + 8 ≤ length bytes
  at : word32 bytes a ≡ s.at
  kind : byte bytes (a + 4) ≡ number s.kind
  len : byte bytes (a + 5) ≡ s.len
  total : byte bytes (a + 6) ≡ s.total
  last : byte bytes (a + 7) ≡ 0

stands : (front rest : List ℕ) (a : ℕ) (s : Site) → length front ≡ a → s.at < 2 ^ 32 → SiteAt (front ++ (site s ++ rest)) a s
unfolding byte word32 part
stands front rest a s e lt = record {
  room = omega (arith, length-append front (site s ++ rest), length-append (site s) rest);
  at = word32-behind front (site s ++ rest) a e ∙ from_le_bytes-to_le_bytes_4 s.at lt;
  kind = byte-behind front (site s ++ rest) a 4 e;
  len = byte-behind front (site s ++ rest) a 5 e;
  total = byte-behind front (site s ++ rest) a 6 e;
  last = byte-behind front (site s ++ rest) a 7 e;
}

not_bad_there : (bytes : List ℕ) (least a : ℕ) (s : Site) → SiteAt bytes a s → least ≤ s.at → s.total ≡ max 5 s.len
    → site_fault bytes least a ≡ None
unfolding site_fault
not_bad_there bytes least a s is le total =
    let room = is.room in
    let l4 : ltb (length bytes) (a + 4) ≡ false = le-ltb _ _ (omega arith) in
    let rises : ltb s.at least ≡ false = le-ltb _ _ le in
    let r4 : ltb (a + 4) (length bytes) ≡ true = lt-ltb _ _ (omega arith) in
    let r6 : ltb (a + 6) (length bytes) ≡ true = lt-ltb _ _ (omega arith) in
    let r7 : ltb (a + 7) (length bytes) ≡ true = lt-ltb _ _ (omega arith) in
    let l8 : ltb (length bytes) (a + 8) ≡ false = le-ltb _ _ room in
    let same : eqb s.total (max 5 s.len) ≡ true = eq-eqb _ _ total in
    let is_kind : is_none (kind_numbered (byte bytes (a + 4))) ≡ false =
    ap (λ (n : ℕ). is_none (kind_numbered n)) is.kind ∙ ap is_none (kind_numbered-number s.kind) in
    rw (is.at, l4, rises, r4, is_kind, r6, is.total, is.len, same, r7, is.last, l8) refl

read_there : (bytes : List ℕ) (a : ℕ) (s : Site) → SiteAt bytes a s → site_at bytes a ≡ s
unfolding site_at
read_there bytes a s is =
    let k : unwrap_or (kind_numbered (byte bytes (a + 4))) Cli ≡ s.kind = ap (λ (n : ℕ). unwrap_or (kind_numbered n) Cli) is.kind
    ∙ ap (λ (o : Option SiteKind). unwrap_or o Cli) (kind_numbered-number s.kind) in
    rw (is.at, k, is.len, is.total) refl

sites_read : (sites : List Site) (front : List ℕ) (least a : ℕ) → length front ≡ a → AreInForm least sites
    → (sites_fault (front ++ flat_map site sites) least (length sites) a ≡ None)
    × (sites_at (front ++ flat_map site sites) (length sites) a ≡ sites)
unfolding sites_fault sites_at
sites_read [] front least a e are = (rw (le-ltb a (length (front ++ [])) (omega (arith, length-append front []))) refl, refl)
sites_read (s ∷ sites) front least a e are =
    let bytes = front ++ (site s ++ flat_map site sites) in
    let is = stands front (flat_map site sites) a s e are.1 in
    let regrouped : (front ++ site s) ++ flat_map site sites ≡ bytes = append_assoc front (site s) (flat_map site sites) in
    let rest = sites_read sites (front ++ site s) (s.at + 1) (a + 8) (omega (arith, length-append front (site s))) are.4 in
    let rest =
    subst (λ (x : List ℕ). (sites_fault x (s.at + 1) (length sites) (a + 8) ≡ None) × (sites_at x (length sites) (a + 8) ≡ sites)) regrouped
    rest in
    (rw (not_bad_there bytes least a s is are.0 are.3, is.at) (rest.0), rw (read_there bytes a s is) (ap (λ (r : List Site). s ∷ r) rest.1))

pub head_good : (bytes : List ℕ) (v : ℕ) → 8 ≤ length bytes → byte bytes 0 ≡ 80 → byte bytes 1 ≡ 86 → byte bytes 2 ≡ 83 → byte bytes 3 ≡ v
    → head_fault bytes v ≡ None
unfolding head_fault
head_good bytes v room b0 b1 b2 b3 =
    let r0 : ltb 0 (length bytes) ≡ true = lt-ltb _ _ (omega arith) in
    let r1 : ltb 1 (length bytes) ≡ true = lt-ltb _ _ (omega arith) in
    let r2 : ltb 2 (length bytes) ≡ true = lt-ltb _ _ (omega arith) in
    let r3 : ltb 3 (length bytes) ≡ true = lt-ltb _ _ (omega arith) in
    let l8 : ltb (length bytes) 8 ≡ false = le-ltb _ _ room in
    let same : eqb (byte bytes 3) v ≡ true = eq-eqb _ _ b3 in
    rw (r0, r1, r2, r3, b0, b1, b2, same, l8) refl

pub unless_none : (place : Option ℕ) (v : SitesParts) → place ≡ None → unless place v ≡ Ok v
unless_none place v e = rw e refl

pub placed_read : (sites : List Site) → AreInForm 0 sites → length sites < 2 ^ 32 → placed_in (placed sites) ≡ Ok (in_first sites)
unfolding placed byte word32 part placed_in
placed_read sites are lt =
    let front : List ℕ = 80 ∷ 86 ∷ 83 ∷ 49 ∷ to_le_bytes w32 (length sites) in
    let count : word32 (placed sites) 4 ≡ length sites = from_le_bytes-to_le_bytes_4 (length sites) lt in
    let head : head_fault (placed sites) 49 ≡ None =
    head_good (placed sites) 49 (omega (arith, length-append front (flat_map site sites))) refl refl refl refl in
    let rest = sites_read sites front 0 8 refl are in
    let none : option_or (head_fault (placed sites) 49) (sites_fault (placed sites) 0 (word32 (placed sites) 4) 8) ≡ None =
    rw (head, count) rest.0 in
    let all : sites_at (placed sites) (word32 (placed sites) 4) 8 ≡ sites = rw count rest.1 in
    unless_none (option_or (head_fault (placed sites) 49) (sites_fault (placed sites) 0 (word32 (placed sites) 4) 8))
    (in_first (sites_at (placed sites) (word32 (placed sites) 4) 8)) none ∙ ap (λ (v : List Site). Ok (in_first v)) all

-- ---- what is read is spelled so

pub same_byte : (bytes : List ℕ) (at v : ℕ) → at < length bytes → differs bytes at v ≡ false → byte bytes at ≡ v
same_byte bytes at v lt e =
    eqb-true _ _ (not-false _ (second_false (ltb at (length bytes)) (not (eqb (byte bytes at) v)) (lt-ltb _ _ lt) e))

record WasSite (bytes : List ℕ) (least a : ℕ) : Type 0 where
  room : a + 8 ≤ length bytes
  rises : least ≤ word32 bytes a
  kind : is_none (kind_numbered (byte bytes (a + 4))) ≡ false
  total : byte bytes (a + 6) ≡ max 5 (byte bytes (a + 5))
  last : byte bytes (a + 7) ≡ 0

was_site : (bytes : List ℕ) (least a : ℕ) → site_fault bytes least a ≡ None → WasSite bytes least a
unfolding site_fault
was_site bytes least a e =
    let f0 = then_some (falls bytes least a) a in
    let f1 = then_some (has_no_kind bytes (a + 4)) (a + 4) in
    let f2 = then_some (has_wrong_total bytes a) (a + 6) in
    let f3 = then_some (differs bytes (a + 7) 0) (a + 7) in
    let f4 = cut_before bytes (a + 8) in
    let n0 = else_none f0 (option_or f1 (option_or f2 (option_or f3 f4))) e in
    let n1 = else_none f1 (option_or f2 (option_or f3 f4)) n0.1 in
    let n2 = else_none f2 (option_or f3 f4) n1.1 in
    let n3 = else_none f3 f4 n2.1 in
    let room : a + 8 ≤ length bytes = ltb-false _ _ (then_none (ltb (length bytes) (a + 8)) (length bytes) n3.1) in
    let here : not (ltb (length bytes) (a + 4)) ≡ true = ap not (le-ltb (length bytes) (a + 4) (omega arith)) in
    record {
      room = room;
      rises =
          ltb-false _ _ (second_false (not (ltb (length bytes) (a + 4))) (ltb (word32 bytes a) least) here
          (then_none (falls bytes least a) a n0.0));
      kind = second_false (ltb (a + 4) (length bytes)) (is_none (kind_numbered (byte bytes (a + 4)))) (lt-ltb _ _ (omega arith))
          (then_none (has_no_kind bytes (a + 4)) (a + 4) n1.0);
      total = same_byte bytes (a + 6) (max 5 (byte bytes (a + 5))) (omega arith) (then_none (has_wrong_total bytes a) (a + 6) n2.0);
      last = same_byte bytes (a + 7) 0 (omega arith) (then_none (differs bytes (a + 7) 0) (a + 7) n3.0);
    }

pub four : (xs : List ℕ) → length xs ≡ 4 → xs ≡ get_or xs 0 0 ∷ get_or xs 1 0 ∷ get_or xs 2 0 ∷ get_or xs 3 0 ∷ []
four [] e = absurd (omega arith)
four (a ∷ []) e = absurd (omega arith)
four (a ∷ b ∷ []) e = absurd (omega arith)
four (a ∷ b ∷ c ∷ []) e = absurd (omega arith)
four (a ∷ b ∷ c ∷ d ∷ []) e = refl
four (a ∷ b ∷ c ∷ d ∷ x ∷ xs) e = absurd (omega arith)

pub part-four : (bytes : List ℕ) (a : ℕ) → a + 4 ≤ length bytes → part bytes a 4 ≡ byte bytes a ∷ byte bytes (a + 1) ∷ byte bytes
    (a + 2) ∷ byte bytes (a + 3) ∷ []
unfolding byte
part-four bytes a room =
    let zero_more : a + 0 ≡ a = omega arith in
    let b0 : get_or (part bytes a 4) 0 0 ≡ get_or bytes a 0 =
    get_or-part bytes a 4 0 (omega arith) ∙ ap (λ (k : ℕ). get_or bytes k 0) zero_more in
    four (part bytes a 4) (length-part bytes a 4 room) ∙ rw (
      b0,
      get_or-part bytes a 4 1 (omega arith),
      get_or-part bytes a 4 2 (omega arith),
      get_or-part bytes a 4 3 (omega arith),
    ) refl

pub part-word : (bytes : List ℕ) (a : ℕ) → AreBytes bytes → a + 4 ≤ length bytes → part bytes a 4 ≡ to_le_bytes w32 (word32 bytes a)
unfolding word32
part-word bytes a fits room =
    sym (le_bytes_4 (part bytes a 4) (word32 bytes a) (length-part bytes a 4 room) (bytes-part bytes a 4 fits) refl)

site-part : (bytes : List ℕ) (least a : ℕ) → AreBytes bytes → WasSite bytes least a → part bytes a 8 ≡ site (site_at bytes a)
unfolding site_at
site-part bytes least a fits was =
    let room = was.room in
    let e5 : a + 4 + 1 ≡ a + 5 = omega arith in
    let e6 : a + 4 + 2 ≡ a + 6 = omega arith in
    let e7 : a + 4 + 3 ≡ a + 7 = omega arith in
    let tail : part bytes (a + 4) 4 ≡ number (unwrap_or (kind_numbered (byte bytes (a + 4))) Cli) ∷ byte bytes (a + 5) ∷ byte
    bytes (a + 6) ∷ 0 ∷ [] =
    part-four bytes (a + 4) (omega arith)
    ∙ rw (e5, e6, e7, was.last)
    (ap (λ (n : ℕ). n ∷ byte bytes (a + 5) ∷ byte bytes (a + 6) ∷ 0 ∷ []) (sym (number-kind (byte bytes (a + 4)) was.kind))) in
    sym (part-append bytes a 4 4) ∙ ap (λ (x : List ℕ). x ++ part bytes (a + 4) 4) (part-word bytes a fits (omega arith))
    ∙ ap (λ (x : List ℕ). to_le_bytes w32 (word32 bytes a) ++ x) tail

pub drop-eight : (bytes : List ℕ) (a : ℕ) → drop a bytes ≡ part bytes a 8 ++ drop (a + 8) bytes
unfolding part
drop-eight bytes a = sym (take-append-drop 8 (drop a bytes)) ∙ ap (λ (x : List ℕ). take 8 (drop a bytes) ++ x) (drop-drop 8 a bytes)

at_least : (bytes : List ℕ) (least a : ℕ) → AreBytes bytes → WasSite bytes least a → (rest : List Site)
    → AreInForm (word32 bytes a + 1) rest → AreInForm least (site_at bytes a ∷ rest)
unfolding site_at byte
at_least bytes least a fits was rest are = (was.rises, word32_lt bytes a fits, fits (a + 5), was.total, are)

record AreSpelled (bytes : List ℕ) (least n a : ℕ) : Type 0 where
  rest : drop a bytes ≡ flat_map site (sites_at bytes n a)
  are : AreInForm least (sites_at bytes n a)
  count : length (sites_at bytes n a) ≡ n

sites_spelled : (n : ℕ) (bytes : List ℕ) (least a : ℕ) → AreBytes bytes → sites_fault bytes least n a ≡ None → AreSpelled bytes least n a
unfolding sites_fault sites_at
sites_spelled zero bytes least a fits e =
    record { rest = drop_all a bytes (ltb-false _ _ (then_none (ltb a (length bytes)) a e)); are = tt; count = refl }
sites_spelled (suc n) bytes least a fits e =
    let both = else_none (site_fault bytes least a) (sites_fault bytes (word32 bytes a + 1) n (a + 8)) e in
    let was = was_site bytes least a both.0 in
    let others = sites_spelled n bytes (word32 bytes a + 1) (a + 8) fits both.1 in
    record {
      rest = drop-eight bytes a ∙ rw (site-part bytes least a fits was) (ap (λ (x : List ℕ). site (site_at bytes a) ++ x) others.rest);
      are = at_least bytes least a fits was (sites_at bytes n (a + 8)) others.are;
      count = ap suc others.count;
    }

pub unless_ok : (place : Option ℕ) (v sites : SitesParts) → unless place v ≡ Ok sites → (place ≡ None) × (v ≡ sites)
unless_ok None v sites e = (refl, cc)
unless_ok (Some at) v sites e = absurd cc

pub head_was : (bytes : List ℕ) (v : ℕ) → head_fault bytes v ≡ None → (8 ≤ length bytes) × (part bytes 0 4 ≡ 80 ∷ 86 ∷ 83 ∷ v ∷ [])
unfolding head_fault
head_was bytes v e =
    let f0 = then_some (differs bytes 0 80) 0 in
    let f1 = then_some (differs bytes 1 86) 1 in
    let f2 = then_some (differs bytes 2 83) 2 in
    let f3 = then_some (differs bytes 3 v) 3 in
    let f4 = cut_before bytes 8 in
    let n0 = else_none f0 (option_or f1 (option_or f2 (option_or f3 f4))) e in
    let n1 = else_none f1 (option_or f2 (option_or f3 f4)) n0.1 in
    let n2 = else_none f2 (option_or f3 f4) n1.1 in
    let n3 = else_none f3 f4 n2.1 in
    let room : 8 ≤ length bytes = ltb-false _ _ (then_none (ltb (length bytes) 8) (length bytes) n3.1) in
    let b0 = same_byte bytes 0 80 (omega arith) (then_none (differs bytes 0 80) 0 n0.0) in
    let b1 = same_byte bytes 1 86 (omega arith) (then_none (differs bytes 1 86) 1 n1.0) in
    let b2 = same_byte bytes 2 83 (omega arith) (then_none (differs bytes 2 83) 2 n2.0) in
    let b3 = same_byte bytes 3 v (omega arith) (then_none (differs bytes 3 v) 3 n3.0) in
    (room, part-four bytes 0 (omega arith) ∙ rw (b0, b1, b2, b3) refl)

pub placed_was : (bytes : List ℕ) (sites : SitesParts) → AreBytes bytes → placed_in bytes ≡ Ok sites → (bytes ≡ placed sites.list)
    × AreInForm 0 sites.list × (sites.format ≡ 1)
unfolding placed_in placed
placed_was bytes sites fits e =
    let n = word32 bytes 4 in
    let ok = unless_ok (option_or (head_fault bytes 49) (sites_fault bytes 0 n 8)) (in_first (sites_at bytes n 8)) sites e in
    let both = else_none (head_fault bytes 49) (sites_fault bytes 0 n 8) ok.0 in
    let head = head_was bytes 49 both.0 in
    let room : 8 ≤ length bytes = head.0 in
    let all = sites_spelled n bytes 0 8 fits both.1 in
    let eight : part bytes 0 8 ≡ (80 ∷ 86 ∷ 83 ∷ 49 ∷ []) ++ to_le_bytes w32 n = sym (part-append bytes 0 4 4)
    ∙ ap (λ (x : List ℕ). x ++ part bytes 4 4) head.1 ∙ ap (λ (x : List ℕ). (80 ∷ 86 ∷ 83 ∷ 49 ∷ []) ++ x)
    (part-word bytes 4 fits (omega arith)) in
    let whole : bytes ≡ ((80 ∷ 86 ∷ 83 ∷ 49 ∷ []) ++ to_le_bytes w32 n) ++ flat_map site (sites_at bytes n 8) =
    drop-eight bytes 0 ∙ rw (eight, all.rest) refl in
    let counted : bytes ≡ placed (sites_at bytes n 8) =
    subst (λ (k : ℕ). bytes ≡ ((80 ∷ 86 ∷ 83 ∷ 49 ∷ []) ++ to_le_bytes w32 k) ++ flat_map site (sites_at bytes n 8))
    (sym all.count) whole in
    subst (λ (v : SitesParts). (bytes ≡ placed v.list) × AreInForm 0 v.list × (v.format ≡ 1)) ok.1 (counted, all.are, refl)

pub length-sites : (sites : List Site) → length (flat_map site sites) ≡ 8 * length sites
length-sites [] = refl
length-sites (s ∷ sites) = omega (arith, length-append (site s) (flat_map site sites), length-sites sites)
