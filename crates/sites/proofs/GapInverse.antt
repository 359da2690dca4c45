-- Reading and writing are inverse to each other in format 2.
use Rattle.std.proofs.Common.{◌≡◌, ℕ, zero, suc, ◌+◌, ◌-◌, ◌*◌, ◌/◌, ◌%◌, ◌<◌, ◌≤◌, ◌^◌, Bool, true, false, ltb, List, [], ◌∷◌, ◌++◌, length, get_or, take, drop, Option, None, Ok, refl, sym, ap, ◌∙◌, subst, arith, append_assoc}
use Rattle.std.specs.Prelude.{not, ◌&&◌, max, is_none, unwrap_or}
use Rattle.std.specs.Bool.{then_some}
use Rattle.std.specs.Int.{w32, to_le_bytes}
use Rattle.std.specs.Option.{option_or}
use Rattle.std.proofs.lemmas.Bool.{lt-ltb, le-ltb, ltb-false, ltb-true, not-false}
use Rattle.std.proofs.lemmas.List.{drop-drop, take-append-drop, length-append, drop_all}
use Rattle.std.proofs.lemmas.Nat.{from_le_bytes-to_le_bytes_4}
use Rattle.plain_laws.proofs.Options.{then_none, else_none}
use Rattle.plain_laws.proofs.Tests.{second_false}
use Rattle.guest_ram.specs.Bytes.{part, byte, word32, AreBytes}
use Rattle.guest_ram.proofs.Bytes.{byte_lt, length-part, get_or-part, part-append}
use Rattle.sites.specs.declared.site.Site.{Site}
use Rattle.ia32_types.specs.declared.site.SiteKind.{SiteKind}
use Rattle.ia32_types.specs.declared.site.SiteKind.TheVariants.{Cli}
use Rattle.sites.specs.Kinds.{number, kind_numbered}
use Rattle.sites.specs.Spelling.{gap, gaps, gapped}
use Rattle.sites.specs.Form.{AreInGaps}
use Rattle.sites.specs.SitesParts.{SitesParts}
use Rattle.sites.specs.Reading.{cut_before, has_no_kind, head_fault}
use Rattle.sites.specs.Gapped.{gap_at, end_at, passes, has_wrong_length, gap_fault, gaps_fault, gap_site, gap_sites, gapped_in}
use Rattle.sites.proofs.GapWalk.{in_second}
use Rattle.sites.proofs.Inverse.{kind_numbered-number, number-kind, byte-behind, head_good, head_was, unless_none, unless_ok, part-word, drop-eight}

-- ---- what is spelled is read so

three : (from at : ℕ) → from ≤ at → at < from + 2 ^ 24 → from
    + ((at - from) % 256 + 256 * ((at - from) / 256 % 256) + 65536 * ((at - from) / 256 / 256)) ≡ at
three from at le lt = omega arith

-- the fields of a site that stands after other bytes, and after a site that ends at `from`
record Follows (bytes : List ℕ) (from a : ℕ) (s : Site) : Type 0 where
  room : a + 5 ≤ length bytes
  at : from + gap_at bytes a ≡ s.at
  kind : byte bytes (a + 3) ≡ number s.kind
  len : byte bytes (a + 4) ≡ s.len

follows : (front rest : List ℕ) (from a : ℕ) (s : Site) → length front ≡ a → from ≤ s.at → s.at < from + 2 ^ 24
    → Follows (front ++ (gap from s ++ rest)) from a s
unfolding byte
follows front rest from a s e le lt =
    let bytes = front ++ (gap from s ++ rest) in
    let here : a + 0 ≡ a = omega arith in
    let b0 : byte bytes a ≡ (s.at - from) % 256 = ap (byte bytes) (sym here) ∙ byte-behind front (gap from s ++ rest) a 0 e in
    let b1 : byte bytes (a + 1) ≡ (s.at - from) / 256 % 256 = byte-behind front (gap from s ++ rest) a 1 e in
    let b2 : byte bytes (a + 2) ≡ (s.at - from) / 256 / 256 = byte-behind front (gap from s ++ rest) a 2 e in
    record {
      room = omega (arith, length-append front (gap from s ++ rest), length-append (gap from s) rest);
      at = rw (b0, b1, b2) (three from s.at le lt);
      kind = byte-behind front (gap from s ++ rest) a 3 e;
      len = byte-behind front (gap from s ++ rest) a 4 e;
    }

ends : (bytes : List ℕ) (from a : ℕ) (s : Site) → Follows bytes from a s → s.total ≡ max 5 s.len → end_at bytes from a ≡ s.at + s.total
ends bytes from a s is total = rw (is.at, is.len) (ap (λ (n : ℕ). s.at + n) (sym total))

in_range : (n : ℕ) → 1 ≤ n → n ≤ 11 → not (ltb 0 n && ltb n 12) ≡ false
in_range n some most = rw (lt-ltb 0 n (omega arith), lt-ltb n 12 (omega arith)) refl

no_kind_there : (bytes : List ℕ) (at : ℕ) (k : SiteKind) → byte bytes at ≡ number k → has_no_kind bytes at ≡ false
no_kind_there bytes at k is =
    let kind : is_none (kind_numbered (byte bytes at)) ≡ false =
    ap (λ (n : ℕ). is_none (kind_numbered n)) is ∙ ap is_none (kind_numbered-number k) in
    ap (λ (b : Bool). ltb at (length bytes) && b) kind ∙ and_false (ltb at (length bytes))
  where
    and_false : (b : Bool) → (b && false) ≡ false
    and_false true = refl
    and_false false = refl

good_parts : (p k l : Bool) (bytes : List ℕ) (a : ℕ) → p ≡ false → k ≡ false → l ≡ false → a + 5 ≤ length bytes
    → option_or (then_some p a) (option_or (then_some k (a + 3)) (option_or (then_some l (a + 4)) (cut_before bytes (a + 5)))) ≡ None
good_parts p k l bytes a p_not k_not l_not room = rw (p_not, k_not, l_not, le-ltb (length bytes) (a + 5) room) refl

not_bad_there : (bytes : List ℕ) (from a : ℕ) (s : Site) → Follows bytes from a s → 1 ≤ s.len → s.len ≤ 11 → s.total ≡ max 5 s.len → s.at
    + s.total < 2 ^ 32 → gap_fault bytes from a ≡ None
unfolding gap_fault
not_bad_there bytes from a s is some most total end =
    let room = is.room in
    let small : ltb 4294967295 (end_at bytes from a) ≡ false = le-ltb _ _ (omega (arith, ends bytes from a s is total)) in
    let p : passes bytes from a ≡ false = rw (le-ltb (length bytes) (a + 3) (omega arith), small) refl in
    let l : has_wrong_length bytes (a + 4) ≡ false =
    rw (lt-ltb (a + 4) (length bytes) (omega arith), is.len, in_range s.len some most) refl in
    good_parts (passes bytes from a) (has_no_kind bytes (a + 3)) (has_wrong_length bytes (a + 4)) bytes a p
    (no_kind_there bytes (a + 3) s.kind is.kind) l room

read_there : (bytes : List ℕ) (from a : ℕ) (s : Site) → Follows bytes from a s → s.total ≡ max 5 s.len → gap_site bytes from a ≡ s
unfolding gap_site
read_there bytes from a s is total =
    let k : unwrap_or (kind_numbered (byte bytes (a + 3))) Cli ≡ s.kind = ap (λ (n : ℕ). unwrap_or (kind_numbered n) Cli) is.kind
    ∙ ap (λ (o : Option SiteKind). unwrap_or o Cli) (kind_numbered-number s.kind) in
    rw (is.at, k, is.len, ← total) refl

gaps_read : (sites : List Site) (front : List ℕ) (from a : ℕ) → length front ≡ a → AreInGaps from sites
    → (gaps_fault (front ++ gaps from sites) from (length sites) a ≡ None)
    × (gap_sites (front ++ gaps from sites) from (length sites) a ≡ sites)
unfolding gaps gaps_fault gap_sites
gaps_read [] front from a e are = (rw (le-ltb a (length (front ++ [])) (omega (arith, length-append front []))) refl, refl)
gaps_read (s ∷ sites) front from a e (rises, near, some, most, total, end, are) =
    let bytes = front ++ (gap from s ++ gaps (s.at + s.total) sites) in
    let is = follows front (gaps (s.at + s.total) sites) from a s e rises near in
    let regrouped : (front ++ gap from s) ++ gaps (s.at + s.total) sites ≡ bytes =
    append_assoc front (gap from s) (gaps (s.at + s.total) sites) in
    let rest = gaps_read sites (front ++ gap from s) (s.at + s.total) (a + 5) (omega (arith, length-append front (gap from s))) are in
    let rest =
    subst (λ (x : List ℕ). (gaps_fault x (s.at + s.total) (length sites) (a + 5) ≡ None)
    × (gap_sites x (s.at + s.total) (length sites) (a + 5) ≡ sites)) regrouped rest in
    let next = ends bytes from a s is total in (
      rw (not_bad_there bytes from a s is some most total end) (ap (λ (n : ℕ). gaps_fault bytes n (length sites) (a + 5)) next ∙ rest.0),
      ap (λ (x : Site). x ∷ gap_sites bytes (end_at bytes from a) (length sites) (a + 5)) (read_there bytes from a s is total)
          ∙ ap (λ (n : ℕ). s ∷ gap_sites bytes n (length sites) (a + 5)) next ∙ ap (λ (r : List Site). s ∷ r) rest.1,
    )

pub gapped_read : (sites : List Site) → AreInGaps 0 sites → length sites < 2 ^ 32 → gapped_in (gapped sites) ≡ Ok (in_second sites)
unfolding gapped byte word32 part gapped_in
gapped_read sites are lt =
    let front : List ℕ = 80 ∷ 86 ∷ 83 ∷ 50 ∷ to_le_bytes w32 (length sites) in
    let count : word32 (gapped sites) 4 ≡ length sites = from_le_bytes-to_le_bytes_4 (length sites) lt in
    let head : head_fault (gapped sites) 50 ≡ None =
    head_good (gapped sites) 50 (omega (arith, length-append front (gaps 0 sites))) refl refl refl refl in
    let rest = gaps_read sites front 0 8 refl are in
    let none : option_or (head_fault (gapped sites) 50) (gaps_fault (gapped sites) 0 (word32 (gapped sites) 4) 8) ≡ None =
    rw (head, count) rest.0 in
    let all : gap_sites (gapped sites) 0 (word32 (gapped sites) 4) 8 ≡ sites = rw count rest.1 in
    unless_none (option_or (head_fault (gapped sites) 50) (gaps_fault (gapped sites) 0 (word32 (gapped sites) 4) 8))
    (in_second (gap_sites (gapped sites) 0 (word32 (gapped sites) 4) 8)) none ∙ ap (λ (v : List Site). Ok (in_second v)) all

-- ---- what is read is spelled so

record WasGap (bytes : List ℕ) (from a : ℕ) : Type 0 where
  room : a + 5 ≤ length bytes
  end : end_at bytes from a < 2 ^ 32
  kind : is_none (kind_numbered (byte bytes (a + 3))) ≡ false
  some : 1 ≤ byte bytes (a + 4)
  most : byte bytes (a + 4) ≤ 11

was_range : (n : ℕ) → not (ltb 0 n && ltb n 12) ≡ false → (1 ≤ n) × (n ≤ 11)
was_range n h =
    let both = not-false (ltb 0 n && ltb n 12) h in
    (omega (arith, ltb-true 0 n (first (ltb 0 n) (ltb n 12) both)), omega (arith, ltb-true n 12 (second (ltb 0 n) (ltb n 12) both)))
  where
    first : (x y : Bool) → (x && y) ≡ true → x ≡ true
    first true y h = refl
    first false y h = cc

    second : (x y : Bool) → (x && y) ≡ true → y ≡ true
    second true y h = h
    second false y h = cc

was_gap : (bytes : List ℕ) (from a : ℕ) → gap_fault bytes from a ≡ None → WasGap bytes from a
unfolding gap_fault
was_gap bytes from a e =
    let f0 = then_some (passes bytes from a) a in
    let f1 = then_some (has_no_kind bytes (a + 3)) (a + 3) in
    let f2 = then_some (has_wrong_length bytes (a + 4)) (a + 4) in
    let f3 = cut_before bytes (a + 5) in
    let n0 = else_none f0 (option_or f1 (option_or f2 f3)) e in
    let n1 = else_none f1 (option_or f2 f3) n0.1 in
    let n2 = else_none f2 f3 n1.1 in
    let room : a + 5 ≤ length bytes = ltb-false _ _ (then_none (ltb (length bytes) (a + 5)) (length bytes) n2.1) in
    let here : not (ltb (length bytes) (a + 3)) ≡ true = ap not (le-ltb (length bytes) (a + 3) (omega arith)) in
    let size = was_range (byte bytes (a + 4))
    (second_false (ltb (a + 4) (length bytes)) (not (ltb 0 (byte bytes (a + 4)) && ltb (byte bytes (a + 4)) 12)) (lt-ltb _ _ (omega arith))
    (then_none (has_wrong_length bytes (a + 4)) (a + 4) n2.0)) in
    record {
      room = room;
      end =
          omega (
            arith,
            ltb-false _ _ (second_false (not (ltb (length bytes) (a + 3))) (ltb 4294967295 (end_at bytes from a)) here
                (then_none (passes bytes from a) a n0.0)),
          );
      kind = second_false (ltb (a + 3) (length bytes)) (is_none (kind_numbered (byte bytes (a + 3)))) (lt-ltb _ _ (omega arith))
          (then_none (has_no_kind bytes (a + 3)) (a + 3) n1.0);
      some = size.0;
      most = size.1;
    }

five : (xs : List ℕ) → length xs ≡ 5 → xs ≡ get_or xs 0 0 ∷ get_or xs 1 0 ∷ get_or xs 2 0 ∷ get_or xs 3 0 ∷ get_or xs 4 0 ∷ []
five [] e = absurd (omega arith)
five (a ∷ []) e = absurd (omega arith)
five (a ∷ b ∷ []) e = absurd (omega arith)
five (a ∷ b ∷ c ∷ []) e = absurd (omega arith)
five (a ∷ b ∷ c ∷ d ∷ []) e = absurd (omega arith)
five (a ∷ b ∷ c ∷ d ∷ x ∷ []) e = refl
five (a ∷ b ∷ c ∷ d ∷ x ∷ y ∷ xs) e = absurd (omega arith)

part-five : (bytes : List ℕ) (a : ℕ) → a + 5 ≤ length bytes → part bytes a 5 ≡ byte bytes a ∷ byte bytes (a + 1) ∷ byte bytes (a + 2) ∷ byte
    bytes (a + 3) ∷ byte bytes (a + 4) ∷ []
unfolding byte
part-five bytes a room =
    let zero_more : a + 0 ≡ a = omega arith in
    let b0 : get_or (part bytes a 5) 0 0 ≡ get_or bytes a 0 =
    get_or-part bytes a 5 0 (omega arith) ∙ ap (λ (k : ℕ). get_or bytes k 0) zero_more in
    five (part bytes a 5) (length-part bytes a 5 room) ∙ rw (
      b0,
      get_or-part bytes a 5 1 (omega arith),
      get_or-part bytes a 5 2 (omega arith),
      get_or-part bytes a 5 3 (omega arith),
      get_or-part bytes a 5 4 (omega arith),
    ) refl

low : (from a b c : ℕ) → a < 2 ^ 8 → b < 2 ^ 8 → c < 2 ^ 8 → (from + (a + 256 * b + 65536 * c) - from) % 256 ≡ a
low from a b c la lb lc = omega arith

middle : (from a b c : ℕ) → a < 2 ^ 8 → b < 2 ^ 8 → c < 2 ^ 8 → (from + (a + 256 * b + 65536 * c) - from) / 256 % 256 ≡ b
middle from a b c la lb lc = omega arith

high : (from a b c : ℕ) → a < 2 ^ 8 → b < 2 ^ 8 → c < 2 ^ 8 → (from + (a + 256 * b + 65536 * c) - from) / 256 / 256 ≡ c
high from a b c la lb lc = omega arith

gap-part : (bytes : List ℕ) (from a : ℕ) → AreBytes bytes → WasGap bytes from a → part bytes a 5 ≡ gap from (gap_site bytes from a)
unfolding gap_site
gap-part bytes from a fits was =
    let b0 = byte_lt bytes a fits in
    let b1 = byte_lt bytes (a + 1) fits in
    let b2 = byte_lt bytes (a + 2) fits in
    let e0 = low from (byte bytes a) (byte bytes (a + 1)) (byte bytes (a + 2)) b0 b1 b2 in
    let e1 = middle from (byte bytes a) (byte bytes (a + 1)) (byte bytes (a + 2)) b0 b1 b2 in
    let e2 = high from (byte bytes a) (byte bytes (a + 1)) (byte bytes (a + 2)) b0 b1 b2 in
    let e3 = number-kind (byte bytes (a + 3)) was.kind in
    part-five bytes a was.room ∙ sym (rw (e0, e1, e2, e3) refl)

drop-five : (bytes : List ℕ) (a : ℕ) → drop a bytes ≡ part bytes a 5 ++ drop (a + 5) bytes
unfolding part
drop-five bytes a = sym (take-append-drop 5 (drop a bytes)) ∙ ap (λ (x : List ℕ). take 5 (drop a bytes) ++ x) (drop-drop 5 a bytes)

at_least : (bytes : List ℕ) (from a : ℕ) → AreBytes bytes → WasGap bytes from a → (rest : List Site) → AreInGaps (end_at bytes from a) rest
    → AreInGaps from (gap_site bytes from a ∷ rest)
unfolding gap_site
at_least bytes from a fits was rest are =
    let b0 = byte_lt bytes a fits in
    let b1 = byte_lt bytes (a + 1) fits in
    let b2 = byte_lt bytes (a + 2) fits in
    (omega arith, omega arith, was.some, was.most, refl, was.end, are)

record AreSpelled (bytes : List ℕ) (from n a : ℕ) : Type 0 where
  rest : drop a bytes ≡ gaps from (gap_sites bytes from n a)
  are : AreInGaps from (gap_sites bytes from n a)
  count : length (gap_sites bytes from n a) ≡ n

gap_next : (bytes : List ℕ) (from a : ℕ) (rest : List Site) → gaps from (gap_site bytes from a ∷ rest) ≡ gap from (gap_site bytes from a)
    ++ gaps (end_at bytes from a) rest
unfolding gaps gap_site
gap_next bytes from a rest = refl

no_gaps : (from : ℕ) (bytes : List ℕ) → bytes ≡ [] → bytes ≡ gaps from []
unfolding gaps
no_gaps from bytes h = h

gaps_spelled : (n : ℕ) (bytes : List ℕ) (from a : ℕ) → AreBytes bytes → gaps_fault bytes from n a ≡ None → AreSpelled bytes from n a
unfolding gaps_fault gap_sites
gaps_spelled zero bytes from a fits e =
    record {
      rest = no_gaps from (drop a bytes) (drop_all a bytes (ltb-false _ _ (then_none (ltb a (length bytes)) a e)));
      are = tt;
      count = refl;
    }
gaps_spelled (suc n) bytes from a fits e =
    let both = else_none (gap_fault bytes from a) (gaps_fault bytes (end_at bytes from a) n (a + 5)) e in
    let was = was_gap bytes from a both.0 in
    let others = gaps_spelled n bytes (end_at bytes from a) (a + 5) fits both.1 in
    record {
      rest = drop-five bytes a
          ∙ rw (gap-part bytes from a fits was) (ap (λ (x : List ℕ). gap from (gap_site bytes from a) ++ x) others.rest)
          ∙ sym (gap_next bytes from a (gap_sites bytes (end_at bytes from a) n (a + 5)));
      are = at_least bytes from a fits was (gap_sites bytes (end_at bytes from a) n (a + 5)) others.are;
      count = ap suc others.count;
    }

pub gapped_was : (bytes : List ℕ) (sites : SitesParts) → AreBytes bytes → gapped_in bytes ≡ Ok sites → (bytes ≡ gapped sites.list)
    × AreInGaps 0 sites.list × (sites.format ≡ 2)
unfolding gapped_in gapped
gapped_was bytes sites fits e =
    let n = word32 bytes 4 in
    let ok = unless_ok (option_or (head_fault bytes 50) (gaps_fault bytes 0 n 8)) (in_second (gap_sites bytes 0 n 8)) sites e in
    let both = else_none (head_fault bytes 50) (gaps_fault bytes 0 n 8) ok.0 in
    let head = head_was bytes 50 both.0 in
    let room : 8 ≤ length bytes = head.0 in
    let all = gaps_spelled n bytes 0 8 fits both.1 in
    let eight : part bytes 0 8 ≡ (80 ∷ 86 ∷ 83 ∷ 50 ∷ []) ++ to_le_bytes w32 n = sym (part-append bytes 0 4 4)
    ∙ ap (λ (x : List ℕ). x ++ part bytes 4 4) head.1 ∙ ap (λ (x : List ℕ). (80 ∷ 86 ∷ 83 ∷ 50 ∷ []) ++ x)
    (part-word bytes 4 fits (omega arith)) in
    let whole : bytes ≡ ((80 ∷ 86 ∷ 83 ∷ 50 ∷ []) ++ to_le_bytes w32 n) ++ gaps 0 (gap_sites bytes 0 n 8) =
    drop-eight bytes 0 ∙ rw (eight, all.rest) refl in
    let counted : bytes ≡ gapped (gap_sites bytes 0 n 8) =
    subst (λ (k : ℕ). bytes ≡ ((80 ∷ 86 ∷ 83 ∷ 50 ∷ []) ++ to_le_bytes w32 k) ++ gaps 0 (gap_sites bytes 0 n 8)) (sym all.count) whole in
    subst (λ (v : SitesParts). (bytes ≡ gapped v.list) × AreInGaps 0 v.list × (v.format ≡ 2)) ok.1 (counted, all.are, refl)

pub length-gaps : (from : ℕ) (sites : List Site) → length (gaps from sites) ≡ 5 * length sites
unfolding gaps
length-gaps from [] = refl
length-gaps from (s ∷ sites) = omega (arith, length-append (gap from s) (gaps (s.at + s.total) sites), length-gaps (s.at + s.total) sites)
