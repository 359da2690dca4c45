-- Linked images of padded objects.
use Rattle.std.proofs.Common.{◌≡◌, ℕ, zero, suc, ◌+◌, ◌-◌, ◌<◌, ◌≤◌, ◌^◌, ◌%◌, Bool, true, false, cond, min, List, [], ◌∷◌, ◌++◌, length, take, nat_lt, Option, Some, None, Result, Ok, refl, sym, ap, subst, ◌∙◌, arith}
use Rattle.std.specs.Prelude.{slice_get, filter, sum_by, max, replicate, ◌==◌, codes}
use Rattle.std.specs.Bool.{then_some}
use Rattle.std.specs.List.{enumerate_from, All, Contains}
use Rattle.std.specs.Option.{option_or}
use Rattle.std.proofs.lemmas.List.{append-nil, length-append, length-replicate, length-take, take_all}
use Rattle.std.proofs.lemmas.List.Sums.{sum_by-cons}
use Rattle.std.proofs.lemmas.List.Elements.{All-nil, All-append, All-weaker, All-filter, All-contains, All-contains_itself}
use Rattle.std.proofs.lemmas.Bool.{ltb-false}
use Rattle.guest_ram.specs.Bytes.{word32}
use Rattle.ia32_rows.proofs.TableLaws.{at_most_eleven, not_empty}
use Rattle.sites.specs.declared.limits.TheConstants.{TEXT_LIMIT}
use Rattle.elf_form.specs.declared.object.Reloc.{Reloc}
use Rattle.elf_form.specs.ObjectParts.{ObjectParts}
use Rattle.elf_form.specs.ObjectLayout.{is_of}
use Rattle.elf_form.specs.ImageParts.{ImageParts}
use Rattle.sites.specs.declared.site.Site.{Site}
use Rattle.ia32_types.specs.declared.site.SiteKind.{SiteKind}
use Rattle.ia32_types.specs.Site.{sensitive_kind}
use Rattle.sites.specs.Spelling.{spelling}
use Rattle.sites.specs.Form.{AreInGaps}
use Rattle.sites.specs.Limits.{in_text}
use Rattle.sites.proofs.TextSites.{in_form, forms, length-spelling}
use Rattle.sites.specs.Formats.{list_of, listed}
use Rattle.sites.proofs.Formats.{spelled_read}
use Rattle.elf_link.specs.declared.target.Target.{Target}
use Rattle.elf_link.specs.declared.fault.LinkCause.{LinkCause}
use Rattle.elf_link.specs.declared.fault.LinkCause.TheVariants.{NotText, TextTooLarge, InitTooLarge}
use Rattle.elf_link.specs.Layout.{round_up, init_size, bss_size, text_room, init_room, text_at, text_end, extent, init_end, memory_end, base, numbered, bases, or_zero}
use Rattle.elf_link.specs.Symbols.{is_text, globals, address}
use Rattle.elf_link.specs.Relocations.{reloc_cause, field_at, address_by, sum_of, target_by, relocated}
use Rattle.elf_link.specs.Sites.{linked_sites}
use Rattle.elf_form.specs.Tables.{first_some}
use Rattle.elf_form.proofs.FormLaws.{then_none, else_none}
use Rattle.sites.specs.Reading.{unless}
use Rattle.elf_link.specs.Refusals.{Refused, object_cause, refused, object_refusal, relocs_refusal, start, start_refusal, refusal}
use Rattle.elf_link.specs.Linked.{linked_text, linked_init, entry_at, image, linked_image}
use Rattle.image_check.specs.Sweep.{Swept}
use Rattle.image_check.specs.Pieces.{target_of}
use Rattle.built_images.specs.Joined.{jump_to_itself}
use Rattle.afterburner.specs.Instructions.{nops_behind, site_at}
use Rattle.built_images.specs.Chunks.{Coded, insn_in, Chunk, Alone, Pair, AreChunks, padding, chunk_text, chunks_text, chunk_sites, chunks_swept, Begins}
use Rattle.built_images.specs.Filled.{chunks_relocs}
use Rattle.built_images.specs.Padded.{IsEdge, IsPadded, ArePadded, AreAlone, AnyChunks}
use Rattle.built_images.specs.Built.{IsBuilt, LeadsRight}
use Rattle.built_images.proofs.ChunkSites.{coded_spelled}
use Rattle.built_images.proofs.Entrances.{text_length, sites_append, swept_append}
use Rattle.built_images.proofs.BuiltImages.{chunks_join, chunk_has_bytes, text_is}
use Rattle.built_images.proofs.Joining.{jump_coded, jump_is, jump_means, jump_bytes, jump_sites, OnBranch, alone_branch, edge_begins, first_edge}
use Rattle.built_images.proofs.Labels.{IsLabelled, base_got, global_meant, labelled, text_address, reloc_aimed, leads}
use Rattle.built_images.proofs.Branches.{AllRight, RelocsRight, all_right}
use Rattle.built_images.proofs.LinkedTexts.{ObjectsRight, FromObject, from_object}

-- ---- what is not refused

first_none : {X Y : Type 0} (f : X → Option Y) (xs : List X) (k : ℕ) (x : X) → first_some f xs ≡ None → slice_get xs k ≡ Some x → f x ≡ None
unfolding first_some
first_none f [] k x e got = absurd cc
first_none f (y ∷ xs) zero x e got = let same : y ≡ x = cc in ap f (sym same) ∙ (else_none (f y) (first_some f xs) e).0
first_none f (y ∷ xs) (suc k) x e got = first_none f xs k x (else_none (f y) (first_some f xs) e).1 got

contains_got : {X : Type 0} (xs : List X) (k : ℕ) (x : X) → k < length xs → Rattle.std.specs.Prelude.slice_index_or xs k x ≡ x
    → slice_get xs k ≡ Some x
contains_got [] k x lt e = absurd (omega arith)
contains_got (y ∷ xs) zero x lt e = ap Some e
contains_got (y ∷ xs) (suc k) x lt e = contains_got xs k x (omega arith) e

first_contained : {X Y : Type 0} (f : X → Option Y) (xs : List X) (x : X) → first_some f xs ≡ None → Contains xs x → f x ≡ None
first_contained f xs x e c = first_none f xs c.0 x e (contains_got xs c.0 x c.1 c.2)

number_got : (n : ℕ) (os : List ObjectParts) (k : ℕ) (o : ObjectParts) → slice_get os k ≡ Some o
    → slice_get (enumerate_from n os) k ≡ Some (n + k, o)
number_got n [] k o e = absurd cc
number_got n (p ∷ os) zero o e = let z : n ≡ n + 0 =
    omega arith in let same : p ≡ o = cc in ap (λ (m : ℕ). Some (m, p)) z ∙ ap (λ (q : ObjectParts). Some (n + 0, q)) same
number_got n (p ∷ os) (suc k) o e = let z : (n + 1) + k ≡ n + suc k =
    omega arith in number_got (n + 1) os k o e ∙ ap (λ (m : ℕ). Some (m, o)) z

numbered_got : (os : List ObjectParts) (k : ℕ) (o : ObjectParts) → slice_get os k ≡ Some o → slice_get (numbered os) k ≡ Some (k, o)
numbered_got os k o e = let z : 0 + k ≡ k = omega arith in number_got 0 os k o e ∙ ap (λ (m : ℕ). Some (m, o)) z

not_refused : (i : ℕ) (c : Option LinkCause) → refused i c ≡ None → c ≡ None
not_refused i None e = refl
not_refused i (Some c) e = absurd cc

pub record IsLinkedWell (os : List ObjectParts) : Type 0 where
  pub objects : first_some (object_refusal os) (numbered os) ≡ None
  pub relocs : first_some (relocs_refusal os) (numbered os) ≡ None
  pub starts : start_refusal (start os) ≡ None

well : (os : List ObjectParts) → refusal os ≡ None → IsLinkedWell os
unfolding refusal
well os e =
    let a = else_none (first_some (object_refusal os) (numbered os))
    (option_or (first_some (relocs_refusal os) (numbered os)) (start_refusal (start os))) e in
    let b = else_none (first_some (relocs_refusal os) (numbered os)) (start_refusal (start os)) a.1 in
    record { objects = a.0; relocs = b.0; starts = b.1 }

abbrev ok_parts : ImageParts → Result ImageParts Refused
ok_parts p = Ok p

linked_by : (r : Option Refused) (p parts : ImageParts) → unless r p ≡ ok_parts parts → (r ≡ None) × (p ≡ parts)
linked_by None p parts e = (refl, cc)
linked_by (Some r) p parts e = absurd cc

pub is_linked : (os : List ObjectParts) (parts : ImageParts) → linked_image os ≡ Ok parts → IsLinkedWell os × (image os ≡ parts)
unfolding linked_image
is_linked os parts e = let h = linked_by (refusal os) (image os) parts e in (well os h.0, h.1)

not_reloc : (os : List ObjectParts) (i : ℕ) (o : ObjectParts) (r : Reloc) → IsLinkedWell os → slice_get os i ≡ Some o → Contains o.relocs r
    → reloc_cause (globals os) (i, o) r ≡ None
not_reloc os i o r w there c =
    first_contained (reloc_cause (globals os) (i, o)) o.relocs r
    (not_refused i (first_some (reloc_cause (globals os) (i, o)) o.relocs)
    (first_none (relocs_refusal os) (numbered os) i (i, o) w.relocs (numbered_got os i o there))) c

-- ---- the limits

pub record IsWithin (os : List ObjectParts) : Type 0 where
  pub text : text_end os + 2 ≤ TEXT_LIMIT
  pub memory : memory_end os ≤ 33554432

object_within : (os : List ObjectParts) (k : ℕ) (o : ObjectParts) → take (k + 1) os ≡ os → object_cause os (k, o) ≡ None → IsWithin os
unfolding object_cause
object_within os k o all e =
    let a = else_none (then_some (nat_lt TEXT_LIMIT (text_end (take (k + 1) os) + 2)) TextTooLarge) _ e in
    let b = else_none (then_some (nat_lt 33554432 (memory_end (take (k + 1) os))) InitTooLarge) _ a.1 in
    record {
      text = ltb-false TEXT_LIMIT (text_end os + 2)
          (then_none _ TextTooLarge
          (subst (λ (xs : List ObjectParts). then_some (nat_lt TEXT_LIMIT (text_end xs + 2)) TextTooLarge ≡ None) all a.0));
      memory = ltb-false 33554432 (memory_end os)
          (then_none _ InitTooLarge
          (subst (λ (xs : List ObjectParts). then_some (nat_lt 33554432 (memory_end xs)) InitTooLarge ≡ None) all b.0));
    }

last_got : (o : ObjectParts) (os : List ObjectParts) → (p : ObjectParts) × (slice_get (o ∷ os) (length os) ≡ Some p)
last_got o [] = (o, refl)
last_got o (q ∷ os) = last_got q os

pub all_within : (os : List ObjectParts) → IsLinkedWell os → IsWithin os
unfolding text_end extent
all_within [] w = record { text = omega arith; memory = omega arith }
all_within (o ∷ os) w =
    let last = last_got o os in
    let all : take (length os + 1) (o ∷ os) ≡ o ∷ os = take_all (length os + 1) (o ∷ os) (omega arith) in
    object_within (o ∷ os) (length os) last.0 all
    (not_refused (length os) (object_cause (o ∷ os) (length os, last.0))
    (first_none (object_refusal (o ∷ os)) (numbered (o ∷ os)) (length os) (length os, last.0) w.objects
    (numbered_got (o ∷ os) (length os) last.0 last.1)))

pub text_within : (os : List ObjectParts) (k : ℕ) (o : ObjectParts) → slice_get os k ≡ Some o → text_at os k + length o.text ≤ text_end os
unfolding text_end
text_within [] k o e = absurd cc
text_within (p ∷ []) zero o e = let same : p ≡ o = cc in let l = ap (λ (q : ObjectParts). length q.text) same in omega (arith, l)
text_within (p ∷ []) (suc k) o e = absurd cc
text_within (p ∷ q ∷ os) zero o e = let same : p ≡ o = cc in let l = ap (λ (x : ObjectParts). length x.text) same in omega (arith, l)
text_within (p ∷ q ∷ os) (suc k) o e =
    let sum = sum_by-cons text_room p (take k (q ∷ os)) in
    let more = text_within (q ∷ os) k o e in
    omega (arith, sum, more)

init_within : (os : List ObjectParts) → init_end os ≤ sum_by init_room os
unfolding extent
init_within [] = omega arith
init_within (o ∷ os) =
    let sum = sum_by-cons init_room o os in
    let more = init_within os in
    by_rest (sum_by init_size os == 0) (omega (arith, sum)) (omega (arith, sum, more)) where
      by_rest : (b : Bool) → init_size o ≤ sum_by init_room (o ∷ os) → round_up 4096 (init_size o)
          + extent init_size os ≤ sum_by init_room (o ∷ os) → cond b (init_size o) (round_up 4096 (init_size o) + extent init_size os)
          ≤ sum_by init_room (o ∷ os)
      by_rest true first second = first
      by_rest false first second = second

memory_by : (b : Bool) (init all more : ℕ) → init ≤ all → init ≤ cond b init (all + more)
memory_by true init all more le = omega arith
memory_by false init all more le = omega arith

room_within : (os : List ObjectParts) → memory_end os ≤ 33554432 → length (linked_init os) + (memory_end os - init_end os) ≤ 33554432
unfolding linked_init
room_within os le =
    let init = memory_by (extent bss_size os == 0) (init_end os) (sum_by init_room os) (extent bss_size os) (init_within os) in
    let l = length-take (init_end os) (Rattle.elf_link.specs.Linked.inits os (numbered os)) in
    taken (length (take (init_end os) (Rattle.elf_link.specs.Linked.inits os (numbered os)))) (init_end os)
    (length (Rattle.elf_link.specs.Linked.inits os (numbered os))) (memory_end os) l init le where
      taken : (n m k end : ℕ) → n ≡ min m k → m ≤ end → end ≤ 33554432 → n + (end - m) ≤ 33554432
      taken n m k end e le few = omega arith

-- ---- objects of the list

padded_at : (More : List Chunk → Type 0) (os : List ObjectParts) (k : ℕ) (o : ObjectParts) → ArePadded More os → slice_get os k ≡ Some o
    → (cs : List Chunk) × IsPadded o cs × More cs
padded_at More [] k o h e = absurd cc
padded_at More (p ∷ os) zero o h e = let same : p ≡ o =
    cc in subst (λ (q : ObjectParts). (cs : List Chunk) × IsPadded q cs × More cs) same h.0
padded_at More (p ∷ os) (suc k) o h e = padded_at More os k o h.1 e

edge_within : (cs : List Chunk) (at : ℕ) → IsEdge cs at → at ≤ length (chunks_text cs)
edge_within cs at e =
    let l = ap (λ (xs : List Chunk). length (chunks_text xs)) e.parts ∙ text_length e.before e.behind in
    let place = e.place in
    omega (arith, l, place)

label_within : (More : List Chunk → Type 0) (os : List ObjectParts) (n : ℕ) → ArePadded More os → IsLabelled os n → n ≤ text_end os
label_within More os n h l =
    let p = padded_at More os l.number l.object h l.there in
    let edge = edge_within p.0 l.symbol.value (p.1.labels l.symbol l.listed l.in_text) in
    let text = ap length p.1.text in
    let room = text_within os l.number l.object l.there in
    let place = l.place in
    omega (arith, edge, text, room, place)

-- ---- branches

field_is : (os : List ObjectParts) (i : ℕ) (o : ObjectParts) (r : Reloc) → slice_get os i ≡ Some o → r.in_text ≡ true
    → field_at (or_zero (slice_get (bases os) i)) r ≡ (0x10000000 + (text_at os i + r.at)) % 2 ^ 32
unfolding base
field_is os i o r there in_text =
    let e : 0x10000000 + text_at os i + r.at ≡ 0x10000000 + (text_at os i + r.at) = omega arith in
    ap (λ b. field_at b r) (base_got os i o there)
    ∙ ap (λ b. ((cond b (base os i).text (base os i).init) + r.at) % 2 ^ 32) in_text
    ∙ ap (λ n. n % 2 ^ 32) e

made_is : (os : List ObjectParts) (i : ℕ) (o : ObjectParts) (r : Reloc) (w : ℕ) → slice_get os i ≡ Some o → r.in_text ≡ true
    → r.relative ≡ true → relocated (bases os) (globals os) (i, o) r w
    ≡ (address_by (bases os) (target_by (globals os) i (slice_get o.symbols r.symbol)) + w
    + (2 ^ 32 - field_at (or_zero (slice_get (bases os) i)) r)) % 2 ^ 32
unfolding relocated
made_is os i o r w there in_text relative =
    ap (λ b. sum_of b (address_by (bases os) (target_by (globals os) i (slice_get o.symbols r.symbol))) w
    (field_at (or_zero (slice_get (bases os) i)) r)) relative

kept_contained : (p : Reloc → Bool) (rs : List Reloc) (r : Reloc) → Contains (filter p rs) r → Contains rs r
kept_contained p rs r c = All-contains (Contains rs) (filter p rs) r (All-filter p (Contains rs) rs (All-contains_itself rs)) c

one_right : (More : List Chunk → Type 0) (os : List ObjectParts) (i : ℕ) (o : ObjectParts) (cs : List Chunk) → ArePadded More os
    → IsLinkedWell os → slice_get os i ≡ Some o → IsPadded o cs
    → RelocsRight (IsLabelled os) (text_at os i) (relocated (bases os) (globals os) (i, o)) ([] ++ chunks_text cs) (chunks_relocs 0 cs)
one_right More os i o cs padded w there h = λ r c in_text relative room word.
    let within = all_within os w in
    let limit = within.text in
    let kept = subst (λ (rs : List Reloc). Contains rs r) (sym h.relocs) c in
    let here = kept_contained (is_of true) o.relocs r kept in
    let aim = reloc_aimed os i o r there in_text relative
    (All-contains (λ (x : Reloc). x.symbol < length o.symbols) o.relocs r h.named here) (not_reloc os i o r w there here) in
    let label = label_within More os aim.label padded aim.is in
    let text = ap length h.text in
    let end = text_within os i o there in
    let to = leads aim.label (text_at os i + r.at) (field_at (or_zero (slice_get (bases os) i)) r)
    (address_by (bases os) (target_by (globals os) i (slice_get o.symbols r.symbol))) (text_at os i + r.at) 4 (omega (arith, label, limit))
    (omega (arith, limit, end, text, room)) refl (field_is os i o r there in_text) aim.at in
    let e : (text_at os i + r.at + 4 + relocated (bases os) (globals os) (i, o) r (word32 (chunks_text cs) r.at)) % 2 ^ 32 ≡ aim.label =
    ap (λ n. (text_at os i + r.at + 4 + relocated (bases os) (globals os) (i, o) r n) % 2 ^ 32) word
    ∙ ap (λ n. (text_at os i + r.at + 4 + n) % 2 ^ 32) (made_is os i o r 4294967292 there in_text relative)
    ∙ to in
    subst (IsLabelled os) (sym e) aim.is

objects_right : (os : List ObjectParts) → ArePadded AreAlone os → IsLinkedWell os → ObjectsRight AreAlone (IsLabelled os) os
objects_right os padded w = λ i o cs there h alone. all_right (IsLabelled os) (text_at os i) (relocated (bases os) (globals os) (i, o)) []
    cs h.chunks alone (one_right AreAlone os i o cs padded w there h)

abbrev Anywhere : ℕ → Type 0
Anywhere n = Unit {0}

anywhere_right : (made : Reloc → ℕ → ℕ) (base at : ℕ) (cs : List Chunk) → AllRight Anywhere base made at cs
anywhere_right made base at [] = tt
anywhere_right made base at (Alone c ∷ cs) = (λ b l. tt, anywhere_right made base (at + length (chunk_text (Alone c))) cs)
anywhere_right made base at (Pair ∷ cs) = (tt, anywhere_right made base (at + 5) cs)

-- ---- annotations

site_count : (at len : ℕ) (k : Option SiteKind) → length (site_at at k len) ≤ 1
site_count at len None = omega arith
site_count at len (Some k) = omega arith

pub sites_few : (at : ℕ) (cs : List Chunk) → AreChunks cs → length (chunk_sites at cs) ≤ length (chunks_text cs)
unfolding chunk_sites
sites_few at [] h = omega arith
sites_few at (Alone c ∷ cs) h =
    let l = length-append (chunk_text (Alone c)) (chunks_text cs) in
    let some = chunk_has_bytes (Alone c) h.0 in
    let one = site_count at (length c.bytes) (sensitive_kind (insn_in c)) in
    let more = sites_few (at + length (chunk_text (Alone c))) cs h.1 in
    let m =
    length-append (site_at at (sensitive_kind (insn_in c)) (length c.bytes)) (chunk_sites (at + length (chunk_text (Alone c))) cs) in
    omega (arith, l, some, one, more, m)
sites_few at (Pair ∷ cs) h =
    let l = length-append (chunk_text Pair) (chunks_text cs) in
    let more = sites_few (at + 5) cs h.1 in
    omega (arith, l, more)

gaps_by : (at len from : ℕ) (k : Option SiteKind) (size : ℕ) (more : List Site) → from ≤ at → at + size ≤ 2 ^ 24 → 1 ≤ len → len ≤ 11
    → size ≡ len + nops_behind k len → ((next : ℕ) → next ≤ at + size → AreInGaps next more)
    → AreInGaps from (site_at at k len ++ more)
gaps_by at len from None size more le room some few is h = h from (omega arith)
gaps_by at len from (Some k) size more le room some few is h =
    (le, omega (arith, is), some, few, refl, omega (arith, is), h (at + max 5 len) (omega (arith, is)))

coded_length : (c : Coded) → length (chunk_text (Alone c)) ≡ length c.bytes + nops_behind (sensitive_kind (insn_in c)) (length c.bytes)
coded_length c = length-append c.bytes (replicate (padding c) 0x90) ∙ ap (λ (n : ℕ). length c.bytes + n) (length-replicate (padding c) 0x90)

pub sites_gaps : (at from : ℕ) (cs : List Chunk) → AreChunks cs → from ≤ at → at + length (chunks_text cs) ≤ 2 ^ 24
    → AreInGaps from (chunk_sites at cs)
unfolding chunk_sites
sites_gaps at from [] h le lt = tt
sites_gaps at from (Alone c ∷ cs) h le lt =
    let l = length-append (chunk_text (Alone c)) (chunks_text cs) in
    let some = not_empty c.bytes (insn_in c) (coded_spelled c h.0) in
    let few = at_most_eleven c.bytes (insn_in c) (coded_spelled c h.0) in
    gaps_by at (length c.bytes) from (sensitive_kind (insn_in c)) (length (chunk_text (Alone c)))
    (chunk_sites (at + length (chunk_text (Alone c))) cs) le (omega (arith, lt, l)) some few (coded_length c)
    (λ next less. sites_gaps (at + length (chunk_text (Alone c))) next cs h.1 less (omega (arith, lt, l)))
sites_gaps at from (Pair ∷ cs) h le lt =
    let l = length-append (chunk_text Pair) (chunks_text cs) in (
      le,
      omega (arith, lt, l),
      omega arith,
      omega arith,
      refl,
      omega (arith, lt, l),
      sites_gaps (at + 5) (at + 5) cs h.1 (omega arith) (omega (arith, lt, l)),
    )

-- the sites of chunks in a text of so many bytes, spelled and read
pub sites_listed : (text : ℕ) (cs : List Chunk) → AreChunks cs → length (chunks_text cs) ≤ 2 ^ 24
    → listed (spelling (in_text text (chunk_sites 0 cs))) ≡ Ok (chunk_sites 0 cs)
sites_listed text cs h small =
    let gaps = sites_gaps 0 0 cs h (omega arith) (omega (arith, small)) in
    let few = sites_few 0 cs h in
    ap list_of (spelled_read (in_text text (chunk_sites 0 cs))
    (in_form text (chunk_sites 0 cs) (forms 0 0 (chunk_sites 0 cs) (omega arith) gaps) (λ long. gaps)) (omega (arith, few, small)))

-- ---- the image

abbrev some_refused : Refused → Option Refused
some_refused r = Some r

module _ (More : List Chunk → Type 0) (Good : ℕ → Type 0) (os : List ObjectParts) (padded : ArePadded More os) (w : IsLinkedWell os)
    (right : ObjectsRight More Good os) where
  all_objects : FromObject Good os 0 os
  all_objects = from_object More Good os 0 os (λ k o e. let z : 0 + k ≡ k = omega arith in ap (slice_get os) z ∙ e) padded right

  pub image_chunks : List Chunk
  image_chunks = all_objects.chunks ++ (Alone jump_coded ∷ [])

  chunks_are : AreChunks image_chunks
  unfolding image_chunks
  chunks_are = chunks_join all_objects.chunks (Alone jump_coded ∷ []) all_objects.are (jump_is, tt)

  text_is_so : linked_text os ≡ chunks_text image_chunks
  unfolding linked_text image_chunks
  text_is_so = ap (λ xs. xs ++ (0xEB ∷ 0xFE ∷ [])) all_objects.text ∙ sym (text_is all_objects.chunks jump_coded jump_is jump_bytes)

  text_length_is : length (chunks_text image_chunks) ≡ text_end os + 2
  unfolding image_chunks
  text_length_is =
      let l = ap length (text_is all_objects.chunks jump_coded jump_is jump_bytes)
      ∙ length-append (chunks_text all_objects.chunks) (0xEB ∷ 0xFE ∷ []) in
      let size = all_objects.size in
      omega (arith, l, size)

  sites_are_so : linked_sites os ≡ chunk_sites 0 image_chunks
  unfolding linked_sites image_chunks
  sites_are_so =
      sym (sites_append 0 all_objects.chunks (Alone jump_coded ∷ [])
      ∙ ap (λ xs. chunk_sites 0 all_objects.chunks ++ xs) (jump_sites (0 + length (chunks_text all_objects.chunks)))
      ∙ append-nil (chunk_sites 0 all_objects.chunks)
      ∙ all_objects.sites)

  annotated_so : listed (spelling (in_text (length (linked_text os)) (linked_sites os))) ≡ Ok (chunk_sites 0 image_chunks)
  annotated_so =
      let limit = (all_within os w).text in
      let len = text_length_is in
      ap (λ ss. listed (spelling (in_text (length (linked_text os)) ss))) sites_are_so
      ∙ sites_listed (length (linked_text os)) image_chunks chunks_are (omega (arith, limit, len))

  pub label_begins : (n : ℕ) → IsLabelled os n → Begins image_chunks n
  unfolding image_chunks
  label_begins n l = edge_begins all_objects.chunks (Alone jump_coded) n
      (subst (IsEdge all_objects.chunks) (sym l.place) (all_objects.edges l.number l.object l.there l.symbol l.listed l.in_text))

  entry_by : (o : Option Target) → start os ≡ o → start_refusal o ≡ None → (0x10000000 ≤ entry_at (bases os) o)
      × Begins image_chunks (entry_at (bases os) o - 0x10000000)
  unfolding image_chunks
  entry_by None is e = (omega arith, edge_begins all_objects.chunks (Alone jump_coded) 0 (first_edge all_objects.chunks))
  entry_by (Some t) is e =
      let limit = (all_within os w).text in
      let m = global_meant os (codes "_start") t is in
      let text = text_start (is_text t.place) e in
      let l = labelled os t m text in
      let few = label_within More os (text_at os t.object + m.symbol.value) padded l in
      let at : address (bases os) t ≡ 0x10000000 + (text_at os t.object + m.symbol.value) =
      text_address os t m text ∙ small (text_at os t.object) m.symbol.value (omega (arith, few, limit)) in
      let off : address (bases os) t - 0x10000000 ≡ text_at os t.object + m.symbol.value = omega (arith, at) in
      (omega (arith, at), subst (Begins image_chunks) (sym off) (label_begins (text_at os t.object + m.symbol.value) l)) where
        text_start : (b : Bool) → cond b None (some_refused (record { object = t.object; cause = NotText t.value })) ≡ None → b ≡ true
        text_start true e = refl
        text_start false e = absurd cc

        small : (a b : ℕ) → a + b < 2 ^ 31 → (0x10000000 + a + b) % 2 ^ 32 ≡ 0x10000000 + (a + b)
        small a b lt = omega arith

  ends_so : image_chunks ≡ all_objects.chunks ++ (Alone jump_coded ∷ [])
  unfolding image_chunks
  ends_so = refl

  pub sites_size : length (image os).sites ≤ 134217736
  unfolding image
  sites_size =
      let limit = (all_within os w).text in
      let len = text_length_is in
      let few = sites_few 0 image_chunks chunks_are in
      let count = ap (λ (ss : List Site). length ss) sites_are_so in
      let bytes = length-spelling (in_text (length (linked_text os)) (linked_sites os)) in
      omega (arith, limit, len, few, count, bytes)

  pub image_built : IsBuilt (image os) image_chunks
  unfolding image
  image_built =
      let within = all_within os w in
      let limit = within.text in
      let len = text_length_is in
      let text = ap length text_is_so in
      let entry = entry_by (start os) refl w.starts in
      record {
        chunks = chunks_are;
        text = text_is_so;
        body = all_objects.chunks;
        last = jump_coded;
        ends = ends_so;
        jump = jump_bytes;
        annotated = annotated_so;
        text_at = refl;
        init_at = refl;
        size = omega (arith, limit, len, text);
        room = room_within os within.memory;
        entry_in = entry.0;
        entry = entry.1;
      }

pub linked_sites_size : (os : List ObjectParts) (parts : ImageParts) → ArePadded AnyChunks os → linked_image os ≡ Ok parts
    → length parts.sites ≤ 134217736
linked_sites_size os parts padded e =
    let h = is_linked os parts e in
    let right = λ (i : ℕ) (o : ObjectParts) (cs : List Chunk) (there : slice_get os i ≡ Some o) (p : IsPadded o cs) (more : AnyChunks cs).
    anywhere_right (relocated (bases os) (globals os) (i, o)) (text_at os i) 0 cs in
    subst (λ (p : ImageParts). length p.sites ≤ 134217736) h.1 (sites_size AnyChunks Anywhere os padded h.0 right)

pub linked_built : (os : List ObjectParts) (parts : ImageParts) → ArePadded AnyChunks os → linked_image os ≡ Ok parts
    → (cs : List Chunk) × IsBuilt parts cs
linked_built os parts padded e =
    let h = is_linked os parts e in
    let right = λ (i : ℕ) (o : ObjectParts) (cs : List Chunk) (there : slice_get os i ≡ Some o) (p : IsPadded o cs) (more : AnyChunks cs).
    anywhere_right (relocated (bases os) (globals os) (i, o)) (text_at os i) 0 cs in (
      image_chunks AnyChunks Anywhere os padded h.0 right,
      subst (λ (p : ImageParts). IsBuilt p (image_chunks AnyChunks Anywhere os padded h.0 right)) h.1
          (image_built AnyChunks Anywhere os padded h.0 right),
    )

-- ---- its branches

pub whole_edge : (cs : List Chunk) → IsEdge cs (length (chunks_text cs))
whole_edge cs = record { before = cs; behind = []; parts = sym (append-nil cs); place = refl }

to_itself : (at : ℕ) → at < 2 ^ 31 → (at + 2 + 4294967294) % 2 ^ 32 ≡ at
to_itself at lt = omega arith

jump_leads : (at : ℕ) (insn : Rattle.ia32_types.specs.declared.insn.Insn.Insn) (len : ℕ) → insn ≡ jump_to_itself → len ≡ 2 → at < 2 ^ 31
    → target_of at len insn ≡ at
jump_leads at insn len e two lt = ap (λ (i : Rattle.ia32_types.specs.declared.insn.Insn.Insn). target_of at len i) e
    ∙ ap (λ n. target_of at n jump_to_itself) two ∙ to_itself at lt

module _ (os : List ObjectParts) (padded : ArePadded AreAlone os) (w : IsLinkedWell os)
    (right : ObjectsRight AreAlone (IsLabelled os) os) where
  abbrev cs : List Chunk
  cs = image_chunks AreAlone (IsLabelled os) os padded w right

  abbrev body : List Chunk
  body = (all_objects AreAlone (IsLabelled os) os padded w right).chunks

  jump_right : All (OnBranch (Begins cs)) (chunks_swept (0 + length (chunks_text body)) (Alone jump_coded ∷ []))
  unfolding chunks_swept image_chunks
  jump_right =
      let at = 0 + length (chunks_text body) in
      let limit = (all_within os w).text in
      let size = (all_objects AreAlone (IsLabelled os) os padded w right).size in
      let to =
      jump_leads at (insn_in jump_coded) (length jump_coded.bytes) jump_means (ap length jump_bytes) (omega (arith, limit, size)) in
      let z : length (chunks_text body) ≡ at = omega arith in
      All-append (OnBranch (Begins cs)) (Rattle.built_images.specs.Chunks.chunk_swept at (Alone jump_coded)) []
      (alone_branch (Begins cs) at jump_coded
      (λ b. subst (Begins cs) (z ∙ sym to) (edge_begins body (Alone jump_coded) (length (chunks_text body)) (whole_edge body))))
      (All-nil (OnBranch (Begins cs)))

  all_lead : All (OnBranch (Begins cs)) (chunks_swept 0 cs)
  unfolding image_chunks
  all_lead =
      subst (λ (xs : List Swept). All (OnBranch (Begins cs)) xs) (sym (swept_append 0 body (Alone jump_coded ∷ [])))
      (All-append (OnBranch (Begins cs)) (chunks_swept 0 body) (chunks_swept (0 + length (chunks_text body)) (Alone jump_coded ∷ []))
      (All-weaker (OnBranch (IsLabelled os)) (OnBranch (Begins cs))
      (λ s h b. label_begins AreAlone (IsLabelled os) os padded w right (target_of s.at s.len s.insn) (h b)) (chunks_swept 0 body)
      (all_objects AreAlone (IsLabelled os) os padded w right).branches)
      jump_right)

  pub leads_right : LeadsRight cs
  leads_right = λ s there b. All-contains (OnBranch (Begins cs)) (chunks_swept 0 cs) s all_lead there b

pub linked_leads : (os : List ObjectParts) (parts : ImageParts) → ArePadded AreAlone os → linked_image os ≡ Ok parts → (cs : List Chunk)
    × IsBuilt parts cs × LeadsRight cs
linked_leads os parts padded e =
    let h = is_linked os parts e in
    let right = objects_right os padded h.0 in (
      image_chunks AreAlone (IsLabelled os) os padded h.0 right,
      subst (λ (p : ImageParts). IsBuilt p (image_chunks AreAlone (IsLabelled os) os padded h.0 right)) h.1
          (image_built AreAlone (IsLabelled os) os padded h.0 right),
      leads_right os padded h.0 right,
    )
