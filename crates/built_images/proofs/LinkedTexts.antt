-- The text of a linked image is made of chunks.
use Rattle.std.proofs.Common.{Err, Result, ◌≡◌, ℕ, zero, suc, ◌+◌, ◌<◌, ◌^◌, Bool, true, false, cond, List, [], ◌∷◌, ◌++◌, length, get_or, take, map, Option, Some, None, refl, sym, ap, subst, ◌∙◌, arith, Ok}
use Rattle.std.specs.Prelude.{fold, replicate, slice_get, filter}
use Rattle.std.specs.List.{flat_map, enumerate_from, All, Contains}
use Rattle.std.proofs.lemmas.List.{append-nil, length-append, length-replicate, take_at}
use Rattle.std.proofs.lemmas.List.Sums.{sum_by-cons, sum_by_more}
use Rattle.std.proofs.lemmas.List.Elements.{All-nil, All-append}
use Rattle.std.proofs.lemmas.Option.{slice_get_within}
use Rattle.elf_form.specs.declared.object.Place.TheVariants.{Text}
use Rattle.elf_form.specs.declared.object.Symbol.{Symbol}
use Rattle.elf_form.specs.declared.object.Reloc.{Reloc}
use Rattle.elf_form.specs.ObjectParts.{ObjectParts}
use Rattle.elf_form.specs.ObjectLayout.{is_of}
use Rattle.elf_form.specs.Output.{pad}
use Rattle.sites.specs.declared.site.Site.{Site}
use Rattle.sites.specs.SitesParts.{SitesParts}
use Rattle.sites.specs.Formats.{sites_in, list_of, listed}
use Rattle.elf_link.specs.Layout.{text_size, text_room, text_at, text_end, bases}
use Rattle.elf_link.specs.Symbols.{globals}
use Rattle.elf_link.specs.Relocations.{sum_of, relocated, filled, with_fields}
use Rattle.elf_link.specs.Sites.{or_none, sites_of, moved, moved_sites}
use Rattle.elf_link.specs.Linked.{padded, texts}
use Rattle.image_check.specs.Sweep.{Swept}
use Rattle.afterburner.specs.Instructions.{site_at}
use Rattle.built_images.specs.Chunks.{Chunk, Alone, Pair, AreChunks, chunk_text, chunks_text, chunk_site, chunk_sites, chunks_swept}
use Rattle.built_images.specs.Filled.{chunks_relocs, fill, MakesWords, AreFilled}
use Rattle.built_images.specs.Padded.{IsEdge, IsPadded, ArePadded}
use Rattle.built_images.proofs.Entrances.{text_append, text_length, sites_append, swept_append}
use Rattle.built_images.proofs.BuiltImages.{chunks_join}
use Rattle.built_images.proofs.Filling.{chunks_filled, same_length, same_sites, filled_length}
use Rattle.built_images.proofs.Joining.{nop_chunks, nop_chunks_are, nop_chunks_text, nop_chunks_sites, nop_chunks_branch, OnBranch, edge_left, edge_right}
use Rattle.built_images.proofs.Branches.{AllRight, filled_branches}

-- ---- one object

sum_small : (b : Bool) (s a p : ℕ) → sum_of b s a p < 2 ^ 32
sum_small true s a p = omega arith
sum_small false s a p = omega arith

pub made_words : (os : List ObjectParts) (p : ℕ × ObjectParts) → MakesWords (relocated (bases os) (globals os) p)
unfolding relocated
made_words os p r n = sum_small r.relative _ n _

abbrev made_for : List ObjectParts → ℕ × ObjectParts → Reloc → ℕ → ℕ
made_for os p = relocated (bases os) (globals os) p

fold_of_text : (os : List ObjectParts) (p : ℕ × ObjectParts) (bytes : List ℕ) (rs : List Reloc)
    → fold (filled (bases os) (globals os) p true) bytes rs ≡ fold (fill (made_for os p)) bytes (filter (is_of true) rs)
unfolding filled
fold_of_text os p bytes [] = refl
fold_of_text os p bytes (r ∷ rs) =
    by_kind r.in_text (fold_of_text os p (fill (made_for os p) bytes r) rs) (fold_of_text os p bytes rs) where
      by_kind : (b : Bool)
          → fold (filled (bases os) (globals os) p true) (fill (made_for os p) bytes r) rs ≡ fold (fill (made_for os p))
          (fill (made_for os p) bytes r) (filter (is_of true) rs)
          → fold (filled (bases os) (globals os) p true) bytes rs ≡ fold (fill (made_for os p)) bytes (filter (is_of true) rs)
          → fold (filled (bases os) (globals os) p true) (cond b (fill (made_for os p) bytes r) bytes) rs ≡ fold
          (fill (made_for os p)) bytes
          (cond b (r ∷ filter (is_of true) rs) (filter (is_of true) rs))
      by_kind true first second = first
      by_kind false first second = second

filled_text : (os : List ObjectParts) (i : ℕ) (o : ObjectParts) (cs : List Chunk) → IsPadded o cs
    → with_fields (bases os) (globals os) (i, o) true ≡ fold (fill (made_for os (i, o))) (chunks_text cs) (chunks_relocs 0 cs)
unfolding with_fields
filled_text os i o cs h =
    fold_of_text os (i, o) o.text o.relocs
    ∙ ap (fold (fill (made_for os (i, o))) o.text) h.relocs
    ∙ ap (λ bs. fold (fill (made_for os (i, o))) bs (chunks_relocs 0 cs)) h.text

-- ---- sites and edges further on

later_site : (n at len : ℕ) (k : Option Rattle.ia32_types.specs.declared.site.SiteKind.SiteKind)
    → site_at (n + at) k len ≡ map (moved n) (site_at at k len)
later_site n at len None = refl
later_site n at len (Some k) = let e : n + at ≡ at + n =
    omega arith in ap (λ (m : ℕ). record { at = m; kind = k; len = len; total = Rattle.std.specs.Prelude.max 5 len } ∷ []) e

later_chunk : (n at : ℕ) (c : Chunk) → chunk_site (n + at) c ≡ map (moved n) (chunk_site at c)
later_chunk n at (Alone c) = later_site n at (length c.bytes) _
later_chunk n at Pair = let e : n + at ≡ at + n = omega arith in
    ap (λ (m : ℕ). record { at = m; kind = Rattle.ia32_types.specs.declared.site.SiteKind.TheVariants.StiHlt; len = 2; total = 5 } ∷ []) e

pub later_sites : (n at : ℕ) (cs : List Chunk) → chunk_sites (n + at) cs ≡ map (moved n) (chunk_sites at cs)
unfolding chunk_sites
later_sites n at [] = refl
later_sites n at (c ∷ cs) =
    let e : (n + at) + length (chunk_text c) ≡ n + (at + length (chunk_text c)) = omega arith in
    ap (λ xs. xs ++ chunk_sites ((n + at) + length (chunk_text c)) cs) (later_chunk n at c)
    ∙ ap (λ m. map (moved n) (chunk_site at c) ++ chunk_sites m cs) e
    ∙ ap (λ xs. map (moved n) (chunk_site at c) ++ xs) (later_sites n (at + length (chunk_text c)) cs)
    ∙ sym (Rattle.std.proofs.lemmas.List.map-append (moved n) (chunk_site at c) (chunk_sites (at + length (chunk_text c)) cs))

-- an edge of a text is one of it with its fields filled
pub filled_edge : (made : Reloc → ℕ → ℕ) (at : ℕ) (cs ds : List Chunk) (v : ℕ) → AreFilled made at cs ds → IsEdge cs v → IsEdge ds v
filled_edge made at cs ds v f e =
    let p = pre made at e.before e.behind ds (subst (λ (xs : List Chunk). AreFilled made at xs ds) e.parts f) in
    record { before = p.0; behind = p.1; parts = p.2; place = e.place ∙ sym p.3 } where
      pre : (made : Reloc → ℕ → ℕ) (at : ℕ) (before behind ds : List Chunk) → AreFilled made at (before ++ behind) ds → (b : List Chunk)
          × (r : List Chunk) × (ds ≡ b ++ r) × (length (chunks_text b) ≡ length (chunks_text before))
      pre made at [] behind ds f = ([], ds, refl, refl)
      pre made at (c ∷ before) behind [] f = absurd f
      pre made at (c ∷ before) behind (d ∷ ds) f =
          let p = pre made (at + length (chunk_text c)) before behind ds f.1 in
          let len = filled_length made at c d f.0 in
          let l = length-append (chunk_text d) (chunks_text p.0) in
          let m = length-append (chunk_text c) (chunks_text before) in
          let k = p.3 in
          (d ∷ p.0, p.1, ap (λ (xs : List Chunk). d ∷ xs) p.2, omega (arith, len, l, m, k))

-- ---- all objects

more_than : (xs ys : List ℕ) (n : ℕ) → take (length xs + n) (xs ++ ys) ≡ xs ++ take n ys
more_than [] ys n = let e : 0 + n ≡ n = omega arith in ap (λ m. take m ys) e
more_than (x ∷ xs) ys n = let e : suc (length xs) + n ≡ suc (length xs + n) =
    omega arith in ap (λ m. take m (x ∷ (xs ++ ys))) e ∙ ap (λ zs. x ∷ zs) (more_than xs ys n)

-- the objects from a number on are those of the list
abbrev pub AreFrom : List ObjectParts → ℕ → List ObjectParts → Type 0
AreFrom os i rest = (k : ℕ) (o : ObjectParts) → slice_get rest k ≡ Some o → slice_get os (i + k) ≡ Some o

pub from_next : (os : List ObjectParts) (i : ℕ) (o : ObjectParts) (rest : List ObjectParts) → AreFrom os i (o ∷ rest)
    → AreFrom os (i + 1) rest
from_next os i o rest h = λ k p e. let s : (i + 1) + k ≡ i + suc k = omega arith in ap (slice_get os) s ∙ h (suc k) p e

pub from_first : (os : List ObjectParts) (i : ℕ) (o : ObjectParts) (rest : List ObjectParts) → AreFrom os i (o ∷ rest)
    → slice_get os i ≡ Some o
from_first os i o rest h = let z : i ≡ i + 0 = omega arith in ap (slice_get os) z ∙ h 0 o refl

next_at : (os : List ObjectParts) (i : ℕ) (o : ObjectParts) → slice_get os i ≡ Some o → text_at os (i + 1) ≡ text_at os i + text_room o
next_at os i o e =
    sum_by_more text_room os i o (slice_get_within os i o e)
    ∙ ap (λ p. text_at os i + text_room p) (got os i o e) where
      got : (xs : List ObjectParts) (k : ℕ) (x : ObjectParts) → slice_get xs k ≡ Some x → get_or xs k x ≡ x
      got [] k x e = absurd cc
      got (y ∷ xs) zero x e = cc
      got (y ∷ xs) (suc k) x e = got xs k x e

-- what is asked of the branches of each object
abbrev pub ObjectsRight : (List Chunk → Type 0) → (ℕ → Type 0) → List ObjectParts → Type 0
ObjectsRight More Good os = (i : ℕ) (o : ObjectParts) (cs : List Chunk) → slice_get os i ≡ Some o → IsPadded o cs → More cs
    → AllRight Good (text_at os i) (made_for os (i, o)) 0 cs

pub record OneObject (Good : ℕ → Type 0) (os : List ObjectParts) (i : ℕ) (o : ObjectParts) : Type 0 where
  pub chunks : List Chunk
  pub are : AreChunks chunks
  pub text : with_fields (bases os) (globals os) (i, o) true ≡ chunks_text chunks
  pub size : length (chunks_text chunks) ≡ text_size o
  pub sites : chunk_sites (text_at os i) chunks ≡ moved_sites os (i, o)
  pub edges : (s : Symbol) → Contains o.symbols s → s.place ≡ Text → IsEdge chunks s.value
  pub branches : All (OnBranch Good) (chunks_swept (text_at os i) chunks)

object_sites : (o : ObjectParts) (ss : List Site) → listed o.sites ≡ Ok ss → sites_of o ≡ ss
unfolding sites_of
object_sites o ss e = by (sites_in o.sites) e
  where
    by : (r : Result SitesParts ℕ) → list_of r ≡ Ok ss → or_none r ≡ ss
    by (Ok s) h = cc
    by (Err at) h = cc

pub one_object : (More : List Chunk → Type 0) (Good : ℕ → Type 0) (os : List ObjectParts) (i : ℕ) (o : ObjectParts) (cs : List Chunk)
    → slice_get os i ≡ Some o → IsPadded o cs → More cs → ObjectsRight More Good os → OneObject Good os i o
one_object More Good os i o cs there h more right =
    let made = made_for os (i, o) in
    let f = chunks_filled made [] cs (made_words os (i, o)) h.chunks h.fields in
    let z : text_at os i + 0 ≡ text_at os i = omega arith in
    record {
      chunks = f.chunks;
      are = f.are;
      text = filled_text os i o cs h ∙ f.text;
      size = same_length made 0 cs f.chunks f.filled ∙ ap length (sym h.text);
      sites =
          same_sites made 0 (text_at os i) cs f.chunks f.filled
          ∙ ap (λ n. chunk_sites n cs) (sym z)
          ∙ later_sites (text_at os i) 0 cs
          ∙ ap (map (moved (text_at os i))) (sym (object_sites o (chunk_sites 0 cs) h.annotated));
      edges = λ s c e. filled_edge made 0 cs f.chunks s.value f.filled (h.labels s c e);
      branches = subst (λ (n : ℕ). All (OnBranch Good) (chunks_swept n f.chunks)) z
          (filled_branches Good (text_at os i) made 0 cs f.chunks (made_words os (i, o)) f.are f.filled h.branches
          (right i o cs there h more));
    }

pub record FromObject (Good : ℕ → Type 0) (os : List ObjectParts) (i : ℕ) (rest : List ObjectParts) : Type 0 where
  pub chunks : List Chunk
  pub are : AreChunks chunks
  pub text : take (text_end rest) (texts os (enumerate_from i rest)) ≡ chunks_text chunks
  pub size : length (chunks_text chunks) ≡ text_end rest
  pub sites : chunk_sites (text_at os i) chunks ≡ flat_map (moved_sites os) (enumerate_from i rest)
  pub edges : (k : ℕ) (o : ObjectParts) → slice_get rest k ≡ Some o → (s : Symbol) → Contains o.symbols s → s.place ≡ Text
      → IsEdge chunks (text_at rest k + s.value)
  pub branches : All (OnBranch Good) (chunks_swept (text_at os i) chunks)

abbrev gap : ObjectParts → ℕ
gap o = pad 16 (length o.text)

-- an object with the NOPs after it
first_part : List Chunk → ℕ → List Chunk
first_part cs n = cs ++ nop_chunks n

first_text : (cs : List Chunk) (n : ℕ) → chunks_text (first_part cs n) ≡ chunks_text cs ++ replicate n 0x90
unfolding first_part
first_text cs n = text_append cs (nop_chunks n) ∙ ap (λ xs. chunks_text cs ++ xs) (nop_chunks_text n)

first_sites : (at : ℕ) (cs : List Chunk) (n : ℕ) → chunk_sites at (first_part cs n) ≡ chunk_sites at cs
unfolding first_part
first_sites at cs n = sites_append at cs (nop_chunks n)
    ∙ ap (λ xs. chunk_sites at cs ++ xs) (nop_chunks_sites (at + length (chunks_text cs)) n) ∙ append-nil (chunk_sites at cs)

first_branches : (Good : ℕ → Type 0) (at : ℕ) (cs : List Chunk) (n : ℕ) → All (OnBranch Good) (chunks_swept at cs)
    → All (OnBranch Good) (chunks_swept at (first_part cs n))
unfolding first_part
first_branches Good at cs n h =
    subst (λ (xs : List Swept). All (OnBranch Good) xs) (sym (swept_append at cs (nop_chunks n)))
    (All-append (OnBranch Good) (chunks_swept at cs) (chunks_swept (at + length (chunks_text cs)) (nop_chunks n)) h
    (nop_chunks_branch Good (at + length (chunks_text cs)) n))

first_are : (cs : List Chunk) (n : ℕ) → AreChunks cs → AreChunks (first_part cs n)
unfolding first_part
first_are cs n h = chunks_join cs (nop_chunks n) h (nop_chunks_are n)

first_edge : (cs : List Chunk) (n at : ℕ) → IsEdge cs at → IsEdge (first_part cs n) at
unfolding first_part
first_edge cs n at e = edge_left cs (nop_chunks n) at e

two_parts : (Good : ℕ → Type 0) (os : List ObjectParts) (i : ℕ) (o q : ObjectParts) (rest : List ObjectParts) → slice_get os i ≡ Some o
    → OneObject Good os i o → FromObject Good os (i + 1) (q ∷ rest) → FromObject Good os i (o ∷ q ∷ rest)
unfolding text_end
two_parts Good os i o q rest there one more =
    let p = with_fields (bases os) (globals os) (i, o) true in
    let n = pad 16 (length p) in
    let first = first_part one.chunks n in
    let len : length p ≡ text_size o = ap length one.text ∙ one.size in
    let text : chunks_text first ≡ padded 16 0x90 p = first_text one.chunks n ∙ ap (λ xs. xs ++ replicate n 0x90) (sym one.text) in
    let nops = length-replicate {A = ℕ} n 0x90 in
    let whole = length-append p (replicate n 0x90) in
    let pads : n ≡ pad 16 (text_size o) = ap (pad 16) len in
    let room : length (chunks_text first) ≡ text_room o = ap length text ∙ omega (arith, whole, nops, len, pads) in
    let padded_room : length (padded 16 0x90 p) ≡ text_room o = ap length (sym text) ∙ room in
    let later = texts os (enumerate_from (i + 1) (q ∷ rest)) in
    let at : text_at os i + length (chunks_text first) ≡ text_at os (i + 1) =
    ap (λ m. text_at os i + m) room ∙ sym (next_at os i o there) in
    record {
      chunks = first ++ more.chunks;
      are = chunks_join first more.chunks (first_are one.chunks n one.are) more.are;
      text =
          ap (λ m. take (m + text_end (q ∷ rest)) (padded 16 0x90 p ++ later)) (sym padded_room)
          ∙ more_than (padded 16 0x90 p) later (text_end (q ∷ rest))
          ∙ ap (λ xs. padded 16 0x90 p ++ xs) more.text
          ∙ ap (λ xs. xs ++ chunks_text more.chunks) (sym text)
          ∙ sym (text_append first more.chunks);
      size = text_length first more.chunks ∙ ap (λ m. m + length (chunks_text more.chunks)) room ∙ ap (λ m. text_room o + m) more.size;
      sites =
          sites_append (text_at os i) first more.chunks
          ∙ ap (λ m. chunk_sites (text_at os i) first ++ chunk_sites m more.chunks) at
          ∙ ap (λ xs. xs ++ chunk_sites (text_at os (i + 1)) more.chunks) (first_sites (text_at os i) one.chunks n ∙ one.sites)
          ∙ ap (λ xs. moved_sites os (i, o) ++ xs) more.sites;
      edges = in_both o first (q ∷ rest) more.chunks room (λ s c t. first_edge one.chunks n s.value (one.edges s c t)) more.edges;
      branches =
          subst (λ (xs : List Swept). All (OnBranch Good) xs) (sym (swept_append (text_at os i) first more.chunks))
          (All-append (OnBranch Good) (chunks_swept (text_at os i) first)
          (chunks_swept (text_at os i + length (chunks_text first)) more.chunks)
          (first_branches Good (text_at os i) one.chunks n one.branches)
          (subst (λ (m : ℕ). All (OnBranch Good) (chunks_swept m more.chunks)) (sym at) more.branches));
    } where
      in_both : (o : ObjectParts) (first : List Chunk) (rest : List ObjectParts) (behind : List Chunk)
          → length (chunks_text first) ≡ text_room o → ((s : Symbol) → Contains o.symbols s → s.place ≡ Text → IsEdge first s.value)
          → ((k : ℕ) (p : ObjectParts) → slice_get rest k ≡ Some p → (s : Symbol) → Contains p.symbols s → s.place ≡ Text → IsEdge behind
          (text_at rest k + s.value)) → (k : ℕ) (p : ObjectParts) → slice_get (o ∷ rest) k ≡ Some p → (s : Symbol) → Contains p.symbols s
          → s.place ≡ Text → IsEdge (first ++ behind) (text_at (o ∷ rest) k + s.value)
      in_both o first rest behind len here there zero p e s c t =
          let same : o ≡ p = cc in
          let z : s.value ≡ 0 + s.value = omega arith in
          subst (IsEdge (first ++ behind)) z
          (edge_left first behind s.value (here s (subst (λ (x : ObjectParts). Contains x.symbols s) (sym same) c) t))
      in_both o first rest behind len here there (suc k) p e s c t =
          let sum = sum_by-cons text_room o (take k rest) in
          let z : length (chunks_text first) + (text_at rest k + s.value) ≡ text_at (o ∷ rest) (suc k) + s.value =
          omega (arith, len, sum) in
          subst (IsEdge (first ++ behind)) z (edge_right first behind (text_at rest k + s.value) (there k p e s c t))

pub from_object : (More : List Chunk → Type 0) (Good : ℕ → Type 0) (os : List ObjectParts) (i : ℕ) (rest : List ObjectParts)
    → AreFrom os i rest → ArePadded More rest → ObjectsRight More Good os → FromObject Good os i rest
unfolding text_end chunk_sites chunks_swept
from_object More Good os i [] from h right = record {
  chunks = [];
  are = tt;
  text = refl;
  size = refl;
  sites = refl;
  edges = λ k o e. absurd cc;
  branches = All-nil (OnBranch Good);
}
from_object More Good os i (o ∷ []) from h right =
    let one = one_object More Good os i o h.0.0 (from_first os i o [] from) h.0.1 h.0.2 right in
    let p = with_fields (bases os) (globals os) (i, o) true in
    let len : length p ≡ text_size o = ap length one.text ∙ one.size in
    record {
      chunks = one.chunks;
      are = one.are;
      text = ap (take (text_size o)) (append-nil (padded 16 0x90 p))
          ∙ take_at p (replicate (pad 16 (length p)) 0x90) (text_size o) len ∙ one.text;
      size = one.size;
      sites = one.sites ∙ sym (append-nil (moved_sites os (i, o)));
      edges = only o one.chunks one.edges;
      branches = one.branches;
    } where
      only : (o : ObjectParts) (chunks : List Chunk) → ((s : Symbol) → Contains o.symbols s → s.place ≡ Text → IsEdge chunks s.value)
          → (k : ℕ) (p : ObjectParts) → slice_get (o ∷ []) k ≡ Some p → (s : Symbol) → Contains p.symbols s → s.place ≡ Text
          → IsEdge chunks (text_at (o ∷ []) k + s.value)
      only o chunks edges zero p e s c t =
          let same : o ≡ p = cc in
          let z : s.value ≡ 0 + s.value = omega arith in
          subst (IsEdge chunks) z (edges s (subst (λ (q : ObjectParts). Contains q.symbols s) (sym same) c) t)
      only o chunks edges (suc k) p e s c t = absurd cc
from_object More Good os i (o ∷ q ∷ rest) from h right =
    let one = one_object More Good os i o h.0.0 (from_first os i o (q ∷ rest) from) h.0.1 h.0.2 right in
    let more = from_object More Good os (i + 1) (q ∷ rest) (from_next os i o (q ∷ rest) from) h.1 right in
    two_parts Good os i o q rest (from_first os i o (q ∷ rest) from) one more
