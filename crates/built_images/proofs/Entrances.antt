-- Control may come in where a chunk begins.
use Rattle.std.proofs.Common.{◌≡◌, ℕ, ◌+◌, ◌<◌, ◌≤◌, List, [], ◌∷◌, ◌++◌, length, map, Option, Some, None, refl, sym, ap, subst, ◌∙◌, append_assoc, arith}
use Rattle.std.specs.Prelude.{max, replicate}
use Rattle.std.specs.List.{All, Contains}
use Rattle.std.proofs.lemmas.List.{length-append, length-replicate, map-append}
use Rattle.std.proofs.lemmas.List.Concat.{flat_map-append}
use Rattle.std.proofs.lemmas.List.Elements.{All-nil, All-cons, All-append, All-weaker, All-contains, Contains-append_right}
use Rattle.ia32_types.specs.declared.site.SiteKind.{SiteKind}
use Rattle.ia32_types.specs.Site.{sensitive_kind}
use Rattle.sites.specs.declared.site.Site.{Site}
use Rattle.image_check.specs.Sweep.{Swept}
use Rattle.image_check.specs.Accepts.{IsEntrance}
use Rattle.built_images.specs.Joined.{nops_at}
use Rattle.afterburner.specs.Instructions.{nops_behind, site_at}
use Rattle.built_images.specs.Chunks.{Coded, insn_in, Chunk, Alone, Pair, AreChunks, padding, chunk_text, chunks_text, chunk_site, chunk_sites, chunk_swept, chunks_swept, Begins}

pub text_append : (a b : List Chunk) → chunks_text (a ++ b) ≡ chunks_text a ++ chunks_text b
text_append a b = flat_map-append chunk_text a b

pub text_length : (a b : List Chunk) → length (chunks_text (a ++ b)) ≡ length (chunks_text a) + length (chunks_text b)
text_length a b = ap length (text_append a b) ∙ length-append (chunks_text a) (chunks_text b)

further : (from n m : ℕ) → (from + n) + m ≡ from + (n + m)
further from n m = omega arith

pub swept_append : (from : ℕ) (a b : List Chunk) → chunks_swept from (a ++ b) ≡ chunks_swept from a
    ++ chunks_swept (from + length (chunks_text a)) b
unfolding chunks_swept
swept_append from [] b = let e : from ≡ from + 0 = omega arith in ap (λ n. chunks_swept n b) e
swept_append from (c ∷ a) b =
    let at = from + length (chunk_text c) in
    let e : at + length (chunks_text a) ≡ from + length (chunk_text c ++ chunks_text a) = further from (length (chunk_text c))
    (length (chunks_text a)) ∙ ap (λ n. from + n) (sym (length-append (chunk_text c) (chunks_text a))) in
    ap (λ xs. chunk_swept from c ++ xs) (swept_append at a b)
    ∙ sym (append_assoc (chunk_swept from c) (chunks_swept at a) (chunks_swept (at + length (chunks_text a)) b))
    ∙ ap (λ n. (chunk_swept from c ++ chunks_swept at a) ++ chunks_swept n b) e

pub sites_append : (from : ℕ) (a b : List Chunk) → chunk_sites from (a ++ b) ≡ chunk_sites from a
    ++ chunk_sites (from + length (chunks_text a)) b
unfolding chunk_sites
sites_append from [] b = let e : from ≡ from + 0 = omega arith in ap (λ n. chunk_sites n b) e
sites_append from (c ∷ a) b =
    let at = from + length (chunk_text c) in
    let e : at + length (chunks_text a) ≡ from + length (chunk_text c ++ chunks_text a) = further from (length (chunk_text c))
    (length (chunks_text a)) ∙ ap (λ n. from + n) (sym (length-append (chunk_text c) (chunks_text a))) in
    ap (λ xs. chunk_site from c ++ xs) (sites_append at a b)
    ∙ sym (append_assoc (chunk_site from c) (chunk_sites at a) (chunk_sites (at + length (chunks_text a)) b))
    ∙ ap (λ n. (chunk_site from c ++ chunk_sites at a) ++ chunk_sites n b) e

-- ---- where sites lie

abbrev EndsBy : ℕ → Site → Type 0
EndsBy to s = s.at + s.total ≤ to

abbrev BeginsFrom : ℕ → Site → Type 0
BeginsFrom from s = from ≤ s.at

site_ends : (at len : ℕ) (o : Option SiteKind) (to : ℕ) → at + (len + nops_behind o len) ≤ to → All (EndsBy to) (site_at at o len)
site_ends at len None to le = All-nil (EndsBy to)
site_ends at len (Some k) to le =
    All-cons (EndsBy to) (record { at = at; kind = k; len = len; total = max 5 len }) [] (omega arith) (All-nil (EndsBy to))

site_begins : (at len : ℕ) (o : Option SiteKind) (from : ℕ) → from ≤ at → All (BeginsFrom from) (site_at at o len)
site_begins at len None from le = All-nil (BeginsFrom from)
site_begins at len (Some k) from le =
    All-cons (BeginsFrom from) (record { at = at; kind = k; len = len; total = max 5 len }) [] le (All-nil (BeginsFrom from))

pub alone_length : (c : Coded) → length (chunk_text (Alone c)) ≡ length c.bytes + padding c
alone_length c =
    length-append c.bytes (replicate (padding c) 0x90) ∙ ap (λ n. length c.bytes + n) (length-replicate {A = ℕ} (padding c) 0x90)

chunk_ends : (at to : ℕ) (c : Chunk) → at + length (chunk_text c) ≤ to → All (EndsBy to) (chunk_site at c)
chunk_ends at to (Alone c) le = let l =
    alone_length c in site_ends at (length c.bytes) (sensitive_kind (insn_in c)) to (omega (arith, le, l))
chunk_ends at to Pair le = All-cons (EndsBy to) _ [] le (All-nil (EndsBy to))

chunk_begins : (at from : ℕ) (c : Chunk) → from ≤ at → All (BeginsFrom from) (chunk_site at c)
chunk_begins at from (Alone c) le = site_begins at (length c.bytes) (sensitive_kind (insn_in c)) from le
chunk_begins at from Pair le = All-cons (BeginsFrom from) _ [] le (All-nil (BeginsFrom from))

pub sites_end : (at to : ℕ) (cs : List Chunk) → at + length (chunks_text cs) ≤ to → All (EndsBy to) (chunk_sites at cs)
unfolding chunk_sites
sites_end at to [] le = All-nil (EndsBy to)
sites_end at to (c ∷ cs) le =
    let l = length-append (chunk_text c) (chunks_text cs) in
    All-append (EndsBy to) (chunk_site at c) (chunk_sites (at + length (chunk_text c)) cs)
    (chunk_ends at to c (omega (arith, le, l))) (sites_end (at + length (chunk_text c)) to cs (omega (arith, le, l)))

pub sites_begin : (at from : ℕ) (cs : List Chunk) → from ≤ at → All (BeginsFrom from) (chunk_sites at cs)
unfolding chunk_sites
sites_begin at from [] le = All-nil (BeginsFrom from)
sites_begin at from (c ∷ cs) le =
    All-append (BeginsFrom from) (chunk_site at c) (chunk_sites (at + length (chunk_text c)) cs)
    (chunk_begins at from c le) (sites_begin (at + length (chunk_text c)) from cs (omega (arith, le)))

-- ---- entrances

abbrev Clear : ℕ → Site → Type 0
Clear at s = s.at < at → s.at + s.total ≤ at

abbrev swept_at : Swept → ℕ
swept_at s = s.at

first_start : (at : ℕ) (c : Chunk) (more : List Swept) → Contains (map swept_at (chunk_swept at c ++ more)) at
unfolding nops_at
first_start at (Alone c) more = (0, omega arith, refl)
first_start at Pair more = (0, omega arith, refl)

starts_there : (from : ℕ) (before : List Chunk) (c : Chunk) (behind : List Chunk)
    → Contains (map swept_at (chunks_swept from (before ++ (c ∷ behind)))) (from + length (chunks_text before))
unfolding chunks_swept
starts_there from before c behind =
    let at = from + length (chunks_text before) in
    let e = ap (map swept_at) (swept_append from before (c ∷ behind))
    ∙ map-append swept_at (chunks_swept from before) (chunks_swept at (c ∷ behind)) in
    subst (λ (xs : List ℕ). Contains xs at) (sym e)
    (Contains-append_right (map swept_at (chunks_swept from before)) (map swept_at (chunks_swept at (c ∷ behind))) at
    (first_start at c (chunks_swept (at + length (chunk_text c)) behind)))

all_clear : (from : ℕ) (before behind : List Chunk) → All (Clear (from + length (chunks_text before))) (chunk_sites from (before ++ behind))
all_clear from before behind =
    let at = from + length (chunks_text before) in
    subst (λ (xs : List Site). All (Clear at) xs) (sym (sites_append from before behind))
    (All-append (Clear at) (chunk_sites from before) (chunk_sites at behind)
    (All-weaker (EndsBy at) (Clear at) (λ s le lt. le) (chunk_sites from before) (sites_end from at before (omega arith)))
    (All-weaker (BeginsFrom at) (Clear at) (λ s le lt. absurd (omega (arith, le, lt))) (chunk_sites at behind)
    (sites_begin at at behind (omega arith))))

pub entrance_at : (from : ℕ) (before : List Chunk) (c : Chunk) (behind : List Chunk)
    → IsEntrance (chunks_swept from (before ++ (c ∷ behind))) (chunk_sites from (before ++ (c ∷ behind)))
    (from + length (chunks_text before))
entrance_at from before c behind = record {
  start = starts_there from before c behind;
  outside = λ s there. All-contains (Clear (from + length (chunks_text before))) (chunk_sites from (before ++ (c ∷ behind))) s
      (all_clear from before (c ∷ behind)) there;
}

pub entrance : (cs : List Chunk) → AreChunks cs → (at : ℕ) → Begins cs at → IsEntrance (chunks_swept 0 cs) (chunk_sites 0 cs) at
entrance cs h at b =
    let e : 0 + length (chunks_text b.before) ≡ at = omega (arith, b.place) in
    subst (λ (xs : List Chunk). IsEntrance (chunks_swept 0 xs) (chunk_sites 0 xs) at) (sym b.parts)
    (subst (λ (n : ℕ). IsEntrance (chunks_swept 0 (b.before ++ (b.chunk ∷ b.behind))) (chunk_sites 0 (b.before ++ (b.chunk ∷ b.behind))) n)
    e (entrance_at 0 b.before b.chunk b.behind))
