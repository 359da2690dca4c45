-- The sites of a text of chunks.
use Rattle.std.proofs.Common.{◌≡◌, ℕ, zero, suc, ◌+◌, ◌-◌, ◌≤◌, Bool, true, false, cond, ◌&&◌, List, [], ◌∷◌, ◌++◌, length, map, Option, Some, None, refl, ap, subst, ◌∙◌, arith, inl, inr}
use Rattle.std.specs.Prelude.{max, replicate}
use Rattle.std.proofs.lemmas.List.{length-append, length-replicate, map-append}
use Rattle.std.proofs.lemmas.Bool.{cases_Bool}
use Rattle.ia32_types.specs.Branches.{is_direct_branch}
use Rattle.ia32_types.specs.declared.insn.Insn.{Insn}
use Rattle.ia32_types.specs.declared.site.SiteKind.{SiteKind}
use Rattle.ia32_types.specs.declared.site.SiteKind.TheVariants as site
use Rattle.ia32_types.specs.Site.{kind_of, sensitive_kind}
use Rattle.ia32_rows.specs.Spells.{Spells}
use Rattle.sites.specs.declared.site.Site.{Site}
use Rattle.image_check.specs.declared.piece.Role.{Role}
use Rattle.image_check.specs.declared.piece.Role.TheVariants as role
use Rattle.image_check.specs.declared.piece.Piece.{Piece}
use Rattle.image_check.specs.declared.site.Here.{Here}
use Rattle.image_check.specs.declared.site.Here.TheVariants as here
use Rattle.image_check.specs.SweptTexts.{SweepsTo, Sweep}
use Rattle.image_check.specs.Pieces.{is_nop, target_of, site_role, role_of, piece_of}
use Rattle.image_check.specs.TextSites.{has_nops, has_hlt, is_sti, by_role, single, pair, begun_by, Found, with_site, found_by, found_behind}
use Rattle.image_check.specs.Accepts.{unless_lacking, sites_of}
use Rattle.image_check.proofs.SiteSteps.{look_at}
use Rattle.image_check.proofs.Laid.{branch_kind}
use Rattle.built_images.specs.Joined.{sti, hlt, nops_at}
use Rattle.afterburner.specs.Instructions.{nops_behind, site_at}
use Rattle.built_images.specs.Chunks.{Coded, insn_in, IsCoded, Chunk, Alone, Pair, IsChunk, AreChunks, padding, chunk_text, chunks_text, chunk_site, chunk_sites, chunk_swept, chunks_swept}
use Rattle.built_images.proofs.SweepJoins.{to_append, one_sweeps, nops_sweep, sti_spelled, hlt_spelled}
use Rattle.built_images.proofs.Sensitive.{nop_plain, sti_bytes}

-- ---- the sweep

pub coded_spelled : (c : Coded) → IsCoded c → Spells c.bytes (insn_in c)
coded_spelled c h = record { row = c.row; listed = h.listed; parts = c.parts; by_row = h.spelled }

chunk_sweeps : (at : ℕ) (c : Chunk) → IsChunk c → SweepsTo at (chunk_text c) (chunk_swept at c) (at + length (chunk_text c)) []
chunk_sweeps at (Alone c) h =
    let len = length-append c.bytes (replicate (padding c) 0x90) in
    let nops = length-replicate {A = ℕ} (padding c) 0x90 in
    let end : (at + length c.bytes) + padding c ≡ at + length (chunk_text (Alone c)) = omega (arith, len, nops) in
    subst (λ (to : ℕ). SweepsTo at (chunk_text (Alone c)) (chunk_swept at (Alone c)) to []) end
    (to_append at (at + length c.bytes) ((at + length c.bytes) + padding c) c.bytes (replicate (padding c) 0x90) []
    (record { at = at; len = length c.bytes; insn = insn_in c } ∷ []) (nops_at (at + length c.bytes) (padding c))
    (one_sweeps at c.bytes (insn_in c) (coded_spelled c h)) (nops_sweep (at + length c.bytes) (padding c)))
chunk_sweeps at Pair h =
    let end : (at + 2) + 3 ≡ at + 5 = omega arith in
    let two : (at + 1) + 1 ≡ at + 2 = omega arith in
    subst (λ (to : ℕ). SweepsTo at (chunk_text Pair) (chunk_swept at Pair) to []) end
    (to_append at (at + 1) ((at + 2) + 3) (0xFB ∷ []) (0xF4 ∷ 0x90 ∷ 0x90 ∷ 0x90 ∷ []) [] (record { at = at; len = 1; insn = sti } ∷ [])
    (record { at = at + 1; len = 1; insn = hlt } ∷ nops_at (at + 2) 3) (one_sweeps at (0xFB ∷ []) sti sti_spelled)
    (to_append (at + 1) (at + 2) ((at + 2) + 3) (0xF4 ∷ []) (replicate 3 0x90) [] (record { at = at + 1; len = 1; insn = hlt } ∷ [])
    (nops_at (at + 2) 3) (subst (λ (to : ℕ). SweepsTo (at + 1) (0xF4 ∷ []) (record { at = at + 1; len = 1; insn = hlt } ∷ []) to []) two
    (one_sweeps (at + 1) (0xF4 ∷ []) hlt hlt_spelled)) (nops_sweep (at + 2) 3)))

pub chunks_sweep : (at : ℕ) (cs : List Chunk) → AreChunks cs → SweepsTo at (chunks_text cs) (chunks_swept at cs)
    (at + length (chunks_text cs)) []
unfolding chunks_swept
chunks_sweep at [] h = (omega arith, refl)
chunks_sweep at (c ∷ cs) h =
    let len = length-append (chunk_text c) (chunks_text cs) in
    let end : (at + length (chunk_text c)) + length (chunks_text cs) ≡ at + length (chunk_text c ++ chunks_text cs) = omega (arith, len) in
    subst (λ (to : ℕ). SweepsTo at (chunk_text c ++ chunks_text cs)
    (chunk_swept at c ++ chunks_swept (at + length (chunk_text c)) cs) to []) end
    (to_append at (at + length (chunk_text c)) ((at + length (chunk_text c)) + length (chunks_text cs)) (chunk_text c) (chunks_text cs) []
    (chunk_swept at c) (chunks_swept (at + length (chunk_text c)) cs) (chunk_sweeps at c h.0)
    (chunks_sweep (at + length (chunk_text c)) cs h.1))

pub whole_sweep : (cs : List Chunk) → AreChunks cs → Sweep (chunks_text cs) (chunks_swept 0 cs)
whole_sweep cs h =
    let e : 0 + length (chunks_text cs) ≡ length (chunks_text cs) = omega arith in
    subst (λ (to : ℕ). SweepsTo 0 (chunks_text cs) (chunks_swept 0 cs) to []) e (chunks_sweep 0 cs h)

-- ---- the sites

has_more : (at n : ℕ) (ps : List Piece) → has_nops n (map piece_of (nops_at at n) ++ ps) ≡ true
unfolding has_nops nops_at
has_more at zero ps = refl
has_more at (suc n) ps = has_more (at + 1) n ps

skipped : (at n : ℕ) (ps : List Piece) → found_behind n (map piece_of (nops_at at n) ++ ps) ≡ found_behind 0 ps
unfolding found_behind nops_at
skipped at zero ps = refl
skipped at (suc n) ps = skipped (at + 1) n ps

some_none : (k : SiteKind) (o : Option SiteKind) → o ≡ Some k → o ≡ None → ⊥
some_none k o e f = cc

not_nop : (b : Bool) (n : Role) (o : Role) → b ≡ false → cond b n o ≡ o
not_nop true n o e = absurd cc
not_nop false n o e = refl

site_is : (at len : ℕ) (insn : Insn) (k : SiteKind) → sensitive_kind insn ≡ Some k → role_of at len insn ≡ role.Site k
site_is at len insn k e =
    elim (cases_Bool (is_direct_branch insn.op)) [
      | inl b ↦ absurd (some_none k (kind_of insn.op) e (branch_kind insn.op b))
      | inr b ↦ elim (cases_Bool (is_nop insn.op)) [
        | inl n ↦ absurd (some_none k (kind_of insn.op) e (nop_plain insn.op n))
        | inr n ↦
            not_nop (is_direct_branch insn.op) (role.Branch (target_of at len insn))
            (cond (is_nop insn.op) role.Nop (site_role (sensitive_kind insn))) b
            ∙ not_nop (is_nop insn.op) role.Nop (site_role (sensitive_kind insn)) n
            ∙ ap site_role e
      ]
    ]

-- a role that makes no site
abbrev IsQuiet : Role → Type 0
IsQuiet (role.Site k) = ⊥
IsQuiet _ = Unit {0}

quiet_nop : (b : Bool) (o : Option SiteKind) → o ≡ None → IsQuiet (cond b role.Nop (site_role o))
quiet_nop true o e = tt
quiet_nop false None e = tt
quiet_nop false (Some k) e = absurd cc

quiet_branch : (b c : Bool) (n : ℕ) (o : Option SiteKind) → o ≡ None → IsQuiet (cond b (role.Branch n) (cond c role.Nop (site_role o)))
quiet_branch true c n o e = tt
quiet_branch false c n o e = quiet_nop c o e

quiet_begins : (p : Piece) (ps : List Piece) (r : Role) → p.role ≡ r → IsQuiet r → begun_by p ps ≡ here.Nothing
unfolding begun_by
quiet_begins p ps role.Plain e q = rw e refl
quiet_begins p ps role.Nop e q = rw e refl
quiet_begins p ps (role.Branch n) e q = rw e refl
quiet_begins p ps (role.Site k) e q = absurd q

no_hlt : (at n : ℕ) (ps : List Piece) → 1 ≤ n → has_hlt (map piece_of (nops_at at n) ++ ps) ≡ false
unfolding nops_at
no_hlt at zero ps le = absurd (omega arith)
no_hlt at (suc n) ps le = refl

no_pair : (k : SiteKind) (at n : ℕ) (ps : List Piece) → (k ≡ site.Sti → 1 ≤ n)
    → (is_sti (role.Site k) && has_hlt (map piece_of (nops_at at n) ++ ps)) ≡ false
no_pair site.Sti at n ps h = no_hlt at n ps (h refl)
no_pair _ at n ps h = refl

not_first : (b : Bool) (x y : Here) → b ≡ false → cond b x y ≡ y
not_first true x y e = absurd cc
not_first false x y e = refl

first_is : (b : Bool) (x y : Here) → b ≡ true → cond b x y ≡ x
first_is true x y e = refl
first_is false x y e = absurd cc

abbrev begun_as : Piece → List Piece → Role → Here
begun_as p ps r = cond (is_sti r && has_hlt ps) (here.Makes (pair p)) (by_role p ps r)

begun_is : (p : Piece) (ps : List Piece) → begun_by p ps ≡ begun_as p ps p.role
unfolding begun_by
begun_is p ps = refl

site_begins : (p : Piece) (k : SiteKind) (at : ℕ) (ps : List Piece) → p.role ≡ role.Site k → (k ≡ site.Sti → 1 ≤ 5 - p.len)
    → begun_by p (map piece_of (nops_at at (5 - p.len)) ++ ps) ≡ here.Makes (single p k)
site_begins p k at ps e h =
    let all = map piece_of (nops_at at (5 - p.len)) ++ ps in
    let n : max 5 p.len - p.len ≡ 5 - p.len = omega arith in
    begun_is p all
    ∙ ap (begun_as p all) e
    ∙ not_first (is_sti (role.Site k) && has_hlt all) (here.Makes (pair p)) (by_role p all (role.Site k)) (no_pair k at (5 - p.len) ps h)
    ∙ first_is (has_nops (max 5 p.len - p.len) all) (here.Makes (single p k)) here.Lacks
    (ap (λ m. has_nops m all) n ∙ has_more at (5 - p.len) ps)

-- what a chunk adds to what is found after it
abbrev found_with : List Site → List Piece → Found
found_with sites ps = record { sites = sites ++ (found_behind 0 ps).sites; lacking = (found_behind 0 ps).lacking }

quiet_found : (p : Piece) (ps : List Piece) → begun_by p ps ≡ here.Nothing → found_behind 0 (p ∷ ps) ≡ found_with [] ps
quiet_found p ps e = look_at p ps ∙ ap (found_by p (λ n. found_behind n ps)) e

site_found : (p : Piece) (s : Site) (at n : ℕ) (ps : List Piece) → begun_by p (map piece_of (nops_at at n) ++ ps) ≡ here.Makes s
    → s.total - p.len ≡ n → found_behind 0 (p ∷ (map piece_of (nops_at at n) ++ ps)) ≡ found_with (s ∷ []) ps
site_found p s at n ps e total =
    look_at p (map piece_of (nops_at at n) ++ ps)
    ∙ ap (found_by p (λ m. found_behind m (map piece_of (nops_at at n) ++ ps))) e
    ∙ ap (λ m. with_site s (found_behind m (map piece_of (nops_at at n) ++ ps))) total
    ∙ ap (with_site s) (skipped at n ps)

sti_len : (c : Coded) → IsCoded c → (k : SiteKind) → sensitive_kind (insn_in c) ≡ Some k → k ≡ site.Sti → 1 ≤ 5 - length c.bytes
sti_len c h k e is =
    let l = ap length (sti_bytes c.row c.parts c.bytes h.listed h.spelled (e ∙ ap (λ (j : SiteKind). Some j) is)) in
    omega (arith, l)

alone_found : (at : ℕ) (c : Coded) → IsCoded c → (o : Option SiteKind) → sensitive_kind (insn_in c) ≡ o → (ps : List Piece)
    → found_behind 0 (piece_of
    (record { at = at; len = length c.bytes; insn = insn_in c }) ∷ (map piece_of
    (nops_at (at + length c.bytes) (nops_behind o (length c.bytes))) ++ ps)) ≡ found_with (site_at at o (length c.bytes)) ps
unfolding nops_at
alone_found at c h None e ps =
    let p = piece_of (record { at = at; len = length c.bytes; insn = insn_in c }) in
    quiet_found p ps (quiet_begins p ps p.role refl
    (quiet_branch (is_direct_branch (insn_in c).op) (is_nop (insn_in c).op) (target_of at (length c.bytes) (insn_in c))
    (sensitive_kind (insn_in c)) e))
alone_found at c h (Some k) e ps =
    let p = piece_of (record { at = at; len = length c.bytes; insn = insn_in c }) in
    let total : max 5 (length c.bytes) - length c.bytes ≡ 5 - length c.bytes = omega arith in
    site_found p (single p k) (at + length c.bytes) (5 - length c.bytes) ps
    (site_begins p k (at + length c.bytes) ps (site_is at (length c.bytes) (insn_in c) k e) (sti_len c h k e)) total

pair_found : (at : ℕ) (ps : List Piece) → found_behind 0 (map piece_of (chunk_swept at Pair) ++ ps) ≡ found_with (chunk_site at Pair) ps
unfolding found_behind begun_by nops_at has_nops
pair_found at ps = refl

chunk_found : (at : ℕ) (c : Chunk) → IsChunk c → (ps : List Piece) → found_behind 0 (map piece_of (chunk_swept at c) ++ ps) ≡ found_with
    (chunk_site at c) ps
chunk_found at (Alone c) h ps = alone_found at c h (sensitive_kind (insn_in c)) refl ps
chunk_found at Pair h ps = pair_found at ps

pub chunks_found : (at : ℕ) (cs : List Chunk) → AreChunks cs → found_behind 0 (map piece_of (chunks_swept at cs))
    ≡ record { sites = chunk_sites at cs; lacking = None }
unfolding chunks_swept chunk_sites found_behind
chunks_found at [] h = refl
chunks_found at (c ∷ cs) h =
    let later = chunks_found (at + length (chunk_text c)) cs h.1 in
    let rest = map piece_of (chunks_swept (at + length (chunk_text c)) cs) in
    ap (found_behind 0) (map-append piece_of (chunk_swept at c) (chunks_swept (at + length (chunk_text c)) cs))
    ∙ chunk_found at c h.0 rest
    ∙ ap (λ (f : Found). record { sites = chunk_site at c ++ f.sites; lacking = f.lacking }) later

pub whole_sites : (cs : List Chunk) → AreChunks cs → sites_of (map piece_of (chunks_swept 0 cs)) ≡ Some (chunk_sites 0 cs)
whole_sites cs h = ap (λ (f : Found). unless_lacking f.sites f.lacking) (chunks_found 0 cs h)
