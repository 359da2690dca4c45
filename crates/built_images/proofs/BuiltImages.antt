-- An image that is made of chunks passes all tests but that of targets, and that one where branches lead right.
use Rattle.std.proofs.Common.{◌≡◌, ℕ, zero, suc, ◌+◌, ◌-◌, ◌<◌, ◌≤◌, true, not, List, [], ◌∷◌, ◌++◌, length, map, Option, Some, None, Ok, Err, refl, sym, ap, subst, ◌∙◌, arith, inl, inr, ◌⊎◌}
use Rattle.std.specs.Prelude.{◌==◌, replicate, slice_get, slice_index}
use Rattle.std.specs.Bool.{then_some}
use Rattle.std.proofs.lemmas.Bool.Decides.{nat_tests}
use Rattle.std.proofs.lemmas.List.{append-nil, length-append, map-append}
use Rattle.std.proofs.lemmas.Bool.{eq-eqb}
use Rattle.ia32_types.specs.declared.insn.Insn.{Insn}
use Rattle.ia32_types.specs.Site.{sensitive_kind}
use Rattle.ia32_rows.specs.Spells.{AreBytes, Spells}
use Rattle.ia32_rows.proofs.Readers.{AreBytes-append}
use Rattle.ia32_rows.proofs.TableLaws.{one_meaning, not_empty}
use Rattle.elf_form.specs.ImageParts.{ImageParts}
use Rattle.sites.specs.declared.site.Site.{Site}
use Rattle.sites.specs.Formats.{listed}
use Rattle.image_check.specs.declared.fault.CheckCause.TheVariants.{Target}
use Rattle.image_check.specs.declared.piece.Piece.{Piece}
use Rattle.image_check.specs.Refusals.{Wrong}
use Rattle.image_check.specs.Sweep.{Swept}
use Rattle.image_check.specs.SweptTexts.{Sweep}
use Rattle.image_check.specs.Pieces.{target_of, piece_of, pieces_in}
use Rattle.image_check.specs.Targets.{is_entrance, wrong_target}
use Rattle.image_check.specs.Conditions.{text_place, init_place, text_size, init_size, entry_place, at_of, last_at, ends_at, text_end, site_wrong, entry_at, entry_start}
use Rattle.image_check.specs.Checking.{placed, annotated, entered, image_with, image_from}
use Rattle.image_check.specs.Accepts.{IsEntrance, IsWithin}
use Rattle.image_check.proofs.SweepLaws.{sweep_exact}
use Rattle.image_check.proofs.Acceptance.{sites_right, is_entrance_so, from_accepted, no_entry, no_size, not_above, swept_gives}
use Rattle.built_images.specs.Joined.{jump_to_itself, nops_at}
use Rattle.afterburner.specs.Instructions.{nops_behind}
use Rattle.built_images.specs.Chunks.{Coded, insn_in, IsCoded, Chunk, Alone, Pair, IsChunk, AreChunks, padding, chunk_text, chunks_text, chunk_sites, chunks_swept, Begins}
use Rattle.built_images.specs.Built.{IsBuilt, LeadsRight, IsAcceptedButForTargets}
use Rattle.built_images.proofs.SweepJoins.{jump_spelled}
use Rattle.built_images.proofs.ChunkSites.{coded_spelled, whole_sweep, whole_sites}
use Rattle.built_images.proofs.Entrances.{text_append, text_length, swept_append, alone_length, entrance}

-- ---- bytes and lengths

nops_fit : (n : ℕ) → AreBytes (replicate n 0x90)
nops_fit zero = tt
nops_fit (suc n) = (omega arith, nops_fit n)

pub chunk_fits : (c : Chunk) → IsChunk c → AreBytes (chunk_text c)
chunk_fits (Alone c) h = AreBytes-append c.bytes (replicate (padding c) 0x90) h.spelled.fit (nops_fit (padding c))
chunk_fits Pair h = (omega arith, (omega arith, (omega arith, (omega arith, (omega arith, tt)))))

pub chunks_fit : (cs : List Chunk) → AreChunks cs → AreBytes (chunks_text cs)
chunks_fit [] h = tt
chunks_fit (c ∷ cs) h = AreBytes-append (chunk_text c) (chunks_text cs) (chunk_fits c h.0) (chunks_fit cs h.1)

pub chunk_has_bytes : (c : Chunk) → IsChunk c → 1 ≤ length (chunk_text c)
chunk_has_bytes (Alone c) h =
    let some = not_empty c.bytes (insn_in c) (coded_spelled c h) in
    let l = alone_length c in
    omega (arith, some, l)
chunk_has_bytes Pair h = omega arith

pub chunks_split : (a b : List Chunk) → AreChunks (a ++ b) → AreChunks a × AreChunks b
chunks_split [] b h = (tt, h)
chunks_split (c ∷ a) b h = let s = chunks_split a b h.1 in ((h.0, s.0), s.1)

pub chunks_join : (a b : List Chunk) → AreChunks a → AreChunks b → AreChunks (a ++ b)
chunks_join [] b h k = k
chunks_join (c ∷ a) b h k = (h.0, chunks_join a b h.1 k)

-- where a chunk begins a byte stands
pub begins_within : (cs : List Chunk) (at : ℕ) → AreChunks cs → Begins cs at → at < length (chunks_text cs)
begins_within cs at h b =
    let s = chunks_split b.before (b.chunk ∷ b.behind) (subst AreChunks b.parts h) in
    let some = chunk_has_bytes b.chunk s.1.0 in
    let l = ap (λ (xs : List Chunk). length (chunks_text xs)) b.parts ∙ text_length b.before (b.chunk ∷ b.behind) in
    let k = length-append (chunk_text b.chunk) (chunks_text b.behind) in
    omega (arith, b.place, some, l, k)

-- ---- the end

pub jump_insn : (c : Coded) → IsCoded c → c.bytes ≡ 0xEB ∷ 0xFE ∷ [] → insn_in c ≡ jump_to_itself
jump_insn c h e =
    one_meaning (0xEB ∷ 0xFE ∷ []) (insn_in c) jump_to_itself (subst (λ bs. Spells bs (insn_in c)) e (coded_spelled c h)) jump_spelled

pub jump_padding : (c : Coded) → IsCoded c → c.bytes ≡ 0xEB ∷ 0xFE ∷ [] → padding c ≡ 0
jump_padding c h e = ap (λ (i : Insn). nops_behind (sensitive_kind i) (length c.bytes)) (jump_insn c h e)

pub jump_text : (c : Coded) → IsCoded c → c.bytes ≡ 0xEB ∷ 0xFE ∷ [] → chunk_text (Alone c) ≡ 0xEB ∷ 0xFE ∷ []
jump_text c h e = ap (λ n. c.bytes ++ replicate n 0x90) (jump_padding c h e) ∙ append-nil c.bytes ∙ e

no_nops : (at n : ℕ) → n ≡ 0 → nops_at at n ≡ []
unfolding nops_at
no_nops at zero e = refl
no_nops at (suc n) e = absurd (omega arith)

last_got : (ps : List Piece) (p : Piece) → slice_get (ps ++ p ∷ []) (length ps) ≡ Some p
last_got [] p = refl
last_got (q ∷ ps) p = last_got ps p

last_is : (ps : List Piece) (p : Piece) → last_at (ps ++ p ∷ []) ≡ p.at
last_is ps p =
    let n : length (ps ++ p ∷ []) - 1 ≡ length ps = omega (arith, length-append ps (p ∷ [])) in
    ap (λ k. at_of (slice_get (ps ++ p ∷ []) k)) n ∙ ap at_of (last_got ps p)

abbrev jump_at : ℕ → Coded → Swept
jump_at at c = record { at = at; len = length c.bytes; insn = insn_in c }

swept_end : (body : List Chunk) (c : Coded) → IsCoded c → c.bytes ≡ 0xEB ∷ 0xFE ∷ []
    → chunks_swept 0 (body ++ (Alone c ∷ [])) ≡ chunks_swept 0 body ++ (jump_at (length (chunks_text body)) c ∷ [])
unfolding chunks_swept
swept_end body c h e =
    let at : 0 + length (chunks_text body) ≡ length (chunks_text body) = omega arith in
    swept_append 0 body (Alone c ∷ [])
    ∙ ap (λ n. chunks_swept 0 body ++ ((jump_at n c ∷ nops_at (n + length c.bytes) (padding c)) ++ [])) at
    ∙ ap (λ (xs : List Swept). chunks_swept 0 body ++ ((jump_at (length (chunks_text body)) c ∷ xs) ++ []))
    (no_nops (length (chunks_text body) + length c.bytes) (padding c) (jump_padding c h e))

byte_behind : (xs ys : List ℕ) (k : ℕ) → slice_index (xs ++ ys) (length xs + k) ≡ slice_index ys k
byte_behind [] ys k = let e : 0 + k ≡ k = omega arith in ap (slice_index ys) e
byte_behind (x ∷ xs) ys k = let e : suc (length xs) + k ≡ suc (length xs + k) =
    omega arith in ap (slice_index (x ∷ (xs ++ ys))) e ∙ byte_behind xs ys k

ends_by : (text : List ℕ) (at : ℕ) → at + 2 ≡ length text → slice_index text at ≡ 0xEB → slice_index text (at + 1) ≡ 0xFE
    → ends_at text at ≡ true
ends_by text at e f g = grind (arith, nat_tests)

ends_so : (front : List ℕ) → ends_at (front ++ (0xEB ∷ 0xFE ∷ [])) (length front) ≡ true
ends_so front =
    let text = front ++ (0xEB ∷ 0xFE ∷ []) in
    let e : length front + 2 ≡ length text = omega (arith, length-append front (0xEB ∷ 0xFE ∷ [])) in
    let z : length front ≡ length front + 0 = omega arith in
    let f : slice_index text (length front) ≡ 0xEB = ap (slice_index text) z ∙ byte_behind front (0xEB ∷ 0xFE ∷ []) 0 in
    let g : slice_index text (length front + 1) ≡ 0xFE = byte_behind front (0xEB ∷ 0xFE ∷ []) 1 in
    ends_by text (length front) e f g

pub text_is : (body : List Chunk) (c : Coded) → IsCoded c → c.bytes ≡ 0xEB ∷ 0xFE ∷ [] → chunks_text (body ++ (Alone c ∷ [])) ≡ chunks_text
    body ++ (0xEB ∷ 0xFE ∷ [])
text_is body c h e =
    text_append body (Alone c ∷ []) ∙ ap (λ xs. chunks_text body ++ xs) (append-nil (chunk_text (Alone c)) ∙ jump_text c h e)

-- ---- the tests before that of targets, and after it

right_place : (n m : ℕ) → n ≡ m → then_some {T = ℕ} (not (n == m)) 0 ≡ None
right_place n m e = ap (λ b. then_some {T = ℕ} (not b) 0) (eq-eqb n m e)

placed_by : (parts : ImageParts) → text_place parts ≡ None → init_place parts ≡ None → text_size parts ≡ None → init_size parts ≡ None
    → entry_place parts ≡ None → placed parts ≡ Ok tt
unfolding placed
placed_by parts a b c d e = rw (a, b, c, d, e) refl

abbrev Outcome : ImageParts → List Site → Type 0
Outcome parts sites = (image_from parts ≡ Ok (image_with parts sites)) ⊎ ((at : ℕ) × (image_from parts ≡ Err (Wrong at Target)))

outcome : (parts : ImageParts) (sites : List Site) (ps : List Piece) → placed parts ≡ Ok tt → pieces_in parts.text ≡ Ok ps
    → text_end parts.text ps ≡ None → listed parts.sites ≡ Ok sites → site_wrong sites ps ≡ None → entry_start parts ps sites ≡ None
    → (o : Option ℕ) → wrong_target (is_entrance ps sites) ps ≡ o → Outcome parts sites
unfolding image_from annotated entered
outcome parts sites ps place swept end read same entry None e = inl (rw (place, swept, end, read, same, e, entry) refl)
outcome parts sites ps place swept end read same entry (Some at) e = inr (at, rw (place, swept, end, read, same, e) refl)

module _ (parts : ImageParts) (cs : List Chunk) (b : IsBuilt parts cs) where
  last_coded : IsCoded b.last
  last_coded = (chunks_split b.body (Alone b.last ∷ []) (subst AreChunks b.ends b.chunks)).1.0

  abbrev all_swept : List Swept
  all_swept = chunks_swept 0 cs

  abbrev all_sites : List Site
  all_sites = chunk_sites 0 cs

  fits : AreBytes parts.text
  fits = subst AreBytes (sym b.text) (chunks_fit cs b.chunks)

  is_swept : Sweep parts.text all_swept
  is_swept = subst (λ text. Sweep text all_swept) (sym b.text) (whole_sweep cs b.chunks)

  ends_well : ends_at parts.text (last_at (map piece_of all_swept)) ≡ true
  ends_well =
      let front = chunks_text b.body in
      let text : parts.text ≡ front ++ (0xEB ∷ 0xFE ∷ []) = b.text ∙ ap chunks_text b.ends ∙ text_is b.body b.last last_coded b.jump in
      let at : last_at (map piece_of all_swept) ≡ length front =
      ap (λ (xs : List Swept). last_at (map piece_of xs)) (ap (chunks_swept 0) b.ends ∙ swept_end b.body b.last last_coded b.jump)
      ∙ ap last_at (map-append piece_of (chunks_swept 0 b.body) (jump_at (length front) b.last ∷ []))
      ∙ last_is (map piece_of (chunks_swept 0 b.body)) (piece_of (jump_at (length front) b.last)) in
      ap (λ xs. ends_at xs (last_at (map piece_of all_swept))) text ∙ ap (ends_at (front ++ (0xEB ∷ 0xFE ∷ []))) at ∙ ends_so front

  is_within : IsWithin (image_with parts all_sites)
  is_within =
      let lt = begins_within cs (parts.entry - 0x10000000) b.chunks b.entry in
      let l = ap length b.text in
      let le = b.entry_in in
      record {
        text = (omega (arith, lt, l), b.size);
        room = b.room;
        entry = (le, omega (arith, lt, l, le));
      }

  enters : IsEntrance all_swept all_sites (parts.entry - 0x10000000)
  enters = entrance cs b.chunks (parts.entry - 0x10000000) b.entry

  pub accepted_where : LeadsRight cs → image_from parts ≡ Ok (image_with parts all_sites)
  accepted_where right = from_accepted parts all_sites fits b.text_at b.init_at b.annotated (record {
    within = is_within;
    swept = all_swept;
    sweep = is_swept;
    ends = ends_well;
    sites = whole_sites cs b.chunks;
    targets = λ s there branch. entrance cs b.chunks (target_of s.at s.len s.insn) (right s there branch);
    entry = enters;
  })

  all_placed : placed parts ≡ Ok tt
  all_placed =
      let w = is_within in
      placed_by parts
      (right_place parts.text_at 0x10000000 b.text_at)
      (right_place parts.init_at 0x11000000 b.init_at)
      (ap (λ t. then_some {T = ℕ} t 0) (no_size (length parts.text) w.text.0 w.text.1))
      (ap (λ t. then_some {T = ℕ} t 0) (not_above (length parts.init + parts.bss) 33554432 b.room))
      (ap (λ t. then_some {T = ℕ} t 0) (no_entry parts.entry (length parts.text) w.entry.0 w.entry.1))

  pub accepted_but : IsAcceptedButForTargets parts cs
  accepted_but =
      let ps = map piece_of all_swept in
      outcome parts all_sites ps
      all_placed
      (swept_gives parts.text all_swept ((sweep_exact parts.text fits all_swept).1 is_swept))
      (ap (λ t. then_some (not t) (last_at ps)) ends_well)
      b.annotated
      (sites_right all_sites ps (whole_sites cs b.chunks))
      (ap (λ t. then_some (not t) (entry_at parts)) (is_entrance_so all_swept all_sites (entry_at parts) enters))
      (wrong_target (is_entrance ps all_sites) ps)
      refl
