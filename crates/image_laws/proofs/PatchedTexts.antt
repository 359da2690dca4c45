-- The patched text of an accepted image.
use Rattle.std.proofs.Common.{◌≡◌, ℕ, suc, ◌+◌, ◌-◌, ◌%◌, ◌^◌, ◌<◌, ◌≤◌, List, [], ◌∷◌, ◌++◌, length, take, drop, get_or, replicate, None, refl, sym, ap, subst, ◌∙◌, inl, inr, ◌⊎◌, arith}
use Rattle.std.specs.List.{Contains}
use Rattle.std.proofs.lemmas.Bool.{cases_lt}
use Rattle.std.proofs.lemmas.List.{same_lists, get_or_default}
use Rattle.guest_ram.specs.Bytes.{byte, part, with_part}
use Rattle.guest_ram.proofs.Bytes.{length-part, get_or-part, part-part, length-with_part, get_or-with_part_in, get_or-with_part_below, get_or-with_part_above, with_part-with_part, with_part-part}
use Rattle.ia32_types.specs.declared.addresses.TheConstants.{WINDOW_ADDRESS, WINDOW_END}
use Rattle.ia32_types.specs.declared.insn.Insn.{Insn}
use Rattle.ia32_rows.specs.Reader.{word_at, long_at}
use Rattle.ia32_rows.specs.Rows.{rows}
use Rattle.ia32_rows.specs.Spells.{Spells}
use Rattle.ia32_rows.specs.Fields.{addressing_at, immediate_at}
use Rattle.ia32_rows.specs.Spelling.{insn_of, lead_at, coded_at, parts_at}
use Rattle.ia32_decode.specs.declared.answer.Decoded.{Decoded}
use Rattle.ia32_decode.specs.declared.answer.Decoded.TheVariants as answer
use Rattle.ia32_decode.specs.Answer.{Begins, Answers}
use Rattle.ia32_decode.specs.Decoding.{answer_from, decoded}
use Rattle.ia32_decode.proofs.Exact.{answered}
use Rattle.ia32_types.specs.declared.flags.Regs.{Regs}
use Rattle.ia32_exec.specs.declared.outcome.Outcome.{Outcome}
use Rattle.ia32_exec.specs.declared.outcome.Outcome.TheVariants.{Done}
use Rattle.ia32_exec.specs.declared.outcome.Stores.TheVariants.{Nothing}
use Rattle.ia32_exec.specs.Control.{jump}
use Rattle.ia32_exec.specs.Effect.{effect}
use Rattle.sites.specs.declared.site.Site.{Site}
use Rattle.sites.specs.Patched.{patch_bytes, patched}
use Rattle.image_check.specs.Image.{Image}
use Rattle.image_check.specs.Sweep.{Swept}
use Rattle.image_check.specs.Accepts.{IsAccepted}
use Rattle.image_check.specs.Places.{linear}
use Rattle.image_check.specs.Standing.{swept_of, site_at, StandsOutside}
use Rattle.image_check.proofs.Laid.{apart_bounds}
use Rattle.image_check.proofs.Layouts.{apart, none_around}
use Rattle.image_laws.specs.Patches.{jump_out, window_at}
use Rattle.image_laws.proofs.Around.{site_there, room, begun, outside_bytes}
use Rattle.image_laws.proofs.PatchedParts.{patched_length, patched_byte, patched_site, patched_part}
use Rattle.image_laws.proofs.Spelled.{whole_at, cut_at}

-- ---- the jump

abbrev jump_bytes : List ℕ
jump_bytes = 0xE9 ∷ 0xF4 ∷ 0xF4 ∷ 0xF4 ∷ 0xF4 ∷ []

jump_answers : (insn : Insn) (n : ℕ) → decoded jump_bytes ≡ answer.Insn insn n → Begins jump_bytes insn n
jump_answers insn n e = subst (λ (d : Decoded). Answers d jump_bytes) e
    (answered jump_bytes (omega arith, (omega arith, (omega arith, (omega arith, (omega arith, tt))))))

jump_decoded : decoded jump_bytes ≡ answer.Insn jump_out 5
unfolding decoded answer_from rows parts_at coded_at lead_at addressing_at immediate_at insn_of word_at long_at
jump_decoded = refl

jump_spelled : Spells jump_bytes jump_out
jump_spelled = (jump_answers jump_out 5 jump_decoded).front

first_five : (total : ℕ) → 5 ≤ total → part (patch_bytes total) 0 5 ≡ jump_bytes
unfolding part
first_five total le =
    let more : total - 1 ≡ suc (suc (suc (suc (total - 5)))) = omega arith in
    ap (λ k. take 5 (drop 0 (233 ∷ replicate k 244))) more

abbrev done_at : Regs → ℕ → Outcome
done_at r eip = Done (record r { eip = eip }) Nothing

module _ (image : Image) (h : IsAccepted image) where
  whole_room : 0 + length image.text ≤ length image.text
  whole_room = omega arith

  pub text_length : length (patched image.text 0 image.sites) ≡ length image.text
  text_length = patched_length image.text 0 0 image.sites (length image.text) (apart image h) whole_room

  pub text_outside : (k : ℕ) → site_at image.sites k ≡ None → byte (patched image.text 0 image.sites) k ≡ byte image.text k
  text_outside k none =
      patched_byte image.text 0 0 image.sites (length image.text) (apart image h) whole_room k
      (λ site c. elim (none_around k image.sites none site c) [
        | inl below ↦ inl (omega arith)
        | inr above ↦ inr (omega arith)
      ])

  pub text_site : (site : Site) → Contains image.sites site → part (patched image.text 0 image.sites) site.at site.total
      ≡ patch_bytes site.total
  text_site site c =
      let same : 0 + site.at ≡ site.at = omega arith in
      ap (λ k. part (patched image.text 0 image.sites) k site.total) (sym same)
      ∙ patched_site image.text 0 0 image.sites (length image.text) (apart image h) whole_room site c

  pub memory_length : (m : List ℕ) (at : ℕ) → at + length image.text ≤ length m → length (patched m at image.sites) ≡ length m
  memory_length m at fits = patched_length m at 0 image.sites (length image.text) (apart image h) fits

  pub memory_text : (m : List ℕ) (at : ℕ) → at + length image.text ≤ length m → part m at (length image.text) ≡ image.text
      → part (patched m at image.sites) at (length image.text) ≡ patched image.text 0 image.sites
  memory_text m at fits e =
      patched_part m at 0 (length image.text) image.sites (apart image h) fits ∙ ap (λ (bs : List ℕ). patched bs 0 image.sites) e

  pub memory_others : (m : List ℕ) (at : ℕ) → at + length image.text ≤ length m → (k : ℕ) → (k < at) ⊎ (at + length image.text ≤ k)
      → byte (patched m at image.sites) k ≡ byte m k
  memory_others m at fits k out =
      patched_byte m at 0 image.sites (length image.text) (apart image h) fits k (λ site c. apart_from site c out)
    where
      apart_from : (site : Site) → Contains image.sites site → (k < at) ⊎ (at + length image.text ≤ k) → (k < at + site.at)
          ⊎ (at + site.at + site.total ≤ k)
      apart_from site c (inl below) = inl (omega arith)
      apart_from site c (inr above) = let ends =
          (apart_bounds 0 image.sites (length image.text) (apart image h) site c).2 in inr (omega (arith, ends))

  -- the patched text laid over the memory, and the text over that
  pub memory_whole : (m : List ℕ) (at : ℕ) → at + length image.text ≤ length m → part m at (length image.text) ≡ image.text
      → patched m at image.sites ≡ with_part m at (patched image.text 0 image.sites)
  unfolding byte
  memory_whole m at fits e =
      same_lists (patched m at image.sites) (with_part m at (patched image.text 0 image.sites))
      (memory_length m at fits ∙ sym (length-with_part m at (patched image.text 0 image.sites) in_m)) (λ k d lt.
      let lt_m : k < length m = omega (arith, lt, memory_length m at fits) in
      get_or_default (patched m at image.sites) k d 0 lt
      ∙ at_place k
      ∙ get_or_default (with_part m at (patched image.text 0 image.sites)) k 0 d
      (omega (arith, lt_m, length-with_part m at (patched image.text 0 image.sites) in_m)))
    where
      in_m : at + length (patched image.text 0 image.sites) ≤ length m
      in_m = omega (arith, text_length)

      within : (k : ℕ) → at ≤ k → k < at + length image.text
          → get_or (patched m at image.sites) k 0 ≡ get_or (with_part m at (patched image.text 0 image.sites)) k 0
      within k le lt =
          let same : at + (k - at) ≡ k = omega arith in
          ap (λ j. get_or (patched m at image.sites) j 0) (sym same)
          ∙ sym (get_or-part (patched m at image.sites) at (length image.text) (k - at) (omega arith))
          ∙ ap (λ (bs : List ℕ). get_or bs (k - at) 0) (memory_text m at fits e)
          ∙ sym (get_or-with_part_in m at (patched image.text 0 image.sites) (k - at) in_m (omega (arith, text_length)))
          ∙ ap (λ j. get_or (with_part m at (patched image.text 0 image.sites)) j 0) same

      at_place : (k : ℕ) → get_or (patched m at image.sites) k 0 ≡ get_or (with_part m at (patched image.text 0 image.sites)) k 0
      at_place k =
          elim (cases_lt k at) [
            | inl below ↦ memory_others m at fits k (inl below)
                ∙ sym (get_or-with_part_below m at (patched image.text 0 image.sites) k in_m below)
            | inr le ↦ elim (cases_lt k (at + length image.text)) [
              | inl lt ↦ within k le lt
              | inr above ↦ memory_others m at fits k (inr above)
                  ∙ sym (get_or-with_part_above m at (patched image.text 0 image.sites) k in_m (omega (arith, above, text_length)))
            ]
          ]

  pub memory_back : (m : List ℕ) (at : ℕ) → at + length image.text ≤ length m → part m at (length image.text) ≡ image.text
      → with_part (patched m at image.sites) at image.text ≡ m
  memory_back m at fits e =
      ap (λ (bs : List ℕ). with_part bs at image.text) (memory_whole m at fits e)
      ∙ with_part-with_part m at (patched image.text 0 image.sites) image.text (omega (arith, text_length)) text_length
      ∙ ap (with_part m at) (sym e)
      ∙ with_part-part m at (length image.text) fits

  -- ---- the jump at a site

  jump_there : (site : Site) → Contains image.sites site → part (patched image.text 0 image.sites) site.at 5 ≡ jump_bytes
  jump_there site c =
      let most = (apart_bounds 0 image.sites (length image.text) (apart image h) site c).1 in
      let same : site.at + 0 ≡ site.at = omega arith in
      ap (λ k. part (patched image.text 0 image.sites) k 5) (sym same)
      ∙ sym (part-part (patched image.text 0 image.sites) site.at site.total 0 5 (omega (arith, most)))
      ∙ ap (λ (bs : List ℕ). part bs 0 5) (text_site site c)
      ∙ first_five site.total most

  pub jump_whole : (site : Site) → Contains image.sites site → (n : ℕ) → 5 ≤ n → (more : List ℕ)
      → decoded (part (patched image.text 0 image.sites) site.at n ++ more) ≡ answer.Insn jump_out 5
  jump_whole site c = whole_at (patched image.text 0 image.sites) site.at jump_out 5
      (subst (λ (bs : List ℕ). Spells bs jump_out) (sym (jump_there site c)) jump_spelled) (ap length (jump_there site c))

  pub jump_cut : (site : Site) → Contains image.sites site → (n : ℕ) → n < 5
      → decoded (part (patched image.text 0 image.sites) site.at n) ≡ answer.Short
  jump_cut site c = cut_at (patched image.text 0 image.sites) site.at jump_out 5
      (subst (λ (bs : List ℕ). Spells bs jump_out) (sym (jump_there site c)) jump_spelled) (ap length (jump_there site c))

  pub leads_out : (site : Site) → Contains image.sites site → ((linear site.at + 5) % 2 ^ 32 + jump_out.imm) % 2 ^ 32 ≡ window_at site.at
  leads_out site c =
      let few = h.within.text.1 in
      let bounds = (apart_bounds 0 image.sites (length image.text) (apart image h) site c) in
      let most = bounds.1 in
      let ends = bounds.2 in
      omega (arith, few, most, ends)

  pub jump_effect : (site : Site) → Contains image.sites site → (r : Regs) → r.eip ≡ linear site.at → (b : ℕ → ℕ)
      → effect jump_out 5 r b ≡ Done (record r { eip = window_at site.at }) Nothing
  unfolding effect jump
  jump_effect site c r here b =
      ap (λ eip. done_at r (((eip + 5) % 2 ^ 32 + jump_out.imm) % 2 ^ 32)) here ∙ ap (done_at r) (leads_out site c)

  pub in_window : (site : Site) → Contains image.sites site → (WINDOW_ADDRESS ≤ window_at site.at) × (window_at site.at < WINDOW_END)
  in_window site c =
      let few = h.within.text.1 in
      let ends = (apart_bounds 0 image.sites (length image.text) (apart image h) site c).2 in
      (omega arith, omega (arith, few, ends))

  pub one_site : (s t : Site) → Contains image.sites s → Contains image.sites t → window_at s.at ≡ window_at t.at → s ≡ t
  one_site s t c d e =
      let most = (apart_bounds 0 image.sites (length image.text) (apart image h) s c).1 in
      let later = (apart_bounds 0 image.sites (length image.text) (apart image h) t d).1 in
      let same : s.at ≡ t.at = omega (arith, e) in
      let one = site_there image h t.at s c (omega (arith, same)) (omega (arith, same, most)) in
      let other = site_there image h t.at t d (omega arith) (omega (arith, later)) in
      cc

  -- ---- fetches

  module _ (s : Swept) (c : Contains (swept_of image.text) s) where
    spelled : Spells (part image.text s.at s.len) s.insn
    unfolding part
    spelled = (begun image h s c).front

    full : length (part image.text s.at s.len) ≡ s.len
    full = let ends = (room image h s c).1 in length-part image.text s.at s.len ends

    pub fetched_whole : (n : ℕ) → s.len ≤ n → (more : List ℕ) → decoded (part image.text s.at n ++ more) ≡ answer.Insn s.insn s.len
    fetched_whole = whole_at image.text s.at s.insn s.len spelled full

    pub fetched_cut : (n : ℕ) → n < s.len → decoded (part image.text s.at n) ≡ answer.Short
    fetched_cut = cut_at image.text s.at s.insn s.len spelled full

  pub same_bytes : (s : Swept) → StandsOutside image s → (n : ℕ) → n ≤ s.len
      → part (patched image.text 0 image.sites) s.at n ≡ part image.text s.at n
  unfolding byte
  same_bytes s out n le =
      let ends = (room image h s out.stands).1 in
      let one = length-part (patched image.text 0 image.sites) s.at n (omega (arith, text_length, ends)) in
      let other = length-part image.text s.at n (omega (arith, ends)) in
      same_lists (part (patched image.text 0 image.sites) s.at n) (part image.text s.at n) (one ∙ sym other) (λ k d lt.
      let below : k < n = omega (arith, lt, one) in
      get_or_default (part (patched image.text 0 image.sites) s.at n) k d 0 lt
      ∙ get_or-part (patched image.text 0 image.sites) s.at n k below
      ∙ text_outside (s.at + k) (outside_bytes image h s out (s.at + k) (omega arith) (omega (arith, below)))
      ∙ sym (get_or-part image.text s.at n k below)
      ∙ get_or_default (part image.text s.at n) k 0 d (omega (arith, below, other)))

  module _ (s : Swept) (out : StandsOutside image s) where
    whole_same : part image.text s.at s.len ≡ part (patched image.text 0 image.sites) s.at s.len
    whole_same = sym (same_bytes s out s.len (omega arith))

    pub patched_whole : (n : ℕ) → s.len ≤ n → (more : List ℕ) → decoded (part (patched image.text 0 image.sites) s.at n ++ more)
        ≡ answer.Insn s.insn s.len
    patched_whole =
        whole_at (patched image.text 0 image.sites) s.at s.insn s.len
        (subst (λ (bs : List ℕ). Spells bs s.insn) whole_same (spelled s out.stands)) (ap length (sym whole_same) ∙ full s out.stands)

    pub patched_cut : (n : ℕ) → n < s.len → decoded (part (patched image.text 0 image.sites) s.at n) ≡ answer.Short
    patched_cut =
        cut_at (patched image.text 0 image.sites) s.at s.insn s.len
        (subst (λ (bs : List ℕ). Spells bs s.insn) whole_same (spelled s out.stands)) (ap length (sym whole_same) ∙ full s out.stands)

  -- ---- fetches from a memory

  -- a part of what stands in a memory
  part_of : (m text : List ℕ) (base : ℕ) → part m base (length image.text) ≡ text → (at len : ℕ) → at + len ≤ length image.text
      → part text at len ≡ part m (base + at) len
  part_of m text base e at len fits = ap (λ (bs : List ℕ). part bs at len) (sym e) ∙ part-part m base (length image.text) at len fits

  module _ (m : List ℕ) (base : ℕ) (there : part m base (length image.text) ≡ image.text) (s : Swept)
      (c : Contains (swept_of image.text) s) where
    text_part : part image.text s.at s.len ≡ part m (base + s.at) s.len
    text_part = part_of m image.text base there s.at s.len (room image h s c).1

    pub memory_fetched : (n : ℕ) → s.len ≤ n → (more : List ℕ) → decoded (part m (base + s.at) n ++ more) ≡ answer.Insn s.insn s.len
    memory_fetched = whole_at m (base + s.at) s.insn s.len (subst (λ (bs : List ℕ). Spells bs s.insn) text_part (spelled s c))
        (ap length (sym text_part) ∙ full s c)

    pub memory_cut : (n : ℕ) → n < s.len → decoded (part m (base + s.at) n) ≡ answer.Short
    memory_cut = cut_at m (base + s.at) s.insn s.len (subst (λ (bs : List ℕ). Spells bs s.insn) text_part (spelled s c))
        (ap length (sym text_part) ∙ full s c)

  module _ (m : List ℕ) (base : ℕ) (there : part m base (length image.text) ≡ patched image.text 0 image.sites) where
    module _ (s : Swept) (out : StandsOutside image s) where
      outside_part : part image.text s.at s.len ≡ part m (base + s.at) s.len
      outside_part = whole_same s out ∙ part_of m (patched image.text 0 image.sites) base there s.at s.len (room image h s out.stands).1

      pub patched_fetched : (n : ℕ) → s.len ≤ n → (more : List ℕ) → decoded (part m (base + s.at) n ++ more) ≡ answer.Insn s.insn s.len
      patched_fetched = whole_at m (base + s.at) s.insn s.len
          (subst (λ (bs : List ℕ). Spells bs s.insn) outside_part (spelled s out.stands)) (ap length (sym outside_part) ∙ full s out.stands)

      pub patched_fetch_cut : (n : ℕ) → n < s.len → decoded (part m (base + s.at) n) ≡ answer.Short
      patched_fetch_cut = cut_at m (base + s.at) s.insn s.len
          (subst (λ (bs : List ℕ). Spells bs s.insn) outside_part (spelled s out.stands)) (ap length (sym outside_part) ∙ full s out.stands)

    module _ (site : Site) (c : Contains image.sites site) where
      jump_part : jump_bytes ≡ part m (base + site.at) 5
      jump_part =
          let bounds = apart_bounds 0 image.sites (length image.text) (apart image h) site c in
          let most = bounds.1 in
          let ends = bounds.2 in
          sym (jump_there site c) ∙ part_of m (patched image.text 0 image.sites) base there site.at 5 (omega (arith, most, ends))

      pub jump_fetched : (n : ℕ) → 5 ≤ n → (more : List ℕ) → decoded (part m (base + site.at) n ++ more) ≡ answer.Insn jump_out 5
      jump_fetched = whole_at m (base + site.at) jump_out 5 (subst (λ (bs : List ℕ). Spells bs jump_out) jump_part jump_spelled)
          (ap length (sym jump_part))

      pub jump_fetch_cut : (n : ℕ) → n < 5 → decoded (part m (base + site.at) n) ≡ answer.Short
      jump_fetch_cut = cut_at m (base + site.at) jump_out 5 (subst (λ (bs : List ℕ). Spells bs jump_out) jump_part jump_spelled)
          (ap length (sym jump_part))
