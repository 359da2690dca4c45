-- Where control goes on.
use Rattle.std.proofs.Common.{◌≡◌, ℕ, ◌+◌, ◌-◌, ◌%◌, ◌^◌, ◌<◌, ◌≤◌, Bool, true, false, ◌&&◌, cond, nat_lt, Option, None, List, [], ◌∷◌, length, take, drop, map, Some, refl, sym, ap, subst, ◌∙◌, inl, inr, ◌⊎◌, arith}
use Rattle.std.specs.Prelude.{slice_index, ◌==◌, ◌↔◌, ◌||◌, nat_le, not}
use Rattle.std.specs.List.{list_any, Contains}
use Rattle.std.proofs.lemmas.Bool.{cases_lt, and_parts, eqb-true}
use Rattle.std.proofs.lemmas.Bool.Decides.{nat_tests}
use Rattle.std.proofs.lemmas.List.{places, same_lists, append-nil}
use Rattle.ia32_types.specs.Branches.{is_direct_branch}
use Rattle.ia32_types.specs.declared.insn.Insn.{Insn}
use Rattle.ia32_types.specs.declared.insn.Op.TheVariants as op
use Rattle.ia32_types.specs.declared.insn.Operand.TheVariants as operand
use Rattle.ia32_types.specs.declared.size.Size.TheVariants as size
use Rattle.ia32_rows.specs.Rows.{rows}
use Rattle.ia32_rows.specs.Spells.{Spells}
use Rattle.ia32_rows.specs.Fields.{addressing_at, immediate_at}
use Rattle.ia32_rows.specs.Spelling.{insn_of, lead_at, coded_at, parts_at}
use Rattle.ia32_decode.specs.declared.answer.Decoded.TheVariants as answer
use Rattle.ia32_decode.specs.Decoding.{answer_from, decoded}
use Rattle.ia32_decode.proofs.Exact.{decoded_back}
use Rattle.sites.specs.declared.site.Site.{Site}
use Rattle.image_check.specs.declared.place.AtOffset.TheVariants.{NotAStart, Outside, Inside}
use Rattle.image_check.specs.Image.{Image}
use Rattle.image_check.specs.Sweep.{Swept}
use Rattle.image_check.specs.Pieces.{target_of, piece_of}
use Rattle.image_check.specs.Conditions.{last_at, ends_at}
use Rattle.image_check.specs.Accepts.{IsEntrance, IsAccepted}
use Rattle.image_check.specs.Places.{is_start, is_start_at, is_site_at, linear}
use Rattle.image_check.specs.Standing.{swept_of, lies_in, site_at, is_in_site, by_site, place_of, place_at, StandsOutside, StandsInside}
use Rattle.image_check.specs.Layout.{BeginsSite}
use Rattle.image_check.proofs.Laid.{apart_bounds}
use Rattle.image_check.proofs.Layouts.{site_any, apart, sweeps, swept_is, starts_are, start_exact, started, starts, site_listed}
use Rattle.image_laws.specs.WaysIn.{IsWayIn, IsLast}
use Rattle.image_laws.proofs.Instructions.{next_there, last_there}
use Rattle.image_laws.proofs.Around.{site_there, room, begun, outside_apart, first_part}

-- ---- what stands at an offset

outside_by : (b : Bool) (o : Option Site) → cond b (by_site o) NotAStart ≡ Outside → (b ≡ true) × (o ≡ None)
outside_by true None e = (refl, refl)
outside_by true (Some site) e = absurd cc
outside_by false o e = absurd cc

inside_by : (b : Bool) (o : Option Site) (site : Site) → cond b (by_site o) NotAStart ≡ Inside site → (b ≡ true) × (o ≡ Some site)
inside_by true None site e = absurd cc
inside_by true (Some s) site e = (refl, cc)
inside_by false o site e = absurd cc

pub outside_there : (image : Image) (at : ℕ) → place_of image at ≡ Outside → (s : Swept) × StandsOutside image s × (s.at ≡ at)
outside_there image at e =
    let is = outside_by (is_start image.text at) (site_at image.sites at) e in
    let s = started image.text at is.0 in
    (s.0, record { stands = s.1; outside = ap (site_at image.sites) s.2 ∙ is.1 }, s.2)

pub inside_there : (image : Image) (at : ℕ) (site : Site) → place_of image at ≡ Inside site → (s : Swept)
    × StandsInside image site s × (s.at ≡ at)
inside_there image at site e =
    let is = inside_by (is_start image.text at) (site_at image.sites at) site e in
    let s = started image.text at is.0 in
    (s.0, record { stands = s.1; inside = ap (site_at image.sites) s.2 ∙ is.1 }, s.2)

way_by : (image : Image) (at : ℕ) → IsWayIn image at → (o : Option Site) → site_at image.sites at ≡ o → (by_site o ≡ Outside)
    ⊎ ((site : Site) × (by_site o ≡ Inside site) × (site.at ≡ at))
way_by image at way None e = inl refl
way_by image at way (Some site) e = inr (site, refl, way.first site e)

pub way_place : (image : Image) (at : ℕ) → IsWayIn image at → (place_of image at ≡ Outside)
    ⊎ ((site : Site) × (place_of image at ≡ Inside site) × (site.at ≡ at))
way_place image at way =
    subst (λ b. (cond b (by_site (site_at image.sites at)) NotAStart ≡ Outside)
    ⊎ ((site : Site) × (cond b (by_site (site_at image.sites at)) NotAStart ≡ Inside site) × (site.at ≡ at))) (sym way.start) (way_by image
    at way (site_at image.sites at) refl)

not_below : (at : ℕ) → nat_lt (linear at) 0x10000000 ≡ false
not_below at = grind (arith, nat_tests)

pub linear_place : (image : Image) (at : ℕ) → place_at image (linear at) ≡ place_of image at
linear_place image at =
    let back : linear at - 0x10000000 ≡ at = omega arith in
    ap (λ b. cond b NotAStart (place_of image (linear at - 0x10000000))) (not_below at) ∙ ap (place_of image) back

not_start_by : (below starts : Bool) (o : Option Site) → (cond below NotAStart (cond starts (by_site o) NotAStart) ≡ NotAStart) ↔
    ((not below && starts) ≡ false)
not_start_by true starts o = ((λ e. refl), (λ e. refl))
not_start_by false true None = ((λ e. absurd cc), (λ e. absurd cc))
not_start_by false true (Some site) = ((λ e. absurd cc), (λ e. absurd cc))
not_start_by false false o = ((λ e. refl), (λ e. refl))

not_under : (eip : ℕ) → not (nat_lt eip 0x10000000) ≡ nat_le 0x10000000 eip
not_under eip = grind (arith, nat_tests)

pub not_start_exact : (image : Image) (eip : ℕ) → (place_at image eip ≡ NotAStart) ↔ (is_start_at image.text eip ≡ false)
not_start_exact image eip =
    subst (λ b. (place_at image eip ≡ NotAStart) ↔ ((b && is_start image.text (eip - 0x10000000)) ≡ false)) (not_under eip)
    (not_start_by (nat_lt eip 0x10000000) (is_start image.text (eip - 0x10000000)) (site_at image.sites (eip - 0x10000000)))

same_test : (at : ℕ) (s : Site) → (nat_le (linear s.at) (linear at) && nat_lt (linear at) (linear s.at + s.total)) ≡ lies_in at s
same_test at s = grind (arith, nat_tests)

any_same : (at : ℕ) (sites : List Site) → is_site_at sites (linear at) ≡ list_any (lies_in at) sites
any_same at [] = refl
any_same at (s ∷ sites) = ap (λ b. b || is_site_at sites (linear at)) (same_test at s) ∙ ap (λ b. lies_in at s || b) (any_same at sites)

pub site_same : (sites : List Site) (at : ℕ) → is_site_at sites (linear at) ≡ is_in_site sites at
site_same sites at = any_same at sites ∙ sym (site_any sites at)

-- ---- the jump to itself

abbrev jump_to_itself : Insn
jump_to_itself = record { op = op.Jmp; size = size.Long; a = operand.Absent; b = operand.Absent; imm = 4294967294; sel = 0; rep = false }

jump_decoded : decoded (0xEB ∷ 0xFE ∷ []) ≡ answer.Insn jump_to_itself 2
unfolding decoded answer_from rows parts_at coded_at lead_at addressing_at immediate_at insn_of
jump_decoded = refl

jump_is : (bytes : List ℕ) (insn : Insn) → Spells bytes insn → bytes ≡ 0xEB ∷ 0xFE ∷ [] → insn ≡ jump_to_itself
jump_is bytes insn s e =
    let back : decoded bytes ≡ answer.Insn insn (length bytes) = ap decoded (sym (append-nil bytes)) ∙ decoded_back bytes [] insn s in
    let same : answer.Insn insn (length bytes) ≡ answer.Insn jump_to_itself 2 = sym back ∙ ap decoded e ∙ jump_decoded in
    cc same

two_bytes : (text : List ℕ) (at b c : ℕ) → at + 2 ≡ length text → slice_index text at ≡ b → slice_index text (at + 1) ≡ c
    → take 2 (drop at text) ≡ b ∷ c ∷ []
two_bytes text at b c end first second = same_lists _ _ (grind (arith, places)) (λ k d lt. grind (arith, places))

module _ (image : Image) (h : IsAccepted image) where
  -- ---- the next instruction

  ends_there : (s : Swept) → last_at (map piece_of h.swept) ≡ s.at → (s.at + 2 ≡ length image.text) × (slice_index image.text s.at ≡ 0xEB)
      × (slice_index image.text (s.at + 1) ≡ 0xFE)
  ends_there s e =
      let is : ends_at image.text s.at ≡ true = ap (ends_at image.text) (sym e) ∙ h.ends in
      let a =
      and_parts (s.at + 2 == length image.text && slice_index image.text s.at == 0xEB) (slice_index image.text (s.at + 1) == 0xFE) is in
      let b = and_parts (s.at + 2 == length image.text) (slice_index image.text s.at == 0xEB) a.0 in (
        eqb-true (s.at + 2) (length image.text) b.0,
        eqb-true (slice_index image.text s.at) 0xEB b.1,
        eqb-true (slice_index image.text (s.at + 1)) 0xFE a.1,
      )

  pub is_last : (s : Swept) → Contains (swept_of image.text) s → s.at + s.len ≡ length image.text → IsLast image s
  is_last s c end =
      let last = last_there 0 image.text (swept_of image.text) (length image.text) [] (sweeps image h) s c end in
      let at = ends_there s (ap (λ (swept : List Swept). last_at (map piece_of swept)) (sym (swept_is image h)) ∙ last) in
      let close = at.0 in
      let two : s.len ≡ 2 = omega (arith, end, close) in
      let b = begun image h s c in
      let bytes : take s.len (drop s.at image.text) ≡ 0xEB ∷ 0xFE ∷ [] =
      ap (λ k. take k (drop s.at image.text)) two ∙ two_bytes image.text s.at 0xEB 0xFE at.0 at.1 at.2 in
      let jump = jump_is (take s.len (drop s.at image.text)) s.insn b.front bytes in
      let imm : s.insn.imm ≡ 4294967294 = ap (λ (i : Insn). i.imm) jump in
      let few = h.within.text.1 in
      record { end = end; jump = ap (λ (i : Insn). i.op) jump; itself = omega (arith, few, close, two, imm) }

  pub next_start : (s : Swept) → Contains (swept_of image.text) s → (is_start image.text (s.at + s.len) ≡ true) ⊎ IsLast image s
  next_start s c =
      elim (next_there 0 image.text (swept_of image.text) (length image.text) [] (sweeps image h) s c) [
        | inl end ↦ inr (is_last s c end)
        | inr more ↦ inl (subst (λ k. is_start image.text k ≡ true) more.2 (starts image.text more.0 more.1))
      ]

  pub next_outside : (s : Swept) → StandsOutside image s → IsWayIn image (s.at + s.len) ⊎ IsLast image s
  next_outside s out =
      elim (next_start s out.stands) [
        | inl start ↦ inl (record { start = start; first = behind })
        | inr last ↦ inr last
      ]
    where
      behind : (site : Site) → site_at image.sites (s.at + s.len) ≡ Some site → site.at ≡ s.at + s.len
      behind site e =
          let listed = site_listed (s.at + s.len) image.sites site e in
          let le = listed.1 in
          let lt = listed.2 in
          elim (outside_apart image h s out site listed.0) [
            | inl below ↦ omega (arith, le, below)
            | inr above ↦ absurd (omega (arith, lt, above))
          ]

  -- ---- branches

  way_in : (at : ℕ) → IsEntrance h.swept image.sites at → IsWayIn image at
  way_in at e = record {
    start = (start_exact image.text at).1
        (subst (λ (ks : List ℕ). Contains ks at) (ap (map (λ (s : Swept). s.at)) (sym (swept_is image h)) ∙ sym (starts_are image.text))
        e.start);
    first = λ site is.
        let listed = site_listed at image.sites site is in
        let le = listed.1 in
        let lt = listed.2 in
        not_behind site listed.0 le lt;
  } where
    not_behind : (site : Site) → Contains image.sites site → site.at ≤ at → at < site.at + site.total → site.at ≡ at
    not_behind site c le lt =
        elim (cases_lt site.at at) [
          | inl before ↦ absurd (let past = e.outside site c before in omega (arith, past, lt))
          | inr not ↦ omega (arith, le, not)
        ]

  pub branch_way : (s : Swept) → Contains (swept_of image.text) s → is_direct_branch s.insn.op ≡ true
      → IsWayIn image (target_of s.at s.len s.insn)
  branch_way s c branch =
      way_in (target_of s.at s.len s.insn) (h.targets s (subst (λ (swept : List Swept). Contains swept s) (swept_is image h) c) branch)

  pub here_way : (s : Swept) → StandsOutside image s → IsWayIn image s.at
  here_way s out = record { start = starts image.text s out.stands; first = λ site is. absurd (let none = sym is ∙ out.outside in cc) }

  pub site_way : (site : Site) → Contains image.sites site → IsWayIn image site.at
  site_way site c =
      let f = first_part image h site c in
      let most = (apart_bounds 0 image.sites (length image.text) (apart image h) site c).1 in
      let there = site_there image h site.at site c (omega arith) (omega (arith, most)) in
      record {
        start = subst (λ k. is_start image.text k ≡ true) (begins_there site f.0 f.2) (starts image.text f.0 f.1.stands);
        first = λ other is. let same : site ≡ other = cc (there, is) in ap (λ (t : Site). t.at) (sym same);
      }
    where
      begins_there : (t : Site) (s : Swept) → BeginsSite t s → s.at ≡ t.at
      begins_there t s (inl alone) = alone.place
      begins_there t s (inr pair) = pair.place

  pub entry_way : (0x10000000 ≤ image.entry) × IsWayIn image (image.entry - 0x10000000)
  entry_way = (h.within.entry.0, way_in (image.entry - 0x10000000) h.entry)

  -- ---- linear addresses

  pub start_below : (at : ℕ) → is_start image.text at ≡ true → at < length image.text
  start_below at e =
      let s = started image.text at e in
      let r = room image h s.0 s.1 in
      let some = r.0 in
      let ends = r.1 in
      let there = s.2 in
      omega (arith, some, ends, there)

  pub next_address : (s : Swept) → Contains (swept_of image.text) s → (linear s.at + s.len) % 2 ^ 32 ≡ linear (s.at + s.len)
  next_address s c =
      let few = h.within.text.1 in
      let ends = (room image h s c).1 in
      omega (arith, few, ends)

  pub branch_address : (s : Swept) → Contains (swept_of image.text) s → is_direct_branch s.insn.op ≡ true
      → (linear (s.at + s.len) + s.insn.imm) % 2 ^ 32 ≡ linear (target_of s.at s.len s.insn)
  branch_address s c branch =
      let few = h.within.text.1 in
      let lt = start_below (target_of s.at s.len s.insn) (branch_way s c branch).start in
      omega (arith, few, lt)
