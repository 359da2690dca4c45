-- An image passes the tests exactly where it is accepted.
use Rattle.std.proofs.Common.{◌≡◌, ℕ, zero, suc, ◌+◌, ◌<◌, ◌≤◌, Bool, true, false, not, ◌&&◌, ◌||◌, cond, min, List, [], ◌∷◌, length, map, nat_lt, Option, Some, None, Result, Ok, Err, refl, sym, ap, subst, ◌∙◌, inl, inr, arith}
use Rattle.std.specs.Prelude.{◌==◌, slice_index_or}
use Rattle.std.specs.Bool.{then_some}
use Rattle.std.specs.List.{list_any, Contains}
use Rattle.std.proofs.lemmas.Bool.{cases_lt, and_parts, cases_Bool, eqb-true, not-true, not-false, eq-eqb}
use Rattle.std.proofs.lemmas.Bool.Decides.{nat_tests}
use Rattle.std.proofs.lemmas.List.Folds.{Any-from_list_any, list_any-from_Any}
use Rattle.ia32_types.specs.Branches.{is_direct_branch}
use Rattle.ia32_types.specs.declared.site.SiteKind.{SiteKind}
use Rattle.ia32_types.specs.Site.{sensitive_kind}
use Rattle.ia32_rows.specs.Spells.{AreBytes}
use Rattle.elf_form.specs.ImageParts.{ImageParts}
use Rattle.elf_form.specs.Faults.{Fault, ◌or_lower◌}
use Rattle.elf_form.specs.Reading.{image_in}
use Rattle.elf_form.specs.Accepted.{ImageAs}
use Rattle.elf_form.proofs.Acceptance.{read_as, as_read}
use Rattle.elf_form.proofs.FormLaws.{then_none, lower_none}
use Rattle.sites.specs.declared.site.Site.{Site}
use Rattle.sites.specs.Kinds.{number, kind_numbered}
use Rattle.sites.specs.declared.limits.TheConstants.{TEXT_LIMIT}
use Rattle.sites.specs.SitesParts.{SitesParts}
use Rattle.sites.specs.Formats.{list_of, listed}
use Rattle.sites.proofs.Formats.{of_format, whole}
use Rattle.sites.proofs.Inverse.{kind_numbered-number}
use Rattle.image_check.specs.declared.piece.Role.TheVariants as role
use Rattle.image_check.specs.declared.piece.Piece.{Piece}
use Rattle.image_check.specs.Image.{Image}
use Rattle.image_check.specs.Sweep.{Swept, sweep}
use Rattle.image_check.specs.SweptTexts.{Sweep}
use Rattle.image_check.specs.Pieces.{is_nop, target_of, site_role, piece_of, pieces_of, pieces_in, is_piece_start}
use Rattle.image_check.specs.TextSites.{is_same, differ, Found, found_in}
use Rattle.image_check.specs.Accepts.{unless_lacking, sites_of, IsWithin, IsEntrance, IsAccepted, Accepts}
use Rattle.image_check.specs.Targets.{is_inside, is_entrance, leads_wrong, wrong_target}
use Rattle.image_check.specs.Refusals.{Refusal}
use Rattle.image_check.specs.Conditions.{text_place, init_place, text_size, init_size, entry_place, last_at, ends_at, text_end, site_wrong, entry_at, entry_start}
use Rattle.image_check.specs.Checking.{as_form, placed, annotated, entered, image_with, image_from, image_of}
use Rattle.image_check.proofs.FileLimits.{text_bytes}
use Rattle.image_check.proofs.Offsets.{any_at, swept_in}
use Rattle.image_check.proofs.Passed.{bind_ok, IsPlaced, has_passed, within_parts}
use Rattle.image_check.proofs.Starts.{contains_any, any_contains}
use Rattle.image_check.proofs.SweepLaws.{sweep_exact}

-- ---- two lists of sites

abbrev some_kind : SiteKind → Option SiteKind
some_kind k = Some k

same_kind : (j k : SiteKind) → number j ≡ number k → j ≡ k
same_kind j k e = let h : some_kind j ≡ some_kind k = sym (kind_numbered-number j) ∙ ap kind_numbered e ∙ kind_numbered-number k in cc

pub same_site : (s t : Site) → is_same s t ≡ true → s ≡ t
same_site s t e =
    let a = and_parts (s.at == t.at && number s.kind == number t.kind && s.len == t.len) (s.total == t.total) e in
    let b = and_parts (s.at == t.at && number s.kind == number t.kind) (s.len == t.len) a.0 in
    let d = and_parts (s.at == t.at) (number s.kind == number t.kind) b.0 in
    let at = eqb-true s.at t.at d.0 in
    let kind = same_kind s.kind t.kind (eqb-true (number s.kind) (number t.kind) d.1) in
    let len = eqb-true s.len t.len b.1 in
    let total = eqb-true s.total t.total a.1 in
    ap (λ n. record { at = n; kind = s.kind; len = s.len; total = s.total }) at
    ∙ ap (λ k. record { at = t.at; kind = k; len = s.len; total = s.total }) kind
    ∙ ap (λ n. record { at = t.at; kind = t.kind; len = n; total = s.total }) len
    ∙ ap (λ n. record { at = t.at; kind = t.kind; len = t.len; total = n }) total

pub is_itself : (s : Site) → is_same s s ≡ true
is_itself s =
    rw (eq-eqb s.at s.at refl, eq-eqb (number s.kind) (number s.kind) refl, eq-eqb s.len s.len refl, eq-eqb s.total s.total refl) refl

found_same : (b : Bool) (x : Option ℕ) (at : ℕ) → cond b x (Some at) ≡ None → (b ≡ true) × (x ≡ None)
found_same true x at e = (refl, e)
found_same false x at e = absurd cc

differ-none : (ss ts : List Site) → differ ss ts ≡ None → ss ≡ ts
unfolding differ
differ-none [] [] e = refl
differ-none [] (t ∷ ts) e = absurd cc
differ-none (s ∷ ss) [] e = absurd cc
differ-none (s ∷ ss) (t ∷ ts) e =
    let h = found_same (is_same s t) (differ ss ts) (min s.at t.at) e in
    let one = same_site s t h.0 in
    let rest = differ-none ss ts h.1 in
    ap (λ (u : Site). u ∷ ss) one ∙ ap (λ (us : List Site). t ∷ us) rest

differ-same : (ss : List Site) → differ ss ss ≡ None
unfolding differ
differ-same [] = refl
differ-same (s ∷ ss) = ap (λ b. cond b (differ ss ss) (Some (min s.at s.at))) (is_itself s) ∙ differ-same ss

all_found : (sites : List Site) (f : Found) → f.lacking ≡ None → sites ≡ f.sites → unless_lacking f.sites f.lacking ≡ Some sites
all_found sites f none same = ap (unless_lacking f.sites) none ∙ ap (λ (ss : List Site). Some ss) (sym same)

pub sites_there : (sites : List Site) (ps : List Piece) → site_wrong sites ps ≡ None → sites_of ps ≡ Some sites
sites_there sites ps e =
    let h = lower_none (found_in ps).lacking (differ sites (found_in ps).sites) e in
    all_found sites (found_in ps) h.0 (differ-none sites (found_in ps).sites h.1)

abbrev some_sites : List Site → Option (List Site)
some_sites ss = Some ss

pub were_found : (sites : List Site) (found : List Site) (lacking : Option ℕ) → unless_lacking found lacking ≡ some_sites sites
    → (lacking ≡ None) × (found ≡ sites)
were_found sites found None e = (refl, cc)
were_found sites found (Some at) e = absurd cc

pub sites_right : (sites : List Site) (ps : List Piece) → sites_of ps ≡ Some sites → site_wrong sites ps ≡ None
sites_right sites ps e =
    let h = were_found sites (found_in ps).sites (found_in ps).lacking e in
    ap (λ (a : Option ℕ). a or_lower differ sites (found_in ps).sites) h.0 ∙ ap (differ sites) h.1 ∙ differ-same sites

-- ---- where control comes in

inside_is : (at : ℕ) (s : Site) → s.at < at → at < s.at + s.total → is_inside at s ≡ true
inside_is at s lt gt = grind (arith, nat_tests)

is_inside_so : (at : ℕ) (s : Site) → is_inside at s ≡ true → (s.at < at) × (at < s.at + s.total)
is_inside_so at s e =
    let h = and_parts (nat_lt s.at at) (nat_lt at (s.at + s.total)) e in
    let lt = h.0 in
    let gt = h.1 in
    (grind (arith, nat_tests), grind (arith, nat_tests))

true_not_false : true ≡ false → ⊥
true_not_false e = cc

pub entrance_is : (swept : List Swept) (sites : List Site) (at : ℕ) → is_entrance (map piece_of swept) sites at ≡ true
    → IsEntrance swept sites at
entrance_is swept sites at e =
    let h = and_parts (is_piece_start (map piece_of swept) at) (not (list_any (is_inside at) sites)) e in
    let none = not-true (list_any (is_inside at) sites) h.1 in
    record {
      start = any_contains (map (λ (s : Swept). s.at) swept) at (sym (any_at swept at) ∙ h.0);
      outside = λ s there before.
          elim (cases_lt at (s.at + s.total)) [
            | inl lt ↦ absurd (true_not_false
                (sym (list_any-from_Any (is_inside at) sites (there.0, s, there.1, there.2, inside_is at s before lt)) ∙ none))
            | inr le ↦ le
          ];
    }

pub is_entrance_so : (swept : List Swept) (sites : List Site) (at : ℕ) → IsEntrance swept sites at
    → is_entrance (map piece_of swept) sites at ≡ true
is_entrance_so swept sites at h =
    let start : is_piece_start (map piece_of swept) at ≡ true =
    any_at swept at ∙ contains_any (map (λ (s : Swept). s.at) swept) at h.start in
    elim (cases_Bool (list_any (is_inside at) sites)) [
      | inl any ↦
          let one = Any-from_list_any (is_inside at) sites any in
          let in_it = is_inside_so at one.1 one.4 in
          let out = h.outside one.1 (one.0, one.2, one.3) in_it.0 in
          let within = in_it.1 in
          absurd (omega (arith, out, within))
      | inr none ↦ ap (λ b. b && not (list_any (is_inside at) sites)) start ∙ ap not none
    ]

-- ---- branches

pub branch_role : (s : Swept) → is_direct_branch s.insn.op ≡ true → (piece_of s).role ≡ role.Branch (target_of s.at s.len s.insn)
branch_role s e =
    ap (λ b. cond b (role.Branch (target_of s.at s.len s.insn)) (cond (is_nop s.insn.op) role.Nop (site_role (sensitive_kind s.insn)))) e

first_right : (b : Bool) (at : ℕ) (x : Option ℕ) → cond b (Some at) x ≡ None → (b ≡ false) × (x ≡ None)
first_right true at x e = absurd cc
first_right false at x e = (refl, e)

targets_right : (entrance : ℕ → Bool) (swept : List Swept) → wrong_target entrance (map piece_of swept) ≡ None → (k : ℕ) (s : Swept)
    → k < length swept → slice_index_or swept k s ≡ s → is_direct_branch s.insn.op ≡ true → entrance (target_of s.at s.len s.insn) ≡ true
unfolding wrong_target
targets_right entrance [] e k s lt is branch = absurd (omega arith)
targets_right entrance (t ∷ swept) e zero s lt is branch =
    let h = first_right (leads_wrong entrance (piece_of t).role) t.at (wrong_target entrance (map piece_of swept)) e in
    let same : leads_wrong entrance (piece_of s).role ≡ false = ap (λ (u : Swept). leads_wrong entrance (piece_of u).role) (sym is) ∙ h.0 in
    not-false (entrance (target_of s.at s.len s.insn)) (ap (leads_wrong entrance) (sym (branch_role s branch)) ∙ same)
targets_right entrance (t ∷ swept) e (suc k) s lt is branch =
    let h = first_right (leads_wrong entrance (piece_of t).role) t.at (wrong_target entrance (map piece_of swept)) e in
    targets_right entrance swept h.1 k s (omega arith) is branch

site_leads : (entrance : ℕ → Bool) (o : Option SiteKind) → leads_wrong entrance (site_role o) ≡ false
site_leads entrance (Some kind) = refl
site_leads entrance None = refl

pub other_leads : (entrance : ℕ → Bool) (b : Bool) (o : Option SiteKind) → leads_wrong entrance (cond b role.Nop (site_role o)) ≡ false
other_leads entrance true o = refl
other_leads entrance false o = site_leads entrance o

one_right : (entrance : ℕ → Bool) (s : Swept) → (is_direct_branch s.insn.op ≡ true → entrance (target_of s.at s.len s.insn) ≡ true)
    → leads_wrong entrance (piece_of s).role ≡ false
one_right entrance s h =
    elim (cases_Bool (is_direct_branch s.insn.op)) [
      | inl e ↦ ap (leads_wrong entrance) (branch_role s e) ∙ ap not (h e)
      | inr e ↦ ap (λ b. leads_wrong entrance
          (cond b (role.Branch (target_of s.at s.len s.insn)) (cond (is_nop s.insn.op) role.Nop (site_role (sensitive_kind s.insn))))) e
          ∙ other_leads entrance (is_nop s.insn.op) (sensitive_kind s.insn)
    ]

right_targets : (entrance : ℕ → Bool) (swept : List Swept)
    → ((s : Swept) → Contains swept s → is_direct_branch s.insn.op ≡ true → entrance (target_of s.at s.len s.insn) ≡ true)
    → wrong_target entrance (map piece_of swept) ≡ None
unfolding wrong_target
right_targets entrance [] h = refl
right_targets entrance (t ∷ swept) h =
    ap (λ b. cond b (Some t.at) (wrong_target entrance (map piece_of swept))) (one_right entrance t (h t (0, omega arith, refl)))
    ∙ right_targets entrance swept (λ s c branch. h s (suc c.0, omega (arith, c.1), c.2) branch)

-- ---- the image

end_is : (text : List ℕ) (ps : List Piece) → text_end text ps ≡ None → ends_at text (last_at ps) ≡ true
end_is text ps e = not-false (ends_at text (last_at ps)) (then_none _ (last_at ps) e)

accepted_with : (parts : ImageParts) (sites : List Site) (swept : List Swept) → IsPlaced parts → Sweep parts.text swept
    → text_end parts.text (map piece_of swept) ≡ None → site_wrong sites (map piece_of swept) ≡ None
    → wrong_target (is_entrance (map piece_of swept) sites) (map piece_of swept) ≡ None
    → entry_start parts (map piece_of swept) sites ≡ None → IsAccepted (image_with parts sites)
accepted_with parts sites swept placed is end same targets entry = record {
  within = within_parts parts sites placed;
  swept = swept;
  sweep = is;
  ends = end_is parts.text (map piece_of swept) end;
  sites = sites_there sites (map piece_of swept) same;
  targets = λ s c branch. entrance_is swept sites (target_of s.at s.len s.insn)
      (targets_right (is_entrance (map piece_of swept) sites) swept targets c.0 s c.1 c.2 branch);
  entry = entrance_is swept sites (entry_at parts)
      (not-false (is_entrance (map piece_of swept) sites (entry_at parts)) (then_none _ (entry_at parts) entry));
}

pub accepted_from : (parts : ImageParts) (image : Image) → AreBytes parts.text → image_from parts ≡ Ok image → IsAccepted image
accepted_from parts image fit e =
    let p = has_passed parts image e in
    let s = swept_in parts.text p.pieces p.swept in
    let is = (sweep_exact parts.text fit s.0).0 s.1 in
    let back = sym s.2 in
    subst IsAccepted p.image_is (accepted_with parts p.sites s.0 p.places is
    (subst (λ (ps : List Piece). text_end parts.text ps ≡ None) back p.ends)
    (subst (λ (ps : List Piece). site_wrong p.sites ps ≡ None) back p.same)
    (subst (λ (ps : List Piece). wrong_target (is_entrance ps p.sites) ps ≡ None) back p.targets)
    (subst (λ (ps : List Piece). entry_start parts ps p.sites ≡ None) back p.entry))

-- ---- the other way

right_end : (text : List ℕ) (ps : List Piece) → ends_at text (last_at ps) ≡ true → text_end text ps ≡ None
right_end text ps e = ap (λ b. then_some (not b) (last_at ps)) e

pub no_size : (n : ℕ) → 1 ≤ n → n ≤ TEXT_LIMIT → (n == 0 || nat_lt TEXT_LIMIT n) ≡ false
no_size n some few = grind (arith, nat_tests)

pub not_above : (n limit : ℕ) → n ≤ limit → nat_lt limit n ≡ false
not_above n limit le = grind (arith, nat_tests)

pub no_entry : (entry len : ℕ) → 0x10000000 ≤ entry → entry < 0x10000000 + len
    → (nat_lt entry 0x10000000 || not (nat_lt entry (0x10000000 + len))) ≡ false
no_entry entry len ge lt = grind (arith, nat_tests)

abbrev ok_image : Image → Result Image Refusal
ok_image image = Ok image

pub swept_gives : (text : List ℕ) (swept : List Swept) → sweep text ≡ Ok swept → pieces_in text ≡ Ok (map piece_of swept)
unfolding pieces_in
swept_gives text swept e = ap (pieces_of text) e

placed_right : (parts : ImageParts) (sites : List Site) → parts.text_at ≡ 0x10000000 → parts.init_at ≡ 0x11000000
    → IsWithin (image_with parts sites) → placed parts ≡ Ok tt
unfolding placed
placed_right parts sites text init w =
    rw (
      text_right parts text,
      init_right parts init,
      size_right parts sites w,
      few_right parts sites w,
      entry_right parts sites w,
    ) refl where
      text_right : (p : ImageParts) → p.text_at ≡ 0x10000000 → text_place p ≡ None
      text_right p e = ap (λ b. then_some (not b) 0) (eq-eqb p.text_at 0x10000000 e)

      init_right : (p : ImageParts) → p.init_at ≡ 0x11000000 → init_place p ≡ None
      init_right p e = ap (λ b. then_some (not b) 0) (eq-eqb p.init_at 0x11000000 e)

      size_right : (p : ImageParts) (ss : List Site) → IsWithin (image_with p ss) → text_size p ≡ None
      size_right p ss h = let some = h.text.0 in let few = h.text.1 in ap (λ b. then_some b 0) (no_size (length p.text) some few)

      few_right : (p : ImageParts) (ss : List Site) → IsWithin (image_with p ss) → init_size p ≡ None
      few_right p ss h = ap (λ b. then_some b 0) (not_above (length p.init + p.bss) 33554432 h.room)

      entry_right : (p : ImageParts) (ss : List Site) → IsWithin (image_with p ss) → entry_place p ≡ None
      entry_right p ss h = ap (λ b. then_some b 0) (no_entry p.entry (length p.text) h.entry.0 h.entry.1)

passes : (parts : ImageParts) (sites : List Site) (ps : List Piece) → placed parts ≡ Ok tt → pieces_in parts.text ≡ Ok ps
    → text_end parts.text ps ≡ None → listed parts.sites ≡ Ok sites → site_wrong sites ps ≡ None
    → wrong_target (is_entrance ps sites) ps ≡ None → entry_start parts ps sites ≡ None → image_from parts ≡ Ok (image_with parts sites)
unfolding image_from annotated entered
passes parts sites ps place swept end read same targets entry = rw (place, swept, end, read, same, targets, entry) refl

pub from_accepted : (parts : ImageParts) (sites : List Site) → AreBytes parts.text → parts.text_at ≡ 0x10000000 → parts.init_at ≡ 0x11000000
    → listed parts.sites ≡ Ok sites → IsAccepted (image_with parts sites) → image_from parts ≡ Ok (image_with parts sites)
from_accepted parts sites fit text init read h =
    let swept = (sweep_exact parts.text fit h.swept).1 h.sweep in
    passes parts sites (map piece_of h.swept)
    (placed_right parts sites text init h.within)
    (swept_gives parts.text h.swept swept)
    (right_end parts.text (map piece_of h.swept) h.ends)
    read
    (sites_right sites (map piece_of h.swept) h.sites)
    (right_targets (is_entrance (map piece_of h.swept) sites) h.swept
    (λ s c branch. is_entrance_so h.swept sites (target_of s.at s.len s.insn) (h.targets s c branch)))
    (ap (λ b. then_some (not b) (entry_at parts)) (is_entrance_so h.swept sites (entry_at parts) h.entry))

-- ---- the file

pub form_read : (r : Result ImageParts Fault) (parts : ImageParts) → as_form r ≡ Ok parts → r ≡ Ok parts
form_read (Ok p) parts e = cc
form_read (Err f) parts e = absurd cc

placed_text : (parts : ImageParts) → IsPlaced parts → (parts.text_at ≡ 0x10000000) × (parts.init_at ≡ 0x11000000)
placed_text parts p = (
  eqb-true parts.text_at 0x10000000 (not-false _ (then_none _ 0 p.text_at)),
  eqb-true parts.init_at 0x11000000 (not-false _ (then_none _ 0 p.init_at)),
)

abbrev ok_sites : List Site → ℕ → Result SitesParts ℕ
ok_sites sites format = Ok (of_format sites format)

accepts_from : (file : List ℕ) (parts : ImageParts) (image : Image) → AreBytes parts.text → ImageAs file parts → image_from parts ≡ Ok image
    → Accepts file image
accepts_from file parts image fit form e =
    let p = has_passed parts image e in
    let at = placed_text parts p.places in
    let sites : p.sites ≡ image.sites = ap (λ (i : Image). i.sites) p.image_is in
    record {
      parts = parts;
      form = form;
      text_at = at.0;
      init_at = at.1;
      annotated = whole parts.sites image.sites (subst (λ (ss : List Site). listed parts.sites ≡ Ok ss) sites p.read)
          ∙ ap (ok_sites image.sites) (ap (λ (i : Image). i.format) p.image_is);
      image_is = sym p.image_is ∙ ap (image_with parts) sites;
      accepted = accepted_from parts image fit e;
    }

pub image_accepts : (file : List ℕ) (image : Image) → AreBytes file → image_of file ≡ Ok image → Accepts file image
unfolding image_of
image_accepts file image fit e =
    let first = bind_ok ImageParts Image (as_form (image_in file)) image_from image e in
    let form = read_as file first.0 (form_read (image_in file) first.0 first.1) in
    accepts_from file first.0 image (text_bytes file first.0 form fit) form first.2

pub accepts_image : (file : List ℕ) (image : Image) → AreBytes file → Accepts file image → image_of file ≡ Ok image
unfolding image_of
accepts_image file image fit h =
    let read : image_in file ≡ Ok h.parts = as_read file h.parts h.form in
    let accepted = subst IsAccepted h.image_is h.accepted in
    let whole =
    from_accepted h.parts image.sites (text_bytes file h.parts h.form fit) h.text_at h.init_at (ap list_of h.annotated) accepted in
    rw read (whole ∙ ap ok_image (sym h.image_is))
