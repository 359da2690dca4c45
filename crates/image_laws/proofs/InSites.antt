-- The starts inside a site.
use Rattle.std.proofs.Common.{◌≡◌, ℕ, zero, suc, ◌+◌, ◌-◌, ◌<◌, ◌≤◌, true, Option, Some, length, sym, ap, subst, ◌∙◌, inl, inr, arith}
use Rattle.std.specs.List.{Contains}
use Rattle.ia32_types.specs.declared.insn.Op.{Op}
use Rattle.ia32_types.specs.declared.insn.Op.TheVariants as op
use Rattle.ia32_types.specs.declared.site.SiteKind.{SiteKind}
use Rattle.ia32_types.specs.declared.site.SiteKind.TheVariants.{Sti, StiHlt, Hlt}
use Rattle.ia32_types.specs.Site.{kind_of}
use Rattle.sites.specs.declared.site.Site.{Site}
use Rattle.image_check.specs.Image.{Image}
use Rattle.image_check.specs.Sweep.{Swept}
use Rattle.image_check.specs.Accepts.{IsAccepted}
use Rattle.image_check.specs.Layout.{PartOf, Alone, PairSti, PairHlt, Padding, BeginsSite}
use Rattle.image_check.specs.Places.{is_start}
use Rattle.image_check.specs.Standing.{site_at, StandsInside}
use Rattle.image_check.proofs.Laid.{apart_bounds}
use Rattle.image_check.proofs.Layouts.{apart, started}
use Rattle.image_laws.proofs.Around.{site_there, room, first_part, held}
use Rattle.image_laws.proofs.WaysOn.{next_start}

abbrev some_kind : SiteKind → Option SiteKind
some_kind kind = Some kind

never_pair : (o : Op) → kind_of o ≡ some_kind StiHlt → ⊥
never_pair op.Cli e = cc
never_pair op.Sti e = cc
never_pair op.Hlt e = cc
never_pair _ e = cc

jump_kind : (o : Op) (kind : SiteKind) → o ≡ op.Jmp → kind_of o ≡ some_kind kind → ⊥
jump_kind o kind is e = let none : kind_of op.Jmp ≡ some_kind kind = ap kind_of (sym is) ∙ e in cc

jump_nop : (o : Op) → o ≡ op.Jmp → o ≡ op.Nop → ⊥
jump_nop o is e = let same : op.Jmp ≡ op.Nop = sym is ∙ e in cc

no_jump : (site : Site) (s : Swept) → PartOf site s → s.insn.op ≡ op.Jmp → ⊥
no_jump site s (Alone a) is = jump_kind s.insn.op site.kind is a.kind
no_jump site s (PairSti a) is = jump_kind s.insn.op Sti is a.kind
no_jump site s (PairHlt a) is = jump_kind s.insn.op Hlt is a.kind
no_jump site s (Padding a) is = jump_nop s.insn.op is a.nop

module _ (image : Image) (h : IsAccepted image) where
  -- after each part of a site an instruction begins
  part_next : (site : Site) (s : Swept) → StandsInside image site s → is_start image.text (s.at + s.len) ≡ true
  part_next site s is =
      elim (next_start image h s is.stands) [
        | inl start ↦ start
        | inr last ↦ absurd (no_jump site s (held image h site s is).0 last.jump)
      ]

  -- what stands at a start inside a site
  part_there : (site : Site) → Contains image.sites site → (k : ℕ) → site.at ≤ k → k < site.at + site.total → is_start image.text k ≡ true
      → (s : Swept) × StandsInside image site s × (s.at ≡ k)
  part_there site c k le lt start =
      let s = started image.text k start in
      (s.0, record { stands = s.1; inside = ap (site_at image.sites) s.2 ∙ site_there image h k site c le lt }, s.2)

  module _ (site : Site) (c : Contains image.sites site) where
    most : 5 ≤ site.total
    most = (apart_bounds 0 image.sites (length image.text) (apart image h) site c).1

    -- after STI
    sti_next : (s : Swept) → StandsInside image site s → BeginsSite site s → site.kind ≡ StiHlt → is_start image.text (site.at + 1) ≡ true
    sti_next s is (inl alone) pair = absurd (never_pair s.insn.op (alone.kind ∙ ap some_kind pair))
    sti_next s is (inr sti) pair =
        let place = sti.place in
        let one = sti.len in
        let end : s.at + s.len ≡ site.at + 1 = omega (arith, place, one) in
        subst (λ k. is_start image.text k ≡ true) end (part_next site s is)

    pub hlt_start : site.kind ≡ StiHlt → is_start image.text (site.at + 1) ≡ true
    hlt_start pair = let f = first_part image h site c in sti_next f.0 f.1 f.2 pair

    -- after HLT
    hlt_next : (s : Swept) → StandsInside image site s → s.at ≡ site.at + 1 → site.len ≡ 2 → PartOf site s
        → is_start image.text (site.at + site.len) ≡ true
    hlt_next s is at two (Alone a) = let place = a.place in absurd (omega (arith, place, at))
    hlt_next s is at two (PairSti a) = let place = a.place in absurd (omega (arith, place, at))
    hlt_next s is at two (Padding a) = let behind = a.behind in absurd (omega (arith, behind, at, two))
    hlt_next s is at two (PairHlt a) =
        let one = a.len in
        let end : s.at + s.len ≡ site.at + site.len = omega (arith, at, one, two) in
        subst (λ k. is_start image.text k ≡ true) end (part_next site s is)

    -- after the sensitive part
    sensitive_next : (s : Swept) → StandsInside image site s → BeginsSite site s → is_start image.text (site.at + site.len) ≡ true
    sensitive_next s is (inl alone) =
        let place = alone.place in
        let long = alone.len in
        let end : s.at + s.len ≡ site.at + site.len = omega (arith, place, long) in
        subst (λ k. is_start image.text k ≡ true) end (part_next site s is)
    sensitive_next s is (inr sti) =
        let t = part_there site c (site.at + 1) (omega arith) (omega (arith, most)) (sti_next s is (inr sti) sti.pair.0) in
        hlt_next t.0 t.1 t.2 sti.pair.1 (held image h site t.0 t.1).0

    -- after a NOP
    nop_next : (s : Swept) → StandsInside image site s → site.at + site.len ≤ s.at → PartOf site s → is_start image.text (s.at + 1) ≡ true
    nop_next s is le (Alone a) =
        let place = a.place in
        let long = a.len in
        let some = (room image h s is.stands).0 in
        absurd (omega (arith, place, long, some, le))
    nop_next s is le (PairSti a) =
        let place = a.place in
        let two = a.pair.1 in
        absurd (omega (arith, place, two, le))
    nop_next s is le (PairHlt a) =
        let place = a.place in
        let two = a.pair.1 in
        absurd (omega (arith, place, two, le))
    nop_next s is le (Padding a) = subst (λ n. is_start image.text (s.at + n) ≡ true) a.len (part_next site s is)

    nop_from : (j : ℕ) → site.len + j < site.total → is_start image.text (site.at + site.len + j) ≡ true
    nop_from zero lt =
        let f = first_part image h site c in
        let same : site.at + site.len ≡ site.at + site.len + 0 = omega arith in
        subst (λ k. is_start image.text k ≡ true) same (sensitive_next f.0 f.1 f.2)
    nop_from (suc j) lt =
        let t = part_there site c (site.at + site.len + j) (omega arith) (omega arith) (nop_from j (omega arith)) in
        let at = t.2 in
        let same : t.0.at + 1 ≡ site.at + site.len + suc j = omega (arith, at) in
        subst (λ k. is_start image.text k ≡ true) same (nop_next t.0 t.1 (omega (arith, at)) (held image h site t.0 t.1).0)

    pub nop_start : (k : ℕ) → site.at + site.len ≤ k → k < site.at + site.total → is_start image.text k ≡ true
    nop_start k le lt =
        let same : site.at + site.len + (k - (site.at + site.len)) ≡ k = omega arith in
        subst (λ n. is_start image.text n ≡ true) same (nop_from (k - (site.at + site.len)) (omega arith))
