-- An instruction of a text that stands in a memory, fetched through its pages.
use Rattle.std.proofs.Common.{◌≡◌, ℕ, ◌+◌, ◌-◌, ◌*◌, ◌/◌, ◌%◌, ◌<◌, ◌≤◌, List, [], ◌∷◌, ◌++◌, false, ◌==◌, refl, sym, ap, ◌∙◌, inl, inr, append_assoc, arith}
use Rattle.std.proofs.lemmas.Bool.{cases_lt, false_from_ne_true, eqb-true}
use Rattle.guest_ram.specs.Bytes.{part}
use Rattle.guest_ram.proofs.Bytes.{part-append}
use Rattle.ia32_types.specs.declared.insn.Insn.{Insn}
use Rattle.ia32_decode.specs.declared.answer.Decoded.TheVariants as begins
use Rattle.ia32_decode.specs.Decoding.{decoded}
use Rattle.ia32_decode.specs.Front.{longest, front_len}
use Rattle.native_steps.proofs.Ways.{front_at, back_at, Way}

-- an instruction at an offset of a text that stands from 0x100000 on
module _ (text ram : List ℕ) (limit : ℕ) (same : (at n : ℕ) → at + n ≤ limit → part ram (0x100000 + at) n ≡ part text at n)
    (at len : ℕ) (insn : Insn) (some : 1 ≤ len) (few : len ≤ 11) (fits : at + len ≤ limit) (small : limit ≤ 16777216)
    (whole : (more : List ℕ) → decoded (part text at len ++ more) ≡ begins.Insn insn len)
    (cut : (n : ℕ) → n < len → decoded (part text at n) ≡ begins.Short)
  where
    abbrev eip : ℕ
    eip = 0x10000000 + at

    begun : (n : ℕ) → len ≤ n → (more : List ℕ) → decoded (part ram (0x100000 + at) n ++ more) ≡ begins.Insn insn len
    begun n le more =
        let sum : len + (n - len) ≡ n = omega (arith, le) in
        let two : part ram (0x100000 + at) n ≡ part text at len ++ part ram (0x100000 + at + len) (n - len) =
        ap (part ram (0x100000 + at)) (sym sum) ∙ sym (part-append ram (0x100000 + at) len (n - len))
        ∙ ap (λ (x : List ℕ). x ++ part ram (0x100000 + at + len) (n - len)) (same at len fits) in
        ap (λ (x : List ℕ). decoded (x ++ more)) two
        ∙ ap decoded (append_assoc (part text at len) (part ram (0x100000 + at + len) (n - len)) more)
        ∙ whole (part ram (0x100000 + at + len) (n - len) ++ more)

    alone : (x : List ℕ) → x ++ [] ≡ x
    alone [] = refl
    alone (y ∷ x) = ap (λ (z : List ℕ). y ∷ z) (alone x)

    -- in one page
    pub front_is : (frame : ℕ) → 4096 * frame + eip % 4096 ≡ 0x100000 + at → len ≤ front_len eip
        → decoded (front_at ram frame eip) ≡ begins.Insn insn len
    front_is frame place le =
        ap (λ (x : ℕ). decoded (part ram x (front_len eip))) place ∙ ap decoded (sym (alone (part ram (0x100000 + at) (front_len eip))))
        ∙ begun (front_len eip) le []

    -- in two
    front_cut : (frame : ℕ) → 4096 * frame + eip % 4096 ≡ 0x100000 + at → front_len eip < len
        → decoded (front_at ram frame eip) ≡ begins.Short
    front_cut frame place lt =
        ap (λ (x : ℕ). decoded (part ram x (front_len eip))) place ∙ ap decoded (same at (front_len eip) (omega (arith, lt, fits)))
        ∙ cut (front_len eip) lt

    across : (frame : ℕ) → 4096 * frame + eip % 4096 ≡ 0x100000 + at → front_len eip < len
        → decoded (front_at ram frame eip ++ back_at ram (frame + 1)) ≡ begins.Insn insn len
    across frame place lt =
        let behind : 4096 * (frame + 1) ≡ 0x100000 + at + front_len eip = omega (arith, place, lt, few) in
        ap (λ (x : ℕ). decoded (part ram x (front_len eip) ++ back_at ram (frame + 1))) place
        ∙ ap (λ (x : ℕ). decoded (part ram (0x100000 + at) (front_len eip) ++ part ram x longest)) behind
        ∙ ap decoded (part-append ram (0x100000 + at) (front_len eip) longest
        ∙ sym (alone (part ram (0x100000 + at) (front_len eip + longest))))
        ∙ begun (front_len eip + longest) (omega (arith, few)) []

    not_last : (eip / 4096 == 1048575) ≡ false
    not_last =
        false_from_ne_true (eip / 4096 == 1048575) (λ e. let is = eqb-true (eip / 4096) 1048575 e in omega (arith, is, fits, small, some))

    pub way_from : (P : ℕ → ℕ → Type 0) (frame : ℕ) → P (eip / 4096) frame → 4096 * frame + eip % 4096 ≡ 0x100000 + at
        → (front_len eip < len → P (eip / 4096 + 1) (frame + 1)) → Way P ram eip insn len
    way_from P frame page place more =
        elim (cases_lt (front_len eip) len) [
          | inl lt ↦ inr (record {
            frame = frame;
            page = page;
            cut = front_cut frame place lt;
            not_last = not_last;
            next = frame + 1;
            next_page = more lt;
            is = across frame place lt;
          })
          | inr le ↦ inl (record { frame = frame; page = page; is = front_is frame place le })
        ]

    -- what is fetched there is the instruction
    pub record IsThere (P : ℕ → ℕ → Type 0) (i : Insn) (l : ℕ) : Type 0 where
      pub insn_is : i ≡ insn
      pub len_is : l ≡ len
      pub frame : ℕ
      pub page : P (eip / 4096) frame
      pub next : front_len eip < len → (g : ℕ) × P (eip / 4096 + 1) g

    same_insn : (i : Insn) (l : ℕ) → begins.Insn i l ≡ begins.Insn insn len → (i ≡ insn) × (l ≡ len)
    same_insn i l e = (cc, cc)

    pub way_to : (P : ℕ → ℕ → Type 0) → ((frame : ℕ) → P (eip / 4096) frame → 4096 * frame + eip % 4096 ≡ 0x100000 + at)
        → ((frame next : ℕ) → front_len eip < len → P (eip / 4096) frame → P (eip / 4096 + 1) next → next ≡ frame + 1)
        → (i : Insn) (l : ℕ) → Way P ram eip i l → IsThere P i l
    way_to P place behind i l (inl w) =
        elim (cases_lt (front_len eip) len) [
          | inl lt ↦ absurd (let e : begins.Short ≡ begins.Insn i l = sym (front_cut w.frame (place w.frame w.page) lt) ∙ w.is in cc)
          | inr le ↦
              let p = same_insn i l (sym w.is ∙ front_is w.frame (place w.frame w.page) le) in
              record { insn_is = p.0; len_is = p.1; frame = w.frame; page = w.page; next = λ lt. absurd (omega (arith, lt, le)) }
        ]
    way_to P place behind i l (inr w) =
        elim (cases_lt (front_len eip) len) [
          | inl lt ↦
              let step : decoded (front_at ram w.frame eip ++ back_at ram w.next) ≡ begins.Insn insn len =
              ap (λ (x : ℕ). decoded (front_at ram w.frame eip ++ back_at ram x)) (behind w.frame w.next lt w.page w.next_page)
              ∙ across w.frame (place w.frame w.page) lt in
              let p = same_insn i l (sym w.is ∙ step) in
              record { insn_is = p.0; len_is = p.1; frame = w.frame; page = w.page; next = λ x. (w.next, w.next_page) }
          | inr le ↦ absurd (let e : begins.Short ≡ begins.Insn insn len = sym w.cut ∙ front_is w.frame (place w.frame w.page) le in cc)
        ]
