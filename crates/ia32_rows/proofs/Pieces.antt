-- Reading from left to right finds the pieces, and each arrangement of pieces is read.
use Rattle.std.proofs.Common.{◌≡◌, ℕ, Bool, true, List, [], ◌∷◌, ◌++◌, Ok, refl, sym, ap, subst, ◌∙◌}
use Rattle.std.specs.Prelude.{◌↔◌}
use Rattle.std.specs.List.{Contains}
use Rattle.std.proofs.lemmas.List.{append-nil}
use Rattle.ia32_rows.specs.declared.row.Form.{Form}
use Rattle.ia32_rows.specs.declared.row.Row.{Row}
use Rattle.ia32_rows.specs.declared.row.Parts.{Parts}
use Rattle.ia32_rows.specs.Reader.{Reader, and_then, ◌>>=◌, success, byte_where}
use Rattle.ia32_rows.specs.Fields.{addressing_at, immediate_at}
use Rattle.ia32_rows.specs.Spelling.{has_code, lead_at, coded_at, parts_at}
use Rattle.ia32_rows.specs.Pieces.{IsLaidOut}
use Rattle.ia32_rows.specs.Rows.{rows}
use Rattle.ia32_rows.proofs.Readers.{Takes, Reads, and_then_ok, test_met, same_read}
use Rattle.ia32_rows.proofs.Fields.{addressing_works, addressing_reads, immediate_reads, lead_reads}
use Rattle.ia32_rows.proofs.TableLaws.{row_works}

-- what is read to its end is read in front of anything
pub whole_then : {A : Type 0} (n : ℕ) (p : Reader A) → Reads n p → (front more : List ℕ) (x : A) → p front ≡ Ok (x, [])
    → p (front ++ more) ≡ Ok (x, more)
whole_then n p r front more x e =
    let t = r.takes front x [] e in
    ap p (ap (λ bs. bs ++ more) (t.parts ∙ append-nil t.front)) ∙ t.again more

pub whole : {A : Type 0} (n : ℕ) (p : Reader A) (bytes : List ℕ) (x : A) (rest : List ℕ) (t : Takes n p bytes x rest)
    → p t.front ≡ Ok (x, [])
whole n p bytes x rest t = ap p (sym (append-nil t.front)) ∙ t.again []

pub byte_is : (test : ℕ → Bool) (bytes : List ℕ) (b : ℕ) (rest : List ℕ) → byte_where test bytes ≡ Ok (b, rest)
    → (bytes ≡ b ∷ rest) × (test b ≡ true)
byte_is test [] b rest e = absurd cc
byte_is test (c ∷ bytes) b rest e = let s = test_met (test c) c b bytes rest e in (cc (s.1, s.2), ap test (sym s.1) ∙ s.0)

module _ (form : Form) (works : addressing_works form.addressing ≡ true) (p : Parts) (bytes : List ℕ) where
  to_pieces : parts_at form bytes ≡ Ok (p, []) → IsLaidOut form p bytes
  unfolding parts_at coded_at
  to_pieces e =
      let r = and_then_ok (lead_at form.lead bytes) (λ _. coded_at form) p [] e in
      let l = (lead_reads form.lead).takes bytes r.0 r.1 r.2 in
      let q = and_then_ok (byte_where (has_code form) r.1)
      (λ code. addressing_at form.addressing >>= λ at. immediate_at form.immediate >>= λ imm. success
      (record { code = code; reg = at.reg; rm = at.rm; disp_len = at.disp_len; imm = imm.0; sel = imm.1 })) p [] r.3 in
      let b = byte_is (has_code form) r.1 q.0 q.1 q.2 in
      let s = and_then_ok (addressing_at form.addressing q.1)
      (λ at. immediate_at form.immediate >>= λ imm. success
      (record { code = q.0; reg = at.reg; rm = at.rm; disp_len = at.disp_len; imm = imm.0; sel = imm.1 })) p [] q.3 in
      let a = (addressing_reads form.addressing works).takes q.1 s.0 s.1 s.2 in
      let t = and_then_ok (immediate_at form.immediate s.1)
      (λ imm. success (record { code = q.0; reg = s.0.reg; rm = s.0.rm; disp_len = s.0.disp_len; imm = imm.0; sel = imm.1 })) p [] s.3 in
      let i = (immediate_reads form.immediate).takes s.1 t.0 t.1 t.2 in
      let u =
      same_read (record { code = q.0; reg = s.0.reg; rm = s.0.rm; disp_len = s.0.disp_len; imm = t.0.0; sel = t.0.1 }) p t.1 [] t.3 in
      let rest : s.1 ≡ i.front = i.parts ∙ ap (λ bs. i.front ++ bs) u.1 ∙ append-nil i.front in
      subst (λ x. IsLaidOut form x bytes) u.0 (record {
        lead = l.front;
        address = a.front;
        immediate = i.front;
        together = l.parts ∙ ap (λ bs. l.front ++ bs) (b.0 ∙ ap (λ bs. q.0 ∷ bs) (a.parts ∙ ap (λ bs. a.front ++ bs) rest));
        lead_byte = r.0;
        lead_is = whole _ (lead_at form.lead) bytes r.0 r.1 l;
        code_is = b.1;
        address_is = whole _ (addressing_at form.addressing) q.1 s.0 s.1 a;
        immediate_is = whole _ (immediate_at form.immediate) s.1 t.0 t.1 i;
      })

  from_pieces : IsLaidOut form p bytes → parts_at form bytes ≡ Ok (p, [])
  unfolding parts_at coded_at
  from_pieces o =
      ap (λ bs. and_then (lead_at form.lead bs) (λ _. coded_at form)) o.together
      ∙ ap (λ r. and_then r (λ _. coded_at form))
      (whole_then _ (lead_at form.lead) (lead_reads form.lead) o.lead (p.code ∷ (o.address ++ o.immediate)) o.lead_byte o.lead_is)
      ∙ rw (
        o.code_is,
        whole_then _ (addressing_at form.addressing) (addressing_reads form.addressing works) o.address o.immediate _
            o.address_is,
        o.immediate_is,
      ) refl

pub in_pieces : (row : Row) → Contains rows row → (p : Parts) (bytes : List ℕ)
    → (parts_at row.form bytes ≡ Ok (p, [])) ↔ IsLaidOut row.form p bytes
in_pieces row c p bytes = (to_pieces row.form (row_works row c) p bytes, from_pieces row.form (row_works row c) p bytes)
