-- What the rows' answers say of the bytes, and that the three answers exclude each other.
use Rattle.std.proofs.Common.{◌≡◌, ℕ, ◌+◌, ◌-◌, ◌<◌, ◌≤◌, List, [], ◌∷◌, ◌++◌, length, get_or, take, drop, Ok, Err, refl, sym, ap, subst, ◌∙◌, arith}
use Rattle.std.specs.Prelude.{◌↔◌}
use Rattle.std.specs.List.{Contains}
use Rattle.std.proofs.lemmas.List.{length-append, length-drop, take_at, take-append-drop, append-nil, get_or_default}
use Rattle.ia32_types.specs.declared.insn.Insn.{Insn}
use Rattle.ia32_rows.specs.declared.row.Miss.TheVariants.{Short, Outside}
use Rattle.ia32_rows.specs.declared.row.Row.{Row}
use Rattle.ia32_rows.specs.declared.row.Parts.{Parts}
use Rattle.ia32_rows.specs.Spelling.{parts_at, insn_of}
use Rattle.ia32_rows.specs.Spells.{AreBytes, Spells, IsCut}
use Rattle.ia32_rows.specs.Rows.{rows}
use Rattle.ia32_rows.proofs.Readers.{AreBytes-append}
use Rattle.ia32_rows.proofs.TableLaws.{row_reads, row_follows, one_row, one_insn, ok_not_outside}
use Rattle.ia32_decode.specs.declared.answer.Decoded.{Decoded}
use Rattle.ia32_decode.specs.declared.answer.Decoded.TheVariants as decoded
use Rattle.ia32_decode.specs.Answer.{Begins, IsOutside, Answers}

AreBytes-front : (front rest : List ℕ) → AreBytes (front ++ rest) → AreBytes front
AreBytes-front [] rest h = tt
AreBytes-front (b ∷ front) rest h = (h.0, AreBytes-front front rest h.1)

module _ (r : Row) (listed : Contains rows r) (bytes : List ℕ) where
  -- how many bytes the row leaves
  pub few : (p : Parts) (rest : List ℕ) → parts_at r.form bytes ≡ Ok (p, rest) → (length rest ≤ length bytes)
      × (length bytes ≤ length rest + 11)
  few p rest e =
      let t = (row_reads r listed).takes bytes p rest e in
      let n : length bytes ≡ length t.front + length rest = ap length t.parts ∙ length-append t.front rest in
      (omega (arith, n, t.few), omega (arith, n, t.few))

  pub begins : AreBytes bytes → (p : Parts) (rest : List ℕ) → parts_at r.form bytes ≡ Ok (p, rest)
      → Begins bytes (insn_of r p) (length bytes - length rest)
  begins fit p rest e =
      let t = (row_reads r listed).takes bytes p rest e in
      let n : length bytes ≡ length t.front + length rest = ap length t.parts ∙ length-append t.front rest in
      let k : length t.front ≡ length bytes - length rest = omega (arith, n) in
      let front : take (length bytes - length rest) bytes ≡ t.front =
      ap (take (length bytes - length rest)) t.parts ∙ take_at t.front rest (length bytes - length rest) k in
      record {
        within = omega arith;
        front = subst (λ bs. Spells bs (insn_of r p)) (sym front) (record {
          row = r;
          listed = listed;
          parts = p;
          by_row = record {
            fit = AreBytes-front t.front rest (subst AreBytes t.parts fit);
            read = ap (parts_at r.form) (sym (append-nil t.front)) ∙ t.again [];
            means = refl;
          };
        });
      }

  pub is_cut : AreBytes bytes → parts_at r.form bytes ≡ Err Short → IsCut bytes
  is_cut fit e =
      let c = (row_reads r listed).completes bytes e in
      record {
        next = c.next;
        more = c.more;
        insn = insn_of r c.value;
        whole = record {
          row = r;
          listed = listed;
          parts = c.value;
          by_row = record { fit = AreBytes-append bytes (c.next ∷ c.more) fit c.fit; read = c.whole; means = refl };
        };
      }

-- the row of a spelling that begins the bytes reads them
read_front : (bytes : List ℕ) (insn : Insn) (n : ℕ) (b : Begins bytes insn n)
    → parts_at b.front.row.form bytes ≡ Ok (b.front.parts, drop n bytes)
read_front bytes insn n b =
    ap (parts_at b.front.row.form) (sym (take-append-drop n bytes)) ∙ row_follows b.front.row b.front.listed (take n bytes) b.front.parts []
    b.front.by_row.read (drop n bytes)

no_next : (xs ys : List ℕ) (y : ℕ) → [] ≡ xs ++ y ∷ ys → ⊥
no_next [] ys y e = cc
no_next (x ∷ xs) ys y e = cc

-- at most one spelling begins the bytes
pub begins_once : (bytes : List ℕ) (i j : Insn) (n m : ℕ) → Begins bytes i n → Begins bytes j m → (i ≡ j) × (n ≡ m)
begins_once bytes i j n m a b =
    let p = a.front in
    let q = b.front in
    let s = one_row p.row q.row p.listed q.listed bytes p.parts q.parts (drop n bytes) (drop m bytes) (read_front bytes i n a)
    (read_front bytes j m b) in (
      p.by_row.means ∙ one_insn p.row q.row p.parts q.parts s.0 s.1 ∙ sym q.by_row.means,
      omega (arith, ap length s.2, length-drop n bytes, length-drop m bytes, a.within, b.within),
    )

-- bytes that begin with a spelling are no proper prefix of one
pub begins_not_cut : (bytes : List ℕ) (i : Insn) (n : ℕ) → Begins bytes i n → IsCut bytes → ⊥
begins_not_cut bytes i n a c =
    let p = a.front in
    let q = c.whole in
    let e = row_follows p.row p.listed bytes p.parts (drop n bytes) (read_front bytes i n a) (c.next ∷ c.more) in
    no_next (drop n bytes) c.more c.next
    (sym (one_row p.row q.row p.listed q.listed (bytes ++ c.next ∷ c.more) p.parts q.parts (drop n bytes ++ c.next ∷ c.more)
    [] e q.by_row.read).2)

-- each of the first rows meets a wrong byte
abbrev pub AllMiss : List Row → List ℕ → ℕ → Type 0
AllMiss table bytes count = (k : ℕ) → k < count → (d : Row) → parts_at (get_or table k d).form bytes ≡ Err Outside

pub listed_at : (table : List Row) → table ≡ rows → (i : ℕ) (d : Row) → i < length table → Contains rows (get_or table i d)
listed_at table e i d h =
    (i, omega (arith, h, ap length e), ap (λ t. get_or t i (get_or table i d)) (sym e) ∙ get_or_default table i (get_or table i d) d h)

pub misses_at : (table : List Row) (bytes : List ℕ) (i : ℕ) (d : Row) → i < length table
    → parts_at (get_or table i d).form bytes ≡ Err Outside → (e : Row) → parts_at (get_or table i e).form bytes ≡ Err Outside
misses_at table bytes i d h m e = ap (λ r. parts_at r.form bytes) (get_or_default table i e d h) ∙ m

pub all_miss : (table : List Row) (bytes : List ℕ) (count : ℕ) → table ≡ rows → length table ≤ count → AllMiss table bytes count
    → AllMiss rows bytes (length rows)
all_miss table bytes count e le h k lt d = ap (λ t. parts_at (get_or t k d).form bytes) (sym e) ∙ h k (omega (arith, ap length e)) d

listed_misses : (bytes : List ℕ) → AllMiss rows bytes (length rows) → (r : Row) → Contains rows r → parts_at r.form bytes ≡ Err Outside
listed_misses bytes h r c = subst (λ t. parts_at t.form bytes ≡ Err Outside) c.2 (h c.0 c.1 r)

pub is_outside : (bytes : List ℕ) → AllMiss rows bytes (length rows) → IsOutside bytes
is_outside bytes h = record {
  not_begun = λ insn n b. ok_not_outside (parts_at b.front.row.form bytes) b.front.parts (drop n bytes) (read_front bytes insn n b)
      (listed_misses bytes h b.front.row b.front.listed);
  not_cut = λ c.
      let q = c.whole in
      let stays = (row_reads q.row q.listed).stays bytes (c.next ∷ c.more) (listed_misses bytes h q.row q.listed) in
      ok_not_outside (parts_at q.row.form (bytes ++ c.next ∷ c.more)) q.parts [] q.by_row.read stays;
}

-- ---- each answer comes exactly where what it says holds

pub exactly_insn : (a : Decoded) (bytes : List ℕ) → Answers a bytes → (insn : Insn) (n : ℕ)
    → (a ≡ decoded.Insn insn n) ↔ Begins bytes insn n
exactly_insn (decoded.Insn i m) bytes h insn n = (
  λ e. let s : (i ≡ insn) × (m ≡ n) = (cc, cc) in subst (λ j. Begins bytes j n) s.0 (subst (λ k. Begins bytes i k) s.1 h),
  λ b. let s = begins_once bytes i insn m n h b in ap (λ j. decoded.Insn j m) s.0 ∙ ap (decoded.Insn insn) s.1,
)
exactly_insn decoded.Short bytes h insn n = (λ e. absurd cc, λ b. absurd (begins_not_cut bytes insn n b h))
exactly_insn decoded.Outside bytes h insn n = (λ e. absurd cc, λ b. absurd (h.not_begun insn n b))

pub exactly_short : (a : Decoded) (bytes : List ℕ) → Answers a bytes → (a ≡ decoded.Short) ↔ IsCut bytes
exactly_short (decoded.Insn i m) bytes h = (λ e. absurd cc, λ c. absurd (begins_not_cut bytes i m h c))
exactly_short decoded.Short bytes h = (λ e. h, λ c. refl)
exactly_short decoded.Outside bytes h = (λ e. absurd cc, λ c. absurd (h.not_cut c))

pub exactly_outside : (a : Decoded) (bytes : List ℕ) → Answers a bytes → (a ≡ decoded.Outside) ↔ IsOutside bytes
exactly_outside (decoded.Insn i m) bytes h = (λ e. absurd cc, λ o. absurd (o.not_begun i m h))
exactly_outside decoded.Short bytes h = (λ e. absurd cc, λ o. absurd (o.not_cut h))
exactly_outside decoded.Outside bytes h = (λ e. h, λ o. refl)

pub reads_back : (bytes more : List ℕ) (insn : Insn) → Spells bytes insn → Begins (bytes ++ more) insn (length bytes)
reads_back bytes more insn s = record {
  within = omega (arith, length-append bytes more);
  front = subst (λ bs. Spells bs insn) (sym (take_at bytes more (length bytes) refl)) s;
}
