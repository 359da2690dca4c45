-- The sweep, an instruction after the other.
use Rattle.std.proofs.Common.{◌≡◌, ℕ, suc, ◌+◌, ◌-◌, ◌<◌, ◌≤◌, Bool, true, false, List, [], ◌∷◌, ◌++◌, length, drop, Some, None, Result, Ok, Err, refl, sym, ap, subst, ◌∙◌, append_assoc, arith}
use Rattle.std.specs.Prelude.{slice_get, slice_index_or, slice_set, replicate}
use Rattle.std.specs.Result.{result_unwrap_or}
use Rattle.std.proofs.lemmas.List.{append-nil, drop-drop, drop_all, length-append, length-drop}
use Rattle.ia32_decode.specs.Decoding.{decoded}
use Rattle.ia32_decode.specs.declared.answer.Decoded.{Decoded}
use Rattle.ia32_decode.specs.declared.answer.Decoded.TheVariants as answer
use Rattle.image_check.specs.declared.piece.Piece.{Piece}
use Rattle.image_check.specs.Refusals.{Refusal, Wrong}
use Rattle.elf_form.specs.Faults.{◌>>=◌}
use Rattle.image_check.specs.Conditions.{at_of, last_at}
use Rattle.image_check.specs.Sweep.{Swept, swept_at, sweep_from, sweep}
use Rattle.image_check.specs.Pieces.{piece_of, pieces_of, pieces_in, all_pieces, is_piece_start, stop_cause}
use Rattle.image_check.specs.Stops.{there_as, piece_there, AreBetween, AreLeft}
use Rattle.image_check.proofs.Left.{between_more}
use Rattle.image_check.proofs.Starts.{no_marks, mark_more}
use Rattle.image_check.proofs.SweepLaws.{step_is, ends}

-- more instructions after some
abbrev pub behind : List Piece → Result (List Piece) Refusal → Result (List Piece) Refusal
behind ps (Ok more) = Ok (ps ++ more)
behind ps (Err refusal) = Err refusal

-- So far these instructions stand in the text, before an offset.
pub record Goes (text : List ℕ) (ps : List Piece) (at : ℕ) : Type 0 where
  pub fuel : ℕ
  pub enough : length (drop at text) ≤ fuel
  pub whole : behind ps (pieces_of text (sweep_from fuel at (drop at text))) ≡ pieces_in text

behind_none : (r : Result (List Piece) Refusal) → behind [] r ≡ r
behind_none (Ok more) = refl
behind_none (Err refusal) = refl

behind_one : (ps : List Piece) (p : Piece) (r : Result (List Piece) Refusal) → behind ps (behind (p ∷ []) r) ≡ behind (ps ++ p ∷ []) r
behind_one ps p (Ok more) = ap (λ (qs : List Piece). Ok qs) (sym (append_assoc ps (p ∷ []) more))
behind_one ps p (Err refusal) = refl

one_more : (text : List ℕ) (s : Swept) (r : Result (List Swept) ℕ) → pieces_of text (r >>= λ swept. Ok (s ∷ swept)) ≡ behind
    (piece_of s ∷ []) (pieces_of text r)
one_more text s (Ok swept) = refl
one_more text s (Err at) = refl

sweep-err : (n at to : ℕ) (bytes : List ℕ) → 0 < length bytes → swept_at at (decoded bytes) ≡ Err to → sweep_from (suc n) at bytes ≡ Err to
unfolding sweep_from
sweep-err n at to [] some e = absurd (omega arith)
sweep-err n at to (b ∷ bytes) some e = rw e refl

-- what is swept at an offset
swept_some : (r : Result Swept ℕ) (p : Piece) → there_as r ≡ Some p → (s : Swept) × (r ≡ Ok s) × (piece_of s ≡ p)
swept_some (Ok s) p e = (s, refl, cc)
swept_some (Err at) p e = absurd cc

swept_none : (at : ℕ) (d : Decoded) → there_as (swept_at at d) ≡ None → swept_at at d ≡ Err at
swept_none at (answer.Insn insn n) e = absurd cc
swept_none at answer.Short e = refl
swept_none at answer.Outside e = refl

pub goes_from_none : (text : List ℕ) → Goes text [] 0
unfolding pieces_in sweep
goes_from_none text = record { fuel = length text; enough = omega arith; whole = behind_none _ }

pub goes_on : (text : List ℕ) (ps : List Piece) (at : ℕ) (p : Piece) → at < length text → 1 ≤ p.len → piece_there text at ≡ Some p
    → Goes text ps at → Goes text (ps ++ p ∷ []) (at + p.len)
goes_on text ps at p lt some e goes =
    let len = length-drop at text in
    let m = goes.fuel - 1 in
    let k : goes.fuel ≡ suc m = (let enough = goes.enough in omega (arith, enough, len)) in
    let is = swept_some (swept_at at (decoded (drop at text))) p e in
    let n : is.0.len ≡ p.len = ap (λ (q : Piece). q.len) is.2 in
    let next : drop is.0.len (drop at text) ≡ drop (at + p.len) text = drop-drop is.0.len at text ∙ ap (λ j. drop (at + j) text) n in
    let one = step_is m at (drop at text) is.0 (omega (arith, len)) is.1 in
    let rest : Result (List Swept) ℕ = sweep_from m (at + is.0.len) (drop is.0.len (drop at text)) in
    let moved : rest ≡ sweep_from m (at + p.len) (drop (at + p.len) text) =
    ap (λ j. sweep_from m (at + j) (drop is.0.len (drop at text))) n ∙ ap (sweep_from m (at + p.len)) next in
    record {
      fuel = m;
      enough = (let enough = goes.enough in omega (arith, enough, len, length-drop (at + p.len) text));
      whole =
          ap (λ r. behind (ps ++ p ∷ []) (pieces_of text r)) (sym moved)
          ∙ sym (behind_one ps p (pieces_of text rest))
          ∙ ap (λ q. behind ps (behind (q ∷ []) (pieces_of text rest))) (sym is.2)
          ∙ ap (behind ps) (sym (one_more text is.0 rest))
          ∙ ap (λ r. behind ps (pieces_of text r)) (sym one)
          ∙ ap (λ j. behind ps (pieces_of text (sweep_from j at (drop at text)))) (sym k)
          ∙ goes.whole;
    }

pub goes_wrong : (text : List ℕ) (ps : List Piece) (at : ℕ) → at < length text → piece_there text at ≡ None → Goes text ps at
    → pieces_in text ≡ Err (Wrong at (stop_cause (drop at text)))
goes_wrong text ps at lt e goes =
    let len = length-drop at text in
    let m = goes.fuel - 1 in
    let k : goes.fuel ≡ suc m = (let enough = goes.enough in omega (arith, enough, len)) in
    let one = sweep-err m at at (drop at text) (omega (arith, len)) (swept_none at (decoded (drop at text)) e) in
    sym goes.whole
    ∙ ap (λ j. behind ps (pieces_of text (sweep_from j at (drop at text)))) k
    ∙ ap (λ r. behind ps (pieces_of text r)) one

pub goes_to_end : (text : List ℕ) (ps : List Piece) (at : ℕ) → length text ≤ at → Goes text ps at → pieces_in text ≡ Ok ps
goes_to_end text ps at le goes =
    let none = drop_all at text le in
    sym goes.whole
    ∙ ap (λ bytes. behind ps (pieces_of text (sweep_from goes.fuel at bytes))) none
    ∙ ap (λ r. behind ps (pieces_of text r)) (ends goes.fuel at)
    ∙ ap (λ (qs : List Piece). Ok qs) (append-nil ps)

-- ---- with what the sweep keeps

-- The sweep has come to an offset: the instructions before it, the flags of their starts, and the offset of the last.
pub record Went (text : List ℕ) (starts : List Bool) (last at : ℕ) : Type 0 where
  pub ps : List Piece
  pub goes : Goes text ps at
  pub between : AreBetween text 0 ps at
  pub marked : (i : ℕ) → slice_index_or starts i false ≡ is_piece_start ps i
  pub last_is : last ≡ last_at ps

pub went_first : (text : List ℕ) (starts : List Bool) → starts ≡ replicate (length text) false → Went text starts 0 0
went_first text starts zeros = record {
  ps = [];
  goes = goes_from_none text;
  between = refl;
  marked = λ i. ap (λ (bs : List Bool). slice_index_or bs i false) zeros ∙ no_marks (length text) i;
  last_is = refl;
}

get_last : (ps : List Piece) (p : Piece) → slice_get (ps ++ p ∷ []) (length ps) ≡ Some p
get_last [] p = refl
get_last (q ∷ ps) p = get_last ps p

last_one : (ps : List Piece) (p : Piece) → last_at (ps ++ p ∷ []) ≡ p.at
last_one ps p =
    let k : length (ps ++ p ∷ []) - 1 ≡ length ps = omega (arith, length-append ps (p ∷ [])) in
    ap (λ i. at_of (slice_get (ps ++ p ∷ []) i)) k ∙ ap at_of (get_last ps p)

pub went_on : (text : List ℕ) (starts : List Bool) (last at : ℕ) (p : Piece) → at < length text → length starts ≡ length text → p.at ≡ at
    → 1 ≤ p.len → piece_there text at ≡ Some p → Went text starts last at → Went text (slice_set starts at true) p.at (at + p.len)
went_on text starts last at p lt len place some there went = record {
  ps = went.ps ++ p ∷ [];
  goes = goes_on text went.ps at p lt some there went.goes;
  between = between_more text 0 went.ps at p went.between there;
  marked = λ i. mark_more starts went.ps p at i place (omega (arith, lt, len)) (went.marked i);
  last_is = sym (last_one went.ps p);
}

pub went_wrong : (text : List ℕ) (starts : List Bool) (last at : ℕ) → at < length text → piece_there text at ≡ None
    → Went text starts last at → pieces_in text ≡ Err (Wrong at (stop_cause (drop at text)))
went_wrong text starts last at lt none went = goes_wrong text went.ps at lt none went.goes

-- The sweep has come to the end.
pub record IsThrough (text : List ℕ) (starts : List Bool) (last : ℕ) : Type 0 where
  pub pieces : pieces_in text ≡ Ok (all_pieces text)
  pub left : AreLeft text 0 (all_pieces text)
  pub marked : (i : ℕ) → slice_index_or starts i false ≡ is_piece_start (all_pieces text) i
  pub last_is : last ≡ last_at (all_pieces text)

all_are : (text : List ℕ) (ps : List Piece) → pieces_in text ≡ Ok ps → ps ≡ all_pieces text
unfolding all_pieces
all_are text ps e = ap (λ (r : Result (List Piece) Refusal). result_unwrap_or r []) (sym e)

pub is_through : (text : List ℕ) (starts : List Bool) (last at : ℕ) → length text ≤ at → at ≤ length text → Went text starts last at
    → IsThrough text starts last
is_through text starts last at le within went =
    let e = goes_to_end text went.ps at le went.goes in
    let all = all_are text went.ps e in
    let end : at ≡ length text = omega arith in
    record {
      pieces = e ∙ ap (λ (ps : List Piece). Ok ps) all;
      left = subst (AreLeft text 0) all (subst (AreBetween text 0 went.ps) end went.between);
      marked = λ i. went.marked i ∙ ap (λ (ps : List Piece). is_piece_start ps i) all;
      last_is = went.last_is ∙ ap last_at all;
    }
