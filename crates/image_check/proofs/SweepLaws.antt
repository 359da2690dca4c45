-- The sweep as a function gives the instructions whose spellings are the text, or where they stop.
use Rattle.std.proofs.Common.{◌≡◌, ℕ, zero, suc, ◌+◌, ◌-◌, ◌<◌, ◌≤◌, List, [], ◌∷◌, length, drop, Result, Ok, Err, refl, sym, ap, subst, ◌∙◌, inl, inr, ◌⊎◌, arith}
use Rattle.std.specs.Prelude.{◌↔◌, ◌≢◌}
use Rattle.std.proofs.lemmas.List.{length-drop}
use Rattle.ia32_types.specs.declared.insn.Insn.{Insn}
use Rattle.ia32_rows.specs.Spells.{AreBytes}
use Rattle.ia32_decode.specs.declared.answer.Decoded.{Decoded}
use Rattle.ia32_decode.specs.declared.answer.Decoded.TheVariants as answer
use Rattle.ia32_decode.specs.Answer.{Begins, Answers}
use Rattle.ia32_decode.specs.Decoding.{decoded}
use Rattle.ia32_decode.proofs.Exact.{answered}
use Rattle.ia32_decode.proofs.Whole.{exactly_insn, begins_not_cut}
use Rattle.elf_form.specs.Faults.{◌>>=◌}
use Rattle.image_check.specs.Sweep.{Swept, swept_at, sweep_from, sweep}
use Rattle.image_check.specs.SweptTexts.{SweepsTo, Sweep, SweepStops}
use Rattle.image_check.proofs.Begun.{begun_has_byte}

pub AreBytes-drop : (n : ℕ) (bytes : List ℕ) → AreBytes bytes → AreBytes (drop n bytes)
AreBytes-drop zero bytes h = h
AreBytes-drop (suc n) [] h = tt
AreBytes-drop (suc n) (b ∷ bytes) h = AreBytes-drop n bytes h.1

bind_ok : (A B : Type 0) (r : Result A ℕ) (f : A → Result B ℕ) (y : B) → (r >>= f) ≡ Ok y → (x : A) × (r ≡ Ok x) × (f x ≡ Ok y)
bind_ok A B (Ok x) f y h = (x, refl, h)
bind_ok A B (Err d) f y h = absurd cc

bind_err : (A B : Type 0) (r : Result A ℕ) (f : A → Result B ℕ) (d : ℕ) → (r >>= f) ≡ Err d → (r ≡ Err d)
    ⊎ ((x : A) × (r ≡ Ok x) × (f x ≡ Err d))
bind_err A B (Ok x) f d h = inr (x, refl, h)
bind_err A B (Err c) f d h = inl cc

swept_ok : (at : ℕ) (d : Decoded) (s : Swept) → swept_at at d ≡ Ok s → (s.at ≡ at) × (d ≡ answer.Insn s.insn s.len)
swept_ok at (answer.Insn insn n) s e =
    let same : record { at = at; len = n; insn = insn } ≡ s = cc in
    (sym (ap (λ (t : Swept). t.at) same), ap (λ (t : Swept). answer.Insn t.insn t.len) same)
swept_ok at answer.Short s e = absurd cc
swept_ok at answer.Outside s e = absurd cc

none_swept : (at to : ℕ) (d : Decoded) (bytes : List ℕ) → Answers d bytes → swept_at at d ≡ Err to → (at ≡ to)
    × ((insn : Insn) (n : ℕ) → Begins bytes insn n → ⊥)
none_swept at to (answer.Insn insn n) bytes h e = absurd cc
none_swept at to answer.Short bytes h e = (cc, λ insn n b. begins_not_cut bytes insn n b h)
none_swept at to answer.Outside bytes h e = (cc, h.not_begun)

pub begun : (bytes : List ℕ) (insn : Insn) (n : ℕ) → AreBytes bytes → decoded bytes ≡ answer.Insn insn n → Begins bytes insn n
begun bytes insn n fit e = (exactly_insn (decoded bytes) bytes (answered bytes fit) insn n).0 e

answer_is : (bytes : List ℕ) (insn : Insn) (n : ℕ) → AreBytes bytes → Begins bytes insn n → decoded bytes ≡ answer.Insn insn n
answer_is bytes insn n fit b = (exactly_insn (decoded bytes) bytes (answered bytes fit) insn n).1 b

abbrev fine : List Swept → Result (List Swept) ℕ
fine swept = Ok swept

ended : (at : ℕ) (swept : List Swept) → fine [] ≡ fine swept → SweepsTo at [] swept (at + 0) []
ended at swept e =
    let none : [] ≡ swept = cc in
    subst (λ (ss : List Swept). SweepsTo at [] ss (at + 0) []) none (omega arith, refl)

pub from_ok : (n at : ℕ) (bytes : List ℕ) (swept : List Swept) → AreBytes bytes → length bytes ≤ n → sweep_from n at bytes ≡ Ok swept
    → SweepsTo at bytes swept (at + length bytes) []
unfolding sweep_from
from_ok zero at [] swept fit few e = ended at swept e
from_ok zero at (b ∷ bytes) swept fit few e = absurd (omega arith)
from_ok (suc n) at [] swept fit few e = ended at swept e
from_ok (suc n) at (b ∷ bytes) swept fit few e =
    let first = bind_ok Swept (List Swept) (swept_at at (decoded (b ∷ bytes))) _ swept e in
    let s = first.0 in
    let rest = bind_ok (List Swept) (List Swept) (sweep_from n (at + s.len) (drop s.len (b ∷ bytes))) _ swept first.2 in
    let is = swept_ok at (decoded (b ∷ bytes)) s first.1 in
    let here = begun (b ∷ bytes) s.insn s.len fit is.1 in
    let some = begun_has_byte (b ∷ bytes) s.insn s.len here in
    let within = here.within in
    let fewer = length-drop s.len (b ∷ bytes) in
    let more = from_ok n (at + s.len) (drop s.len (b ∷ bytes)) rest.0 (AreBytes-drop s.len (b ∷ bytes) fit) (omega (arith, fewer)) rest.1 in
    let whole : s ∷ rest.0 ≡ swept = cc rest.2 in
    let end : (at + s.len) + length (drop s.len (b ∷ bytes)) ≡ at + length (b ∷ bytes) = omega (arith, fewer) in
    subst (λ (ss : List Swept). SweepsTo at (b ∷ bytes) ss (at + length (b ∷ bytes)) []) whole
    (is.0, here, subst (λ to. SweepsTo (at + s.len) (drop s.len (b ∷ bytes)) rest.0 to []) end more)

not_empty : (b : ℕ) (bytes : List ℕ) → b ∷ bytes ≡ [] → ⊥
not_empty b bytes e = cc

-- where the sweep stops, from an offset on
pub record StopsFrom (at : ℕ) (bytes : List ℕ) (to : ℕ) : Type 0 where
  pub swept : List Swept
  pub rest : List ℕ
  pub reached : SweepsTo at bytes swept to rest
  pub some : rest ≢ []
  pub none : (insn : Insn) (n : ℕ) → Begins rest insn n → ⊥

one_first : (at len to : ℕ) (bytes : List ℕ) (s : Swept) → s.at ≡ at → Begins bytes s.insn s.len
    → StopsFrom (at + s.len) (drop s.len bytes) to → StopsFrom at bytes to
one_first at len to bytes s e here stops = record {
  swept = s ∷ stops.swept;
  rest = stops.rest;
  reached = (e, here, stops.reached);
  some = stops.some;
  none = stops.none;
}

pub from_err : (n at to : ℕ) (bytes : List ℕ) → AreBytes bytes → length bytes ≤ n → sweep_from n at bytes ≡ Err to → StopsFrom at bytes to
unfolding sweep_from
from_err zero at to [] fit few e = absurd cc
from_err zero at to (b ∷ bytes) fit few e = absurd (omega arith)
from_err (suc n) at to [] fit few e = absurd cc
from_err (suc n) at to (b ∷ bytes) fit few e =
    elim (bind_err Swept (List Swept) (swept_at at (decoded (b ∷ bytes))) _ to e) [
      | inl stops ↦
          let is = none_swept at to (decoded (b ∷ bytes)) (b ∷ bytes) (answered (b ∷ bytes) fit) stops in
          record { swept = []; rest = b ∷ bytes; reached = (is.0, refl); some = not_empty b bytes; none = is.1 }
      | inr goes ↦
          let s = goes.0 in
          let is = swept_ok at (decoded (b ∷ bytes)) s goes.1 in
          let here = begun (b ∷ bytes) s.insn s.len fit is.1 in
          let some = begun_has_byte (b ∷ bytes) s.insn s.len here in
          let within = here.within in
          elim (bind_err (List Swept) (List Swept) (sweep_from n (at + s.len) (drop s.len (b ∷ bytes))) _ to goes.2) [
            | inl later ↦ one_first at s.len to (b ∷ bytes) s is.0 here
                (from_err n (at + s.len) to (drop s.len (b ∷ bytes)) (AreBytes-drop s.len (b ∷ bytes) fit)
                (omega (arith, length-drop s.len (b ∷ bytes))) later)
            | inr done ↦ absurd (cc done.2)
          ]
    ]

-- ---- the other way

abbrev one : Swept → Result Swept ℕ
one s = Ok s

swept_is : (at : ℕ) (s : Swept) → s.at ≡ at → swept_at at (answer.Insn s.insn s.len) ≡ Ok s
swept_is at s e = ap (λ k. one (record { at = k; len = s.len; insn = s.insn })) (sym e)

pub with_front : List Swept → Result (List Swept) ℕ → Result (List Swept) ℕ
with_front [] r = r
with_front (s ∷ swept) r = with_front swept r >>= λ more. Ok (s ∷ more)

pub record Leads (n at : ℕ) (bytes : List ℕ) (swept : List Swept) (to : ℕ) (rest : List ℕ) : Type 0 where
  pub fuel : ℕ
  pub enough : length rest ≤ fuel
  pub fits : AreBytes rest
  pub is : sweep_from n at bytes ≡ with_front swept (sweep_from fuel to rest)

pub step_is : (n at : ℕ) (bytes : List ℕ) (s : Swept) → 0 < length bytes → swept_at at (decoded bytes) ≡ Ok s
    → sweep_from (suc n) at bytes ≡ (sweep_from n (at + s.len) (drop s.len bytes) >>= λ swept. Ok (s ∷ swept))
unfolding sweep_from
step_is n at [] s some e = absurd (omega arith)
step_is n at (b ∷ bytes) s some e = rw e refl

leads : (n at : ℕ) (bytes : List ℕ) (swept : List Swept) (to : ℕ) (rest : List ℕ) → AreBytes bytes → length bytes ≤ n
    → SweepsTo at bytes swept to rest → Leads n at bytes swept to rest
unfolding with_front
leads n at bytes [] to rest fit few h = record {
  fuel = n;
  enough = subst (λ (bs : List ℕ). length bs ≤ n) h.1 few;
  fits = subst AreBytes h.1 fit;
  is = ap (λ k. sweep_from n k bytes) h.0 ∙ ap (sweep_from n to) h.1;
}
leads n at bytes (s ∷ swept) to rest fit few h =
    let some = begun_has_byte bytes s.insn s.len h.1 in
    let within = h.1.within in
    let m = n - 1 in
    let k : n ≡ suc m = omega arith in
    let e : swept_at at (decoded bytes) ≡ Ok s = ap (swept_at at) (answer_is bytes s.insn s.len fit h.1) ∙ swept_is at s h.0 in
    let later = leads m (at + s.len) (drop s.len bytes) swept to rest (AreBytes-drop s.len bytes fit)
    (omega (arith, length-drop s.len bytes)) h.2 in
    record {
      fuel = later.fuel;
      enough = later.enough;
      fits = later.fits;
      is = ap (λ j. sweep_from j at bytes) k ∙ step_is m at bytes s (omega arith) e ∙ ap (λ r. r >>= λ more. Ok (s ∷ more)) later.is;
    }

front_ok : (swept : List Swept) → with_front swept (Ok []) ≡ Ok swept
unfolding with_front
front_ok [] = refl
front_ok (s ∷ swept) = ap (λ r. r >>= λ more. Ok (s ∷ more)) (front_ok swept)

front_err : (swept : List Swept) (at : ℕ) → with_front swept (Err at) ≡ Err at
unfolding with_front
front_err [] at = refl
front_err (s ∷ swept) at = ap (λ r. r >>= λ more. Ok (s ∷ more)) (front_err swept at)

pub ends : (n at : ℕ) → sweep_from n at [] ≡ Ok []
unfolding sweep_from
ends zero at = refl
ends (suc n) at = refl

not_swept : (at : ℕ) (d : Decoded) (bytes : List ℕ) → Answers d bytes → ((insn : Insn) (n : ℕ) → Begins bytes insn n → ⊥)
    → swept_at at d ≡ Err at
not_swept at (answer.Insn insn n) bytes h none = absurd (none insn n h)
not_swept at answer.Short bytes h none = refl
not_swept at answer.Outside bytes h none = refl

stops : (n at : ℕ) (bytes : List ℕ) → AreBytes bytes → length bytes ≤ n → bytes ≢ [] → ((insn : Insn) (k : ℕ) → Begins bytes insn k → ⊥)
    → sweep_from n at bytes ≡ Err at
unfolding sweep_from
stops n at [] fit few some none = absurd (some refl)
stops zero at (b ∷ bytes) fit few some none = absurd (omega arith)
stops (suc n) at (b ∷ bytes) fit few some none = rw (not_swept at (decoded (b ∷ bytes)) (b ∷ bytes) (answered (b ∷ bytes) fit) none) refl

-- ---- both

pub sweep_exact : (text : List ℕ) → AreBytes text → (swept : List Swept) → (sweep text ≡ Ok swept) ↔ Sweep text swept
unfolding sweep
sweep_exact text fit swept = (
  (λ e. subst (λ to. SweepsTo 0 text swept to []) (omega arith) (from_ok (length text) 0 text swept fit (omega arith) e)),
  (λ h. let l = leads (length text) 0 text swept (length text) [] fit (omega arith) h in
      l.is ∙ ap (with_front swept) (ends l.fuel (length text)) ∙ front_ok swept),
)

pub stop_exact : (text : List ℕ) → AreBytes text → (at : ℕ) → (sweep text ≡ Err at) ↔ SweepStops text at
unfolding sweep
stop_exact text fit at = (
  (λ e. let s = from_err (length text) 0 at text fit (omega arith) e in
      record { swept = s.swept; rest = s.rest; reached = s.reached; some = s.some; none = s.none }),
  (λ h. let l = leads (length text) 0 text h.swept at h.rest fit (omega arith) h.reached in
      l.is ∙ ap (with_front h.swept) (stops l.fuel at h.rest l.fits l.enough h.some h.none) ∙ front_err h.swept at),
)
