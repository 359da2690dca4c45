-- The sweep from one instruction to the next.
use Rattle.std.proofs.Common.{◌≡◌, ℕ, ◌+◌, ◌<◌, ◌≤◌, List, [], ◌∷◌, ◌++◌, length, drop, refl, sym, ap, subst, ◌∙◌, append_assoc, arith}
use Rattle.std.specs.Prelude.{◌↔◌}
use Rattle.std.specs.List.{Contains}
use Rattle.std.proofs.lemmas.List.{length-drop, drop-drop, append-nil}
use Rattle.std.proofs.lemmas.List.Elements.{Contains-append_right}
use Rattle.ia32_types.specs.declared.insn.Insn.{Insn}
use Rattle.ia32_decode.specs.declared.answer.Decoded.{Decoded}
use Rattle.ia32_decode.specs.declared.answer.Decoded.TheVariants as answer
use Rattle.ia32_decode.specs.Answer.{Begins}
use Rattle.image_check.specs.Image.{Image}
use Rattle.image_check.specs.Sweep.{Swept}
use Rattle.image_check.specs.SweptTexts.{SweepsTo, Sweep}
use Rattle.image_check.specs.Standing.{swept_of}
use Rattle.image_check.proofs.Begun.{begun_has_byte}
use Rattle.pv_look.specs.declared.here.Here.{Here}
use Rattle.pv_look.specs.Here.{swept}
use Rattle.pv_look.specs.Sweeping.{Reached, GoesOn}

-- what decode says of an answer
abbrev pub Says : Decoded → List ℕ → Type 0
Says d bytes = (insn : Insn) (n : ℕ) → (d ≡ answer.Insn insn n) ↔ Begins bytes insn n

-- before the end of the text there is a first one
record First (text : List ℕ) (at : ℕ) (rest : List Swept) : Type 0 where
  s : Swept
  more : List Swept
  whole : rest ≡ s ∷ more
  place : s.at ≡ at
  begins : Begins (drop at text) s.insn s.len
  on : SweepsTo (at + s.len) (drop s.len (drop at text)) more (length text) []

first : (text : List ℕ) (at : ℕ) (rest : List Swept) → SweepsTo at (drop at text) rest (length text) [] → at < length text
    → First text at rest
first text at [] h lt = let end = h.0 in absurd (omega (arith, end))
first text at (s ∷ more) h lt = record { s = s; more = more; whole = refl; place = h.0; begins = h.1; on = h.2 }

-- what stands there is decoded
pub begins_there : (text : List ℕ) (at : ℕ) (done rest : List Swept) (d : Decoded) → Reached text at done rest → at < length text
    → Says d (drop at text)
    → (insn : Insn) × (n : ℕ) × (d ≡ answer.Insn insn n)
begins_there text at done rest d r lt says =
    let f = first text at rest r.on lt in
    (f.s.insn, f.s.len, (says f.s.insn f.s.len).1 f.begins)

same_parts : (a b l m : ℕ) (i j : Insn) → a ≡ b → l ≡ m → i ≡ j → (let s : Swept = record { at = a; len = l; insn = i } in s)
    ≡ record { at = b; len = m; insn = j }
same_parts a b l m i j p q r = cc

-- and it is the next of the sweep
pub goes_on : (text : List ℕ) (at : ℕ) (insn : Insn) (n : ℕ) → at < length text → Says (answer.Insn insn n) (drop at text)
    → (done rest : List Swept) → Reached text at done rest → GoesOn text (record { at = at; len = n; insn = insn }) done rest
goes_on text at insn n lt says done rest r =
    let f = first text at rest r.on lt in
    let same : answer.Insn insn n ≡ answer.Insn f.s.insn f.s.len = (says f.s.insn f.s.len).1 f.begins in
    let same_insn : f.s.insn ≡ insn = cc in
    let same_len : f.s.len ≡ n = cc in
    let is : f.s ≡ record { at = at; len = n; insn = insn } = same_parts f.s.at at f.s.len n f.s.insn insn f.place same_len same_insn in
    let front : rest ≡ swept (record { at = at; len = n; insn = insn }) ∷ f.more = f.whole ∙ ap (λ (t : Swept). t ∷ f.more) is in
    let on : SweepsTo (at + n) (drop n (drop at text)) f.more (length text) [] =
    subst (λ (k : ℕ). SweepsTo (at + k) (drop k (drop at text)) f.more (length text) []) same_len f.on in
    record {
      more = f.more;
      whole = front;
      on = record {
        whole = append_assoc done _ f.more ∙ (ap (λ (xs : List Swept). done ++ xs) (sym front) ∙ r.whole);
        on = subst (λ (bytes : List ℕ). SweepsTo (at + n) bytes f.more (length text) []) (drop-drop n at text) on;
      };
    }

-- it is one of the text
pub stands : (text : List ℕ) (h : Here) (at : ℕ) (done rest : List Swept) → Reached text at done rest → GoesOn text h done rest
    → Contains (swept_of text) (swept h)
stands text h at done rest r g =
    subst (λ (xs : List Swept). Contains xs (swept h)) (ap (λ (xs : List Swept). done ++ xs) (sym g.whole) ∙ r.whole)
    (Contains-append_right done (swept h ∷ g.more) (swept h) (0, omega arith, refl))

-- it comes to the front of the text before the first one, and to its end after the last
pub begun : (image : Image) → Sweep image.text (swept_of image.text) → Reached image.text 0 [] (swept_of image.text)
begun image sweeps = record { whole = refl; on = sweeps }

pub none_left : (text : List ℕ) (at : ℕ) (rest : List Swept) → SweepsTo at (drop at text) rest (length text) []
    → length text ≤ at → rest ≡ []
none_left text at [] h le = refl
none_left text at (s ∷ more) h le =
    let some = begun_has_byte (drop at text) s.insn s.len h.1 in
    let within = h.1.within in
    absurd (omega (arith, some, within, length-drop at text))

pub all_done : (text : List ℕ) (at : ℕ) (done rest : List Swept) → Reached text at done rest → length text ≤ at → done ≡ swept_of text
all_done text at done rest r le =
    sym (append-nil done) ∙ (ap (λ (xs : List Swept). done ++ xs) (sym (none_left text at rest r.on le)) ∙ r.whole)
